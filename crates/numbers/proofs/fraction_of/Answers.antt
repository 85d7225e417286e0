use mathlib.Core.Path.{◌∙◌}
use Rattle.numbers.proofs.Forms.{first-over, first_char, fraction-over, fraction-point, fraction-other}
use native.Mathlib.Omega.{arith}
use borrow.Author.Rules.{rules}
use Rattle.numbers.proofs.fraction_of.Goals as goal

pub returns-in-None : goal.returns-in-None
returns-in-None c = record { parts = fraction-over _ (first-over c.args.s.now c.said_at.ensures.said c.in-None.is); size = omega arith }

pub returns-then-c-eq46 : goal.returns-then-c-eq46
returns-then-c-eq46 c = let s = rw c.in-Some.is at c.said_at.ensures.size in
    let e = first_char c.args.s.now c.said_at.ensures.said c.in-Some.is s.0 in
    record { parts = c.point_of.ensures.parts ∙ rw c.rest.ensures.list (fraction-point _ e c.if-c-eq46.true); size = c.point_of.ensures.size }

pub returns-else-c-eq46 : goal.returns-else-c-eq46
returns-else-c-eq46 c = let s = rw c.in-Some.is at c.said_at.ensures.size in
    let e = first_char c.args.s.now c.said_at.ensures.said c.in-Some.is s.0 in
    record { parts = fraction-other _ e c.if-c-eq46.false; size = search rules }
