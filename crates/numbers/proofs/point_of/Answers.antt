use mathlib.Core.Path.{◌≡◌, ◌∙◌}
use mathlib.Core.Bool.{false}
use native.Mathlib.Omega.{arith}
use Rattle.characters.specs.Says.{says}
use Rattle.numbers.specs.Digits.{only_digits}
use Rattle.numbers.proofs.Forms.{only_none, only-over, point-is, point-three, point-no}
use Rattle.numbers.proofs.point_of.Goals.{then-d-eq0-via-then-d-eq0, then-d-eq0-via-else-d-eq0+then-not-is_over}
use Rattle.numbers.proofs.point_of.Goals as goal

pub returns-then-d-eq0-clause-parts : goal.returns-then-d-eq0-clause-parts
returns-then-d-eq0-clause-parts c =
    let o : only_digits 3 (says c.args.s.now) ≡ false =
    elim c.then-d-eq0.branch [
      | then-d-eq0-via-then-d-eq0 w ↦ only_none 3 (says c.args.s.now) c.digits_of-d.ensures.count w.if-d-eq0.true
      | then-d-eq0-via-else-d-eq0+then-not-is_over w ↦ only-over 3 (says c.args.s.now) c.digits_of-d.ensures.count w.if-d-eq0.false w.rest.ensures.list c.digits_of-d.ensures.left w.is_over.ensures ∙ w.if-not-is_over.true
    ] in
    point-no (says c.args.s.now) c.args.whole o

pub returns-in-1-clause-parts : goal.returns-in-1-clause-parts
returns-in-1-clause-parts c = point-is (says c.args.s.now) c.args.whole c.digits_of-d.ensures.count c.digits_of-d.ensures.value (only-over 3 (says c.args.s.now) c.digits_of-d.ensures.count c.if-d-eq0.false c.rest.ensures.list c.digits_of-d.ensures.left c.is_over.ensures ∙ c.if-not-is_over.false) c.in-1.is

pub returns-in-2-clause-parts : goal.returns-in-2-clause-parts
returns-in-2-clause-parts c = point-is (says c.args.s.now) c.args.whole c.digits_of-d.ensures.count c.digits_of-d.ensures.value (only-over 3 (says c.args.s.now) c.digits_of-d.ensures.count c.if-d-eq0.false c.rest.ensures.list c.digits_of-d.ensures.left c.is_over.ensures ∙ c.if-not-is_over.false) c.in-2.is

pub returns-in_default-clause-parts : goal.returns-in_default-clause-parts
returns-in_default-clause-parts c = point-three (says c.args.s.now) c.args.whole c.digits_of-d.ensures.count c.digits_of-d.ensures.value (only-over 3 (says c.args.s.now) c.digits_of-d.ensures.count c.if-d-eq0.false c.rest.ensures.list c.digits_of-d.ensures.left c.is_over.ensures ∙ c.if-not-is_over.false) (omega arith)
