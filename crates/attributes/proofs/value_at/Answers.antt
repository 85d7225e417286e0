use mathlib.Core.Path.{refl, ◌∙◌}
use native.Mathlib.Omega.{arith}
use Rattle.slices.proofs.Walks.{walked_start, walked-go, walked_stop, walked_end}
use native.Mathlib.Nat.{le_of_lt}
use Rattle.attributes.proofs.Values.{plain_here, longer-here}
use borrow.Author.Tests.{eq-eqb, ne_eqb}
use Rattle.attributes.specs.Attribute.{value, value_over, referred_next}
use Rattle.attributes.proofs.value_at.Goals as goal

pub returns-then-b-q : goal.returns-then-b-q
unfolding value
returns-then-b-q c = record { value = walked_stop c.loop-i.invariant c.loop-i-test.true refl (plain_here c.args.q c.loop-i.i c.args.s.now c.loop-i.i c.loop-i-test.true c.is_plain.ensures c.if-is_plain.true ∙ simp (eq-eqb _ _ c.if-b-q.true)); size = le_of_lt c.loop-i-test.true }

pub loop-i-preserved-then-is_plain : goal.loop-i-preserved-then-is_plain
loop-i-preserved-then-is_plain c = walked-go c.loop-i.invariant c.loop-i-test.true refl (plain_here c.args.q c.loop-i.i c.args.s.now c.loop-i.i c.loop-i-test.true c.is_plain.ensures c.if-is_plain.true ∙ simp (ne_eqb _ _ c.if-b-q.false)) (omega arith)

pub returns-in_default : goal.returns-in_default
unfolding value referred_next
returns-in_default c = record { value = walked_stop c.loop-i.invariant c.loop-i-test.true refl (longer-here c.args.q c.loop-i.i c.args.s.now c.loop-i.i c.loop-i-test.true c.is_plain.ensures c.requires c.if-is_plain.false c.longer_at.ensures.char ∙ simp c.in_default.is); size = omega arith }

pub loop-i-preserved : goal.loop-i-preserved
unfolding referred_next
loop-i-preserved c = walked-go c.loop-i.invariant c.loop-i-test.true refl (longer-here c.args.q c.loop-i.i c.args.s.now c.loop-i.i c.loop-i-test.true c.is_plain.ensures c.requires c.if-is_plain.false c.longer_at.ensures.char ∙ simp c.in-Some.is) (omega (arith, rw c.in-Some.is at c.longer_at.ensures.size))

pub returns : goal.returns
unfolding value value_over
returns c = record { value = walked_end c.loop-i.invariant c.loop-i-test.false; size = omega arith }
