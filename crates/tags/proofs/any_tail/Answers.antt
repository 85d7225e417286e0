use mathlib.Core.Path.{refl, sym, ap, ◌∙◌}
use native.Mathlib.Omega.{arith}
use borrow.Author.Rules.{rules}
use Rattle.tags.specs.Tail.{tail, kept_of}
use Rattle.tags.proofs.Ends.{tail-attribute, noted-v, ends_close, ends-empty, ends-torn, ends-over}
use Rattle.tags.proofs.any_tail.Goals as goal

pub loop-i-init : goal.loop-i-init
loop-i-init c = (refl, search rules)

pub overflow_add-start : goal.overflow_add-start
overflow_add-start c = omega (arith, rw c.in-Attribute.is at c.piece_at.ensures.size, c.rest-t.ensures.size)

pub overflow_add-after : goal.overflow_add-after
overflow_add-after c = omega (arith, rw c.in-Attribute.is at c.piece_at.ensures.size, c.rest-t.ensures.size)

pub loop-i-smaller : goal.loop-i-smaller
loop-i-smaller c = omega (arith, rw c.in-Attribute.is at c.piece_at.ensures.size, c.rest-t.ensures.size)

pub loop-i-preserved : goal.loop-i-preserved
loop-i-preserved c = let z = rw c.in-Attribute.is at c.piece_at.ensures.size in (
  tail-attribute c.args.s.now c.loop-i.i c.loop-i.k c.rest-t.ensures.list c.piece_at.ensures.piece c.loop-i-test.true c.in-Attribute.is z.0 c.part.ensures c.noted-k.ensures
      ∙ c.loop-i.invariant.0,
  noted-v c.loop-i.k _ _ _ c.noted-k.ensures (omega (arith, z, c.loop-i.invariant.1)) (omega (arith, z)),
)

pub overflow_add-i : goal.overflow_add-i
overflow_add-i c = omega (arith, rw c.in-Close.is at c.piece_at.ensures.size, c.rest-t.ensures.size)

pub returns-in-Close : goal.returns-in-Close
unfolding tail kept_of
returns-in-Close c = let more = ends_close c.args.s.now c.loop-i.i _ c.rest-t.ensures.list _ c.piece_at.ensures.piece _ c.loop-i-test.true c.in-Close.is in
    record { tail = c.shut.ensures ∙ sym (ap (tail c.loop-i.k) more) ∙ c.loop-i.invariant.0; size = rw c.shut.ensures (omega (arith, rw c.in-Close.is at c.piece_at.ensures.size, c.rest-t.ensures.size, c.loop-i.invariant.1)) }

pub overflow_add-i-in-CloseEmpty : goal.overflow_add-i-in-CloseEmpty
overflow_add-i-in-CloseEmpty c = omega (arith, rw c.in-CloseEmpty.is at c.piece_at.ensures.size, c.rest-t.ensures.size)

pub returns-in-CloseEmpty : goal.returns-in-CloseEmpty
unfolding tail kept_of
returns-in-CloseEmpty c = let more = ends-empty c.args.s.now c.loop-i.i _ c.rest-t.ensures.list _ c.piece_at.ensures.piece _ c.loop-i-test.true c.in-CloseEmpty.is in
    record { tail = c.shut-in-CloseEmpty.ensures ∙ sym (ap (tail c.loop-i.k) more) ∙ c.loop-i.invariant.0; size = rw c.shut-in-CloseEmpty.ensures (omega (arith, rw c.in-CloseEmpty.is at c.piece_at.ensures.size, c.rest-t.ensures.size, c.loop-i.invariant.1)) }

pub returns-in-Torn : goal.returns-in-Torn
unfolding tail
returns-in-Torn c = let more = ends-torn c.args.s.now c.loop-i.i _ c.rest-t.ensures.list _ c.piece_at.ensures.piece c.in-Torn.is in
    record { tail = sym (ap (tail c.loop-i.k) more) ∙ c.loop-i.invariant.0; size = omega arith }

pub returns : goal.returns
unfolding tail
returns c = let more = ends-over c.args.s.now c.loop-i.i c.loop-i-test.false in
    record { tail = sym (ap (tail c.loop-i.k) more) ∙ c.loop-i.invariant.0; size = omega arith }
