-- `notes::write_numbers` meets its contract. The invariant is `Wr`.
-- Assumes nothing.
use mathlib.Core.Path.{◌≡◌, ap, ◌∙◌}
use Prim.Native.Nat.{ℕ}
use native.Mathlib.Omega.{arith}
use lib.ListN.{length}
use Rattle.lists.specs.Zeros.{zeros}
use Rattle.notes.specs.Note.{flat, left}
use Rattle.notes.proofs.Writing.{wr-start, wr-length, wr-next, wr-few, wr-end}
use Rattle.notes.proofs.write_numbers.Goals as goal

pub loop-i-init : goal.loop-i-init
loop-i-init c = let z : c.fill.new.self ≡ zeros (length c.fill.new.self) = rw c.fill.ensures.len (c.fill.ensures.after (λ y e. e)) in wr-start _ _ _ z

pub slice_bounds-put_number-count : goal.slice_bounds-put_number-count
slice_bounds-put_number-count c = omega (arith, c.free_from-free.ensures)

pub slice_bounds-put_number-start : goal.slice_bounds-put_number-start
slice_bounds-put_number-start c = omega (arith, c.free_from-free.ensures)

pub overflow_add-at : goal.overflow_add-at
overflow_add-at c = let w = wr-next _ _ _ _ _ c.loop-i.invariant c.loop-i-test.true _ _ _ c.free_from-free.ensures c.put_number-at.ensures.answer c.put_number-at.ensures.buffer in
    omega (arith, wr-few _ _ _ _ _ w, c.loop-i-test.true, c.requires)

pub loop-i-preserved : goal.loop-i-preserved
loop-i-preserved c = wr-next _ _ _ _ _ c.loop-i.invariant c.loop-i-test.true _ _ _ c.free_from-free.ensures c.put_number-at.ensures.answer c.put_number-at.ensures.buffer

pub shape_of-note : goal.shape_of-note
shape_of-note c = omega (arith, wr-length _ _ _ _ _ c.loop-i.invariant, c.fill.ensures.len)

pub returns : goal.returns
returns c = let e = wr-end _ _ _ _ _ c.loop-i.invariant c.loop-i-test.false in
    record { answer = e.0; buffer = e.1 ∙ ap (λ (k : ℕ). left (flat c.args.ns.now) k) c.fill.ensures.len }
