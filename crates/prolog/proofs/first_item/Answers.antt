use native.Mathlib.Omega.{arith}
use mathlib.Core.Path.{◌≡◌, ap}
use Prim.Native.Nat.{ℕ}
use Rattle.std.specs.Prelude.{Result, Ok, Err, IsErrAnd}
use Rattle.prolog.specs.Prolog.{behind_mark, begin_after, begin}
use borrow.Author.Rules.{rules}
use Rattle.prolog.proofs.first_item.Goals as goal

err-is : (r : Result ℕ ℕ) (p : ℕ) → IsErrAnd r (λ e. e ≡ p) → r ≡ Err p
err-is (Ok n) p h = absurd h
err-is (Err e) p h = ap (λ (x : ℕ). Err x) h

pub overflow_add-result : goal.overflow_add-result
overflow_add-result c = omega (arith, rw c.in_ok-n.was at c.declaration_at.ensures.size)

pub returns-then-begins_with : goal.returns-then-begins_with
unfolding begin begin_after behind_mark
returns-then-begins_with c = record { begin = simp (c.in_ok-n.was, ← c.declaration_at.ensures.begin, c.if-begins_with.true, ← c.begins_with.ensures, ← c.rest-s.ensures.list, ← c.mark_len-m.ensures.len); size = omega (arith, rw c.in_ok-n.was at c.declaration_at.ensures.size) }

pub returns-in_err-n : goal.returns-in_err-n
unfolding begin begin_after behind_mark
returns-in_err-n c = let q : c.from_residual.result ≡ Err c.in_err-n.field-0.0 = err-is _ _ c.from_residual.ensures.1 in
    rw q (record { begin = simp (c.in_err-n.was, ← c.declaration_at.ensures.begin, c.if-begins_with.true, ← c.begins_with.ensures, ← c.rest-s.ensures.list, ← c.mark_len-m.ensures.len); size = search rules })

pub returns : goal.returns
unfolding begin begin_after behind_mark
returns c = record { begin = simp (c.if-begins_with.false, ← c.begins_with.ensures, ← c.rest-s.ensures.list, ← c.mark_len-m.ensures.len); size = search rules }
