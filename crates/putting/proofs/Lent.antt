-- A text put byte by byte, and one put by a function that is lent the bytes from its place on.
-- Assumes nothing.
use mathlib.Core.Path.{◌≡◌, refl, sym, ap, ◌∙◌}
use mathlib.Core.List.{List, [], ◌∷◌, ◌++◌}
use Prim.Native.Nat.{ℕ, suc, ◌+◌, ◌-◌, ◌≤◌, ◌<◌, min}
use native.Mathlib.Numerals.{add-one}
use native.Mathlib.Omega.{arith}
use lib.ListN.{length, take, get_or, set, length-drop}
use lib.Seq.{sets, length-sets, set_out, take-suc, take_all, length-take-le}
use borrow.Rule.Slice.PartMut.{mid_of, put_mid}
use Rattle.lists.proofs.Loans.{lent-tail, back-tail}
use Rattle.lists.proofs.Stores.{sets-out, sets_more}
use Rattle.notes.proofs.Writing.{sets-tail}
use Rattle.putting.specs.Sheet.{landed}

-- i bytes of t are put, or found no room
pub record Ran (out₀ : List ℕ) (at : ℕ) (t out : List ℕ) (i : ℕ) : Type 0 where
  pub most : i ≤ length t
  pub all : out ≡ sets out₀ at (take i t)

pub ran-start : (out₀ : List ℕ) (at : ℕ) (t : List ℕ) → Ran out₀ at t out₀ 0
ran-start out₀ at t = record { most = omega arith; all = refl }

module _ {out₀ : List ℕ} {at : ℕ} {t out : List ℕ} {i : ℕ} (r : Ran out₀ at t out i) where
  pub ran-same : length out ≡ length out₀
  ran-same = ap length r.all ∙ length-sets out₀ at (take i t)

  pub ran-more : {l : List ℕ} → i < length t → l ≡ set out (at + i) (get_or t i 0) → Ran out₀ at t l (i + 1)
  ran-more {l} h e =
      let n = length-take-le i t r.most in
      let v = get_or t i 0 in
      let q : l ≡ sets out₀ at (take (suc i) t) =
      e
      ∙ ap (λ (o : List ℕ). set o (at + i) v) r.all
      ∙ ap (λ (k : ℕ). set (sets out₀ at (take i t)) (at + k) v) (sym n)
      ∙ sym (sets_more (take i t) out₀ at (v ∷ []))
      ∙ ap (sets out₀ at) (sym (take-suc t i 0 h)) in
      record { most = omega arith; all = rw add-one q }

  -- no room
  pub ran-past : {l : List ℕ} → i < length t → length out ≤ at + i → l ≡ out → Ran out₀ at t l (i + 1)
  ran-past h g e = ran-more h (e ∙ sym (set_out out (at + i) (get_or t i 0) g))

  pub ran-end : {n : ℕ} → length t ≤ i → n ≡ min (at + length t) (length out + 1) → (n ≡ landed out₀ at t) × (out ≡ sets out₀ at t)
  unfolding landed
  ran-end h e = (omega (arith, e, ran-same), r.all ∙ ap (sets out₀ at) (take_all i t h))

-- a place past the last byte
pub none-past : (x out : List ℕ) (at : ℕ) → length out < at → at ≤ length out + 1 → (at ≡ landed out at x) × (out ≡ sets out at x)
unfolding landed
none-past x out at h g = (omega (arith, h, g), sym (sets-out x out at (omega (arith, h))))

-- l is what a function leaves that puts x into the bytes from `at` on
lent-buffer : (x out l : List ℕ) (at : ℕ) → l ≡ sets (mid_of at (length out - at) out) 0 x → put_mid at (length out - at) out l ≡ sets out at x
lent-buffer x out l at e =
    back-tail out at l ∙ ap (λ (t : List ℕ). take at out ++ t) (e ∙ ap (λ (t : List ℕ). sets t 0 x) (lent-tail out at)) ∙ sym (sets-tail at out x)

-- and n is what it answers: the length, or one more than there is room for
pub lent-fit : (x out l : List ℕ) (at n : ℕ) → at ≤ length out → n ≡ min (length x) (length (mid_of at (length out - at) out) + 1)
    → l ≡ sets (mid_of at (length out - at) out) 0 x → (at + n ≡ landed out at x) × (put_mid at (length out - at) out l ≡ sets out at x)
unfolding landed
lent-fit x out l at n h en el = (omega (arith, h, en, ap length (lent-tail out at), length-drop at out), lent-buffer x out l at el)

-- the length alone
pub lent-whole : (x out l : List ℕ) (at n r : ℕ) → n ≡ length x → l ≡ sets (mid_of at (length out - at) out) 0 x
    → r ≡ min (at + n) (length (put_mid at (length out - at) out l) + 1) → (r ≡ landed out at x) × (put_mid at (length out - at) out l ≡ sets out at x)
unfolding landed
lent-whole x out l at n r en el er =
    let b = lent-buffer x out l at el in
    (omega (arith, en, er, ap length b, length-sets out at x), b)
