-- Texts put into a buffer one after the other.
-- Assumes nothing.
use mathlib.Core.Path.{◌≡◌, sym, ap, ◌∙◌}
use mathlib.Core.List.{List, ◌++◌}
use mathlib.Core.Logic.{⊎_elim}
use Prim.Native.Nat.{ℕ, ◌+◌, ◌-◌, ◌≤◌, ◌<◌, min}
use native.Mathlib.Omega.{arith}
use lib.ListN.{length, take, length-append, length-drop}
use lib.Seq.{sets, length-sets, length-take-le}
use borrow.Rule.Slice.PartMut.{mid_of, put_mid}
use Rattle.io.specs.Counts.{IsPrefixLen}
use Rattle.lists.proofs.Cases.{leb-cases}
use Rattle.lists.proofs.Loans.{lent-tail, back-tail}
use Rattle.lists.proofs.Stores.{sets-out, sets_more}
use Rattle.notes.proofs.Writing.{sets-tail}

-- w is put into out₀ from `at` on, as much as it has room for, and n is the place after it
abbrev pub Adds : List ℕ → List ℕ → ℕ → ℕ → List ℕ → Type 0
Adds w out₀ at n out = (n ≡ min (at + length w) (length out₀)) × (out ≡ sets out₀ at w)

-- one text after another
pub adds-more : (w v out₀ out l : List ℕ) (at n m : ℕ) → Adds w out₀ at n out → Adds v out n m l → Adds (w ++ v) out₀ at m l
adds-more w v out₀ out l at n m p q =
    let o : length out ≡ length out₀ = ap length p.1 ∙ length-sets out₀ at w in (
      omega (arith, p.0, q.0, o, length-append w v),
      q.1
          ∙ ⊎_elim
          (λ y.
          let z : n ≡ at + length w = omega (arith, y.0, p.0) in
          ap (λ (k : ℕ). sets out k v) z ∙ ap (λ (t : List ℕ). sets t (at + length w) v) p.1)
          (λ y.
          sets-out v out n (omega (arith, y.0, p.0, o)) ∙ p.1
          ∙ sym (sets-out v (sets out₀ at w) (at + length w) (omega (arith, y.0, length-sets out₀ at w))))
          (leb-cases (at + length w) (length out₀))
          ∙ sym (sets_more w out₀ at v),
    )

-- what the contract of the whole says besides: the count lies within the buffer
pub adds-counts : (w out₀ out : List ℕ) (n : ℕ) → Adds w out₀ 0 n out → (n ≡ min (length w) (length out₀)) × ((out ≡ sets out₀ 0 w) × IsPrefixLen n out)
adds-counts w out₀ out n p =
    let h : n ≤ length out = omega (arith, p.0, ap length p.1, length-sets out₀ 0 w) in
    (omega (arith, p.0), (p.1, (h, sym (length-take-le n out h))))

-- a place past the end
pub adds-out : (s out : List ℕ) (at : ℕ) → length out < at → Adds s out at (length out) out
adds-out s out at h = (omega arith, sym (sets-out s out at (omega arith)))

-- n and l are what `put_text` answers and leaves where it is lent the buffer from `at` on
pub adds-lent : (s out l : List ℕ) (at n : ℕ) → at ≤ length out → n ≡ min (length s) (length (mid_of at (length out - at) out))
    → l ≡ sets (mid_of at (length out - at) out) 0 s → Adds s out at (at + n) (put_mid at (length out - at) out l)
adds-lent s out l at n h en el =
    let d = lent-tail out at in (
      omega (arith, en, ap length d, length-drop at out, h),
      back-tail out at l ∙ ap (λ (t : List ℕ). take at out ++ t) (el ∙ ap (λ (t : List ℕ). sets t 0 s) d) ∙ sym (sets-tail at out s),
    )

pub adds_same : (w v out₀ out : List ℕ) (at n : ℕ) → w ≡ v → Adds w out₀ at n out → Adds v out₀ at n out
adds_same w v out₀ out at n e p = rw e at p
