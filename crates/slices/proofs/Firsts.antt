-- Where a single byte first stands, byte by byte. Assumes nothing.
use Prim.Native.Nat.{ℕ, suc}
use mathlib.Core.Path.{◌≡◌, refl}
use mathlib.Core.List.{List, [], ◌∷◌}
use mathlib.Core.Bool.{Bool, true, false, cond}
use native.Mathlib.Numerals.{add-one}
use lib.Dec.{eqb}
use Rattle.slices.specs.Walk.{walk}
use Rattle.slices.specs.Same.{same, begins, seek, here, first_at}

-- a search that starts to count one higher
later : (t s : List ℕ) (at : ℕ) → walk (begins t) seek here (suc at) 0 s ≡ suc (walk (begins t) seek here at 0 s)
unfolding walk seek here
later t [] at = refl
later t (b ∷ s) at = by (begins t (b ∷ s)) refl (later t s)
  where
    by : (x : Bool) → begins t (b ∷ s) ≡ x → ((at : ℕ) → walk (begins t) seek here (suc at) 0 s ≡ suc (walk (begins t) seek here at 0 s))
        → walk (begins t) seek here (suc at) 0 (b ∷ s) ≡ suc (walk (begins t) seek here at 0 (b ∷ s))
    by true q ih = rw (walk, q)
    by false q ih = rw (walk, q, add-one at, add-one (suc at)) (ih (suc at))

pub first-nil : (b : ℕ) → first_at (b ∷ []) [] ≡ 0
unfolding first_at walk here
first-nil b = refl

-- by whether the first byte is the one that is sought
pub first_by : (b c : ℕ) (s : List ℕ) {x : Bool} → eqb b c ≡ x → first_at (b ∷ []) (c ∷ s) ≡ cond x 0 (suc (first_at (b ∷ []) s))
unfolding first_at walk seek here begins same
first_by b c s {x} e = by x e
  where
    by : (x : Bool) → eqb b c ≡ x → first_at (b ∷ []) (c ∷ s) ≡ cond x 0 (suc (first_at (b ∷ []) s))
    by true q = rw (walk, q)
    by false q = rw (walk, q) (later (b ∷ []) s 0)
