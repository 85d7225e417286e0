-- A loop that holds what a value says against marks: what is left to hold after each mark. Assumes nothing.
use Prim.Native.Nat.{ℕ, ◌+◌, ◌≤◌, ◌<◌}
use mathlib.Core.Path.{◌≡◌, refl, ap}
use mathlib.Core.List.{List, [], ◌∷◌, map}
use mathlib.Core.Bool.{Bool, true, false, cond}
use native.Mathlib.Numerals.{add-one}
use lib.ListN.{length, get_or, drop, drop_of_length-le}
use lib.Seq.{drop-cons}
use lib.Dec.{leb, eqb}
use borrow.Author.Tests.{leb-true, leb-false}
use Rattle.slices.specs.Same.{same}
use Rattle.pictures.specs.Picture.{held}

-- k marks are passed, and l is what is said from here on; `takes` is what a mark takes
module _ (takes : ℕ → ℕ → Bool) (marks : List ℕ) (k : ℕ) {l : List ℕ} where
  pub fit-end : l ≡ [] → leb (length marks) k ≡ held (map takes (drop k marks)) l
  unfolding held
  fit-end e = rw e (over (leb (length marks) k) refl)
    where
      over : (t : Bool) → leb (length marks) k ≡ t → t ≡ held (map takes (drop k marks)) []
      over true q = rw (drop_of_length-le marks (leb-true _ _ q))
      over false q = rw (drop-cons marks k 0 (leb-false _ _ q))

  module _ {c : ℕ} {rest : List ℕ} (e : l ≡ c ∷ rest) where
    pub fit-long : length marks ≤ k → false ≡ held (map takes (drop k marks)) l
    unfolding held
    fit-long h = rw (e, drop_of_length-le marks h)

    -- t is what the test of the character answered
    module _ (h : k < length marks) {t : Bool} (q : t ≡ takes (get_or marks k 0) c) where
      pub fit-stop : t ≡ false → false ≡ held (map takes (drop k marks)) l
      unfolding held
      fit-stop n = rw (e, drop-cons marks k 0 h, ← q, n)

      pub fit-more : t ≡ true → held (map takes (drop (k + 1) marks)) rest ≡ held (map takes (drop k marks)) l
      unfolding held
      fit-more y = rw (e, drop-cons marks k 0 h, ← q, y, add-one)

-- a text is said where each of its characters takes itself
pub said : (text l : List ℕ) → held (map eqb text) l ≡ same text l
unfolding held same
said [] [] = refl
said [] (c ∷ l) = refl
said (a ∷ x) [] = refl
said (a ∷ x) (c ∷ l) = ap (λ (t : Bool). cond (eqb a c) t false) (said x l)
