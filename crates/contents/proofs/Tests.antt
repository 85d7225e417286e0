-- Laws of tests that know nothing of documents. Assumes nothing.
use mathlib.Core.Path.{◌≡◌, refl, ap}
use mathlib.Core.Bool.{Bool, true, false, cond, ◌&&◌}

pub chosen : {A : Type 0} (a b : A) {t : Bool} → t ≡ true → cond t a b ≡ a
chosen a b e = ap (λ u. cond u a b) e

pub other : {A : Type 0} (a b : A) {t : Bool} → t ≡ false → cond t a b ≡ b
other a b e = ap (λ u. cond u a b) e

-- back: `both` of trees
pub parts-and : (a b : Bool) → a ≡ true → b ≡ true → a && b ≡ true
parts-and a b e f = rw (e, f) refl
