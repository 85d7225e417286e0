-- A byte of a list: it is there where it is not 0, and it is the byte of a part. Assumes nothing.
use Prim.Native.Nat.{ℕ, ◌+◌, ◌<◌}
use mathlib.Core.Path.{◌≡◌, ◌∙◌}
use mathlib.Core.List.{List}
use mathlib.Core.Logic.{⊎_elim}
use native.Mathlib.Omega.{arith}
use lib.ListN.{length, drop, take, get_or-eq_default}
use lib.Seq.{get_or-drop, get_or-take}
use Rattle.lists.proofs.Cases.{leb-cases}
use Rattle.slices.specs.Bytes.{byte}

-- a byte that is not 0 is there
pub byte-there : (t : List ℕ) (i : ℕ) {b : ℕ} → b ≡ byte t i → 0 < b → i < length t
unfolding byte
byte-there t i {b} e h = ⊎_elim (λ y. let f : b ≡ 0 = e ∙ get_or-eq_default t 0 y.0 in absurd (omega arith)) (λ d. d.0) (leb-cases (length t) i)

pub byte-drop : (t : List ℕ) (k j : ℕ) → byte (drop k t) j ≡ byte t (k + j)
unfolding byte
byte-drop t k j = get_or-drop k t j 0

pub byte-take : (t : List ℕ) (k j : ℕ) → j < k → byte (take k t) j ≡ byte t j
unfolding byte
byte-take t k j h = rw get_or-take
