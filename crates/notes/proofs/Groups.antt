-- Laws of a number's groups.
--     on, last         the two cases of `groups_in`
--     pos, groups-le   there is at least one group, and no more than were allowed
--     groups-three     a number below 2^21 has at most three
-- Assumes nothing.
use mathlib.Core.Path.{◌≡◌, refl, sym, ap, ◌∙◌}
use mathlib.Core.List.{List, [], ◌∷◌}
use Prim.Native.Nat.{ℕ, zero, suc, ◌+◌, ◌*◌, ◌/◌, ◌%◌, ◌^◌, ◌≤◌, ◌<◌}
use native.Mathlib.Nat.{pow-succ'}
use native.Mathlib.Omega.{arith}
use lib.ListN.{length}
use mathlib.Core.Logic.{⊎_elim}
use borrow.Author.Tests.{lt-ltb, le-ltb}
use Rattle.lists.proofs.Cases.{ltb-cases}
use Rattle.notes.specs.Note.{groups_in, groups}

pub on : (k n : ℕ) → 128 ≤ n → groups_in (suc k) n ≡ (128 + n % 128) ∷ groups_in k (n / 128)
unfolding groups_in
on k n h = simp (le-ltb n 128 h)

pub last : (k n : ℕ) → n < 128 → groups_in k n ≡ n ∷ []
unfolding groups_in
last zero n h = refl
last (suc k) n h = simp (lt-ltb n 128 h)

pub pos : (k n : ℕ) → 0 < length (groups_in k n)
unfolding groups_in
pos zero n = omega arith
pos (suc k) n = ⊎_elim (λ y. simp y.1 (omega arith)) (λ y. simp y.1 (omega arith)) (ltb-cases n 128)

pub groups-le : (k n : ℕ) → length (groups_in k n) ≤ suc k
unfolding groups_in
groups-le zero n = omega arith
groups-le (suc k) n = ⊎_elim (λ y. simp y.1 (omega arith)) (λ y. simp y.1 (omega (arith, groups-le k (n / 128)))) (ltb-cases n 128)

-- without its lowest group a number needs one group less
pub less : (k n : ℕ) → n < 128 ^ suc (suc k) → n / 128 < 128 ^ suc k
less k n h = let e : 128 ^ suc (suc k) ≡ 128 * 128 ^ suc k = pow-succ' 128 (suc k) in omega arith

-- a group that is allowed and not needed makes no difference
spare : (k n : ℕ) → n < 128 ^ suc k → groups_in (suc k) n ≡ groups_in k n
spare zero n h = last 1 n (omega arith) ∙ sym (last 0 n (omega arith))
spare (suc k) n h =
    ⊎_elim
    (λ y. last (suc (suc k)) n y.0 ∙ sym (last (suc k) n y.0))
    (λ y. on (suc k) n y.0 ∙ ap (λ (l : List ℕ). (128 + n % 128) ∷ l) (spare k (n / 128) (less k n h)) ∙ sym (on k n y.0))
    (ltb-cases n 128)

pub groups-three : (n : ℕ) → n < 2 ^ 21 → groups n ≡ groups_in 2 n
groups-three n h = spare 3 n (omega arith) ∙ spare 2 n (omega arith)
