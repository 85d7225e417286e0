-- A loop that puts numbers into a blank slice cell by cell leaves what `cells` says.
--     put-start, put_next, put-end   the loop
-- Assumes nothing.
use mathlib.Core.Path.{◌≡◌, refl, ap, ◌∙◌}
use mathlib.Core.List.{List, [], ◌∷◌, ◌++◌}
use Prim.Native.Nat.{ℕ, zero, suc, ◌+◌, ◌≤◌, ◌<◌}
use native.Mathlib.Nat.{le_of_suc-le-suc, le_refl}
use native.Mathlib.Numerals.{add-one}
use native.Mathlib.Omega.{arith}
use lib.ListN.{length, take, drop, get_or, set, drop_of_length-le}
use lib.Seq.{sets, drop-cons}
use Rattle.lists.proofs.Stores.{sets-cons}
use Rattle.lists.specs.Zeros.{zeros}
use Rattle.library.specs.Cells.{cells}

few-zeros : (n m : ℕ) → n ≤ m → zeros n ≡ take n (zeros m)
few-zeros zero m h = refl
few-zeros (suc n) zero h = absurd (omega arith)
few-zeros (suc n) (suc m) h = ap (λ (l : List ℕ). 0 ∷ l) (few-zeros n m (le_of_suc-le-suc h))

into-zeros : (ns : List ℕ) (n m : ℕ) → n ≤ m → sets (zeros n) 0 ns ≡ take n (ns ++ zeros m)
into-zeros [] n m h = few-zeros n m h
into-zeros (v ∷ ns) zero m h = nowhere ns 1
  where
    nowhere : (ws : List ℕ) (i : ℕ) → sets [] i ws ≡ []
    nowhere [] i = refl
    nowhere (w ∷ ws) i = nowhere ws (suc i)
into-zeros (v ∷ ns) (suc n) m h = sets-cons v (zeros n) 0 ns ∙ ap (λ (l : List ℕ). v ∷ l) (into-zeros ns n m (omega arith))

-- i numbers of ns are put into t, which was a slice of n cells
pub record Put (n : ℕ) (ns t : List ℕ) (i : ℕ) : Type 0 where
  pub same : length t ≡ n
  pub all : sets t i (drop i ns) ≡ cells n ns

pub put-start : (n : ℕ) (ns t : List ℕ) → length t ≡ n → t ≡ zeros n → Put n ns t 0
unfolding cells
put-start n ns t k e = record { same = k; all = rw e (into-zeros ns n n (le_refl n)) }

pub put_next : (n : ℕ) (ns t l : List ℕ) (i : ℕ) → Put n ns t i → i < length ns → length l ≡ length t → l ≡ set t i (get_or ns i 0) → Put n ns l (i + 1)
put_next n ns t l i p h k e =
    let q : sets t i (get_or ns i 0 ∷ drop (suc i) ns) ≡ cells n ns = rw (drop-cons ns i 0 h) at p.all in
    record { same = k ∙ p.same; all = rw (e, add-one i) q }

pub put-end : (n : ℕ) (ns t : List ℕ) (i : ℕ) → Put n ns t i → length ns ≤ i → t ≡ cells n ns
put-end n ns t i p h = let q : sets t i [] ≡ cells n ns = rw (drop_of_length-le ns h) at p.all in q
