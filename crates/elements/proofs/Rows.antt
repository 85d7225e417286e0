-- A loop over the entries of a row. Assumes nothing.
use Prim.Native.Nat.{ℕ, ◌+◌, ◌-◌, ◌*◌, ◌%◌, ◌≤◌, ◌<◌}
use mathlib.Core.Path.{◌≡◌, sym, ◌∙◌}
use mathlib.Core.List.{List}
use mathlib.Core.Logic.{⊎_elim}
use native.Mathlib.Omega.{arith}
use mathlib.Core.Bool.{Bool, true, false}
use lib.ListN.{length, get_or, take, drop, length-drop}
use lib.Seq.{get_or-drop}
use borrow.Author.Tests.{le-leb, lt-leb}
use Rattle.lists.proofs.Cases.{ltb-cases}
use Rattle.lists.proofs.Loans.{rest_part}
use Rattle.slices.specs.Bytes.{byte}
use Rattle.slices.specs.Same.{same}
use Rattle.slices.proofs.Walks.{Walked, walked-go, walked_stop, walked_end}
use Rattle.elements.specs.Row.{picked, entry, told_in}

module _ (n : ℕ) (name row : List ℕ) (k i : ℕ) where
  -- what is left of the search from i on, with k found before it, is the whole search
  abbrev pub Left : Type 0
  Left = Walked (λ (l : List ℕ). l) (entry n name) (λ (m : ℕ). m) 0 row k i

  pub told_more : Left → i + n + 2 ≤ length row → {r : ℕ} → r ≡ picked n name k (drop i row)
      → Walked (λ (l : List ℕ). l) (entry n name) (λ (m : ℕ). m) 0 row r (i + (n + 3))
  unfolding entry
  told_more w h {r} e =
      let f : n + 2 ≤ length (drop i row) = rw length-drop (omega arith) in
      walked-go {i = i} {n = n + 3} {x = drop i row} w (omega arith) (sym (rest_part i row)) (simp (le-leb (n + 2) (length (drop i row)) f, ← e)) (omega arith)

  pub told-end : Left → length row < i + n + 2 → k ≡ told_in n name row
  unfolding told_in entry
  told-end w h =
      ⊎_elim
      (λ y.
      let f : length (drop i row) < n + 2 = rw length-drop (omega (arith, y.0)) in
      walked_stop {i = i} {x = drop i row} w y.0 (sym (rest_part i row)) (simp (lt-leb (n + 2) (length (drop i row)) f)))
      (λ y. walked_end {i = i} w y.0)
      (ltb-cases i (length row))

  -- t is whether the letters of the entry at i are the name
  module _ {t : Bool} (e : t ≡ same (take (i + n - i) (drop i row)) name) where
    letters : {b : Bool} → t ≡ b → same (take n (drop i row)) name ≡ b
    letters y = let z : i + n - i ≡ n = omega arith in rw z at (sym e ∙ y)

    pub pick_yes : t ≡ true → get_or row (i + n) 0 % 16 * 10 + get_or row (i + n + 1) 0 % 16 ≡ picked n name k (drop i row)
    unfolding picked byte
    pick_yes y =
        let a : i + n + 1 ≡ i + (n + 1) = omega arith in
        rw (letters y, get_or-drop i row n 0, get_or-drop i row (n + 1) 0, a)

    pub pick_no : t ≡ false → k ≡ picked n name k (drop i row)
    unfolding picked
    pick_no y = rw (letters y)
