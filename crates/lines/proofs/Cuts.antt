-- The loop that looks for a piece's end, and the pieces one by one.
-- Assumes nothing.
use mathlib.Core.Path.{◌≡◌, refl, sym, ap, ◌∙◌}
use mathlib.Core.List.{List, [], ◌∷◌, ◌++◌, append_assoc, append-nil}
use Prim.Native.Nat.{ℕ, suc, ◌+◌, ◌≤◌, ◌<◌}
use native.Mathlib.Numerals.{add-one}
use native.Mathlib.Omega.{arith}
use lib.ListN.{length, take, drop, get_or, drop_of_length-le}
use lib.Seq.{drop-cons, take-suc, take_all}
use borrow.Author.Tests.{eq-eqb, ne_eqb}
use mathlib.Core.Logic.{⊎_elim}
use Rattle.lists.proofs.Cases.{eqb-cases}
use Rattle.std.proofs.Common.{cond, eqb}
use Rattle.lines.specs.Text.{line_of}
use Rattle.lines.specs.Pieces.{piece_of, before_first, pieces_in}

-- i bytes of the piece are passed
abbrev pub Passed : ℕ → List ℕ → ℕ → Type 0
Passed c t i = take i t ++ piece_of c (drop i t) ≡ piece_of c t

module _ (c : ℕ) (t : List ℕ) (i : ℕ) (p : Passed c t i) where
  pub piece-next : i < length t → (get_or t i 0 ≡ c → ⊥) → Passed c t (suc i)
  unfolding piece_of
  piece-next h n =
      let q : piece_of c (drop i t) ≡ get_or t i 0 ∷ piece_of c (drop (suc i) t) = rw (drop-cons t i 0 h) (simp (ne_eqb _ _ n)) in
      rw (take-suc t i 0 h) (append_assoc (take i t) (get_or t i 0 ∷ []) _ ∙ ap (λ (l : List ℕ). take i t ++ l) (sym q) ∙ p)

  pub piece-stop : i < length t → get_or t i 0 ≡ c → take i t ≡ piece_of c t
  unfolding piece_of
  piece-stop h e =
      let q : piece_of c (drop i t) ≡ [] = rw (drop-cons t i 0 h) (simp (eq-eqb _ _ e)) in
      sym (append-nil (take i t)) ∙ ap (λ (l : List ℕ). take i t ++ l) (sym q) ∙ p

  pub piece-end : length t ≤ i → t ≡ piece_of c t
  unfolding piece_of
  piece-end h =
      sym (take_all i t h) ∙ sym (append-nil (take i t)) ∙ ap (λ (l : List ℕ). take i t ++ piece_of c l) (sym (drop_of_length-le t h)) ∙ p

-- ---- the pieces one by one
pub none_left : (c : ℕ) (s : List ℕ) → length s ≡ 0 → pieces_in c s ≡ []
unfolding pieces_in
none_left c [] e = refl
none_left c (b ∷ s) e = absurd (omega arith)

-- the first piece, and the pieces of what stands behind the byte that ends it
abbrev Splits : ℕ → List ℕ → Type 0
Splits c s = (length s ≡ 0 → ⊥) → pieces_in c s ≡ piece_of c s ∷ pieces_in c (drop (length (piece_of c s) + 1) s)

one_more : (c b : ℕ) (s : List ℕ) → Splits c s → Splits c (b ∷ s)
unfolding piece_of pieces_in
one_more c b [] f n = ⊎_elim (λ y. rw y.1 refl) (λ y. rw y.1 refl) (eqb-cases b c)
one_more c b (x ∷ s) f n =
    ⊎_elim (λ y. rw y.1 refl) (λ y. rw (y.1, add-one) (ap (before_first b) (rw add-one at (f (λ e. omega arith))))) (eqb-cases b c)

pub first_and_others : (c : ℕ) (s : List ℕ) → (length s ≡ 0 → ⊥) → pieces_in c s ≡ piece_of c s ∷ pieces_in c (drop (length (piece_of c s) + 1) s)
first_and_others c [] n = absurd (n refl)
first_and_others c (b ∷ s) n = one_more c b s (first_and_others c s) n

-- ---- a line
pub piece-is-line : (s : List ℕ) → piece_of 10 s ≡ line_of s
unfolding piece_of line_of
piece-is-line [] = refl
piece-is-line (b ∷ s) = ap (λ (l : List ℕ). cond (eqb b 10) [] (b ∷ l)) (piece-is-line s)

pub piece-size : (c : ℕ) (s : List ℕ) → length (piece_of c s) ≤ length s
unfolding piece_of
piece-size c [] = omega arith
piece-size c (b ∷ s) = ⊎_elim (λ y. rw y.1 (omega arith)) (λ y. let e = piece-size c s in rw y.1 (omega arith)) (eqb-cases b c)
