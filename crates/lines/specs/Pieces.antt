-- A text taken apart at a byte, as into lines at the line feed.
use Rattle.std.specs.Prelude.{ℕ, List, [], ◌∷◌, cond, eqb}
use Rattle.lines.specs.declared.Pieces.{Pieces}

-- the bytes before the first c, or all, where there is none
unfoldable pub piece_of : ℕ → List ℕ → List ℕ
piece_of c [] = []
piece_of c (b ∷ s) = cond (eqb b c) [] (b ∷ piece_of c s)

-- b put before the first piece, which it begins where there is none
abbrev pub before_first : ℕ → List (List ℕ) → List (List ℕ)
before_first b [] = (b ∷ []) ∷ []
before_first b (p ∷ l) = (b ∷ p) ∷ l

-- the pieces that c ends, without it; after the last c nothing is a piece, where nothing stands there
unfoldable pub pieces_in : ℕ → List ℕ → List (List ℕ)
pieces_in c [] = []
pieces_in c (b ∷ s) = cond (eqb b c) ([] ∷ pieces_in c s) (before_first b (pieces_in c s))

-- those that are still to come
abbrev pub pieces_left : Pieces → List (List ℕ)
pieces_left p = pieces_in p.end p.rest.now
