-- Codes in a row, as the code holds a list. Public contracts do not cite this.
use Rattle.std.specs.Prelude.{ℕ, zero, suc, List, [], ◌∷◌, take}

-- words of n bytes, with a byte between each and the next; k bytes are still to pass
unfoldable pub words_after : ℕ → ℕ → List ℕ → List (List ℕ)
words_after n k [] = []
words_after n (suc k) (b ∷ s) = words_after n k s
words_after n zero (b ∷ s) = take n (b ∷ s) ∷ words_after n n s

abbrev pub words : ℕ → List ℕ → List (List ℕ)
words n s = words_after n 0 s
