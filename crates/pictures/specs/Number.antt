-- The number that some characters show, where they are digits.
use Rattle.std.specs.Prelude.{ℕ, ◌+◌, ◌*◌, ◌%◌, List, [], ◌∷◌, take, drop}

-- `0` to `9` are 30 to 39 in hexadecimal, so a digit's value is what 16 leaves over; of more than four digits the last four count
unfoldable pub shown_number : ℕ → List ℕ → ℕ
shown_number shown [] = shown
shown_number shown (c ∷ cs) = shown_number ((shown * 10 + c % 16) % 10000) cs

-- the number that n characters from the place `from` on show; where fewer are left, those
unfoldable pub number_at : ℕ → ℕ → List ℕ → ℕ
number_at from n cs = shown_number 0 (take n (drop from cs))
