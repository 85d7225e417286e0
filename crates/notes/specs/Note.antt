-- What a note is, and what the note writer answers and leaves.
use Rattle.std.specs.Prelude.{ℕ, zero, suc, ◌+◌, ◌/◌, ◌%◌, ◌^◌, ◌<◌, ◌≡◌, List, [], ◌∷◌, ◌++◌, cond, ltb}
use Rattle.std.proofs.lemmas.List.Edits.{sets}
use Rattle.lists.specs.Zeros.{zeros}
use Rattle.notes.specs.declared.Note.{Note}
use Rattle.notes.specs.declared.Shape.{Shape}
use Rattle.notes.specs.declared.Shape.TheVariants.{Old, New}

-- "Each number is cut in groups of seven bits, lowest first, the top bit set on all but the last, in the fewest groups":
-- at most k + 1 of them
unfoldable pub groups_in : ℕ → ℕ → List ℕ
groups_in zero n = n ∷ []
groups_in (suc k) n = cond (ltb n 128) (n ∷ []) ((128 + n % 128) ∷ groups_in k (n / 128))

-- a u32 has at most five
abbrev pub groups : ℕ → List ℕ
groups n = groups_in 4 n

-- the groups of the numbers, one number after the other
unfoldable pub flat : List ℕ → List ℕ
flat [] = []
flat (n ∷ ns) = groups n ++ flat ns

-- "A new note begins with the number 100"
abbrev pub new_mark : ℕ
new_mark = 100

-- "The note is five numbers: refusal, place, kind, series, intervals."; "A new note begins with the number 100, then the old five, then the count of elements open before
-- the faulty item"
abbrev pub numbers_for : Shape → Note → List ℕ
numbers_for Old n = n.refusal ∷ n.place ∷ n.kind ∷ n.series ∷ n.intervals ∷ []
numbers_for New n = new_mark ∷ n.refusal ∷ n.place ∷ n.kind ∷ n.series ∷ n.intervals ∷ n.depth ∷ []

abbrev pub note_of : Shape → Note → List ℕ
note_of shape n = flat (numbers_for shape n)

-- "The note reader reads both, an old one with depth 0": what a note of this shape tells
abbrev pub tells_in : Shape → Note → Note
tells_in Old n = record { refusal = n.refusal; place = n.place; kind = n.kind; series = n.series; intervals = n.intervals; depth = 0 }
tells_in New n = n

-- "each number of the note is written into the part of the buffer that is still free, and the bytes after it are 0": what the note writer leaves of a buffer of `room` bytes, w from
-- the first of them on, as far as there are bytes
unfoldable pub left : List ℕ → ℕ → List ℕ
left w room = sets (zeros room) 0 w

-- each number is below m
unfoldable pub AllBelow : ℕ → List ℕ → Type 0
AllBelow m [] = Unit {0}
AllBelow m (n ∷ ns) = (n < m) × AllBelow m ns

-- "A note has exactly five numbers, each shortest and below 2^21, and nothing after", or seven in the new shape; "From now on five numbers beginning with 100 are no note,
-- nor are seven whose second is 100": s is the note of this shape that tells n
pub record IsNote (s : List ℕ) (shape : Shape) (n : Note) : Type 0 where
  pub small : AllBelow (2 ^ 21) (numbers_for shape n)
  pub other : n.refusal ≡ new_mark → ⊥
  pub tells : tells_in shape n ≡ n
  pub bytes : s ≡ note_of shape n
