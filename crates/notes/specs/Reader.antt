-- What the note reader answers. That it takes exactly the notes is `accepts-exactly` of proofs/Promises.antt.
use Rattle.std.specs.Prelude.{ℕ, zero, suc, ◌+◌, ◌-◌, ◌*◌, List, [], ◌∷◌, Bool, true, false, cond, get_or, drop, ltb, eqb, Option, Some, None}
use Rattle.refusals.specs.Refusals.{no_refusal, not_one_note}
use Rattle.lists.specs.Zeros.{zeros}
use Rattle.notes.specs.Note.{new_mark}
use Rattle.notes.specs.declared.Note.{Note}

-- b is a group with its top bit set, and v is what the u groups after it say: where that is 0, the number is not shortest
abbrev pub more_of : ℕ → Option (ℕ × ℕ) → Option (ℕ × ℕ)
more_of b (Some (v, u)) = cond (eqb v 0) None (Some (b - 128 + 128 * v, u + 1))
more_of b None = None

-- the number that s begins with, in at most k groups, and how many it has
unfoldable pub first_number : ℕ → List ℕ → Option (ℕ × ℕ)
first_number zero s = None
first_number (suc k) [] = None
first_number (suc k) (b ∷ s) = cond (ltb b 128) (Some (b, 1)) (more_of b (first_number k s))

-- what stands after a number that was read, and the number in front of those after it
abbrev pub past_number : List ℕ → Option (ℕ × ℕ) → List ℕ
past_number s (Some (v, u)) = drop u s
past_number s None = []

abbrev pub with_number : Option (ℕ × ℕ) → Option (List ℕ) → Option (List ℕ)
with_number (Some (v, u)) (Some l) = Some (v ∷ l)
with_number (Some (v, u)) None = None
with_number None l = None

-- "exactly" k "numbers, each shortest and below 2^21" (three groups), "and nothing after"
unfoldable pub numbers_in : ℕ → List ℕ → Option (List ℕ)
numbers_in zero [] = Some []
numbers_in zero (b ∷ s) = None
numbers_in (suc k) s = with_number (first_number 3 s) (numbers_in k (past_number s (first_number 3 s)))

-- five numbers, in the note's order, of which the first is not 100
abbrev pub old_note : List ℕ → Option Note
old_note l =
    cond (eqb (get_or l 0 0) new_mark) None
    (Some (record { refusal = get_or l 0 0; place = get_or l 1 0; kind = get_or l 2 0; series = get_or l 3 0; intervals = get_or l 4 0; depth = 0 }))

-- seven, of which the first is 100 and the second not
abbrev pub new_note : List ℕ → Option Note
new_note l =
    cond (eqb (get_or l 0 0) new_mark)
    (cond (eqb (get_or l 1 0) new_mark) None
    (Some (record { refusal = get_or l 1 0; place = get_or l 2 0; kind = get_or l 3 0; series = get_or l 4 0; intervals = get_or l 5 0; depth = get_or l 6 0 })))
    None

-- exactly five numbers; else exactly seven
abbrev pub note_answer : Option (List ℕ) → Option (List ℕ) → Option Note
note_answer (Some l) seven = old_note l
note_answer None (Some l) = new_note l
note_answer None None = None

unfoldable pub note_in : List ℕ → Option Note
note_in s = note_answer (numbers_in 5 s) (numbers_in 7 s)

-- The paper's number and values for each answer of the note reader: "11: the bytes aren't one note", "on 11 its five numbers are 0", and so is the depth
abbrev pub read_refusal : Option Note → ℕ
read_refusal (Some n) = no_refusal
read_refusal None = not_one_note

abbrev pub six_of : Option Note → List ℕ
six_of (Some n) = n.refusal ∷ n.place ∷ n.kind ∷ n.series ∷ n.intervals ∷ n.depth ∷ []
six_of None = zeros 6
