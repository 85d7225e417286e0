-- What is promised of the explanation, over the definitions of its contract (`explanation`, `note_on`).
--     note-explained      the explanation of a printed note, of either shape, is that of the numbers that it tells
--     names-refusal       it begins with the words for its refusal
--     in_words            some of these, computed
--     in-depth            and some of those for the depth
--     numbers-decide      it depends on nothing but the six numbers
--     only-notes          a line is taken as a note only where it is one, as it is printed
--     explanation-fits    a buffer of 370 bytes has room for every explanation
-- Assumes nothing.
use mathlib.Core.Path.{◌≡◌, refl, sym, ap, ◌∙◌}
use mathlib.Core.List.{List, [], ◌∷◌, ◌++◌, map, append_assoc}
use mathlib.Core.Bool.{true}
use mathlib.Core.Logic.{⊎_elim}
use Prim.Native.Nat.{ℕ, zero, suc, ◌+◌, ◌^◌, ◌≤◌, max}
use native.Mathlib.Omega.{arith}
use lib.Dec.{eqb, ltb}
use lib.ListN.{length, get_or, length-append}
use lib.Seq.{take-append_seam}
use borrow.Author.Tests.{le-ltb}
use Rattle.std.specs.Prelude.{Option, Some, None}
use Rattle.lists.proofs.Cases.{ltb-cases, bool_cases, by_cond, zero-not-one}
use Rattle.slices.specs.Same.{same, begins}
use Rattle.slices.proofs.Sames.{same_self, same-equal}
use Rattle.slices.specs.Text.{text}
use Rattle.lines.specs.Text.{hex_bytes, hex_text}
use Rattle.lines.proofs.Hex.{hex-size}
use Rattle.notes.specs.declared.Note.{Note}
use Rattle.notes.specs.declared.Shape.{Shape}
use Rattle.notes.specs.declared.Shape.TheVariants.{Old, New}
use Rattle.notes.specs.Note.{new_mark, numbers_for, note_of, tells_in, AllBelow}
use Rattle.notes.specs.Reader.{note_in, six_of}
use Rattle.notes.proofs.Promises.{fits-most, round_trip, accepts-exactly}
use Rattle.wholes.specs.Whole.{whole_in}
use Rattle.wholes.proofs.Wholes.{whole-in-few}
use Rattle.explanations.specs.Decimal.{decimal, around}
use Rattle.explanations.specs.Explanation.{refusal_words, head_part, words_part, refusal_line, place_line, kind_lines, kind_line, series_part, intervals_part, depth_lines, depth_line, explained, note_on, meaning, explanation}
use Rattle.explanations.proofs.Printed.{note-bytes, read-bytes, printed-back}

module _ (shape : Shape) (n : Note) (h : AllBelow (2 ^ 21) (numbers_for shape n)) (f : n.refusal ≡ new_mark → ⊥) where
  on-printed : note_on (hex_text (note_of shape n)) ≡ Some (tells_in shape n)
  unfolding note_on
  on-printed =
      let s = note_of shape n in
      let b = printed-back s (note-bytes (numbers_for shape n) h) in
      rw (le-ltb 56 (length (hex_text s)) (omega (arith, hex-size s, fits-most shape n h)), b, same_self (hex_text s)) (round_trip shape n h f)

  pub note-explained : explanation (hex_text (note_of shape n)) ≡ explained (tells_in shape n)
  unfolding explanation
  note-explained = ap meaning on-printed

-- ---- the refusal in words
begins-front : (t s : List ℕ) → begins t (t ++ s) ≡ true
unfolding begins
begins-front t s = rw (take-append_seam t s) (same_self t)

words_row : (k : ℕ) → k ≤ 13 → words_part k ≡ get_or refusal_words k []
unfolding words_part
words_row k h = rw (le-ltb 13 k h)

words-first : (n : Note) → n.refusal ≤ 13 → begins (head_part n.refusal ++ get_or refusal_words n.refusal []) (explained n) ≡ true
unfolding explained refusal_line
words-first n r =
    let head = head_part n.refusal in
    let words = words_part n.refusal in
    let after = place_line n.refusal n.place ++ (kind_line n.kind ++ (series_part n.refusal n.series ++ (intervals_part n.intervals ++ depth_line n.depth))) in
    let e : explained n ≡ (head ++ words) ++ (text ".\n" ++ after) =
    append_assoc head (words ++ text ".\n") after
    ∙ ap (λ (l : List ℕ). head ++ l) (append_assoc words (text ".\n") after)
    ∙ sym (append_assoc head words (text ".\n" ++ after)) in
    rw (e, ← words_row n.refusal r) (begins-front (head ++ words) (text ".\n" ++ after))

pub names-refusal : (shape : Shape) (n : Note) → AllBelow (2 ^ 21) (numbers_for shape n) → n.refusal ≤ 13
    → begins (head_part n.refusal ++ get_or refusal_words n.refusal []) (explanation (hex_text (note_of shape n))) ≡ true
names-refusal Old n h r = rw (note-explained Old n h (λ e. omega arith)) (words-first (tells_in Old n) r)
names-refusal New n h r = rw (note-explained New n h (λ e. omega arith)) (words-first n r)

-- some of them, computed
pub in_words : map (λ (k : ℕ). head_part k ++ words_part k) (0 ∷ 6 ∷ 10 ∷ 13 ∷ 14 ∷ [])
    ≡ text "Accepted: 0, the document has no fault" ∷
    text "Refused: 6, a value is against its form or its fixed value" ∷
    text "Refused: 10, the note buffer has fewer than 16 bytes" ∷
    text "Refused: 13, the document to be written is longer than its output or 1048576 bytes" ∷
    text "Refused: 14, an unknown refusal" ∷ []
unfolding head_part words_part around whole_in
in_words = refl

-- "three elements deep"; of a depth of 0 nothing is said
pub in-depth : map depth_line (0 ∷ 1 ∷ 3 ∷ 13 ∷ []) ≡ [] ∷ text "Depth: one element deep.\n" ∷ text "Depth: three elements deep.\n" ∷ text "Depth: 13 elements deep.\n" ∷ []
unfolding depth_line around whole_in
in-depth = refl

-- ---- the six numbers decide
abbrev six : Note → List ℕ
six n = six_of (Some n)

same_numbers : (n m : Note) → six n ≡ six m → explained n ≡ explained m
same_numbers n m e =
    ap
    (λ (l : List ℕ).
    explained (record { refusal = get_or l 0 0; place = get_or l 1 0; kind = get_or l 2 0; series = get_or l 3 0; intervals = get_or l 4 0; depth = get_or l 5 0 }))
    e

pub numbers-decide : (x y : List ℕ) (n m : Note) → note_on x ≡ Some n → note_on y ≡ Some m → six n ≡ six m → explanation x ≡ explanation y
unfolding explanation
numbers-decide x y n m ex ey e = ap meaning ex ∙ same_numbers n m e ∙ sym (ap meaning ey)

-- ---- nothing else is explained
not_taken : {n : Note} → None ≡ Some n → ⊥
not_taken e = zero-not-one (cc)

pub only-notes : (line : List ℕ) (n : Note) → note_on line ≡ Some n → (shape : Shape) × (line ≡ hex_text (note_of shape n)) × AllBelow (2 ^ 21) (numbers_for shape n)
unfolding note_on
only-notes line n e =
    let b = hex_bytes 16 line in
    ⊎_elim
    (λ y. absurd (not_taken (rw y.1 at e)))
    (λ y.
    ⊎_elim
    (λ z.
    let q : note_in b ≡ Some n = rw (y.1, z) at e in
    let i = (accepts-exactly b n (read-bytes 16 line)).0 q in
    (i.0, sym (same-equal (hex_text b) line z) ∙ ap hex_text i.1.bytes, i.1.small))
    (λ z. absurd (not_taken (rw (y.1, z) at e)))
    (bool_cases (same (hex_text b) line)))
    (ltb-cases 56 (length line))

-- ---- the room that an explanation takes
-- the length of the longest row
most : List (List ℕ) → ℕ
most [] = 0
most (t ∷ l) = max (length t) (most l)

row-size : (l : List (List ℕ)) (i : ℕ) → length (get_or l i []) ≤ most l
unfolding most
row-size [] i = omega arith
row-size (t ∷ l) zero = omega arith
row-size (t ∷ l) (suc i) = omega (arith, row-size l i)

around-size : (x : List ℕ) (n : ℕ) (y : List ℕ) → length (around x n y) ≤ length x + length y + 10
unfolding around
around-size x n y = omega (arith, length-append x (decimal n ++ y), length-append (decimal n) y, whole-in-few 9 n)

-- at most m characters
abbrev Short : ℕ → List ℕ → Type 0
Short m l = length l ≤ m

words_size : (n : ℕ) → Short 80 (words_part n)
unfolding words_part most
words_size n = by_cond (Short 80) (ltb 13 n) (omega arith) (omega (arith, row-size refusal_words n))

head-size : (n : ℕ) → Short 25 (head_part n)
unfolding head_part
head-size n = by_cond (Short 25) (eqb n 0) (omega arith) (omega (arith, around-size (text "Refused: ") n (text ", ")))

refusal-size : (n : ℕ) → Short 107 (refusal_line n)
unfolding refusal_line
refusal-size n =
    omega
    (arith, length-append (head_part n) (words_part n ++ text ".\n"), length-append (words_part n) (text ".\n"), head-size n, words_size n)

place-size : (r n : ℕ) → Short 80 (place_line r n)
unfolding place_line
place-size r n =
    by_cond (Short 80) (eqb r 0)
    (omega (arith, around-size (text "Length: the document has ") n (text " bytes.\n")))
    (omega (arith, around-size (text "Place: byte ") n (text " of the document, its first byte being byte 0.\n")))

kind-size : (n : ℕ) → Short 50 (kind_line n)
unfolding kind_line most
kind-size n = by_cond (Short 50) (ltb 3 n) (omega (arith, around-size (text "Kind: ") n (text ", an unknown kind.\n"))) (omega (arith, row-size kind_lines n))

series-size : (r n : ℕ) → Short 60 (series_part r n)
unfolding series_part
series-size r n =
    by_cond (Short 60) (eqb r 0)
    (omega (arith, around-size (text "Counts: the document has ") n (text " series and ")))
    (omega (arith, around-size (text "Counts: before that place ") n (text " series and ")))

intervals-size : (n : ℕ) → Short 30 (intervals_part n)
unfolding intervals_part
intervals-size n = by_cond (Short 30) (eqb n 1) (omega arith) (omega (arith, around-size [] n (text " intervals.\n")))

depth-size : (n : ℕ) → Short 40 (depth_line n)
unfolding depth_line most
depth-size n = by_cond (Short 40) (ltb 12 n) (omega (arith, around-size (text "Depth: ") n (text " elements deep.\n"))) (omega (arith, row-size depth_lines n))

meaning-size : (r : Option Note) → Short 370 (meaning r)
unfolding explained
meaning-size (Some n) =
    let l1 = refusal_line n.refusal in
    let l2 = place_line n.refusal n.place in
    let l3 = kind_line n.kind in
    let l4 = series_part n.refusal n.series in
    let l5 = intervals_part n.intervals in
    let l6 = depth_line n.depth in
    omega (
      arith,
      length-append l1 (l2 ++ (l3 ++ (l4 ++ (l5 ++ l6)))),
      length-append l2 (l3 ++ (l4 ++ (l5 ++ l6))),
      length-append l3 (l4 ++ (l5 ++ l6)),
      length-append l4 (l5 ++ l6),
      length-append l5 l6,
      refusal-size n.refusal,
      place-size n.refusal n.place,
      kind-size n.kind,
      series-size n.refusal n.series,
      intervals-size n.intervals,
      depth-size n.depth,
    )
meaning-size None = omega arith

pub explanation-fits : (line : List ℕ) → length (explanation line) ≤ 370
unfolding explanation
explanation-fits line = meaning-size (note_on line)
