-- What a note says, in words. Every note is explained by its numbers, also one that no document reader gives, as acceptance with kind 0.
use Rattle.std.specs.Prelude.{ℕ, List, [], ◌∷◌, ◌++◌, cond, eqb, ltb, length, get_or, Option, Some, None}
use Rattle.slices.specs.Same.{same}
use Rattle.slices.specs.Text.{text}
use Rattle.lines.specs.Text.{hex_bytes, hex_text}
use Rattle.notes.specs.declared.Note.{Note}
use Rattle.notes.specs.Reader.{note_in}
use Rattle.explanations.specs.Decimal.{around}

-- "Refusal numbers", in words, from 0 on: "Acceptance is number 0"; 11 to 13 are those of the note reader and, by K6, of the writer, which no document reader gives
abbrev pub refusal_words : List (List ℕ)
refusal_words =
    text "the document has no fault" ∷
    text "the document is longer than 1048576 bytes" ∷
    text "an item is unreadable" ∷
    text "an element, an end tag or text is not due here, or the document ends too early" ∷
    text "a table for series or intervals is full" ∷
    text "an attribute is missing or unknown" ∷
    text "a value is against its form or its fixed value" ∷
    text "a value is outside its code list" ∷
    text "a value or a count is against another value" ∷
    text "a TimeSeriesIdentification was used before" ∷
    text "the note buffer has fewer than 16 bytes" ∷
    text "the bytes are not one note" ∷
    text "no legal Beschaffungsanforderung or Kostenblatt has this content" ∷
    text "the document to be written is longer than its output or 1048576 bytes" ∷ []

unfoldable pub words_part : ℕ → List ℕ
words_part n = cond (ltb 13 n) (text "an unknown refusal") (get_or refusal_words n [])

unfoldable pub head_part : ℕ → List ℕ
head_part n = cond (eqb n 0) (text "Accepted: 0, ") (around (text "Refused: ") n (text ", "))

unfoldable pub refusal_line : ℕ → List ℕ
refusal_line n = head_part n ++ (words_part n ++ text ".\n")

-- "The place of an item is the index of its first byte, with 0 for the document's first byte"; "Acceptance is number 0 with place equal to the length"
unfoldable pub place_line : ℕ → ℕ → List ℕ
place_line refusal place =
    cond (eqb refusal 0)
    (around (text "Length: the document has ") place (text " bytes.\n"))
    (around (text "Place: byte ") place (text " of the document, its first byte being byte 0.\n"))

-- "Beschaffungsanforderung 1.0, kind 1, and Kostenblatt 1.0, kind 2"; K2: "NetworkConstraintDocument 1.1a, .. kind 3"; "Kind is that of a root start standing in an item before the faulty one, else 0."
abbrev pub kind_lines : List (List ℕ)
kind_lines =
    text "Kind: 0, no root yet.\n" ∷
    text "Kind: 1, Beschaffungsanforderung.\n" ∷
    text "Kind: 2, Kostenblatt.\n" ∷
    text "Kind: 3, NetworkConstraintDocument.\n" ∷ []

unfoldable pub kind_line : ℕ → List ℕ
kind_line kind = cond (ltb 3 kind) (around (text "Kind: ") kind (text ", an unknown kind.\n")) (get_or kind_lines kind [])

-- "Series and intervals count their start tags in items before the faulty one. On acceptance they are those of the whole document."
unfoldable pub series_part : ℕ → ℕ → List ℕ
series_part refusal series =
    cond (eqb refusal 0)
    (around (text "Counts: the document has ") series (text " series and "))
    (around (text "Counts: before that place ") series (text " series and "))

unfoldable pub intervals_part : ℕ → List ℕ
intervals_part intervals = cond (eqb intervals 1) (text "1 interval.\n") (around [] intervals (text " intervals.\n"))

-- "the count of elements open before the faulty item"; nothing is said of a depth of 0, which is that of an old note too, and it tells none
abbrev pub depth_lines : List (List ℕ)
depth_lines =
    [] ∷
    text "Depth: one element deep.\n" ∷
    text "Depth: two elements deep.\n" ∷
    text "Depth: three elements deep.\n" ∷
    text "Depth: four elements deep.\n" ∷
    text "Depth: five elements deep.\n" ∷
    text "Depth: six elements deep.\n" ∷
    text "Depth: seven elements deep.\n" ∷
    text "Depth: eight elements deep.\n" ∷
    text "Depth: nine elements deep.\n" ∷
    text "Depth: ten elements deep.\n" ∷
    text "Depth: eleven elements deep.\n" ∷
    text "Depth: twelve elements deep.\n" ∷ []

unfoldable pub depth_line : ℕ → List ℕ
depth_line depth = cond (ltb 12 depth) (around (text "Depth: ") depth (text " elements deep.\n")) (get_or depth_lines depth [])

-- "The note is five numbers: refusal, place, kind, series, intervals."; the depth last
unfoldable pub explained : Note → List ℕ
explained n =
    refusal_line n.refusal ++
    (place_line n.refusal n.place ++ (kind_line n.kind ++ (series_part n.refusal n.series ++ (intervals_part n.intervals ++ depth_line n.depth))))

-- The note on a line, of either shape, where the line is as the program prints one: "two-digit upper-case hex, single spaces". No note has more than 19 bytes
-- (`fits-most` of notes), so no line of a note has more than 56 characters.
unfoldable pub note_on : List ℕ → Option Note
note_on line =
    cond (ltb 56 (length line)) None
    (cond (same (hex_text (hex_bytes 16 line)) line) (note_in (hex_bytes 16 line)) None)

abbrev pub meaning : Option Note → List ℕ
meaning (Some n) = explained n
meaning None = text "This is not a note.\n"

unfoldable pub explanation : List ℕ → List ℕ
explanation line = meaning (note_on line)
