-- What the paper says of the program, over the definition `reply_to`.
--     empty-reply    of the empty input, computed
--     long-reply     of longer input
--     reply-fits     a buffer of 48 bytes has room for every reply
--     reply-whole    so that what is printed from it is the reply
-- Assumes nothing.
use mathlib.Core.Path.{◌≡◌, refl, ap, sym, ◌∙◌}
use mathlib.Core.List.{List, [], ◌∷◌}
use mathlib.Core.Logic.{⊎_elim}
use Prim.Native.Nat.{ℕ, ◌+◌, ◌≤◌, ◌<◌}
use native.Mathlib.Omega.{arith}
use lib.ListN.{length, take, drop, length-append, length-take, length-replicate}
use lib.Seq.{length-sets, sets-eq, take_at}
use Rattle.lists.specs.Zeros.{zeros}
use Rattle.lists.proofs.Cases.{ltb-cases}
use Rattle.slices.specs.Same.{same, begins}
use Rattle.slices.specs.Text.{text}
use Rattle.elements.specs.Names.{element_no, number_in, names}
use Rattle.structure.specs.Rows.{name_of, parent_of, required, ends_in, end_at, end_of, closes_document, over_of}
use Rattle.structure.specs.Depth.{height_in, depth_of}
use Rattle.guideline.specs.Rows.{kostenblatt, rows_of}
use Rattle.prolog.specs.Prolog.{mark_len, begin_after, begin}
use Rattle.states.specs.Moves.{begun}
use Rattle.notes.specs.Note.{groups_in, flat, note_of, left}
use Rattle.notes.specs.declared.Shape.TheVariants.{Old}
use Rattle.series.specs.Row.{cells_of}
use Rattle.reader.specs.Items.{items_after, items_from}
use Rattle.reader.specs.Reading.{blank, refused_at, accepted_at, ended_at, read_items, items_read, read_after, read_into, or_blank, read_sheet}
use Rattle.reader.specs.Answer.{note_for, answer_of, told, noted, read_of}
use Rattle.lines.specs.Text.{glyph_of, hex_text}
use Rattle.lines.proofs.Hex.{hex-size}
use Rattle.replies.specs.Reply.{line_for, note_written, reply_to, PermittedReply}
use Rattle.replies.proofs.Replies.{reply-long, reply-note}

-- "Empty input prints exactly `03 00 00 00 00`."
pub empty-reply : reply_to [] ≡ line_for (text "03 00 00 00 00")
unfolding reply_to line_for note_written hex_text glyph_of read_of noted told answer_of note_for groups_in flat left read_sheet or_blank blank read_into read_after items_read read_items ended_at accepted_at refused_at depth_of height_in items_from items_after begin begin_after mark_len begins same begun over_of closes_document end_of end_at ends_in name_of parent_of required rows_of kostenblatt element_no number_in names
empty-reply = refl

-- "for longer input it prints `too long` and one newline"
pub long-reply : (input : List ℕ) → 65536 < length input → reply_to input ≡ line_for (text "too long")
long-reply = reply-long

left-size : (w : List ℕ) → length (left w 16) ≡ 16
unfolding left
left-size w = length-sets (zeros 16) 0 w ∙ length-replicate {A = ℕ} 16 0

note-size : (input : List ℕ) (ns np na : ℕ) → length (note_written (read_of input ns np na Old 16)) ≤ 16
unfolding note_written read_of noted
note-size input ns np na =
    let f = (read_sheet input ns np na).found in
    let w = note_of Old (note_for f) in
    omega (arith, length-take (told Old f).note (left w 16), left-size w)

line-size : (w : List ℕ) → length w ≤ 47 → length (line_for w) ≤ 48
unfolding line_for
line-size w h = omega (arith, length-append w (10 ∷ []))

pub reply-fits : (input : List ℕ) → length (reply_to input) ≤ 48
reply-fits input =
    ⊎_elim
    (λ y. rw (reply-long input y.0) (line-size _ (omega arith)))
    (λ y.
    let w = note_written (read_of input (cells_of 64) 2048 2048 Old 16) in
    rw (reply-note input y.0) (line-size (hex_text w) (omega (arith, hex-size w, note-size input (cells_of 64) 2048 2048))))
    (ltb-cases 65536 (length input))

-- n and out' are what `put_reply` answers and leaves
pub reply-whole : (input out out' : List ℕ) (n : ℕ) → 48 ≤ length out → PermittedReply (reply_to input) out n out' → take n out' ≡ reply_to input
reply-whole input out out' n h p =
    let w = reply_to input in
    let f = reply-fits input in
    let k : n ≡ length w = omega (arith, f, p.counted) in
    let g : 0 + length w ≤ length out = omega (arith, f) in
    ap (take n) (p.text ∙ sets-eq w out 0 g) ∙ take_at w (drop (0 + length w) out) n (sym k)
