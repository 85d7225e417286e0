-- A line that is put into a buffer, its newline last; and what is replied to an input that is too long, and to any other.
-- Assumes nothing.
use mathlib.Core.Path.{◌≡◌, sym, ap, ◌∙◌}
use mathlib.Core.List.{List, [], ◌∷◌, ◌++◌}
use mathlib.Core.Logic.{⊎_elim}
use Prim.Native.Nat.{ℕ, ◌+◌, ◌≤◌, ◌<◌, min}
use native.Mathlib.Omega.{arith}
use lib.ListN.{length, take, set, length-set, length-append}
use lib.Seq.{sets, length-sets, set_out, length-take-le}
use borrow.Author.Tests.{lt-ltb, le-ltb}
use Rattle.lists.proofs.Stores.{sets_more}
use Rattle.lists.proofs.Cases.{leb-cases}
use Rattle.slices.specs.Text.{text}
use Rattle.lines.specs.Text.{hex_text}
use Rattle.series.specs.Row.{cells_of}
use Rattle.notes.specs.declared.Shape.TheVariants.{Old}
use Rattle.reader.specs.Answer.{Outcome, read_of}
use Rattle.replies.specs.Reply.{line_for, note_written, reply_to, PermittedReply}

-- a byte after w, dropped where w fills the buffer
byte_more : (w out : List ℕ) (n b : ℕ) → n ≡ min (length w) (length out) → set (sets out 0 w) n b ≡ sets out 0 (w ++ (b ∷ []))
byte_more w out n b e =
    ⊎_elim
    (λ y. let z : n ≡ 0 + length w = omega (arith, y.0) in ap (λ (k : ℕ). set (sets out 0 w) k b) z)
    (λ y.
    let l = length-sets out 0 w in
    set_out (sets out 0 w) n b (omega (arith, l, y.0)) ∙ sym (set_out (sets out 0 w) (0 + length w) b (omega (arith, l, y.0))))
    (leb-cases (length w) (length out))
    ∙ sym (sets_more w out 0 (b ∷ []))

-- w is put, and then "one newline"
pub put-line : (w out₀ out l : List ℕ) (n m : ℕ) → n ≡ min (length w) (length out₀) → out ≡ sets out₀ 0 w → m ≡ min (n + 1) (length out) → l ≡ set out n 10
    → PermittedReply (line_for w) out₀ m l
unfolding line_for
put-line w out₀ out l n m en eo em el =
    let o : length out ≡ length out₀ = ap length eo ∙ length-sets out₀ 0 w in
    let q : length l ≡ length out = ap length el ∙ length-set out n 10 in
    let h : m ≤ length l = omega (arith, em, q) in
    record {
      counted = omega (arith, en, em, o, length-append w (10 ∷ []));
      text = el ∙ ap (λ (t : List ℕ). set t n 10) eo ∙ byte_more w out₀ n 10 en;
      room = (h, sym (length-take-le m l h));
    }

-- the part of the buffer that is the note
pub note-part : (o : Outcome) (n : ℕ) (note part : List ℕ) → n ≡ o.answer.note → note ≡ o.note → part ≡ take n note → part ≡ note_written o
unfolding note_written
note-part o n note part en eo ep = ep ∙ ap (λ (k : ℕ). take k note) en ∙ ap (take o.answer.note) eo

pub reply-long : (input : List ℕ) → 65536 < length input → reply_to input ≡ line_for (text "too long")
unfolding reply_to
reply-long input h = simp (lt-ltb _ _ h)

pub reply-note : (input : List ℕ) → length input ≤ 65536 → reply_to input ≡ line_for (hex_text (note_written (read_of input (cells_of 64) 2048 2048 Old 16)))
unfolding reply_to
reply-note input h = simp (le-ltb _ _ h)
