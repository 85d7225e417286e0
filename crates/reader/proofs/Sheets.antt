-- How a document is read around its items: the declaration, refusals 1 and 10, blank tables, the note. Assumes nothing.
use Prim.Native.Nat.{ℕ, ◌≤◌, ◌<◌}
use mathlib.Core.Path.{◌≡◌, refl, sym, ap, ◌∙◌}
use mathlib.Core.List.{List}
use lib.IntN.{ℤ}
use lib.ListN.{length}
use borrow.Author.Rules.{rules}
use borrow.Author.Tests.{lt-ltb, le-ltb, eq-eqb, ne_eqb}
use Rattle.std.specs.Prelude.{Ok, Err}
use Rattle.lists.specs.Zeros.{zeros}
use Rattle.notes.specs.Note.{note_of, left}
use Rattle.notes.specs.declared.Shape.{Shape}
use Rattle.prolog.specs.Prolog.{begin}
use Rattle.tables.specs.Cells.{no_amounts}
use Rattle.states.specs.Moves.{begun}
use Rattle.states.specs.declared.Room.{Room}
use Rattle.reader.specs.declared.Found.{Found}
use Rattle.reader.specs.declared.Answer.{Answer}
use Rattle.reader.specs.Reading.{Tables, Out, tab, blank, room_in, refused_at, items_read, read_after, read_into, or_blank, read_sheet}
use Rattle.reader.specs.Judging.{judged_after, judged_into, judged}
use Rattle.reader.specs.Answer.{Outcome, note_for, answer_of, told, noted, unnoted, read_of, Permitted}

module _ (doc : List ℕ) (t : Tables) where
  pub into-items : (n : ℕ) {room : Room} → room ≡ room_in t → begin doc ≡ Ok n → items_read doc room n t ≡ read_into doc t
  unfolding read_into read_after
  into-items n r e = rw (r, e) refl

  pub into-unread : (p : ℕ) → begin doc ≡ Err p → record { found = refused_at 2 p begun; tables = t } ≡ read_into doc t
  unfolding read_into read_after
  into-unread p e = rw e refl

-- with room that is told
module _ (room : Room) (doc : List ℕ) where
  pub judged-items : (t : List ℕ) (n : ℕ) → begin doc ≡ Ok n → (items_read doc room n (tab t (zeros 1) (no_amounts 1))).found ≡ judged_into room doc t
  unfolding judged_into judged_after
  judged-items t n e = rw e refl

  pub judged-unread : (t : List ℕ) (p : ℕ) → begin doc ≡ Err p → refused_at 2 p begun ≡ judged_into room doc t
  unfolding judged_into judged_after
  judged-unread t p e = rw e refl

  pub judged-long : (n : ℕ) → 1048576 < length doc → refused_at 1 0 begun ≡ judged room doc n
  unfolding judged
  judged-long n h = rw (lt-ltb _ _ h) refl

  pub judged-short : (n : ℕ) {t : List ℕ} → length doc ≤ 1048576 → t ≡ zeros n → judged_into room doc t ≡ judged room doc n
  unfolding judged
  judged-short n h e = rw (e, le-ltb _ _ h) refl

-- into tables of these lengths; u is the tables made blank
module _ (doc : List ℕ) (ns np na : ℕ) {u : Tables} (q : u ≡ blank ns np na) where
  pub sheet-long : 1048576 < length doc → {f : Found} → f ≡ refused_at 1 0 begun → record { found = f; tables = u } ≡ read_sheet doc ns np na
  unfolding read_sheet or_blank refused_at
  sheet-long h e = rw (e, q, lt-ltb _ _ h) refl

  -- o is what came of the items
  module _ {o : Out} (h : length doc ≤ 1048576) (e : o ≡ read_into doc u) where
    into : read_into doc (blank ns np na) ≡ o
    into = sym (e ∙ ap (read_into doc) q)

    pub sheet-taken : o.found.refusal ≡ 0 → o ≡ read_sheet doc ns np na
    unfolding read_sheet or_blank
    sheet-taken k = rw (le-ltb _ _ h, into, eq-eqb _ _ k) refl

    pub sheet-refused : (o.found.refusal ≡ 0 → ⊥) → {w : Tables} → w ≡ blank ns np na → record { found = o.found; tables = w } ≡ read_sheet doc ns np na
    unfolding read_sheet or_blank
    sheet-refused k z = rw (le-ltb _ _ h, into, ne_eqb _ _ k, z) refl

-- a document of no more than 01's length gets what its items got
pub sheet-found : (doc : List ℕ) (ns np na : ℕ) → length doc ≤ 1048576 → (read_sheet doc ns np na).found ≡ (read_into doc (blank ns np na)).found
unfolding read_sheet or_blank
sheet-found doc ns np na h = rw (le-ltb 1048576 (length doc) h) refl

pub blank-same : {ns np na ns' np' na' : ℕ} → ns ≡ ns' → np ≡ np' → na ≡ na' → blank ns np na ≡ blank ns' np' na'
blank-same a b c = rw (a, b, c) refl

-- and the note of it, in this shape, into a buffer of nb bytes
module _ (doc : List ℕ) (ns np na : ℕ) (shape : Shape) (nb : ℕ) where
  pub read-unnoted : nb < 16 → unnoted ns np na nb ≡ read_of doc ns np na shape nb
  unfolding read_of
  read-unnoted h = rw (lt-ltb _ _ h) refl

  pub read-noted : 16 ≤ nb → noted shape nb (read_sheet doc ns np na) ≡ read_of doc ns np na shape nb
  unfolding read_of
  read-noted h = rw (le-ltb _ _ h) refl

  -- what is answered, and left in the four buffers
  module _ {a : Answer} {n : List ℕ} where
    pub read-ten : nb < 16 → a ≡ answer_of (refused_at 10 0 begun) 0 → {u : Tables} → u ≡ blank ns np na → n ≡ zeros nb
        → record { answer = a; tables = u; note = n } ≡ read_of doc ns np na shape nb
    unfolding unnoted
    read-ten h ea eu en = rw (ea, eu, en) (read-unnoted h)

    pub read_told : 16 ≤ nb → {o : Out} → o ≡ read_sheet doc ns np na → a ≡ told shape o.found → n ≡ left (note_of shape (note_for o.found)) nb
        → record { answer = a; tables = o.tables; note = n } ≡ read_of doc ns np na shape nb
    unfolding noted
    read_told h e ea en = rw (ea, en, e) (read-noted h)

pub permitted : {o : Outcome} {a : Answer} {s p : List ℕ} {m : List ℤ} {n : List ℕ} → record { answer = a; tables = tab s p m; note = n } ≡ o → Permitted o a s p m n
permitted e = rw (← e) (search rules)
