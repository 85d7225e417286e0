-- What is promised of the document reader. Its contract says that the answer and the four lent buffers are exactly those of `read_of`, the definition in
-- reader/specs/Answer.antt; here is what holds of `read_of`, for all documents and all lengths of the lent buffers. Each promise is proved by one
-- citation; above it stands the sentence that it means. Assumes nothing.
use Prim.Native.Nat.{ℕ, ◌+◌, ◌≤◌, ◌<◌}
use mathlib.Core.Path.{◌≡◌}
use mathlib.Core.List.{List, ◌∷◌, ◌++◌}
use mathlib.Core.Logic.{◌⊎◌}
use mathlib.Core.Bool.{Bool, true, false}
use lib.IntN.{ℤ, pos}
use lib.ListN.{length, take, drop, get_or}
use Rattle.std.specs.Prelude.{Some}
use Rattle.slices.specs.Text.{text}
use Rattle.lists.specs.Zeros.{zeros, padded}
use Rattle.attributes.specs.Attribute.{quote}
use Rattle.notes.specs.Note.{note_of, tells_in}
use Rattle.notes.specs.Reader.{note_in}
use Rattle.notes.specs.declared.Shape.TheVariants.{Old}
use Rattle.notes.specs.declared.Shape.{Shape}
use Rattle.items.specs.Item.{item_refusal}
use Rattle.items.specs.declared.Item.{Item}
use Rattle.states.specs.Moves.{step}
use Rattle.states.specs.declared.State.{State}
use Rattle.states.specs.declared.Room.{Room}
use Rattle.states.specs.Step.{Refused}
use Rattle.reader.specs.Reading.{blank, room_of}
use Rattle.reader.specs.Answer.{Outcome, read_of, Permitted}
use Rattle.reader.specs.declared.Answer.{Answer}
use Rattle.reader.proofs.Unique.{read_one}
use Rattle.library.specs.Cells.{PermittedCall, PermittedNote, PermittedConversion}
use Rattle.library.proofs.Unique.{lumintayag-read-v3-one, lumintayag-read-note-v2-one, lumintayag-convert-note-one}
use Rattle.replies.specs.Reply.{reply_to, PermittedReply}
use Rattle.replies.proofs.Unique.{put-reply-one}
use Rattle.blindness.specs.Readable.{DifferInQty}
use Rattle.blindness.specs.Blind.{OwnDigitsDiffer}
use Rattle.blindness.specs.Renamed.{IdsReplaced, Renamed}
use Rattle.blindness.proofs.Outcomes.{two_runs}
use Rattle.prolog.specs.Prolog.{begin}
use Rattle.items.specs.Item.{item, item_end}
use Rattle.items.specs.declared.Tag.{Tag}
use Rattle.items.specs.declared.Item.TheVariants.{Start, Empty}
use Rattle.fronts.specs.Front.{EndsBefore}
use Rattle.faults.specs.Faults.{HasFault, FirstIn, NoneIn}
use Rattle.faults.proofs.First.{first-named, first-refused, faultless-accepted, accepted-faultless}
use Rattle.faults.proofs.After.{cut-ended, nothing-behind, same-fault}
use Rattle.trees.specs.Trees.{Trees, none}
use Rattle.contents.specs.Said.{TagSaid}
use Rattle.contents.specs.Spelled.{Spells, SpellAlike}
use Rattle.contents.specs.Legal.{Legal, HasRoom}
use Rattle.contents.specs.Shown.{each_interval, IntervalShown, Tells, SameButPlaces}
use Rattle.contents.proofs.Paired.{interval-shown}
use Rattle.contents.proofs.Theorems.{accepted-legal, legal-accepted, one-content, nothing-but-places}
use Rattle.likeness.specs.Alike.{BetweenItems, White, IsComment, SayAlike, Written, WrittenTag, tag_bytes, end_bytes, Quoted, Without, WellTag, SameTag, with_attributes, in_quotes}
use Rattle.likeness.proofs.Theorems.{replaced, alike-back, alike-on, white-between, comment-between, white-refused, comment-refused, tag-otherwise, tag-refused, other-quotes, other-order, empty-or-both}
use Rattle.likeness.proofs.Shapes.{start-written, empty-written}
use Rattle.likeness.proofs.Examples.{sender_tag, sender_otherwise, tags-spelt, sender-between, some-white, a-comment, tags-well, same-sender, quotes-free, empty_root, closed_root, roots-alike}
use Rattle.promises.specs.Answers.{note_told, count_in, longest, at_once}
use Rattle.promises.specs.Rows.{ZeroPast, InRoom, Sized}
use Rattle.guideline.specs.Kinds.{series_element}
use Rattle.guideline.specs.Rows.{rows_of}
use Rattle.promises.specs.Items.{before, starts, kind_in, interval_element, items_in, PlaceOf, start_tags, end_tags, open_before}
use Rattle.promises.specs.Examples.{examples, all_pass}
use Rattle.promises.specs.Day.{short_day, day_outcome}
use Rattle.promises.specs.Sheet.{sheet, sheet_outcome, dearer_sheet, dearer_outcome, renamed_sheet, twice_sheet, twice_answer, broken_sheet, longer_sheet, number_and_place, constraint_sheet, constraint_outcome, withdrawn_sheet, withdrawn_outcome}
use Rattle.promises.proofs.Refusals.{refused-anywhere}
use Rattle.promises.proofs.Answers.{ten-is, ten-only, long-is, long-only, refusal-clears, refusal-known, place-within, place-told, accepted-whole, counts-within, cells-past, rows-kept, counts-told, note-told, open_told}
use Rattle.promises.proofs.Faces.{two-calls, two-replies, renamed_runs, renamed-calls, renamed-replies}
use Rattle.promises.proofs.Examples.{examples-pass, day-read, day-content, sheet-read, sheet-content, dearer-read, twice-read, constraint-read, withdrawn-read, constraint-content, withdrawn-content, threefold, three-at-once, twice-first, sheet-faultless, broken-read, cut-read, ends-needed, roots-refused}
use Rattle.promises.specs.Fakes.{Promised, the_reader, refuses_everything, one_answer, does_nothing, first_series_only, invents_counts}
use Rattle.promises.proofs.Fakes.{reader-meets, refusing-fails, answering-fails, idling-fails, pretending-fails, inventing-fails}
use Rattle.promises.proofs.Dearer.{sheet-dearer, sheets-differ, amount-differs}
use Rattle.promises.proofs.Renamings.{sheet-renamed, renamed-read, sheet-twice}

-- "P1 to P12 form a single table with a single proved statement."
pub the-examples : all_pass examples ≡ true
the-examples = examples-pass

-- a document that is accepted, with two series
pub a-sheet : read_of sheet 25 4 4 Old 16 ≡ sheet_outcome
a-sheet = sheet-read

-- of kind 1: the shortest day, with 92 Intervals
pub a-day : read_of short_day 12 92 92 Old 16 ≡ day_outcome
a-day = day-read

-- and of K2's kind: with two series, and with none and a DocStatus
pub a-constraint : (read_of constraint_sheet 25 4 4 Old 16 ≡ constraint_outcome) × (read_of withdrawn_sheet 0 0 0 Old 16 ≡ withdrawn_outcome)
a-constraint = (constraint-read, withdrawn-read)

module _ (doc : List ℕ) (ns np na : ℕ) (shape : Shape) (nb : ℕ) where
  -- a document, the lengths of the series, position and amount tables, the shape that the caller picks, and the length of the note buffer
  abbrev pub outcome : Outcome
  outcome = read_of doc ns np na shape nb

  -- "the contract leaves one possible answer and one possible content of every lent buffer, for all inputs and refusals"
  pub one-outcome : {a a' : Answer} {s s' p p' : List ℕ} {m m' : List ℤ} {n n' : List ℕ} → Permitted outcome a s p m n → Permitted outcome a' s' p' m' n'
      → (a ≡ a') × (s ≡ s') × (p ≡ p') × (m ≡ m') × (n ≡ n')
  one-outcome = read_one doc ns np na shape nb

  -- the same of `lumintayag_read_v3`, with k cells for the answer's numbers
  pub one-call : (k : ℕ) {r r' : ℕ} {s s' p p' : List ℕ} {m m' : List ℤ} {n n' a a' : List ℕ} → PermittedCall outcome k r s p m n a → PermittedCall outcome k r' s' p' m' n' a'
      → (r ≡ r') × (s ≡ s') × (p ≡ p') × (m ≡ m') × (n ≡ n') × (a ≡ a')
  one-call k = lumintayag-read-v3-one doc ns np na shape nb k

  -- "On every refusal by the document reader, all cells of the three tables are 0."; "N (0 on every refusal)"
  pub refusal-leaves-nothing : (outcome.answer.refusal ≡ 0 → ⊥) → (outcome.tables ≡ blank ns np na) × (outcome.answer.quarters ≡ 0)
  refusal-leaves-nothing = refusal-clears doc ns np na shape nb

  -- "10: the note buffer has fewer than 16 bytes"; "10 is looked at first"; "On 10 the note buffer is all 0."; "the note's length (0 on refusal 10)"
  pub ten-exactly : (outcome.answer.refusal ≡ 10 → nb < 16)
      × (nb < 16 → (outcome.answer ≡ at_once 10 0) × (outcome.tables ≡ blank ns np na) × (outcome.note ≡ zeros nb))
  ten-exactly = (ten-only doc ns np na shape nb, ten-is doc ns np na shape nb)

  -- "1: the document is longer than 1,048,576 bytes"; "10 is looked at first, then 1"
  pub one-exactly : (outcome.answer.refusal ≡ 1 → 1048576 < length doc) × (16 ≤ nb → 1048576 < length doc → outcome.answer ≡ at_once 1 (count_in shape))
  one-exactly = (long-only doc ns np na shape nb, long-is doc ns np na shape nb)

  -- "No number is given otherwise.": 11 is the note reader's alone
  pub known-number : outcome.answer.refusal ≤ 10
  known-number = refusal-known doc ns np na shape nb

  -- "Acceptance is number 0 with place equal to the length."
  pub accepted-at-length : outcome.answer.refusal ≡ 0 → outcome.answer.place ≡ length doc
  accepted-at-length = accepted-whole doc ns np na shape nb

  -- "item or length"; "The place of an item is the index of its first byte .. at the end of the document it is the length."
  pub place-of-item : (outcome.answer.place ≤ length doc) × (16 ≤ nb → length doc ≤ 1048576 → PlaceOf doc outcome.answer.place)
  place-of-item = (place-within doc ns np na shape nb, place-told doc ns np na shape nb)

  -- "Kind is that of a root start standing in an item before the faulty one, else 0. Series and intervals count their start tags in items before the
  -- faulty one. On acceptance they are those of the whole document."
  pub counts-of-start-tags : (outcome.answer.kind ≡ kind_in (before outcome.answer.place (items_in doc)))
      × (outcome.answer.series ≡ starts (series_element outcome.answer.kind) (before outcome.answer.place (items_in doc)))
      × (outcome.answer.intervals ≡ starts interval_element (before outcome.answer.place (items_in doc)))
  counts-of-start-tags = counts-told doc ns np na shape nb

  -- "Two document kinds", and with K2 three; and no count is longer than the document
  pub counts-in-document : (outcome.answer.kind ≤ 3) × (outcome.answer.series ≤ length doc) × (outcome.answer.intervals ≤ length doc)
  counts-in-document = counts-within doc ns np na shape nb

  -- "The note is five numbers: refusal, place, kind, series, intervals."; "A new note begins with the number 100, then the old five, then the count of elements open
  -- before the faulty item": start tags less end tags among the items before the place; it is in the buffer, "and the bytes after it are 0"; read back, it gives its numbers.
  -- "Neither shape, as the document reader writes it, is so long": over 16 bytes
  pub note-of-answer : 16 ≤ nb
      → (outcome.answer.note ≡ length (note_of shape (note_told outcome.answer (open_before doc outcome.answer.place))))
      × (outcome.answer.note ≤ longest shape)
      × (outcome.note ≡ padded nb (note_of shape (note_told outcome.answer (open_before doc outcome.answer.place))))
      × (note_in (take outcome.answer.note outcome.note) ≡ Some (tells_in shape (note_told outcome.answer (open_before doc outcome.answer.place))))
  note-of-answer = note-told doc ns np na shape nb

  -- no more end tags than start tags stand before the place, so that the one less the other is a count; "on acceptance 0"
  pub depth-of-open-elements : (end_tags (before outcome.answer.place (items_in doc)) ≤ start_tags (before outcome.answer.place (items_in doc)))
      × (outcome.answer.refusal ≡ 0 → open_before doc outcome.answer.place ≡ 0)
  depth-of-open-elements = open_told doc ns np na shape nb

  -- "Room for series is the table length divided by 8, rounded down. .. room is the shorter length.": every row that is counted has its cells
  pub rows-have-room : InRoom ns np na outcome.answer.series outcome.answer.intervals × Sized ns np na outcome.tables
  rows-have-room = rows-kept doc ns np na shape nb

  -- "Cells past the last row are 0."
  pub zero-past-rows : ZeroPast outcome.answer.series outcome.answer.intervals outcome.tables
  zero-past-rows = cells-past doc ns np na shape nb

  -- "A document is accepted exactly when it meets every rule of the format descriptions": where the note buffer and the document's length keep to 01's limits, it is
  -- accepted exactly when it spells a legal content for which the tables have room; and then answer and tables are those of the content
  pub accepted-exactly : 16 ≤ nb → length doc ≤ 1048576
      → (outcome.answer.refusal ≡ 0 → (kind : ℕ) × (c : Trees TagSaid) × Spells doc kind c × Legal kind c × HasRoom (room_of ns np na) kind c)
      × ((kind : ℕ) (c : Trees TagSaid) → Spells doc kind c → Legal kind c → HasRoom (room_of ns np na) kind c → Tells doc outcome kind c)
  accepted-exactly wide small = (accepted-legal doc ns np na shape nb wide small, legal-accepted doc ns np na shape nb wide small)

  -- "Intervals take one position and one amount at the same index .. Rows come in document order.": row j has the Pos and the Qty of Interval j of the content, which has one each
  pub row-of-interval : 16 ≤ nb → length doc ≤ 1048576 → (kind : ℕ) (c : Trees TagSaid) → Spells doc kind c → Legal kind c → HasRoom (room_of ns np na) kind c
      → (j : ℕ) → j < outcome.answer.intervals → IntervalShown outcome.tables (rows_of kind) j (get_or (each_interval (rows_of kind) c) j none)
  row-of-interval wide small kind c spells legal room =
      interval-shown doc outcome kind c legal (legal-accepted doc ns np na shape nb wide small kind c spells legal room)

  -- "The first item with a fault decides; where it has several, the smallest number.": a refusal names the first fault and its place, and a document is refused with
  -- no other number and at no other place than those of its first fault. `FirstIn` says of each item which faults it has, clause by clause and in no order
  pub first-fault-named : 16 ≤ nb → length doc ≤ 1048576 → ((outcome.answer.refusal ≡ 0 → ⊥) → FirstIn doc ns np na outcome.answer.refusal outcome.answer.place)
      × ((n p : ℕ) → FirstIn doc ns np na n p → (outcome.answer.refusal ≡ n) × (outcome.answer.place ≡ p))
  first-fault-named wide small = (first-named doc ns np na shape nb wide small, first-refused doc ns np na shape nb wide small)

  -- and a document without a fault is accepted, and no other
  pub faultless-exactly : 16 ≤ nb → length doc ≤ 1048576 → (NoneIn doc ns np na → outcome.answer.refusal ≡ 0) × (outcome.answer.refusal ≡ 0 → NoneIn doc ns np na)
  faultless-exactly wide small = (faultless-accepted doc ns np na shape nb wide small, accepted-faultless doc ns np na shape nb wide small)

  -- "The first item with a fault decides": the items before it have none. A document cut before its faulty item is accepted, or refused with 3 at its end
  pub cut-before-fault : 16 ≤ nb → length doc ≤ 1048576 → (p : ℕ) → outcome.answer.place ≡ p
      → ((read_of (take p doc) ns np na shape nb).answer.refusal ≡ 0)
      ⊎ (((read_of (take p doc) ns np na shape nb).answer.refusal ≡ 3) × ((read_of (take p doc) ns np na shape nb).answer.place ≡ p))
  cut-before-fault wide small p at = cut-ended doc ns np na shape nb small p at wide

  -- and what stands behind it decides nothing: a document y with the same bytes up to the end of the faulty item, which ends there in y too, has the same answer, tables and note
  pub nothing-behind-matters : length doc ≤ 1048576 → (y : List ℕ) → length y ≤ 1048576 → (p : ℕ) → outcome.answer.place ≡ p
      → take (p + item_end (item p (drop p doc))) y ≡ take (p + item_end (item p (drop p doc))) doc
      → EndsBefore (item p (drop p doc)) (drop (p + item_end (item p (drop p doc))) y) → read_of y ns np na shape nb ≡ outcome
  nothing-behind-matters small y short p at = nothing-behind doc ns np na shape nb small p at y short

  -- an unreadable item has no end that is its own: y has the same bytes up to its first one, an unreadable item there too, and begins its items where the document does
  pub same-fault-same-outcome : length doc ≤ 1048576 → (y : List ℕ) → length y ≤ 1048576 → (p : ℕ) → outcome.answer.place ≡ p → p < length doc → begin y ≡ begin doc
      → take (p + item_end (item p (drop p doc))) y ≡ take (p + item_end (item p (drop p doc))) doc → item p (drop p y) ≡ item p (drop p doc)
      → read_of y ns np na shape nb ≡ outcome
  same-fault-same-outcome small y short p at = same-fault doc ns np na shape nb small p at y short

-- demand 2 as it is asked of any reader, `accepted-exactly` and `counts-of-start-tags`, is met by this one
pub reader-promised : Promised the_reader
reader-promised = reader-meets

-- "These fakes have to be rejected: a reader that refuses everything or gives one answer for all (demand 2 on acceptance), one that does nothing (demand 2 on tables), one that fills
-- only the first series and pretends after it (demand 2 on rows), one that invents counts (demand 2 on the note).": none of them meets it
pub fakes-rejected : (Promised refuses_everything → ⊥) × (Promised one_answer → ⊥) × (Promised does_nothing → ⊥) × (Promised first_series_only → ⊥) × (Promised invents_counts → ⊥)
fakes-rejected = (refusing-fails, answering-fails, idling-fails, pretending-fails, inventing-fails)

-- "2: the item is unreadable"; "3: .. other text": what an item is refused with by itself, it is refused with in every state
pub refused-by-itself : (x : State) (i : Item) (s : List ℕ) (room : Room) → (item_refusal i ≡ 0 → ⊥) → step x i s room ≡ Refused (item_refusal i)
refused-by-itself = refused-anywhere

-- there are documents of both sorts, and an item with three faults at once
pub a-first-fault : FirstIn twice_sheet 25 4 4 9 926 × NoneIn sheet 25 4 4 × (HasFault threefold 3 × HasFault threefold 5 × HasFault threefold 6)
a-first-fault = (twice-first, sheet-faultless, three-at-once)

-- a sheet that is refused for a tag, cut before the tag, and with anything behind the tag; and one with a fault behind its end
pub a-sheet-cut : (number_and_place (read_of (take 926 twice_sheet) 25 4 4 Old 16) ≡ (3, 926)) × (read_of broken_sheet 25 4 4 Old 16 ≡ read_of twice_sheet 25 4 4 Old 16)
    × ((number_and_place (read_of longer_sheet 25 4 4 Old 16) ≡ (3, 1387)) × (read_of (take 1387 longer_sheet) 25 4 4 Old 16 ≡ sheet_outcome))
a-sheet-cut = (cut-read.0, broken-read, cut-read.1)

-- that the item ends is needed: what follows may make an unreadable item readable, and a text unreadable
pub end_needed : (number_and_place (read_of (text "<a") 0 0 0 Old 16) ≡ (2, 0)) × (number_and_place (read_of (text "<a>") 0 0 0 Old 16) ≡ (3, 0))
    × (number_and_place (read_of (text "a") 0 0 0 Old 16) ≡ (3, 0)) × (number_and_place (read_of (text "a&") 0 0 0 Old 16) ≡ (2, 0))
end_needed = ends-needed

-- a legal content of each kind: those of the day, of the sheet, and of the two constraints above
pub a-day-content : (c : Trees TagSaid) × Spells short_day 1 c × Legal 1 c × HasRoom (room_of 12 92 92) 1 c
a-day-content = day-content

pub a-content : (c : Trees TagSaid) × Spells sheet 2 c × Legal 2 c × HasRoom (room_of 25 4 4) 2 c
a-content = sheet-content

pub a-constraint-content : ((c : Trees TagSaid) × Spells constraint_sheet 3 c × Legal 3 c × HasRoom (room_of 25 4 4) 3 c)
    × ((c : Trees TagSaid) × Spells withdrawn_sheet 3 c × Legal 3 c × HasRoom (room_of 0 0 0) 3 c)
a-constraint-content = (constraint-content, withdrawn-content)

-- a document spells one legal content at most, so that its content is unambiguous
pub content-alone : (doc : List ℕ) (kind other : ℕ) (c d : Trees TagSaid) → Spells doc kind c → Spells doc other d → Legal kind c → Legal other d
    → (kind ≡ other) × (c ≡ d)
content-alone = one-content

-- white text, comments, quotes, the order of attributes and the choice between an empty tag and a start with an end change nothing but places
pub places-alone : (x y : List ℕ) (ns np na : ℕ) (shape : Shape) (nb : ℕ) → 16 ≤ nb → length x ≤ 1048576 → length y ≤ 1048576 → SpellAlike x y
    → (read_of x ns np na shape nb).answer.refusal ≡ 0 → SameButPlaces x (read_of x ns np na shape nb) y (read_of y ns np na shape nb)
places-alone = nothing-but-places

-- What makes documents alike. Whatever stands behind a place between the items of a document, other bytes may stand there whose tags say the same
pub alike-by-parts : (a l m : List ℕ) → BetweenItems (a ++ l) (length a) → SayAlike l m → SpellAlike (a ++ l) (a ++ m)
alike-by-parts = replaced

-- likeness goes both ways, and on: what is said here of one change holds of many, and of those taken back
pub alike-both-ways : (x y : List ℕ) → SpellAlike x y → SpellAlike y x
alike-both-ways = alike-back

pub alike-by-steps : (x y z : List ℕ) → SpellAlike x y → SpellAlike y z → SpellAlike x z
alike-by-steps = alike-on

-- white text between two items, before the first or behind the last; beside a white text the two are one
pub alike-by-white : (a r : List ℕ) → BetweenItems (a ++ r) (length a) → (w : List ℕ) → White w → SpellAlike (a ++ r) (a ++ (w ++ r))
alike-by-white = white-between

-- a readable comment there
pub alike-by-comment : (a r : List ℕ) → BetweenItems (a ++ r) (length a) → (c : List ℕ) → IsComment c → SpellAlike (a ++ r) (a ++ (c ++ r))
alike-by-comment = comment-between

-- "An empty tag is a start and an end in one item."
pub alike-by-empty : (a r : List ℕ) (t : WrittenTag) (w : List ℕ) → WellTag t → White w → BetweenItems (a ++ (tag_bytes t true ++ r)) (length a)
    → SpellAlike (a ++ (tag_bytes t true ++ r)) (a ++ (tag_bytes t false ++ (end_bytes t.name w ++ r)))
alike-by-empty = empty-or-both

-- white space in a tag, where there may be some: before an attribute, around its `=`, before `>` or `/>`; and in one step other quotes and another order too
pub alike-by-tag : (a r : List ℕ) (empty : Bool) (s t : WrittenTag) → WellTag s → WellTag t → SameTag s t → BetweenItems (a ++ (tag_bytes s empty ++ r)) (length a)
    → SpellAlike (a ++ (tag_bytes s empty ++ r)) (a ++ (tag_bytes t empty ++ r))
alike-by-tag = tag-otherwise

-- the value of the attribute w "with single or double quotes", where it holds none of the new ones
pub alike-by-quotes : (a r : List ℕ) (empty : Bool) (t : WrittenTag) → WellTag t → BetweenItems (a ++ (tag_bytes t empty ++ r)) (length a)
    → (before : List Written) (w : Written) (more : List Written) (q : ℕ) → t.attributes ≡ before ++ (w ∷ more) → quote q ≡ true → Without q w.value
    → SpellAlike (a ++ (tag_bytes t empty ++ r)) (a ++ (tag_bytes (with_attributes t (before ++ (in_quotes q w ∷ more))) empty ++ r))
alike-by-quotes = other-quotes

-- two neighbouring attributes in the other order
pub alike-by-order : (a r : List ℕ) (empty : Bool) (t : WrittenTag) → WellTag t → BetweenItems (a ++ (tag_bytes t empty ++ r)) (length a)
    → (before : List Written) (v w : Written) (more : List Written) → t.attributes ≡ before ++ (v ∷ w ∷ more)
    → SpellAlike (a ++ (tag_bytes t empty ++ r)) (a ++ (tag_bytes (with_attributes t (before ++ (w ∷ v ∷ more))) empty ++ r))
alike-by-order = other-order

-- these leave no tag out: every start tag that can be read, and every empty tag, is a tag as it is written
pub start-tags-written : (before : ℕ) (s : List ℕ) (t : Tag) → item before s ≡ Start t → (w : WrittenTag) × WellTag w × (r : List ℕ) × (s ≡ tag_bytes w false ++ r)
start-tags-written = start-written

pub empty-tags-written : (before : ℕ) (s : List ℕ) (t : Tag) → item before s ≡ Empty t → (w : WrittenTag) × WellTag w × (r : List ℕ) × (s ≡ tag_bytes w true ++ r)
empty-tags-written = empty-written

-- a tag in a document, white space and a comment to put before it, the same tag written otherwise, and a value that may and one that may not change its quotes
pub alike-ways : BetweenItems (text "<Kostenblatt>" ++ (tag_bytes sender_tag true ++ text "</Kostenblatt>")) 13
    × (tag_bytes sender_tag true ≡ text "<SenderIdentification v=\"1\" codingScheme = 'A10'/>")
    × White (text " \n\t") × IsComment (text "<!-- sent by -->")
    × (WellTag sender_tag × WellTag sender_otherwise × SameTag sender_tag sender_otherwise) × (tag_bytes sender_otherwise true ≡ text "<SenderIdentification codingScheme = \"A10\" v='1' />")
    × (Without 0x22 (text "A10") × Quoted 0x22 (text "A'0") × (Quoted 0x27 (text "A'0") → ⊥))
alike-ways = (sender-between, tags-spelt.0, some-white, a-comment, (tags-well.0, tags-well.1, same-sender), tags-spelt.1, quotes-free)

-- and a refusal keeps its number, its place alone may move: with white text or a comment between items, and with a tag written otherwise
pub alike-refused-by-white : (a r : List ℕ) → BetweenItems (a ++ r) (length a) → (ns np na : ℕ) (shape : Shape) (nb : ℕ) → 16 ≤ nb → length (a ++ r) ≤ 1048576
    → (w : List ℕ) → White w → length (a ++ (w ++ r)) ≤ 1048576
    → (read_of (a ++ r) ns np na shape nb).answer.refusal ≡ (read_of (a ++ (w ++ r)) ns np na shape nb).answer.refusal
alike-refused-by-white = white-refused

pub alike-refused-by-comment : (a r : List ℕ) → BetweenItems (a ++ r) (length a) → (ns np na : ℕ) (shape : Shape) (nb : ℕ) → 16 ≤ nb → length (a ++ r) ≤ 1048576
    → (c : List ℕ) → IsComment c → length (a ++ (c ++ r)) ≤ 1048576
    → (read_of (a ++ r) ns np na shape nb).answer.refusal ≡ (read_of (a ++ (c ++ r)) ns np na shape nb).answer.refusal
alike-refused-by-comment = comment-refused

pub alike-refused-by-tag : (a r : List ℕ) (empty : Bool) (s t : WrittenTag) → WellTag s → WellTag t → SameTag s t → BetweenItems (a ++ (tag_bytes s empty ++ r)) (length a)
    → (ns np na : ℕ) (shape : Shape) (nb : ℕ) → 16 ≤ nb → length (a ++ (tag_bytes s empty ++ r)) ≤ 1048576 → length (a ++ (tag_bytes t empty ++ r)) ≤ 1048576
    → (read_of (a ++ (tag_bytes s empty ++ r)) ns np na shape nb).answer.refusal ≡ (read_of (a ++ (tag_bytes t empty ++ r)) ns np na shape nb).answer.refusal
alike-refused-by-tag = tag-refused

-- With an empty tag for a start tag and its end it may have another: `<Kostenblatt/>` is over too early, and lacks an attribute; of `<Kostenblatt></Kostenblatt>` the start tag has the
-- second fault alone
pub alike-refused-otherwise : SpellAlike empty_root closed_root
    × ((number_and_place (read_of empty_root 0 0 0 Old 16) ≡ (3, 0)) × (number_and_place (read_of closed_root 0 0 0 Old 16) ≡ (5, 0)))
alike-refused-otherwise = (roots-alike, roots-refused)

-- "Two documents of equal length that differ only in digits of readable Qty values get the same answer, place, counts and note, and the same cells but for
-- the amounts of accepted intervals whose own digits differ."; "Demand 3 covers the new note, with the same shape picked for both documents." Of two runs of the code
pub amounts-alone : (x y : List ℕ) (ns np na : ℕ) (shape : Shape) (nb : ℕ) → DifferInQty x y → {a a' : Answer} {s s' p p' : List ℕ} {m m' : List ℤ} {n n' : List ℕ}
    → Permitted (read_of x ns np na shape nb) a s p m n → Permitted (read_of y ns np na shape nb) a' s' p' m' n'
    → (a ≡ a') × (n ≡ n') × (s ≡ s') × (p ≡ p') × ((k : ℕ) → (get_or m k (pos 0) ≡ get_or m' k (pos 0)) ⊎ OwnDigitsDiffer ns np na shape nb x y k)
amounts-alone = two_runs

-- a pair of which that is promised, with an amount that differs: the sheet above and one with another digit in its first Qty. Both are accepted, and the first amount is that of a
-- Qty whose own digits differ
pub an-amount-differs : DifferInQty sheet dearer_sheet × (sheet ≡ dearer_sheet → ⊥) × (read_of dearer_sheet 25 4 4 Old 16 ≡ dearer_outcome)
    × OwnDigitsDiffer 25 4 4 Old 16 sheet dearer_sheet 0
an-amount-differs = (sheet-dearer, sheets-differ, dearer-read, amount-differs)

-- the same of `lumintayag_read_v3`
pub amounts-alone-called : (x y : List ℕ) → DifferInQty x y → (ns np na : ℕ) (shape : Shape) (nb k : ℕ) {r r' : ℕ} {s s' p p' : List ℕ} {m m' : List ℤ} {n n' a a' : List ℕ}
    → PermittedCall (read_of x ns np na shape nb) k r s p m n a → PermittedCall (read_of y ns np na shape nb) k r' s' p' m' n' a'
    → (r ≡ r') × (a ≡ a') × (n ≡ n') × (s ≡ s') × (p ≡ p') × ((j : ℕ) → (get_or m j (pos 0) ≡ get_or m' j (pos 0)) ⊎ OwnDigitsDiffer ns np na shape nb x y j)
amounts-alone-called = two-calls

-- the note reader, the converter and the program have one outcome too
pub one-note-call : (note : List ℕ) (k : ℕ) {r r' : ℕ} {f f' : List ℕ} → PermittedNote (note_in note) k r f → PermittedNote (note_in note) k r' f' → (r ≡ r') × (f ≡ f')
one-note-call = lumintayag-read-note-v2-one

pub one-conversion : (note : List ℕ) (shape : Shape) (room k : ℕ) {r r' : ℕ} {o o' a a' : List ℕ}
    → PermittedConversion note shape room k r o a → PermittedConversion note shape room k r' o' a' → (r ≡ r') × (o ≡ o') × (a ≡ a')
one-conversion = lumintayag-convert-note-one

pub one-reply : (input out : List ℕ) {r r' : ℕ} {b b' : List ℕ} → PermittedReply (reply_to input) out r b → PermittedReply (reply_to input) out r' b' → (r ≡ r') × (b ≡ b')
one-reply = put-reply-one

-- what the program prints does not depend on the digits of a price
pub replies-alone : (x y : List ℕ) → DifferInQty x y → (out : List ℕ) {r r' : ℕ} {b b' : List ℕ} → PermittedReply (reply_to x) out r b → PermittedReply (reply_to y) out r' b'
    → (r ≡ r') × (b ≡ b')
replies-alone = two-replies

-- 02: "Replace only the TimeSeriesIdentification values in tags before the first unreadable item, by a one-to-one rule over those in the document, each with the
-- same number of bytes and characters, with values that before and after are legal XML characters in UTF-8 and hold no `&`, `<`, quote or control byte. Then
-- number, place, note and all tables are the same." Of two runs of the code
pub identifications-alone : (x y : List ℕ) → Renamed x y → (ns np na : ℕ) (shape : Shape) (nb : ℕ) {a a' : Answer} {s s' p p' : List ℕ} {m m' : List ℤ} {n n' : List ℕ}
    → Permitted (read_of x ns np na shape nb) a s p m n → Permitted (read_of y ns np na shape nb) a' s' p' m' n'
    → (a ≡ a') × (s ≡ s') × (p ≡ p') × (m ≡ m') × (n ≡ n')
identifications-alone = renamed_runs

-- the same of `lumintayag_read_v3`
pub identifications-alone-called : (x y : List ℕ) → Renamed x y → (ns np na : ℕ) (shape : Shape) (nb k : ℕ) {r r' : ℕ} {s s' p p' : List ℕ} {m m' : List ℤ} {n n' a a' : List ℕ}
    → PermittedCall (read_of x ns np na shape nb) k r s p m n a → PermittedCall (read_of y ns np na shape nb) k r' s' p' m' n' a'
    → (r ≡ r') × (s ≡ s') × (p ≡ p') × (m ≡ m') × (n ≡ n') × (a ≡ a')
identifications-alone-called = renamed-calls

-- and of what the program prints
pub identifications-alone-printed : (x y : List ℕ) → Renamed x y → (out : List ℕ) {r r' : ℕ} {b b' : List ℕ}
    → PermittedReply (reply_to x) out r b → PermittedReply (reply_to y) out r' b' → (r ≡ r') × (b ≡ b')
identifications-alone-printed = renamed-replies

-- a pair of which that is promised: two series, both sheets accepted
pub a-renamed-sheet : Renamed sheet renamed_sheet × (read_of renamed_sheet 25 4 4 Old 16 ≡ sheet_outcome)
a-renamed-sheet = (sheet-renamed, renamed-read)

-- "by a one-to-one rule": of a pair that meets all but that the second sheet is refused with 9
pub one-to-one-needed : IdsReplaced sheet twice_sheet × ((read_of twice_sheet 25 4 4 Old 16).answer ≡ twice_answer)
one-to-one-needed = (sheet-twice, twice-read)
