-- "These fakes have to be rejected": what demand 2 asks of a reader, said of any reader, and 01's five fakes as readers. Each fake is the reader but for what it fakes, so that
-- nothing else gives it away. `fakes-rejected` of proofs/Promises.antt says that demand 2 is met by none of them, and `reader-promised` that the reader meets it.
use Rattle.std.specs.Prelude.{ℕ, suc, ◌≤◌, ◌≡◌, List, length, take}
use Rattle.refusals.specs.Refusals.{not_due}
use Rattle.lists.specs.Zeros.{padded}
use Rattle.guideline.specs.Kinds.{series_element}
use Rattle.series.specs.Row.{cells_of}
use Rattle.notes.specs.declared.Shape.{Shape}
use Rattle.states.specs.Moves.{begun}
use Rattle.reader.specs.Reading.{Tables, tab, blank, room_of, refused_at}
use Rattle.reader.specs.Answer.{Outcome, noted, read_of}
use Rattle.trees.specs.Trees.{Trees}
use Rattle.contents.specs.Said.{TagSaid}
use Rattle.contents.specs.Spelled.{Spells}
use Rattle.contents.specs.Legal.{Legal, HasRoom}
use Rattle.contents.specs.Shown.{Tells}
use Rattle.promises.specs.Items.{before, starts, kind_in, interval_element, items_in}
use Rattle.promises.specs.Sheet.{sheet}

-- a document, the lengths of the series, position and amount tables, the shape, and the length of the note buffer
abbrev pub Reader : Type 0
Reader = List ℕ → ℕ → ℕ → ℕ → Shape → ℕ → Outcome

-- `accepted-exactly` and `counts-of-start-tags`, of any reader
pub record Promised (r : Reader) : Type 0 where
  pub legal : (doc : List ℕ) (ns np na : ℕ) (shape : Shape) (nb : ℕ) → 16 ≤ nb → length doc ≤ 1048576 → (r doc ns np na shape nb).answer.refusal ≡ 0
      → (kind : ℕ) × (c : Trees TagSaid) × Spells doc kind c × Legal kind c × HasRoom (room_of ns np na) kind c
  pub tells : (doc : List ℕ) (ns np na : ℕ) (shape : Shape) (nb : ℕ) → 16 ≤ nb → length doc ≤ 1048576
      → (kind : ℕ) (c : Trees TagSaid) → Spells doc kind c → Legal kind c → HasRoom (room_of ns np na) kind c → Tells doc (r doc ns np na shape nb) kind c
  pub kinds : (doc : List ℕ) (ns np na : ℕ) (shape : Shape) (nb : ℕ)
      → (r doc ns np na shape nb).answer.kind ≡ kind_in (before (r doc ns np na shape nb).answer.place (items_in doc))
  pub series : (doc : List ℕ) (ns np na : ℕ) (shape : Shape) (nb : ℕ) → (r doc ns np na shape nb).answer.series
      ≡ starts (series_element (r doc ns np na shape nb).answer.kind) (before (r doc ns np na shape nb).answer.place (items_in doc))
  pub intervals : (doc : List ℕ) (ns np na : ℕ) (shape : Shape) (nb : ℕ) → (r doc ns np na shape nb).answer.intervals
      ≡ starts interval_element (before (r doc ns np na shape nb).answer.place (items_in doc))

-- "a reader that refuses everything"
abbrev pub refuses_everything : Reader
refuses_everything doc ns np na shape nb = noted shape nb (record { found = refused_at not_due 0 begun; tables = blank ns np na })

-- "or gives one answer for all": what the sheet gets
abbrev pub one_answer : Reader
one_answer doc ns np na shape nb = read_of sheet ns np na shape nb

abbrev pub with_tables : Outcome → Tables → Outcome
with_tables o t = record { answer = o.answer; tables = t; note = o.note }

-- "one that does nothing": the tables are left as they were lent, which may be blank
abbrev pub does_nothing : Reader
does_nothing doc ns np na shape nb = with_tables (read_of doc ns np na shape nb) (blank ns np na)

-- "one that fills only the first series and pretends after it"
abbrev pub first_row_alone : ℕ → Tables → Tables
first_row_alone ns t = tab (padded ns (take (cells_of 1) t.series)) t.positions t.amounts

abbrev pub first_series_only : Reader
first_series_only doc ns np na shape nb = with_tables (read_of doc ns np na shape nb) (first_row_alone ns (read_of doc ns np na shape nb).tables)

-- "one that invents counts": a series more than there are
abbrev pub one_more_series : Outcome → Outcome
one_more_series o =
    record {
      answer =
          record {
            refusal = o.answer.refusal;
            place = o.answer.place;
            kind = o.answer.kind;
            series = suc o.answer.series;
            intervals = o.answer.intervals;
            quarters = o.answer.quarters;
            note = o.answer.note;
          };
      tables = o.tables;
      note = o.note;
    }

abbrev pub invents_counts : Reader
invents_counts doc ns np na shape nb = one_more_series (read_of doc ns np na shape nb)

-- the reader of this library
abbrev pub the_reader : Reader
the_reader = read_of
