-- The items from front to back: "The first item with a fault decides; where it has several, the smallest number."
use Rattle.std.specs.Prelude.{ℕ, List, [], ◌∷◌, cond, ℤ, length, eqb, leb, ltb, Result, Ok, Err}
use Rattle.refusals.specs.Refusals.{no_refusal, too_long, unreadable_item, not_due, used_again}
use Rattle.lists.specs.Zeros.{zeros}
use Rattle.items.specs.Parts.{span_of}
use Rattle.items.specs.declared.Item.{Item}
use Rattle.prolog.specs.Prolog.{begin}
use Rattle.tables.specs.Cells.{no_amounts}
use Rattle.series.specs.Row.{room_for}
use Rattle.structure.specs.Rows.{over_of}
use Rattle.structure.specs.Depth.{depth_of}
use Rattle.guideline.specs.Rows.{rows_of}
use Rattle.states.specs.Moves.{begun, step}
use Rattle.states.specs.declared.State.{State}
use Rattle.states.specs.declared.Room.{Room}
use Rattle.states.specs.declared.Entry.{Entry}
use Rattle.states.specs.Step.{Step, Next, Refused}
use Rattle.reader.specs.Items.{Placed, items_from}
use Rattle.reader.specs.Rows.{series_after, positions_after, amounts_after, used_before}
use Rattle.reader.specs.declared.Found.{Found}

-- the three lent tables
pub record Tables : Type 0 where
  pub series : List ℕ
  pub positions : List ℕ
  pub amounts : List ℤ

abbrev pub tab : List ℕ → List ℕ → List ℤ → Tables
tab series positions amounts = record { series = series; positions = positions; amounts = amounts }

-- with all cells 0
unfoldable pub blank : ℕ → ℕ → ℕ → Tables
blank ns np na = record { series = zeros ns; positions = zeros np; amounts = no_amounts na }

abbrev pub blank_as : Tables → Tables
blank_as t = blank (length t.series) (length t.positions) (length t.amounts)

-- "Room becomes the table length divided by 12."; "Intervals take one position and one amount at the same index; room is the shorter length."
unfoldable pub room_of : ℕ → ℕ → ℕ → Room
room_of ns np na = cond (leb np na) (record { series = room_for ns; intervals = np }) (record { series = room_for ns; intervals = na })

-- "Kind is that of a root start standing in an item before the faulty one, else 0. Series and intervals count their start tags in items before
-- the faulty one."; "the count of elements open before the faulty item"; "N (0 on every refusal)", and so
-- the two ends of TimePeriodCovered
unfoldable pub refused_at : ℕ → ℕ → State → Found
refused_at n place st =
    record {
      refusal = n;
      place = place;
      kind = st.kind;
      series = st.series;
      intervals = st.intervals;
      depth = depth_of (rows_of st.kind) st.row st.inside;
      quarters = 0;
      from = 0;
      to = 0;
    }

-- "Acceptance is number 0 with place equal to the length."; "On acceptance they are those of the whole document."; the depth, "on acceptance 0"
unfoldable pub accepted_at : ℕ → State → Found
accepted_at place st =
    record {
      refusal = no_refusal;
      place = place;
      kind = st.kind;
      series = st.series;
      intervals = st.intervals;
      depth = 0;
      quarters = st.quarters;
      from = st.from;
      to = st.to;
    }

-- "Missing elements show .. at the end of the document.": 3 at the length, by the rows of the kind
unfoldable pub ended_at : List ℕ → ℕ → State → Found
ended_at rows place st = cond (over_of rows st.row st.inside) (accepted_at place st) (refused_at not_due place st)

-- an item that moved the state is refused where it brings a TimeSeriesIdentification that was used before
unfoldable pub without_used : List ℕ → List ℕ → Item → List ℕ → Step → Step
without_used doc t item s (Next st e) = cond (used_before doc t (span_of item) s st.series e) (Refused used_again) (Next st e)
without_used doc t item s (Refused n) = Refused n

unfoldable pub step_of : List ℕ → List ℕ → Room → Placed → State → Step
step_of doc t room x st = without_used doc t x.item x.rest (step st x.item x.rest room)

-- the tables after an item; st is the state after it
unfoldable pub tables_after : Placed → State → Entry → Tables → Tables
tables_after x st e t =
    record {
      series = series_after x.at (span_of x.item) x.rest st e t.series;
      positions = positions_after st e t.positions;
      amounts = amounts_after (span_of x.item) x.rest st e t.amounts;
    }

-- what was found, and the tables
pub record Out : Type 0 where
  pub found : Found
  pub tables : Tables

abbrev pub out : Found → List ℕ → List ℕ → List ℤ → Out
out found series positions amounts = record { found = found; tables = tab series positions amounts }

-- the items that are left, in a state, with the tables so far
unfoldable pub read_items : List ℕ → Room → List Placed → State → Tables → Out
read_items doc room [] st t = record { found = ended_at (rows_of st.kind) (length doc) st; tables = t }
read_items doc room (x ∷ xs) st t =
    elim (step_of doc t.series room x st) [
      | Next st' e ↦ read_items doc room xs st' (tables_after x st' e t)
      | Refused n ↦ record { found = refused_at n x.at st; tables = t }
    ]

unfoldable pub room_in : Tables → Room
room_in t = room_of (length t.series) (length t.positions) (length t.amounts)

-- those from the place `from` on, with this room, into blank tables
unfoldable pub items_read : List ℕ → Room → ℕ → Tables → Out
items_read doc room from t = read_items doc room (items_from doc from) begun t

-- from the first item on, or not at all where the XML declaration is unreadable
unfoldable pub read_after : List ℕ → Tables → Result ℕ ℕ → Out
read_after doc t (Ok n) = items_read doc (room_in t) n t
read_after doc t (Err p) = record { found = refused_at unreadable_item p begun; tables = t }

unfoldable pub read_into : List ℕ → Tables → Out
read_into doc t = read_after doc t (begin doc)

-- "On every refusal by the document reader, all cells of the three tables are 0."
unfoldable pub or_blank : ℕ → ℕ → ℕ → Out → Out
or_blank ns np na o = record { found = o.found; tables = cond (eqb o.found.refusal no_refusal) o.tables (blank ns np na) }

-- "1: the document is longer than 1,048,576 bytes"
unfoldable pub read_sheet : List ℕ → ℕ → ℕ → ℕ → Out
read_sheet doc ns np na =
    or_blank ns np na (cond (ltb 1048576 (length doc)) (record { found = refused_at too_long 0 begun; tables = blank ns np na }) (read_into doc (blank ns np na)))

-- into tables of these lengths
abbrev pub sheet_into : List ℕ → Tables → Out
sheet_into doc t = read_sheet doc (length t.series) (length t.positions) (length t.amounts)
