-- The walk over a content whose elements know the item that opened them: what the reader puts into the tables along it. Assumes nothing.
use Prim.Native.Nat.{ℕ}
use mathlib.Core.Path.{◌≡◌}
use mathlib.Core.List.{List, [], ◌∷◌, ◌++◌}
use mathlib.Core.Bool.{Bool, true, false}
use lib.ListN.{get_or, drop}
use Rattle.items.specs.Parts.{span_of}
use Rattle.items.specs.declared.Item.{Item}
use Rattle.items.specs.declared.Item.TheVariants.{Start, Empty, End, Text, Comment, Unreadable}
use Rattle.columns.specs.Columns.{role_of}
use Rattle.times.specs.Periods.{quarter_hours}
use Rattle.states.specs.Moves.{entry_of}
use Rattle.states.specs.declared.State.{State}
use Rattle.reader.specs.Items.{Placed}
use Rattle.reader.specs.Rows.{used_before}
use Rattle.reader.specs.Reading.{Tables, tables_after}
use Rattle.trees.specs.Trees.{Sign, Opens, Closes, Trees, none, element}
use Rattle.contents.specs.Said.{TagSaid, Absent}
use Rattle.contents.specs.Spelled.{said_of_tag, element_in}
use Rattle.contents.specs.Legal.{position_of}
use Rattle.contents.proofs.Walk.{Tally, opened, walked}

-- what a placed item says
unfoldable pub said_by_item : Item → List ℕ → TagSaid
said_by_item (Start t) s = said_of_tag t s
said_by_item (Empty t) s = said_of_tag t s
said_by_item (End n e) s = record { v = Absent; scheme = Absent; dtd = record { version = Absent; release = Absent; message = Absent }; others = false; passable = true }
said_by_item (Text w e) s = record { v = Absent; scheme = Absent; dtd = record { version = Absent; release = Absent; message = Absent }; others = false; passable = true }
said_by_item (Comment e) s = record { v = Absent; scheme = Absent; dtd = record { version = Absent; release = Absent; message = Absent }; others = false; passable = true }
said_by_item (Unreadable p) s = record { v = Absent; scheme = Absent; dtd = record { version = Absent; release = Absent; message = Absent }; others = false; passable = true }

abbrev pub said_of : Placed → TagSaid
said_of x = said_by_item x.item x.rest

-- the signs of the items, each start with its item
unfoldable pub placed_by : Placed → Item → List (Sign Placed)
placed_by x (Start t) = Opens x (element_in 1 t.name x.rest) ∷ []
placed_by x (Empty t) = Opens x (element_in 1 t.name x.rest) ∷ Closes (element_in 1 t.name x.rest) ∷ []
placed_by x (End n e) = Closes (element_in 2 n x.rest) ∷ []
placed_by x (Text w e) = []
placed_by x (Comment e) = []
placed_by x (Unreadable p) = []

unfoldable pub placed_signs : List Placed → List (Sign Placed)
placed_signs [] = []
placed_signs (x ∷ xs) = placed_by x x.item ++ placed_signs xs

-- the content itself, its elements being told by their items
unfoldable pub saying : Trees Placed → Trees TagSaid
saying none = none
saying (element q x inner after) = element q (said_of x) (saying inner) (saying after)

-- the reading state that goes with a tally, at row r, open or closed
unfoldable pub state_of : ℕ → ℕ → Bool → Tally → State
state_of kind r inside y =
    record {
      kind = kind;
      row = r;
      inside = inside;
      series = y.series;
      intervals = y.intervals;
      first = y.first;
      from = y.period.start;
      to = y.period.end;
      quarters = quarter_hours y.period.start y.period.end;
      last = y.last;
      originals = y.originals;
      seen = y.seen;
    }

-- the tables after the start tag of an element of row q, y being the tally after it
abbrev pub tables_with : ℕ → List ℕ → ℕ → Placed → Tally → Tables → Tables
tables_with kind rows q x y t = tables_after x (state_of kind q true y) (entry_of (role_of (get_or rows q 0)) (position_of (said_of x))) t

-- the tables after the elements
unfoldable pub filled : ℕ → List ℕ → Trees Placed → Tally → Tables → Tables
filled kind rows none y t = t
filled kind rows (element q x inner after) y t =
    let y' = opened (get_or rows q 0) (said_of x) y in
    filled kind rows after (walked rows (saying inner) y') (filled kind rows inner y' (tables_with kind rows q x y' t))

-- none of them brings a TimeSeriesIdentification that a row of the series table shows already
unfoldable pub Unused : List ℕ → ℕ → List ℕ → Trees Placed → Tally → Tables → Type 0
Unused doc kind rows none y t = Unit {0}
Unused doc kind rows (element q x inner after) y t =
    let y' = opened (get_or rows q 0) (said_of x) y in
    let t' = tables_with kind rows q x y' t in
    (used_before doc t.series (span_of x.item) x.rest y'.series (entry_of (role_of (get_or rows q 0)) (position_of (said_of x))) ≡ false)
    × Unused doc kind rows inner y' t'
    × Unused doc kind rows after (walked rows (saying inner) y') (filled kind rows inner y' t')

-- each element's item is a start or empty tag, and stands in the document
unfoldable pub is_tag : Item → Bool
is_tag (Start t) = true
is_tag (Empty t) = true
is_tag (End n e) = false
is_tag (Text w e) = false
is_tag (Comment e) = false
is_tag (Unreadable p) = false

unfoldable pub Stands : List ℕ → Trees Placed → Type 0
Stands doc none = Unit {0}
Stands doc (element q x inner after) = (is_tag x.item ≡ true) × (x.rest ≡ drop x.at doc) × Stands doc inner × Stands doc after
