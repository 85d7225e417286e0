-- "A series takes eight u32 numbers, a length here being in bytes between the quotes: start and length of its TimeSeriesIdentification; of its
-- object (InParty in kind 1, ResourceObject in kind 2); of its BusinessType, spaces dropped; its first interval row; its interval count." And 02: "A
-- series row grows from eight numbers to twelve: after the BusinessType pair, start and length of Direction (spaces dropped) and of the area
-- (ConnectingArea; in kind 1, InArea), 0 and 0 where absent."
use Rattle.std.specs.Prelude.{ℕ, ◌+◌, ◌*◌, ◌/◌, ◌≡◌, List, Bool, true, false, get_or, set}
use Rattle.slices.specs.Part.{part_of}
use Rattle.series.specs.declared.Field.{Field}
use Rattle.series.specs.declared.Field.TheVariants.{Identification, Object, BusinessType, Direction, Area, FirstRow, Count}

-- the first cell of each field of a row; a view is start and length, in two cells
abbrev pub cell_of : Field → ℕ
cell_of Identification = 0
cell_of Object = 2
cell_of BusinessType = 4
cell_of Direction = 6
cell_of Area = 8
cell_of FirstRow = 10
cell_of Count = 11

abbrev pub is_view : Field → Bool
is_view Identification = true
is_view Object = true
is_view BusinessType = true
is_view Direction = true
is_view Area = true
is_view FirstRow = false
is_view Count = false

-- "of its BusinessType, spaces dropped", and of "Direction (spaces dropped)"
abbrev pub drops_spaces : Field → Bool
drops_spaces Identification = false
drops_spaces Object = false
drops_spaces BusinessType = true
drops_spaces Direction = true
drops_spaces Area = false
drops_spaces FirstRow = false
drops_spaces Count = false

-- how many numbers a series takes, and n series
abbrev pub row_width : ℕ
row_width = 12

abbrev pub cells_of : ℕ → ℕ
cells_of n = row_width * n

-- "Room becomes the table length divided by 12."
abbrev pub room_for : ℕ → ℕ
room_for n = n / row_width

-- the cell where a field of row i begins, rows being counted from 0
abbrev pub cell_at : ℕ → Field → ℕ
cell_at i f = cells_of i + cell_of f

abbrev pub field_at : List ℕ → ℕ → Field → ℕ
field_at t i f = get_or t (cell_at i f) 0

abbrev pub with_field : List ℕ → ℕ → Field → ℕ → List ℕ
with_field t i f n = set t (cell_at i f) n

-- start and length of a view
unfoldable pub with_view : List ℕ → ℕ → Field → ℕ → ℕ → List ℕ
with_view t i f start len = set (set t (cell_at i f) start) (cell_at i f + 1) len

-- a view that shows nothing, and stands nowhere
abbrev pub NoView : List ℕ → ℕ → Field → Type 0
NoView t i f = (get_or t (cell_at i f) 0 ≡ 0) × (get_or t (cell_at i f + 1) 0 ≡ 0)

-- the part of the document that a view shows
unfoldable pub view : List ℕ → List ℕ → ℕ → Field → List ℕ
view doc t i f = part_of doc (get_or t (cell_at i f) 0) (get_or t (cell_at i f + 1) 0)
