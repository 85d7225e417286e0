-- "first those of the header, one for each attribute value of the header's rows in guideline order, then for each series one for each of its rows'
-- attribute values. .. Qty and Pos are not among them."
use Rattle.std.specs.Prelude.{ℕ, suc, ◌+◌, ◌*◌, ◌-◌, ◌/◌, List, [], ◌∷◌, Bool, true, false, cond, eqb, ltb, take}
use Prim.Native.String.{String}
use Rattle.slices.specs.Text.{text}
use Rattle.elements.specs.Names.{element_no}
use Rattle.structure.specs.Rows.{name_of}
use Rattle.columns.specs.Columns.{role_of, root_role, series_role, pos_role, qty_role}
use Rattle.states.specs.Attributes.{asks_v, asks_scheme}
use Rattle.states.specs.declared.Room.{Room}

-- the pairs of a header, and those of a series: as many as the kind with the most has, so that a series begins at the same pair in every kind
abbrev pub header_pairs : ℕ
header_pairs = 16

abbrev pub series_pairs : ℕ
series_pairs = 22

abbrev pub one_if : Bool → ℕ
one_if true = 1
one_if false = 0

-- the attribute values of a row, in this order: on the root DtdVersion, DtdRelease and DtdBDEWNachrichtenVersion; elsewhere `v` and codingScheme, where the row
-- has them
unfoldable pub values_of : ℕ → ℕ
values_of w =
    cond (eqb (role_of w) root_role) 3
    (cond (eqb (role_of w) pos_role) 0 (cond (eqb (role_of w) qty_role) 0 (one_if (asks_v w) + one_if (asks_scheme w))))

-- the pair after those of row w, of which the first is k; behind the row of the series stand the rows of the series
unfoldable pub pair_after : ℕ → ℕ → ℕ
pair_after k w = cond (eqb (role_of w) series_role) header_pairs (k + values_of w)

unfoldable pub pairs_after : ℕ → List ℕ → ℕ
pairs_after k [] = k
pairs_after k (w ∷ ws) = pairs_after (pair_after k w) ws

-- the first pair of row q, in the header or in the first series
unfoldable pub first_pair : List ℕ → ℕ → ℕ
first_pair rows q = pairs_after 0 (take q rows)

-- where it stands for the last of n series
unfoldable pub pair_in : ℕ → ℕ → ℕ
pair_in k n = cond (ltb k header_pairs) k (k + series_pairs * (n - 1))

-- the row of an element, or the end of the rows where there is none of this name
unfoldable pub row_named : ℕ → List ℕ → ℕ
row_named name [] = 0
row_named name (w ∷ ws) = cond (eqb (name_of w) name) 0 (suc (row_named name ws))

-- the first pair of an element by its name
unfoldable pub pair_of : List ℕ → String → ℕ
pair_of rows name = first_pair rows (row_named (element_no (text name)) rows)

-- a pair takes two cells
abbrev pub cell_of : ℕ → ℕ
cell_of k = 2 * k

-- for how many series a table of n cells has room. No table is lent for intervals: there is room for more of them than are counted
unfoldable pub view_room : ℕ → Room
view_room n = record { series = (n - cell_of header_pairs) / cell_of series_pairs; intervals = 4294967296 }
