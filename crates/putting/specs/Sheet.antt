-- For private contracts: the text that the code puts, over the lent lists. `sheet-layout` of proofs/ says that for the two kinds it is `draft_document`.
use Rattle.std.specs.Prelude.{ℕ, zero, suc, ◌+◌, ◌*◌, min, List, [], ◌∷◌, ◌++◌, Bool, true, false, cond, eqb, ltb, ℤ, pos, length, get_or, drop}
use Rattle.slices.specs.Text.{text}
use Rattle.columns.specs.Columns.{role_of, series_role, period_role}
use Rattle.structure.specs.Rows.{name_of}
use Rattle.states.specs.Attributes.{asks_v, asks_scheme}
use Rattle.series.specs.Row.{field_at}
use Rattle.series.specs.declared.Field.TheVariants.{FirstRow, Count}
use Rattle.views.specs.Layout.{header_pairs, series_pairs}
use Rattle.views.specs.Shown.{pair_view}
use Rattle.wholes.specs.Whole.{whole_text}
use Rattle.amounts.specs.Texts.{amount_text}
use Rattle.escapes.specs.Escaped.{escaped}
use Rattle.layouts.specs.Layout.{element_name}
use Rattle.drafts.specs.Draft.{role_row}
use Rattle.drafts.specs.Pairs.{pairs_of, has_pair}

-- the place after a text that is put at a place of n bytes; one past the last byte for all that find no room
unfoldable pub landed : List ℕ → ℕ → List ℕ → ℕ
landed out at t = min (at + length t) (length out + 1)

-- a name by its number; no bytes for 0
unfoldable pub name_text : ℕ → List ℕ
name_text zero = []
name_text (suc e) = element_name (suc e)

-- of those that Beschaffungsanforderung has not
unfoldable pub later_text : ℕ → List ℕ
later_text e = cond (ltb e 32) [] (name_text e)

unfoldable pub open_text : ℕ → List ℕ
open_text w = text "<" ++ name_text (name_of w)

unfoldable pub close_text : ℕ → List ℕ
close_text w = text "</" ++ (name_text (name_of w) ++ text ">")

unfoldable pub attribute_of : List ℕ → List ℕ → List ℕ → ℕ → List ℕ
attribute_of opens t pairs k = cond (has_pair pairs k) (opens ++ (escaped (pair_view t pairs k) ++ text "\"")) []

unfoldable pub scheme_text : List ℕ → List ℕ → ℕ → ℕ → List ℕ
scheme_text t pairs w k = cond (asks_scheme w) (attribute_of (text " codingScheme=\"") t pairs (k + 1)) []

-- one of the attributes of row w is there, whose first pair is k
unfoldable pub has_value : List ℕ → ℕ → ℕ → Bool
has_value pairs w k = cond (has_pair pairs k) true (cond (asks_scheme w) (has_pair pairs (k + 1)) false)

unfoldable pub single_text : List ℕ → List ℕ → ℕ → ℕ → List ℕ
single_text t pairs w k =
    cond (has_value pairs w k)
    (open_text w ++ (attribute_of (text " v=\"") t pairs k ++ (scheme_text t pairs w k ++ text "/>")))
    []

-- through the Period, up to what else has no `v`
unfoldable pub singles_text : List ℕ → List ℕ → ℕ → List ℕ → List ℕ
singles_text t pairs k [] = []
singles_text t pairs k (w ∷ ws) =
    cond (asks_v w) (single_text t pairs w k ++ singles_text t pairs (k + pairs_of w) ws)
    (cond (eqb (role_of w) period_role) (text "<Period>" ++ singles_text t pairs k ws) [])

unfoldable pub interval_text : ℕ → ℤ → List ℕ
interval_text p a = text "<Interval><Pos v=\"" ++ (whole_text p ++ (text "\"/><Qty v=\"" ++ (amount_text a ++ text "\"/></Interval>")))

-- n rows from row j on
unfoldable pub intervals_text : List ℕ → List ℤ → ℕ → ℕ → List ℕ
intervals_text positions amounts j zero = []
intervals_text positions amounts j (suc n) =
    interval_text (get_or positions j 0) (get_or amounts j (pos 0)) ++ intervals_text positions amounts (suc j) n

unfoldable pub series_text : List ℕ → List ℕ → List ℕ → ℕ → ℕ → List ℕ → List ℤ → ℕ → ℕ → List ℕ
series_text t pairs rows row k positions amounts first count =
    open_text (get_or rows row 0)
    ++ (text ">"
    ++ (singles_text t pairs k (drop (suc row) rows)
    ++ (intervals_text positions amounts first count ++ (text "</Period>" ++ close_text (get_or rows row 0)))))

-- n series from series i on
unfoldable pub every_series_text : List ℕ → List ℕ → List ℕ → List ℕ → List ℕ → List ℤ → ℕ → ℕ → List ℕ
every_series_text t pairs rows series positions amounts i zero = []
every_series_text t pairs rows series positions amounts i (suc n) =
    series_text t pairs rows (role_row series_role rows) (header_pairs + series_pairs * i) positions amounts (field_at series i FirstRow) (field_at series i Count)
    ++ every_series_text t pairs rows series positions amounts (suc i) n

unfoldable pub root_text : List ℕ → List ℕ → ℕ → List ℕ
root_text t pairs w =
    open_text w
    ++ (attribute_of (text " DtdVersion=\"") t pairs 0
    ++ (attribute_of (text " DtdRelease=\"") t pairs 1 ++ (attribute_of (text " DtdBDEWNachrichtenVersion=\"") t pairs 2 ++ text ">")))

unfoldable pub sheet_text : List ℕ → List ℕ → List ℕ → ℕ → List ℕ → List ℕ → List ℤ → List ℕ
sheet_text rows t pairs count series positions amounts =
    root_text t pairs (get_or rows 1 0)
    ++ (singles_text t pairs 3 (drop 2 rows) ++ (every_series_text t pairs rows series positions amounts 0 count ++ close_text (get_or rows 1 0)))
