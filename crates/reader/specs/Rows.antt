-- What an item brings into the lent tables: a field of the series row, or the position or the amount of the interval row. "Intervals take one position
-- and one amount at the same index. .. Rows come in document order."
use Rattle.std.specs.Prelude.{ℕ, zero, suc, ◌+◌, ◌-◌, List, Bool, true, false, cond, ℤ, pos, length, set, Option, unwrap_or}
use Rattle.slices.specs.Same.{same}
use Rattle.characters.specs.Says.{says}
use Rattle.slices.specs.Part.{part_of}
use Rattle.slices.specs.declared.Span.{Span}
use Rattle.trims.specs.Trim.{dropped, lead_of, trimmed_of}
use Rattle.numbers.specs.Amount.{amount_of}
use Rattle.series.specs.Row.{is_view, drops_spaces, with_field, with_view, view}
use Rattle.series.specs.declared.Field.{Field}
use Rattle.series.specs.declared.Field.TheVariants.{Identification, Object, BusinessType, Direction, Area, FirstRow, Count}
use Rattle.states.specs.declared.State.{State}
use Rattle.states.specs.declared.Entry.{Entry}
use Rattle.states.specs.declared.Entry.TheVariants.{Nothing, Series, Interval, Position, Amount}
use Rattle.states.specs.declared.Entry.TheVariants.{Identification as BringsIdentification, Object as BringsObject, BusinessType as BringsBusinessType, Direction as BringsDirection, Area as BringsArea}
use Rattle.reader.specs.declared.rows.Brought.{Brought}
use Rattle.reader.specs.declared.rows.Brought.TheVariants.{NoCell, InRow, AtPosition, AtAmount}

-- the bytes between its quotes; s is the part of the document that begins with the item
unfoldable pub quoted : Span → List ℕ → List ℕ
quoted v s = part_of s v.start v.len

-- "its first interval row; its interval count"
abbrev pub count_for : State → Field → ℕ
count_for st Identification = 0
count_for st Object = 0
count_for st BusinessType = 0
count_for st Direction = 0
count_for st Area = 0
count_for st FirstRow = st.first
count_for st Count = st.intervals - st.first

-- the series table after an item at the place `at` that brings a view of row i; its `v` is in v
abbrev pub view_after : ℕ → Span → List ℕ → ℕ → Field → List ℕ → List ℕ
view_after at v s i f t =
    cond (drops_spaces f) (with_view t i f (at + v.start + lead_of (quoted v s)) (length (trimmed_of (quoted v s)))) (with_view t i f (at + v.start) v.len)

-- and after one that brings a field of the last row; st is the state after it
unfoldable pub field_after : ℕ → Span → List ℕ → State → Field → List ℕ → List ℕ
field_after at v s st f t = cond (is_view f) (view_after at v s (st.series - 1) f t) (with_field t (st.series - 1) f (count_for st f))

-- what an item brings, by where it goes
unfoldable pub brought_by : Entry → Brought
brought_by Nothing = NoCell
brought_by Series = InRow FirstRow
brought_by BringsIdentification = InRow Identification
brought_by BringsObject = InRow Object
brought_by BringsBusinessType = InRow BusinessType
brought_by BringsDirection = InRow Direction
brought_by BringsArea = InRow Area
brought_by Interval = InRow Count
brought_by (Position p) = AtPosition p
brought_by Amount = AtAmount

unfoldable pub thousandths_of : Option ℤ → ℤ
thousandths_of a = unwrap_or a (pos 0)

-- the three tables after it
unfoldable pub series_with : ℕ → Span → List ℕ → State → Brought → List ℕ → List ℕ
series_with at v s st NoCell t = t
series_with at v s st (InRow f) t = field_after at v s st f t
series_with at v s st (AtPosition p) t = t
series_with at v s st AtAmount t = t

unfoldable pub positions_with : State → Brought → List ℕ → List ℕ
positions_with st NoCell t = t
positions_with st (InRow f) t = t
positions_with st (AtPosition p) t = set t (st.intervals - 1) p
positions_with st AtAmount t = t

unfoldable pub amounts_with : Span → List ℕ → State → Brought → List ℤ → List ℤ
amounts_with v s st NoCell t = t
amounts_with v s st (InRow f) t = t
amounts_with v s st (AtPosition p) t = t
amounts_with v s st AtAmount t = set t (st.intervals - 1) (thousandths_of (amount_of (dropped (says (quoted v s)))))

unfoldable pub series_after : ℕ → Span → List ℕ → State → Entry → List ℕ → List ℕ
series_after at v s st e t = series_with at v s st (brought_by e) t

unfoldable pub positions_after : State → Entry → List ℕ → List ℕ
positions_after st e t = positions_with st (brought_by e) t

unfoldable pub amounts_after : Span → List ℕ → State → Entry → List ℤ → List ℤ
amounts_after v s st e t = amounts_with v s st (brought_by e) t

-- one of the first n rows of the series table shows a TimeSeriesIdentification that says the same. K4: "two identifications are equal when their meanings are"
unfoldable pub used : List ℕ → List ℕ → ℕ → List ℕ → Bool
used doc t zero id = false
used doc t (suc n) id = let before = used doc t n id in cond (same (says (view doc t n Identification)) id) true before

-- "9: TimeSeriesIdentification used before in this document": by a series before the last
unfoldable pub used_in : List ℕ → List ℕ → Span → List ℕ → ℕ → Field → Bool
used_in doc t v s series Identification = used doc t (series - 1) (says (quoted v s))
used_in doc t v s series Object = false
used_in doc t v s series BusinessType = false
used_in doc t v s series Direction = false
used_in doc t v s series Area = false
used_in doc t v s series FirstRow = false
used_in doc t v s series Count = false

unfoldable pub used_with : List ℕ → List ℕ → Span → List ℕ → ℕ → Brought → Bool
used_with doc t v s series NoCell = false
used_with doc t v s series (InRow f) = used_in doc t v s series f
used_with doc t v s series (AtPosition p) = false
used_with doc t v s series AtAmount = false

unfoldable pub used_before : List ℕ → List ℕ → Span → List ℕ → ℕ → Entry → Bool
used_before doc t v s series e = used_with doc t v s series (brought_by e)
