-- What the answer and the tables show of a content.
use Rattle.std.specs.Prelude.{ℕ, ◌+◌, ◌<◌, ◌≡◌, List, [], ◌∷◌, map, true, false, ℤ, pos, length, get_or, take}
use Rattle.characters.specs.Says.{says}
use Rattle.trims.specs.Trim.{dropped, trimmed_of}
use Rattle.numbers.specs.Amount.{amount_of}
use Rattle.columns.specs.Columns.{value_role, series_role, interval_role, object_role, business_role, series_id_role, pos_role, qty_role, direction_role, area_role}
use Rattle.series.specs.Row.{is_view, field_at, NoView, view}
use Rattle.series.specs.declared.Field.{Field}
use Rattle.series.specs.declared.Field.TheVariants.{Identification, Object, BusinessType, Direction, Area, FirstRow, Count}
use Rattle.reader.specs.Rows.{thousandths_of}
use Rattle.guideline.specs.Rows.{rows_of}
use Rattle.reader.specs.Reading.{Tables}
use Rattle.reader.specs.Answer.{Outcome}
use Rattle.trees.specs.Trees.{Trees, none}
use Rattle.contents.specs.Said.{TagSaid, bytes}
use Rattle.contents.specs.Legal.{has_role, those, in_each, period_of, quarters_of, position_of}

-- the amount that a Qty says, which is collapsed, in thousandths
unfoldable pub amount_in : TagSaid → ℤ
amount_in s = thousandths_of (amount_of (dropped (says (bytes s.v))))

unfoldable pub sum : List ℕ → ℕ
sum [] = 0
sum (n ∷ ns) = n + sum ns

-- the last of a list, or d where there is none
abbrev pub last_of : {A : Type 0} → A → List A → A
last_of d [] = d
last_of d (x ∷ l) = last_of x l

-- the element of a series whose value a view shows, by its role; FirstRow and Count are no views
abbrev pub role_shown : Field → ℕ
role_shown Identification = series_id_role
role_shown Object = object_role
role_shown BusinessType = business_role
role_shown Direction = direction_role
role_shown Area = area_role
role_shown FirstRow = value_role
role_shown Count = value_role

-- what it shows of the value: "of its BusinessType, spaces dropped", and of "Direction (spaces dropped)"
abbrev pub part_shown : Field → List ℕ → List ℕ
part_shown Identification b = b
part_shown Object b = b
part_shown BusinessType b = trimmed_of b
part_shown Direction b = trimmed_of b
part_shown Area b = b
part_shown FirstRow b = b
part_shown Count b = b

-- what a series says of it; no element that a view shows comes twice in a series, and where it does not come nothing is said
unfoldable pub said_for : List ℕ → Trees TagSaid → Field → List (List ℕ)
said_for rows s f = map (λ (x : TagSaid). part_shown f (bytes x.v)) (those (has_role (role_shown f)) rows s)

unfoldable pub each_series : List ℕ → Trees TagSaid → List (Trees TagSaid)
each_series rows c = in_each (has_role series_role) rows c

-- how many intervals each series has
unfoldable pub interval_counts : List ℕ → List (Trees TagSaid) → List ℕ
interval_counts rows ss = map (λ (s : Trees TagSaid). length (those (has_role interval_role) rows s)) ss

-- "start and length of its TimeSeriesIdentification; of its object ..; of its BusinessType, spaces dropped; its first interval row; its interval count", and
-- "after the BusinessType pair, start and length of Direction (spaces dropped) and of the area .., 0 and 0 where absent". Row i shows series s
pub record RowShows (doc cells rows : List ℕ) (i : ℕ) (s : Trees TagSaid) (first : ℕ) : Type 0 where
  pub views : (f : Field) → is_view f ≡ true → view doc cells i f ≡ last_of [] (said_for rows s f)
  pub absent : (f : Field) → is_view f ≡ true → said_for rows s f ≡ [] → NoView cells i f
  pub begins : field_at cells i FirstRow ≡ first
  pub count : field_at cells i Count ≡ length (those (has_role interval_role) rows s)

-- "Intervals take one position and one amount at the same index .. Rows come in document order. Cells past the last row are 0."
pub record Shows (doc : List ℕ) (t : Tables) (rows : List ℕ) (c : Trees TagSaid) : Type 0 where
  pub series : (i : ℕ) → i < length (those (has_role series_role) rows c)
      → RowShows doc t.series rows i (get_or (each_series rows c) i none) (sum (take i (interval_counts rows (each_series rows c))))
  pub positions : (j : ℕ) → get_or t.positions j 0 ≡ get_or (map position_of (those (has_role pos_role) rows c)) j 0
  pub amounts : (j : ℕ) → get_or t.amounts j (pos 0) ≡ get_or (map amount_in (those (has_role qty_role) rows c)) j (pos 0)

-- the Intervals of a content, in document order: what stands in each
unfoldable pub each_interval : List ℕ → Trees TagSaid → List (Trees TagSaid)
each_interval rows c = in_each (has_role interval_role) rows c

-- "Intervals take one position and one amount at the same index": row j has the Pos and the Qty of Interval i, of which it has one each
pub record IntervalShown (t : Tables) (rows : List ℕ) (j : ℕ) (i : Trees TagSaid) : Type 0 where
  pub its-pos : TagSaid
  pub its-qty : TagSaid
  pub one-pos : those (has_role pos_role) rows i ≡ its-pos ∷ []
  pub one-qty : those (has_role qty_role) rows i ≡ its-qty ∷ []
  pub position : get_or t.positions j 0 ≡ position_of its-pos
  pub amount : get_or t.amounts j (pos 0) ≡ amount_in its-qty

-- what is answered, and left in the tables, where a document that spells the content is accepted
pub record Tells (doc : List ℕ) (o : Outcome) (kind : ℕ) (c : Trees TagSaid) : Type 0 where
  pub accepted : o.answer.refusal ≡ 0
  pub kinds : o.answer.kind ≡ kind
  pub series : o.answer.series ≡ length (those (has_role series_role) (rows_of kind) c)
  pub intervals : o.answer.intervals ≡ length (those (has_role interval_role) (rows_of kind) c)
  pub quarters : o.answer.quarters ≡ quarters_of (period_of (rows_of kind) c)
  pub tables : Shows doc o.tables (rows_of kind) c

-- two outcomes that differ in places alone
pub record SameButPlaces (x : List ℕ) (o : Outcome) (y : List ℕ) (u : Outcome) : Type 0 where
  pub refusal : o.answer.refusal ≡ u.answer.refusal
  pub kinds : o.answer.kind ≡ u.answer.kind
  pub series : o.answer.series ≡ u.answer.series
  pub intervals : o.answer.intervals ≡ u.answer.intervals
  pub quarters : o.answer.quarters ≡ u.answer.quarters
  pub views : (i : ℕ) → i < o.answer.series → (f : Field) → is_view f ≡ true → view x o.tables.series i f ≡ view y u.tables.series i f
  pub counts : (i : ℕ) → i < o.answer.series → (f : Field) → is_view f ≡ false → field_at o.tables.series i f ≡ field_at u.tables.series i f
  pub positions : (j : ℕ) → get_or o.tables.positions j 0 ≡ get_or u.tables.positions j 0
  pub amounts : (j : ℕ) → get_or o.tables.amounts j (pos 0) ≡ get_or u.tables.amounts j (pos 0)
