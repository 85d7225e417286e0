-- For private contracts: how the code tells whether a draft is fit, over the lent lists. `told-exactly` of proofs/ says that it is `draft_fits`.
use Rattle.std.specs.Prelude.{ℕ, zero, suc, ◌+◌, ◌*◌, ◌-◌, List, [], ◌∷◌, Bool, true, false, cond, ◌&&◌, not, eqb, leb, ltb, ℤ, pos, nat_abs, length, get_or, drop, Option, Some, None}
use Prim.Native.Char.{code}
use Rattle.slices.specs.Same.{same}
use Rattle.characters.specs.Says.{all_chars, says}
use Rattle.trims.specs.Trim.{dropped}
use Rattle.codes.specs.Lists.{listed, codes_of}
use Rattle.columns.specs.Columns.{form_of, collapsed, scheme_of, role_of, identification_form, series_id_form, period_form, by_list, series_role, period_role, original_role}
use Rattle.structure.specs.Rows.{required}
use Rattle.guideline.specs.Kinds.{dtd_message, kind_at, fixed_for, within_most, has_enough}
use Rattle.guideline.specs.Rows.{rows_of}
use Rattle.states.specs.Attributes.{asks_v, asks_scheme}
use Rattle.rules.specs.Rules.{judge, position_fits}
use Rattle.times.specs.Times.{interval}
use Rattle.times.specs.Periods.{quarter_hours}
use Rattle.series.specs.Row.{room_for, field_at}
use Rattle.series.specs.declared.Field.TheVariants.{FirstRow, Count}
use Rattle.views.specs.Layout.{header_pairs, series_pairs, cell_of}
use Rattle.views.specs.Shown.{pair_view}
use Rattle.escapes.specs.Spelled.{chars_of}
use Rattle.drafts.specs.Draft.{role_row}
use Rattle.drafts.specs.Pairs.{has_pair, pairs_of}
use Rattle.drafts.specs.Fit.{is_written}

-- ---- a value

unfoldable pub is_text : List ℕ → List ℕ → ℕ → Bool
is_text text pairs k = cond (leb (get_or pairs (cell_of k) 0 + get_or pairs (cell_of k + 1) 0) (length text)) (all_chars (pair_view text pairs k)) false

-- n pairs from pair k on
unfoldable pub texts_told : List ℕ → List ℕ → ℕ → ℕ → Bool
texts_told text pairs k zero = true
texts_told text pairs k (suc n) = is_text text pairs k && texts_told text pairs (suc k) n

unfoldable pub has_ampersand : List ℕ → Bool
has_ampersand [] = false
has_ampersand (b ∷ v) = cond (eqb b (code "&")) true (has_ampersand v)

unfoldable pub said_of : ℕ → List ℕ → List ℕ
said_of w v = cond (collapsed w) (dropped (says v)) (says v)

unfoldable pub is_id : ℕ → Bool
is_id form = cond (eqb form identification_form) true (eqb form series_id_form)

-- by its characters where it is an identification, of which nothing is dropped; any other value with an `&` fits no form
unfoldable pub text_fits : ℕ → ℕ → ℕ → ℕ → List ℕ → Bool
text_fits kind from to w v =
    cond (is_id (form_of w)) (leb (length (chars_of v)) 35)
    (cond (has_ampersand v) false
    (eqb (judge (form_of w) (record { kind = kind; from = from; to = to; quarters = quarter_hours from to; last = 0 }) (said_of w v)).number 0))

unfoldable pub scheme_told : ℕ → List ℕ → Bool
scheme_told w v = cond (has_ampersand v) false (cond (ltb (scheme_of w) by_list) false (listed (codes_of (scheme_of w - by_list)) (dropped (says v))))

-- ---- single values

unfoldable pub single_told : ℕ → ℕ → ℕ → List ℕ → List ℕ → ℕ → ℕ → Bool
single_told kind from to text pairs w k =
    cond (has_pair pairs k)
    (cond (asks_scheme w) (cond (has_pair pairs (k + 1)) (scheme_told w (pair_view text pairs (k + 1))) false) true
    && text_fits kind from to w (pair_view text pairs k))
    (cond (required w) false (cond (asks_scheme w) (not (has_pair pairs (k + 1))) true))

-- through the Period, up to what else has no `v`
unfoldable pub singles_told : ℕ → ℕ → ℕ → List ℕ → List ℕ → ℕ → List ℕ → Bool
singles_told kind from to text pairs k [] = true
singles_told kind from to text pairs k (w ∷ ws) =
    cond (asks_v w) (single_told kind from to text pairs w k && singles_told kind from to text pairs (k + pairs_of w) ws)
    (cond (eqb (role_of w) period_role) (singles_told kind from to text pairs k ws) true)

unfoldable pub originals_told : List ℕ → ℕ → List ℕ → ℕ
originals_told pairs k [] = 0
originals_told pairs k (w ∷ ws) =
    let rest = originals_told pairs (k + pairs_of w) ws in
    cond (asks_v w) (cond (eqb (role_of w) original_role) (cond (has_pair pairs k) (suc rest) rest) rest) 0

unfoldable pub root_told : ℕ → List ℕ → List ℕ → Bool
root_told kind text pairs =
    cond (has_pair pairs 0) false
    (cond (has_pair pairs 1) false
    (cond (has_pair pairs 2) (cond (has_ampersand (pair_view text pairs 2)) false (same (fixed_for kind dtd_message) (says (pair_view text pairs 2)))) false))

-- ---- TimePeriodCovered

unfoldable pub covered_pair : ℕ → List ℕ → ℕ
covered_pair k [] = k
covered_pair k (w ∷ ws) = cond (eqb (form_of w) period_form) k (covered_pair (k + pairs_of w) ws)

unfoldable pub covered_at : List ℕ → List ℕ → ℕ → Option (ℕ × ℕ)
covered_at text pairs k =
    cond (has_pair pairs k) (cond (has_ampersand (pair_view text pairs k)) None (interval (says (pair_view text pairs k)))) None

unfoldable pub covered_told : List ℕ → List ℕ → List ℕ → Option (ℕ × ℕ)
covered_told text pairs rows = covered_at text pairs (covered_pair 3 (drop 2 rows))

-- ---- a series

unfoldable pub amount_told : ℤ → Bool
amount_told a = ltb (nat_abs a) 1000000000000000

unfoldable pub row_told : ℕ → ℕ → ℕ → ℕ → ℤ → Bool
row_told kind quarters last p a = cond (leb p 99999) (cond (position_fits kind quarters last p) (amount_told a) false) false

-- n rows from row j on, after the Pos `last`
unfoldable pub rows_told : ℕ → ℕ → List ℕ → List ℤ → ℕ → ℕ → ℕ → Bool
rows_told kind quarters positions amounts last j zero = true
rows_told kind quarters positions amounts last j (suc n) =
    row_told kind quarters last (get_or positions j 0) (get_or amounts j (pos 0))
    && rows_told kind quarters positions amounts (get_or positions j 0) (suc j) n

unfoldable pub count_told : ℕ → ℕ → ℕ → Bool
count_told kind quarters n =
    cond (eqb n 0) false
    (cond (has_enough kind n) (cond (within_most kind n) (cond (kind_at kind).full (eqb n quarters) true) false) false)

unfoldable pub rows_lent : ℕ → ℕ → ℕ → ℕ → Bool
rows_lent first count np na = cond (leb (first + count) np) (leb (first + count) na) false

unfoldable pub five_or_none : ℕ → Bool
five_or_none n = cond (eqb n 0) true (eqb n 5)

unfoldable pub series_told : ℕ → ℕ → ℕ → List ℕ → List ℕ → List ℕ → ℕ → ℕ → ℕ → ℕ → List ℕ → List ℤ → Bool
series_told kind from to text pairs rows row k first count positions amounts =
    cond (rows_lent first count (length positions) (length amounts))
    (cond (count_told kind (quarter_hours from to) count)
    (cond (singles_told kind from to text pairs k (drop row rows))
    (cond (five_or_none (originals_told pairs k (drop row rows)))
    (rows_told kind (quarter_hours from to) positions amounts 0 first count)
    false) false) false) false

-- ---- the series

-- the identification of series i is the first of its values
unfoldable pub id_of : List ℕ → List ℕ → ℕ → List ℕ
id_of text pairs i = pair_view text pairs (header_pairs + series_pairs * i)

-- that of series i is one of the first n
unfoldable pub used_before : List ℕ → List ℕ → ℕ → ℕ → Bool
used_before text pairs i zero = false
used_before text pairs i (suc n) = cond (same (id_of text pairs i) (id_of text pairs n)) true (used_before text pairs i n)

-- n series from series i on
unfoldable pub every_told : ℕ → ℕ → ℕ → List ℕ → List ℕ → List ℕ → List ℕ → List ℕ → List ℤ → ℕ → ℕ → Bool
every_told kind from to text pairs rows series positions amounts i zero = true
every_told kind from to text pairs rows series positions amounts i (suc n) =
    cond (series_told kind from to text pairs rows (suc (role_row series_role rows)) (header_pairs + series_pairs * i)
    (field_at series i FirstRow) (field_at series i Count) positions amounts)
    (cond (used_before text pairs i i) false (every_told kind from to text pairs rows series positions amounts (suc i) n))
    false

-- ---- the whole

unfoldable pub count_lent : ℕ → ℕ → ℕ → Bool
count_lent np count ns = cond (leb 1 count) (cond (leb (cell_of (header_pairs + series_pairs * count)) np) (leb count (room_for ns)) false) false

unfoldable pub sheet_by : ℕ → List ℕ → List ℕ → List ℕ → ℕ → List ℕ → List ℕ → List ℤ → Option (ℕ × ℕ) → Bool
sheet_by kind rows text pairs count series positions amounts (Some (from, to)) =
    cond (root_told kind text pairs)
    (cond (singles_told kind from to text pairs 3 (drop 2 rows)) (every_told kind from to text pairs rows series positions amounts 0 count) false)
    false
sheet_by kind rows text pairs count series positions amounts None = false

unfoldable pub sheet_told : ℕ → List ℕ → List ℕ → List ℕ → ℕ → List ℕ → List ℕ → List ℤ → Bool
sheet_told kind rows text pairs count series positions amounts =
    sheet_by kind rows text pairs count series positions amounts (covered_told text pairs rows)

unfoldable pub fit_told : ℕ → List ℕ → List ℕ → ℕ → List ℕ → List ℕ → List ℤ → Bool
fit_told kind text pairs count series positions amounts =
    cond (is_written kind)
    (cond (count_lent (length pairs) count (length series))
    (cond (texts_told text pairs 0 (header_pairs + series_pairs * count)) (sheet_told kind (rows_of kind) text pairs count series positions amounts) false)
    false) false
