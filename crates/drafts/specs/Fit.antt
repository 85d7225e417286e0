-- K6: "Refusals: 12 content (pairs or rows past what is lent too)": whether a draft is fit to be written.
use Rattle.std.specs.Prelude.{ℕ, zero, suc, ◌+◌, ◌*◌, List, Bool, true, cond, ◌&&◌, eqb, leb, ℤ, length}
use Rattle.series.specs.Row.{field_at, cells_of}
use Rattle.series.specs.declared.Field.TheVariants.{FirstRow, Count}
use Rattle.views.specs.Layout.{header_pairs, series_pairs, cell_of}
use Rattle.drafts.specs.Draft.{Draft, pair_fits}
use Rattle.drafts.specs.Judged.{draft_legal}

-- what is lent, as one draft
abbrev pub draft_of : ℕ → List ℕ → List ℕ → ℕ → List ℕ → List ℕ → List ℤ → Draft
draft_of kind text pairs count series positions amounts =
    record { kind = kind; text = text; pairs = pairs; count = count; series = series; positions = positions; amounts = amounts }

-- "Beschaffungsanforderung or Kostenblatt"
unfoldable pub is_written : ℕ → Bool
is_written kind = cond (eqb kind 1) true (eqb kind 2)

-- n pairs from pair k on
unfoldable pub pairs_fit : Draft → ℕ → ℕ → Bool
pairs_fit d k zero = true
pairs_fit d k (suc n) = pair_fits d k && pairs_fit d (suc k) n

-- the rows of n series from series i on, in both tables
unfoldable pub rows_fit : Draft → ℕ → ℕ → Bool
rows_fit d i zero = true
rows_fit d i (suc n) =
    let end = field_at d.series i FirstRow + field_at d.series i Count in
    leb end (length d.positions) && leb end (length d.amounts) && rows_fit d (suc i) n

-- each pair and each row that is counted is lent
unfoldable pub is_lent : Draft → Bool
is_lent d =
    is_written d.kind
    && leb (cell_of (header_pairs + series_pairs * d.count)) (length d.pairs)
    && pairs_fit d 0 (header_pairs + series_pairs * d.count)
    && leb (cells_of d.count) (length d.series)
    && rows_fit d 0 d.count

-- and the content is legal
unfoldable pub draft_fits : Draft → Bool
draft_fits d = is_lent d && draft_legal d
