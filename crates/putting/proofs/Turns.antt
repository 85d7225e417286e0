-- What is left to the loops over the rows of a series and over the series, and the parts of a series and of the sheet. Assumes nothing.
use Prim.Native.Nat.{ℕ, suc, ◌+◌, ◌*◌, ◌-◌, ◌≤◌, ◌<◌}
use mathlib.Core.Path.{◌≡◌, refl, ap}
use mathlib.Core.List.{List, [], ◌++◌}
use native.Mathlib.Omega.{arith}
use native.Mathlib.Numerals.{add-one}
use lib.IntN.{ℤ, pos}
use lib.ListN.{get_or, drop}
use Rattle.slices.specs.Text.{text}
use Rattle.columns.specs.Columns.{series_role}
use Rattle.series.specs.Row.{field_at}
use Rattle.series.specs.declared.Field.TheVariants.{FirstRow, Count}
use Rattle.views.specs.Layout.{header_pairs, series_pairs}
use Rattle.drafts.specs.Draft.{role_row}
use Rattle.putting.specs.Sheet.{open_text, close_text, singles_text, interval_text, intervals_text, series_text, every_series_text, root_text, sheet_text}

-- ---- the rows of a series

-- those from row j on, before row last
abbrev pub intervals_left : List ℕ → List ℤ → ℕ → ℕ → List ℕ
intervals_left positions amounts last j = intervals_text positions amounts j (last - j)

pub intervals-start : (positions : List ℕ) (amounts : List ℤ) (first count : ℕ) → intervals_left positions amounts (first + count) first ≡ intervals_text positions amounts first count
intervals-start positions amounts first count = ap (λ (n : ℕ). intervals_text positions amounts first n) (omega arith)

pub intervals-next : (positions : List ℕ) (amounts : List ℤ) (last j : ℕ) {p : ℕ} {a : ℤ} → j < last → p ≡ get_or positions j 0 → a ≡ get_or amounts j (pos 0)
    → intervals_left positions amounts last j ≡ interval_text p a ++ intervals_left positions amounts last (j + 1)
unfolding intervals_text
intervals-next positions amounts last j h ep ea =
    let e : last - j ≡ suc (last - suc j) = omega (arith, h) in
    rw (e, ep, ea, add-one j) refl

pub intervals-over : (positions : List ℕ) (amounts : List ℤ) (last j : ℕ) → last ≤ j → intervals_left positions amounts last j ≡ []
unfolding intervals_text
intervals-over positions amounts last j h = let e : last - j ≡ 0 = omega (arith, h) in rw e refl

-- ---- the series

pub series-whole : (t pairs rows positions : List ℕ) (amounts : List ℤ) {w : ℕ} (row k first n : ℕ) → w ≡ get_or rows row 0
    → open_text w ++ (text ">" ++ (singles_text t pairs k (drop (row + 1) rows) ++ (intervals_text positions amounts first n ++ (text "</Period>" ++ close_text w))))
    ≡ series_text t pairs rows row k positions amounts first n
unfolding series_text
series-whole t pairs rows positions amounts row k first n e = rw (e, add-one row) refl

module _ (t pairs rows series positions : List ℕ) (amounts : List ℤ) (count : ℕ) where
  -- those from series i on
  abbrev pub series_left : ℕ → List ℕ
  series_left i = every_series_text t pairs rows series positions amounts i (count - i)

  pub series-start : series_left 0 ≡ every_series_text t pairs rows series positions amounts 0 count
  series-start = ap (λ (n : ℕ). every_series_text t pairs rows series positions amounts 0 n) (omega arith)

  pub series-next : (i : ℕ) {row first n : ℕ} → i < count → row ≡ role_row series_role rows → first ≡ field_at series i FirstRow → n ≡ field_at series i Count
      → series_left i ≡ series_text t pairs rows row (header_pairs + series_pairs * i) positions amounts first n ++ series_left (i + 1)
  unfolding every_series_text
  series-next i h er ef en =
      let e : count - i ≡ suc (count - suc i) = omega (arith, h) in
      rw (e, er, ef, en, add-one i) refl

  pub series-over : (i : ℕ) → count ≤ i → series_left i ≡ []
  unfolding every_series_text
  series-over i h = let e : count - i ≡ 0 = omega (arith, h) in rw e refl

  pub sheet-whole : {w : ℕ} → w ≡ get_or rows 1 0
      → root_text t pairs w ++ (singles_text t pairs 3 (drop 2 rows) ++ (every_series_text t pairs rows series positions amounts 0 count ++ close_text w))
      ≡ sheet_text rows t pairs count series positions amounts
  unfolding sheet_text
  sheet-whole e = rw e refl
