-- "18 exactly when the kind isn't 1 to 3, N isn't one its periods allow, the series or their rows run past the tables, a series' rows don't begin where those
-- of the one before end (the first at 0), its count or a Pos breaks the kind's rule, or an amount has 10^15 thousandths or more in size."
use Rattle.std.specs.Prelude.{ℕ, zero, suc, ◌+◌, ◌-◌, List, Bool, true, false, cond, eqb, leb, ltb, ℤ, pos, nat_abs, length, get_or, take, drop}
use Rattle.series.specs.Row.{field_at, room_for}
use Rattle.series.specs.declared.Field.TheVariants.{FirstRow, Count}

-- what a call is given: "their number, tables, kind and N"
pub record Handed : Type 0 where
  pub kind : ℕ
  pub quarters : ℕ
  pub count : ℕ
  pub series : List ℕ
  pub positions : List ℕ
  pub amounts : List ℤ

abbrev pub handed : ℕ → ℕ → ℕ → List ℕ → List ℕ → List ℤ → Handed
handed kind quarters count series positions amounts =
    record { kind = kind; quarters = quarters; count = count; series = series; positions = positions; amounts = amounts }

-- "for up to 200 series"
abbrev pub most_series : ℕ
most_series = 200

-- the quarter hours of 366 days
abbrev pub most_quarters : ℕ
most_quarters = 35136

-- the most Intervals of a kind 3 Period
abbrev pub most_intervals : ℕ
most_intervals = 100

-- "10^15 thousandths"
abbrev pub too_large : ℕ
too_large = 1000000000000000

-- "the kind isn't 1 to 3"
unfoldable pub has_totals : ℕ → Bool
has_totals kind = cond (leb 1 kind) (leb kind 3) false

-- "N isn't one its periods allow": a delivery day of kind 1 has 92, 96 or 100 quarter hours; a period of the other kinds at least one, and at most 366 days
unfoldable pub period_allows : ℕ → ℕ → Bool
period_allows kind n =
    cond (eqb kind 1) (cond (eqb n 92) true (cond (eqb n 96) true (eqb n 100)))
    (cond (leb 1 n) (leb n most_quarters) false)

-- "its count .. breaks the kind's rule": N in kind 1, 1 or more in kind 2, 1 to 100 in kind 3
unfoldable pub count_allowed : ℕ → ℕ → ℕ → Bool
count_allowed kind quarters n = cond (eqb kind 1) (eqb n quarters) (cond (leb 1 n) (cond (eqb kind 2) true (leb n most_intervals)) false)

-- "a Pos breaks the kind's rule": at most N; in kind 2 "the first Pos is 1, later ones rise", in the others they are 1, 2, 3 and so on. Row j of a series' own rows
unfoldable pub pos_allowed : ℕ → ℕ → List ℕ → ℕ → Bool
pos_allowed kind quarters positions j =
    let p = get_or positions j 0 in
    cond (leb p quarters) (cond (eqb kind 2) (cond (eqb j 0) (eqb p 1) (ltb (get_or positions (j - 1) 0) p)) (eqb p (j + 1))) false

-- "an amount has 10^15 thousandths or more in size"
unfoldable pub size_allowed : ℤ → Bool
size_allowed a = ltb (nat_abs a) too_large

unfoldable pub row_allowed : ℕ → ℕ → List ℕ → List ℤ → ℕ → Bool
row_allowed kind quarters positions amounts j = cond (pos_allowed kind quarters positions j) (size_allowed (get_or amounts j (pos 0))) false

-- each of the first n passes the test
unfoldable pub all_below : (ℕ → Bool) → ℕ → Bool
all_below f zero = true
all_below f (suc n) = cond (all_below f n) (f n) false

-- the row after those of series i
unfoldable pub end_row : List ℕ → ℕ → ℕ
end_row series i = field_at series i FirstRow + field_at series i Count

-- "where those of the one before end (the first at 0)"
unfoldable pub due_row : List ℕ → ℕ → ℕ
due_row series i = cond (eqb i 0) 0 (end_row series (i - 1))

-- the cells of a table that series i has
unfoldable pub own_of : {A : Type 0} → List ℕ → ℕ → List A → List A
own_of series i l = take (field_at series i Count) (drop (field_at series i FirstRow) l)

unfoldable pub series_allowed : Handed → ℕ → Bool
series_allowed g i =
    cond (leb (end_row g.series i) (length g.positions))
    (cond (leb (end_row g.series i) (length g.amounts))
    (cond (eqb (field_at g.series i FirstRow) (due_row g.series i))
    (cond (count_allowed g.kind g.quarters (field_at g.series i Count))
    (all_below (row_allowed g.kind g.quarters (own_of g.series i g.positions) (own_of g.series i g.amounts)) (field_at g.series i Count))
    false)
    false)
    false)
    false

unfoldable pub is_allowed : Handed → Bool
is_allowed g =
    cond (has_totals g.kind)
    (cond (period_allows g.kind g.quarters) (cond (leb g.count (room_for (length g.series))) (all_below (series_allowed g) g.count) false) false)
    false

-- "Refusals: 17 for more than 200 series; then 18"
unfoldable pub totals_refusal : Handed → ℕ
totals_refusal g = cond (ltb most_series g.count) 17 (cond (is_allowed g) 0 18)
