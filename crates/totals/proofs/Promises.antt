-- What is promised of totals. Assumes nothing.
--     total-by-rows     a total, the sum over quarter hours of what stands there, is "every amount times the quarter hours it stands"
--     told_back         whole number and thousandths tell the total, and the thousandths are 0 to 999
--     any_order         "adding the series in another order gives the same"
--     past-last         the totals past the last series are 0; on-refusal: all of them are, where the call is refused
--     exactly-17, exactly-18, no-series      when it is refused
--     a-thousandth      -0.001 is -1 and 999
use Prim.Native.Nat.{ℕ, zero, suc, ◌+◌, ◌-◌, ◌*◌, ◌/◌, ◌%◌, ◌≤◌, ◌<◌}
use mathlib.Core.Path.{◌≡◌, refl, sym, ap, ◌∙◌}
use mathlib.Core.List.{List, [], ◌∷◌, ◌++◌}
use mathlib.Core.Bool.{true, false, cond}
use mathlib.Core.Logic.{⊎_elim}
use native.Mathlib.Omega.{arith}
use native.Mathlib.Nat.{div-add-mod', mod-lt}
use borrow.Author.Tests.{lt-ltb, le-ltb, le-leb, ne_eqb}
use lib.Dec.{eqb}
use lib.IntN.{ℤ, pos, negsuc, ◌+ℤ◌, ◌*ℤ◌, +ℤ_assoc, +ℤ_comm}
use lib.ListN.{length, get_or, take}
use Rattle.lists.proofs.Cases.{ltb-cases, bool_cases, by_cond}
use Rattle.series.specs.Row.{field_at, room_for}
use Rattle.series.specs.declared.Field.TheVariants.{Count}
use Rattle.tables.specs.Cells.{no_amounts}
use Rattle.totals.specs.Rules.{Handed, handed, most_series, has_totals, period_allows, all_below, series_allowed, row_allowed, pos_allowed, size_allowed, count_allowed, end_row, due_row, own_of, is_allowed, totals_refusal}
use Rattle.totals.specs.Totals.{standing, values_from, added, last_quarter, rows_total, times_total, series_total, each_total, whole_of, rest_of, pairs, pair_cells, total_cells, sum_cells, Reordered, nothing, first, swapped, after}
use Rattle.totals.proofs.Answers.{no_pairs}
use Rattle.totals.proofs.Facts.{as-adds}
use Rattle.totals.proofs.Times.{times-is}

-- ---- what a total is

pub total-by-rows : (g : Handed) → is_allowed g ≡ true → (i : ℕ) → i < g.count
    → series_total g i
    ≡ times_total (own_of g.series i g.positions) (own_of g.series i g.amounts) (last_quarter g.kind g.quarters (field_at g.series i Count))
unfolding series_total
total-by-rows g ok i h = times-is _ _ _ (as-adds g ok i h).rows

pub told_back : (z : ℤ) → (pos 1000 *ℤ whole_of z +ℤ pos (rest_of z) ≡ z) × (rest_of z < 1000)
unfolding whole_of rest_of
told_back (pos n) =
    let m = mod-lt n {m = 1000} (omega arith) in
    (ap pos (omega (arith, div-add-mod' n 1000)), m)
told_back (negsuc n) =
    let m = mod-lt n {m = 1000} (omega arith) in
    let d = div-add-mod' n 1000 in
    let e : 1000 * suc (n / 1000) ≡ suc (1000 * (n / 1000) + 999) = omega arith in
    let l : 999 - n % 1000 < suc (1000 * (n / 1000) + 999) = omega arith in
    (rw (e, lt-ltb _ _ l) (ap negsuc (omega (arith, d, m))), omega (arith, m))

-- ---- "adding the series in another order gives the same"

pub added-any-order : {x y : List ℤ} → Reordered x y → added x ≡ added y
unfolding added
added-any-order nothing = refl
added-any-order (first {z} r) = ap (λ (k : ℤ). z +ℤ k) (added-any-order r)
added-any-order (swapped {z} {w} {x}) = sym (+ℤ_assoc z w (added x)) ∙ ap (λ (k : ℤ). k +ℤ added x) (+ℤ_comm z w) ∙ +ℤ_assoc w z (added x)
added-any-order (after r s) = added-any-order r ∙ added-any-order s

pub any_order : (g h : Handed) (n : ℕ) → totals_refusal g ≡ totals_refusal h → Reordered (each_total g) (each_total h) → sum_cells n g ≡ sum_cells n h
unfolding sum_cells
any_order g h n e r = rw (e, added-any-order r)

-- ---- cells past the last series, and those of a refusal

blank-at : (n m j : ℕ) → get_or (take n (no_amounts m)) j (pos 0) ≡ pos 0
blank-at zero m j = refl
blank-at (suc n) zero j = refl
blank-at (suc n) (suc m) zero = refl
blank-at (suc n) (suc m) (suc j) = blank-at n m j

past-values : (xs : List ℤ) (n m j : ℕ) → length xs ≤ j → get_or (take n (xs ++ no_amounts m)) j (pos 0) ≡ pos 0
past-values [] n m j h = blank-at n m j
past-values (x ∷ xs) zero m j h = refl
past-values (x ∷ xs) (suc n) m zero h = absurd (omega arith)
past-values (x ∷ xs) (suc n) m (suc j) h = past-values xs n m j (omega arith)

pairs-length : (zs : List ℤ) → length (pairs zs) ≡ 2 * length zs
unfolding pairs
pairs-length [] = refl
pairs-length (z ∷ zs) = omega (arith, pairs-length zs)

values_length : (f : ℕ → ℤ) (i n : ℕ) → length (values_from f i n) ≡ n
unfolding values_from
values_length f i zero = refl
values_length f i (suc n) = ap suc (values_length f (suc i) n)

past_pairs : (zs : List ℤ) (n j : ℕ) → 2 * length zs ≤ j → get_or (pair_cells n zs) j (pos 0) ≡ pos 0
unfolding pair_cells
past_pairs zs n j h = past-values (pairs zs) n n j (omega (arith, pairs-length zs))

enough : (g : Handed) (j : ℕ) → 2 * g.count ≤ j → 2 * length (each_total g) ≤ j
unfolding each_total
enough g j h = omega (arith, h, values_length (series_total g) 0 g.count)

pub past-last : (g : Handed) (n j : ℕ) → 2 * g.count ≤ j → get_or (total_cells n g) j (pos 0) ≡ pos 0
unfolding total_cells
past-last g n j h =
    by_cond (λ (zs : List ℤ). get_or (pair_cells n zs) j (pos 0) ≡ pos 0) (eqb (totals_refusal g) 0) (past_pairs (each_total g) n j (enough g j h)) (past_pairs [] n j (omega arith))

pub on-refusal : (g : Handed) (n : ℕ) → (totals_refusal g ≡ 0 → ⊥) → (total_cells n g ≡ no_amounts n) × (sum_cells n g ≡ no_amounts n)
unfolding total_cells sum_cells
on-refusal g n e = let d = ne_eqb (totals_refusal g) 0 e in (rw d (sym (no_pairs n)), rw d (sym (no_pairs n)))

-- ---- when it is refused

pub exactly-17 : (g : Handed) → (totals_refusal g ≡ 17 → most_series < g.count) × (most_series < g.count → totals_refusal g ≡ 17)
unfolding totals_refusal
exactly-17 g = (
  λ e.
      ⊎_elim
      (λ y. y.0)
      (λ y.
      let d : cond (is_allowed g) 0 18 ≡ 17 = rw y.1 at e in
      absurd (⊎_elim (λ z. (let b : 0 ≡ 17 = rw z at d in omega (arith, b))) (λ z. (let b : 18 ≡ 17 = rw z at d in omega (arith, b))) (bool_cases (is_allowed g))))
      (ltb-cases most_series g.count),
  λ h. rw (lt-ltb most_series g.count h),
)

pub exactly-18 : (g : Handed)
    → (totals_refusal g ≡ 18 → (g.count ≤ most_series) × (is_allowed g ≡ false)) × (g.count ≤ most_series → is_allowed g ≡ false → totals_refusal g ≡ 18)
unfolding totals_refusal
exactly-18 g = (
  λ e.
      ⊎_elim
      (λ y. (let b : 17 ≡ 18 = rw y.1 at e in absurd (omega (arith, b))))
      (λ y.
      let d : cond (is_allowed g) 0 18 ≡ 18 = rw y.1 at e in
      (y.0, ⊎_elim (λ z. (let b : 0 ≡ 18 = rw z at d in absurd (omega (arith, b)))) (λ z. z) (bool_cases (is_allowed g))))
      (ltb-cases most_series g.count),
  λ h f. rw (le-ltb most_series g.count h, f),
)

-- no series is answered in every kind
pub no-series : (kind quarters : ℕ) (series positions : List ℕ) (amounts : List ℤ) → has_totals kind ≡ true → period_allows kind quarters ≡ true
    → totals_refusal (handed kind quarters 0 series positions amounts) ≡ 0
unfolding totals_refusal is_allowed all_below
no-series kind quarters series positions amounts k p = rw (k, p, le-leb 0 (room_for (length series)) (omega arith))

-- ---- examples

-- "so that -0.001 is -1 and 999"
pub a-thousandth : (whole_of (negsuc 0) ≡ negsuc 0) × (rest_of (negsuc 0) ≡ 999)
unfolding whole_of rest_of
a-thousandth = (refl, refl)

-- a kind 2 series over three quarter hours, with -0.001 and from the second on 1.500
abbrev pub sheet : Handed
sheet = handed 2 3 1 (0 ∷ 0 ∷ 0 ∷ 0 ∷ 0 ∷ 0 ∷ 0 ∷ 0 ∷ 0 ∷ 0 ∷ 0 ∷ 2 ∷ []) (1 ∷ 2 ∷ []) (negsuc 0 ∷ pos 1500 ∷ [])

pub in_tables : (totals_refusal sheet ≡ 0) × (total_cells 4 sheet ≡ pos 2 ∷ pos 999 ∷ pos 0 ∷ pos 0 ∷ []) × (sum_cells 1 sheet ≡ pos 2 ∷ [])
unfolding totals_refusal is_allowed has_totals period_allows all_below series_allowed end_row due_row count_allowed row_allowed pos_allowed size_allowed own_of total_cells sum_cells each_total series_total rows_total last_quarter standing values_from added pair_cells pairs whole_of rest_of
in_tables = (refl, refl, refl)
