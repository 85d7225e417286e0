-- Where the pairs of two rows stand: apart, unless they are of one row, in the header or in one series. Assumes nothing.
use Prim.Native.Nat.{ℕ, zero, suc, ◌+◌, ◌*◌, ◌-◌, ◌≤◌, ◌<◌}
use mathlib.Core.Path.{◌≡◌, refl, sym}
use mathlib.Core.List.{List, [], ◌∷◌}
use mathlib.Core.Bool.{Bool, true, false, cond}
use mathlib.Core.Logic.{◌⊎◌, inl, inr, ⊎_elim}
use native.Mathlib.Omega.{arith}
use native.Mathlib.Nat.{le_refl}
use lib.Dec.{eqb, leb, ltb}
use lib.ListN.{length, take, get_or}
use borrow.Author.Tests.{eqb-true, leb-true, lt-ltb, le-ltb}
use Rattle.lists.proofs.Cases.{both_true, ltb-cases, eqb-cases}
use Rattle.slices.specs.Same.{same}
use Rattle.elements.specs.Names.{names, number_in, element_no}
use Rattle.structure.specs.Rows.{name_of}
use Rattle.columns.specs.Columns.{role_of, form_of, scheme_of}
use Rattle.guideline.specs.Rows.{beschaffungsanforderung, kostenblatt, network_constraint_document, rows_of}
use Rattle.guideline.proofs.Each.{each_table, of-table, each_row, row_of}
use Rattle.states.specs.Attributes.{asks_v, asks_scheme}
use Rattle.views.specs.Layout.{header_pairs, series_pairs, values_of, pair_after, pairs_after, first_pair, pair_in, row_named}

-- ---- the row of a name

-- no two rows of a kind bear one name
own : List ℕ → Bool
own rows = each_row (λ i w. eqb (row_named (name_of w) rows) i) 0 rows

own-all : each_table own ≡ true
unfolding own rows_of beschaffungsanforderung kostenblatt network_constraint_document element_no number_in names same row_named name_of
own-all = refl

pub own_name : (kind q : ℕ) → q < length (rows_of kind) → row_named (name_of (get_or (rows_of kind) q 0)) (rows_of kind) ≡ q
unfolding own
own_name kind q h = eqb-true _ _ (row_of (λ i w. eqb (row_named (name_of w) (rows_of kind)) i) (rows_of kind) (of-table own own-all kind) q h)

-- ---- pairs of different rows

-- each row's pairs end where the next row's begin, or before
orderly : ℕ → List ℕ → Bool
orderly k [] = true
orderly k (w ∷ ws) = cond (leb (k + values_of w) (pair_after k w)) (orderly (pair_after k w) ws) false

ordered-all : each_table (orderly 0) ≡ true
unfolding orderly rows_of beschaffungsanforderung kostenblatt network_constraint_document element_no number_in names same values_of pair_after asks_v asks_scheme role_of form_of scheme_of
ordered-all = refl

rises : (k : ℕ) (rows : List ℕ) → orderly k rows ≡ true → (q : ℕ) → k ≤ pairs_after k (take q rows)
unfolding orderly pairs_after
rises k [] e zero = le_refl k
rises k [] e (suc q) = le_refl k
rises k (w ∷ ws) e zero = le_refl k
rises k (w ∷ ws) e (suc q) =
    let b = both_true (leb (k + values_of w) (pair_after k w)) e in
    let a = leb-true (k + values_of w) (pair_after k w) b.0 in
    let r = rises (pair_after k w) ws b.1 q in
    omega (arith, a, r)

ends-before : (k : ℕ) (rows : List ℕ) → orderly k rows ≡ true → (q r : ℕ) → q < r → r ≤ length rows → pairs_after k (take q rows) + values_of (get_or rows q 0) ≤ pairs_after k (take r rows)
unfolding orderly pairs_after
ends-before k [] e q r h l = absurd (omega (arith, h, l))
ends-before k (w ∷ ws) e zero zero h l = absurd (omega (arith, h))
ends-before k (w ∷ ws) e zero (suc r) h l =
    let b = both_true (leb (k + values_of w) (pair_after k w)) e in
    let a = leb-true (k + values_of w) (pair_after k w) b.0 in
    let u = rises (pair_after k w) ws b.1 r in
    omega (arith, a, u)
ends-before k (w ∷ ws) e (suc q) zero h l = absurd (omega (arith, h))
ends-before k (w ∷ ws) e (suc q) (suc r) h l =
    let b = both_true (leb (k + values_of w) (pair_after k w)) e in
    ends-before (pair_after k w) ws b.1 q r (omega (arith, h)) (omega (arith, l))

-- ---- in the header, or in a series

-- pairs of the header end with it, and those of a series with the series
within : List ℕ → Bool
within rows =
    each_row
    (λ q w.
    let k = first_pair rows q in
    cond (eqb (values_of w) 0) true (cond (ltb k header_pairs) (leb (k + values_of w) header_pairs) (leb (k + values_of w) (header_pairs + series_pairs))))
    0 rows

within_all : each_table within ≡ true
unfolding within rows_of beschaffungsanforderung kostenblatt network_constraint_document element_no number_in names same values_of pair_after pairs_after first_pair asks_v asks_scheme role_of form_of scheme_of
within_all = refl

module _ (kind : ℕ) where
  abbrev rows : List ℕ
  rows = rows_of kind

  abbrev first : ℕ → ℕ
  first q = first_pair rows q

  abbrev many : ℕ → ℕ
  many q = values_of (get_or rows q 0)

  pub before-next : (q r : ℕ) → q < r → r ≤ length rows → first q + many q ≤ first r
  unfolding first_pair
  before-next q r h l = ends-before 0 rows (of-table (orderly 0) ordered-all kind) q r h l

  inside : (q : ℕ) → q < length rows
      → cond (eqb (many q) 0) true (cond (ltb (first q) header_pairs) (leb (first q + many q) header_pairs) (leb (first q + many q) (header_pairs + series_pairs))) ≡ true
  unfolding within
  inside q h = row_of _ rows (of-table within within_all kind) q h

  pub in-header : (q : ℕ) → q < length rows → eqb (many q) 0 ≡ false → first q < header_pairs → first q + many q ≤ header_pairs
  in-header q h e l = leb-true _ _ (rw (e, lt-ltb _ _ l) at (inside q h))

  pub in-series : (q : ℕ) → q < length rows → eqb (many q) 0 ≡ false → header_pairs ≤ first q → first q + many q ≤ header_pairs + series_pairs
  in-series q h e l = leb-true _ _ (rw (e, le-ltb _ _ l) at (inside q h))

  pub more : (a b : ℕ) → a ≤ b → (a ≡ b → ⊥) → a < b
  more a b h d = ⊎_elim (λ y. y.0) (λ y. absurd (d (omega (arith, h, y.0)))) (ltb-cases a b)

  -- two numbers of series, counted from 1
  far : (a v n b u m : ℕ) → header_pairs ≤ a → a + v ≤ header_pairs + series_pairs → header_pairs ≤ b → b + u ≤ header_pairs + series_pairs → 1 ≤ n → 1 ≤ m → (n ≡ m → ⊥)
      → (a + series_pairs * (n - 1) + v ≤ b + series_pairs * (m - 1)) ⊎ (b + series_pairs * (m - 1) + u ≤ a + series_pairs * (n - 1))
  far a v n b u m ha hv hb hu hn hm d =
      ⊎_elim
      (λ y. inl (omega (arith, ha, hv, hb, hu, hn, hm, y.0)))
      (λ y. inr (let z = more m n y.0 (λ e. d (sym e)) in omega (arith, ha, hv, hb, hu, hn, hm, z)))
      (ltb-cases n m)

  -- the pairs of row q for number n, and those of row r for number m, where these are not the same
  abbrev pub Apart : ℕ → ℕ → ℕ → ℕ → Type 0
  Apart q n r m = (pair_in (first q) n + many q ≤ pair_in (first r) m) ⊎ (pair_in (first r) m + many r ≤ pair_in (first q) n)

  module _ (q n r m : ℕ) (hq : q < length rows) (hr : r < length rows) (eq : eqb (many q) 0 ≡ false) (er : eqb (many r) 0 ≡ false)
      (nq : header_pairs ≤ first q → 1 ≤ n) (nr : header_pairs ≤ first r → 1 ≤ m) where
    others_apart : (q ≡ r → ⊥) → Apart q n r m
    unfolding pair_in
    others_apart d =
        ⊎_elim
        (λ (a : (first q < header_pairs) × (ltb (first q) header_pairs ≡ true)).
        ⊎_elim
        (λ (b : (first r < header_pairs) × (ltb (first r) header_pairs ≡ true)). rw (a.1, b.1) side)
        (λ (b : (header_pairs ≤ first r) × (ltb (first r) header_pairs ≡ false)).
        let h = in-header q hq eq a.0 in rw (a.1, b.1) (inl (omega (arith, h, b.0))))
        (ltb-cases (first r) header_pairs))
        (λ (a : (header_pairs ≤ first q) × (ltb (first q) header_pairs ≡ false)).
        ⊎_elim
        (λ (b : (first r < header_pairs) × (ltb (first r) header_pairs ≡ true)).
        let h = in-header r hr er b.0 in rw (a.1, b.1) (inr (omega (arith, h, a.0))))
        (λ (b : (header_pairs ≤ first r) × (ltb (first r) header_pairs ≡ false)).
        rw (a.1, b.1)
        (⊎_elim
        (λ (z : (n ≡ m) × (eqb n m ≡ true)).
        rw z.0 (⊎_elim (λ (y : first q + many q ≤ first r). inl (omega (arith, y))) (λ (y : first r + many r ≤ first q). inr (omega (arith, y))) side))
        (λ (z : (n ≡ m → ⊥) × (eqb n m ≡ false)).
        far (first q) (many q) n (first r) (many r) m a.0 (in-series q hq eq a.0) b.0 (in-series r hr er b.0) (nq a.0) (nr b.0) z.0)
        (eqb-cases n m)))
        (ltb-cases (first r) header_pairs))
        (ltb-cases (first q) header_pairs)
      where
        side : (first q + many q ≤ first r) ⊎ (first r + many r ≤ first q)
        side =
            ⊎_elim
            (λ y. inl (before-next q r y.0 (omega (arith, hr))))
            (λ y. inr (before-next r q (more r q y.0 (λ e. d (sym e))) (omega (arith, hq))))
            (ltb-cases q r)

  -- of one row
  pub numbers_apart : (q n m : ℕ) → q < length rows → eqb (many q) 0 ≡ false → header_pairs ≤ first q → 1 ≤ n → 1 ≤ m → (n ≡ m → ⊥) → Apart q n q m
  unfolding pair_in
  numbers_apart q n m h e s hn hm d =
      rw (le-ltb _ _ s) (far (first q) (many q) n (first q) (many q) m s (in-series q h e s) s (in-series q h e s) hn hm d)

  pub rows_apart : (q n r m : ℕ) → q < length rows → r < length rows → eqb (many q) 0 ≡ false → eqb (many r) 0 ≡ false → (header_pairs ≤ first q → 1 ≤ n)
      → (header_pairs ≤ first r → 1 ≤ m) → (q ≡ r → ⊥) → Apart q n r m
  rows_apart q n r m a b c d e f g = others_apart q n r m a b c d e f g
