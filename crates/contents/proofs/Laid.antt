-- What is known of the rows of each kind. They lie alike: the root is row 1, then come the values in it, a series, the values in that, its Period in row p,
-- and then TimeInterval, Resolution, Interval, Pos and Qty. Which row a series and its identification is, their roles tell. Assumes nothing.
use Prim.Native.Nat.{ℕ, zero, suc, ◌+◌, ◌-◌, ◌≤◌, ◌<◌}
use mathlib.Core.Path.{◌≡◌, refl}
use mathlib.Core.List.{List, [], ◌∷◌}
use mathlib.Core.Bool.{Bool, true, false, cond, not}
use mathlib.Core.Logic.{⊎_elim}
use lib.Dec.{eqb, leb, ltb}
use lib.ListN.{length, get_or}
use borrow.Author.Tests.{eq-eqb, ne_eqb, eqb-true, le-leb, lt-ltb, ltb-true, leb-true, not-true}
use Rattle.lists.proofs.Below.{every, below}
use Rattle.lists.proofs.Cases.{bool_cases, both_true, never, where-true}
use Rattle.slices.specs.Same.{same}
use Rattle.elements.specs.Names.{names, number_in, element_no}
use Rattle.structure.specs.Rows.{name_of, parent_of, required, repeated, ends_in, ends_at_once}
use Rattle.columns.specs.Columns.{form_of, collapsed, role_of, period_form, series_role, period_role, series_id_role}
use Rattle.guideline.specs.Kinds.{no_kind, kind_one, kind_two, kind_three, kind_at, is_kind, kind_of}
use Rattle.guideline.specs.Rows.{beschaffungsanforderung, kostenblatt, network_constraint_document, rows_of}
use Rattle.guideline.proofs.Each.{of-kind}
use Rattle.states.specs.Attributes.{asks_v}
use Rattle.trees.specs.Trees.{well_made}
use Rattle.trees.proofs.Made.{well-made}

abbrev pub Known : ℕ → Type 0
Known kind = is_kind kind ≡ true

-- the row that row q stands in; r is the row of a series
abbrev pub home : ℕ → ℕ → ℕ → ℕ
home r p q = cond (leb q 1) 0 (cond (leb q r) 1 (cond (leb q p) r (cond (leb q (p + 3)) p (p + 3))))

-- BusinessType and Direction
abbrev pub coded_role : ℕ → Bool
coded_role role = cond (eqb role 7) true (eqb role 11)

-- a table lies so, with its Period in row p
pub record Layout (rows : List ℕ) (p : ℕ) : Type 0 where
  -- how many values stand in the root before a series, and how many of them before TimePeriodCovered
  pub heads : ℕ
  pub covered : ℕ
  -- the row of an identification
  pub id-row : ℕ
  pub size : length rows ≡ p + 6
  pub wide : 2 + heads < p
  pub covered-in : covered < heads
  pub id-in : (2 + heads < id-row) × (id-row < p)
  pub well : well_made rows ≡ true
  pub stands : (q : ℕ) → 0 < q → q < length rows → parent_of (get_or rows q 0) ≡ home (2 + heads) p q
  -- what each row is to the reader, and no other row is that
  pub root : role_of (get_or rows 1 0) ≡ 1
  pub series : role_of (get_or rows (2 + heads) 0) ≡ 2
  pub period : role_of (get_or rows p 0) ≡ 3
  pub interval : role_of (get_or rows (p + 3) 0) ≡ 4
  pub id : role_of (get_or rows id-row 0) ≡ 8
  pub pos : role_of (get_or rows (p + 4) 0) ≡ 9
  pub qty : role_of (get_or rows (p + 5) 0) ≡ 10
  pub only-root : (q : ℕ) → q < length rows → role_of (get_or rows q 0) ≡ 1 → q ≡ 1
  pub only-series : (q : ℕ) → q < length rows → role_of (get_or rows q 0) ≡ 2 → q ≡ 2 + heads
  pub only-period : (q : ℕ) → q < length rows → role_of (get_or rows q 0) ≡ 3 → q ≡ p
  pub only-interval : (q : ℕ) → q < length rows → role_of (get_or rows q 0) ≡ 4 → q ≡ p + 3
  pub only-originals : (q : ℕ) → q < length rows → role_of (get_or rows q 0) ≡ 5 → (2 + heads < q) × (q < p)
  pub only-id : (q : ℕ) → q < length rows → role_of (get_or rows q 0) ≡ 8 → q ≡ id-row
  pub only-pos : (q : ℕ) → q < length rows → role_of (get_or rows q 0) ≡ 9 → q ≡ p + 4
  pub only-qty : (q : ℕ) → q < length rows → role_of (get_or rows q 0) ≡ 10 → q ≡ p + 5
  -- what the tables show stands in a series
  pub shown-in : (q : ℕ) → q < length rows → 6 ≤ role_of (get_or rows q 0) → 2 + heads < q
  -- a BusinessType and a Direction have a code list
  pub coded : (q : ℕ) → q < length rows → coded_role (role_of (get_or rows q 0)) ≡ true → 32 ≤ form_of (get_or rows q 0)
  -- the values that are held against others
  pub covered-form : (q : ℕ) → q < length rows → form_of (get_or rows q 0) ≡ 6 → q ≡ 2 + covered
  pub time-form : (q : ℕ) → q < length rows → form_of (get_or rows q 0) ≡ 7 → q ≡ p + 1
  pub only-pos-form : (q : ℕ) → q < length rows → form_of (get_or rows q 0) ≡ 9 → q ≡ p + 4
  pub pos-form : form_of (get_or rows (p + 4) 0) ≡ 9
  pub covered-kept : collapsed (get_or rows (2 + covered) 0) ≡ false
  pub pos-collapsed : collapsed (get_or rows (p + 4) 0) ≡ true
  -- what has to come, and what comes once
  pub must-root : required (get_or rows 1 0) ≡ true
  pub must-period : required (get_or rows p 0) ≡ true
  pub must-id : required (get_or rows id-row 0) ≡ true
  pub must-pos : required (get_or rows (p + 4) 0) ≡ true
  pub must-qty : required (get_or rows (p + 5) 0) ≡ true
  pub once : (q : ℕ) → q < length rows → (q ≡ 2 + heads → ⊥) → (q ≡ p + 3 → ⊥) → repeated (get_or rows q 0) ≡ false

-- the row of a series
abbrev pub series_at : {rows : List ℕ} {p : ℕ} → Layout rows p → ℕ
series_at L = 2 + L.heads

-- what the tables show has a value
abbrev pub Valued : List ℕ → Type 0
Valued rows = (q : ℕ) → q < length rows → 6 ≤ role_of (get_or rows q 0) → asks_v (get_or rows q 0) ≡ true

-- the rows that the rules between the series of a constraint look at, r being the row of a series
pub record Sighted (rows : List ℕ) (r p : ℕ) : Type 0 where
  pub business : role_of (get_or rows (r + 2) 0) ≡ 7
  pub direction : role_of (get_or rows (r + 3) 0) ≡ 11
  pub only-business : (q : ℕ) → q < length rows → role_of (get_or rows q 0) ≡ 7 → q ≡ r + 2
  pub only-direction : (q : ℕ) → q < length rows → role_of (get_or rows q 0) ≡ 11 → q ≡ r + 3
  pub business-form : form_of (get_or rows (r + 2) 0) ≡ 51
  pub direction-form : form_of (get_or rows (r + 3) 0) ≡ 42
  pub business-collapsed : collapsed (get_or rows (r + 2) 0) ≡ true
  pub direction-collapsed : collapsed (get_or rows (r + 3) 0) ≡ true
  pub must-first : required (get_or rows (r + 1) 0) ≡ true
  pub must-business : required (get_or rows (r + 2) 0) ≡ true
  pub must-direction : required (get_or rows (r + 3) 0) ≡ true
  -- a DocStatus stands in the root before the series
  pub status : (q : ℕ) → q < length rows → form_of (get_or rows q 0) ≡ 50 → (1 < q) × (q < r)
  pub deep : r + 3 < p

-- the rows of a kind; the root and a Period have to have something in them, and the root's name tells the kind
pub record Laid (kind : ℕ) : Type 0 where
  pub period : ℕ
  pub layout : Layout (rows_of kind) period
  pub valued : Valued (rows_of kind)
  pub filled : ends_at_once (rows_of kind) period ≡ false
  pub rooted : ends_at_once (rows_of kind) 1 ≡ false
  pub told : kind_of (name_of (get_or (rows_of kind) 1 0)) ≡ kind
  pub sighted : (kind_at kind).constrained ≡ true → Sighted (rows_of kind) (series_at layout) period

-- ---- the tests by which a table lies so

-- a test of each row of which something is known
abbrev wherever : List ℕ → (ℕ → Bool) → (ℕ → Bool) → Bool
wherever rows given test = every (λ q. cond (given q) (test q) true) (length rows)

at_row : (rows : List ℕ) (given test : ℕ → Bool) → wherever rows given test ≡ true → (q : ℕ) → q < length rows → given q ≡ true → test q ≡ true
at_row rows given test t q l e = where-true (given q) (below (λ q. cond (given q) (test q) true) (length rows) t q l) e

-- row i has n in a column, and no other row has
abbrev sole_test : List ℕ → (ℕ → ℕ) → ℕ → ℕ → Bool
sole_test rows column n i = cond (eqb (column (get_or rows i 0)) n) (wherever rows (λ q. eqb (column (get_or rows q 0)) n) (λ q. eqb q i)) false

sole : (rows : List ℕ) (column : ℕ → ℕ) (n i : ℕ) → sole_test rows column n i ≡ true
    → (column (get_or rows i 0) ≡ n) × ((q : ℕ) → q < length rows → column (get_or rows q 0) ≡ n → q ≡ i)
sole rows column n i t =
    let h = both_true (eqb (column (get_or rows i 0)) n) t in (
      eqb-true (column (get_or rows i 0)) n h.0,
      λ q l e. eqb-true q i (at_row rows (λ q. eqb (column (get_or rows q 0)) n) (λ q. eqb q i) h.1 q l (eq-eqb (column (get_or rows q 0)) n e)),
    )

between : (rows : List ℕ) (n a b : ℕ) → wherever rows (λ q. eqb (role_of (get_or rows q 0)) n) (λ q. cond (ltb a q) (ltb q b) false) ≡ true
    → (q : ℕ) → q < length rows → role_of (get_or rows q 0) ≡ n → (a < q) × (q < b)
between rows n a b t q l e =
    let h = at_row rows (λ q. eqb (role_of (get_or rows q 0)) n) (λ q. cond (ltb a q) (ltb q b) false) t q l (eq-eqb (role_of (get_or rows q 0)) n e) in
    let k = both_true (ltb a q) h in
    (ltb-true a q k.0, ltb-true q b k.1)

-- not repeated but for two rows
single : (rows : List ℕ) (a b : ℕ) → wherever rows (λ q. repeated (get_or rows q 0)) (λ q. cond (eqb q a) true (eqb q b)) ≡ true
    → (q : ℕ) → q < length rows → (q ≡ a → ⊥) → (q ≡ b → ⊥) → repeated (get_or rows q 0) ≡ false
single rows a b t q l f g =
    ⊎_elim
    (λ y.
    let h = at_row rows (λ q. repeated (get_or rows q 0)) (λ q. cond (eqb q a) true (eqb q b)) t q l y in
    let k : false ≡ true = rw (ne_eqb q a f, ne_eqb q b g) at h in
    never k)
    (λ y. y)
    (bool_cases (repeated (get_or rows q 0)))

abbrev all : List Bool → Bool
all [] = true
all (t ∷ ts) = cond t (all ts) false

all-at : (ts : List Bool) → all ts ≡ true → (i : ℕ) → get_or ts i true ≡ true
all-at [] h i = refl
all-at (t ∷ ts) h zero = (both_true t h).0
all-at (t ∷ ts) h (suc i) = all-at ts (both_true t h).1 i

-- the first row with n in a column
abbrev pub row_by : (ℕ → ℕ) → ℕ → List ℕ → ℕ
row_by column n [] = 0
row_by column n (w ∷ ws) = cond (eqb (column w) n) 0 (suc (row_by column n ws))

abbrev sights : List ℕ → ℕ → ℕ → List Bool
sights rows r p =
    sole_test rows role_of 7 (r + 2) ∷ sole_test rows role_of 11 (r + 3) ∷ eqb (form_of (get_or rows (r + 2) 0)) 51 ∷ eqb (form_of (get_or rows (r + 3) 0)) 42
    ∷ collapsed (get_or rows (r + 2) 0) ∷ collapsed (get_or rows (r + 3) 0)
    ∷ required (get_or rows (r + 1) 0) ∷ required (get_or rows (r + 2) 0) ∷ required (get_or rows (r + 3) 0)
    ∷ wherever rows (λ q. eqb (form_of (get_or rows q 0)) 50) (λ q. cond (ltb 1 q) (ltb q r) false) ∷ ltb (r + 3) p ∷ []

seen-so : (rows : List ℕ) (r p : ℕ) → all (sights rows r p) ≡ true → Sighted rows r p
seen-so rows r p h =
    let t : (n : ℕ) → get_or (sights rows r p) n true ≡ true = all-at (sights rows r p) h in
    let business = sole rows role_of 7 (r + 2) (t 0) in
    let direction = sole rows role_of 11 (r + 3) (t 1) in
    record {
      business = business.0;
      direction = direction.0;
      only-business = business.1;
      only-direction = direction.1;
      business-form = eqb-true (form_of (get_or rows (r + 2) 0)) 51 (t 2);
      direction-form = eqb-true (form_of (get_or rows (r + 3) 0)) 42 (t 3);
      business-collapsed = t 4;
      direction-collapsed = t 5;
      must-first = t 6;
      must-business = t 7;
      must-direction = t 8;
      status = λ q l e.
          let f = at_row rows (λ q. eqb (form_of (get_or rows q 0)) 50) (λ q. cond (ltb 1 q) (ltb q r) false) (t 9) q l (eq-eqb (form_of (get_or rows q 0)) 50 e) in
          let k = both_true (ltb 1 q) f in
          (ltb-true 1 q k.0, ltb-true q r k.1);
      deep = ltb-true (r + 3) p (t 10);
    }

abbrev tests : ℕ → ℕ → ℕ → ℕ → ℕ → List Bool
tests kind p d c i =
    let rows = rows_of kind in
    eqb (length rows) (p + 6) ∷ ltb (2 + d) p ∷ wherever rows (λ q. ltb 0 q) (λ q. eqb (parent_of (get_or rows q 0)) (home (2 + d) p q))
    ∷ sole_test rows role_of 1 1 ∷ sole_test rows role_of 2 (2 + d) ∷ sole_test rows role_of 3 p ∷ sole_test rows role_of 4 (p + 3)
    ∷ wherever rows (λ q. eqb (role_of (get_or rows q 0)) 5) (λ q. cond (ltb (2 + d) q) (ltb q p) false)
    ∷ wherever rows (λ q. leb 6 (role_of (get_or rows q 0))) (λ q. ltb (2 + d) q)
    ∷ sole_test rows role_of 8 i ∷ sole_test rows role_of 9 (p + 4) ∷ sole_test rows role_of 10 (p + 5)
    ∷ sole_test rows form_of 6 (2 + c) ∷ sole_test rows form_of 7 (p + 1) ∷ sole_test rows form_of 9 (p + 4)
    ∷ not (collapsed (get_or rows (2 + c) 0)) ∷ collapsed (get_or rows (p + 4) 0)
    ∷ required (get_or rows 1 0) ∷ required (get_or rows p 0) ∷ required (get_or rows i 0)
    ∷ required (get_or rows (p + 4) 0) ∷ required (get_or rows (p + 5) 0)
    ∷ wherever rows (λ q. repeated (get_or rows q 0)) (λ q. cond (eqb q (2 + d)) true (eqb q (p + 3)))
    ∷ wherever rows (λ q. leb 6 (role_of (get_or rows q 0))) (λ q. asks_v (get_or rows q 0))
    ∷ not (ends_at_once rows p) ∷ eqb (kind_of (name_of (get_or rows 1 0))) kind ∷ ltb c d ∷ ltb (2 + d) i ∷ ltb i p
    ∷ wherever rows (λ q. coded_role (role_of (get_or rows q 0))) (λ q. leb 32 (form_of (get_or rows q 0)))
    ∷ not (ends_at_once rows 1) ∷ cond (kind_at kind).constrained (all (sights rows (2 + d) p)) true ∷ []

-- the tests by their places in that list
tested : (kind p d c i : ℕ) → well_made (rows_of kind) ≡ true → all (tests kind p d c i) ≡ true → Laid kind
tested kind p d c i well h =
    let rows = rows_of kind in
    let t : (n : ℕ) → get_or (tests kind p d c i) n true ≡ true = all-at (tests kind p d c i) h in
    let root = sole rows role_of 1 1 (t 3) in
    let series = sole rows role_of 2 (2 + d) (t 4) in
    let period = sole rows role_of 3 p (t 5) in
    let interval = sole rows role_of 4 (p + 3) (t 6) in
    let id = sole rows role_of 8 i (t 9) in
    let pos = sole rows role_of 9 (p + 4) (t 10) in
    let qty = sole rows role_of 10 (p + 5) (t 11) in
    let pos-form = sole rows form_of 9 (p + 4) (t 14) in
    let of-shown : (test : ℕ → Bool) → wherever rows (λ q. leb 6 (role_of (get_or rows q 0))) test ≡ true → (q : ℕ) → q < length rows → 6 ≤ role_of (get_or rows q 0) → test q ≡ true
    = λ test h q l e. at_row rows (λ q. leb 6 (role_of (get_or rows q 0))) test h q l (le-leb 6 (role_of (get_or rows q 0)) e) in
    record {
      period = p;
      layout =
          record {
            heads = d;
            covered = c;
            id-row = i;
            size = eqb-true (length rows) (p + 6) (t 0);
            wide = ltb-true (2 + d) p (t 1);
            covered-in = ltb-true c d (t 26);
            id-in = (ltb-true (2 + d) i (t 27), ltb-true i p (t 28));
            well = well;
            stands = λ q a l. eqb-true (parent_of (get_or rows q 0)) (home (2 + d) p q)
                (at_row rows (λ q. ltb 0 q) (λ q. eqb (parent_of (get_or rows q 0)) (home (2 + d) p q)) (t 2) q l (lt-ltb 0 q a));
            root = root.0;
            series = series.0;
            period = period.0;
            interval = interval.0;
            id = id.0;
            pos = pos.0;
            qty = qty.0;
            only-root = root.1;
            only-series = series.1;
            only-period = period.1;
            only-interval = interval.1;
            only-originals = between rows 5 (2 + d) p (t 7);
            only-id = id.1;
            only-pos = pos.1;
            only-qty = qty.1;
            shown-in = λ q l e. ltb-true (2 + d) q (of-shown (λ q. ltb (2 + d) q) (t 8) q l e);
            coded = λ q l e. leb-true 32 (form_of (get_or rows q 0)) (at_row rows (λ q. coded_role (role_of (get_or rows q 0))) (λ q. leb 32 (form_of (get_or rows q 0))) (t 29) q l e);
            covered-form = (sole rows form_of 6 (2 + c) (t 12)).1;
            time-form = (sole rows form_of 7 (p + 1) (t 13)).1;
            only-pos-form = pos-form.1;
            pos-form = pos-form.0;
            covered-kept = not-true (collapsed (get_or rows (2 + c) 0)) (t 15);
            pos-collapsed = t 16;
            must-root = t 17;
            must-period = t 18;
            must-id = t 19;
            must-pos = t 20;
            must-qty = t 21;
            once = single rows (2 + d) (p + 3) (t 22);
          };
      valued = λ q l e. of-shown (λ q. asks_v (get_or rows q 0)) (t 23) q l e;
      filled = not-true (ends_at_once rows p) (t 24);
      rooted = not-true (ends_at_once rows 1) (t 30);
      told = eqb-true (kind_of (name_of (get_or rows 1 0))) kind (t 25);
      sighted = λ e. seen-so rows (2 + d) p (where-true (kind_at kind).constrained (t 31) e);
    }

-- where the rows of a kind with these roles, and TimePeriodCovered, stand
abbrev row_in : ℕ → ℕ → ℕ
row_in kind role = row_by role_of role (rows_of kind)

abbrev covered_in : ℕ → ℕ
covered_in kind = row_by form_of period_form (rows_of kind)

pub laid : (kind : ℕ) → Known kind → Laid kind
unfolding rows_of beschaffungsanforderung kostenblatt network_constraint_document element_no number_in names same parent_of required repeated role_of form_of collapsed asks_v name_of kind_of kind_one kind_two kind_three no_kind kind_at ends_at_once ends_in
laid kind known =
    tested kind (row_in kind period_role) (row_in kind series_role - 2) (covered_in kind - 2) (row_in kind series_id_role) (well-made kind known)
    (of-kind (λ k. all (tests k (row_in k period_role) (row_in k series_role - 2) (covered_in k - 2) (row_in k series_id_role))) refl kind known)
