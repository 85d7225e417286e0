-- A row is reached through the row that it stands in: below the row of a series only through that row, below the row of an Interval only through
-- that one. The rows of each kind have this by a computed test (`table`). Assumes nothing.
use Prim.Native.Nat.{ℕ, suc, zero, ◌+◌, ◌≤◌, ◌<◌}
use mathlib.Core.Path.{◌≡◌, refl, sym, ap, ◌∙◌}
use mathlib.Core.List.{List, [], ◌∷◌}
use mathlib.Core.Bool.{Bool, true, false, cond, not}
use mathlib.Core.Logic.{⊎_elim}
use native.Mathlib.Omega.{arith}
use lib.Dec.{leb, ltb, eqb}
use lib.ListN.{length, get_or}
use borrow.Author.Tests.{lt-leb, ne_eqb, eqb-true, leb-true, ltb-true, not-true}
use Rattle.std.specs.Prelude.{Some, None}
use Rattle.lists.proofs.Cases.{bool_cases, leb-cases, eqb-cases, both_true, zero-not-one}
use Rattle.slices.specs.Same.{same}
use Rattle.elements.specs.Names.{names, number_in, element_no}
use Rattle.structure.specs.Rows.{name_of, parent_of, start_of, end_of}
use Rattle.structure.specs.Means.{NextIn}
use Rattle.structure.proofs.Means.{start-means, end-means}
use Rattle.columns.specs.Columns.{role_of, series_role, interval_role, object_role, business_role, series_id_role, pos_role, qty_role, direction_role, area_role}
use Rattle.guideline.specs.Kinds.{is_kind, series_element}
use Rattle.guideline.specs.Rows.{beschaffungsanforderung, kostenblatt, network_constraint_document, rows_of}
use Rattle.guideline.proofs.Each.{each_row, row_of, of-kind, row_with}
use Rattle.guideline.proofs.Roots.{no_start, no_end}
use Rattle.promises.specs.Items.{interval_element}

-- row 0 stands in none, and each other row in one before it
pub record Rooted (t : List ℕ) : Type 0 where
  pub top : parent_of (get_or t 0 0) ≡ 255
  pub short : length t ≤ 255
  pub parents : (i : ℕ) → 1 ≤ i → i < length t → parent_of (get_or t i 0) < i

-- row m, which is not the first, has this role, no row before it brings what needs it, and those after it stand in it or below it
pub record Mark (t : List ℕ) (m role : ℕ) (brings : ℕ → Bool) : Type 0 where
  pub late : 0 < m
  pub own : role_of (get_or t m 0) ≡ role
  pub before : (i : ℕ) → i < m → i < length t → brings (role_of (get_or t i 0)) ≡ false
  pub below : (i : ℕ) → m < i → i < length t → m ≤ parent_of (get_or t i 0)

module _ (t : List ℕ) (root : Rooted t) (r x q : ℕ) where
  -- what an end tag closes is not after the last row that was started
  pub end_back : (o : Bool) → end_of t r o x ≡ Some q → q ≤ r
  end_back true e = let d = end-means t r x q true e in omega (arith, d.innermost)
  end_back false e =
      let d = end-means t r x q false e in
      let n : q ≡ parent_of (get_or t r 0) = d.innermost in
      ⊎_elim
      (λ y. let z : q ≡ 255 = n ∙ ap (λ (k : ℕ). parent_of (get_or t k 0)) y.0 ∙ root.top in absurd (omega (arith, d.within, root.short)))
      (λ y.
      let p : 1 ≤ r = omega (arith, y.0) in
      omega (arith, root.parents r p d.inside))
      (eqb-cases r 0)

  -- it bears the tag's name
  pub due-named : (o : Bool) → start_of t r o x ≡ Some q → name_of (get_or t q 0) ≡ x
  due-named true e = (start-means t r x q true e).1.named
  due-named false e =
      let d = start-means t r x q false e in
      ⊎_elim (λ g. ap (λ (k : ℕ). name_of (get_or t k 0)) g.itself ∙ g.named) (λ g. g.1.named) d.1

  -- a row that is due is one of the table
  pub due-within : (o : Bool) → start_of t r o x ≡ Some q → q < length t
  due-within true e = (start-means t r x q true e).1.within
  due-within false e =
      let d = start-means t r x q false e in
      ⊎_elim (λ g. let h = d.0 in omega (arith, g.itself)) (λ g. g.1.within) d.1

  module _ (m role : ℕ) (brings : ℕ → Bool) (mark : Mark t m role brings) (h : r < m) where
    next-climb : (p : ℕ) → (m ≤ p → ⊥) → NextIn t r p x q → q ≤ m
    next-climb p f d =
        ⊎_elim
        (λ y. y.0)
        (λ y. absurd (f (rw d.stands at (mark.below q y.0 d.within))))
        (leb-cases q m)

    -- from a row before the mark the next is not past it
    pub climb : (o : Bool) → start_of t r o x ≡ Some q → q ≤ m
    climb true e = let d = start-means t r x q true e in next-climb r (λ l. omega arith) d.1
    climb false e =
        let d = start-means t r x q false e in
        ⊎_elim
        (λ g. omega (arith, g.itself))
        (λ g.
        ⊎_elim
        (λ y.
        let n = g.1 in
        let z : parent_of (get_or t q 0) ≡ 255 = n.stands ∙ ap (λ (k : ℕ). parent_of (get_or t k 0)) y.0 ∙ root.top in
        let p : 1 ≤ q = omega (arith, n.after) in
        absurd (omega (arith, root.parents q p n.within, n.within, root.short)))
        (λ y.
        let p : 1 ≤ r = omega (arith, y.0) in
        let b = root.parents r p d.0 in
        next-climb (parent_of (get_or t r 0)) (λ l. omega arith) g.1)
        (eqb-cases r 0))
        d.1

-- of a count that rises at the mark: past the mark it is not 0
pub counted : (t : List ℕ) → Rooted t → (m role : ℕ) (brings : ℕ → Bool) → Mark t m role brings → (r x q : ℕ) (o : Bool) → start_of t r o x ≡ Some q
    → (n n' : ℕ) → (m ≤ r → 1 ≤ n) → n ≤ n' → (role_of (get_or t q 0) ≡ role → 1 ≤ n') → m ≤ q → 1 ≤ n'
counted t root m role brings mark r x q o e n n' f u g l =
    ⊎_elim
    (λ y. let k = f y.0 in omega arith)
    (λ y.
    let c = climb t root r x q m role brings mark y.0 o e in
    let z : q ≡ m = omega arith in
    g (ap (λ (k : ℕ). role_of (get_or t k 0)) z ∙ mark.own))
    (leb-cases m r)

-- the computed tests
abbrev parent_before : ℕ → ℕ → Bool
parent_before i w = cond (eqb i 0) true (ltb (parent_of w) i)

abbrev none_before : ℕ → (ℕ → Bool) → ℕ → ℕ → Bool
none_before m brings i w = cond (leb m i) true (not (brings (role_of w)))

abbrev stands_below : ℕ → ℕ → ℕ → Bool
stands_below m i w = cond (leb i m) true (leb m (parent_of w))

abbrev all : List Bool → Bool
all [] = true
all (b ∷ bs) = cond b (all bs) false

module _ (t : List ℕ) where
  abbrev rooted_test : Bool
  rooted_test = all (eqb (parent_of (get_or t 0 0)) 255 ∷ leb (length t) 255 ∷ each_row parent_before 0 t ∷ [])

  rooted-by : rooted_test ≡ true → Rooted t
  rooted-by h =
      let a = both_true (eqb (parent_of (get_or t 0 0)) 255) h in
      let b = both_true (leb (length t) 255) a.1 in
      let c = both_true (each_row parent_before 0 t) b.1 in
      record {
        top = eqb-true (parent_of (get_or t 0 0)) 255 a.0;
        short = leb-true (length t) 255 b.0;
        parents =
            λ i l m.
            let z : i ≡ 0 → ⊥ = λ q. omega arith in
            ltb-true (parent_of (get_or t i 0)) i (rw (ne_eqb i 0 z) at (row_of parent_before t c.0 i m));
      }

  module _ (m role : ℕ) (brings : ℕ → Bool) where
    abbrev mark_test : Bool
    mark_test = all (ltb 0 m ∷ eqb (role_of (get_or t m 0)) role ∷ each_row (none_before m brings) 0 t ∷ each_row (stands_below m) 0 t ∷ [])

    mark-by : mark_test ≡ true → Mark t m role brings
    mark-by h =
        let a = both_true (ltb 0 m) h in
        let b = both_true (eqb (role_of (get_or t m 0)) role) a.1 in
        let c = both_true (each_row (none_before m brings) 0 t) b.1 in
        let d = both_true (each_row (stands_below m) 0 t) c.1 in
        record {
          late = ltb-true 0 m a.0;
          own = eqb-true (role_of (get_or t m 0)) role b.0;
          before = λ i k l. not-true (brings (role_of (get_or t i 0))) (rw (lt-leb m i k) at (row_of (none_before m brings) t c.0 i l));
          below = λ i k l. leb-true m (parent_of (get_or t i 0)) (rw (lt-leb i m k) at (row_of (stands_below m) t d.0 i l));
        }

-- of this name is a row of this role, and no other
abbrev named : ℕ → ℕ → ℕ → ℕ → Bool
named role name i w = cond (eqb (role_of w) role) (eqb (name_of w) name) (cond (eqb (name_of w) name) false true)

abbrev pub Named : List ℕ → ℕ → ℕ → Type 0
Named t role name = (i : ℕ) → i < length t → eqb (role_of (get_or t i 0)) role ≡ eqb (name_of (get_or t i 0)) name

agreed : (a b : Bool) → cond a b (cond b false true) ≡ true → a ≡ b
agreed true b e = sym e
agreed false true e = e
agreed false false e = refl

named_by : (t : List ℕ) (role name : ℕ) → each_row (named role name) 0 t ≡ true → Named t role name
named_by t role name e i h = agreed (eqb (role_of (get_or t i 0)) role) (eqb (name_of (get_or t i 0)) name) (row_of (named role name) t e i h)

-- what goes into the row of a series, and into that of an Interval
abbrev pub for_series : ℕ → Bool
for_series role =
    cond (eqb role series_role) true
    (cond (eqb role interval_role) true
    (cond (eqb role object_role) true
    (cond (eqb role business_role) true
    (cond (eqb role series_id_role) true
    (cond (eqb role direction_role) true (eqb role area_role))))))

abbrev pub for_interval : ℕ → Bool
for_interval role = cond (eqb role pos_role) true (eqb role qty_role)

-- the row of a series and that of an Interval, by kind
abbrev pub series_row : ℕ → ℕ
series_row kind = row_with series_role (rows_of kind)

abbrev pub interval_row : ℕ → ℕ
interval_row kind = row_with interval_role (rows_of kind)

-- what is known of the rows of a kind
pub record Table (kind : ℕ) : Type 0 where
  pub rooted : Rooted (rows_of kind)
  pub series : Mark (rows_of kind) (series_row kind) series_role for_series
  pub intervals : Mark (rows_of kind) (interval_row kind) interval_role for_interval
  pub series-named : Named (rows_of kind) series_role (series_element kind)
  pub interval-named : Named (rows_of kind) interval_role interval_element

pub table : (kind : ℕ) → is_kind kind ≡ true → Table kind
unfolding rows_of beschaffungsanforderung kostenblatt network_constraint_document element_no number_in names same parent_of role_of name_of series_element interval_element
table kind known =
    record {
      rooted = rooted-by (rows_of kind) (of-kind (λ k. rooted_test (rows_of k)) refl kind known);
      series =
          mark-by (rows_of kind) (series_row kind) series_role for_series
          (of-kind (λ k. mark_test (rows_of k) (series_row k) series_role for_series) refl kind known);
      intervals =
          mark-by (rows_of kind) (interval_row kind) interval_role for_interval
          (of-kind (λ k. mark_test (rows_of k) (interval_row k) interval_role for_interval) refl kind known);
      series-named =
          named_by (rows_of kind) series_role (series_element kind)
          (of-kind (λ k. each_row (named series_role (series_element k)) 0 (rows_of k)) refl kind known);
      interval-named =
          named_by (rows_of kind) interval_role interval_element
          (of-kind (λ k. each_row (named interval_role interval_element) 0 (rows_of k)) refl kind known);
    }

-- a tag is due by the rows of a kind alone
pub due-known : (kind r : ℕ) (o : Bool) (x q : ℕ) → start_of (rows_of kind) r o x ≡ Some q → is_kind kind ≡ true
due-known kind r o x q e =
    ⊎_elim
    (λ y. y)
    (λ y. let z : None ≡ Some q = sym (no_start kind y r o x) ∙ e in absurd (zero-not-one (cc)))
    (bool_cases (is_kind kind))

pub end_known : (kind r : ℕ) (o : Bool) (x q : ℕ) → end_of (rows_of kind) r o x ≡ Some q → is_kind kind ≡ true
end_known kind r o x q e =
    ⊎_elim
    (λ y. y)
    (λ y. let z : None ≡ Some q = sym (no_end kind y r o x) ∙ e in absurd (zero-not-one (cc)))
    (bool_cases (is_kind kind))
