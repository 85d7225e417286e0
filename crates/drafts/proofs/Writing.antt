-- The content of a draft can be laid out, where all that it shows is lent. Assumes nothing.
use Prim.Native.Nat.{ℕ, zero, suc, ◌+◌, ◌*◌, ◌≤◌, ◌<◌}
use mathlib.Core.Path.{◌≡◌, refl, sym, ap, ◌∙◌, subst}
use mathlib.Core.List.{List, [], ◌∷◌}
use mathlib.Core.Bool.{Bool, true, false, cond, ◌&&◌, and-eq-true_iff}
use mathlib.Core.Logic.{⊎_elim}
use native.Mathlib.Omega.{arith}
use lib.Dec.{eqb, leb}
use lib.IntN.{ℤ, pos}
use lib.ListN.{length, drop, get_or}
use borrow.Author.Tests.{eqb-true}
use Rattle.lists.proofs.Cases.{bool_cases, leb-cases, both_true, never}
use Rattle.characters.specs.Says.{all_chars}
use Rattle.structure.specs.Rows.{name_of}
use Rattle.columns.specs.Columns.{series_role, period_role, interval_role}
use Rattle.guideline.specs.Rows.{rows_of}
use Rattle.elements.specs.Names.{names}
use Rattle.states.specs.Attributes.{asks_v, asks_scheme}
use Rattle.series.specs.Row.{field_at}
use Rattle.series.specs.declared.Field.TheVariants.{FirstRow, Count}
use Rattle.views.specs.Layout.{header_pairs, series_pairs, one_if, values_of, first_pair, cell_of}
use Rattle.views.specs.Shown.{pair_view}
use Rattle.trees.specs.Trees.{Trees, none, element}
use Rattle.contents.specs.Said.{AttributeValue, Absent, Given, TagSaid}
use Rattle.escapes.specs.Escaped.{escaped}
use Rattle.escapes.proofs.Promises.{escaped-whole}
use Rattle.wholes.specs.Whole.{whole_text}
use Rattle.amounts.specs.Texts.{amount_text}
use Rattle.contents.specs.Spelled.{Spells}
use Rattle.layouts.specs.Layout.{layout_of, Quotable, QuotableIn, TagWritable, HasName, Writable}
use Rattle.layouts.proofs.Spelling.{layout-spells}
use Rattle.drafts.specs.Draft.{Draft, is_no_pair, pair_value, no_dtd_said, single_tag, is_said, root_tag, bare_tag, number_tag, singles, intervals_from, role_row, pair_for, singles_in, period_tree, series_from, draft_content, pair_fits, RowsLent, Lent}
use Rattle.drafts.proofs.Quoted.{numeric-amount, numeric-whole, numeric-quotable}
use Rattle.drafts.proofs.Rows.{is_named, in_pairs, is_bare, Table, table}

leb-true : (a b : ℕ) → leb a b ≡ true → a ≤ b
leb-true a b e = ⊎_elim (λ y. y.0) (λ y. never (sym y.1 ∙ e)) (leb-cases a b)

has-name : (w : ℕ) → is_named w ≡ true → HasName (name_of w)
unfolding is_named names
has-name w e =
    let t = (and-eq-true_iff (leb 1 (name_of w)) (leb (name_of w) 44)).0 e in
    record { least = leb-true 1 (name_of w) t.0; most = leb-true (name_of w) 44 t.1 }

bare-row : (w : ℕ) → is_bare w ≡ true → HasName (name_of w) × (asks_v w ≡ true → ⊥)
unfolding is_bare
bare-row w e =
    ⊎_elim
    (λ y. never (rw y at e))
    (λ y. (has-name w (rw y at e), λ z. never (sym y ∙ z)))
    (bool_cases (asks_v w))

-- ---- tags

value-quotable : (d : Draft) (k : ℕ) → pair_fits d k ≡ true → QuotableIn (pair_value d k)
unfolding pair_fits pair_value QuotableIn Quotable
value-quotable d k h =
    let start = get_or d.pairs (cell_of k) 0 in
    let len = get_or d.pairs (cell_of k + 1) 0 in
    let t = both_true (leb (start + len) (length d.text)) h in
    ⊎_elim (λ y. rw y tt) (λ y. rw y (escaped-whole (pair_view d.text d.pairs k) t.1)) (bool_cases (is_no_pair start len))

single-writable : (d : Draft) (w k : ℕ) → pair_fits d k ≡ true → (asks_scheme w ≡ true → pair_fits d (k + 1) ≡ true) → TagWritable (single_tag d w k)
unfolding single_tag no_dtd_said QuotableIn
single-writable d w k v s =
    record {
      version = tt;
      release = tt;
      message = tt;
      v = value-quotable d k v;
      scheme = ⊎_elim (λ y. rw y (value-quotable d (k + 1) (s y))) (λ y. rw y tt) (bool_cases (asks_scheme w));
      others = refl;
      passable = refl;
    }

bare-writable : TagWritable bare_tag
unfolding bare_tag no_dtd_said QuotableIn
bare-writable = record { version = tt; release = tt; message = tt; v = tt; scheme = tt; others = refl; passable = refl }

number-writable : (t : List ℕ) → Quotable t → TagWritable (number_tag t)
unfolding number_tag no_dtd_said QuotableIn
number-writable t q = record { version = tt; release = tt; message = tt; v = q; scheme = tt; others = refl; passable = refl }

-- ---- elements

pub row-there : (rows : List ℕ) (q w : ℕ) (ws : List ℕ) → w ∷ ws ≡ drop q rows → (get_or rows q 0 ≡ w) × (ws ≡ drop (suc q) rows)
row-there [] zero w ws e = absurd (let z = ap length e in omega (arith, z))
row-there [] (suc q) w ws e = absurd (let z = ap length e in omega (arith, z))
row-there (x ∷ rows) zero w ws e = (cc, cc)
row-there (x ∷ rows) (suc q) w ws e = row-there rows q w ws e

module _ (d : Draft) (rows : List ℕ) (most z : ℕ) (fits : (j : ℕ) → j < most + z → pair_fits d j ≡ true) (behind : Trees TagSaid) (w : Writable rows behind) where
  -- z pairs stand before those of the first series, or of the header
  singles-writable : (ws : List ℕ) (q k : ℕ) → ws ≡ drop q rows → in_pairs most k ws ≡ true → Writable rows (singles d q (k + z) ws behind)
  unfolding singles in_pairs Writable
  singles-writable [] q k e t = w
  singles-writable (x ∷ ws) q k e t = by (asks_v x) refl (λ (s : in_pairs most (k + values_of x) ws ≡ true). singles-writable ws (suc q) (k + values_of x) there.1 s)
    where
      there : (get_or rows q 0 ≡ x) × (ws ≡ drop (suc q) rows)
      there = row-there rows q x ws e

      rest : Trees TagSaid
      rest = singles d (suc q) (k + z + values_of x) ws behind

      by : (a : Bool) → asks_v x ≡ a → (in_pairs most (k + values_of x) ws ≡ true → Writable rows (singles d (suc q) (k + values_of x + z) ws behind))
          → Writable rows (cond (asks_v x) (cond (is_said (single_tag d x (k + z))) (element q (single_tag d x (k + z)) none rest) rest) behind)
      by false y ih = rw y w
      by true y ih =
          let u : is_named x && eqb (values_of x) (1 + one_if (asks_scheme x)) && leb (k + values_of x) most && in_pairs most (k + values_of x) ws ≡ true = rw y at t in
          let u1 = (and-eq-true_iff (is_named x && eqb (values_of x) (1 + one_if (asks_scheme x)) && leb (k + values_of x) most) _).0 u in
          let u2 = (and-eq-true_iff (is_named x && eqb (values_of x) (1 + one_if (asks_scheme x))) _).0 u1.0 in
          let u3 = (and-eq-true_iff (is_named x) _).0 u2.0 in
          let n = eqb-true (values_of x) (1 + one_if (asks_scheme x)) u3.1 in
          let l = leb-true (k + values_of x) most u2.1 in
          let m : k + values_of x + z ≡ k + z + values_of x = omega arith in
          let r : Writable rows rest = subst (λ (j : ℕ). Writable rows (singles d (suc q) j ws behind)) m (ih u1.1) in
          let tag =
          single-writable d x (k + z) (fits (k + z) (omega (arith, n, l)))
          (λ (s : asks_scheme x ≡ true). let n1 : values_of x ≡ 2 = rw s at n in fits (k + z + 1) (omega (arith, n1, l))) in
          rw y
          (⊎_elim
          (λ (v : is_said (single_tag d x (k + z)) ≡ true). rw v (rw there.0 (has-name x u3.0), tag, (λ s. refl), tt, r))
          (λ (v : is_said (single_tag d x (k + z)) ≡ false). rw v r)
          (bool_cases (is_said (single_tag d x (k + z)))))

module _ (d : Draft) (rows : List ℕ) (t : Table rows) where
  intervals-writable : (j n : ℕ) → Writable rows (intervals_from d (role_row interval_role rows) j n)
  unfolding intervals_from Writable
  intervals-writable j zero = tt
  intervals-writable j (suc n) =
      let q = role_row interval_role rows in
      let b = bare-row (get_or rows q 0) t.interval in (
        b.0,
        bare-writable,
        (λ z. absurd (b.1 z)),
        (
          has-name (get_or rows (suc q) 0) t.position,
          number-writable _ (numeric-quotable _ (numeric-whole (get_or d.positions j 0))),
          (λ z. refl),
          tt,
          (has-name (get_or rows (suc (suc q)) 0) t.amount, number-writable _ (numeric-quotable _ (numeric-amount (get_or d.amounts j (pos 0)))), (λ z. refl), tt, tt),
        ),
        intervals-writable (suc j) n,
      )

  module _ (fits : (j : ℕ) → j < header_pairs + series_pairs * d.count → pair_fits d j ≡ true) where
    -- the pairs of series i are among them
    series-fit : (i : ℕ) → i < d.count → (j : ℕ) → j < header_pairs + series_pairs + series_pairs * i → pair_fits d j ≡ true
    series-fit i h j l = fits j (omega arith)

    period-writable : (i : ℕ) → i < d.count → Writable rows (period_tree d rows i)
    unfolding period_tree singles_in pair_for Writable
    period-writable i h =
        let p = role_row period_role rows in
        let b = bare-row (get_or rows p 0) t.period in (
          b.0,
          bare-writable,
          (λ z. absurd (b.1 z)),
          singles-writable d rows (header_pairs + series_pairs) (series_pairs * i) (series-fit i h) _
              (intervals-writable (field_at d.series i FirstRow) (field_at d.series i Count))
              (drop (suc p) rows) (suc p) (first_pair rows (suc p)) refl t.period-pairs,
          tt,
        )

    series-writable : (i n : ℕ) → i + n ≤ d.count → Writable rows (series_from d rows i n)
    unfolding series_from singles_in pair_for Writable
    series-writable i zero h = tt
    series-writable i (suc n) h =
        let s = role_row series_role rows in
        let b = bare-row (get_or rows s 0) t.series in
        let l : i < d.count = omega arith in (
          b.0,
          bare-writable,
          (λ z. absurd (b.1 z)),
          singles-writable d rows (header_pairs + series_pairs) (series_pairs * i) (series-fit i l) _ (period-writable i l) (drop (suc s) rows) (suc s) (first_pair rows (suc s)) refl t.series-pairs,
          series-writable (suc i) n (omega arith),
        )

root-writable : (d : Draft) → pair_fits d 0 ≡ true → pair_fits d 1 ≡ true → pair_fits d 2 ≡ true → TagWritable (root_tag d)
unfolding root_tag QuotableIn
root-writable d a b c =
    record { version = value-quotable d 0 a; release = value-quotable d 1 b; message = value-quotable d 2 c; v = tt; scheme = tt; others = refl; passable = refl }

pub draft-writable : (d : Draft) → Lent d → Writable (rows_of d.kind) (draft_content d)
unfolding draft_content singles_in pair_for Writable
draft-writable d l =
    let rows = rows_of d.kind in
    let t = table d.kind l.kind in
    let fits : (j : ℕ) → j < header_pairs + series_pairs * d.count → pair_fits d j ≡ true = λ j h. l.values j (omega arith) in
    let b = bare-row (get_or rows 1 0) t.root in (
      b.0,
      root-writable d (fits 0 (omega arith)) (fits 1 (omega arith)) (fits 2 (omega arith)),
      (λ z. absurd (b.1 z)),
      singles-writable d rows header_pairs (series_pairs * 0) (λ j h. fits j (omega arith)) _ (series-writable d rows t fits 0 d.count (omega arith)) (drop 2 rows) 2 (first_pair rows 2) refl t.header-pairs,
      tt,
    )

-- "The layout is fixed": the document of a draft spells its content
pub draft-spells : (d : Draft) → Lent d → Spells (layout_of (rows_of d.kind) (draft_content d)) d.kind (draft_content d)
draft-spells d l = layout-spells d.kind (draft_content d) (draft-writable d l)
