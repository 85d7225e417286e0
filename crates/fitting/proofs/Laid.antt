-- How the rows of the two kinds that are written lie, computed. Assumes nothing.
use Prim.Native.Nat.{ℕ, suc, ◌+◌}
use mathlib.Core.Path.{◌≡◌, refl}
use mathlib.Core.List.{List, [], ◌∷◌}
use mathlib.Core.Bool.{Bool, true, false, cond, ◌&&◌, not}
use mathlib.Core.Logic.{⊎_elim}
use lib.Dec.{eqb}
use lib.ListN.{drop, get_or}
use borrow.Author.Tests.{eqb-true}
use Rattle.lists.proofs.Cases.{eqb-cases}
use Rattle.slices.specs.Same.{same}
use Rattle.elements.specs.Names.{names, number_in, element_no}
use Rattle.structure.specs.Rows.{name_of, required}
use Rattle.columns.specs.Columns.{form_of, scheme_of, role_of, collapsed, period_form, series_role, period_role, interval_role, series_id_role}
use Rattle.guideline.specs.Kinds.{dtd_message, no_demands, message_alone, kind_one, kind_two, kind_at, fixed_one, fixed_two, fixed_for}
use Rattle.guideline.specs.Rows.{beschaffungsanforderung, kostenblatt, rows_of}
use Rattle.states.specs.Attributes.{agree, asks_v, asks_scheme, demands_at, meets, no_others}
use Rattle.views.specs.Layout.{header_pairs, series_pairs, values_of, pair_after, pairs_after, first_pair}
use Rattle.contents.specs.Said.{AttributeValue, Absent, Given, TagSaid, given}
use Rattle.contents.specs.Legal.{has_role, has_form, Period, dtd_agrees, attributes_agree, fixed_fits, root_fits, element_fits}
use Rattle.drafts.specs.Draft.{Draft, single_tag, is_said, role_row}
use Rattle.drafts.specs.Pairs.{pairs_of}
use Rattle.drafts.proofs.Elements.{leaves_out}
use Rattle.drafts.specs.Fit.{is_written}
use Rattle.fitting.specs.Told.{has_ampersand, is_id, covered_pair}
use Rattle.fitting.proofs.Forms.{plain_form}
use Rattle.fitting.proofs.Value.{is_fine}
use Rattle.fitting.proofs.Singles.{rows_fine, ends_there, reaches_period, behind_it, pairs_before, found}

-- ---- the pairs of the header, of a series, and of its Period

pub record Laid (rows : List ℕ) : Type 0 where
  pub header : rows_fine header_pairs 3 (drop 2 rows) ≡ true
  pub header-first : first_pair rows 2 ≡ 3
  pub header-ends : ends_there (drop 2 rows) ≡ true
  pub series : rows_fine (header_pairs + series_pairs) header_pairs (drop (suc (role_row series_role rows)) rows) ≡ true
  pub series-first : first_pair rows (suc (role_row series_role rows)) ≡ header_pairs
  pub period : reaches_period (drop (suc (role_row series_role rows)) rows) ≡ true
  pub behind : behind_it (drop (suc (role_row series_role rows)) rows) ≡ drop (suc (role_row period_role rows)) rows
  pub behind-first : first_pair rows (suc (role_row period_role rows)) ≡ header_pairs + pairs_before (drop (suc (role_row series_role rows)) rows)
  pub behind-ends : ends_there (drop (suc (role_row period_role rows)) rows) ≡ true

laid_one : Laid beschaffungsanforderung
unfolding beschaffungsanforderung element_no names number_in same name_of form_of scheme_of role_of collapsed asks_v asks_scheme values_of pair_after pairs_after first_pair role_row pairs_of is_id plain_form is_fine rows_fine
    ends_there reaches_period behind_it pairs_before
laid_one =
    record { header = refl; header-first = refl; header-ends = refl; series = refl; series-first = refl; period = refl; behind = refl; behind-first = refl; behind-ends = refl }

laid-two : Laid kostenblatt
unfolding kostenblatt element_no names number_in same name_of form_of scheme_of role_of collapsed asks_v asks_scheme values_of pair_after pairs_after first_pair role_row pairs_of is_id plain_form is_fine rows_fine ends_there
    reaches_period behind_it pairs_before
laid-two =
    record { header = refl; header-first = refl; header-ends = refl; series = refl; series-first = refl; period = refl; behind = refl; behind-first = refl; behind-ends = refl }

-- ---- where a test finds no element

pub record Nowhere (test : ℕ → Bool) (rows : List ℕ) : Type 0 where
  pub root : test (get_or rows 1 0) ≡ false
  pub series : test (get_or rows (role_row series_role rows) 0) ≡ false
  pub period : test (get_or rows (role_row period_role rows) 0) ≡ false
  pub interval : test (get_or rows (role_row interval_role rows) 0) ≡ false
  pub position : test (get_or rows (suc (role_row interval_role rows)) 0) ≡ false
  pub amount : test (get_or rows (suc (suc (role_row interval_role rows))) 0) ≡ false
  pub in-period : leaves_out test (drop (suc (role_row period_role rows)) rows) ≡ true

-- ---- TimePeriodCovered, in row 11

-- it comes before any row that has no `v`, has to come, and nothing is dropped
unfoldable pub has_covered : List ℕ → Bool
has_covered [] = false
has_covered (w ∷ ws) = cond (asks_v w) (cond (eqb (form_of w) period_form) (cond (collapsed w) false (required w)) (has_covered ws)) false

pub record Covers (rows : List ℕ) : Type 0 where
  pub there : has_covered (drop 2 rows) ≡ true
  pub nowhere : Nowhere (has_form period_form) rows
  pub in-series : leaves_out (has_form period_form) (drop (suc (role_row series_role rows)) rows) ≡ true
  pub one : (d : Draft) → found (has_form period_form) d 3 (drop 2 rows)
      ≡ cond (is_said (single_tag d (get_or rows 11 0) (covered_pair 3 (drop 2 rows)))) (single_tag d (get_or rows 11 0) (covered_pair 3 (drop 2 rows)) ∷ []) []
  pub inside : covered_pair 3 (drop 2 rows) ≡ 14

covers_one : Covers beschaffungsanforderung
unfolding beschaffungsanforderung element_no names number_in same name_of form_of scheme_of role_of collapsed required asks_v asks_scheme values_of role_row pairs_of leaves_out has_covered covered_pair found
covers_one =
    record {
      there = refl;
      nowhere = record { root = refl; series = refl; period = refl; interval = refl; position = refl; amount = refl; in-period = refl };
      in-series = refl;
      one = λ d. refl;
      inside = refl;
    }

covers-two : Covers kostenblatt
unfolding kostenblatt element_no names number_in same name_of form_of scheme_of role_of collapsed required asks_v asks_scheme values_of role_row pairs_of leaves_out has_covered covered_pair found
covers-two =
    record {
      there = refl;
      nowhere = record { root = refl; series = refl; period = refl; interval = refl; position = refl; amount = refl; in-period = refl };
      in-series = refl;
      one = λ d. refl;
      inside = refl;
    }

-- ---- TimeSeriesIdentification, the first of a series

pub record Identified (rows : List ℕ) : Type 0 where
  pub first : drop (suc (role_row series_role rows)) rows ≡ get_or rows (suc (role_row series_role rows)) 0 ∷ drop (suc (suc (role_row series_role rows))) rows
  pub asks : asks_v (get_or rows (suc (role_row series_role rows)) 0) ≡ true
  pub must : required (get_or rows (suc (role_row series_role rows)) 0) ≡ true
  pub alone : asks_scheme (get_or rows (suc (role_row series_role rows)) 0) ≡ false
  pub nowhere : Nowhere (has_role series_id_role) rows
  pub in-header : leaves_out (has_role series_id_role) (drop 2 rows) ≡ true
  pub one : (d : Draft) (k : ℕ) → found (has_role series_id_role) d k (drop (suc (role_row series_role rows)) rows)
      ≡ cond (is_said (single_tag d (get_or rows (suc (role_row series_role rows)) 0) k)) (single_tag d (get_or rows (suc (role_row series_role rows)) 0) k ∷ []) []

identified-one : Identified beschaffungsanforderung
unfolding beschaffungsanforderung element_no names number_in same name_of form_of scheme_of role_of required asks_v asks_scheme role_row leaves_out found
identified-one =
    record {
      first = refl;
      asks = refl;
      must = refl;
      alone = refl;
      nowhere = record { root = refl; series = refl; period = refl; interval = refl; position = refl; amount = refl; in-period = refl };
      in-header = refl;
      one = λ d k. refl;
    }

identified-two : Identified kostenblatt
unfolding kostenblatt element_no names number_in same name_of form_of scheme_of role_of required asks_v asks_scheme role_row leaves_out found
identified-two =
    record {
      first = refl;
      asks = refl;
      must = refl;
      alone = refl;
      nowhere = record { root = refl; series = refl; period = refl; interval = refl; position = refl; amount = refl; in-period = refl };
      in-header = refl;
      one = λ d k. refl;
    }

-- ---- the root

unfoldable pub root_said : AttributeValue → AttributeValue → AttributeValue → TagSaid
root_said a b c = record { v = Absent; scheme = Absent; dtd = record { version = a; release = b; message = c }; others = false; passable = true }

pub record Rooted (kind : ℕ) (rows : List ℕ) : Type 0 where
  pub fits : (p : Period) (a b c : AttributeValue) → element_fits kind p (get_or rows 1 0) (root_said a b c)
      ≡ (not (given a) && (not (given b) && (given c && fixed_fits kind dtd_message c)))
  pub plain : has_ampersand (fixed_for kind dtd_message) ≡ false

rooted-one : Rooted 1 beschaffungsanforderung
unfolding beschaffungsanforderung element_no names number_in same name_of form_of scheme_of role_of asks_v asks_scheme agree no_demands message_alone kind_one kind_at demands_at meets no_others dtd_agrees attributes_agree
    fixed_fits root_fits element_fits given root_said fixed_one fixed_for has_ampersand
rooted-one = record { fits = by; plain = refl }
  where
    by : (p : Period) (a b c : AttributeValue) → element_fits 1 p (get_or beschaffungsanforderung 1 0) (root_said a b c)
        ≡ (not (given a) && (not (given b) && (given c && fixed_fits 1 dtd_message c)))
    by p Absent Absent Absent = refl
    by p Absent Absent (Given z) = refl
    by p Absent (Given y) c = refl
    by p (Given x) b c = refl

rooted-two : Rooted 2 kostenblatt
unfolding kostenblatt element_no names number_in same name_of form_of scheme_of role_of asks_v asks_scheme agree no_demands message_alone kind_two kind_at demands_at meets no_others dtd_agrees attributes_agree fixed_fits
    root_fits element_fits given root_said fixed_two fixed_for has_ampersand
rooted-two = record { fits = by; plain = refl }
  where
    by : (p : Period) (a b c : AttributeValue) → element_fits 2 p (get_or kostenblatt 1 0) (root_said a b c)
        ≡ (not (given a) && (not (given b) && (given c && fixed_fits 2 dtd_message c)))
    by p Absent Absent Absent = refl
    by p Absent Absent (Given z) = refl
    by p Absent (Given y) c = refl
    by p (Given x) b c = refl

-- ---- of either kind

pub record Sheet (kind : ℕ) (rows : List ℕ) : Type 0 where
  pub laid : Laid rows
  pub covers : Covers rows
  pub identified : Identified rows
  pub rooted : Rooted kind rows

sheet-one : Sheet 1 beschaffungsanforderung
sheet-one = record { laid = laid_one; covers = covers_one; identified = identified-one; rooted = rooted-one }

sheet-two : Sheet 2 kostenblatt
sheet-two = record { laid = laid-two; covers = covers-two; identified = identified-two; rooted = rooted-two }

pub sheet : (kind : ℕ) → is_written kind ≡ true → Sheet kind (rows_of kind)
unfolding is_written rows_of
sheet kind h =
    ⊎_elim
    (λ (y : (kind ≡ 1) × (eqb kind 1 ≡ true)). rw y.0 sheet-one)
    (λ (y : (kind ≡ 1 → ⊥) × (eqb kind 1 ≡ false)). let e : eqb kind 2 ≡ true = rw y.1 at h in rw (eqb-true kind 2 e) sheet-two)
    (eqb-cases kind 1)
