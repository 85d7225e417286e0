-- What is written "gives back the same .. texts, spaces at collapsed ends aside". Assumes nothing.
use Prim.Native.Nat.{ℕ, zero, suc, ◌+◌, ◌≤◌, ◌<◌}
use mathlib.Core.Path.{◌≡◌, refl, sym, ap, ◌∙◌, subst}
use mathlib.Core.List.{List, [], ◌∷◌, append-nil}
use mathlib.Core.Bool.{Bool, true, false, cond}
use mathlib.Core.Logic.{⊎_elim}
use native.Mathlib.Omega.{arith}
use native.Mathlib.Nat.{add-zero}
use lib.Dec.{eqb, leb}
use lib.ListN.{length, get_or, drop}
use borrow.Author.Tests.{ne_eqb}
use Rattle.lists.proofs.Cases.{bool_cases, both_true, never}
use Rattle.characters.specs.Says.{all_chars, says}
use Rattle.trims.specs.Trim.{dropped, trimmed_of}
use Rattle.trims.proofs.Trimming.{trimmed-says}
use Rattle.escapes.specs.Escaped.{escaped}
use Rattle.escapes.specs.Spelled.{spelled, unescaped, chars_of}
use Rattle.escapes.proofs.Texts.{text-spelled}
use Rattle.escapes.proofs.Promises.{says-escaped}
use Rattle.columns.specs.Columns.{role_of, root_role, series_role}
use Rattle.guideline.specs.Rows.{rows_of}
use Rattle.states.specs.Attributes.{asks_scheme}
use Rattle.trees.specs.Trees.{Trees, none, element}
use Rattle.contents.specs.Said.{AttributeValue, Absent, Given, TagSaid, given}
use Rattle.contents.specs.Spelled.{Spells}
use Rattle.contents.specs.Legal.{has_role, those, Legal}
use Rattle.views.specs.Layout.{header_pairs, values_of, first_pair, cell_of, view_room}
use Rattle.views.specs.Shown.{pair_view}
use Rattle.views.specs.Views.{sheet_viewed}
use Rattle.sights.specs.Values.{without_spaces, values_said, PairShows, value_at, ShowsValues}
use Rattle.sights.proofs.Promises.{shows-values}
use Rattle.sights.proofs.Slots.{in-header, in-series}
use Rattle.sights.proofs.Witness.{legal-answer, legal-viewed}
use Rattle.drafts.specs.Draft.{Draft, is_no_pair, pair_value, single_tag, is_said, root_tag, role_row, pair_for, singles_in, series_from, period_tree, draft_content, draft_document, pair_fits, Lent}
use Rattle.drafts.specs.Pairs.{has_pair}
use Rattle.drafts.specs.Judged.{draft_legal}
use Rattle.drafts.proofs.Given.{start-given}
use Rattle.drafts.proofs.Writing.{draft-spells}
use Rattle.drafts.proofs.Elements.{Roles, roles, singles-those}
use Rattle.drafts.proofs.Legal.{plain-intervals, draft-legal}
use Rattle.writings.specs.Back.{drops_at, ends_dropped, TextBack, TextsBack}
use Rattle.writings.proofs.Places.{series_row, period_row, interval_row, Places, places, Single, side-header, side-series, single, row-place}
use Rattle.writings.proofs.Parts.{RowsHave, NoSeries, last_in}
use Rattle.writings.proofs.Last.{inner-plain, tag_or, last-root, last-header, last-series}

-- ---- a pair

absent-value : (a : AttributeValue) → given a ≡ false → a ≡ Absent
unfolding given
absent-value Absent e = refl
absent-value (Given b) e = never (sym e)

module _ (d : Draft) (k : ℕ) where
  abbrev text_of : List ℕ
  text_of = pair_view d.text d.pairs k

  abbrev no_pair_at : Bool
  no_pair_at = is_no_pair (get_or d.pairs (cell_of k) 0) (get_or d.pairs (cell_of k + 1) 0)

  pub pair-absent : has_pair d.pairs k ≡ false → pair_value d k ≡ Absent
  unfolding has_pair pair_value
  pair-absent e = ⊎_elim (λ (y : no_pair_at ≡ true). rw y refl) (λ (y : no_pair_at ≡ false). never (sym (rw y at e))) (bool_cases no_pair_at)

  pub pair-given : has_pair d.pairs k ≡ true → pair_value d k ≡ Given (escaped text_of)
  unfolding has_pair pair_value
  pair-given e = ⊎_elim (λ (y : no_pair_at ≡ true). never (rw y at e)) (λ (y : no_pair_at ≡ false). rw y refl) (bool_cases no_pair_at)

  pub text-legal : pair_fits d k ≡ true → all_chars text_of ≡ true
  unfolding pair_fits
  text-legal f = (both_true (leb (get_or d.pairs (cell_of k) 0 + get_or d.pairs (cell_of k + 1) 0) (length d.text)) f).1

  shown-says : (drops : Bool) → pair_fits d k ≡ true → says (cond drops (trimmed_of (escaped text_of)) (escaped text_of)) ≡ ends_dropped drops (chars_of text_of)
  shown-says true f = trimmed-says (escaped text_of) ∙ ap dropped (says-escaped text_of (text-legal f))
  shown-says false f = says-escaped text_of (text-legal f)

  shown-back : (doc t : List ℕ) (drops : Bool) → pair_fits d k ≡ true → PairShows doc t k (without_spaces drops (pair_value d k)) → TextBack d doc t k drops
  unfolding PairShows without_spaces has_pair
  shown-back doc t drops f h =
      record {
        absent = λ e. rw (pair-absent e) at h;
        there = λ e. sym (start-given (get_or t (cell_of k) 0) (get_or t (cell_of k + 1) 0) (λ z. let a = (shown e).1 in omega (arith, a, z)));
        said = λ e. ap says (shown e).0 ∙ shown-says drops f;
      }
    where
      shown : has_pair d.pairs k ≡ true → (pair_view doc t k ≡ cond drops (trimmed_of (escaped text_of)) (escaped text_of)) × (1 ≤ get_or t (cell_of k) 0)
      shown e = rw (pair-given e) at h

  -- "so that unescaped again it is the text itself", where nothing is dropped
  pub text-again : (doc t : List ℕ) (drops : Bool) → pair_fits d k ≡ true → TextBack d doc t k drops → has_pair d.pairs k ≡ true → ends_dropped drops (chars_of text_of) ≡ chars_of text_of
      → unescaped (pair_view doc t k) ≡ text_of
  unfolding unescaped
  text-again doc t drops f b e kept = ap spelled (b.said e ∙ kept) ∙ text-spelled text_of (text-legal f)

-- ---- the values of a row of single values, said or not

module _ (d : Draft) (rows : List ℕ) (q k : ℕ) (o : Single rows q) where
  abbrev w : ℕ
  w = get_or rows q 0

  abbrev tag : TagSaid
  tag = single_tag d w k

  abbrev shown : ℕ → AttributeValue
  shown j = without_spaces (drops_at w j) (pair_value d (k + j))

  in-said : (j : ℕ) → j < values_of w → get_or (values_said w tag) j Absent ≡ shown j
  unfolding values_said single_tag drops_at
  in-said zero h = rw (o.no-root, o.asks, add-zero k) refl
  in-said (suc zero) h =
      let n = o.values in
      ⊎_elim
      (λ (y : asks_scheme w ≡ true). rw (o.no-root, o.asks, y) refl)
      (λ (y : asks_scheme w ≡ false). let e : values_of w ≡ 1 = rw y at n in absurd (omega (arith, e, h)))
      (bool_cases (asks_scheme w))
  in-said (suc (suc j)) h =
      let n = o.values in
      ⊎_elim
      (λ (y : asks_scheme w ≡ true). let e : values_of w ≡ 2 = rw y at n in absurd (omega (arith, e, h)))
      (λ (y : asks_scheme w ≡ false). let e : values_of w ≡ 1 = rw y at n in absurd (omega (arith, e, h)))
      (bool_cases (asks_scheme w))

  unsaid : is_said tag ≡ false → (given (pair_value d k) ≡ false) × (asks_scheme w ≡ true → given (pair_value d (k + 1)) ≡ false)
  unfolding is_said single_tag
  unsaid e =
      ⊎_elim
      (λ (y : given (pair_value d k) ≡ true). never (sym (rw y at e)))
      (λ (y : given (pair_value d k) ≡ false).
      (y, λ z. let u : given (cond (asks_scheme w) (pair_value d (k + 1)) Absent) ≡ false = rw y at e in rw z at u))
      (bool_cases (given (pair_value d k)))

  in-none : is_said tag ≡ false → (j : ℕ) → j < values_of w → Absent ≡ shown j
  unfolding without_spaces
  in-none e zero h = rw (add-zero k, absent-value (pair_value d k) (unsaid e).0) refl
  in-none e (suc zero) h =
      let n = o.values in
      ⊎_elim
      (λ (y : asks_scheme w ≡ true). rw (absent-value (pair_value d (k + 1)) ((unsaid e).1 y)) refl)
      (λ (y : asks_scheme w ≡ false). let m : values_of w ≡ 1 = rw y at n in absurd (omega (arith, m, h)))
      (bool_cases (asks_scheme w))
  in-none e (suc (suc j)) h =
      let n = o.values in
      ⊎_elim
      (λ (y : asks_scheme w ≡ true). let m : values_of w ≡ 2 = rw y at n in absurd (omega (arith, m, h)))
      (λ (y : asks_scheme w ≡ false). let m : values_of w ≡ 1 = rw y at n in absurd (omega (arith, m, h)))
      (bool_cases (asks_scheme w))

  pub value-shown : (j : ℕ) → j < values_of w → value_at w (cond (is_said tag) (tag ∷ []) []) j ≡ shown j
  value-shown j h =
      ⊎_elim (λ (y : is_said tag ≡ true). rw y (in-said j h)) (λ (y : is_said tag ≡ false). rw y (in-none y j h)) (bool_cases (is_said tag))

-- of the root, from which nothing is dropped
module _ (d : Draft) (rows : List ℕ) (root : role_of (get_or rows 1 0) ≡ root_role) where
  all-kept : (a : AttributeValue) → without_spaces false a ≡ a
  unfolding without_spaces
  all-kept Absent = refl
  all-kept (Given b) = refl

  pub root-values : values_of (get_or rows 1 0) ≡ 3
  unfolding values_of
  root-values = rw root refl

  in-root : (j : ℕ) → j < 3 → get_or (pair_value d 0 ∷ pair_value d 1 ∷ pair_value d 2 ∷ []) j Absent ≡ pair_value d j
  in-root zero h = refl
  in-root (suc zero) h = refl
  in-root (suc (suc zero)) h = refl
  in-root (suc (suc (suc j))) h = absurd (omega (arith, h))

  root-shown : (j : ℕ) → j < values_of (get_or rows 1 0) → value_at (get_or rows 1 0) (root_tag d ∷ []) j ≡ without_spaces (drops_at (get_or rows 1 0) j) (pair_value d j)
  unfolding values_said root_tag drops_at
  root-shown j h = let e = root-values in rw root (in-root j (omega (arith, e, h)) ∙ sym (all-kept (pair_value d j)))

-- ---- as many series as are counted

plain-those : (rows : List ℕ) (c : Trees TagSaid) → RowsHave (NoSeries rows) c → those (has_role series_role) rows c ≡ []
unfolding RowsHave those
plain-those rows none h = refl
plain-those rows (element r s i a) h = rw (h.0, plain-those rows i h.1) (plain-those rows a h.2)

series-many : (d : Draft) (rows : List ℕ) (p : Places rows) (t : Roles rows) (i n : ℕ) → length (those (has_role series_role) rows (series_from d rows i n)) ≡ n
unfolding series_from those
series-many d rows p t i zero = refl
series-many d rows p t i (suc n) =
    rw (t.series, plain-those rows (singles_in d rows (role_row series_role rows) i (period_tree d rows i)) (inner-plain d rows p t i)) (ap suc (series-many d rows p t (suc i) n))

pub draft-series : (d : Draft) → cond (eqb d.kind 1) true (eqb d.kind 2) ≡ true → length (those (has_role series_role) (rows_of d.kind) (draft_content d)) ≡ d.count
unfolding draft_content singles_in those
draft-series d kind =
    let rows = rows_of d.kind in
    let t = roles d.kind kind in
    rw t.root
    (ap length (append-nil _ ∙ singles-those (has_role series_role) d rows (series_from d rows 0 d.count) (drop 2 rows) 2 (pair_for rows 2 0) refl (plain-intervals d rows t (drop 2 rows) t.in-header).0)
    ∙ series-many d rows (places d.kind kind) t 0 d.count)

-- ---- the views of a written document

module _ (d : Draft) (l : Lent d) (fit : draft_legal d ≡ true) (n : ℕ) (wide : cell_of header_pairs ≤ n) (small : length (draft_document d) ≤ 1048576)
    (room : d.count ≤ (view_room n).series) where
  abbrev doc : List ℕ
  doc = draft_document d

  abbrev views : List ℕ
  views = (sheet_viewed doc n).table

  abbrev rows : List ℕ
  rows = rows_of d.kind

  abbrev content : Trees TagSaid
  content = draft_content d

  abbrev p : Places rows
  p = places d.kind l.kind

  abbrev t : Roles rows
  t = roles d.kind l.kind

  spells : Spells doc d.kind content
  unfolding draft_document
  spells = draft-spells d l

  legal : Legal d.kind content
  legal = draft-legal d l.kind fit

  few : length (those (has_role series_role) rows content) ≤ (view_room n).series
  few = let e = draft-series d l.kind in omega (arith, e, room)

  pub document-viewed : (sheet_viewed doc n).told.refusal ≡ 0
  document-viewed = legal-viewed doc n wide small d.kind content spells legal few

  series-viewed : (sheet_viewed doc n).told.series ≡ d.count
  series-viewed = (legal-answer doc n wide small d.kind content spells legal few).1 ∙ draft-series d l.kind

  shows : ShowsValues doc views d.kind d.count content
  shows = subst (λ (m : ℕ). ShowsValues doc views d.kind m content) series-viewed (shows-values doc n wide document-viewed d.kind content spells legal)

  some : (q j : ℕ) → j < values_of (get_or rows q 0) → eqb (values_of (get_or rows q 0)) 0 ≡ false
  some q j h = ne_eqb (values_of (get_or rows q 0)) 0 (λ e. omega (arith, e, h))

  root-text : (q : ℕ) → q ≡ 1 → first_pair rows 1 ≡ 0 → q < length rows → first_pair rows q < header_pairs → (j : ℕ) → j < values_of (get_or rows q 0)
      → PairShows doc views (first_pair rows q + j) (without_spaces (drops_at (get_or rows q 0) j) (pair_value d (first_pair rows q + j)))
  root-text q e z low f j h =
      let k : first_pair rows q + j ≡ j = rw e (omega (arith, z)) in
      let last : last_in rows q 0 [] content 0 ≡ root_tag d ∷ [] = rw e (last-root d p t (rw e at f)) in
      let all : value_at (get_or rows q 0) (root_tag d ∷ []) j ≡ without_spaces (drops_at (get_or rows q 0) j) (pair_value d j) = rw e (root-shown d rows t.root j (rw e at h)) in
      subst (PairShows doc views (first_pair rows q + j))
      (ap (λ (x : List TagSaid). value_at (get_or rows q 0) x j) last ∙ all ∙ ap (λ (x : ℕ). without_spaces (drops_at (get_or rows q 0) j) (pair_value d x)) (sym k))
      (shows.header q low f j h)

  first-values : (q j : ℕ) → j < values_of (get_or rows q 0) → Single rows q
      → value_at (get_or rows q 0) (tag_or d rows p t q 0 []) j ≡ without_spaces (drops_at (get_or rows q 0) j) (pair_value d (first_pair rows q + j))
  unfolding pair_for
  first-values q j h o =
      let e : pair_for rows q 0 ≡ first_pair rows q = omega arith in
      value-shown d rows q (pair_for rows q 0) o j h ∙ ap (λ (k : ℕ). without_spaces (drops_at (get_or rows q 0) j) (pair_value d (k + j))) e

  header-text : (q : ℕ) → q < length rows → first_pair rows q < header_pairs → (j : ℕ) → j < values_of (get_or rows q 0)
      → TextBack d doc views (first_pair rows q + j) (drops_at (get_or rows q 0) j)
  header-text q low f j h =
      let b = in-header d.kind q low (some q j h) f in
      shown-back d (first_pair rows q + j) doc views (drops_at (get_or rows q 0) j) (l.values (first_pair rows q + j) (omega (arith, b, h)))
      (⊎_elim
      (λ (y : (q ≡ 1) × (first_pair rows 1 ≡ 0)). root-text q y.0 y.1 low f j h)
      (λ (y : (2 ≤ q) × (q ≡ series_row rows → ⊥) × (q ≡ period_row rows → ⊥) × (q < interval_row rows)).
      let o = single rows p q y.0 y.1 y.2 y.3 in
      let u : q < series_row rows = side-header rows q o y.1 f in
      subst (PairShows doc views (first_pair rows q + j)) (ap (λ (x : List TagSaid). value_at (get_or rows q 0) x j) (last-header d p t q y.0 u) ∙ first-values q j h o) (shows.header q low f j h))
      (row-place rows p q j low h))

  each-text : (q : ℕ) → q < length rows → header_pairs ≤ first_pair rows q → (i : ℕ) → i < d.count → (j : ℕ) → j < values_of (get_or rows q 0)
      → TextBack d doc views (pair_for rows q i + j) (drops_at (get_or rows q 0) j)
  unfolding pair_for
  each-text q low f i c j h =
      let b = in-series d.kind q low (some q j h) f in
      shown-back d (pair_for rows q i + j) doc views (drops_at (get_or rows q 0) j) (l.values (pair_for rows q i + j) (omega (arith, b, h, c)))
      (⊎_elim
      (λ (y : (q ≡ 1) × (first_pair rows 1 ≡ 0)). absurd (let e : first_pair rows q ≡ 0 = rw y.0 y.1 in omega (arith, e, f)))
      (λ (y : (2 ≤ q) × (q ≡ series_row rows → ⊥) × (q ≡ period_row rows → ⊥) × (q < interval_row rows)).
      let o = single rows p q y.0 y.1 y.2 y.3 in
      let u : series_row rows < q = side-series rows q o y.1 f in
      subst (PairShows doc views (pair_for rows q i + j)) (ap (λ (x : List TagSaid). value_at (get_or rows q 0) x j) (last-series d p t q i u y.2 y.3 c) ∙ value-shown d rows q (pair_for rows q i) o j h) (shows.each q low f i c j h))
      (row-place rows p q j low h))

  -- "gives back the same .. texts, spaces at collapsed ends aside"
  pub texts-back : TextsBack d doc views
  texts-back = record { header = header-text; each = each-text }
