-- TimePeriodCovered, the root and the identifications of a draft. Assumes nothing.
use Prim.Native.Nat.{ℕ, zero, suc, ◌+◌, ◌*◌, ◌≤◌, ◌<◌}
use mathlib.Core.Path.{◌≡◌, refl, sym, ap, ◌∙◌}
use mathlib.Core.List.{List, [], ◌∷◌, ◌++◌, map, append-nil, map-append}
use mathlib.Core.Bool.{Bool, true, false, cond, ◌&&◌, not, and-eq-true_iff}
use mathlib.Core.Logic.{⊎_elim}
use native.Mathlib.Omega.{arith}
use lib.Dec.{eqb}
use lib.ListN.{drop, get_or}
use borrow.Author.Tests.{eqb-true}
use Rattle.lists.proofs.Cases.{bool_cases, past-cond, zero-not-one, never}
use Rattle.slices.specs.Same.{same}
use Rattle.slices.proofs.Sames.{same-equal}
use Rattle.characters.specs.Says.{all_chars, says}
use Rattle.structure.specs.Rows.{required}
use Rattle.columns.specs.Columns.{form_of, collapsed, period_form, series_role, period_role, interval_role, series_id_role}
use Rattle.guideline.specs.Kinds.{dtd_message, fixed_for}
use Rattle.guideline.specs.Rows.{rows_of}
use Rattle.states.specs.Attributes.{asks_v, asks_scheme}
use Rattle.series.specs.Row.{field_at}
use Rattle.series.specs.declared.Field.TheVariants.{FirstRow, Count}
use Rattle.times.specs.Times.{interval}
use Rattle.times.specs.Periods.{quarter_hours}
use Rattle.std.specs.Prelude.{Some, None}
use Rattle.rules.specs.Rules.{judge}
use Rattle.rules.specs.declared.Held.{Held}
use Rattle.views.specs.Layout.{header_pairs, series_pairs, first_pair, cell_of}
use Rattle.views.specs.Shown.{pair_view}
use Rattle.contents.specs.Said.{Absent, Given, TagSaid, given, bytes}
use Rattle.contents.specs.Legal.{has_role, has_form, those, Period, period_by, period_in, period_of, fixed_fits, element_fits, identifications}
use Rattle.escapes.specs.Escaped.{escaped}
use Rattle.escapes.specs.Spelled.{chars_of}
use Rattle.escapes.proofs.Promises.{says-escaped}
use Rattle.drafts.specs.Draft.{Draft, is_no_pair, pair_value, single_tag, is_said, root_tag, singles, intervals_from, role_row, pair_for, singles_in, period_tree, series_from, draft_content, pair_fits}
use Rattle.drafts.specs.Judged.{singles_fit}
use Rattle.drafts.specs.Pairs.{has_pair, pairs_of}
use Rattle.drafts.proofs.Elements.{leaves_out, singles-those}
use Rattle.fitting.specs.Told.{has_ampersand, said_of, is_id, text_fits, scheme_told, single_told, singles_told, root_told, covered_pair, covered_at, covered_told, id_of}
use Rattle.fitting.proofs.Ampersands.{true-false, plain-escaped, none-back}
use Rattle.fitting.proofs.Forms.{period-minutes}
use Rattle.fitting.proofs.Value.{pair-legal}
use Rattle.fitting.proofs.Singles.{found, found_none, singles-found}
use Rattle.fitting.proofs.Laid.{Laid, Nowhere, has_covered, Covers, Identified, root_said, Rooted}

-- ---- where the values of the header fit, TimePeriodCovered is an interval

module _ (kind from to : ℕ) (text pairs : List ℕ) where
  abbrev held : Held
  held = record { kind = kind; from = from; to = to; quarters = quarter_hours from to; last = 0 }

  text-covered : (w : ℕ) (v : List ℕ) → form_of w ≡ period_form → collapsed w ≡ false → text_fits kind from to w v ≡ true
      → (has_ampersand v ≡ false) × ((judge period_form held (says v)).number ≡ 0)
  unfolding text_fits said_of is_id
  text-covered w v f c t =
      let u : cond (has_ampersand v) false (eqb (judge period_form held (says v)).number 0) ≡ true = rw (f, c) at t in
      let z = past-cond (has_ampersand v) (λ e. never e) u in
      (z.0, eqb-true (judge period_form held (says v)).number 0 z.1)

  single-covered : (w k : ℕ) → form_of w ≡ period_form → collapsed w ≡ false → required w ≡ true → single_told kind from to text pairs w k ≡ true → covered_at text pairs k ≡ None → ⊥
  unfolding single_told covered_at
  single-covered w k f c r s n = by (has_pair pairs k) refl
    where
      by : (g : Bool) → has_pair pairs k ≡ g → ⊥
      by false x = never (rw (x, r) at s)
      by true x =
          let t =
          ((and-eq-true_iff (cond (asks_scheme w) (cond (has_pair pairs (k + 1)) (scheme_told w (pair_view text pairs (k + 1))) false) true) (text_fits kind from to w (pair_view text pairs k))).0
          (rw x at s)).1 in
          let u = text-covered w (pair_view text pairs k) f c t in
          period-minutes held (says (pair_view text pairs k)) u.1 (rw (x, u.0) at n)

  pub covered-fits : (ws : List ℕ) (k : ℕ) → has_covered ws ≡ true → singles_told kind from to text pairs k ws ≡ true → covered_at text pairs (covered_pair k ws) ≡ None → ⊥
  unfolding has_covered singles_told covered_pair
  covered-fits [] k h s n = never h
  covered-fits (w ∷ ws) k h s n = by (asks_v w) (eqb (form_of w) period_form) refl refl (covered-fits ws (k + pairs_of w))
    where
      by : (a f : Bool) → asks_v w ≡ a → eqb (form_of w) period_form ≡ f
          → (has_covered ws ≡ true → singles_told kind from to text pairs (k + pairs_of w) ws ≡ true → covered_at text pairs (covered_pair (k + pairs_of w) ws) ≡ None → ⊥) → ⊥
      by false f x y ih = never (rw x at h)
      by true true x y ih =
          let c = past-cond (collapsed w) (λ z. never z) (let t : cond (collapsed w) false (required w) ≡ true = rw (x, y) at h in t) in
          let t = (and-eq-true_iff (single_told kind from to text pairs w k) (singles_told kind from to text pairs (k + pairs_of w) ws)).0 (rw x at s) in
          single-covered w k (eqb-true (form_of w) period_form y) c.0 c.1 t.0 (rw y at n)
      by true false x y ih =
          let t = (and-eq-true_iff (single_told kind from to text pairs w k) (singles_told kind from to text pairs (k + pairs_of w) ws)).0 (rw x at s) in
          ih (rw (x, y) at h) t.1 (rw y at n)

-- ---- what stands in the series

module _ (test : ℕ → Bool) (d : Draft) (rows : List ℕ) (o : Nowhere test rows) where
  intervals-none : (j n : ℕ) → those test rows (intervals_from d (role_row interval_role rows) j n) ≡ []
  unfolding intervals_from those
  intervals-none j zero = refl
  intervals-none j (suc n) = rw (o.interval, o.position, o.amount) (intervals-none (suc j) n)

  pub period-none : (i : ℕ) → those test rows (period_tree d rows i) ≡ []
  unfolding period_tree singles_in those
  period-none i =
      let q = suc (role_row period_role rows) in
      rw o.period
      (append-nil _
      ∙ singles-those test d rows _ (drop q rows) q (pair_for rows q i) refl o.in-period
      ∙ intervals-none (field_at d.series i FirstRow) (field_at d.series i Count))

  series-none : leaves_out test (drop (suc (role_row series_role rows)) rows) ≡ true → (i n : ℕ) → those test rows (series_from d rows i n) ≡ []
  unfolding series_from singles_in those
  series-none l i zero = refl
  series-none l i (suc n) =
      let s = suc (role_row series_role rows) in
      let inner = singles-those test d rows (period_tree d rows i) (drop s rows) s (pair_for rows s i) refl l ∙ period-none i in
      rw (o.series, inner) (series-none l (suc i) n)

-- the content, by the header's values and the series
header-those : (test : ℕ → Bool) (d : Draft) → Nowhere test (rows_of d.kind) → Laid (rows_of d.kind)
    → those test (rows_of d.kind) (draft_content d) ≡ found test d 3 (drop 2 (rows_of d.kind)) ++ those test (rows_of d.kind) (series_from d (rows_of d.kind) 0 d.count)
unfolding draft_content singles_in pair_for those
header-those test d o l =
    let rows = rows_of d.kind in
    let first : first_pair rows 2 + series_pairs * 0 ≡ 3 = let e = l.header-first in omega (arith, e) in
    rw o.root
    (append-nil _
    ∙ singles-found test d rows (series_from d rows 0 d.count) (drop 2 rows) 2 (first_pair rows 2 + series_pairs * 0) refl
    ∙ ap (λ (k : ℕ). found test d k (drop 2 rows) ++ those test rows (series_from d rows 0 d.count)) first)

-- ---- a pair that is there

module _ (d : Draft) (k : ℕ) where
  -- what it gives
  pub there-given : has_pair d.pairs k ≡ true → pair_value d k ≡ Given (escaped (pair_view d.text d.pairs k))
  unfolding has_pair pair_value
  there-given h =
      ⊎_elim
      (λ (y : is_no_pair (get_or d.pairs (cell_of k) 0) (get_or d.pairs (cell_of k + 1) 0) ≡ true). never (rw y at h))
      (λ (y : is_no_pair (get_or d.pairs (cell_of k) 0) (get_or d.pairs (cell_of k + 1) 0) ≡ false). rw y refl)
      (bool_cases (is_no_pair (get_or d.pairs (cell_of k) 0) (get_or d.pairs (cell_of k + 1) 0)))

  pub not-given : has_pair d.pairs k ≡ false → pair_value d k ≡ Absent
  unfolding has_pair pair_value
  not-given h =
      ⊎_elim
      (λ (y : is_no_pair (get_or d.pairs (cell_of k) 0) (get_or d.pairs (cell_of k + 1) 0) ≡ true). rw y refl)
      (λ (y : is_no_pair (get_or d.pairs (cell_of k) 0) (get_or d.pairs (cell_of k + 1) 0) ≡ false). true-false (rw y at h))
      (bool_cases (is_no_pair (get_or d.pairs (cell_of k) 0) (get_or d.pairs (cell_of k + 1) 0)))

  said-there : (w : ℕ) → has_pair d.pairs k ≡ true → is_said (single_tag d w k) ≡ true
  unfolding is_said single_tag given
  said-there w h = rw (there-given h) refl

  bytes-there : (w : ℕ) → has_pair d.pairs k ≡ true → bytes (single_tag d w k).v ≡ escaped (pair_view d.text d.pairs k)
  unfolding bytes single_tag
  bytes-there w h = rw (there-given h) refl

-- ---- TimePeriodCovered

pub record CoveredThere (text pairs : List ℕ) (k from to : ℕ) : Type 0 where
  pub pair : has_pair pairs k ≡ true
  pub plain : has_ampersand (pair_view text pairs k) ≡ false
  pub minutes : interval (says (pair_view text pairs k)) ≡ Some (from, to)

covered-there : (text pairs : List ℕ) (k from to : ℕ) → covered_at text pairs k ≡ Some (from, to) → CoveredThere text pairs k from to
unfolding covered_at
covered-there text pairs k from to h = by (has_pair pairs k) (has_ampersand (pair_view text pairs k)) refl refl
  where
    by : (g a : Bool) → has_pair pairs k ≡ g → has_ampersand (pair_view text pairs k) ≡ a → CoveredThere text pairs k from to
    by false a x y = let z = rw x at h in absurd (zero-not-one (cc))
    by true true x y = let z = rw (x, y) at h in absurd (zero-not-one (cc))
    by true false x y = record { pair = x; plain = y; minutes = rw (x, y) at h }

-- it is the period by which a draft is judged
pub covered-period : (d : Draft) (l : Laid (rows_of d.kind)) (c : Covers (rows_of d.kind)) → ((j : ℕ) → j < header_pairs → pair_fits d j ≡ true) → (from to : ℕ)
    → covered_told d.text d.pairs (rows_of d.kind) ≡ Some (from, to) → period_of (rows_of d.kind) (draft_content d) ≡ record { start = from; end = to }
unfolding covered_told period_of period_in period_by
covered-period d l c fits from to h =
    let rows = rows_of d.kind in
    let k = covered_pair 3 (drop 2 rows) in
    let w = get_or rows 11 0 in
    let t = covered-there d.text d.pairs k from to h in
    let legal = pair-legal d k (fits k (let e = c.inside in omega (arith, e))) in
    let tags : those (has_form period_form) rows (draft_content d) ≡ single_tag d w k ∷ [] =
    header-those (has_form period_form) d c.nowhere l
    ∙ ap (λ (x : List TagSaid). found (has_form period_form) d 3 (drop 2 rows) ++ x) (series-none (has_form period_form) d rows c.nowhere c.in-series 0 d.count)
    ∙ append-nil _
    ∙ c.one d
    ∙ rw (said-there d k w t.pair) refl in
    let said : interval (says (bytes (single_tag d w k).v)) ≡ Some (from, to) =
    ap (λ (b : List ℕ). interval (says b)) (bytes-there d k w t.pair) ∙ ap interval (plain-escaped _ legal t.plain) ∙ t.minutes in
    rw (tags, said) refl

-- ---- the root

pub root-told : (d : Draft) (p : Period) → Rooted d.kind (rows_of d.kind) → pair_fits d 2 ≡ true
    → root_told d.kind d.text d.pairs ≡ element_fits d.kind p (get_or (rows_of d.kind) 1 0) (root_tag d)
unfolding root_told root_tag root_said given fixed_fits
root-told d p r fits =
    by (has_pair d.pairs 0) (has_pair d.pairs 1) (has_pair d.pairs 2) (has_ampersand v) refl refl refl refl ∙ sym (r.fits p (pair_value d 0) (pair_value d 1) (pair_value d 2))
  where
    v : List ℕ
    v = pair_view d.text d.pairs 2

    legal : all_chars v ≡ true
    legal = pair-legal d 2 fits

    judged : Bool
    judged = not (given (pair_value d 0)) && (not (given (pair_value d 1)) && (given (pair_value d 2) && fixed_fits d.kind dtd_message (pair_value d 2)))

    by : (a b c m : Bool) → has_pair d.pairs 0 ≡ a → has_pair d.pairs 1 ≡ b → has_pair d.pairs 2 ≡ c → has_ampersand v ≡ m → root_told d.kind d.text d.pairs ≡ judged
    by true b c m x y z u = rw (x, there-given d 0 x) refl
    by false true c m x y z u = rw (x, y, not-given d 0 x, there-given d 1 y) refl
    by false false false m x y z u = rw (x, y, z, not-given d 0 x, not-given d 1 y, not-given d 2 z) refl
    by false false true true x y z u = rw (x, y, z, u, not-given d 0 x, not-given d 1 y, there-given d 2 z) (sym other)
      where
        other : same (fixed_for d.kind dtd_message) (says (escaped v)) ≡ false
        other =
            ⊎_elim
            (λ (e : same (fixed_for d.kind dtd_message) (says (escaped v)) ≡ true).
            let n : has_ampersand (chars_of v) ≡ false = ap has_ampersand (sym (same-equal _ _ e ∙ says-escaped v legal)) ∙ r.plain in true-false (sym u ∙ none-back v legal n))
            (λ (e : same (fixed_for d.kind dtd_message) (says (escaped v)) ≡ false). e)
            (bool_cases (same (fixed_for d.kind dtd_message) (says (escaped v))))
    by false false true false x y z u = rw (x, y, z, u, not-given d 0 x, not-given d 1 y, there-given d 2 z, plain-escaped v legal u) refl

-- ---- the identifications

-- of n series from series i on
unfoldable pub ids_from : Draft → ℕ → ℕ → List (List ℕ)
ids_from d i zero = []
ids_from d i (suc n) = says (escaped (id_of d.text d.pairs i)) ∷ ids_from d (suc i) n

no-tag : (d : Draft) (k w : ℕ) → asks_scheme w ≡ false → has_pair d.pairs k ≡ false → is_said (single_tag d w k) ≡ false
unfolding is_said single_tag given
no-tag d k w a x = rw (not-given d k x, a) refl

module _ (d : Draft) (p : Period) (rows : List ℕ) (l : Laid rows) (t : Identified rows) where
  -- where the values of a series fit, its identification is there
  id-there : (k : ℕ) → singles_fit d p k (drop (suc (role_row series_role rows)) rows) ≡ true → has_pair d.pairs k ≡ true
  unfolding singles_fit
  id-there k h = by (has_pair d.pairs k) refl (rw t.first at h)
    where
      w : ℕ
      w = get_or rows (suc (role_row series_role rows)) 0

      by : (g : Bool) → has_pair d.pairs k ≡ g → singles_fit d p k (w ∷ drop (suc (suc (role_row series_role rows))) rows) ≡ true → has_pair d.pairs k ≡ true
      by true x u = x
      by false x u = never (rw (t.asks, no-tag d k w t.alone x, t.must) at u)

  one-id : (i : ℕ) → singles_fit d p (pair_for rows (suc (role_row series_role rows)) i) (drop (suc (role_row series_role rows)) rows) ≡ true
      → map (λ (x : TagSaid). says (bytes x.v)) (those (has_role series_id_role) rows (singles_in d rows (role_row series_role rows) i (period_tree d rows i)))
      ≡ says (escaped (id_of d.text d.pairs i)) ∷ []
  unfolding singles_in pair_for id_of
  one-id i h =
      let s = suc (role_row series_role rows) in
      let w = get_or rows s 0 in
      let k = first_pair rows s + series_pairs * i in
      let there = id-there k h in
      let tags : those (has_role series_id_role) rows (singles d s k (drop s rows) (period_tree d rows i)) ≡ single_tag d w k ∷ [] =
      singles-found (has_role series_id_role) d rows (period_tree d rows i) (drop s rows) s k refl
      ∙ ap (λ (x : List TagSaid). found (has_role series_id_role) d k (drop s rows) ++ x) (period-none (has_role series_id_role) d rows t.nowhere i)
      ∙ append-nil _
      ∙ t.one d k
      ∙ rw (said-there d k w there) refl in
      let place : k ≡ header_pairs + series_pairs * i = ap (λ (x : ℕ). x + series_pairs * i) l.series-first in
      ap (map (λ (x : TagSaid). says (bytes x.v))) tags
      ∙ ap (λ (x : List ℕ). says x ∷ []) (bytes-there d k w there ∙ ap (λ (x : ℕ). escaped (pair_view d.text d.pairs x)) place)

  series-ids : (i n : ℕ)
      → ((j : ℕ) → i ≤ j → j < i + n → singles_fit d p (pair_for rows (suc (role_row series_role rows)) j) (drop (suc (role_row series_role rows)) rows) ≡ true)
      → map (λ (x : TagSaid). says (bytes x.v)) (those (has_role series_id_role) rows (series_from d rows i n)) ≡ ids_from d i n
  unfolding series_from those ids_from
  series-ids i zero h = refl
  series-ids i (suc n) h =
      let inner = singles_in d rows (role_row series_role rows) i (period_tree d rows i) in
      rw t.nowhere.series
      (map-append (λ (x : TagSaid). says (bytes x.v)) (those (has_role series_id_role) rows inner) (those (has_role series_id_role) rows (series_from d rows (suc i) n))
      ∙ ap (λ (x : List (List ℕ)). x ++ map (λ (x : TagSaid). says (bytes x.v)) (those (has_role series_id_role) rows (series_from d rows (suc i) n))) (one-id i (h i (omega arith) (omega arith)))
      ∙ ap (λ (x : List (List ℕ)). says (escaped (id_of d.text d.pairs i)) ∷ x) (series-ids (suc i) n (λ j a b. h j (omega arith) (omega arith))))

pub ids-said : (d : Draft) (p : Period) (l : Laid (rows_of d.kind)) (t : Identified (rows_of d.kind))
    → ((j : ℕ) → j < d.count
    → singles_fit d p (pair_for (rows_of d.kind) (suc (role_row series_role (rows_of d.kind))) j) (drop (suc (role_row series_role (rows_of d.kind))) (rows_of d.kind)) ≡ true)
    → identifications (rows_of d.kind) (draft_content d) ≡ ids_from d 0 d.count
unfolding identifications
ids-said d p l t h =
    let rows = rows_of d.kind in
    ap (map (λ (x : TagSaid). says (bytes x.v)))
    (header-those (has_role series_id_role) d t.nowhere l
    ∙ ap (λ (x : List TagSaid). x ++ those (has_role series_id_role) rows (series_from d rows 0 d.count)) (found_none (has_role series_id_role) d (drop 2 rows) 3 t.in-header))
    ∙ series-ids d p rows l t 0 d.count (λ j a b. h j (omega arith))
