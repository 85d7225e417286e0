-- The single values of a draft, which are told in one walk through the Period. Assumes nothing.
use Prim.Native.Nat.{ℕ, suc, ◌+◌, ◌≤◌, ◌<◌}
use mathlib.Core.Path.{◌≡◌, refl, sym, ap, ◌∙◌}
use mathlib.Core.List.{List, [], ◌∷◌, ◌++◌}
use mathlib.Core.Bool.{Bool, true, false, cond, ◌&&◌, not, and-eq-true_iff, and_assoc}
use mathlib.Core.Logic.{⊎_elim}
use native.Mathlib.Omega.{arith}
use lib.Dec.{eqb, leb}
use lib.ListN.{drop, get_or}
use borrow.Author.Tests.{leb-true}
use Rattle.lists.proofs.Cases.{bool_cases, never}
use Rattle.structure.specs.Rows.{required}
use Rattle.columns.specs.Columns.{role_of, period_role, original_role}
use Rattle.states.specs.Attributes.{agree, asks_v, asks_scheme}
use Rattle.views.specs.Layout.{values_of, cell_of}
use Rattle.trees.specs.Trees.{Trees, none, element}
use Rattle.contents.specs.Said.{TagSaid, given}
use Rattle.contents.specs.Legal.{Period, attributes_agree, element_fits, those}
use Rattle.drafts.specs.Draft.{Draft, is_no_pair, pair_value, single_tag, is_said, singles, pair_fits}
use Rattle.drafts.specs.Judged.{singles_fit, originals_said}
use Rattle.drafts.specs.Pairs.{has_pair, pairs_of}
use Rattle.drafts.proofs.Writing.{row-there}
use Rattle.drafts.proofs.Elements.{leaves_out}
use Rattle.fitting.specs.Told.{singles_told, originals_told}
use Rattle.fitting.proofs.Ampersands.{true-false}
use Rattle.fitting.proofs.Value.{is_fine, Fine, fine, both-same, one_fits, single-told}

some_pairs : (w : ℕ) → 1 ≤ pairs_of w
unfolding pairs_of
some_pairs w = ⊎_elim (λ (y : asks_scheme w ≡ true). rw y (omega arith)) (λ (y : asks_scheme w ≡ false). rw y (omega arith)) (bool_cases (asks_scheme w))

two-pairs : (w : ℕ) → asks_scheme w ≡ true → pairs_of w ≡ 2
unfolding pairs_of
two-pairs w y = rw y refl

-- ---- in one walk

-- the rows up to one that has no `v`, and those behind a Period, are fine; their pairs, of which the first is k, are below `most`
unfoldable pub rows_fine : ℕ → ℕ → List ℕ → Bool
rows_fine most k [] = true
rows_fine most k (w ∷ ws) =
    let rest = rows_fine most (cond (asks_v w) (k + values_of w) k) ws in
    cond (asks_v w) (is_fine w && leb (k + values_of w) most && rest) (cond (eqb (role_of w) period_role) rest true)

pub record RowFine (most k w : ℕ) (ws : List ℕ) : Type 0 where
  pub here : Fine w
  pub inside : k + values_of w ≤ most
  pub rest : rows_fine most (k + values_of w) ws ≡ true

row_fine : (most k w : ℕ) (ws : List ℕ) → asks_v w ≡ true → rows_fine most k (w ∷ ws) ≡ true → RowFine most k w ws
unfolding rows_fine
row_fine most k w ws x h =
    let u : is_fine w && leb (k + values_of w) most && rows_fine most (k + values_of w) ws ≡ true = rw x at h in
    let u1 = (and-eq-true_iff (is_fine w && leb (k + values_of w) most) (rows_fine most (k + values_of w) ws)).0 u in
    let u2 = (and-eq-true_iff (is_fine w) (leb (k + values_of w) most)).0 u1.0 in
    record { here = fine w u2.0; inside = leb-true (k + values_of w) most u2.1; rest = u1.1 }

-- the same walk by what a draft says
unfoldable pub through_fit : Draft → Period → ℕ → List ℕ → Bool
through_fit d p k [] = true
through_fit d p k (w ∷ ws) =
    cond (asks_v w) (one_fits d p w k && through_fit d p (k + values_of w) ws) (cond (eqb (role_of w) period_role) (through_fit d p k ws) true)

-- z pairs stand before those of the first series, or of the header
module _ (d : Draft) (p : Period) (most z : ℕ) (fits : (j : ℕ) → j < most + z → pair_fits d j ≡ true) where
  abbrev told : ℕ → List ℕ → Bool
  told k ws = singles_told d.kind p.start p.end d.text d.pairs k ws

  pub through-told : (ws : List ℕ) (k : ℕ) → rows_fine most k ws ≡ true → singles_told d.kind p.start p.end d.text d.pairs (k + z) ws ≡ through_fit d p (k + z) ws
  unfolding singles_told through_fit rows_fine
  through-told [] k h = refl
  through-told (w ∷ ws) k h = by (asks_v w) (eqb (role_of w) period_role) refl refl (λ (j : ℕ) (g : rows_fine most j ws ≡ true). through-told ws j g)
    where
      by : (a r : Bool) → asks_v w ≡ a → eqb (role_of w) period_role ≡ r → ((j : ℕ) → rows_fine most j ws ≡ true → told (j + z) ws ≡ through_fit d p (j + z) ws)
          → told (k + z) (w ∷ ws) ≡ through_fit d p (k + z) (w ∷ ws)
      by true r x y ih =
          let u = row_fine most k w ws x h in
          let n = u.here.pairs in
          let l = u.inside in
          let s = some_pairs w in
          let one : k + z + pairs_of w ≡ k + values_of w + z = omega (arith, n) in
          let two : k + values_of w + z ≡ k + z + values_of w = omega arith in
          let rest : told (k + z + pairs_of w) ws ≡ through_fit d p (k + z + values_of w) ws =
          ap (λ (j : ℕ). told j ws) one ∙ ih (k + values_of w) u.rest ∙ ap (λ (j : ℕ). through_fit d p j ws) two in
          let here =
          single-told d p w (k + z) u.here x (fits (k + z) (omega (arith, n, l, s)))
          (λ c. let t = two-pairs w c in fits (k + z + 1) (omega (arith, n, l, t))) in
          rw x (both-same here rest)
      by false true x y ih = rw (x, y) (ih k (rw (x, y) at h))
      by false false x y ih = rw (x, y) refl

-- ---- up to the first row that has no `v`, and behind the Period

-- which is no Period
unfoldable pub ends_there : List ℕ → Bool
ends_there [] = true
ends_there (w ∷ ws) = cond (asks_v w) (ends_there ws) (not (eqb (role_of w) period_role))

-- which is the Period
unfoldable pub reaches_period : List ℕ → Bool
reaches_period [] = false
reaches_period (w ∷ ws) = cond (asks_v w) (reaches_period ws) (eqb (role_of w) period_role)

-- the rows behind it, and the pairs before it
unfoldable pub behind_it : List ℕ → List ℕ
behind_it [] = []
behind_it (w ∷ ws) = cond (asks_v w) (behind_it ws) ws

unfoldable pub pairs_before : List ℕ → ℕ
pairs_before [] = 0
pairs_before (w ∷ ws) = cond (asks_v w) (values_of w + pairs_before ws) 0

module _ (d : Draft) (p : Period) where
  pub through-once : (ws : List ℕ) (k : ℕ) → ends_there ws ≡ true → through_fit d p k ws ≡ singles_fit d p k ws
  unfolding through_fit singles_fit ends_there one_fits
  through-once [] k h = refl
  through-once (w ∷ ws) k h = by (asks_v w) (eqb (role_of w) period_role) refl refl (λ (g : ends_there ws ≡ true). through-once ws (k + values_of w) g)
    where
      by : (a r : Bool) → asks_v w ≡ a → eqb (role_of w) period_role ≡ r → (ends_there ws ≡ true → through_fit d p (k + values_of w) ws ≡ singles_fit d p (k + values_of w) ws)
          → through_fit d p k (w ∷ ws) ≡ singles_fit d p k (w ∷ ws)
      by true r x y ih = rw x (ap (λ (z : Bool). one_fits d p w k && z) (ih (rw x at h)))
      by false true x y ih = never (rw (x, y) at h)
      by false false x y ih = rw (x, y) refl

  pub through-period : (ws : List ℕ) (k : ℕ) → reaches_period ws ≡ true → through_fit d p k ws ≡ (singles_fit d p k ws && through_fit d p (k + pairs_before ws) (behind_it ws))
  unfolding through_fit singles_fit reaches_period behind_it pairs_before one_fits
  through-period [] k h = never h
  through-period (w ∷ ws) k h = by (asks_v w) refl (λ (g : reaches_period ws ≡ true). through-period ws (k + values_of w) g)
    where
      by : (a : Bool) → asks_v w ≡ a
          → (reaches_period ws ≡ true → through_fit d p (k + values_of w) ws ≡ (singles_fit d p (k + values_of w) ws && through_fit d p (k + values_of w + pairs_before ws) (behind_it ws)))
          → through_fit d p k (w ∷ ws) ≡ (singles_fit d p k (w ∷ ws) && through_fit d p (k + pairs_before (w ∷ ws)) (behind_it (w ∷ ws)))
      by true x ih =
          let more : k + values_of w + pairs_before ws ≡ k + (values_of w + pairs_before ws) = omega arith in
          let rest : through_fit d p (k + values_of w) ws ≡ (singles_fit d p (k + values_of w) ws && through_fit d p (k + (values_of w + pairs_before ws)) (behind_it ws)) =
          ih (rw x at h) ∙ ap (λ (j : ℕ). singles_fit d p (k + values_of w) ws && through_fit d p j (behind_it ws)) more in
          rw x
          (ap (λ (z : Bool). one_fits d p w k && z) rest
          ∙ sym (and_assoc (one_fits d p w k) (singles_fit d p (k + values_of w) ws) (through_fit d p (k + (values_of w + pairs_before ws)) (behind_it ws))))
      by false x ih =
          let r : eqb (role_of w) period_role ≡ true = rw x at h in
          let none : k ≡ k + 0 = omega arith in
          rw (x, r) (ap (λ (j : ℕ). through_fit d p j ws) none)

  -- ---- the Originals

  -- what is said and fits has a `v`
  fit-given : (w k : ℕ) → asks_v w ≡ true → is_said (single_tag d w k) ≡ true → element_fits d.kind p w (single_tag d w k) ≡ true → has_pair d.pairs k ≡ true
  unfolding has_pair element_fits attributes_agree agree single_tag pair_value given
  fit-given w k x s e =
      ⊎_elim
      (λ (y : is_no_pair (get_or d.pairs (cell_of k) 0) (get_or d.pairs (cell_of k + 1) 0) ≡ true). never (rw (y, x) at e))
      (λ (y : is_no_pair (get_or d.pairs (cell_of k) 0) (get_or d.pairs (cell_of k + 1) 0) ≡ false). rw y refl)
      (bool_cases (is_no_pair (get_or d.pairs (cell_of k) 0) (get_or d.pairs (cell_of k + 1) 0)))

  unsaid : (w k : ℕ) → is_said (single_tag d w k) ≡ false → has_pair d.pairs k ≡ false
  unfolding has_pair is_said single_tag pair_value given
  unsaid w k s =
      ⊎_elim
      (λ (y : is_no_pair (get_or d.pairs (cell_of k) 0) (get_or d.pairs (cell_of k + 1) 0) ≡ true). rw y refl)
      (λ (y : is_no_pair (get_or d.pairs (cell_of k) 0) (get_or d.pairs (cell_of k + 1) 0) ≡ false). true-false (rw y at s))
      (bool_cases (is_no_pair (get_or d.pairs (cell_of k) 0) (get_or d.pairs (cell_of k + 1) 0)))

  pub originals-told : (most : ℕ) (ws : List ℕ) (k j : ℕ) → rows_fine most j ws ≡ true → singles_fit d p k ws ≡ true → originals_told d.pairs k ws ≡ originals_said d k ws
  unfolding originals_told originals_said singles_fit
  originals-told most [] k j f h = refl
  originals-told most (w ∷ ws) k j f h = by (asks_v w) (eqb (role_of w) original_role) (is_said (single_tag d w k)) refl refl refl (originals-told most ws (k + values_of w) (j + values_of w))
    where
      rest : asks_v w ≡ true → singles_fit d p (k + values_of w) ws ≡ true
          → (rows_fine most (j + values_of w) ws ≡ true → singles_fit d p (k + values_of w) ws ≡ true → originals_told d.pairs (k + values_of w) ws ≡ originals_said d (k + values_of w) ws)
          → originals_told d.pairs (k + pairs_of w) ws ≡ originals_said d (k + values_of w) ws
      rest x g ih =
          let u = row_fine most j w ws x f in
          ap (λ (n : ℕ). originals_told d.pairs (k + n) ws) (sym u.here.pairs) ∙ ih u.rest g

      by : (a o s : Bool) → asks_v w ≡ a → eqb (role_of w) original_role ≡ o → is_said (single_tag d w k) ≡ s
          → (rows_fine most (j + values_of w) ws ≡ true → singles_fit d p (k + values_of w) ws ≡ true → originals_told d.pairs (k + values_of w) ws ≡ originals_said d (k + values_of w) ws)
          → originals_told d.pairs k (w ∷ ws) ≡ originals_said d k (w ∷ ws)
      by false o s x y z ih = rw x refl
      by true true true x y z ih =
          let t = (and-eq-true_iff (element_fits d.kind p w (single_tag d w k)) (singles_fit d p (k + values_of w) ws)).0 (rw (x, z) at h) in
          rw (x, y, z, fit-given w k x z t.0) (ap suc (rest x t.1 ih))
      by true true false x y z ih =
          let t = (and-eq-true_iff (not (required w)) (singles_fit d p (k + values_of w) ws)).0 (rw (x, z) at h) in
          rw (x, y, z, unsaid w k z) (rest x t.1 ih)
      by true false true x y z ih =
          let t = (and-eq-true_iff (element_fits d.kind p w (single_tag d w k)) (singles_fit d p (k + values_of w) ws)).0 (rw (x, z) at h) in
          rw (x, y, z) (rest x t.1 ih)
      by true false false x y z ih =
          let t = (and-eq-true_iff (not (required w)) (singles_fit d p (k + values_of w) ws)).0 (rw (x, z) at h) in
          rw (x, y, z) (rest x t.1 ih)

-- ---- the elements that a test finds

unfoldable pub found : (ℕ → Bool) → Draft → ℕ → List ℕ → List TagSaid
found test d k [] = []
found test d k (w ∷ ws) =
    let rest = found test d (k + values_of w) ws in
    cond (asks_v w) (cond (test w) (cond (is_said (single_tag d w k)) (single_tag d w k ∷ rest) rest) rest) []

pub singles-found : (test : ℕ → Bool) (d : Draft) (rows : List ℕ) (behind : Trees TagSaid) (ws : List ℕ) (q k : ℕ) → ws ≡ drop q rows
    → those test rows (singles d q k ws behind) ≡ found test d k ws ++ those test rows behind
unfolding singles those found
singles-found test d rows behind [] q k e = refl
singles-found test d rows behind (w ∷ ws) q k e =
    by (asks_v w) (test w) (is_said (single_tag d w k)) refl refl refl (singles-found test d rows behind ws (suc q) (k + values_of w) (row-there rows q w ws e).1)
  where
    rest : Trees TagSaid
    rest = singles d (suc q) (k + values_of w) ws behind

    here : test (get_or rows q 0) ≡ test w
    here = ap test (row-there rows q w ws e).0

    by : (a t s : Bool) → asks_v w ≡ a → test w ≡ t → is_said (single_tag d w k) ≡ s
        → those test rows rest ≡ found test d (k + values_of w) ws ++ those test rows behind
        → those test rows (cond (asks_v w) (cond (is_said (single_tag d w k)) (element q (single_tag d w k) none rest) rest) behind)
        ≡ found test d k (w ∷ ws) ++ those test rows behind
    by false t s x y z ih = rw x refl
    by true true true x y z ih = rw (x, y, z, here, y) (ap (λ (l : List TagSaid). single_tag d w k ∷ l) ih)
    by true false true x y z ih = rw (x, y, z, here, y) ih
    by true true false x y z ih = rw (x, y, z) ih
    by true false false x y z ih = rw (x, y, z) ih

pub found_none : (test : ℕ → Bool) (d : Draft) (ws : List ℕ) (k : ℕ) → leaves_out test ws ≡ true → found test d k ws ≡ []
unfolding found leaves_out
found_none test d [] k h = refl
found_none test d (w ∷ ws) k h = by (asks_v w) (test w) refl refl (found_none test d ws (k + values_of w))
  where
    by : (a t : Bool) → asks_v w ≡ a → test w ≡ t → (leaves_out test ws ≡ true → found test d (k + values_of w) ws ≡ []) → found test d k (w ∷ ws) ≡ []
    by false t x y ih = rw x refl
    by true true x y ih = never (rw (x, y) at h)
    by true false x y ih = rw (x, y) (ih (rw (x, y) at h))
