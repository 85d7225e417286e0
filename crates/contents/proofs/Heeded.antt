-- The rules between the series of a constraint: a walk over a content that conforms heeds them exactly where its series agree. Assumes nothing.
use Prim.Native.Nat.{ℕ, ◌+◌, ◌≤◌, ◌<◌}
use mathlib.Core.Path.{◌≡◌, refl, sym, ap, subst, ◌∙◌}
use mathlib.Core.List.{List, [], ◌∷◌, ◌++◌, append-nil}
use mathlib.Core.Logic.{⊎_elim}
use mathlib.Core.Bool.{Bool, true, false, cond}
use native.Mathlib.Omega.{arith}
use lib.Dec.{eqb, ltb}
use lib.ListN.{length, get_or}
use borrow.Author.Tests.{eq-eqb, ne_eqb, lt-ltb}
use Rattle.lists.proofs.Cases.{bool_cases, eqb-cases}
use Rattle.characters.specs.Says.{says}
use Rattle.trims.specs.Trim.{dropped}
use Rattle.columns.specs.Columns.{form_of, collapsed, role_of}
use Rattle.rules.specs.Rules.{type_no, direction_no, code_no}
use Rattle.guideline.specs.Kinds.{kind_at}
use Rattle.states.specs.Constraints.{none_seen, withdrawing, typed, directed, noticed, against, lacking}
use Rattle.states.specs.declared.Seen.{Seen}
use Rattle.trees.specs.Trees.{Trees, none, element, rows_taken, Fits, EachConforms, Conforms}
use Rattle.contents.specs.Said.{TagSaid, bytes}
use Rattle.contents.specs.Legal.{has_role, has_form, those, in_each, sayings, code_in, business_in, direction_in, is_withdrawn, series_agree}
use Rattle.contents.proofs.Tests.{chosen, other}
use Rattle.contents.proofs.Laid.{Layout, series_at, Sighted}
use Rattle.contents.proofs.Elements.{Within, within_more, beside, own, none-there, no-role, those-beside, those-of, in-beside, last-those, in-of, last-in, none_in}
use Rattle.contents.proofs.Shape.{FirstThree, first-three, AllSeries, RootShape, DocumentShape, document-shape}
use Rattle.contents.proofs.Walk.{Tally, nothing, opened, walked, Allowed, Completed, Heeds}
use Rattle.contents.proofs.Tallies.{series-walked}
use Rattle.contents.proofs.Stages.{Fine, after_series, AllFine, seen_after, gone-forth, gone-back, gone-complete, agree-forth, agree-back}

-- ---- elements side by side

module _ (kind : ℕ) (rows : List ℕ) where
  heeds-parts : (c d : Trees TagSaid) (y : Tally) → Heeds kind rows (beside c d) y → Heeds kind rows c y × Heeds kind rows d (walked rows c y)
  unfolding Heeds beside walked
  heeds-parts none d y t = (tt, t)
  heeds-parts (element q s inner after) d y t =
      let h = heeds-parts after d (walked rows inner (opened (get_or rows q 0) s y)) t.3 in
      ((t.0, t.1, t.2, h.0), h.1)

  heeds-beside : (c d : Trees TagSaid) (y : Tally) → Heeds kind rows c y → Heeds kind rows d (walked rows c y) → Heeds kind rows (beside c d) y
  unfolding Heeds beside walked
  heeds-beside none d y a b = b
  heeds-beside (element q s inner after) d y a b =
      (a.0, a.1, a.2, heeds-beside after d (walked rows inner (opened (get_or rows q 0) s y)) a.3 b)

  walked-beside : (c d : Trees TagSaid) (y : Tally) → walked rows (beside c d) y ≡ walked rows d (walked rows c y)
  unfolding beside walked
  walked-beside none d y = refl
  walked-beside (element q s inner after) d y = walked-beside after d (walked rows inner (opened (get_or rows q 0) s y))

  conforms-parts : (c d : Trees TagSaid) → EachConforms rows (beside c d) → EachConforms rows d
  unfolding EachConforms beside
  conforms-parts none d e = e
  conforms-parts (element q s inner after) d e = conforms-parts after d e.2

  -- ---- a kind that has no such rules

  pub heeds-none : (kind_at kind).constrained ≡ false → (c : Trees TagSaid) (y : Tally) → Heeds kind rows c y
  unfolding Heeds
  heeds-none off none y = tt
  heeds-none off (element q s inner after) y =
      (rw off refl, heeds-none off inner (opened (get_or rows q 0) s y), (λ e. rw off refl), heeds-none off after (walked rows inner (opened (get_or rows q 0) s y)))

module _ (kind : ℕ) (rows : List ℕ) (p : ℕ) (L : Layout rows p) (on : (kind_at kind).constrained ≡ true) (S : Sighted rows (series_at L) p) where
  abbrev r : ℕ
  r = series_at L

  abbrev at : ℕ → ℕ
  at q = get_or rows q 0

  -- ---- rows that the rules do not look at

  quiet-allowed : (q : ℕ) (s : TagSaid) (y : Tally) → q < length rows → (q ≡ r → ⊥) → (q ≡ r + 2 → ⊥) → (q ≡ r + 3 → ⊥) → Allowed kind (at q) s y
  unfolding against
  quiet-allowed q s y l a b c =
      rw (
        on,
        ne_eqb (role_of (at q)) 2 (λ e. a (L.only-series q l e)),
        ne_eqb (role_of (at q)) 7 (λ e. b (S.only-business q l e)),
        ne_eqb (role_of (at q)) 11 (λ e. c (S.only-direction q l e)),
      ) refl

  quiet-noticed : (q : ℕ) (s : TagSaid) (y : Tally) → q < length rows → (q ≡ r + 2 → ⊥) → (q ≡ r + 3 → ⊥)
      → (opened (at q) s y).seen ≡ cond (eqb (form_of (at q)) 50) (withdrawing y.seen) y.seen
  unfolding noticed
  quiet-noticed q s y l b c =
      rw (ne_eqb (role_of (at q)) 7 (λ e. b (S.only-business q l e)), ne_eqb (role_of (at q)) 11 (λ e. c (S.only-direction q l e))) refl

  quiet-seen : (q : ℕ) (s : TagSaid) (y : Tally) → q < length rows → (q ≡ r + 2 → ⊥) → (q ≡ r + 3 → ⊥) → (form_of (at q) ≡ 50 → ⊥) → (opened (at q) s y).seen ≡ y.seen
  quiet-seen q s y l b c d = quiet-noticed q s y l b c ∙ other (withdrawing y.seen) y.seen (ne_eqb (form_of (at q)) 50 d)

  not_root : (q : ℕ) (y : Tally) → q < length rows → 1 < q → Completed kind (at q) y
  not_root q y l a e = absurd (let z = L.only-root q l e in omega (arith, z, a))

  -- the values after Direction, and a Period
  late-form : (q : ℕ) → q < length rows → r ≤ q → form_of (at q) ≡ 50 → ⊥
  late-form q l a e = let z = (S.status q l e).1 in omega (arith, z, a)

  quiet : (c : Trees TagSaid) → Within (λ q. (r + 3 < q) × (q < length rows)) c → (y : Tally) → Heeds kind rows c y × ((walked rows c y).seen ≡ y.seen)
  unfolding Heeds walked Within
  quiet none h y = (tt, refl)
  quiet (element q s inner after) h y =
      let g = h.0.0 in
      let l = h.0.1 in
      let y₁ = opened (at q) s y in
      let y₂ = walked rows inner y₁ in
      let a = quiet inner h.1 y₁ in
      let b = quiet after h.2 y₂ in
      let e = quiet-seen q s y l (λ z. omega (arith, z, g)) (λ z. omega (arith, z, g)) (late-form q l (omega (arith, g))) in (
        (
          quiet-allowed q s y l (λ z. omega (arith, z, g)) (λ z. omega (arith, z, g)) (λ z. omega (arith, z, g)),
          a.0,
          not_root q y₂ l (omega (arith, g)),
          b.0,
        ),
        b.1 ∙ a.1 ∙ e,
      )

  -- ---- the first values of a series

  abbrev said : TagSaid → List ℕ
  said s = dropped (says (bytes s.v))

  business-code : (s : TagSaid) → code_no (form_of (at (r + 2))) (sayings (at (r + 2)) s) ≡ type_no (said s)
  unfolding code_no sayings
  business-code s = rw (S.business-form, S.business-collapsed) refl

  direction-code : (s : TagSaid) → code_no (form_of (at (r + 3))) (sayings (at (r + 3)) s) ≡ direction_no (said s)
  unfolding code_no sayings
  direction-code s = rw (S.direction-form, S.direction-collapsed) refl

  business-seen : (s : TagSaid) (y : Tally) → (opened (at (r + 2)) s y).seen ≡ typed y.seen (type_no (said s))
  unfolding noticed
  business-seen s y = rw (business-code s, S.business-form, S.business) refl

  direction-seen : (s : TagSaid) (y : Tally) → (opened (at (r + 3)) s y).seen ≡ directed y.seen (direction_no (said s))
  unfolding noticed
  direction-seen s y = rw (direction-code s, S.direction-form, S.direction) refl

  business-allowed : (s : TagSaid) (y : Tally) → cond (kind_at kind).constrained (against y.seen y.series (role_of (at (r + 2))) (code_no (form_of (at (r + 2))) (sayings (at (r + 2)) s))) false
      ≡ cond y.seen.second (eqb (type_no (said s)) 1) false
  unfolding against
  business-allowed s y = rw (business-code s, on, S.business) refl

  direction-allowed : (s : TagSaid) (y : Tally) → cond (kind_at kind).constrained (against y.seen y.series (role_of (at (r + 3))) (code_no (form_of (at (r + 3))) (sayings (at (r + 3)) s))) false
      ≡ cond y.seen.here (cond y.seen.second (eqb (direction_no (said s)) y.seen.direction) false) false
  unfolding against
  direction-allowed s y = rw (direction-code s, on, S.direction) refl

  module _ (s₁ s₂ s₃ : TagSaid) (rest : Trees TagSaid) (later : Within (λ q. (r + 3 < q) × (q < length rows)) rest) where
    abbrev inner : Trees TagSaid
    inner = element (r + 1) s₁ none (element (r + 2) s₂ none (element (r + 3) s₃ none rest))

    abbrev b : ℕ
    b = type_no (said s₂)

    abbrev d : ℕ
    d = direction_no (said s₃)

    in-one : r + 1 < length rows
    in-one = let z = L.size in let w = S.deep in omega (arith, z, w)

    in_two : r + 2 < length rows
    in_two = let z = L.size in let w = S.deep in omega (arith, z, w)

    in_three : r + 3 < length rows
    in_three = let z = L.size in let w = S.deep in omega (arith, z, w)

    only_two : those (has_role 7) rows inner ≡ s₂ ∷ []
    unfolding those
    only_two =
        rw (
          ne_eqb (role_of (at (r + 1))) 7 (λ e. let z = S.only-business (r + 1) in-one e in omega (arith, z)),
          eq-eqb (role_of (at (r + 2))) 7 S.business,
          ne_eqb (role_of (at (r + 3))) 7 (λ e. let z = S.only-business (r + 3) in_three e in omega (arith, z)),
          no-role rows 7 rest (within_more (λ q g e. let z = S.only-business q g.1 e in omega (arith, z, g.0)) rest later),
        ) refl

    only-three : those (has_role 11) rows inner ≡ s₃ ∷ []
    unfolding those
    only-three =
        rw (
          ne_eqb (role_of (at (r + 1))) 11 (λ e. let z = S.only-direction (r + 1) in-one e in omega (arith, z)),
          ne_eqb (role_of (at (r + 2))) 11 (λ e. let z = S.only-direction (r + 2) in_two e in omega (arith, z)),
          eq-eqb (role_of (at (r + 3))) 11 S.direction,
          no-role rows 11 rest (within_more (λ q g e. let z = S.only-direction q g.1 e in omega (arith, z, g.0)) rest later),
        ) refl

    business-is : business_in rows inner ≡ b
    unfolding business_in code_in
    business-is = ap (code_in type_no) only_two

    direction-is : direction_in rows inner ≡ d
    unfolding direction_in code_in
    direction-is = ap (code_in direction_no) only-three

    no-series : those (has_role 2) rows inner ≡ []
    unfolding those
    no-series =
        rw (
          ne_eqb (role_of (at (r + 1))) 2 (λ e. let z = L.only-series (r + 1) in-one e in omega (arith, z)),
          ne_eqb (role_of (at (r + 2))) 2 (λ e. let z = L.only-series (r + 2) in_two e in omega (arith, z)),
          ne_eqb (role_of (at (r + 3))) 2 (λ e. let z = L.only-series (r + 3) in_three e in omega (arith, z)),
          no-role rows 2 rest (within_more (λ q g e. let z = L.only-series q g.1 e in omega (arith, z, g.0)) rest later),
        ) refl

    none_each : in_each (has_role 2) rows inner ≡ []
    unfolding in_each
    none_each =
        rw (
          ne_eqb (role_of (at (r + 1))) 2 (λ e. let z = L.only-series (r + 1) in-one e in omega (arith, z)),
          ne_eqb (role_of (at (r + 2))) 2 (λ e. let z = L.only-series (r + 2) in_two e in omega (arith, z)),
          ne_eqb (role_of (at (r + 3))) 2 (λ e. let z = L.only-series (r + 3) in_three e in omega (arith, z)),
          none_in rows (has_role 2) rest (within_more (λ q g. ne_eqb (role_of (at q)) 2 (λ e. let z = L.only-series q g.1 e in omega (arith, z, g.0))) rest later),
        ) refl

    inner-late : Within (λ q. (r ≤ q) × (q < length rows)) inner
    unfolding Within
    inner-late = (
      (omega arith, in-one),
      tt,
      ((omega arith, in_two), tt, ((omega arith, in_three), tt, within_more (λ q g. (omega (arith, g.0), g.1)) rest later)),
    )

    module _ (y : Tally) where
      abbrev y₁ : Tally
      y₁ = opened (at (r + 1)) s₁ y

      abbrev y₂ : Tally
      y₂ = opened (at (r + 2)) s₂ y₁

      abbrev y₃ : Tally
      y₃ = opened (at (r + 3)) s₃ y₂

      seen_one : y₁.seen ≡ y.seen
      seen_one = quiet-seen (r + 1) s₁ y in-one (λ z. omega (arith, z)) (λ z. omega (arith, z)) (late-form (r + 1) in-one (omega arith))

      seen-two : y₂.seen ≡ typed y.seen b
      seen-two = business-seen s₂ y₁ ∙ ap (λ (x : Seen). typed x b) seen_one

      seen-three : y₃.seen ≡ after_series y.seen b d
      seen-three = direction-seen s₃ y₂ ∙ ap (λ (x : Seen). directed x d) seen-two

      inner-seen : (walked rows inner y).seen ≡ after_series y.seen b d
      unfolding walked
      inner-seen = (quiet rest later y₃).1 ∙ seen-three

      inner-fine : Heeds kind rows inner y → (cond y.seen.second (eqb b 1) false ≡ false)
          × (cond (typed y.seen b).here (cond (typed y.seen b).second (eqb d (typed y.seen b).direction) false) false ≡ false)
      unfolding Heeds walked
      inner-fine h = (
        ap (λ (x : Seen). cond x.second (eqb b 1) false) (sym seen_one) ∙ sym (business-allowed s₂ y₁) ∙ h.3.0,
        ap (λ (x : Seen). cond x.here (cond x.second (eqb d x.direction) false) false) (sym seen-two) ∙ sym (direction-allowed s₃ y₂) ∙ h.3.3.0,
      )

      inner-heeds : cond y.seen.second (eqb b 1) false ≡ false
          → cond (typed y.seen b).here (cond (typed y.seen b).second (eqb d (typed y.seen b).direction) false) false ≡ false → Heeds kind rows inner y
      unfolding Heeds walked
      inner-heeds f g = (
        quiet-allowed (r + 1) s₁ y in-one (λ z. omega (arith, z)) (λ z. omega (arith, z)) (λ z. omega (arith, z)),
        tt,
        not_root (r + 1) y₁ in-one (omega arith),
        (
          business-allowed s₂ y₁ ∙ ap (λ (x : Seen). cond x.second (eqb b 1) false) seen_one ∙ f,
          tt,
          not_root (r + 2) y₂ in_two (omega arith),
          (
            direction-allowed s₃ y₂ ∙ ap (λ (x : Seen). cond x.here (cond x.second (eqb d x.direction) false) false) seen-two ∙ g,
            tt,
            not_root (r + 3) y₃ in_three (omega arith),
            (quiet rest later y₃).0,
          ),
        ),
      )

  -- ---- what is known of one series

  record Known (c : Trees TagSaid) : Type 0 where
    fine : (y : Tally) → Heeds kind rows c y → (cond y.seen.second (eqb (business_in rows c) 1) false ≡ false)
        × (cond (typed y.seen (business_in rows c)).here (cond (typed y.seen (business_in rows c)).second
        (eqb (direction_in rows c) (typed y.seen (business_in rows c)).direction) false) false ≡ false)
    heeds : (y : Tally) → cond y.seen.second (eqb (business_in rows c) 1) false ≡ false
        → cond (typed y.seen (business_in rows c)).here (cond (typed y.seen (business_in rows c)).second
        (eqb (direction_in rows c) (typed y.seen (business_in rows c)).direction) false) false ≡ false
        → Heeds kind rows c y
    seen : (y : Tally) → (walked rows c y).seen ≡ after_series y.seen (business_in rows c) (direction_in rows c)
    late : Within (λ q. (r ≤ q) × (q < length rows)) c
    none-in-it : those (has_role 2) rows c ≡ []
    none-each-in : in_each (has_role 2) rows c ≡ []

  known-three : (s₁ s₂ s₃ : TagSaid) (rest : Trees TagSaid) → Within (λ q. (r + 3 < q) × (q < length rows)) rest
      → Known (element (r + 1) s₁ none (element (r + 2) s₂ none (element (r + 3) s₃ none rest)))
  known-three s₁ s₂ s₃ rest later =
      let e = business-is s₁ s₂ s₃ rest later in
      let f = direction-is s₁ s₂ s₃ rest later in
      record {
        fine = λ y h. rw (e, f) (inner-fine s₁ s₂ s₃ rest later y h);
        heeds = λ y. rw (e, f) (inner-heeds s₁ s₂ s₃ rest later y);
        seen = λ y. rw (e, f) (inner-seen s₁ s₂ s₃ rest later y);
        late = inner-late s₁ s₂ s₃ rest later;
        none-in-it = no-series s₁ s₂ s₃ rest later;
        none-each-in = none_each s₁ s₂ s₃ rest later;
      }

  -- ---- series side by side

  unfoldable Knows : Trees TagSaid → Type 0
  Knows none = Unit {0}
  Knows (element q s inner after) = (q ≡ r) × Known inner × Knows after

  all_known : (c : Trees TagSaid) → AllSeries rows p L c → EachConforms rows c → Knows c
  unfolding AllSeries EachConforms Knows
  all_known none a e = tt
  all_known (element q s inner after) a e =
      let t = first-three rows p L S.deep S.must-first S.must-business S.must-direction inner
      (subst (λ (i : ℕ). Fits rows i (rows_taken inner)) a.0 e.0) e.1 in (
        a.0,
        subst Known (sym t.is) (known-three t.first t.second t.third t.rest t.later),
        all_known after a.2 e.2,
      )

  all-late : (c : Trees TagSaid) → Knows c → Within (λ q. (r ≤ q) × (q < length rows)) c
  unfolding Within Knows
  all-late none g = tt
  all-late (element q s inner after) g =
      let e = g.0 in
      let z = L.size in
      let w = L.wide in
      ((omega (arith, e), omega (arith, e, z, w)), g.1.late, all-late after g.2)

  module _ (q : ℕ) (s : TagSaid) (inner after : Trees TagSaid) (e : q ≡ r) (k : Known inner) (y : Tally) where
    abbrev y₄ : Tally
    y₄ = opened (at q) s y

    abbrev y₅ : Tally
    y₅ = walked rows inner y₄

    in_table : q < length rows
    in_table = let z = L.size in let w = L.wide in omega (arith, e, z, w)

    series-role : role_of (at q) ≡ 2
    series-role = ap (λ (i : ℕ). role_of (at i)) e ∙ L.series

    same_seen : y₄.seen ≡ y.seen
    same_seen = quiet-seen q s y in_table (λ z. omega (arith, z, e)) (λ z. omega (arith, z, e)) (late-form q in_table (omega (arith, e)))

    next-seen : y₅.seen ≡ after_series y.seen (business_in rows inner) (direction_in rows inner)
    next-seen = k.seen y₄ ∙ ap (λ (x : Seen). after_series x (business_in rows inner) (direction_in rows inner)) same_seen

    next-series : y₅.series ≡ y.series + 1
    next-series =
        let a = series-walked rows inner y₄ in
        let z : length (those (has_role 2) rows inner) ≡ 0 = ap length k.none-in-it in
        let o : y₄.series ≡ y.series + 1 = chosen (y.series + 1) y.series (eq-eqb (role_of (at q)) 2 series-role) in
        omega (arith, a, z, o)

    each-is : in_each (has_role 2) rows (element q s inner after) ≡ inner ∷ in_each (has_role 2) rows after
    each-is = in-of rows (has_role 2) q s inner after (eq-eqb (role_of (at q)) 2 series-role) k.none-each-in

    series-allowed : cond (kind_at kind).constrained (against y.seen y.series (role_of (at q)) (code_no (form_of (at q)) (sayings (at q) s))) false
        ≡ cond y.seen.withdrawn (ltb 0 y.series) false
    unfolding against
    series-allowed = rw (on, series-role) refl

  heeds-fine : (c : Trees TagSaid) → Knows c → (y : Tally) → Heeds kind rows c y → AllFine rows y.seen y.series (in_each (has_role 2) rows c)
  unfolding Heeds Knows AllFine in_each
  heeds-fine none g y h = tt
  heeds-fine (element q s inner after) g y h =
      let e = g.0 in
      let k = g.1 in
      let f = k.fine (y₄ q s inner after e k y) h.1 in
      let z = same_seen q s inner after e k y in
      let b = business_in rows inner in
      let d = direction_in rows inner in
      subst (AllFine rows y.seen y.series) (sym (each-is q s inner after e k y)) (
        record {
          lone = sym (series-allowed q s inner after e k y) ∙ h.0;
          few = ap (λ (x : Seen). cond x.second (eqb b 1) false) (sym z) ∙ f.0;
          apart = ap (λ (x : Seen). cond (typed x b).here (cond (typed x b).second (eqb d (typed x b).direction) false) false) (sym z) ∙ f.1;
        },
        subst (λ (n : ℕ). AllFine rows (after_series y.seen b d) n (in_each (has_role 2) rows after)) (next-series q s inner after e k y)
            (subst (λ (x : Seen). AllFine rows x (y₅ q s inner after e k y).series (in_each (has_role 2) rows after)) (next-seen q s inner after e k y)
            (heeds-fine after g.2 (y₅ q s inner after e k y) h.3)),
      )

  fine-heeds : (c : Trees TagSaid) → Knows c → (y : Tally) → AllFine rows y.seen y.series (in_each (has_role 2) rows c) → Heeds kind rows c y
  unfolding Heeds Knows AllFine in_each
  fine-heeds none g y h = tt
  fine-heeds (element q s inner after) g y h =
      let e = g.0 in
      let k = g.1 in
      let z = same_seen q s inner after e k y in
      let b = business_in rows inner in
      let d = direction_in rows inner in
      let m = subst (AllFine rows y.seen y.series) (each-is q s inner after e k y) h in (
        series-allowed q s inner after e k y ∙ m.0.lone,
        k.heeds (y₄ q s inner after e k y)
            (ap (λ (x : Seen). cond x.second (eqb b 1) false) z ∙ m.0.few)
            (ap (λ (x : Seen). cond (typed x b).here (cond (typed x b).second (eqb d (typed x b).direction) false) false) z ∙ m.0.apart),
        not_root q (y₅ q s inner after e k y) (in_table q s inner after e k y) (omega (arith, e)),
        fine-heeds after g.2 (y₅ q s inner after e k y)
            (subst (λ (x : Seen). AllFine rows x (y₅ q s inner after e k y).series (in_each (has_role 2) rows after)) (sym (next-seen q s inner after e k y))
            (subst (λ (n : ℕ). AllFine rows (after_series y.seen b d) n (in_each (has_role 2) rows after)) (sym (next-series q s inner after e k y)) m.1)),
      )

  all_seen : (c : Trees TagSaid) → Knows c → (y : Tally) → (walked rows c y).seen ≡ seen_after rows y.seen (in_each (has_role 2) rows c)
  unfolding walked Knows seen_after in_each
  all_seen none g y = refl
  all_seen (element q s inner after) g y =
      let e = g.0 in
      let k = g.1 in
      all_seen after g.2 (y₅ q s inner after e k y)
      ∙ ap (λ (x : Seen). seen_after rows x (in_each (has_role 2) rows after)) (next-seen q s inner after e k y)
      ∙ ap (seen_after rows y.seen) (sym (each-is q s inner after e k y))

  all-counted : (c : Trees TagSaid) → Knows c → (y : Tally) → (walked rows c y).series ≡ y.series + length (in_each (has_role 2) rows c)
  unfolding walked Knows in_each
  all-counted none g y = omega arith
  all-counted (element q s inner after) g y =
      let e = g.0 in
      let k = g.1 in
      let a = all-counted after g.2 (y₅ q s inner after e k y) in
      let n = next-series q s inner after e k y in
      let l : length (in_each (has_role 2) rows (element q s inner after)) ≡ length (inner ∷ in_each (has_role 2) rows after) = ap length (each-is q s inner after e k y) in
      omega (arith, a, n, l)

  -- ---- the values before the first series

  abbrev statuses : Trees TagSaid → List TagSaid
  statuses c = those (has_form 50) rows c

  after-status : Seen → List TagSaid → Seen
  after-status z [] = z
  after-status z (s ∷ ss) = withdrawing z

  status-append : (z : Seen) (xs ys : List TagSaid) → after-status z (xs ++ ys) ≡ after-status (after-status z xs) ys
  unfolding after-status withdrawing
  status-append z [] ys = refl
  status-append z (x ∷ xs) [] = refl
  status-append z (x ∷ xs) (s ∷ ys) = refl

  own-status : (z : Seen) (t : Bool) (s : TagSaid) → cond t (withdrawing z) z ≡ after-status z (own t s)
  unfolding after-status
  own-status z true s = refl
  own-status z false s = refl

  status-is : (z : Seen) (l : List TagSaid) → after-status z l ≡ cond (ltb 0 (length l)) (withdrawing z) z
  unfolding after-status
  status-is z [] = refl
  status-is z (s ∷ l) = sym (chosen (withdrawing z) z (lt-ltb 0 (length (s ∷ l)) (omega arith)))

  head-heeds : (c : Trees TagSaid) → Within (λ q. (1 < q) × (q < r)) c → (y : Tally) → Heeds kind rows c y × ((walked rows c y).seen ≡ after-status y.seen (statuses c))
  unfolding Heeds walked Within those after-status
  head-heeds none h y = (tt, refl)
  head-heeds (element q s inner after) h y =
      let g = h.0.1 in
      let l : q < length rows = let z = L.size in let w = L.wide in omega (arith, z, w, g) in
      let y₁ = opened (at q) s y in
      let y₂ = walked rows inner y₁ in
      let a = head-heeds inner h.1 y₁ in
      let b = head-heeds after h.2 y₂ in
      let t = eqb (form_of (at q)) 50 in
      let e = quiet-noticed q s y l (λ z. omega (arith, z, g)) (λ z. omega (arith, z, g)) ∙ own-status y.seen t s in
      let m = ap (λ (x : Seen). after-status x (statuses inner)) e in (
        (
          quiet-allowed q s y l (λ z. omega (arith, z, g)) (λ z. omega (arith, z, g)) (λ z. omega (arith, z, g)),
          a.0,
          not_root q y₂ l h.0.0,
          b.0,
        ),
        b.1
            ∙ ap (λ (x : Seen). after-status x (statuses after)) (a.1 ∙ m)
            ∙ sym (status-append (after-status y.seen (own t s)) (statuses inner) (statuses after))
            ∙ sym (status-append y.seen (own t s) (statuses inner ++ statuses after))
            ∙ ap (after-status y.seen) (sym (those-of rows (has_form 50) q s inner after refl refl)),
      )

  -- ---- the whole

  short : (q : ℕ) → q < r → q < length rows
  short q l = let z = L.size in let w = L.wide in omega (arith, z, w, l)

  module _ (tag : TagSaid) (inner : Trees TagSaid) (sh : RootShape rows p L inner) (each : EachConforms rows (beside sh.head sh.tail)) where
    abbrev head : Trees TagSaid
    head = sh.head

    abbrev tail : Trees TagSaid
    tail = sh.tail

    abbrev whole : Trees TagSaid
    whole = element 1 tag (beside head tail) none

    abbrev ss : List (Trees TagSaid)
    ss = in_each (has_role 2) rows tail

    abbrev yr : Tally
    yr = opened (at 1) tag nothing

    abbrev yh : Tally
    yh = walked rows head yr

    knows : Knows tail
    knows = all_known tail sh.all (conforms-parts kind rows head tail each)

    in-one-row : 1 < length rows
    in-one-row = let z = L.size in omega (arith, z)

    root-form : form_of (at 1) ≡ 50 → ⊥
    root-form e = let z = (S.status 1 in-one-row e).0 in omega (arith, z)

    root-not : (n : ℕ) → (1 ≡ n → ⊥) → eqb (role_of (at 1)) n ≡ false
    root-not n g = ne_eqb (role_of (at 1)) n (λ e. g (sym L.root ∙ e))

    root-seen : yr.seen ≡ none_seen
    unfolding nothing
    root-seen = quiet-seen 1 tag nothing in-one-row (λ z. omega (arith, z)) (λ z. omega (arith, z)) root-form

    late : Within (λ q. (r ≤ q) × (q < length rows)) tail
    late = all-late tail knows

    statuses-there : statuses whole ≡ statuses head
    statuses-there =
        last-those rows (has_form 50) 1 tag (beside head tail) (ne_eqb (form_of (at 1)) 50 root-form)
        ∙ those-beside rows (has_form 50) head tail
        ∙ ap (λ l. statuses head ++ l) (none-there rows (has_form 50) tail (within_more (λ q g. ne_eqb (form_of (at q)) 50 (late-form q g.1 g.0)) tail late))
        ∙ append-nil (statuses head)

    each-there : in_each (has_role 2) rows whole ≡ ss
    each-there =
        last-in rows (has_role 2) 1 tag (beside head tail) (root-not 2 (λ e. omega (arith, e)))
        ∙ in-beside rows (has_role 2) head tail
        ∙ ap (λ l. l ++ ss)
        (none_in rows (has_role 2) head (within_more (λ q g. ne_eqb (role_of (at q)) 2
        (λ e. let l = short q g.1 in let z = L.only-series q l e in omega (arith, z, g.1))) head sh.heads))

    abbrev gone : Bool
    gone = is_withdrawn rows whole

    head-seen : yh.seen ≡ cond gone (withdrawing none_seen) none_seen
    unfolding is_withdrawn
    head-seen =
        (head-heeds head sh.heads yr).1
        ∙ ap (λ (x : Seen). after-status x (statuses head)) root-seen
        ∙ status-is none_seen (statuses head)
        ∙ ap (λ (l : List TagSaid). cond (ltb 0 (length l)) (withdrawing none_seen) none_seen) (sym statuses-there)

    head-series : yh.series ≡ 0
    unfolding nothing
    head-series =
        let a = series-walked rows head yr in
        let b : yr.series ≡ 0 = other (nothing.series + 1) 0 (root-not 2 (λ e. omega (arith, e))) in
        let z : length (those (has_role 2) rows head) ≡ 0 =
        ap length (no-role rows 2 head (within_more (λ q g e. let z = L.only-series q (short q g.1) e in omega (arith, z, g.1)) head sh.heads)) in
        omega (arith, a, b, z)

    end_seen : (walked rows (beside head tail) yr).seen ≡ seen_after rows yh.seen ss
    end_seen = ap (λ (y : Tally). y.seen) (walked-beside kind rows head tail yr) ∙ all_seen tail knows yh

    end-series : (walked rows (beside head tail) yr).series ≡ length ss
    end-series =
        let a = ap (λ (y : Tally). y.series) (walked-beside kind rows head tail yr) in
        let b = all-counted tail knows yh in
        let z = head-series in
        a ∙ omega (arith, b, z)

    end-lacks : cond (kind_at kind).constrained (lacking (walked rows (beside head tail) yr).seen (walked rows (beside head tail) yr).series) false
        ≡ lacking (seen_after rows yh.seen ss) (length ss)
    end-lacks = rw (on, end_seen, end-series) refl

    by-status : (w : Bool) (z : Seen) → z ≡ cond w (withdrawing none_seen) none_seen
        → (AllFine rows z 0 ss → lacking (seen_after rows z ss) (length ss) ≡ false → series_agree rows w ss ≡ true)
        × (series_agree rows w ss ≡ true → AllFine rows z 0 ss × (lacking (seen_after rows z ss) (length ss) ≡ false))
    unfolding series_agree
    by-status true z e =
        rw e ((λ a l. gone-forth rows ss a), (λ h. (gone-back rows ss h, gone-complete rows ss)))
    by-status false z e = rw e ((λ a l. agree-forth rows ss a l), (λ h. agree-back rows ss h))

    pub heeds-whole : Heeds kind rows whole nothing → series_agree rows gone (in_each (has_role 2) rows whole) ≡ true
    unfolding Heeds
    heeds-whole h =
        let u = heeds-parts kind rows head tail yr h.1 in
        let f = subst (λ (n : ℕ). AllFine rows yh.seen n ss) head-series (heeds-fine tail knows yh u.1) in
        ap (series_agree rows gone) each-there
        ∙ (by-status gone yh.seen head-seen).0 f (sym end-lacks ∙ h.2 L.root)

    pub whole-heeds : series_agree rows gone (in_each (has_role 2) rows whole) ≡ true → Heeds kind rows whole nothing
    unfolding Heeds
    whole-heeds h =
        let m = (by-status gone yh.seen head-seen).1 (ap (series_agree rows gone) (sym each-there) ∙ h) in (
          quiet-allowed 1 tag nothing in-one-row (λ z. omega (arith, z)) (λ z. omega (arith, z)) (λ z. omega (arith, z)),
          heeds-beside kind rows head tail yr (head-heeds head sh.heads yr).0
              (fine-heeds tail knows yh (subst (λ (n : ℕ). AllFine rows yh.seen n ss) (sym head-series) m.0)),
          (λ e. end-lacks ∙ m.1),
          tt,
        )

-- what the content of a kind has to meet, by a kind's data
module _ (kind : ℕ) (rows : List ℕ) (p : ℕ) (L : Layout rows p) (S : (kind_at kind).constrained ≡ true → Sighted rows (series_at L) p)
    (c : Trees TagSaid) (conforms : Conforms rows 0 c) where
  abbrev Agrees : Type 0
  Agrees = cond (kind_at kind).constrained (series_agree rows (is_withdrawn rows c) (in_each (has_role 2) rows c)) true ≡ true

  module _ (on : (kind_at kind).constrained ≡ true) where
    whole_is : (d : DocumentShape rows p L c) → c ≡ element 1 d.tag (beside d.shape.head d.shape.tail) none
    whole_is d = d.is ∙ ap (λ i. element 1 d.tag i none) d.shape.is

    each_in : (d : DocumentShape rows p L c) → EachConforms rows (beside d.shape.head d.shape.tail)
    unfolding EachConforms
    each_in d = (subst (EachConforms rows) (whole_is d) conforms.each).1

    shape : DocumentShape rows p L c
    shape = document-shape rows p L c conforms

    forth : Heeds kind rows c nothing → series_agree rows (is_withdrawn rows c) (in_each (has_role 2) rows c) ≡ true
    forth h =
        subst (λ e. series_agree rows (is_withdrawn rows e) (in_each (has_role 2) rows e) ≡ true) (sym (whole_is shape))
        (heeds-whole kind rows p L on (S on) shape.tag shape.inner shape.shape (each_in shape)
        (subst (λ e. Heeds kind rows e nothing) (whole_is shape) h))

    back : series_agree rows (is_withdrawn rows c) (in_each (has_role 2) rows c) ≡ true → Heeds kind rows c nothing
    back h =
        subst (λ e. Heeds kind rows e nothing) (sym (whole_is shape))
        (whole-heeds kind rows p L on (S on) shape.tag shape.inner shape.shape (each_in shape)
        (subst (λ e. series_agree rows (is_withdrawn rows e) (in_each (has_role 2) rows e) ≡ true) (whole_is shape) h))

  pub heeds-agree : Heeds kind rows c nothing → Agrees
  heeds-agree h =
      ⊎_elim
      (λ (on : (kind_at kind).constrained ≡ true). rw on (forth on h))
      (λ (off : (kind_at kind).constrained ≡ false). rw off refl)
      (bool_cases (kind_at kind).constrained)

  pub agree-heeds : Agrees → Heeds kind rows c nothing
  agree-heeds h =
      ⊎_elim
      (λ (on : (kind_at kind).constrained ≡ true). back on (rw on at h))
      (λ (off : (kind_at kind).constrained ≡ false). heeds-none kind rows off c nothing)
      (bool_cases (kind_at kind).constrained)
