-- A walk that opens no series and no Period passes exactly where each element fits, the Pos come in turn, and the Intervals are not too many.
-- Assumes nothing.
use Prim.Native.Nat.{ℕ, suc, ◌+◌, ◌-◌, ◌≤◌}
use mathlib.Core.Path.{◌≡◌, refl, sym, ap, ◌∙◌}
use mathlib.Core.List.{List, ◌∷◌, ◌++◌, map, map-append}
use mathlib.Core.Bool.{true, false, cond, ◌&&◌}
use mathlib.Core.Logic.{⊎_elim, ◌↔◌}
use native.Mathlib.Omega.{arith}
use lib.Dec.{eqb}
use lib.ListN.{length, get_or}
use borrow.Author.Tests.{eq-eqb, ne_eqb, le-leb, leb-true}
use Rattle.lists.proofs.Cases.{eqb-cases}
use Rattle.rules.specs.Rules.{position_fits}
use Rattle.columns.specs.Columns.{form_of, role_of}
use Rattle.guideline.specs.Kinds.{unbounded, kind_at, within_most, takes_another}
use Rattle.states.specs.declared.Room.{Room}
use Rattle.trees.specs.Trees.{Trees, none, element}
use Rattle.trees.proofs.Made.{both}
use Rattle.contents.specs.Said.{TagSaid}
use Rattle.contents.specs.Legal.{has_role, those, Period, quarters_of, position_of, element_fits, in_turn, Each}
use Rattle.contents.proofs.Tests.{chosen, other, parts-and}
use Rattle.contents.proofs.Elements.{Within, within_more, length-element, unit}
use Rattle.contents.proofs.Walk.{Tally, opened, walked, Taken, Passes}
use Rattle.contents.proofs.Tallies.{turn-append, invariant, intervals-walked, first-walked, last-walked, one-or-none}

-- n Intervals are not too many, where the kind has a bound
abbrev pub Few : ℕ → ℕ → Type 0
Few kind n = ((kind_at kind).most ≡ unbounded → ⊥) → n ≤ (kind_at kind).most

pub within-few : (kind n : ℕ) → within_most kind n ≡ true → Few kind n
unfolding within_most
within-few kind n e bound = leb-true n (kind_at kind).most (rw (ne_eqb (kind_at kind).most unbounded bound) at e)

pub few-within : (kind n : ℕ) → Few kind n → within_most kind n ≡ true
unfolding within_most
few-within kind n f =
    ⊎_elim
    (λ (y : ((kind_at kind).most ≡ unbounded) × (eqb (kind_at kind).most unbounded ≡ true)). rw y.1 refl)
    (λ (y : ((kind_at kind).most ≡ unbounded → ⊥) × (eqb (kind_at kind).most unbounded ≡ false)). rw y.1 (le-leb n (kind_at kind).most (f y.0)))
    (eqb-cases (kind_at kind).most unbounded)

takes-few : (kind n : ℕ) → takes_another kind n ≡ true → Few kind (suc n)
unfolding takes_another
takes-few kind n = within-few kind (suc n)

few-takes : (kind n : ℕ) → Few kind (suc n) → takes_another kind n ≡ true
unfolding takes_another
few-takes kind n = few-within kind (suc n)

-- so far the tables' room and the limit of a Period are kept
pub record Holds (kind : ℕ) (room : Room) (y : Tally) : Type 0 where
  pub begins : y.first ≤ y.intervals
  pub fit : y.intervals ≤ room.intervals
  pub few : Few kind (y.intervals - y.first)

-- a row that opens no series and no Period
pub record Plain (rows : List ℕ) (q : ℕ) : Type 0 where
  pub not-series : role_of (get_or rows q 0) ≡ 2 → ⊥
  pub not-period : role_of (get_or rows q 0) ≡ 3 → ⊥
  pub turn : form_of (get_or rows q 0) ≡ 9 → role_of (get_or rows q 0) ≡ 9
  pub back : role_of (get_or rows q 0) ≡ 9 → form_of (get_or rows q 0) ≡ 9

-- what elements that open no series and no Period have to meet, walked over from the tally y on
pub record Segment (kind : ℕ) (room : Room) (rows : List ℕ) (p₀ : Period) (c : Trees TagSaid) (y : Tally) : Type 0 where
  pub each : Each (element_fits kind p₀) rows c
  pub turns : in_turn kind (quarters_of p₀) y.last (map position_of (those (has_role 9) rows c)) ≡ true
  pub few : Few kind (y.intervals - y.first + length (those (has_role 4) rows c))
  pub fit : y.intervals + length (those (has_role 4) rows c) ≤ room.intervals

one-interval : (w : ℕ) (s : TagSaid) (y : Tally) → (opened w s y).intervals ≡ y.intervals + unit 4 w
one-interval w s y = one-or-none (eqb (role_of w) 4) y.intervals

module _ (rows : List ℕ) (kind n : ℕ) (q : ℕ) (s : TagSaid) (inner after : Trees TagSaid) (y : Tally) (not : role_of (get_or rows q 0) ≡ 3 → ⊥)
    (inside : Within (λ q. role_of (get_or rows q 0) ≡ 3 → ⊥) inner) where
  abbrev w : ℕ
  w = get_or rows q 0

  abbrev y₁ : Tally
  y₁ = opened w s y

  abbrev is : List TagSaid
  is = those (has_role 9) rows inner

  abbrev js : List TagSaid
  js = those (has_role 9) rows after

  last-opened : y₁.last ≡ cond (eqb (role_of w) 9) (position_of s) y.last
  last-opened = other 0 (cond (eqb (role_of w) 9) (position_of s) y.last) (ne_eqb (role_of w) 3 not)

  -- the Pos of an element: its own, those in it, those after it
  after-own : in_turn kind n y₁.last (map position_of (is ++ js))
      ≡ in_turn kind n y₁.last (map position_of is) && in_turn kind n (walked rows inner y₁).last (map position_of js)
  after-own =
      ap (in_turn kind n y₁.last) (map-append position_of is js)
      ∙ turn-append kind n y₁.last (map position_of is) (map position_of js)
      ∙ ap (λ l. in_turn kind n y₁.last (map position_of is) && in_turn kind n l (map position_of js)) (sym (last-walked rows inner inside y₁))

  turn-parts : in_turn kind n y.last (map position_of (those (has_role 9) rows (element q s inner after))) ≡ true
      → (role_of w ≡ 9 → position_fits kind n y.last (position_of s) ≡ true)
      × (in_turn kind n y₁.last (map position_of is) ≡ true)
      × (in_turn kind n (walked rows inner y₁).last (map position_of js) ≡ true)
  unfolding those in_turn
  turn-parts e =
      ⊎_elim
      (λ (z : (role_of w ≡ 9) × (eqb (role_of w) 9 ≡ true)).
      let f = ap (λ l. in_turn kind n y.last (map position_of l)) (sym (chosen (s ∷ (is ++ js)) (is ++ js) z.1)) ∙ e in
      let g = both (position_fits kind n y.last (position_of s)) (in_turn kind n (position_of s) (map position_of (is ++ js))) f in
      let u : y₁.last ≡ position_of s = last-opened ∙ chosen (position_of s) y.last z.1 in
      let h = both (in_turn kind n y₁.last (map position_of is)) (in_turn kind n (walked rows inner y₁).last (map position_of js))
      (sym after-own ∙ ap (λ l. in_turn kind n l (map position_of (is ++ js))) u ∙ g.1) in
      ((λ _. g.0), h.0, h.1))
      (λ (z : (role_of w ≡ 9 → ⊥) × (eqb (role_of w) 9 ≡ false)).
      let f = ap (λ l. in_turn kind n y.last (map position_of l)) (sym (other (s ∷ (is ++ js)) (is ++ js) z.1)) ∙ e in
      let u : y₁.last ≡ y.last = last-opened ∙ other (position_of s) y.last z.1 in
      let h = both (in_turn kind n y₁.last (map position_of is)) (in_turn kind n (walked rows inner y₁).last (map position_of js))
      (sym after-own ∙ ap (λ l. in_turn kind n l (map position_of (is ++ js))) u ∙ f) in
      ((λ r. absurd (z.0 r)), h.0, h.1))
      (eqb-cases (role_of w) 9)

  turn-whole : (role_of w ≡ 9 → position_fits kind n y.last (position_of s) ≡ true)
      → in_turn kind n y₁.last (map position_of is) ≡ true
      → in_turn kind n (walked rows inner y₁).last (map position_of js) ≡ true
      → in_turn kind n y.last (map position_of (those (has_role 9) rows (element q s inner after))) ≡ true
  unfolding those in_turn
  turn-whole a b c =
      let h = after-own ∙ parts-and _ _ b c in
      ⊎_elim
      (λ (z : (role_of w ≡ 9) × (eqb (role_of w) 9 ≡ true)).
      let u : y₁.last ≡ position_of s = last-opened ∙ chosen (position_of s) y.last z.1 in
      ap (λ l. in_turn kind n y.last (map position_of l)) (chosen (s ∷ (is ++ js)) (is ++ js) z.1)
      ∙ parts-and (position_fits kind n y.last (position_of s)) (in_turn kind n (position_of s) (map position_of (is ++ js))) (a z.0)
      (ap (λ l. in_turn kind n l (map position_of (is ++ js))) (sym u) ∙ h))
      (λ (z : (role_of w ≡ 9 → ⊥) × (eqb (role_of w) 9 ≡ false)).
      let u : y₁.last ≡ y.last = last-opened ∙ other (position_of s) y.last z.1 in
      ap (λ l. in_turn kind n y.last (map position_of l)) (other (s ∷ (is ++ js)) (is ++ js) z.1)
      ∙ ap (λ l. in_turn kind n l (map position_of (is ++ js))) (sym u) ∙ h)
      (eqb-cases (role_of w) 9)

-- R is what is known of the rows, I what is known of the tally along the walk
module _ (kind : ℕ) (room : Room) (rows : List ℕ) (p₀ : Period) (R : ℕ → Type 0) (I : Tally → Type 0)
    (plain : (q : ℕ) → R q → Plain rows q)
    (keep : (q : ℕ) (s : TagSaid) (y : Tally) → R q → I y → I (opened (get_or rows q 0) s y))
    (fits : (q : ℕ) (s : TagSaid) (y : Tally) → R q → I y → element_fits kind y.period (get_or rows q 0) s ≡ element_fits kind p₀ (get_or rows q 0) s)
    (now : (q : ℕ) (y : Tally) → R q → I y → form_of (get_or rows q 0) ≡ 9 → y.period ≡ p₀) where
  no-series : (c : Trees TagSaid) → Within R c → Within (λ q. role_of (get_or rows q 0) ≡ 2 → ⊥) c
  no-series c h = within_more (λ q r. (plain q r).not-series) c h

  no-period : (c : Trees TagSaid) → Within R c → Within (λ q. role_of (get_or rows q 0) ≡ 3 → ⊥) c
  no-period c h = within_more (λ q r. (plain q r).not-period) c h

  first-opened : (q : ℕ) (s : TagSaid) (y : Tally) → R q → (opened (get_or rows q 0) s y).first ≡ y.first
  first-opened q s y r = other y.intervals y.first (ne_eqb (role_of (get_or rows q 0)) 2 (plain q r).not-series)

  -- after elements that fit
  after_holds : (c : Trees TagSaid) → Within R c → (y : Tally) → Holds kind room y → Segment kind room rows p₀ c y → Holds kind room (walked rows c y)
  after_holds c h y a g =
      let i = intervals-walked rows c y in
      let f = first-walked rows c (no-series c h) y in
      record {
        begins = omega (arith, i, f, a.begins);
        fit = omega (arith, i, g.fit);
        few = λ k. omega (arith, i, f, a.begins, g.few k);
      }

  -- after a start tag
  opened-holds : (q : ℕ) (s : TagSaid) (y : Tally) → R q → Holds kind room y → y.intervals + unit 4 (get_or rows q 0) ≤ room.intervals
      → Few kind (y.intervals - y.first + unit 4 (get_or rows q 0)) → Holds kind room (opened (get_or rows q 0) s y)
  opened-holds q s y r a m k =
      let i = one-interval (get_or rows q 0) s y in
      let f = first-opened q s y r in
      record { begins = omega (arith, i, f, a.begins); fit = omega (arith, i, m); few = λ e. omega (arith, i, f, a.begins, k e) }

  -- where a start tag is taken, it is not one Interval too many
  taken-fit : (w : ℕ) (s : TagSaid) (y : Tally) → Holds kind room y → Taken kind room w s y
      → (y.intervals + unit 4 w ≤ room.intervals) × Few kind (y.intervals - y.first + unit 4 w)
  taken-fit w s y a t =
      ⊎_elim
      (λ (z : (role_of w ≡ 4) × (eqb (role_of w) 4 ≡ true)).
      let u : unit 4 w ≡ 1 = chosen 1 0 z.1 in
      let h = t.another z.0 in
      (omega (arith, u, h.1), λ k. omega (arith, u, takes-few kind (y.intervals - y.first) h.0 k)))
      (λ (z : (role_of w ≡ 4 → ⊥) × (eqb (role_of w) 4 ≡ false)).
      let u : unit 4 w ≡ 0 = other 1 0 z.1 in
      (omega (arith, u, a.fit), λ k. omega (arith, u, a.few k)))
      (eqb-cases (role_of w) 4)

  passes-fit : (c : Trees TagSaid) → Within R c → (y : Tally) → I y → Holds kind room y → Passes kind room rows c y → Segment kind room rows p₀ c y
  unfolding Within Passes Each in_turn those walked quarters_of
  passes-fit none h y i a t =
      record { each = tt; turns = refl; few = λ k. let u = a.few k in omega (arith, u); fit = let u = a.fit in omega (arith, u) }
  passes-fit (element q s inner after) h y i a t =
      let w = get_or rows q 0 in
      let y₁ = opened w s y in
      let y₂ = walked rows inner y₁ in
      let m = taken-fit w s y a t.0 in
      let a₁ = opened-holds q s y h.0 a m.0 m.1 in
      let i₁ = keep q s y h.0 i in
      let g₁ = passes-fit inner h.1 y₁ i₁ a₁ t.1 in
      let g₂ = passes-fit after h.2 y₂ (invariant rows I R keep inner h.1 y₁ i₁) (after_holds inner h.1 y₁ a₁ g₁) t.3 in
      let l = length-element rows 4 q s inner after in
      let n₁ = one-interval w s y in
      let n₂ = intervals-walked rows inner y₁ in
      let f₁ = first-opened q s y h.0 in
      let f₂ = first-walked rows inner (no-series inner h.1) y₁ in
      record {
        each = (sym (fits q s y h.0 i) ∙ t.0.fits, g₁.each, g₂.each);
        turns =
            turn-whole rows kind (quarters_of p₀) q s inner after y (plain q h.0).not-period (no-period inner h.1)
            (λ r.
            let e = (plain q h.0).back r in
            ap (λ (p : Period). position_fits kind (quarters_of p) y.last (position_of s)) (sym (now q y h.0 i e)) ∙ t.0.turn e)
            g₁.turns g₂.turns;
        few = λ k. let u = g₂.few k in let b = a.begins in omega (arith, l, n₁, n₂, f₁, f₂, u, b);
        fit = let u = g₂.fit in omega (arith, l, n₁, n₂, u);
      }

  fit-passes : (c : Trees TagSaid) → Within R c → (y : Tally) → I y → Holds kind room y → Segment kind room rows p₀ c y → Passes kind room rows c y
  unfolding Within Passes Each in_turn those walked quarters_of
  fit-passes none h y i a g = tt
  fit-passes (element q s inner after) h y i a g =
      let w = get_or rows q 0 in
      let y₁ = opened w s y in
      let y₂ = walked rows inner y₁ in
      let l = length-element rows 4 q s inner after in
      let n₁ = one-interval w s y in
      let n₂ = intervals-walked rows inner y₁ in
      let f₁ = first-opened q s y h.0 in
      let f₂ = first-walked rows inner (no-series inner h.1) y₁ in
      let m : y.intervals + unit 4 w ≤ room.intervals = let u = g.fit in omega (arith, l, u) in
      let k : Few kind (y.intervals - y.first + unit 4 w) = λ e. let u = g.few e in omega (arith, l, u) in
      let a₁ = opened-holds q s y h.0 a m k in
      let i₁ = keep q s y h.0 i in
      let v = turn-parts rows kind (quarters_of p₀) q s inner after y (plain q h.0).not-period (no-period inner h.1) g.turns in
      let b = a.begins in
      let g₁ : Segment kind room rows p₀ inner y₁ =
      record {
        each = g.each.1;
        turns = v.1;
        few = λ e. let u = g.few e in omega (arith, l, n₁, f₁, u, b);
        fit = let u = g.fit in omega (arith, l, n₁, u);
      } in
      let g₂ : Segment kind room rows p₀ after y₂ =
      record {
        each = g.each.2;
        turns = v.2;
        few = λ e. let u = g.few e in omega (arith, l, n₁, n₂, f₁, f₂, u, b);
        fit = let u = g.fit in omega (arith, l, n₁, n₂, u);
      } in (
        record {
          fits = fits q s y h.0 i ∙ g.each.0;
          turn = λ e. ap (λ (p : Period). position_fits kind (quarters_of p) y.last (position_of s)) (now q y h.0 i e) ∙ v.0 ((plain q h.0).turn e);
          series = λ e. absurd ((plain q h.0).not-series e);
          another =
              λ e.
              let u : unit 4 w ≡ 1 = chosen 1 0 (eq-eqb (role_of w) 4 e) in
              (few-takes kind (y.intervals - y.first) (λ o. let z = k o in omega (arith, u, z)), omega (arith, u, m));
          originals = λ e. absurd ((plain q h.0).not-period e);
        },
        fit-passes inner h.1 y₁ i₁ a₁ g₁,
        (λ e. absurd ((plain q h.0).not-period e)),
        fit-passes after h.2 y₂ (invariant rows I R keep inner h.1 y₁ i₁) (after_holds inner h.1 y₁ a₁ g₁) g₂,
      )

  pub passes-segment : (c : Trees TagSaid) → Within R c → (y : Tally) → I y → Holds kind room y → Passes kind room rows c y ↔ Segment kind room rows p₀ c y
  passes-segment c h y i a = (passes-fit c h y i a, fit-passes c h y i a)
