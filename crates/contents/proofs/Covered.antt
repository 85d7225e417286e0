-- The period of a legal content is one that its kind allows, and so is its number of quarter hours. Assumes nothing.
use Prim.Native.Nat.{ℕ, zero, suc, ◌+◌, ◌-◌, ◌*◌, ◌/◌, ◌%◌, ◌≤◌, ◌<◌}
use mathlib.Core.Path.{◌≡◌, refl, sym, ap, subst, ◌∙◌}
use mathlib.Core.List.{List, [], ◌∷◌, ◌++◌}
use mathlib.Core.Bool.{Bool, true, false, cond, ◌&&◌, not, and-eq-true_iff}
use mathlib.Core.Logic.{◌⊎◌, inl, inr, ⊎_elim}
use native.Mathlib.Omega.{arith}
use lib.Dec.{eqb, leb, ltb}
use lib.ListN.{length, get_or}
use borrow.Author.Tests.{eq-eqb, ne_eqb, le-leb, lt-leb, leb-true, ltb-true, eqb-true}
use Rattle.lists.proofs.Cases.{bool_cases, eqb-cases, both_true, never, zero-not-one}
use Rattle.slices.specs.Same.{same}
use Rattle.elements.specs.Names.{names, number_in, element_no}
use Rattle.structure.specs.Rows.{parent_of, required}
use Rattle.characters.specs.Says.{says}
use Rattle.columns.specs.Columns.{form_of, collapsed, role_of, period_form}
use Rattle.times.specs.Times.{interval}
use Rattle.times.specs.Periods.{quarter_hours, delivery_day, day_period, cost_period}
use Rattle.times.specs.Midnight.{in_summer, start_of_day}
use Rattle.std.specs.Prelude.{Option, Some, None}
use Rattle.times.proofs.Midnights.{day-alone}
use Rattle.rules.specs.Rules.{period_fits, judge, judge_period, judge_period_by}
use Rattle.guideline.specs.Kinds.{kind_at, kind_one, kind_two, kind_three, is_kind}
use Rattle.guideline.specs.Rows.{beschaffungsanforderung, kostenblatt, network_constraint_document, rows_of}
use Rattle.guideline.proofs.Each.{of-kind}
use Rattle.trees.specs.Trees.{Trees, none, element, rows_taken, Stand, Among, EachConforms, Conforms}
use Rattle.totals.specs.Rules.{most_quarters, has_totals, period_allows}
use Rattle.contents.specs.Said.{TagSaid, bytes}
use Rattle.contents.specs.Legal.{has_form, those, sayings, Period, period_by, period_in, period_of, quarters_of, attributes_agree, scheme_fits, root_fits, value_fits, element_fits, Each, All, Legal}
use Rattle.contents.proofs.Lists.{none_both, all_join}
use Rattle.contents.proofs.Laid.{Layout, Laid, Known, row_by, laid}
use Rattle.contents.proofs.Elements.{own, those-parts, Within}
use Rattle.contents.proofs.Shape.{document-shape}

-- ---- the length of a period

by-clock : (d n : ℕ) (s t : Bool) → n ≡ ((d + 1 - 1) * 1440 + cond t 1320 1380 - ((d - 1) * 1440 + cond s 1320 1380)) / 15 → 1 ≤ d → (n ≡ 92) ⊎ ((n ≡ 96) ⊎ (n ≡ 100))
by-clock d n true true e h = inr (inl (omega (arith, e, h)))
by-clock d n true false e h = inr (inr (omega (arith, e, h)))
by-clock d n false true e h = inl (omega (arith, e, h))
by-clock d n false false e h = inr (inl (omega (arith, e, h)))

of-day : (from to : ℕ) → day_period from to ≡ true → (quarter_hours from to ≡ 92) ⊎ ((quarter_hours from to ≡ 96) ⊎ (quarter_hours from to ≡ 100))
unfolding quarter_hours start_of_day delivery_day
of-day from to e =
    let d = day-alone from to e in
    by-clock (from / 1440 + 1) (quarter_hours from to) (in_summer (from / 1440 + 1)) (in_summer (from / 1440 + 1 + 1)) (ap (λ (x : ℕ). (to - x) / 15) d.0 ∙ ap (λ (x : ℕ). (x - start_of_day (delivery_day from)) / 15) d.1)
    (omega arith)

allowed-day : (n : ℕ) → (n ≡ 92) ⊎ ((n ≡ 96) ⊎ (n ≡ 100)) → cond (eqb n 92) true (cond (eqb n 96) true (eqb n 100)) ≡ true
allowed-day n (inl e) = rw e refl
allowed-day n (inr (inl e)) = rw e refl
allowed-day n (inr (inr e)) = rw e refl

-- what holds of each kind holds of any
pub any-kind : (P : ℕ → Type 0) → P 1 → P 2 → P 3 → (kind : ℕ) → Known kind → P kind
unfolding is_kind
any-kind P one two three kind known =
    ⊎_elim
    (λ (y : (kind ≡ 1) × (eqb kind 1 ≡ true)). rw y.0 one)
    (λ (y : (kind ≡ 1 → ⊥) × (eqb kind 1 ≡ false)).
    ⊎_elim
    (λ (z : (kind ≡ 2) × (eqb kind 2 ≡ true)). rw z.0 two)
    (λ (z : (kind ≡ 2 → ⊥) × (eqb kind 2 ≡ false)). rw (eqb-true kind 3 (rw (y.1, z.1) at known)) three)
    (eqb-cases kind 2))
    (eqb-cases kind 1)

-- what differs by kind here
by_kind : (kind : ℕ) → Known kind → (has_totals kind ≡ true) × ((kind_at kind).daily ≡ eqb kind 1)
unfolding kind_at kind_one kind_two kind_three has_totals
by_kind kind known = any-kind (λ (k : ℕ). (has_totals k ≡ true) × ((kind_at k).daily ≡ eqb k 1)) (refl, refl) (refl, refl) (refl, refl) kind known

pub quarters-fit : (kind from to : ℕ) → Known kind → period_fits kind from to ≡ true → period_allows kind (quarter_hours from to) ≡ true
unfolding period_fits period_allows cost_period quarter_hours
quarters-fit kind from to known e =
    let k = (by_kind kind known).1 in
    ⊎_elim
    (λ (y : eqb kind 1 ≡ true).
    let f : day_period from to ≡ true = rw (k ∙ y) at e in
    rw y (allowed-day ((to - from) / 15) (of-day from to f)))
    (λ (y : eqb kind 1 ≡ false).
    let f : (ltb from to && (eqb ((to - from) % 15) 0 && leb (to - from) 527040)) ≡ true = rw (k ∙ y) at e in
    let a = (and-eq-true_iff (ltb from to) _).0 f in
    let b = (and-eq-true_iff (eqb ((to - from) % 15) 0) _).0 a.1 in
    let u = ltb-true from to a.0 in
    let v = eqb-true ((to - from) % 15) 0 b.0 in
    let w = leb-true (to - from) 527040 b.1 in
    rw (y, le-leb 1 ((to - from) / 15) (omega (arith, u, v))) (le-leb ((to - from) / 15) most_quarters (omega (arith, w))))
    (bool_cases (eqb kind 1))

pub kind-totals : (kind : ℕ) → Known kind → has_totals kind ≡ true
kind-totals kind known = (by_kind kind known).0

-- ---- TimePeriodCovered comes, and is as its kind asks

-- in the rows of each kind: it has to come in the root
covered-test : ℕ → Bool
covered-test k =
    let rows = rows_of k in
    let w = get_or rows (row_by form_of period_form rows) 0 in
    ltb (row_by form_of period_form rows) (length rows) && (eqb (form_of w) period_form && (required w && eqb (parent_of w) 1))

covered-row : (kind : ℕ) → Known kind → covered-test kind ≡ true
unfolding covered-test rows_of beschaffungsanforderung kostenblatt network_constraint_document element_no number_in names same parent_of required form_of
covered-row kind known = of-kind covered-test refl kind known

abbrev Fitting : ℕ → Period → Type 0
Fitting kind p = period_fits kind p.start p.end ≡ true

abbrev SaysPeriod : ℕ → TagSaid → Type 0
SaysPeriod kind s = Fitting kind (period_by (interval (says (bytes s.v))))

judged : (kind : ℕ) (i : Option (ℕ × ℕ)) → eqb (judge_period_by kind i).number 0 ≡ true → Fitting kind (period_by i)
unfolding judge_period_by period_by
judged kind (Some (from, to)) e =
    ⊎_elim (λ y. y) (λ y. let z : eqb 8 0 ≡ true = rw y at e in never z) (bool_cases (period_fits kind from to))
judged kind None e = never e

module _ (kind : ℕ) (rows : List ℕ) (p : ℕ) (L : Layout rows p) (p₀ : Period) where
  one-fits : (q : ℕ) (s : TagSaid) → q < length rows → form_of (get_or rows q 0) ≡ 6 → element_fits kind p₀ (get_or rows q 0) s ≡ true → SaysPeriod kind s
  unfolding element_fits value_fits sayings judge judge_period
  one-fits q s l f e =
      let w = get_or rows q 0 in
      let c : q ≡ 2 + L.covered = L.covered-form q l f in
      let r : eqb (role_of w) 1 ≡ false = ne_eqb _ _ (λ z. let o = L.only-root q l z in omega (arith, o, c)) in
      let k : collapsed w ≡ false = rw c L.covered-kept in
      let a : cond (eqb (role_of w) 1) (root_fits kind s.dtd) (cond (eqb (form_of w) 0) true (scheme_fits w s && value_fits kind p₀ w s)) ≡ true =
      ((and-eq-true_iff (attributes_agree kind w s) _).0 e).1 in
      let z₀ : eqb (form_of w) 0 ≡ false = ne_eqb (form_of w) 0 (λ z. omega (arith, z, f)) in
      let z₉ : eqb (form_of w) 9 ≡ false = ne_eqb (form_of w) 9 (λ z. omega (arith, z, f)) in
      let z₆ : eqb (form_of w) 6 ≡ true = eq-eqb (form_of w) 6 f in
      let a₁ : cond (eqb (form_of w) 0) true (scheme_fits w s && value_fits kind p₀ w s) ≡ true = rw r at a in
      let a₂ : scheme_fits w s && value_fits kind p₀ w s ≡ true = rw z₀ at a₁ in
      let b = ((and-eq-true_iff (scheme_fits w s) (value_fits kind p₀ w s)).0 a₂).1 in
      judged kind (interval (says (bytes s.v))) (rw (z₉, z₆, k) at b)

  all-fit : (c : Trees TagSaid) (h : ℕ) → Stand rows h (rows_taken c) → EachConforms rows c → Each (element_fits kind p₀) rows c
      → All (SaysPeriod kind) (those (has_form 6) rows c)
  unfolding those Stand rows_taken EachConforms Each All
  all-fit none h s each e = tt
  all-fit (element q x inner after) h s each e =
      let a = all-fit inner q each.0.stand each.1 e.1 in
      let b = all-fit after h s.2 each.2 e.2 in
      let m = all_join (SaysPeriod kind) (those (has_form 6) rows inner) (those (has_form 6) rows after) a b in
      ⊎_elim
      (λ y. rw y.1 (one-fits q x s.0 y.0 e.0, m))
      (λ y. rw y.1 m)
      (eqb-cases (form_of (get_or rows q 0)) 6)

  comes : (j : ℕ) (c : Trees TagSaid) → form_of (get_or rows j 0) ≡ 6 → Among j (rows_taken c) → those (has_form 6) rows c ≡ [] → ⊥
  unfolding those Among rows_taken
  comes j none f m e = m
  comes j (element q x inner after) f (inl i) e =
      let t : eqb (form_of (get_or rows q 0)) 6 ≡ true = eq-eqb _ _ (rw i at f) in
      let z : x ∷ (those (has_form 6) rows inner ++ those (has_form 6) rows after) ≡ [] = rw t at e in
      zero-not-one (cc)
  comes j (element q x inner after) f (inr i) e =
      let z : own (has_form 6 (get_or rows q 0)) x ++ (those (has_form 6) rows inner ++ those (has_form 6) rows after) ≡ [] =
      sym (those-parts rows (has_form 6) q x inner after) ∙ e in
      comes j after f i
      (none_both (those (has_form 6) rows inner) (those (has_form 6) rows after)
      (none_both (own (has_form 6 (get_or rows q 0)) x) (those (has_form 6) rows inner ++ those (has_form 6) rows after) z).1).1

  last_fits : (ss : List TagSaid) (r : Period) → Fitting kind r → All (SaysPeriod kind) ss → Fitting kind (period_in r ss)
  unfolding period_in All
  last_fits [] r f a = f
  last_fits (s ∷ ss) r f a = last_fits ss _ a.0 a.1

  some_fits : (ss : List TagSaid) (r : Period) → (ss ≡ [] → ⊥) → All (SaysPeriod kind) ss → Fitting kind (period_in r ss)
  unfolding period_in All
  some_fits [] r n a = absurd (n refl)
  some_fits (s ∷ ss) r n a = last_fits ss _ a.0 a.1

pub period-ok : (kind : ℕ) (c : Trees TagSaid) → Legal kind c → period_allows kind (quarters_of (period_of (rows_of kind) c)) ≡ true
unfolding quarters_of period_of covered-test EachConforms
period-ok kind c legal =
    let known = legal.known in
    let l = laid kind known in
    let rows = rows_of kind in
    let L = l.layout in
    let d = document-shape rows l.period L c legal.conforms in
    let conf = legal.conforms in
    let a = all-fit kind rows l.period L (period_of rows c) c 0 conf.fits.stand conf.each legal.elements in
    let t = covered-row kind known in
    let t₁ = (and-eq-true_iff (ltb (row_by form_of period_form rows) (length rows)) _).0 t in
    let t₂ = (and-eq-true_iff (eqb (form_of (get_or rows (row_by form_of period_form rows) 0)) period_form) _).0 t₁.1 in
    let t₃ = (and-eq-true_iff (required (get_or rows (row_by form_of period_form rows) 0)) _).0 t₂.1 in
    let k : EachConforms rows (element 1 d.tag d.inner none) = rw d.is at conf.each in
    let m = k.0.complete (row_by form_of period_form rows) (ltb-true _ _ t₁.0) (eqb-true _ _ t₃.1) t₃.0 in
    let n : those (has_form 6) rows c ≡ [] → ⊥ =
    λ e.
    let e₁ : those (has_form 6) rows (element 1 d.tag d.inner none) ≡ [] = rw d.is at e in
    let z = sym (those-parts rows (has_form 6) 1 d.tag d.inner none) ∙ e₁ in
    comes kind rows l.period L (period_of rows c) (row_by form_of period_form rows) d.inner (eqb-true _ _ t₂.0) m
    (none_both (those (has_form 6) rows d.inner) (those (has_form 6) rows none)
    (none_both (own (has_form 6 (get_or rows 1 0)) d.tag) (those (has_form 6) rows d.inner ++ those (has_form 6) rows none) z).1).0 in
    quarters-fit kind _ _ known (some_fits kind rows l.period L (period_of rows c) (those (has_form 6) rows c) _ n a)
