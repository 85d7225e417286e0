-- No TimeSeriesIdentification was used before, at any element of a conforming content, just where no two of the content are the same.
-- Assumes nothing.
use Prim.Native.Nat.{ℕ, zero, suc, ◌+◌, ◌-◌, ◌≤◌, ◌<◌}
use mathlib.Core.Path.{◌≡◌, refl, sym, ap, subst, ◌∙◌}
use mathlib.Core.List.{List, [], ◌∷◌, ◌++◌, map}
use mathlib.Core.Bool.{true, false, true≢false}
use mathlib.Core.Logic.{◌↔◌, inl, ⊎_elim}
use native.Mathlib.Omega.{arith}
use lib.Dec.{eqb}
use lib.ListN.{length, get_or, length-replicate}
use borrow.Author.Tests.{eq-eqb, ne_eqb, eqb-false}
use Rattle.items.specs.Parts.{span_of}
use Rattle.lists.proofs.Cases.{eqb-cases, past-cond}
use Rattle.characters.specs.Says.{says}
use Rattle.slices.specs.Same.{same}
use Rattle.slices.specs.declared.Span.{Span}
use Rattle.columns.specs.Columns.{role_of}
use Rattle.states.specs.Attributes.{there}
use Rattle.states.specs.Moves.{entry_of}
use Rattle.reader.specs.Items.{Placed}
use Rattle.series.specs.Row.{cells_of, cell_at, view}
use Rattle.series.specs.declared.Field.TheVariants.{Identification}
use Rattle.series.proofs.Rows.{view-as}
use Rattle.reader.specs.Rows.{brought_by, used, used_in, used_with, used_before}
use Rattle.reader.specs.Reading.{Tables, blank, tables_after}
use Rattle.trees.specs.Trees.{Trees, none, element, rows_taken, Stand, Fits, EachConforms, Conforms}
use Rattle.contents.specs.Said.{TagSaid, bytes}
use Rattle.contents.specs.Legal.{has_role, those, position_of, All, is_among, Apart, identifications}
use Rattle.contents.proofs.Lists.{zero-all, all_both, joined, all-change}
use Rattle.contents.proofs.Laid.{Layout, series_at, Valued}
use Rattle.contents.proofs.Elements.{own, mapped-parts}
use Rattle.contents.proofs.Shape.{later, document-shape}
use Rattle.contents.proofs.Walk.{Tally, nothing, opened, walked}
use Rattle.contents.proofs.Fill.{said_of, saying, tables_with, filled, Unused, Stands}
use Rattle.contents.proofs.Values.{said-bytes, HasValues}
use Rattle.contents.proofs.Roles.{Role, is-series, is-interval, is-object, is-business, is-id, is_pos, is-qty, is-direction, is-area, is-other, role-cases, by-entry}
use Rattle.contents.specs.Shown.{last_of, said_for}
use Rattle.contents.proofs.Series.{step-effect, no-series, inside}
use Rattle.contents.proofs.Rows.{tally_in, tables_in, tally_out, tables_out, opened-series, opened-before, opened-size, rowed, untouched, once-in, more-series, those-plain, those-after}
use Rattle.contents.proofs.Shown.{root-those, root-role, root-tally, root-cells}

abbrev meaning : TagSaid → List ℕ
meaning s = says (bytes s.v)

-- ---- no two are the same

eqb-both : (a b : ℕ) → eqb a b ≡ eqb b a
eqb-both a b =
    ⊎_elim (λ y. y.1 ∙ sym (eq-eqb b a (sym y.0))) (λ y. y.1 ∙ sym (ne_eqb b a (λ e. y.0 (sym e)))) (eqb-cases a b)

same-both : (x y : List ℕ) → same x y ≡ same y x
unfolding same
same-both [] [] = refl
same-both [] (b ∷ y) = refl
same-both (a ∷ x) [] = refl
same-both (a ∷ x) (b ∷ y) = rw (eqb-both a b, same-both x y)

among_none : (z x : List ℕ) (l : List (List ℕ)) → is_among z (x ∷ l) ≡ false → (same z x ≡ false) × (is_among z l ≡ false)
unfolding is_among
among_none z x l h = past-cond (same z x) true≢false h

among-made : (z x : List ℕ) (l : List (List ℕ)) → same z x ≡ false → is_among z l ≡ false → is_among z (x ∷ l) ≡ false
unfolding is_among
among-made z x l a b = rw a b

none-same : (x : List ℕ) (l : List (List ℕ)) → All (λ z. same z x ≡ false) l → is_among x l ≡ false
unfolding All is_among
none-same x [] h = refl
none-same x (z ∷ l) h = rw (same-both x z ∙ h.0) (none-same x l h.1)

same_none : (x : List ℕ) (l : List (List ℕ)) → is_among x l ≡ false → All (λ z. same z x ≡ false) l
unfolding All
same_none x [] h = tt
same_none x (z ∷ l) h = let k = among_none x z l h in (same-both z x ∙ k.0, same_none x l k.1)

-- each is not among those before it
abbrev NoneBefore : List (List ℕ) → List (List ℕ) → Type 0
NoneBefore past [] = Unit {0}
NoneBefore past (x ∷ xs) = (is_among x past ≡ false) × NoneBefore (x ∷ past) xs

before-apart : (ids past : List (List ℕ)) → NoneBefore past ids → Apart ids × All (λ x. is_among x past ≡ false) ids
unfolding Apart All
before-apart [] past h = (tt, tt)
before-apart (x ∷ xs) past h =
    let k = before-apart xs (x ∷ past) h.1 in (
      (none-same x xs (all-change (λ z. is_among z (x ∷ past) ≡ false) (λ z. same z x ≡ false) xs (λ z e. (among_none z x past e).0) k.1), k.0),
      (h.0, all-change (λ z. is_among z (x ∷ past) ≡ false) (λ z. is_among z past ≡ false) xs (λ z e. (among_none z x past e).1) k.1),
    )

apart-before : (ids past : List (List ℕ)) → Apart ids → All (λ x. is_among x past ≡ false) ids → NoneBefore past ids
unfolding Apart All
apart-before [] past h k = tt
apart-before (x ∷ xs) past h k = (
  k.0,
  apart-before xs (x ∷ past) h.1
      (all_both (λ z. same z x ≡ false) (λ z. is_among z past ≡ false) (λ z. is_among z (x ∷ past) ≡ false) xs (λ z a b. among-made z x past a b)
      (same_none x xs h.0) k.1),
)

none-past : (ids : List (List ℕ)) → All (λ x. is_among x [] ≡ false) ids
unfolding All is_among
none-past [] = tt
none-past (x ∷ xs) = (refl, none-past xs)

-- ---- rows that show an identification

module _ (doc : List ℕ) where
  used-kept : (t u : List ℕ) (n : ℕ) (id : List ℕ) → ((j : ℕ) → j < cells_of n → get_or u j 0 ≡ get_or t j 0) → used doc u n id ≡ used doc t n id
  unfolding used
  used-kept t u zero id k = refl
  used-kept t u (suc n) id k = rw (used-kept t u n id (λ j l. k j (omega (arith, l))), view-as doc t u n Identification (k (cell_at n Identification) (omega arith)) (k (cell_at n Identification + 1) (omega arith)))

  -- the first n rows show these
  abbrev Knows : List ℕ → ℕ → List (List ℕ) → Type 0
  Knows t n past = (id : List ℕ) → used doc t n id ≡ is_among id past

  knows_on : (t u : List ℕ) (n : ℕ) (past : List (List ℕ)) (x : List ℕ) → ((j : ℕ) → j < cells_of n → get_or u j 0 ≡ get_or t j 0) → says (view doc u n Identification) ≡ x
      → Knows t n past → Knows u (suc n) (x ∷ past)
  unfolding used is_among
  knows_on t u n past x k e h id = rw (e, used-kept t u n id k ∙ h id, same-both x id)

  -- an element that brings no identification
  not-used : (r n : ℕ) (t : List ℕ) (v : Span) (s : List ℕ) (m : ℕ) → eqb r 8 ≡ false → used_before doc t v s m (entry_of r n) ≡ false
  unfolding used_before used_with brought_by used_in
  not-used r n t v s m k =
      by-entry (λ e. used_before doc t v s m e ≡ false) r n refl (λ e. refl) (λ e. refl) (λ e. refl) (λ e. refl) (λ e. absurd (eqb-false r 8 k e)) (λ e. refl)
      (λ e. refl) (λ e. refl) (λ e. refl)

  abbrev NotUsed : List ℕ → ℕ → List ℕ → Type 0
  NotUsed t i id = used doc t i id ≡ false

  step-used : (w i : ℕ) (x : Placed) (y : Tally) (t : List ℕ) → Role (role_of w) → (role_of w ≡ 2 → ⊥) → (6 ≤ role_of w → there (span_of x.item) ≡ true) → y.series ≡ suc i
      → (used_before doc t (span_of x.item) x.rest (opened w (said_of x) y).series (entry_of (role_of w) (position_of (said_of x))) ≡ false)
      ↔ All (NotUsed t i) (map meaning (own (has_role 8 w) (said_of x)))
  unfolding used_before used_with brought_by used_in entry_of All
  step-used w i x y t (is-series e) n v a = absurd (n e)
  step-used w i x y t (is-interval e) n v a = rw e ((λ h. tt), (λ h. refl))
  step-used w i x y t (is-object e) n v a = rw e ((λ h. tt), (λ h. refl))
  step-used w i x y t (is-business e) n v a = rw e ((λ h. tt), (λ h. refl))
  step-used w i x y t (is-id e) n v a =
      let d : y.series - 1 ≡ i = omega (arith, a) in
      rw (e, d, said-bytes x (v (omega (arith, e)))) ((λ h. (h, tt)), (λ h. h.0))
  step-used w i x y t (is_pos e) n v a = rw e ((λ h. tt), (λ h. refl))
  step-used w i x y t (is-qty e) n v a = rw e ((λ h. tt), (λ h. refl))
  step-used w i x y t (is-direction e) n v a = rw e ((λ h. tt), (λ h. refl))
  step-used w i x y t (is-area e) n v a = rw e ((λ h. tt), (λ h. refl))
  step-used w i x y t (is-other b c d e f g k o p) n v a = simp (b, c, d, e, f, g, k, o, p) ((λ h. tt), (λ h. refl))

ids-parts : (rows : List ℕ) (q : ℕ) (x : Placed) (inner after : Trees Placed)
    → identifications rows (saying (element q x inner after))
    ≡ map meaning (own (has_role 8 (get_or rows q 0)) (said_of x)) ++ (identifications rows (saying inner) ++ identifications rows (saying after))
unfolding identifications saying
ids-parts rows q x inner after = mapped-parts rows meaning (has_role 8) q (said_of x) (saying inner) (saying after)

module _ (kind : ℕ) (rows : List ℕ) (p : ℕ) (L : Layout rows p) (W : Valued rows) (doc : List ℕ) where
  -- ---- in a series

  inside-unused : (kids : Trees Placed) (h i : ℕ) (y : Tally) (t : Tables) → series_at L ≤ h → h < length rows → Stand rows h (rows_taken kids) → EachConforms rows kids
      → Stands doc kids → HasValues rows kids → y.series ≡ suc i → cells_of (i + 1) ≤ length t.series
      → Unused doc kind rows kids y t ↔ All (NotUsed doc t.series i) (identifications rows (saying kids))
  unfolding Unused rows_taken Stand EachConforms Stands HasValues saying identifications those All tables_after
  inside-unused none h i y t a l s c d g e m = ((λ u. tt), (λ u. tt))
  inside-unused (element q x inner after) h i y t a l s c d g e m =
      let w = get_or rows q 0 in
      let y₁ = opened w (said_of x) y in
      let t₁ = tables_with kind rows q x y₁ t in
      let y₂ = walked rows (saying inner) y₁ in
      let t₂ = filled kind rows inner y₁ t₁ in
      let b = later rows p L h q l s.0 s.1 in
      let no = no-series kind rows p L W doc h q a b s.0 in
      let v : 6 ≤ role_of w → there (span_of x.item) ≡ true = λ r. g.0 (W q s.0 r) in
      let one = step-effect kind doc w q i x y t.series (role-cases (role_of w)) no v d.1 e m in
      let e₁ = one.series ∙ e in
      let z₁ = one.size in
      let two = inside kind rows p L W doc inner q i y₁ t₁ (omega (arith, a, b)) s.0 c.0.stand c.1 d.2 g.1 e₁ (omega (arith, z₁, m)) in
      let e₂ = two.series ∙ e₁ in
      let z₂ = two.size in
      let keep : (z : List ℕ) → used doc t₁.series i z ≡ used doc t.series i z = λ z. used-kept doc t.series t₁.series i z (λ j u. one.others j (inl u)) in
      let keep₂ : (z : List ℕ) → used doc t₂.series i z ≡ used doc t₁.series i z
      = λ z. used-kept doc t₁.series t₂.series i z (λ j u. two.others j (inl u)) in
      joined (NotUsed doc t.series i) (NotUsed doc t₁.series i) (NotUsed doc t₂.series i)
      (map meaning (own (has_role 8 w) (said_of x))) (identifications rows (saying inner)) (identifications rows (saying after))
      (identifications rows (saying (element q x inner after))) (ids-parts rows q x inner after)
      (step-used doc w i x y t.series (role-cases (role_of w)) no v e)
      (inside-unused inner q i y₁ t₁ (omega (arith, a, b)) s.0 c.0.stand c.1 d.2 g.1 e₁ (omega (arith, z₁, m)))
      (inside-unused after h i y₂ t₂ a l s.2 c.2 d.3 g.2 e₂ (omega (arith, z₂, z₁, m)))
      (λ z. ((λ u. sym (keep z) ∙ u), (λ u. keep z ∙ u)))
      (λ z. ((λ u. sym (keep₂ z ∙ keep z) ∙ u), (λ u. keep₂ z ∙ keep z ∙ u)))

  within-unused : (q : ℕ) (x : Placed) (inner : Trees Placed) (y : Tally) (t : Tables) (past : List (List ℕ)) (id : TagSaid) → q ≡ series_at L → q < length rows
      → Fits rows q (rows_taken inner) → EachConforms rows inner → Stands doc inner → HasValues rows inner → cells_of (y.series + 1) ≤ length t.series
      → those (has_role 8) rows (saying inner) ≡ id ∷ [] → Knows doc t.series y.series past
      → Unused doc kind rows inner (opened (get_or rows q 0) (said_of x) y) (tables_with kind rows q x (opened (get_or rows q 0) (said_of x) y) t) ↔ (is_among (meaning id) past ≡ false)
  unfolding identifications All
  within-unused q x inner y t past id e l f c d g room o k =
      let y₁ = tally_in kind rows p L W doc q x y in
      let t₁ = tables_in kind rows p L W doc q x y t in
      let n = y.series in
      let a = (opened-series kind rows p L W doc q x inner y t e).0 in
      let z = opened-size kind rows p L W doc q x inner y t e in
      let h = inside-unused inner q n y₁ t₁ (omega (arith, e)) l f.stand c d g (omega (arith, a)) (omega (arith, z, room)) in
      let ids : identifications rows (saying inner) ≡ meaning id ∷ [] = ap (map meaning) o in
      let b = used-kept doc t.series t₁.series n (meaning id) (opened-before kind rows p L W doc q x inner y t e) ∙ k (meaning id) in (
        (λ u. let v : All (NotUsed doc t₁.series n) (meaning id ∷ []) = subst (All (NotUsed doc t₁.series n)) ids (h.0 u) in sym b ∙ v.0),
        (λ u. let v : All (NotUsed doc t₁.series n) (meaning id ∷ []) = (b ∙ u, tt) in h.1 (subst (All (NotUsed doc t₁.series n)) (sym ids) v)),
      )

  -- ---- beside the series

  -- the identification of a series that says one
  id-shown : (s : Trees TagSaid) {v : List ℕ} (id : TagSaid) → those (has_role 8) rows s ≡ id ∷ [] → v ≡ last_of [] (said_for rows s Identification) → says v ≡ meaning id
  unfolding said_for
  id-shown s id o e = ap says (e ∙ ap (λ (l : List TagSaid). last_of [] (map (λ (x : TagSaid). bytes x.v) l)) o)

  -- no identification is brought by a row that has another role
  step-none : (q : ℕ) (x : Placed) (y : Tally) (t : List ℕ) → eqb (role_of (get_or rows q 0)) 8 ≡ false
      → used_before doc t (span_of x.item) x.rest (opened (get_or rows q 0) (said_of x) y).series (entry_of (role_of (get_or rows q 0)) (position_of (said_of x))) ≡ false
  step-none q x y t n =
      let r = role_of (get_or rows q 0) in
      not-used doc r (position_of (said_of x)) t (span_of x.item) x.rest (opened (get_or rows q 0) (said_of x) y).series n

  plain-unused : (q : ℕ) (x : Placed) (inner after : Trees Placed) (y : Tally) (t : Tables) (past : List (List ℕ)) → inner ≡ none → eqb (role_of (get_or rows q 0)) 8 ≡ false
      → Unused doc kind rows after (opened (get_or rows q 0) (said_of x) y) (tables_with kind rows q x (opened (get_or rows q 0) (said_of x) y) t)
      ↔ NoneBefore past (identifications rows (saying after))
      → Unused doc kind rows (element q x inner after) y t ↔ NoneBefore past (identifications rows (saying (element q x inner after)))
  unfolding Unused walked filled saying identifications
  plain-unused q x inner after y t past e n h =
      let l = ap (map meaning) (those-plain rows 8 q x inner after e n) in
      let none-used = step-none q x y t.series n in (
        (λ u. subst (NoneBefore past) l (h.0 (rw e at u.2))),
        (λ u. (none-used, rw e tt, rw e (h.1 (subst (NoneBefore past) (sym l) u)))),
      )

  series-unused : (q : ℕ) (x : Placed) (inner after : Trees Placed) (y : Tally) (t : Tables) (past : List (List ℕ)) (id : TagSaid) → eqb (role_of (get_or rows q 0)) 8 ≡ false
      → those (has_role 8) rows (saying inner) ≡ id ∷ []
      → Unused doc kind rows inner (opened (get_or rows q 0) (said_of x) y) (tables_with kind rows q x (opened (get_or rows q 0) (said_of x) y) t) ↔ (is_among (meaning id) past ≡ false)
      → Unused doc kind rows after (walked rows (saying inner) (opened (get_or rows q 0) (said_of x) y))
      (filled kind rows inner (opened (get_or rows q 0) (said_of x) y) (tables_with kind rows q x (opened (get_or rows q 0) (said_of x) y) t))
      ↔ NoneBefore (meaning id ∷ past) (identifications rows (saying after))
      → Unused doc kind rows (element q x inner after) y t ↔ NoneBefore past (identifications rows (saying (element q x inner after)))
  unfolding Unused saying identifications
  series-unused q x inner after y t past id n e h k =
      let l = ap (map meaning) (those-after rows 8 q x inner after n e) in
      let none-used = step-none q x y t.series n in (
        (λ u. subst (NoneBefore past) l (h.0 u.1, k.0 u.2)),
        (λ u. let v : NoneBefore past (meaning id ∷ identifications rows (saying after)) = subst (NoneBefore past) (sym l) u in (none-used, h.1 v.0, k.1 v.1)),
      )

  beside-unused : (kids : Trees Placed) (y : Tally) (t : Tables) (past : List (List ℕ)) → Stand rows 1 (rows_taken kids) → EachConforms rows kids → Stands doc kids → HasValues rows kids
      → cells_of (y.series + length (those (has_role 2) rows (saying kids))) ≤ length t.series → ((j : ℕ) → cells_of y.series ≤ j → get_or t.series j 0 ≡ 0)
      → Knows doc t.series y.series past
      → Unused doc kind rows kids y t ↔ NoneBefore past (identifications rows (saying kids))
  unfolding Unused rows_taken Stand EachConforms Stands HasValues saying identifications those
  beside-unused none y t past s c d g room blank k = ((λ u. tt), (λ u. tt))
  beside-unused (element q x inner after) y t past s c d g room blank k =
      ⊎_elim
      (λ e.
      let f = c.0 in
      let y₁ = tally_in kind rows p L W doc q x y in
      let t₁ = tables_in kind rows p L W doc q x y t in
      let y₂ = tally_out kind rows p L W doc q x inner y in
      let t₂ = tables_out kind rows p L W doc q x inner y t in
      let n = y.series in
      let o = once-in kind rows p L W doc inner (rw e.0 at f) c.1 in
      let more = more-series kind rows p L W doc q x inner after e.0 o in
      let r = rowed kind rows p L W doc q x inner y t e.0 f c.1 d.2 g.1 (omega (arith, more, room)) blank in
      let u = r.series in
      let v = r.size in
      let role : role_of (get_or rows q 0) ≡ 2 = ap (λ (i : ℕ). role_of (get_or rows i 0)) e.0 ∙ L.series in
      let eight : eqb (role_of (get_or rows q 0)) 8 ≡ false = rw role in
      let known = knows_on doc t.series t₂.series n past (meaning o.id) r.before (id-shown (saying inner) o.id o.id-once (r.row.views Identification refl)) k in
      let u₁ : y₂.series ≡ suc n = omega (arith, u) in
      series-unused q x inner after y t past o.id eight o.id-once
      (within-unused q x inner y t past o.id e.0 s.0 f c.1 d.2 g.1 (omega (arith, more, room)) o.id-once k)
      (beside-unused after y₂ t₂ (meaning o.id ∷ past) s.2 c.2 d.3 g.2 (omega (arith, more, room, u, v))
      (λ j l. r.beyond j (omega (arith, l, u)) ∙ blank j (omega (arith, l, u)))
      (λ z. ap (λ (m : ℕ). used doc t₂.series m z) u₁ ∙ known z)))
      (λ e.
      let y₁ = tally_in kind rows p L W doc q x y in
      let t₁ = tables_in kind rows p L W doc q x y t in
      let b = untouched kind rows p L W doc q x inner y t e.0 s.0 s.1 c.0.stand in
      let more = ap length (those-plain rows 2 q x inner after b.bare b.not-two) in
      let u = b.series in
      let v = ap length b.cells in
      plain-unused q x inner after y t past b.bare b.not_eight
      (beside-unused after y₁ t₁ past s.2 c.2 d.3 g.2 (omega (arith, more, room, u, v))
      (λ j l. ap (λ (z : List ℕ). get_or z j 0) b.cells ∙ blank j (omega (arith, l, u)))
      (λ z. ap (λ (l : List ℕ). used doc l y₁.series z) b.cells ∙ ap (λ (m : ℕ). used doc t.series m z) b.series ∙ k z)))
      (eqb-cases q (series_at L))

module _ (kind : ℕ) (rows : List ℕ) (p : ℕ) (L : Layout rows p) (W : Valued rows) (doc : List ℕ) (ns np na : ℕ) where
  root-unused : (x : Placed) (inner : Trees Placed) → Conforms rows 0 (element 1 x inner none) → Stands doc (element 1 x inner none)
      → HasValues rows (element 1 x inner none) → cells_of (length (those (has_role 2) rows (saying (element 1 x inner none)))) ≤ ns
      → Unused doc kind rows (element 1 x inner none) nothing (blank ns np na) ↔ NoneBefore [] (identifications rows (saying (element 1 x inner none)))
  unfolding EachConforms Stands HasValues Unused identifications used is_among
  root-unused x inner c d g room =
      let y = opened (get_or rows 1 0) (said_of x) nothing in
      let t = tables_with kind rows 1 x y (blank ns np na) in
      let a₀ = (root-tally kind rows p L W doc ns np na x).0 in
      let z = root-cells kind rows p L W doc ns np na x in
      let m = ap length (root-those kind rows p L W doc ns np na 2 x inner refl) in
      let len : length t.series ≡ ns = ap length z ∙ length-replicate ns 0 in
      let l = ap (map meaning) (root-those kind rows p L W doc ns np na 8 x inner refl) in
      let none-used = step-none kind rows p L W doc 1 x nothing (blank ns np na).series (root-role kind rows p L W doc ns np na 8 refl) in
      let h = beside-unused kind rows p L W doc inner y t [] c.each.0.stand c.each.1 d.2 g.1 (omega (arith, m, room, len, a₀))
      (λ j b. ap (λ (k : List ℕ). get_or k j 0) z ∙ zero-all 0 ns j)
      (λ i. ap (λ (k : ℕ). used doc t.series k i) a₀) in (
        (λ u. subst (NoneBefore []) l (h.0 u.1)),
        (λ u. (none-used, h.1 (subst (NoneBefore []) (sym l) u), tt)),
      )

  all-unused : (kids : Trees Placed) → Conforms rows 0 kids → Stands doc kids → HasValues rows kids → cells_of (length (those (has_role 2) rows (saying kids))) ≤ ns
      → Unused doc kind rows kids nothing (blank ns np na) ↔ NoneBefore [] (identifications rows (saying kids))
  all-unused kids c d g room =
      let h = document-shape rows p L kids c in
      rw h.is (root-unused h.tag h.inner (rw h.is at c) (rw h.is at d) (rw h.is at g) (rw h.is at room))

  pub unused-apart : (kids : Trees Placed) → Conforms rows 0 kids → Stands doc kids → HasValues rows kids → cells_of (length (those (has_role 2) rows (saying kids))) ≤ ns
      → Unused doc kind rows kids nothing (blank ns np na) → Apart (identifications rows (saying kids))
  unused-apart kids c d g room u = (before-apart (identifications rows (saying kids)) [] ((all-unused kids c d g room).0 u)).0

  pub apart-unused : (kids : Trees Placed) → Conforms rows 0 kids → Stands doc kids → HasValues rows kids → cells_of (length (those (has_role 2) rows (saying kids))) ≤ ns
      → Apart (identifications rows (saying kids)) → Unused doc kind rows kids nothing (blank ns np na)
  apart-unused kids c d g room a =
      (all-unused kids c d g room).1 (apart-before (identifications rows (saying kids)) [] a (none-past (identifications rows (saying kids))))
