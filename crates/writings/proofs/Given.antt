-- Where a legal content has what a draft gives, the draft's own content is legal. Assumes nothing.
use Prim.Native.Nat.{ℕ, zero, suc, ◌+◌}
use mathlib.Core.Path.{◌≡◌, refl, sym, subst}
use mathlib.Core.List.{List, [], ◌∷◌}
use mathlib.Core.Bool.{Bool, true, false, cond, ◌&&◌, and-eq-true_iff}
use mathlib.Core.Logic.{⊎_elim}
use lib.Dec.{eqb}
use lib.ListN.{get_or}
use borrow.Author.Tests.{eqb-true}
use Rattle.lists.proofs.Cases.{bool_cases, eqb-cases, never}
use Rattle.slices.specs.Same.{same}
use Rattle.characters.specs.Says.{says}
use Rattle.numbers.specs.Amount.{amount_of}
use Rattle.elements.specs.Names.{names, number_in, element_no}
use Rattle.columns.specs.Columns.{form_of, scheme_of, role_of, collapsed, period_form, pos_form, amount_form, pos_role, qty_role, series_id_role}
use Rattle.structure.specs.Rows.{name_of}
use Rattle.guideline.specs.Kinds.{kind_at, kind_one, kind_two, dtd_version, dtd_release, dtd_message}
use Rattle.guideline.specs.Rows.{beschaffungsanforderung, kostenblatt, rows_of}
use Rattle.states.specs.Attributes.{agree, no_others, asks_v, asks_scheme, demands_at}
use Rattle.rules.specs.Rules.{judge, form_refusal, unless, amount}
use Rattle.rules.specs.declared.Held.{Held}
use Rattle.trees.specs.Trees.{Trees, none, element}
use Rattle.contents.specs.Said.{AttributeValue, Absent, Given, TagSaid, given, bytes}
use Rattle.contents.specs.Legal.{has_role, has_form, Period, sayings, dtd_agrees, attributes_agree, scheme_fits, value_fits, fixed_fits, root_fits, element_fits, Legal}
use Rattle.drafts.specs.Draft.{Draft, single_tag, is_said, root_tag, bare_tag, number_tag, singles, intervals_from, singles_in, period_tree, series_from, draft_content}
use Rattle.views.specs.Layout.{values_of}
use Rattle.drafts.specs.Fit.{is_written}
use Rattle.writings.specs.Given.{ValueSame, TagHas, TreesHave, HasGiven}
use Rattle.writings.proofs.Alike.{TagAlike, TreesAlike, legal-alike}

-- ---- the rows of the two kinds

-- Pos has its form, and Qty has its own and is collapsed; neither is TimePeriodCovered or an identification
unfoldable pub numbers_in : ℕ → Bool
numbers_in w =
    cond (has_role pos_role w) (has_form pos_form w && cond (has_role qty_role w) false true) true
    && cond (has_role qty_role w) (has_form amount_form w && collapsed w) true
    && cond (has_role series_id_role w) (cond (has_role pos_role w) false (cond (has_role qty_role w) false true)) true
    && cond (has_form period_form w) (cond (has_role pos_role w) false (cond (has_role qty_role w) false true)) true

unfoldable pub every_in : List ℕ → Bool
every_in [] = true
every_in (w ∷ ws) = numbers_in w && every_in ws

none_in : numbers_in 0 ≡ true
unfolding numbers_in form_of role_of collapsed
none_in = refl

pub row_in : (rows : List ℕ) → every_in rows ≡ true → (r : ℕ) → numbers_in (get_or rows r 0) ≡ true
unfolding every_in
row_in [] h r = none_in
row_in (w ∷ ws) h zero = ((and-eq-true_iff (numbers_in w) (every_in ws)).0 h).0
row_in (w ∷ ws) h (suc r) = row_in ws ((and-eq-true_iff (numbers_in w) (every_in ws)).0 h).1 r

-- its four parts
told : (w : ℕ) → numbers_in w ≡ true
    → (cond (has_role pos_role w) (has_form pos_form w && cond (has_role qty_role w) false true) true ≡ true)
    × (cond (has_role qty_role w) (has_form amount_form w && collapsed w) true ≡ true)
    × (cond (has_role series_id_role w) (cond (has_role pos_role w) false (cond (has_role qty_role w) false true)) true ≡ true)
    × (cond (has_form period_form w) (cond (has_role pos_role w) false (cond (has_role qty_role w) false true)) true ≡ true)
unfolding numbers_in
told w n =
    let x1 = cond (has_role pos_role w) (has_form pos_form w && cond (has_role qty_role w) false true) true in
    let x2 = cond (has_role qty_role w) (has_form amount_form w && collapsed w) true in
    let x3 = cond (has_role series_id_role w) (cond (has_role pos_role w) false (cond (has_role qty_role w) false true)) true in
    let x4 = cond (has_form period_form w) (cond (has_role pos_role w) false (cond (has_role qty_role w) false true)) true in
    let a = (and-eq-true_iff (x1 && x2 && x3) x4).0 n in
    let b = (and-eq-true_iff (x1 && x2) x3).0 a.0 in
    let c = (and-eq-true_iff x1 x2).0 b.0 in
    (c.0, c.1, b.1, a.1)

-- a Qty has the form of an amount, and is collapsed
pub qty-form : (w : ℕ) → numbers_in w ≡ true → has_role qty_role w ≡ true → (form_of w ≡ amount_form) × (collapsed w ≡ true)
qty-form w n q =
    let f : has_form amount_form w && collapsed w ≡ true = rw q at (told w n).1 in
    let g = (and-eq-true_iff (has_form amount_form w) (collapsed w)).0 f in
    (eqb-true (form_of w) amount_form g.0, g.1)

every_one : every_in beschaffungsanforderung ≡ true
unfolding beschaffungsanforderung element_no names number_in same name_of form_of scheme_of role_of collapsed every_in numbers_in
every_one = refl

every_two : every_in kostenblatt ≡ true
unfolding kostenblatt element_no names number_in same name_of form_of scheme_of role_of collapsed every_in numbers_in
every_two = refl

-- their rows, and that their series are not held against each other
pub two-kinds : (kind : ℕ) → is_written kind ≡ true → (every_in (rows_of kind) ≡ true) × ((kind_at kind).constrained ≡ false)
unfolding is_written rows_of kind_at kind_one kind_two
two-kinds kind h =
    ⊎_elim
    (λ (y : (kind ≡ 1) × (eqb kind 1 ≡ true)). (rw y.1 every_one, rw y.1 refl))
    (λ (y : (kind ≡ 1 → ⊥) × (eqb kind 1 ≡ false)). let e : eqb kind 2 ≡ true = rw y.1 at h in (rw (y.1, e) every_two, rw (y.1, e) refl))
    (eqb-cases kind 1)

-- ---- a tag

fixed_same : (kind a : ℕ) (x y : AttributeValue) → ValueSame x y → fixed_fits kind a y ≡ fixed_fits kind a x
unfolding fixed_fits given bytes
fixed_same kind a Absent Absent h = refl
fixed_same kind a Absent (Given b) h = never h.there
fixed_same kind a (Given b) Absent h = never (sym h.there)
fixed_same kind a (Given b) (Given c) h = rw h.said refl

root-same : (kind w : ℕ) (s t : TagSaid) → TagHas w s t → root_fits kind t.dtd ≡ root_fits kind s.dtd
unfolding root_fits
root-same kind w s t h =
    rw
    (fixed_same kind dtd_version s.dtd.version t.dtd.version h.version, fixed_same kind dtd_release s.dtd.release t.dtd.release h.release, fixed_same kind dtd_message s.dtd.message t.dtd.message h.message)
    refl

-- a tag of the draft has no others
attributes-same : (kind w : ℕ) (s t : TagSaid) → TagHas w s t → s.others ≡ false → attributes_agree kind w t ≡ true → attributes_agree kind w s ≡ true
unfolding attributes_agree dtd_agrees no_others
attributes-same kind w s t h plain k =
    let x = agree (asks_v w) (given t.v) && agree (asks_scheme w) (given t.scheme) && dtd_agrees (demands_at kind w) t.dtd in
    rw (plain, h.there, h.scheme.there, h.version.there, h.release.there, h.message.there)
    ((and-eq-true_iff x true).1 (((and-eq-true_iff x (no_others w t.others t.passable)).0 k).0, refl))

scheme-same : (w : ℕ) (s t : TagSaid) → TagHas w s t → scheme_fits w t ≡ scheme_fits w s
unfolding scheme_fits
scheme-same w s t h = rw h.scheme.said refl

qty-same : (held : Held) (x y : List ℕ) → amount_of x ≡ amount_of y → eqb (judge amount_form held x).number 0 ≡ eqb (judge amount_form held y).number 0
unfolding judge form_refusal unless amount
qty-same held x y e = rw e refl

module _ (kind w : ℕ) (s t : TagSaid) (h : TagHas w s t) (n : numbers_in w ≡ true) where
  -- neither a Pos nor a Qty
  neither : cond (has_role pos_role w) false (cond (has_role qty_role w) false true) ≡ true → says (bytes s.v) ≡ says (bytes t.v)
  neither e =
      ⊎_elim
      (λ (y : has_role pos_role w ≡ true). never (rw y at e))
      (λ (y : has_role pos_role w ≡ false).
      ⊎_elim (λ (z : has_role qty_role w ≡ true). never (rw (y, z) at e)) (λ (z : has_role qty_role w ≡ false). h.said y z) (bool_cases (has_role qty_role w)))
      (bool_cases (has_role pos_role w))

  value_same : (p : Period) → value_fits kind p w t ≡ value_fits kind p w s
  unfolding value_fits sayings
  value_same p =
      ⊎_elim
      (λ (y : has_role pos_role w ≡ true).
      let f : has_form pos_form w && cond (has_role qty_role w) false true ≡ true = rw y at (told w n).0 in rw ((and-eq-true_iff (has_form pos_form w) _).0 f).0 refl)
      (λ (y : has_role pos_role w ≡ false).
      ⊎_elim
      (λ (z : has_role qty_role w ≡ true).
      let g = qty-form w n z in rw (g.0, g.1) (qty-same _ _ _ (sym (h.amount z))))
      (λ (z : has_role qty_role w ≡ false). rw (h.said y z) refl)
      (bool_cases (has_role qty_role w)))
      (bool_cases (has_role pos_role w))

  elements_same : s.others ≡ false → (p : Period) → element_fits kind p w t ≡ true → element_fits kind p w s ≡ true
  unfolding element_fits
  elements_same plain p k =
      let a = (and-eq-true_iff (attributes_agree kind w t) _).0 k in
      (and-eq-true_iff (attributes_agree kind w s) _).1
      (attributes-same kind w s t h plain a.0, rw (sym (root-same kind w s t h), sym (scheme-same w s t h), sym (value_same p)) a.1)

  tag-alike : s.others ≡ false → TagAlike kind w t s
  tag-alike plain =
      record {
        fits = elements_same plain;
        period = λ y. sym (neither (rw y at (told w n).3));
        position = λ y. sym (h.position y);
        identification = λ y. sym (neither (rw y at (told w n).2));
      }

-- ---- a content

-- no tag of a content has others
unfoldable Plain : Trees TagSaid → Type 0
Plain none = Unit {0}
Plain (element r s i a) = (s.others ≡ false) × Plain i × Plain a

trees-alike : (kind : ℕ) (rows : List ℕ) → every_in rows ≡ true → (c e : Trees TagSaid) → TreesHave rows c e → Plain c → TreesAlike kind rows e c
unfolding TreesHave TreesAlike Plain
trees-alike kind rows n none none h k = tt
trees-alike kind rows n none (element q t j b) h k = absurd h
trees-alike kind rows n (element r s i a) none h k = absurd h
trees-alike kind rows n (element r s i a) (element q t j b) h k =
    let l : TagAlike kind (get_or rows r 0) t s = tag-alike kind (get_or rows r 0) s t h.1 (row_in rows n r) k.0 in
    (sym h.0, subst (λ (x : ℕ). TagAlike kind (get_or rows x 0) t s) h.0 l, trees-alike kind rows n i j h.2 k.1, trees-alike kind rows n a b h.3 k.2)

module _ (d : Draft) (rows : List ℕ) where
  plain-singles : (behind : Trees TagSaid) → Plain behind → (q k : ℕ) (ws : List ℕ) → Plain (singles d q k ws behind)
  unfolding singles Plain single_tag
  plain-singles behind b q k [] = b
  plain-singles behind b q k (w ∷ ws) = by (asks_v w) (is_said (single_tag d w k)) refl refl (plain-singles behind b (suc q) (k + values_of w) ws)
    where
      rest : Trees TagSaid
      rest = singles d (suc q) (k + values_of w) ws behind

      by : (a s : Bool) → asks_v w ≡ a → is_said (single_tag d w k) ≡ s → Plain rest
          → Plain (cond (asks_v w) (cond (is_said (single_tag d w k)) (element q (single_tag d w k) none rest) rest) behind)
      by false s y z ih = rw y b
      by true true y z ih = rw (y, z) (refl, tt, ih)
      by true false y z ih = rw (y, z) ih

  plain-intervals : (q j n : ℕ) → Plain (intervals_from d q j n)
  unfolding intervals_from Plain bare_tag number_tag
  plain-intervals q j zero = tt
  plain-intervals q j (suc n) = (refl, (refl, tt, (refl, tt, tt)), plain-intervals q (suc j) n)

  plain-period : (i : ℕ) → Plain (period_tree d rows i)
  unfolding period_tree singles_in Plain bare_tag
  plain-period i = (refl, plain-singles _ (plain-intervals _ _ _) _ _ _, tt)

  plain-series : (i n : ℕ) → Plain (series_from d rows i n)
  unfolding series_from singles_in Plain bare_tag
  plain-series i zero = tt
  plain-series i (suc n) = (refl, plain-singles _ (plain-period i) _ _ _, plain-series (suc i) n)

plain-draft : (d : Draft) → Plain (draft_content d)
unfolding draft_content singles_in Plain root_tag
plain-draft d = (refl, plain-singles d (rows_of d.kind) _ (plain-series d (rows_of d.kind) 0 d.count) _ _ _, tt)

-- "refuses exactly when no document .. would be accepted with the given content": another content that has it is legal only where the draft's own is
pub none_other : (d : Draft) (c : Trees TagSaid) → is_written d.kind ≡ true → HasGiven d c → Legal d.kind c → Legal d.kind (draft_content d)
none_other d c kind h l =
    let k = two-kinds d.kind kind in
    legal-alike d.kind c (draft_content d) k.1 (trees-alike d.kind (rows_of d.kind) k.0 (draft_content d) c h (plain-draft d)) l

-- and the draft's own has it
have-itself : (rows : List ℕ) (c : Trees TagSaid) → TreesHave rows c c
unfolding TreesHave
have-itself rows none = tt
have-itself rows (element r s i a) = (
  refl,
  record {
    version = record { there = refl; said = refl };
    release = record { there = refl; said = refl };
    message = record { there = refl; said = refl };
    scheme = record { there = refl; said = refl };
    there = refl;
    said = λ y z. refl;
    position = λ y. refl;
    amount = λ y. refl;
  },
  have-itself rows i,
  have-itself rows a,
)

pub has-given : (d : Draft) → HasGiven d (draft_content d)
has-given d = have-itself (rows_of d.kind) (draft_content d)
