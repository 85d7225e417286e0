-- One item: the number that the reader refuses it with is the first clause that holds of it. Assumes nothing.
use Prim.Native.Nat.{ℕ, ◌-◌, ◌<◌}
use mathlib.Core.Path.{◌≡◌, refl, sym, ap, ◌∙◌}
use mathlib.Core.List.{List, [], ◌∷◌, ◌++◌}
use mathlib.Core.Bool.{Bool, true, false, cond, ◌&&◌, not}
use mathlib.Core.Logic.{◌⊎◌, inl, inr, ⊎_elim}
use native.Mathlib.Omega.{arith}
use lib.Dec.{eqb, leb}
use lib.ListN.{get_or}
use borrow.Author.Tests.{eqb-true, eqb-false, ne_eqb}
use Rattle.lists.proofs.Cases.{bool_cases, by_cond, both_true, eqb-cases, never}
use Rattle.slices.specs.Part.{part_of}
use Rattle.slices.specs.declared.Span.{Span}
use Rattle.characters.specs.Says.{says}
use Rattle.trims.specs.Trim.{dropped}
use Rattle.columns.specs.Columns.{form_of, scheme_of, role_of, no_form, no_scheme, by_list, root_role, period_role}
use Rattle.codes.specs.Lists.{listed, codes_of}
use Rattle.items.specs.declared.Tag.{Tag}
use Rattle.items.specs.declared.Item.{Item}
use Rattle.std.specs.Prelude.{Option, Some, None}
use Rattle.times.specs.Times.{interval}
use Rattle.numbers.specs.Number.{number_of}
use Rattle.forms.specs.Forms.{quarter_hour}
use Rattle.rules.specs.Rules.{unless, form_refusal, period_fits, position_fits, judge_period_by, judge_period, judge_interval_by, judge_interval, judge_position_by, judge_position, judge, refused}
use Rattle.rules.specs.declared.Held.{Held}
use Rattle.rules.specs.Judged.{Judged}
use Rattle.states.specs.Attributes.{there, agree, asks_v, asks_scheme, attributes_fit, said_in, scheme_refusal, least, also_scheme, dtd_fixed, judge_tag}
use Rattle.states.specs.Moves.{held_of, half_originals, against_others, beside_others, values_judged}
use Rattle.states.specs.Constraints.{against}
use Rattle.states.specs.declared.State.{State}
use Rattle.faults.specs.Faults.{Clause, when, has_value, value_number, value_code, scheme_outside}
use Rattle.faults.proofs.Clauses.{first_held}

-- ---- a value is refused with 6, 7 or 8, or not at all

module _ (P : ℕ → Type 0) (none : P 0) (six : P 6) (seven : P 7) (eight : P 8) where
  unless-by : (n : ℕ) (t : Bool) → P n → P (unless n t)
  unfolding unless
  unless-by n t h = by_cond P t none h

  form-by : (form : ℕ) (cs : List ℕ) → P (form_refusal form cs)
  unfolding form_refusal
  form-by form cs =
      by_cond P (eqb form 1) (unless-by 6 _ six)
      (by_cond P (eqb form 2) (unless-by 6 _ six)
      (by_cond P (eqb form 3) (unless-by 6 _ six)
      (by_cond P (eqb form 4) (unless-by 6 _ six)
      (by_cond P (eqb form 5) (unless-by 6 _ six)
      (by_cond P (eqb form 10) (unless-by 6 _ six)
      (by_cond P (eqb form 11) (unless-by 6 _ six)
      (by_cond P (eqb form 12) (unless-by 6 _ six)
      (by_cond P (eqb form 13) (unless-by 6 _ six)
      (by_cond P (leb 32 form) (unless-by 7 _ seven) none)))))))))

  abbrev By : Judged → Type 0
  By j = P j.number

  period-by : (kind : ℕ) (i : Option (ℕ × ℕ)) → By (judge_period_by kind i)
  unfolding judge_period_by
  period-by kind (Some (from, to)) = by_cond By (period_fits kind from to) none eight
  period-by kind None = six

  interval-by : (from to : ℕ) (i : Option (ℕ × ℕ)) → By (judge_interval_by from to i)
  unfolding judge_interval_by
  interval-by from to (Some (a, b)) = by_cond By (eqb a from) (by_cond By (eqb b to) none eight) eight
  interval-by from to None = six

  position-by : (kind quarters last : ℕ) (n : Option ℕ) → By (judge_position_by kind quarters last n)
  unfolding judge_position_by
  position-by kind quarters last (Some p) = by_cond By (position_fits kind quarters last p) none eight
  position-by kind quarters last None = six

  pub judge-by : (form : ℕ) (h : Held) (cs : List ℕ) → By (judge form h cs)
  unfolding judge judge_period judge_interval judge_position
  judge-by form h cs =
      by_cond By (eqb form 6) (period-by h.kind (interval cs))
      (by_cond By (eqb form 7) (interval-by h.from h.to (interval cs))
      (by_cond By (eqb form 8) (unless-by 8 (quarter_hour cs) eight)
      (by_cond By (eqb form 9) (position-by h.kind h.quarters h.last (number_of cs 5))
      (form-by form cs))))

-- ---- the values of a tag whose attributes fit

-- of an attribute that is asked for
asked-there : (wanted g : Bool) → agree wanted g ≡ true → wanted ≡ true → g ≡ true
unfolding agree
asked-there wanted g h e = rw e at h

not-asked : (wanted g : Bool) → agree wanted g ≡ true → g ≡ false → wanted ≡ false
unfolding agree
not-asked true g h e = never (sym e ∙ h)
not-asked false g h e = refl

-- the smaller of what `v` and codingScheme are refused with, and else what the series before ask
abbrev beside : ℕ → ℕ → Bool → ℕ
beside v c ag = cond (eqb (least v c) 0) (cond ag 8 (least v c)) (least v c)

-- the clauses of these numbers, in their order
abbrev in_order : ℕ → Bool → Bool → ℕ
in_order v c ag = cond (eqb v 6) 6 (cond (eqb v 7) 7 (cond c 7 (cond (eqb v 8) 8 (cond ag 8 0))))

abbrev Four : ℕ → Type 0
Four v = (v ≡ 0) ⊎ ((v ≡ 6) ⊎ ((v ≡ 7) ⊎ (v ≡ 8)))

beside-in-order : (v c : ℕ) (ag : Bool) → Four v → (c ≡ 0) ⊎ (c ≡ 7) → beside v c ag ≡ in_order v (eqb c 7) ag
unfolding least
beside-in-order v c ag (inl e) (inl f) = rw (e, f)
beside-in-order v c ag (inl e) (inr f) = rw (e, f)
beside-in-order v c ag (inr (inl e)) (inl f) = rw (e, f)
beside-in-order v c ag (inr (inl e)) (inr f) = rw (e, f)
beside-in-order v c ag (inr (inr (inl e))) (inl f) = rw (e, f)
beside-in-order v c ag (inr (inr (inl e))) (inr f) = rw (e, f)
beside-in-order v c ag (inr (inr (inr e))) (inl f) = rw (e, f)
beside-in-order v c ag (inr (inr (inr e))) (inr f) = rw (e, f)

four : (form : ℕ) (h : Held) (cs : List ℕ) → Four (judge form h cs).number
four form h cs = judge-by Four (inl refl) (inr (inl refl)) (inr (inr (inl refl))) (inr (inr (inr refl))) form h cs

abbrev Two : ℕ → Type 0
Two c = (c ≡ 0) ⊎ (c ≡ 7)

scheme-two : (w : ℕ) (c : Span) (s : List ℕ) → Two (scheme_refusal w c s)
unfolding scheme_refusal
scheme-two w c s = two (eqb (scheme_of w) no_scheme) (listed (codes_of (scheme_of w - by_list)) (dropped (says (part_of s c.start c.len))))
  where
    two : (a b : Bool) → Two (cond a 0 (cond b 0 7))
    two true b = inl refl
    two false true = inl refl
    two false false = inr refl

scheme-none : (w : ℕ) (c : Span) (s : List ℕ) → asks_scheme w ≡ false → scheme_refusal w c s ≡ 0
unfolding scheme_refusal asks_scheme
scheme-none w c s a =
    ⊎_elim (λ (y : eqb (scheme_of w) no_scheme ≡ true). rw y) (λ (y : eqb (scheme_of w) no_scheme ≡ false). never (sym (rw y at a))) (bool_cases (eqb (scheme_of w) no_scheme))

-- what is asked of the series before, beside a judgement
beside-number : (x : State) (kind role : ℕ) (j : Judged)
    → (beside_others x kind role j).number ≡ cond (eqb j.number 0) (cond (against_others x kind role j.first) 8 j.number) j.number
unfolding beside_others
beside-number x kind role j = by (eqb j.number 0) (against_others x kind role j.first)
  where
    by : (a b : Bool) → (cond a (cond b (refused 8) j) j).number ≡ cond a (cond b 8 j.number) j.number
    by true true = refl
    by true false = refl
    by false b = refl

-- a value and codingScheme together
judged : (j : Judged) (c : ℕ) (ag : Bool) → Four j.number → (c ≡ 0) ⊎ (c ≡ 7)
    → cond (eqb (also_scheme c j).number 0) (cond ag 8 (also_scheme c j).number) (also_scheme c j).number ≡ in_order j.number (eqb c 7) ag
unfolding also_scheme
judged j c ag f g = beside-in-order j.number c ag f g

-- the attributes that a row asks for are there, where they fit
module _ (kind w : ℕ) (t : Tag) (fit : attributes_fit kind w t ≡ true) where
  fits-v : agree (asks_v w) (there t.v) ≡ true
  unfolding attributes_fit
  fits-v = (both_true (agree (asks_v w) (there t.v)) fit).0

  fits-scheme : agree (asks_scheme w) (there t.coding) ≡ true
  unfolding attributes_fit
  fits-scheme = (both_true (agree (asks_scheme w) (there t.coding)) (both_true (agree (asks_v w) (there t.v)) fit).1).0

  has-value : eqb (role_of w) root_role ≡ false → eqb (form_of w) no_form ≡ false → has_value w t ≡ true
  unfolding has_value asks_v
  has-value r f = rw (r, f) (asked-there true (there t.v) (rw f at fits-v) refl)

  -- codingScheme is judged where it is there
  scheme-same : (s : List ℕ) → has_value w t ≡ true → scheme_outside w t s ≡ eqb (scheme_refusal w t.coding s) 7
  unfolding scheme_outside
  scheme-same s h = ⊎_elim (λ (y : there t.coding ≡ true). rw (h, y)) (λ (y : there t.coding ≡ false). rw (h, y) (none y)) (bool_cases (there t.coding))
    where
      none : there t.coding ≡ false → false ≡ eqb (scheme_refusal w t.coding s) 7
      none y = rw (scheme-none w t.coding s (not-asked (asks_scheme w) (there t.coding) fits-scheme y))

-- ---- the values of a start whose attributes fit

-- the clauses of 6, 7 and 8
abbrev pub value_clauses : State → ℕ → ℕ → Tag → List ℕ → List Clause
value_clauses x kind w t s =
    when 6 (eqb (role_of w) root_role && not (dtd_fixed kind t.dtd s)) ∷
    when 6 (eqb (value_number x kind w t s) 6) ∷
    when 7 (eqb (value_number x kind w t s) 7) ∷
    when 7 (scheme_outside w t s) ∷
    when 8 (eqb (value_number x kind w t s) 8) ∷
    when 8 (half_originals x (role_of w)) ∷
    when 8 (against_others x kind (role_of w) (value_code x kind w t s)) ∷ []

module _ (x : State) (kind w : ℕ) (t : Tag) (s : List ℕ) (fit : attributes_fit kind w t ≡ true) (quiet : role_of w ≡ period_role → form_of w ≡ no_form) where
  -- a row with a value
  with-value : eqb (role_of w) root_role ≡ false → eqb (form_of w) no_form ≡ false → (values_judged x kind w t s).number ≡ first_held (value_clauses x kind w t s)
  unfolding values_judged judge_tag value_number value_code half_originals also_scheme
  with-value r f =
      let j = judge (form_of w) (held_of x kind) (said_in w t.v s) in
      let c = scheme_refusal w t.coding s in
      let ag = against_others x kind (role_of w) j.first in
      let h = has-value kind w t fit r f in
      let q : eqb (role_of w) period_role ≡ false = ne_eqb (role_of w) period_role (λ e. eqb-false (form_of w) no_form f (quiet e)) in
      rw (q, r, f, h, scheme-same kind w t fit s h)
      (beside-number x kind (role_of w) (also_scheme c j) ∙ judged j c ag (four (form_of w) (held_of x kind) (said_in w t.v s)) (scheme-two w t.coding s))

  -- a row without one
  without-value : eqb (role_of w) root_role ≡ false → eqb (form_of w) no_form ≡ true → (values_judged x kind w t s).number ≡ first_held (value_clauses x kind w t s)
  unfolding values_judged judge_tag value_number value_code scheme_outside has_value
  without-value r f =
      rw (r, f)
      (⊎_elim
      (λ (y : half_originals x (role_of w) ≡ true). rw y)
      (λ (y : half_originals x (role_of w) ≡ false). rw y (beside-number x kind (role_of w) (refused 0)))
      (bool_cases (half_originals x (role_of w))))

  -- the root
  of-root : eqb (role_of w) root_role ≡ true → (values_judged x kind w t s).number ≡ first_held (value_clauses x kind w t s)
  unfolding values_judged judge_tag value_number value_code scheme_outside has_value half_originals against_others against held_of
  of-root r =
      let e : role_of w ≡ root_role = eqb-true (role_of w) root_role r in
      rw e
      (⊎_elim
      (λ (y : dtd_fixed kind t.dtd s ≡ true). rw y (beside-number x kind root_role (refused 0)))
      (λ (y : dtd_fixed kind t.dtd s ≡ false). rw y (beside-number x kind root_role (refused 6)))
      (bool_cases (dtd_fixed kind t.dtd s)))

  pub values_same : (values_judged x kind w t s).number ≡ first_held (value_clauses x kind w t s)
  values_same =
      ⊎_elim
      (λ (r : eqb (role_of w) root_role ≡ true). of-root r)
      (λ (r : eqb (role_of w) root_role ≡ false).
      ⊎_elim (λ (f : eqb (form_of w) no_form ≡ true). without-value r f) (λ (f : eqb (form_of w) no_form ≡ false). with-value r f) (bool_cases (eqb (form_of w) no_form)))
      (bool_cases (eqb (role_of w) root_role))
