-- A start, an end and any other item: the number that the reader refuses it with is that of the first clause that holds. Assumes nothing.
use Prim.Native.Nat.{ℕ, ◌-◌}
use mathlib.Core.Path.{◌≡◌, refl, sym, ap, ◌∙◌}
use mathlib.Core.List.{List, [], ◌∷◌, ◌++◌}
use mathlib.Core.Bool.{Bool, true, false, cond, ◌&&◌, not}
use mathlib.Core.Logic.{◌⊎◌, inl, inr, ⊎_elim}
use native.Mathlib.Omega.{arith}
use lib.Dec.{eqb}
use lib.ListN.{get_or, length}
use borrow.Author.Tests.{eqb-true}
use Rattle.lists.proofs.Cases.{bool_cases, by_cond}
use Rattle.slices.specs.declared.Span.{Span}
use Rattle.columns.specs.Columns.{form_of, role_of, no_form, root_role, period_role, series_id_role, series_role, interval_role, object_role, business_role, pos_role, qty_role, direction_role, area_role, period_form}
use Rattle.items.specs.Parts.{span_of}
use Rattle.items.specs.declared.Tag.{Tag}
use Rattle.items.specs.declared.Item.{Item}
use Rattle.rules.specs.Rules.{refused}
use Rattle.rules.specs.Judged.{Judged}
use Rattle.states.specs.Attributes.{attributes_fit}
use Rattle.states.specs.Moves.{cut_short, too_many, no_room, values_judged, judged_at, at_row, one_series, one_interval, one_original, last_pos, covering, kept, entered, entry_of, started_by}
use Rattle.states.specs.Constraints.{noticed}
use Rattle.states.specs.declared.State.{State}
use Rattle.states.specs.declared.Room.{Room}
use Rattle.states.specs.declared.Entry.{Entry}
use Rattle.states.specs.Step.{Step, Next, Refused}
use Rattle.reader.specs.Rows.{used_in, used_with, brought_by, used_before}
use Rattle.reader.specs.Reading.{without_used}
use Rattle.faults.specs.Faults.{Clause, when, start_clauses}
use Rattle.faults.proofs.Clauses.{first_held}
use Rattle.faults.proofs.Steps.{value_clauses, values_same}

-- the number of a step, 0 for none
abbrev pub refusal_in : Step → ℕ
refusal_in (Next st e) = 0
refusal_in (Refused n) = n

-- ---- what was used before

module _ (doc table : List ℕ) (span : Span) (s : List ℕ) (m : ℕ) where
  abbrev NotUsed : Entry → Type 0
  NotUsed e = used_before doc table span s m e ≡ false

  -- no other element brings an identification
  not-used : (role p : ℕ) → eqb role series_id_role ≡ false → NotUsed (entry_of role p)
  unfolding entry_of used_before used_with brought_by used_in
  not-used role p e =
      rw e
      (by_cond NotUsed (eqb role series_role) refl
      (by_cond NotUsed (eqb role interval_role) refl
      (by_cond NotUsed (eqb role object_role) refl
      (by_cond NotUsed (eqb role business_role) refl
      (by_cond NotUsed (eqb role pos_role) refl
      (by_cond NotUsed (eqb role qty_role) refl
      (by_cond NotUsed (eqb role direction_role) refl
      (by_cond NotUsed (eqb role area_role) refl refl))))))))

-- the element that brings one leaves the count of series
series-kept : (x : State) (kind r w : ℕ) (j : Judged) (within : Bool) → role_of w ≡ series_id_role → (entered x kind r w j within).series ≡ x.series
unfolding entered kept at_row covering
series-kept x kind r w j within e =
    rw e (⊎_elim (λ (y : eqb (form_of w) period_form ≡ true). rw y) (λ (y : eqb (form_of w) period_form ≡ false). rw y) (bool_cases (eqb (form_of w) period_form)))

-- what it brings is the same, whatever it says
entry-id : (p : ℕ) → entry_of series_id_role p ≡ entry_of series_id_role 0
unfolding entry_of
entry-id p = refl

used-same : (doc table : List ℕ) (span : Span) (s : List ℕ) (x : State) (kind r w : ℕ) (j : Judged) (within : Bool) (p : ℕ)
    → used_before doc table span s (entered x kind r w j within).series (entry_of (role_of w) p) ≡ used_before doc table span s x.series (entry_of (role_of w) 0)
used-same doc table span s x kind r w j within p =
    ⊎_elim
    (λ (y : eqb (role_of w) series_id_role ≡ true). id (eqb-true (role_of w) series_id_role y))
    (λ (y : eqb (role_of w) series_id_role ≡ false).
    not-used doc table span s (entered x kind r w j within).series (role_of w) p y ∙ sym (not-used doc table span s x.series (role_of w) 0 y))
    (bool_cases (eqb (role_of w) series_id_role))
  where
    same-entry : (role p : ℕ) → role ≡ series_id_role → entry_of role p ≡ entry_of role 0
    same-entry role p e = rw e (entry-id p)

    id : role_of w ≡ series_id_role
        → used_before doc table span s (entered x kind r w j within).series (entry_of (role_of w) p) ≡ used_before doc table span s x.series (entry_of (role_of w) 0)
    id e = rw (series-kept x kind r w j within e) (ap (λ (y : Entry). used_before doc table span s x.series y) (same-entry (role_of w) p e))

-- ---- one clause more

abbrev Above : List Clause → Type 0
Above [] = Unit {0}
Above (c ∷ cs) = (eqb c.number 0 ≡ false) × Above cs

one-more : (cs : List Clause) (c : Clause) → Above cs → first_held (cs ++ (c ∷ [])) ≡ cond (eqb (first_held cs) 0) (cond c.holds c.number 0) (first_held cs)
one-more [] c a = refl
one-more (d ∷ cs) c a =
    ⊎_elim (λ (y : d.holds ≡ true). rw (y, a.0)) (λ (y : d.holds ≡ false). rw y (one-more cs c a.1)) (bool_cases d.holds)

-- ---- a start whose row is due

module _ (x : State) (kind : ℕ) (rows : List ℕ) (r w : ℕ) (t : Tag) (s : List ℕ) (empty : Bool) (room : Room) where
  -- the clauses of 3 to 8
  abbrev to_eight : List Clause
  to_eight =
      when 3 (cut_short empty rows r) ∷
      when 3 (too_many x (role_of w) kind) ∷
      when 4 (no_room x (role_of w) room) ∷
      when 5 (not (attributes_fit kind w t)) ∷
      value_clauses x kind w t s

  abbrev J : Judged
  J = judged_at x kind rows r w t s empty room

  judged-same : (role_of w ≡ period_role → form_of w ≡ no_form) → J.number ≡ first_held to_eight
  unfolding judged_at
  judged-same quiet =
      by (cut_short empty rows r) (too_many x (role_of w) kind) (no_room x (role_of w) room)
      (cond (attributes_fit kind w t) (values_judged x kind w t s) (refused 5))
      (⊎_elim
      (λ (y : attributes_fit kind w t ≡ true). rw y (values_same x kind w t s y quiet))
      (λ (y : attributes_fit kind w t ≡ false). rw y)
      (bool_cases (attributes_fit kind w t)))
    where
      by : (a b c : Bool) (j : Judged) {n : ℕ} → j.number ≡ n
          → (cond a (refused 3) (cond b (refused 3) (cond c (refused 4) j))).number ≡ cond a 3 (cond b 3 (cond c 4 n))
      by true b c j e = refl
      by false true c j e = refl
      by false false true j e = refl
      by false false false j e = e

module _ (doc table : List ℕ) (x : State) (kind : ℕ) (rows : List ℕ) (r w : ℕ) (item : Item) (t : Tag) (s : List ℕ) (empty : Bool) (room : Room) where
  abbrev nine : Bool
  nine = used_before doc table t.v s x.series (entry_of (role_of w) 0)

  started-number : (j : Judged) → span_of item ≡ t.v
      → refusal_in (without_used doc table item s (started_by x kind r w empty j)) ≡ cond (eqb j.number 0) (cond nine 9 0) j.number
  unfolding started_by without_used
  started-number j e =
      ⊎_elim
      (λ (y : eqb j.number 0 ≡ true).
      rw (y, e)
      (by (used_before doc table t.v s (entered x kind r w j (not empty)).series (entry_of (role_of w) j.first))
      (entered x kind r w j (not empty)) (entry_of (role_of w) j.first)
      (used-same doc table t.v s x kind r w j (not empty) j.first)))
      (λ (y : eqb j.number 0 ≡ false). rw y)
      (bool_cases (eqb j.number 0))
    where
      by : (b : Bool) {c : Bool} (st : State) (en : Entry) → b ≡ c → refusal_in (cond b (Refused 9) (Next st en)) ≡ cond c 9 0
      by true st en q = rw (sym q)
      by false st en q = rw (sym q)

  pub start-same : span_of item ≡ t.v → (role_of w ≡ period_role → form_of w ≡ no_form)
      → refusal_in (without_used doc table item s (started_by x kind r w empty (judged_at x kind rows r w t s empty room)))
      ≡ first_held (start_clauses doc table room x kind rows r w t.v t s empty)
  unfolding start_clauses
  start-same e quiet =
      started-number (J x kind rows r w t s empty room) e
      ∙ ap (λ (n : ℕ). cond (eqb n 0) (cond nine 9 0) n) (judged-same x kind rows r w t s empty room quiet)
      ∙ sym (one-more (to_eight x kind rows r w t s empty room) (when 9 nine) (refl, (refl, (refl, (refl, (refl, (refl, (refl, (refl, (refl, (refl, (refl, tt))))))))))))
