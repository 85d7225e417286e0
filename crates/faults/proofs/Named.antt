-- Every item: the number that the reader refuses it with is that of the first clause that holds. Assumes nothing.
use Prim.Native.Nat.{ℕ, suc, ◌-◌, ◌≤◌, ◌<◌}
use mathlib.Core.Path.{◌≡◌, refl, sym, ap, ◌∙◌}
use mathlib.Core.List.{List, [], ◌∷◌}
use mathlib.Core.Bool.{Bool, true, false, cond, ◌&&◌, not}
use mathlib.Core.Logic.{◌⊎◌, inl, inr, ⊎_elim}
use native.Mathlib.Omega.{arith}
use lib.Dec.{eqb, ltb}
use lib.ListN.{get_or, length, get_or-eq_default}
use borrow.Author.Tests.{eqb-true, eq-eqb, ltb-true, ltb-false}
use Rattle.std.specs.Prelude.{Option, Some, None}
use Rattle.lists.proofs.Cases.{bool_cases, eqb-cases, by_cond}
use Rattle.slices.specs.Same.{same}
use Rattle.slices.specs.Part.{part_of}
use Rattle.elements.specs.Names.{names, number_in, element_no}
use Rattle.columns.specs.Columns.{form_of, role_of, no_form, root_role, period_role}
use Rattle.structure.specs.Rows.{start_of, end_of}
use Rattle.guideline.specs.Kinds.{kind_at, has_enough}
use Rattle.guideline.specs.Rows.{beschaffungsanforderung, kostenblatt, network_constraint_document, rows_of}
use Rattle.guideline.proofs.Each.{of-table, each_row, row_of}
use Rattle.items.specs.Parts.{span_of}
use Rattle.items.specs.declared.Tag.{Tag}
use Rattle.items.specs.declared.Item.{Item}
use Rattle.items.specs.declared.Item.TheVariants.{Start, Empty, End, Text, Comment, Unreadable}
use Rattle.states.specs.Constraints.{lacking}
use Rattle.states.specs.Moves.{entered, entry_of, started_by, started_at, started, start_judged, closed_at, count_refusal, lack_refusal, end_refusal, after_end_at, after_end, moved, kind_told, step}
use Rattle.states.specs.declared.State.{State}
use Rattle.states.specs.declared.Room.{Room}
use Rattle.states.specs.declared.Entry.{Entry}
use Rattle.states.specs.declared.Entry.TheVariants.{Nothing}
use Rattle.states.specs.Step.{Step, Next, Refused}
use Rattle.reader.specs.Items.{Placed}
use Rattle.reader.specs.Rows.{used_with, brought_by, used_before}
use Rattle.reader.specs.Reading.{without_used, step_of}
use Rattle.faults.specs.Faults.{Clause, when, start_clauses, start_faults, end_clauses, end_faults, faults_by, faults_of}
use Rattle.faults.proofs.Clauses.{first_held, Rising}
use Rattle.faults.proofs.Turns.{refusal_in, start-same}

-- ---- the row of a Period has no `v`

abbrev quiet_row : ℕ → ℕ → Bool
quiet_row i w = cond (eqb (role_of w) period_role) (eqb (form_of w) no_form) true

all_quiet : (kind : ℕ) → each_row quiet_row 0 (rows_of kind) ≡ true
unfolding rows_of beschaffungsanforderung kostenblatt network_constraint_document element_no number_in names same form_of role_of
all_quiet = of-table (each_row quiet_row 0) refl

no_row : (w : ℕ) → w ≡ 0 → role_of w ≡ period_role → form_of w ≡ no_form
unfolding role_of
no_row w z e = absurd (omega (arith, rw z at e))

quiet : (kind r : ℕ) → role_of (get_or (rows_of kind) r 0) ≡ period_role → form_of (get_or (rows_of kind) r 0) ≡ no_form
quiet kind r e =
    ⊎_elim
    (λ (y : ltb r (length (rows_of kind)) ≡ true).
    eqb-true (form_of (get_or (rows_of kind) r 0)) no_form
    (rw (eq-eqb (role_of (get_or (rows_of kind) r 0)) period_role e) at (row_of quiet_row (rows_of kind) (all_quiet kind) r (ltb-true r (length (rows_of kind)) y))))
    (λ (y : ltb r (length (rows_of kind)) ≡ false). no_row (get_or (rows_of kind) r 0) (get_or-eq_default (rows_of kind) 0 (ltb-false r (length (rows_of kind)) y)) e)
    (bool_cases (ltb r (length (rows_of kind))))

-- ---- an end tag

end-number : (period root enough full all constrained lacks : Bool) → (period ≡ true → root ≡ false)
    → ◌≡◌ {A = ℕ} (cond period (cond enough (cond full (cond all 0 8) 0) 3) (cond root (cond constrained (cond lacks 8 0) 0) 0))
    (cond (period && not enough) 3 (cond (period && (full && not all)) 8 (cond (root && (constrained && lacks)) 8 0)))
end-number false false enough full all c l h = refl
end-number false true enough full all false l h = refl
end-number false true enough full all true false h = refl
end-number false true enough full all true true h = refl
end-number true root false full all c l h = refl
end-number true root true false all c l h = rw (h refl)
end-number true root true true false c l h = refl
end-number true root true true true c l h = rw (h refl)

role-apart : (role : ℕ) → eqb role period_role ≡ true → eqb role root_role ≡ false
role-apart role e = rw (eqb-true role period_role e)

end_same : (x : State) (rows : List ℕ) (r : ℕ) → end_refusal x rows r ≡ first_held (end_clauses x (get_or rows r 0))
unfolding end_refusal count_refusal lack_refusal end_clauses
end_same x rows r =
    let role = role_of (get_or rows r 0) in
    end-number (eqb role period_role) (eqb role root_role) (has_enough x.kind (x.intervals - x.first)) (kind_at x.kind).full
    (eqb (x.intervals - x.first) x.quarters) (kind_at x.kind).constrained (lacking x.seen x.series) (role-apart role)

module _ (doc table : List ℕ) (item : Item) (s : List ℕ) where
  -- what brings nothing was not used before
  nothing-used : (st : State) → refusal_in (without_used doc table item s (Next st Nothing)) ≡ 0
  unfolding without_used used_before used_with brought_by
  nothing-used st = refl

  refused-number : (n : ℕ) → refusal_in (without_used doc table item s (Refused n)) ≡ n
  unfolding without_used
  refused-number n = refl

  end_by : (n : ℕ) (st : State) → refusal_in (without_used doc table item s (cond (eqb n 0) (Next st Nothing) (Refused n))) ≡ n
  end_by n st =
      ⊎_elim
      (λ (y : eqb n 0 ≡ true). rw y (nothing-used st ∙ sym (eqb-true n 0 y)))
      (λ (y : eqb n 0 ≡ false). rw y (refused-number n))
      (bool_cases (eqb n 0))

  ended : (x : State) (rows : List ℕ) (d : Option ℕ) → refusal_in (without_used doc table item s (after_end_at x rows d)) ≡ first_held (end_faults x rows d)
  unfolding after_end_at end_faults end_clauses
  ended x rows None = refused-number 3
  ended x rows (Some r) =
      end_by (end_refusal x rows r) (closed_at x r) ∙ end_same x rows r

-- ---- any item

module _ (doc table : List ℕ) (room : Room) (x : State) (kind : ℕ) (s : List ℕ) where
  begins : (item : Item) (t : Tag) (empty : Bool) → span_of item ≡ t.v → (d : Option ℕ)
      → refusal_in (without_used doc table item s (started_at x kind (rows_of kind) t s empty room d)) ≡ first_held (start_faults doc table room x kind (rows_of kind) t.v t s empty d)
  unfolding started_at start_judged start_faults
  begins item t empty e None = refused-number doc table item s 3
  begins item t empty e (Some r) = start-same doc table x kind (rows_of kind) r (get_or (rows_of kind) r 0) item t s empty room e (quiet kind r)

  moved_same : (item : Item) → refusal_in (without_used doc table item s (moved x kind (rows_of kind) item s room)) ≡ first_held (faults_by doc table room x kind (rows_of kind) item s)
  unfolding moved started after_end faults_by span_of
  moved_same (Start t) = begins (Start t) t false refl (start_of (rows_of kind) x.row x.inside (element_no (part_of s 1 t.name)))
  moved_same (Empty t) = begins (Empty t) t true refl (start_of (rows_of kind) x.row x.inside (element_no (part_of s 1 t.name)))
  moved_same (End n e) = ended doc table (End n e) s x (rows_of kind) (end_of (rows_of kind) x.row x.inside (element_no (part_of s 2 n)))
  moved_same (Text true e) = nothing-used doc table (Text true e) s x
  moved_same (Text false e) = refused-number doc table (Text false e) s 3
  moved_same (Comment e) = nothing-used doc table (Comment e) s x
  moved_same (Unreadable p) = refused-number doc table (Unreadable p) s 2

pub step_same : (doc table : List ℕ) (room : Room) (p : Placed) (x : State) → refusal_in (step_of doc table room p x) ≡ first_held (faults_of doc table room p x)
unfolding step_of step faults_of
step_same doc table room p x = moved_same doc table room x (kind_told x p.item p.rest) p.rest p.item

-- ---- a refusal has a number

abbrev pub Numbered : Step → Type 0
Numbered (Next x e) = Unit {0}
Numbered (Refused n) = n ≡ 0 → ⊥

by_number : (n : ℕ) (x : State) (e : Entry) → Numbered (cond (eqb n 0) (Next x e) (Refused n))
by_number n x e = ⊎_elim (λ (y : (n ≡ 0) × (eqb n 0 ≡ true)). rw y.1 tt) (λ (y : (n ≡ 0 → ⊥) × (eqb n 0 ≡ false)). rw y.1 y.0) (eqb-cases n 0)

used-numbered : (doc table : List ℕ) (item : Item) (s : List ℕ) (o : Step) → Numbered o → Numbered (without_used doc table item s o)
unfolding without_used
used-numbered doc table item s (Next x e) h = by_cond Numbered (used_before doc table (span_of item) s x.series e) (λ z. omega (arith, z)) tt
used-numbered doc table item s (Refused n) h = h

module _ (x : State) (kind : ℕ) (rows s : List ℕ) (room : Room) where
  begins-numbered : (t : Tag) (empty : Bool) (d : Option ℕ) → Numbered (started_at x kind rows t s empty room d)
  unfolding started_at started_by
  begins-numbered t empty None = λ z. omega (arith, z)
  begins-numbered t empty (Some r) =
      let j = start_judged x kind rows r t s empty room in
      by_number j.number (entered x kind r (get_or rows r 0) j (not empty)) (entry_of (role_of (get_or rows r 0)) j.first)

  ended-numbered : (d : Option ℕ) → Numbered (after_end_at x rows d)
  unfolding after_end_at
  ended-numbered None = λ z. omega (arith, z)
  ended-numbered (Some r) = by_number (end_refusal x rows r) (closed_at x r) Nothing

  moved-numbered : (item : Item) → Numbered (moved x kind rows item s room)
  unfolding moved started after_end
  moved-numbered (Start t) = begins-numbered t false (start_of rows x.row x.inside (element_no (part_of s 1 t.name)))
  moved-numbered (Empty t) = begins-numbered t true (start_of rows x.row x.inside (element_no (part_of s 1 t.name)))
  moved-numbered (End n e) = ended-numbered (end_of rows x.row x.inside (element_no (part_of s 2 n)))
  moved-numbered (Text true e) = tt
  moved-numbered (Text false e) = λ z. omega (arith, z)
  moved-numbered (Comment e) = tt
  moved-numbered (Unreadable p) = λ z. omega (arith, z)

pub step-numbered : (doc table : List ℕ) (room : Room) (p : Placed) (x : State) → Numbered (step_of doc table room p x)
unfolding step_of step
step-numbered doc table room p x =
    let kind = kind_told x p.item p.rest in
    used-numbered doc table p.item p.rest (moved x kind (rows_of kind) p.item p.rest room) (moved-numbered x kind (rows_of kind) p.rest room p.item)

-- ---- the clauses come in the order of their numbers

start-rising : (doc table : List ℕ) (room : Room) (x : State) (kind : ℕ) (rows : List ℕ) (s : List ℕ) (t : Tag) (empty : Bool) (d : Option ℕ)
    → Rising 2 (start_faults doc table room x kind rows t.v t s empty d)
unfolding start_faults start_clauses
start-rising doc table room x kind rows s t empty None = (omega arith, tt)
start-rising doc table room x kind rows s t empty (Some r) =
    (omega arith, (omega arith, (omega arith, (omega arith, (omega arith, (omega arith, (omega arith, (omega arith, (omega arith, (omega arith, (omega arith, (omega arith, tt))))))))))))

end-rising : (x : State) (rows : List ℕ) (d : Option ℕ) → Rising 2 (end_faults x rows d)
unfolding end_faults end_clauses
end-rising x rows None = (omega arith, tt)
end-rising x rows (Some r) = (omega arith, (omega arith, (omega arith, tt)))

all-rising : (doc table : List ℕ) (room : Room) (x : State) (kind : ℕ) (rows s : List ℕ) (item : Item) → Rising 2 (faults_by doc table room x kind rows item s)
unfolding faults_by
all-rising doc table room x kind rows s (Start t) = start-rising doc table room x kind rows s t false (start_of rows x.row x.inside (element_no (part_of s 1 t.name)))
all-rising doc table room x kind rows s (Empty t) = start-rising doc table room x kind rows s t true (start_of rows x.row x.inside (element_no (part_of s 1 t.name)))
all-rising doc table room x kind rows s (End n e) = end-rising x rows (end_of rows x.row x.inside (element_no (part_of s 2 n)))
all-rising doc table room x kind rows s (Text w e) = (omega arith, tt)
all-rising doc table room x kind rows s (Comment e) = tt
all-rising doc table room x kind rows s (Unreadable p) = (omega arith, tt)

pub faults-rising : (doc table : List ℕ) (room : Room) (p : Placed) (x : State) → Rising 2 (faults_of doc table room p x)
unfolding faults_of
faults-rising doc table room p x =
    all-rising doc table room x (kind_told x p.item p.rest) (rows_of (kind_told x p.item p.rest)) p.rest p.item
