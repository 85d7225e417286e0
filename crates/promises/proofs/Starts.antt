-- An item raises the count of series where it starts a series and that of intervals where it starts an Interval, and nowhere else. Assumes nothing.
use Prim.Native.Nat.{ℕ, ◌<◌}
use mathlib.Core.Path.{◌≡◌, refl, sym, ap, ◌∙◌}
use mathlib.Core.List.{List}
use mathlib.Core.Bool.{Bool, true, false, cond, not}
use mathlib.Core.Logic.{⊎_elim}
use lib.Dec.{eqb}
use lib.ListN.{get_or, length}
use Rattle.std.specs.Prelude.{Option, Some, None}
use Rattle.lists.proofs.Cases.{by_cond, bool_cases, eqb-cases}
use Rattle.slices.specs.Same.{same}
use Rattle.slices.specs.Part.{part_of}
use Rattle.elements.specs.Names.{names, number_in, element_no}
use Rattle.structure.specs.Rows.{name_of, start_of, end_of}
use Rattle.columns.specs.Columns.{form_of, role_of}
use Rattle.guideline.specs.Kinds.{kind_one, kind_two, kind_three, kind_of, series_element}
use Rattle.guideline.specs.Rows.{rows_of}
use Rattle.guideline.proofs.Each.{kind-some}
use Rattle.items.specs.declared.Tag.{Tag}
use Rattle.items.specs.declared.Item.{Item}
use Rattle.items.specs.declared.Item.TheVariants.{Start, Empty, End, Text, Comment, Unreadable}
use Rattle.rules.specs.Judged.{Judged}
use Rattle.states.specs.Moves.{one_more, at_row, one_series, one_interval, one_original, last_pos, covering, kept, entered, start_judged, started_by, started_at, started, closed_at, end_refusal, after_end_at, after_end, moved, root_kind, kind_told, step}
use Rattle.states.specs.Constraints.{noticed}
use Rattle.states.specs.declared.State.{State}
use Rattle.states.specs.declared.Room.{Room}
use Rattle.states.specs.Step.{Step, Next, Refused}
use Rattle.promises.specs.Items.{started_in, interval_element}
use Rattle.promises.proofs.Marks.{due-within, due-named, table, due-known}
use Rattle.promises.proofs.Steps.{by_eqb, kept-keeps}

-- a count that rises where the item starts this element
abbrev pub raised : ℕ → ℕ → ℕ → ℕ
raised name element n = cond (eqb name element) (one_more n) n

-- the kind, which the root tells
abbrev pub kind_after : ℕ → ℕ → ℕ
kind_after name kind = cond (eqb kind 0) (kind_of name) kind

-- `name` is the element that the item starts; k is the kind that a later item tells, or y's own
pub record Raised (name : ℕ) (x y : State) : Type 0 where
  pub kind : y.kind ≡ kind_after name x.kind
  pub series : (k : ℕ) → ((y.kind ≡ 0 → ⊥) → k ≡ y.kind) → y.series ≡ raised name (series_element k) x.series
  pub intervals : y.intervals ≡ raised name interval_element x.intervals

abbrev pub Raises : ℕ → State → Step → Type 0
Raises name x (Next y e) = Raised name x y
Raises name x (Refused n) = Unit {0}

kept-series-is : (x : State) (w : ℕ) (j : Judged) → (kept x w j).series ≡ cond (eqb (role_of w) 2) (one_more x.series) x.series
unfolding kept one_series one_interval one_original last_pos covering
kept-series-is x w j =
    let P : State → Type 0 = λ (y : State). y.series ≡ x.series in
    let rest =
    by_cond P (eqb (role_of w) 3) {a = last_pos x 0} refl
    (by_cond P (eqb (role_of w) 4) {a = one_interval x} refl
    (by_cond P (eqb (role_of w) 5) {a = one_original x} refl
    (by_cond P (eqb (role_of w) 9) {a = last_pos x j.first} refl
    (by_cond P (eqb (form_of w) 6) {a = covering x j.first j.second} {b = x} refl refl)))) in
    ⊎_elim
    (λ (y : eqb (role_of w) 2 ≡ true). rw y refl)
    (λ (y : eqb (role_of w) 2 ≡ false). rw y rest)
    (bool_cases (eqb (role_of w) 2))

kept-intervals-is : (x : State) (w : ℕ) (j : Judged) → (kept x w j).intervals ≡ cond (eqb (role_of w) 4) (one_more x.intervals) x.intervals
unfolding kept one_series one_interval one_original last_pos covering
kept-intervals-is x w j =
    let P : State → Type 0 = λ (y : State). y.intervals ≡ cond (eqb (role_of w) 4) (one_more x.intervals) x.intervals in
    ⊎_elim
    (λ (y : (role_of w ≡ 4) × (eqb (role_of w) 4 ≡ true)). rw y.0 refl)
    (λ (y : (role_of w ≡ 4 → ⊥) × (eqb (role_of w) 4 ≡ false)).
    let s : x.intervals ≡ cond (eqb (role_of w) 4) (one_more x.intervals) x.intervals = rw y.1 refl in
    by_cond P (eqb (role_of w) 2) {a = one_series x} s
    (by_cond P (eqb (role_of w) 3) {a = last_pos x 0} s
    (by_eqb P (role_of w) 4 {u = one_interval x} (λ e. absurd (y.0 e))
    (by_cond P (eqb (role_of w) 5) {a = one_original x} s
    (by_cond P (eqb (role_of w) 9) {a = last_pos x j.first} s
    (by_cond P (eqb (form_of w) 6) {a = covering x j.first j.second} {b = x} s s))))))
    (eqb-cases (role_of w) 4)

-- an item that starts nothing
none-series : (k n : ℕ) → raised 0 (series_element k) n ≡ n
unfolding series_element element_no number_in names same
none-series k n =
    let z : eqb 0 (series_element k) ≡ false =
    by_cond (λ (m : ℕ). eqb 0 m ≡ false) (eqb k 1) refl (by_cond (λ (m : ℕ). eqb 0 m ≡ false) (eqb k 2) refl (by_cond (λ (m : ℕ). eqb 0 m ≡ false) (eqb k 3) refl refl)) in
    rw z refl

none-interval : (n : ℕ) → raised 0 interval_element n ≡ n
unfolding interval_element element_no number_in names same
none-interval n = refl

none-kind : (kind : ℕ) → kind ≡ kind_after 0 kind
unfolding kind_of kind_one kind_two kind_three element_no number_in names same
none-kind kind = ⊎_elim (λ y. rw y.1 y.0) (λ y. rw y.1 refl) (eqb-cases kind 0)

unraised : (x y : State) → y.kind ≡ x.kind → y.series ≡ x.series → y.intervals ≡ x.intervals → Raised 0 x y
unraised x y a b c =
    record { kind = a ∙ none-kind x.kind; series = λ k _. b ∙ sym (none-series k x.series); intervals = c ∙ sym (none-interval x.intervals) }

module _ (x : State) (kind : ℕ) where
  abbrev rows : List ℕ
  rows = rows_of kind

  entered-raises : (r name : ℕ) → start_of rows x.row x.inside name ≡ Some r → kind ≡ kind_after name x.kind
      → (j : Judged) (within : Bool) → Raised name x (entered x kind r (get_or rows r 0) j within)
  unfolding entered at_row
  entered-raises r name e told j within =
      let known = due-known kind x.row x.inside name r e in
      let tab = table kind known in
      let w = get_or rows r 0 in
      let p = at_row x kind r within (noticed x.seen w j.first) in
      let k = kept-keeps p w j in
      let inside : r < length rows = due-within rows tab.rooted x.row name r x.inside e in
      let n : name_of w ≡ name = due-named rows tab.rooted x.row name r x.inside e in
      record {
        kind = k.kind ∙ told;
        series =
            λ l g.
            let q : l ≡ kind = g (λ z. kind-some kind known (sym k.kind ∙ z)) ∙ k.kind in
            kept-series-is p w j ∙ rw (q, ← n) (ap (λ (t : Bool). cond t (one_more x.series) x.series) (tab.series-named r inside));
        intervals = kept-intervals-is p w j ∙ rw (← n) (ap (λ (t : Bool). cond t (one_more x.intervals) x.intervals) (tab.interval-named r inside));
      }

  module _ (name : ℕ) (t : Tag) (s : List ℕ) (empty : Bool) (room : Room) (told : kind ≡ kind_after name x.kind) where
    started-at : (d : Option ℕ) → start_of rows x.row x.inside name ≡ d → Raises name x (started_at x kind rows t s empty room d)
    unfolding started_at started_by
    started-at None e = tt
    started-at (Some r) e =
        let j = start_judged x kind rows r t s empty room in
        by_cond (Raises name x) (eqb j.number 0) (entered-raises r name e told j (not empty)) tt

    started-raises : Raises name x (started x kind rows name t s empty room)
    unfolding started
    started-raises = started-at (start_of rows x.row x.inside name) refl

  ended-at : (d : Option ℕ) → Raises 0 x (after_end_at x rows d)
  unfolding after_end_at closed_at
  ended-at None = tt
  ended-at (Some r) = by_cond (Raises 0 x) (eqb (end_refusal x rows r) 0) (unraised x (closed_at x r) refl refl refl) tt

  moved-raises : (item : Item) (s : List ℕ) (room : Room) → kind ≡ kind_after (started_in item s) x.kind
      → Raises (started_in item s) x (moved x kind rows item s room)
  unfolding moved started_in after_end
  moved-raises (Start t) s room told = started-raises (element_no (part_of s 1 t.name)) t s false room told
  moved-raises (Empty t) s room told = started-raises (element_no (part_of s 1 t.name)) t s true room told
  moved-raises (End n e) s room told = ended-at (end_of rows x.row x.inside (element_no (part_of s 2 n)))
  moved-raises (Text white e) s room told = by_cond (Raises 0 x) white (unraised x x refl refl refl) tt
  moved-raises (Comment e) s room told = unraised x x refl refl refl
  moved-raises (Unreadable p) s room told = tt

root_is : (item : Item) (s : List ℕ) → root_kind item s ≡ kind_of (started_in item s)
unfolding root_kind started_in kind_of kind_one kind_two kind_three element_no number_in names same
root_is (Start t) s = refl
root_is (Empty t) s = refl
root_is (End n e) s = refl
root_is (Text white e) s = refl
root_is (Comment e) s = refl
root_is (Unreadable p) s = refl

module _ (x : State) (item : Item) (s : List ℕ) (room : Room) where
  told_is : kind_told x item s ≡ kind_after (started_in item s) x.kind
  unfolding kind_told
  told_is = ap (λ (k : ℕ). cond (eqb x.kind 0) k x.kind) (root_is item s)

  pub step-raises : Raises (started_in item s) x (step x item s room)
  unfolding step
  step-raises = moved-raises x (kind_told x item s) item s room told_is
