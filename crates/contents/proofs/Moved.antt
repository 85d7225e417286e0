-- What one item does: the reading state that goes with a tally takes the item exactly where its signs are due and taken. Assumes nothing.
use Prim.Native.Nat.{ℕ, suc, ◌+◌, ◌<◌, ◌≤◌}
use mathlib.Core.Path.{◌≡◌, refl, sym, ap, subst, ◌∙◌}
use mathlib.Core.List.{List}
use mathlib.Core.Bool.{Bool, true, false, cond, not}
use mathlib.Core.Logic.{⊎_elim}
use native.Mathlib.Omega.{arith}
use lib.Dec.{eqb}
use lib.ListN.{get_or}
use borrow.Author.Tests.{ne_eqb}
use Rattle.std.specs.Prelude.{Option, Some, None}
use Rattle.lists.proofs.Cases.{bool_cases, eqb-cases}
use Rattle.items.specs.Parts.{span_of}
use Rattle.items.specs.declared.Tag.{Tag}
use Rattle.items.specs.declared.Item.{Item}
use Rattle.items.specs.declared.Item.TheVariants.{Text}
use Rattle.structure.specs.Rows.{start_of, end_of}
use Rattle.columns.specs.Columns.{role_of}
use Rattle.guideline.specs.Rows.{rows_of}
use Rattle.guideline.proofs.Each.{kind-some}
use Rattle.states.specs.Moves.{cut_short, start_judged, entry_of, started_by, started_at, started, end_refusal, after_end_at, after_end, moved, kind_told, step}
use Rattle.states.specs.declared.State.{State}
use Rattle.states.specs.declared.Room.{Room}
use Rattle.states.specs.declared.Entry.{Entry}
use Rattle.states.specs.declared.Entry.TheVariants.{Nothing, Series, Identification, Object, BusinessType, Direction, Area, Interval, Position, Amount}
use Rattle.states.specs.Step.{Step, Next, Refused}
use Rattle.reader.specs.Items.{Placed}
use Rattle.reader.specs.Rows.{brought_by, field_after, series_with, positions_with, amounts_with, series_after, positions_after, amounts_after, used_with, used_before}
use Rattle.reader.specs.Reading.{Tables, without_used, tables_after}
use Rattle.contents.specs.Said.{TagSaid}
use Rattle.contents.specs.Spelled.{said_of_tag}
use Rattle.contents.specs.Legal.{position_of}
use Rattle.contents.proofs.Laid.{Layout, Known}
use Rattle.contents.proofs.Walk.{Tally, opened, Takes, Shuts}
use Rattle.contents.proofs.Fill.{said_of, state_of}
use Rattle.contents.proofs.Signs.{after, bringing, New}
use Rattle.contents.proofs.Steps.{judged-taken, taken-judged, entered-opened, entry-same, ended-taken, taken-ended, closed_same}
use Rattle.contents.proofs.Rooted.{row_within}

-- ---- how far the counts go

-- n items are left, each of which raises a count by one at most
pub record Low (n : ℕ) (y : Tally) : Type 0 where
  pub series : y.series + n ≤ 1048576
  pub intervals : y.intervals + n ≤ 1048576
  pub originals : y.originals + n ≤ 1048576

raise : (b : Bool) (a n : ℕ) → a + suc n ≤ 1048576 → cond b (a + 1) a + n ≤ 1048576
raise true a n h = omega arith
raise false a n h = omega arith

reset : (b c : Bool) (a n : ℕ) → a + suc n ≤ 1048576 → cond b 0 (cond c (a + 1) a) + n ≤ 1048576
reset true c a n h = omega arith
reset false c a n h = raise c a n h

pub low-opened : (n w : ℕ) (x : Placed) (y : Tally) → Low (suc n) y → Low n (opened w (said_of x) y)
low-opened n w x y l =
    record {
      series = raise (eqb (role_of w) 2) y.series n l.series;
      intervals = raise (eqb (role_of w) 4) y.intervals n l.intervals;
      originals = reset (eqb (role_of w) 2) (eqb (role_of w) 5) y.originals n l.originals;
    }

pub low-less : (n : ℕ) (y : Tally) → Low (suc n) y → Low n y
low-less n y l =
    let a = l.series in
    let b = l.intervals in
    let c = l.originals in
    record { series = omega (arith, a); intervals = omega (arith, b); originals = omega (arith, c) }

-- ---- the tables

-- they do not look at whether a row is open
pub tables-inside : (x : Placed) (kind q : ℕ) (a b : Bool) (y : Tally) (e : Entry) (t : Tables)
    → tables_after x (state_of kind q a y) e t ≡ tables_after x (state_of kind q b y) e t
unfolding tables_after state_of series_after series_with field_after positions_after positions_with amounts_after amounts_with brought_by
tables-inside x kind q a b y Nothing t = refl
tables-inside x kind q a b y Series t = refl
tables-inside x kind q a b y Identification t = refl
tables-inside x kind q a b y Object t = refl
tables-inside x kind q a b y BusinessType t = refl
tables-inside x kind q a b y Direction t = refl
tables-inside x kind q a b y Area t = refl
tables-inside x kind q a b y Interval t = refl
tables-inside x kind q a b y (Position p) t = refl
tables-inside x kind q a b y Amount t = refl

pub tables-still : (x : Placed) (st : State) (t : Tables) → tables_after x st Nothing t ≡ t
unfolding tables_after series_after series_with positions_after positions_with amounts_after amounts_with brought_by
tables-still x st t = refl

-- ---- an item that may not stand in a document

pub dark-text : (st : State) (e : ℕ) (s : List ℕ) (room : Room) → step st (Text false e) s room ≡ Refused 3
unfolding step moved
dark-text st e s room = refl

-- ---- the rows that are looked at

pub step-told : (st : State) (kind : ℕ) (i : Item) (s : List ℕ) (room : Room) → kind_told st i s ≡ kind
    → step st i s room ≡ moved st kind (rows_of kind) i s room
unfolding step
step-told st kind i s room e = rw e

-- where the kind is told
pub step_in : (kind : ℕ) → Known kind → (r : ℕ) (o : Bool) (y : Tally) (i : Item) (s : List ℕ) (room : Room)
    → step (state_of kind r o y) i s room ≡ moved (state_of kind r o y) kind (rows_of kind) i s room
unfolding kind_told state_of
step_in kind known r o y i s room = step-told (state_of kind r o y) kind i s room (rw (ne_eqb kind 0 (kind-some kind known)))

-- ---- a step whose TimeSeriesIdentification is new, and one whose is not

not-used : (doc ts : List ℕ) (i : Item) (s : List ℕ) (st : State) (e : Entry) → used_before doc ts (span_of i) s st.series e ≡ false
    → without_used doc ts i s (Next st e) ≡ Next st e
unfolding without_used
not-used doc ts i s st e h = rw h

is-used : (doc ts : List ℕ) (i : Item) (s : List ℕ) (st : State) (e : Entry) → used_before doc ts (span_of i) s st.series e ≡ true
    → without_used doc ts i s (Next st e) ≡ Refused 9
unfolding without_used
is-used doc ts i s st e h = rw h

-- ---- a start tag, or the start in an empty one

module _ (doc : List ℕ) (room : Room) (kind : ℕ) (rows : List ℕ) where
  -- the tag takes row q
  pub record Went (r : ℕ) (o : Bool) (y : Tally) (t : Tables) (x : Placed) (name : ℕ) (empty : Bool) (q : ℕ) : Type 0 where
    pub due : start_of rows r o name ≡ Some q
    pub taken : Takes kind room (get_or rows q 0) (said_of x) y
    pub whole : cut_short empty rows q ≡ false
    pub new : New doc rows q x (after rows q x y) t

  -- the state goes on to that of the tally after it, or the tag is refused with a number
  abbrev pub Goes : ℕ → Bool → Tally → Tables → Placed → ℕ → Bool → Step → Type 0
  Goes r o y t x name empty (Next st e) =
      (q : ℕ) × Went r o y t x name empty q × (st ≡ state_of kind q (not empty) (after rows q x y)) × (e ≡ bringing rows q x)
  Goes r o y t x name empty (Refused n) = n ≡ 0 → ⊥

-- and so with an end tag
abbrev pub Closed : ℕ → List ℕ → ℕ → Bool → Tally → ℕ → Step → Type 0
Closed kind rows r o y name (Next st e) =
    (q : ℕ) × (end_of rows r o name ≡ Some q) × Shuts kind (get_or rows q 0) y × (st ≡ state_of kind q false y) × (e ≡ Nothing)
Closed kind rows r o y name (Refused n) = n ≡ 0 → ⊥

module _ (doc : List ℕ) (room : Room) (kind : ℕ) (rows : List ℕ) (p : ℕ) (L : Layout rows p) where
  module _ (k₀ r : ℕ) (o : Bool) (y : Tally) (t : Tables) (x : Placed) (tag : Tag) (name : ℕ) (empty : Bool)
      (says : said_of_tag tag x.rest ≡ said_of x) (n : ℕ) (low : Low (suc n) y) where
    module _ (q : ℕ) (d : start_of rows r o name ≡ Some q) where
      -- the start tag, judged good, moves the state to that of the tally after it
      went : (a : Takes kind room (get_or rows q 0) (said_of x) y) → cut_short empty rows q ≡ false
          → started_by (state_of k₀ r o y) kind q (get_or rows q 0) empty (start_judged (state_of k₀ r o y) kind rows q tag x.rest empty room)
          ≡ Next (state_of kind q (not empty) (after rows q x y)) (bringing rows q x)
      unfolding started_by
      went a b =
          let g = row_within rows p L r o name q d in
          let a' : Takes kind room (get_or rows q 0) (said_of_tag tag x.rest) y = rw says a in
          let j = (taken-judged kind rows p L room k₀ r o y q g tag x.rest empty a'.0 a'.1 b).0 in
          let u = counts in
          let e =
          entered-opened kind rows p L room k₀ r o y q g tag x.rest empty a'.0 a'.1 b u.0 u.1 u.2 (not empty)
          ∙ ap (λ (m : TagSaid). state_of kind q (not empty) (opened (get_or rows q 0) m y)) says in
          let h =
          entry-same kind rows p L room k₀ r o y q g tag x.rest empty a'.0 a'.1 b
          ∙ ap (λ (m : TagSaid). entry_of (role_of (get_or rows q 0)) (position_of m)) says in
          rw (e, h, j)
        where
          counts : (y.series < 4294967295) × (y.intervals < 4294967295) × (y.originals < 4294967295)
          counts =
              let a = low.series in
              let b = low.intervals in
              let c = low.originals in
              (omega (arith, a), omega (arith, b), omega (arith, c))

      goes-row : Goes doc room kind rows r o y t x name empty
          (without_used doc t.series x.item x.rest
          (started_by (state_of k₀ r o y) kind q (get_or rows q 0) empty (start_judged (state_of k₀ r o y) kind rows q tag x.rest empty room)))
      unfolding started_by without_used state_of
      goes-row =
          let g = row_within rows p L r o name q d in
          let j = start_judged (state_of k₀ r o y) kind rows q tag x.rest empty room in
          let st = state_of kind q (not empty) (after rows q x y) in
          let whole : Step → Step = λ v. without_used doc t.series x.item x.rest v in
          let goes : Step → Type 0 = Goes doc room kind rows r o y t x name empty in
          ⊎_elim
          (λ (h : (j.number ≡ 0) × (eqb j.number 0 ≡ true)).
          let k = judged-taken kind rows p L room k₀ r o y q g tag x.rest empty h.0 in
          let a : Takes kind room (get_or rows q 0) (said_of x) y = subst (λ (m : TagSaid). Takes kind room (get_or rows q 0) m y) says k.0 in
          let e = went a k.1 in
          ⊎_elim
          (λ u. subst goes (sym (ap whole e ∙ is-used doc t.series x.item x.rest st (bringing rows q x) u)) (λ z. omega (arith, z)))
          (λ u.
          subst goes (sym (ap whole e ∙ not-used doc t.series x.item x.rest st (bringing rows q x) u))
          (q, record { due = d; taken = a; whole = k.1; new = u }, refl, refl))
          (bool_cases (used_before doc t.series (span_of x.item) x.rest (after rows q x y).series (bringing rows q x))))
          (λ (h : (j.number ≡ 0 → ⊥) × (eqb j.number 0 ≡ false)). rw h.1 h.0)
          (eqb-cases j.number 0)

    pub started-goes : Goes doc room kind rows r o y t x name empty
        (without_used doc t.series x.item x.rest (started (state_of k₀ r o y) kind rows name tag x.rest empty room))
    unfolding started started_at without_used state_of
    started-goes = by (start_of rows r o name) refl
      where
        by : (d : Option ℕ) → start_of rows r o name ≡ d
            → Goes doc room kind rows r o y t x name empty
            (without_used doc t.series x.item x.rest (started_at (state_of k₀ r o y) kind rows tag x.rest empty room d))
        by None z = λ e. omega (arith, e)
        by (Some q) z = goes-row q z

    pub went-starts : (q : ℕ) → Went doc room kind rows r o y t x name empty q
        → without_used doc t.series x.item x.rest (started (state_of k₀ r o y) kind rows name tag x.rest empty room)
        ≡ Next (state_of kind q (not empty) (after rows q x y)) (bringing rows q x)
    unfolding started started_at state_of
    went-starts q g =
        ap (λ (d : Option ℕ). without_used doc t.series x.item x.rest (started_at (state_of k₀ r o y) kind rows tag x.rest empty room d)) g.due
        ∙ ap (λ (v : Step). without_used doc t.series x.item x.rest v) (went q g.due g.taken g.whole)
        ∙ not-used doc t.series x.item x.rest (state_of kind q (not empty) (after rows q x y)) (bringing rows q x) g.new

-- ---- an end tag

module _ (doc : List ℕ) (kind : ℕ) (rows : List ℕ) (r : ℕ) (o : Bool) (y : Tally) (ts : List ℕ) (i : Item) (s : List ℕ) (name : ℕ) where
  pub ended-goes : Closed kind rows r o y name (without_used doc ts i s (after_end (state_of kind r o y) rows name))
  unfolding after_end after_end_at without_used used_before used_with brought_by state_of
  ended-goes = by (end_of rows r o name) refl
    where
      by : (d : Option ℕ) → end_of rows r o name ≡ d → Closed kind rows r o y name (without_used doc ts i s (after_end_at (state_of kind r o y) rows d))
      by None z = λ e. omega (arith, e)
      by (Some q) z =
          ⊎_elim
          (λ (h : (end_refusal (state_of kind r o y) rows q ≡ 0) × (eqb (end_refusal (state_of kind r o y) rows q) 0 ≡ true)).
          rw h.1 (q, z, ended-taken kind rows r o y q h.0, closed_same kind rows r o y q, refl))
          (λ (h : (end_refusal (state_of kind r o y) rows q ≡ 0 → ⊥) × (eqb (end_refusal (state_of kind r o y) rows q) 0 ≡ false)). rw h.1 h.0)
          (eqb-cases (end_refusal (state_of kind r o y) rows q) 0)

  pub went-ends : (q : ℕ) → end_of rows r o name ≡ Some q → Shuts kind (get_or rows q 0) y
      → without_used doc ts i s (after_end (state_of kind r o y) rows name) ≡ Next (state_of kind q false y) Nothing
  unfolding after_end after_end_at without_used used_before used_with brought_by state_of
  went-ends q z h =
      ap (λ (d : Option ℕ). without_used doc ts i s (after_end_at (state_of kind r o y) rows d)) z
      ∙ rw (taken-ended kind rows r o y q h) (ap (λ (st : State). Next st Nothing) (closed_same kind rows r o y q))
