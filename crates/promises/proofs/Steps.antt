-- What an item does to the state: its counts rise by at most one, and what it brings into the tables has a row there. Assumes nothing.
use Prim.Native.Nat.{ℕ, suc, ◌≤◌, ◌<◌}
use mathlib.Core.Path.{◌≡◌, refl, sym, ◌∙◌}
use mathlib.Core.List.{List}
use mathlib.Core.Bool.{Bool, true, false, cond, not}
use mathlib.Core.Logic.{⊎_elim}
use native.Mathlib.Omega.{arith}
use native.Mathlib.Nat.{le_refl}
use lib.Dec.{ltb, eqb}
use lib.ListN.{get_or, length}
use Rattle.std.specs.Prelude.{Option, Some, None}
use Rattle.lists.proofs.Cases.{by_cond, leb-cases, eqb-cases, ltb-cases, never}
use Rattle.slices.specs.Part.{part_of}
use Rattle.elements.specs.Names.{element_no}
use Rattle.structure.specs.Rows.{start_of, end_of}
use Rattle.columns.specs.Columns.{form_of, role_of, series_role, interval_role, object_role, business_role, series_id_role, pos_role, qty_role, direction_role, area_role}
use Rattle.guideline.specs.Kinds.{kind_one, kind_two, kind_three, is_kind, kind_of}
use Rattle.guideline.specs.Rows.{rows_of}
use Rattle.guideline.proofs.Each.{kind-some, row_with}
use Rattle.items.specs.declared.Tag.{Tag}
use Rattle.items.specs.declared.Item.{Item}
use Rattle.items.specs.declared.Item.TheVariants.{Start, Empty, End, Text, Comment, Unreadable}
use Rattle.rules.specs.Judged.{Judged}
use Rattle.states.specs.Moves.{one_more, begun, at_row, one_series, one_interval, one_original, last_pos, covering, kept, entered, entry_of, start_judged, started_by, started_at, started, closed_at, end_refusal, after_end_at, after_end, moved, root_kind, kind_told, step}
use Rattle.states.specs.Constraints.{noticed}
use Rattle.states.specs.declared.State.{State}
use Rattle.states.specs.declared.Room.{Room}
use Rattle.states.specs.declared.Entry.{Entry}
use Rattle.states.specs.declared.Entry.TheVariants.{Nothing, Series, Identification, Object, BusinessType, Direction, Area, Interval, Position, Amount}
use Rattle.states.specs.Step.{Step, Next, Refused}
use Rattle.states.proofs.Judgements.{judged-passed, series-room, interval-room}
use Rattle.promises.proofs.Refusals.{Given, start-given, end-given}
use Rattle.promises.proofs.Marks.{due-within, end_back, counted, for_series, for_interval, series_row, interval_row, table, due-known, end_known}

-- a row of the kind that is not before the first with this role
abbrev Past : ℕ → ℕ → ℕ → Type 0
Past role kind row = (is_kind kind ≡ true) × (row_with role (rows_of kind) ≤ row)

-- where a series has started, one is counted, and so with an Interval; before the root there is no kind
pub record Sound (x : State) : Type 0 where
  pub kinds : x.kind ≤ 3
  pub series : Past series_role x.kind x.row → 1 ≤ x.series
  pub intervals : Past interval_role x.kind x.row → 1 ≤ x.intervals
  pub outside : x.kind ≡ 0 → x.row ≡ 0

-- an entry has a row
abbrev pub Fits : State → Entry → Type 0
Fits y Nothing = Unit {0}
Fits y Series = 1 ≤ y.series
Fits y Identification = 1 ≤ y.series
Fits y Object = 1 ≤ y.series
Fits y BusinessType = 1 ≤ y.series
Fits y Direction = 1 ≤ y.series
Fits y Area = 1 ≤ y.series
Fits y Interval = 1 ≤ y.series
Fits y (Position p) = 1 ≤ y.intervals
Fits y Amount = 1 ≤ y.intervals

-- the counts rise by at most one
pub record Counts (x y : State) : Type 0 where
  pub series-up : x.series ≤ y.series
  pub series-one : y.series ≤ suc x.series
  pub intervals-up : x.intervals ≤ y.intervals
  pub intervals-one : y.intervals ≤ suc x.intervals

-- and stay within the room of the tables
pub record Housed (room : Room) (x : State) : Type 0 where
  pub series : x.series ≤ room.series
  pub intervals : x.intervals ≤ room.intervals

pub record Stepped (room : Room) (x y : State) (e : Entry) : Type 0 where
  pub sound : Sound y
  pub fits : Fits y e
  pub counts : Counts x y
  pub housed : Housed room x → Housed room y

-- an item moves the state like this, or is refused with a number from 2 to 9
abbrev pub Rises : Room → State → Step → Type 0
Rises room x (Next y e) = Stepped room x y e
Rises room x (Refused n) = (n ≡ 0 → ⊥) × Given n

same-counts : (x y : State) → y.series ≡ x.series → y.intervals ≡ x.intervals → Counts x y
same-counts x y e f =
    record {
      series-up = omega (arith, e);
      series-one = omega (arith, e);
      intervals-up = omega (arith, f);
      intervals-one = omega (arith, f);
    }

more-up : (n : ℕ) → n ≤ one_more n
unfolding one_more
more-up n = by_cond (λ (m : ℕ). n ≤ m) (ltb n 4294967295) (omega arith) (le_refl n)

more-one : (n : ℕ) → one_more n ≤ suc n
unfolding one_more
more-one n = by_cond (λ (m : ℕ). m ≤ suc n) (ltb n 4294967295) (omega arith) (omega arith)

more-some : (n : ℕ) → 1 ≤ one_more n
unfolding one_more
more-some n = ⊎_elim (λ y. rw y.1 (omega arith)) (λ y. rw y.1 (omega (arith, y.0))) (ltb-cases n 4294967295)

-- what is kept of an item leaves kind and row alone, and whether that is open
pub record Keeps (x y : State) : Type 0 where
  pub kind : y.kind ≡ x.kind
  pub row : y.row ≡ x.row
  pub inside : y.inside ≡ x.inside
  pub counts : Counts x y

pub kept-keeps : (x : State) (w : ℕ) (j : Judged) → Keeps x (kept x w j)
unfolding kept one_series one_interval one_original last_pos covering
kept-keeps x w j =
    by_cond (Keeps x) (eqb (role_of w) 2)
    (record {
      kind = refl;
      row = refl;
      inside = refl;
      counts = record { series-up = more-up x.series; series-one = more-one x.series; intervals-up = omega arith; intervals-one = omega arith };
    })
    (by_cond (Keeps x) (eqb (role_of w) 3) (record { kind = refl; row = refl; inside = refl; counts = same-counts x (last_pos x 0) refl refl })
    (by_cond (Keeps x) (eqb (role_of w) 4)
    (record {
      kind = refl;
      row = refl;
      inside = refl;
      counts =
          record { series-up = omega arith; series-one = omega arith; intervals-up = more-up x.intervals; intervals-one = more-one x.intervals };
    })
    (by_cond (Keeps x) (eqb (role_of w) 5) (record { kind = refl; row = refl; inside = refl; counts = same-counts x (one_original x) refl refl })
    (by_cond (Keeps x) (eqb (role_of w) 9) (record { kind = refl; row = refl; inside = refl; counts = same-counts x (last_pos x j.first) refl refl })
    (by_cond (Keeps x) (eqb (form_of w) 6)
    (record { kind = refl; row = refl; inside = refl; counts = same-counts x (covering x j.first j.second) refl refl })
    (record { kind = refl; row = refl; inside = refl; counts = same-counts x x refl refl }))))))

pub by_eqb : {A : Type 0} (P : A → Type 0) (a b : ℕ) {u v : A} → (a ≡ b → P u) → P v → P (cond (eqb a b) u v)
by_eqb P a b f g = ⊎_elim (λ y. rw y.1 (f y.0)) (λ y. rw y.1 g) (eqb-cases a b)

kept-housed : (room : Room) (x : State) (w : ℕ) (j : Judged) → (role_of w ≡ 2 → x.series < room.series) → (role_of w ≡ 4 → x.intervals < room.intervals)
    → Housed room x → Housed room (kept x w j)
unfolding kept one_series one_interval one_original last_pos covering
kept-housed room x w j f g h =
    let P : State → Type 0 = Housed room in
    let a = h.series in
    let b = h.intervals in
    by_eqb P (role_of w) 2 (λ e. let c = f e in record { series = omega (arith, more-one x.series); intervals = b })
    (by_cond P (eqb (role_of w) 3) (record { series = a; intervals = b })
    (by_eqb P (role_of w) 4 (λ e. let c = g e in record { series = a; intervals = omega (arith, more-one x.intervals) })
    (by_cond P (eqb (role_of w) 5) (record { series = a; intervals = b })
    (by_cond P (eqb (role_of w) 9) (record { series = a; intervals = b })
    (by_cond P (eqb (form_of w) 6) (record { series = a; intervals = b }) h)))))

kept-series : (x : State) (w : ℕ) (j : Judged) → role_of w ≡ 2 → 1 ≤ (kept x w j).series
unfolding kept one_series
kept-series x w j e = rw e (more-some x.series)

kept-interval : (x : State) (w : ℕ) (j : Judged) → role_of w ≡ 4 → 1 ≤ (kept x w j).intervals
unfolding kept one_interval
kept-interval x w j e = rw e (more-some x.intervals)

entry-fits : (y : State) (role p : ℕ) → (for_series role ≡ true → 1 ≤ y.series) → (for_interval role ≡ true → 1 ≤ y.intervals) → Fits y (entry_of role p)
unfolding entry_of
entry-fits y role p f g =
    by_eqb (Fits y) role series_role (λ e. f (rw e refl))
    (by_eqb (Fits y) role interval_role (λ e. f (rw e refl))
    (by_eqb (Fits y) role object_role (λ e. f (rw e refl))
    (by_eqb (Fits y) role business_role (λ e. f (rw e refl))
    (by_eqb (Fits y) role series_id_role (λ e. f (rw e refl))
    (by_eqb (Fits y) role pos_role (λ e. g (rw e refl))
    (by_eqb (Fits y) role qty_role (λ e. g (rw e refl))
    (by_eqb (Fits y) role direction_role (λ e. f (rw e refl))
    (by_eqb (Fits y) role area_role (λ e. f (rw e refl)) tt))))))))

-- what is known of a state before an item that tells the kind
pub record Before (x : State) (kind : ℕ) : Type 0 where
  pub sound : Sound x
  pub kinds : kind ≤ 3
  pub series : Past series_role kind x.row → 1 ≤ x.series
  pub intervals : Past interval_role kind x.row → 1 ≤ x.intervals

module _ (x : State) (kind : ℕ) (b : Before x kind) where
  abbrev rows : List ℕ
  rows = rows_of kind

  entered-steps : (r name : ℕ) → start_of rows x.row x.inside name ≡ Some r → (j : Judged) (within : Bool) (room : Room)
      → (role_of (get_or rows r 0) ≡ series_role → x.series < room.series) → (role_of (get_or rows r 0) ≡ interval_role → x.intervals < room.intervals)
      → Stepped room x (entered x kind r (get_or rows r 0) j within) (entry_of (role_of (get_or rows r 0)) j.first)
  unfolding entered at_row
  entered-steps r name e j within room f g =
      let known = due-known kind x.row x.inside name r e in
      let tab = table kind known in
      let w = get_or rows r 0 in
      let p = at_row x kind r within (noticed x.seen w j.first) in
      let y = kept p w j in
      let k = kept-keeps p w j in
      let inside : r < length rows = due-within rows tab.rooted x.row name r x.inside e in
      let c : Counts x y =
      record {
        series-up = k.counts.series-up;
        series-one = k.counts.series-one;
        intervals-up = k.counts.intervals-up;
        intervals-one = k.counts.intervals-one;
      } in
      let ser : series_row kind ≤ r → 1 ≤ y.series =
      counted rows tab.rooted (series_row kind) series_role for_series tab.series x.row name r x.inside e x.series y.series
      (λ l. b.series (known, l)) c.series-up (kept-series p w j) in
      let int : interval_row kind ≤ r → 1 ≤ y.intervals =
      counted rows tab.rooted (interval_row kind) interval_role for_interval tab.intervals x.row name r x.inside e x.intervals y.intervals
      (λ l. b.intervals (known, l)) c.intervals-up (kept-interval p w j) in
      record {
        sound =
            record {
              kinds = rw k.kind b.kinds;
              series = rw (k.kind, k.row) (λ l. ser l.1);
              intervals = rw (k.kind, k.row) (λ l. int l.1);
              outside = λ z. absurd (kind-some kind known (sym k.kind ∙ z));
            };
        fits =
            entry-fits y (role_of w) j.first
            (λ l. ⊎_elim (λ h. ser h.0) (λ h. never (sym (tab.series.before r h.0 inside) ∙ l)) (leb-cases (series_row kind) r))
            (λ l. ⊎_elim (λ h. int h.0) (λ h. never (sym (tab.intervals.before r h.0 inside) ∙ l)) (leb-cases (interval_row kind) r));
        counts = c;
        housed = λ h. kept-housed room p w j f g (record { series = h.series; intervals = h.intervals });
      }

  module _ (name : ℕ) (t : Tag) (s : List ℕ) (empty : Bool) (room : Room) where
    started-at : (d : Option ℕ) → start_of rows x.row x.inside name ≡ d → Rises room x (started_at x kind rows t s empty room d)
    unfolding started_at started_by
    started-at None e = (λ z. omega arith, refl)
    started-at (Some r) e =
        let j = start_judged x kind rows r t s empty room in
        ⊎_elim
        (λ y.
        let free = (judged-passed x kind rows r t s empty room y.0).free in
        rw y.1 (entered-steps r name e j (not empty) room (series-room x (role_of (get_or rows r 0)) room free) (interval-room x (role_of (get_or rows r 0)) room free)))
        (λ y. rw y.1 (y.0, start-given x kind rows r t s empty room))
        (eqb-cases j.number 0)

    started-rises : Rises room x (started x kind rows name t s empty room)
    unfolding started
    started-rises = started-at (start_of rows x.row x.inside name) refl

  closed-steps : (room : Room) (r : ℕ) → r ≤ x.row → Stepped room x (closed_at x r) Nothing
  unfolding closed_at
  closed-steps room r h =
      let b = b.sound in
      record {
        sound =
            record {
              kinds = b.kinds;
              series = λ l. b.series (l.0, omega (arith, l.1));
              intervals = λ l. b.intervals (l.0, omega (arith, l.1));
              outside = λ z. let k = b.outside z in omega arith;
            };
        fits = tt;
        counts = same-counts x (closed_at x r) refl refl;
        housed = λ h. record { series = h.series; intervals = h.intervals };
      }

  ended-at : (room : Room) (name : ℕ) (d : Option ℕ) → end_of rows x.row x.inside name ≡ d → Rises room x (after_end_at x rows d)
  unfolding after_end_at
  ended-at room name None e = (λ z. omega arith, refl)
  ended-at room name (Some r) e =
      let tab = table kind (end_known kind x.row x.inside name r e) in
      ⊎_elim
      (λ y. rw y.1 (closed-steps room r (end_back rows tab.rooted x.row name r x.inside e)))
      (λ y. rw y.1 (y.0, end-given x rows r))
      (eqb-cases (end_refusal x rows r) 0)

  ended-rises : (room : Room) (name : ℕ) → Rises room x (after_end x rows name)
  unfolding after_end
  ended-rises room name = ended-at room name (end_of rows x.row x.inside name) refl

  still : (room : Room) → Stepped room x x Nothing
  still room = record { sound = b.sound; fits = tt; counts = same-counts x x refl refl; housed = λ h. h }

  moved-rises : (item : Item) (s : List ℕ) (room : Room) → Rises room x (moved x kind rows item s room)
  unfolding moved
  moved-rises (Start t) s room = started-rises (element_no (part_of s 1 t.name)) t s false room
  moved-rises (Empty t) s room = started-rises (element_no (part_of s 1 t.name)) t s true room
  moved-rises (End n e) s room = ended-rises room (element_no (part_of s 2 n))
  moved-rises (Text white e) s room = by_cond (Rises room x) white (still room) (λ z. omega arith, refl)
  moved-rises (Comment e) s room = still room
  moved-rises (Unreadable p) s room = (λ z. omega arith, refl)

kind-small : (n : ℕ) → kind_of n ≤ 3
unfolding kind_of
kind-small n =
    by_cond (λ (k : ℕ). k ≤ 3) (eqb n kind_one.root) (omega arith)
    (by_cond (λ (k : ℕ). k ≤ 3) (eqb n kind_two.root) (omega arith) (by_cond (λ (k : ℕ). k ≤ 3) (eqb n kind_three.root) (omega arith) (omega arith)))

root-small : (item : Item) (s : List ℕ) → root_kind item s ≤ 3
unfolding root_kind
root-small (Start t) s = kind-small (element_no (part_of s 1 t.name))
root-small (Empty t) s = kind-small (element_no (part_of s 1 t.name))
root-small (End n e) s = omega arith
root-small (Text white e) s = omega arith
root-small (Comment e) s = omega arith
root-small (Unreadable p) s = omega arith

module _ (x : State) (b : Sound x) (item : Item) (s : List ℕ) (room : Room) where
  told-before : Before x (kind_told x item s)
  unfolding kind_told
  told-before =
      ⊎_elim
      (λ y.
      let z = b.outside y.0 in
      rw y.1
      (record {
        sound = b;
        kinds = root-small item s;
        series = λ l. absurd (omega (arith, z, l.1, (table (root_kind item s) l.0).series.late));
        intervals = λ l. absurd (omega (arith, z, l.1, (table (root_kind item s) l.0).intervals.late));
      }))
      (λ y. rw y.1 (record { sound = b; kinds = b.kinds; series = b.series; intervals = b.intervals }))
      (eqb-cases x.kind 0)

  pub step-rises : Rises room x (step x item s room)
  unfolding step
  step-rises = moved-rises x (kind_told x item s) told-before item s room

-- before the first item
pub begun-housed : (room : Room) → Housed room begun
unfolding begun
begun-housed room = record { series = omega arith; intervals = omega arith }

pub begun-sound : Sound begun
unfolding begun is_kind
begun-sound = record { kinds = omega arith; series = λ l. never l.0; intervals = λ l. never l.0; outside = λ z. refl }
