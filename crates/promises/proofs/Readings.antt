-- What holds of what was found in a document and of the tables, by induction over its items. Assumes nothing.
use Prim.Native.Nat.{ℕ, zero, suc, pred, ◌+◌, ◌-◌, ◌≤◌, ◌<◌}
use mathlib.Core.Path.{◌≡◌, refl, sym, subst}
use mathlib.Core.List.{List, [], ◌∷◌}
use mathlib.Core.Bool.{Bool, true, false, cond}
use mathlib.Core.Logic.{⊎_elim}
use native.Mathlib.Omega.{arith}
use native.Mathlib.Nat.{le_refl, le_of_lt}
use lib.Dec.{leb, eqb}
use lib.ListN.{length, take, drop, length-drop, length-take}
use borrow.Author.Tests.{lt-ltb, ne_eqb}
use Rattle.std.specs.Prelude.{Result, Ok, Err}
use Rattle.lists.proofs.Cases.{by_cond, leb-cases, ltb-cases}
use Rattle.slices.specs.Same.{same, begins}
use Rattle.slices.proofs.Sames.{sames-long}
use Rattle.items.specs.Parts.{span_of}
use Rattle.items.specs.Item.{item, item_end}
use Rattle.prolog.specs.Prolog.{mark_len, begin}
use Rattle.prolog.proofs.Promises.{refused-at}
use Rattle.structure.specs.Rows.{over_of}
use Rattle.structure.proofs.Depths.{depth_le}
use Rattle.guideline.specs.Rows.{rows_of}
use Rattle.states.specs.Moves.{begun, step}
use Rattle.states.specs.declared.State.{State}
use Rattle.states.specs.declared.Room.{Room}
use Rattle.states.specs.declared.Entry.{Entry}
use Rattle.states.specs.Step.{Step, Next, Refused}
use Rattle.reader.specs.Items.{Placed, placed, items_after, items_from}
use Rattle.reader.specs.Rows.{used_before}
use Rattle.reader.specs.Reading.{Tables, Out, blank, room_of, room_in, refused_at, accepted_at, ended_at, without_used, step_of, tables_after, read_items, items_read, read_after, read_into, or_blank, read_sheet}
use Rattle.reader.proofs.Ran.{read_next, read-stop, items-over}
use Rattle.contents.proofs.Theorems.{room-cells}
use Rattle.promises.specs.Rows.{ZeroPast, InRoom, Sized}
use Rattle.promises.proofs.Refusals.{Given, given-small, given-not-one}
use Rattle.promises.proofs.Steps.{Sound, Housed, Stepped, Rises, step-rises, begun-sound, begun-housed}
use Rattle.promises.proofs.Cells.{step_past, step-sized, blank-past, blank-sized}

-- an item that moves the state may still be refused with 9
used-rises : (doc t : List ℕ) (room : Room) (x : State) (p : Placed) (q : Step) → Rises room x q → Rises room x (without_used doc t p.item p.rest q)
unfolding without_used
used-rises doc t room x p (Next y e) h =
    by_cond (Rises room x) (used_before doc t (span_of p.item) p.rest y.series e) (λ z. omega arith, refl) h
used-rises doc t room x p (Refused n) h = h

pub stepped : (doc t : List ℕ) (room : Room) (p : Placed) (x : State) → Sound x → Rises room x (step_of doc t room p x)
unfolding step_of
stepped doc t room p x s =
    used-rises doc t room x p (step x p.item p.rest room) (step-rises x s p.item p.rest room)

module _ (doc : List ℕ) (room : Room) (ns np na : ℕ) where
  pub record Fine (o : Out) : Type 0 where
    pub refusals : o.found.refusal ≤ 9
    pub long : o.found.refusal ≡ 1 → 1048576 < length doc
    pub places : o.found.place ≤ length doc
    pub accepted : o.found.refusal ≡ 0 → o.found.place ≡ length doc
    pub quarters : (o.found.refusal ≡ 0 → ⊥) → o.found.quarters ≡ 0
    pub depths : o.found.depth ≤ 16
    pub shut : o.found.refusal ≡ 0 → o.found.depth ≡ 0
    pub kinds : o.found.kind ≤ 3
    pub series : o.found.series ≤ length doc
    pub intervals : o.found.intervals ≤ length doc
    pub series-room : o.found.series ≤ room.series
    pub intervals-room : o.found.intervals ≤ room.intervals
    pub cells : ZeroPast o.found.series o.found.intervals o.tables
    pub sized : Sized ns np na o.tables

  -- while `more` bytes are left: what was counted and what is left make at most the document
  pub record Held (more : ℕ) (st : State) (t : Tables) : Type 0 where
    pub sound : Sound st
    pub series : st.series + more ≤ length doc
    pub intervals : st.intervals + more ≤ length doc
    pub housed : Housed room st
    pub cells : ZeroPast st.series st.intervals t
    pub sized : Sized ns np na t

  module _ (more : ℕ) (st : State) (t : Tables) (h : Held more st t) where
    refused-fine : (n place : ℕ) → place ≤ length doc → (n ≡ 0 → ⊥) → Given n → Fine (record { found = refused_at n place st; tables = t })
    unfolding refused_at
    refused-fine n place l f g =
        record {
          refusals = given-small n g;
          long = λ e. absurd (given-not-one n g e);
          places = l;
          accepted = λ e. absurd (f e);
          quarters = λ _. refl;
          depths = depth_le (rows_of st.kind) st.row st.inside;
          shut = λ e. absurd (f e);
          kinds = h.sound.kinds;
          series = omega (arith, h.series);
          intervals = omega (arith, h.intervals);
          series-room = h.housed.series;
          intervals-room = h.housed.intervals;
          cells = h.cells;
          sized = h.sized;
        }

    accepted-fine : Fine (record { found = accepted_at (length doc) st; tables = t })
    unfolding accepted_at
    accepted-fine =
        record {
          refusals = omega arith;
          long = λ e. absurd (omega arith);
          places = le_refl (length doc);
          accepted = λ _. refl;
          quarters = λ f. absurd (f refl);
          depths = omega arith;
          shut = λ _. refl;
          kinds = h.sound.kinds;
          series = omega (arith, h.series);
          intervals = omega (arith, h.intervals);
          series-room = h.housed.series;
          intervals-room = h.housed.intervals;
          cells = h.cells;
          sized = h.sized;
        }

    ended_by : (b : Bool)
        → Fine (record {
          found =
              cond b (accepted_at (length doc) st) (refused_at 3 (length doc) st);
          tables = t;
        })
    ended_by true = accepted-fine
    ended_by false = refused-fine 3 (length doc) (le_refl (length doc)) (λ e. omega arith) refl

    ended-fine : Fine (record { found = ended_at (rows_of st.kind) (length doc) st; tables = t })
    unfolding ended_at
    ended-fine = ended_by (over_of (rows_of st.kind) st.row st.inside)

    -- an item, and what is read after it
    turn-fine : (p : Placed) (xs : List Placed) → p.at ≤ length doc
        → ((y : State) (e : Entry) → Stepped room st y e → Fine (read_items doc room xs y (tables_after p y e t)))
        → (q : Step) → step_of doc t.series room p st ≡ q → Rises room st q → Fine (read_items doc room (p ∷ xs) st t)
    turn-fine p xs l later (Next y e) w r = rw (read_next doc room p xs st t y e w) (later y e r)
    turn-fine p xs l later (Refused m) w r = rw (read-stop doc room p xs st t m w) (refused-fine m p.at l r.0 r.1)

    -- which takes a byte at least
    pub turned : (p : Placed) (less : ℕ) → suc less ≤ more → (y : State) (e : Entry) → Stepped room st y e → Held less y (tables_after p y e t)
    turned p less l y e r =
        record {
          sound = r.sound;
          series = omega (arith, h.series, r.counts.series-one);
          intervals = omega (arith, h.intervals, r.counts.intervals-one);
          housed = r.housed h.housed;
          cells = step_past room p st y e t r h.cells;
          sized = step-sized ns np na p y e t h.sized;
        }

    pub passed : (less : ℕ) → less ≤ more → Held less st t
    passed less l =
        record {
          sound = h.sound;
          series = omega (arith, h.series);
          intervals = omega (arith, h.intervals);
          housed = h.housed;
          cells = h.cells;
          sized = h.sized;
        }

  -- k bytes of the last item are still to pass
  items-fine : (k at : ℕ) (l : List ℕ) (st : State) (t : Tables) → at + length l ≤ length doc → Held (length l) st t
      → Fine (read_items doc room (items_after k at l) st t)
  unfolding items_after read_items
  items-fine k at [] st t a h = ended-fine 0 st t h
  items-fine (suc k) at (c ∷ l) st t a h = items-fine k (suc at) l st t (omega arith) (passed (suc (length l)) st t h (length l) (omega arith))
  items-fine zero at (c ∷ l) st t a h =
      let p = placed at (c ∷ l) in
      let n = pred (item_end (item at (c ∷ l))) in
      turn-fine (suc (length l)) st t h p (items_after n (suc at) l) (omega arith)
      (λ y e r.
      items-fine n (suc at) l y (tables_after p y e t) (omega arith) (turned (suc (length l)) st t h p (length l) (le_refl (suc (length l))) y e r))
      (step_of doc t.series room p st) refl (stepped doc t.series room p st h.sound)

mark-within : (doc : List ℕ) → mark_len doc ≤ length doc
unfolding mark_len begins
mark-within doc =
    let m : List ℕ = 0xEF ∷ 0xBB ∷ 0xBF ∷ [] in
    ⊎_elim
    (λ (y : (3 ≤ length doc) × (leb 3 (length doc) ≡ true)). by_cond (λ (n : ℕ). n ≤ length doc) (same m (take 3 doc)) y.0 (omega arith))
    (λ (y : (length doc < 3) × (leb 3 (length doc) ≡ false)).
    let z : 3 ≡ length (take 3 doc) → ⊥ = λ e. absurd (omega (arith, e, y.0, length-take 3 doc)) in
    rw (sym (sames-long m (take 3 doc) z)) (omega arith))
    (leb-cases 3 (length doc))

module _ (doc : List ℕ) (ns np na : ℕ) (t : Tables) (z : ZeroPast 0 0 t) (m : Sized ns np na t) where
  pub begun-held : (more : ℕ) → more ≤ length doc → Held doc (room_in t) ns np na more begun t
  unfolding begun
  begun-held more h =
      record {
        sound = begun-sound;
        series = omega arith;
        intervals = omega arith;
        housed = begun-housed (room_in t);
        cells = z;
        sized = m;
      }

  after-fine : (b : Result ℕ ℕ) → begin doc ≡ b → Fine doc (room_in t) ns np na (read_after doc t b)
  unfolding read_after items_read items_from read_items
  after-fine (Ok n) e =
      ⊎_elim
      (λ (y : (n ≤ length doc) × (leb n (length doc) ≡ true)).
      let l : length (drop n doc) ≡ length doc - n = length-drop n doc in
      items-fine doc (room_in t) ns np na 0 n (drop n doc) begun t (omega (arith, y.0)) (begun-held (length (drop n doc)) (omega arith)))
      (λ y.
      let l : items_from doc n ≡ [] = items-over doc n (le_of_lt y.0) in
      subst (λ (xs : List Placed). Fine doc (room_in t) ns np na (read_items doc (room_in t) xs begun t)) (sym l)
      (ended-fine doc (room_in t) ns np na 0 begun t (begun-held 0 (omega arith))))
      (leb-cases n (length doc))
  after-fine (Err p) e =
      let h : p ≤ length doc = rw (refused-at doc p e) (mark-within doc) in
      refused-fine doc (room_in t) ns np na 0 begun t (begun-held 0 (omega arith)) 2 p h (λ q. omega arith) refl

  into-fine : Fine doc (room_in t) ns np na (read_into doc t)
  unfolding read_into
  into-fine = after-fine (begin doc) refl

module _ (doc : List ℕ) (ns np na : ℕ) where
  -- the room of blank tables
  abbrev pub space : Room
  space = room_in (blank ns np na)

  long-fine : 1048576 < length doc → Fine doc space ns np na (record { found = refused_at 1 0 begun; tables = blank ns np na })
  unfolding refused_at begun
  long-fine h =
      record {
        refusals = omega arith;
        long = λ _. h;
        places = omega arith;
        accepted = λ e. absurd (omega arith);
        quarters = λ _. refl;
        depths = depth_le (rows_of 0) 0 true;
        shut = λ e. absurd (omega arith);
        kinds = omega arith;
        series = omega arith;
        intervals = omega arith;
        series-room = omega arith;
        intervals-room = omega arith;
        cells = blank-past ns np na 0 0;
        sized = blank-sized ns np na;
      }

  -- where a refusal clears the tables
  cleared : (o : Out) → Fine doc space ns np na o → Fine doc space ns np na (or_blank ns np na o)
  unfolding or_blank
  cleared o f =
      record {
        refusals = f.refusals;
        long = f.long;
        places = f.places;
        accepted = f.accepted;
        quarters = f.quarters;
        depths = f.depths;
        shut = f.shut;
        kinds = f.kinds;
        series = f.series;
        intervals = f.intervals;
        series-room = f.series-room;
        intervals-room = f.intervals-room;
        cells =
            by_cond (ZeroPast o.found.series o.found.intervals) (eqb o.found.refusal 0) f.cells
            (blank-past ns np na o.found.series o.found.intervals);
        sized = by_cond (Sized ns np na) (eqb o.found.refusal 0) f.sized (blank-sized ns np na);
      }

  pub sheet-fine : Fine doc space ns np na (read_sheet doc ns np na)
  unfolding read_sheet
  sheet-fine =
      ⊎_elim
      (λ y. rw y.1 (cleared (record { found = refused_at 1 0 begun; tables = blank ns np na }) (long-fine y.0)))
      (λ y.
      rw y.1
      (cleared (read_into doc (blank ns np na)) (into-fine doc ns np na (blank ns np na) (blank-past ns np na 0 0) (blank-sized ns np na))))
      (ltb-cases 1048576 (length doc))

  -- "On every refusal by the document reader, all cells of the three tables are 0."
  pub sheet-cleared : ((read_sheet doc ns np na).found.refusal ≡ 0 → ⊥) → (read_sheet doc ns np na).tables ≡ blank ns np na
  unfolding read_sheet or_blank
  sheet-cleared f = rw (ne_eqb _ 0 f) refl

  pub sheet-long : 1048576 < length doc → (read_sheet doc ns np na).found ≡ refused_at 1 0 begun
  unfolding read_sheet or_blank
  sheet-long h = rw (lt-ltb 1048576 (length doc) h) refl

-- "Room for series is the table length divided by 8, rounded down. .. room is the shorter length."
room-holds : (ns np na series intervals : ℕ) → series ≤ (room_of ns np na).series → intervals ≤ (room_of ns np na).intervals → InRoom ns np na series intervals
room-holds ns np na series intervals a b =
    let c = room-cells ns np na series intervals a b in
    record { series-rows = c.0; position-rows = c.1; amount-rows = c.2 }

pub sheet-room : (doc : List ℕ) (ns np na : ℕ)
    → InRoom ns np na (read_sheet doc ns np na).found.series (read_sheet doc ns np na).found.intervals
unfolding room_in
sheet-room doc ns np na =
    let f = sheet-fine doc ns np na in
    let b = blank-sized ns np na in
    room-holds ns np na (read_sheet doc ns np na).found.series (read_sheet doc ns np na).found.intervals
    (rw (b.series, b.positions, b.amounts) at f.series-room) (rw (b.series, b.positions, b.amounts) at f.intervals-room)
