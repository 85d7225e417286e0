-- The place of a refusal is that of an item, of the XML declaration, or the length, by induction over the items. Assumes nothing.
use Prim.Native.Nat.{ℕ, zero, suc, pred, ◌≤◌}
use mathlib.Core.Path.{◌≡◌, refl}
use mathlib.Core.List.{List, [], ◌∷◌}
use mathlib.Core.Bool.{Bool, true, false, cond}
use mathlib.Core.Logic.{◌⊎◌, inl, inr, ⊎_elim}
use lib.Dec.{eqb}
use lib.ListN.{length, drop}
use borrow.Author.Tests.{eq-eqb, le-ltb}
use Rattle.std.specs.Prelude.{Result, Ok, Err}
use Rattle.lists.proofs.Cases.{by_cond}
use Rattle.items.specs.Item.{item, item_end}
use Rattle.prolog.specs.Prolog.{begin}
use Rattle.structure.specs.Rows.{over_of}
use Rattle.guideline.specs.Rows.{rows_of}
use Rattle.states.specs.Moves.{begun}
use Rattle.states.specs.declared.State.{State}
use Rattle.states.specs.declared.Room.{Room}
use Rattle.states.specs.declared.Entry.{Entry}
use Rattle.states.specs.Step.{Step, Next, Refused}
use Rattle.reader.specs.Items.{Placed, placed, items_after, items_from}
use Rattle.reader.specs.Reading.{Tables, Out, blank, room_in, refused_at, accepted_at, ended_at, step_of, tables_after, read_items, items_read, read_after, read_into, or_blank, read_sheet}
use Rattle.reader.proofs.Ran.{read_next, read-stop}
use Rattle.promises.specs.Items.{stands_at, items_by, items_in, PlaceOf}

module _ (doc : List ℕ) (room : Room) where
  -- at the length, or at one of these items
  abbrev Here : List Placed → Out → Type 0
  Here xs o = (o.found.place ≡ length doc) ⊎ (stands_at o.found.place xs ≡ true)

  ended_by : (st : State) (t : Tables) (b : Bool)
      → Here [] (record {
        found =
            cond b (accepted_at (length doc) st) (refused_at 3 (length doc) st);
        tables = t;
      })
  unfolding accepted_at refused_at
  ended_by st t true = inl refl
  ended_by st t false = inl refl

  ended_here : (st : State) (t : Tables) → Here [] (record { found = ended_at (rows_of st.kind) (length doc) st; tables = t })
  unfolding ended_at
  ended_here st t = ended_by st t (over_of (rows_of st.kind) st.row st.inside)

  stands-first : (p : Placed) (xs : List Placed) → stands_at p.at (p ∷ xs) ≡ true
  unfolding stands_at
  stands-first p xs = rw (eq-eqb p.at p.at refl) refl

  stands-later : (place : ℕ) (p : Placed) (xs : List Placed) → stands_at place xs ≡ true → stands_at place (p ∷ xs) ≡ true
  unfolding stands_at
  stands-later place p xs h = by_cond (λ (t : Bool). t ≡ true) (eqb p.at place) refl h

  turn-here : (p : Placed) (xs : List Placed) (st : State) (t : Tables)
      → ((y : State) (e : Entry) → Here xs (read_items doc room xs y (tables_after p y e t)))
      → (q : Step) → step_of doc t.series room p st ≡ q → Here (p ∷ xs) (read_items doc room (p ∷ xs) st t)
  unfolding refused_at
  turn-here p xs st t more (Next y e) w =
      rw (read_next doc room p xs st t y e w) (⊎_elim (λ h. inl h) (λ h. inr (stands-later _ p xs h)) (more y e))
  turn-here p xs st t more (Refused n) w = rw (read-stop doc room p xs st t n w) (inr (stands-first p xs))

  items-here : (k at : ℕ) (l : List ℕ) (st : State) (t : Tables) → Here (items_after k at l) (read_items doc room (items_after k at l) st t)
  unfolding items_after read_items
  items-here k at [] st t = ended_here st t
  items-here (suc k) at (c ∷ l) st t = items-here k (suc at) l st t
  items-here zero at (c ∷ l) st t =
      let p = placed at (c ∷ l) in
      let n = pred (item_end (item at (c ∷ l))) in
      turn-here p (items_after n (suc at) l) st t (λ y e. items-here n (suc at) l y (tables_after p y e t)) (step_of doc t.series room p st) refl

after-here : (doc : List ℕ) (t : Tables) (b : Result ℕ ℕ) → begin doc ≡ b → PlaceOf doc (read_after doc t b).found.place
unfolding read_after items_read items_from items_in items_by refused_at
after-here doc t (Ok n) e =
    rw e (⊎_elim (λ h. inl h) (λ h. inr (inl h)) (items-here doc (room_in t) 0 n (drop n doc) begun t))
after-here doc t (Err p) e = inr (inr e)

pub sheet-here : (doc : List ℕ) (ns np na : ℕ) → length doc ≤ 1048576 → PlaceOf doc (read_sheet doc ns np na).found.place
unfolding read_sheet or_blank read_into
sheet-here doc ns np na h = rw (le-ltb 1048576 (length doc) h) (after-here doc (blank ns np na) (begin doc) refl)
