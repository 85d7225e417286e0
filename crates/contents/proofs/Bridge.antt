-- The reader and the walk: a document is accepted exactly where its tags spell elements that conform and the walk over them passes, and then what is
-- found and what is in the tables is what the walk comes to. Assumes nothing.
use Prim.Native.Nat.{ℕ, ◌≤◌}
use mathlib.Core.Path.{◌≡◌, refl, sym, ap, ◌∙◌}
use mathlib.Core.List.{List, [], append-nil}
use mathlib.Core.Bool.{true}
use native.Mathlib.Omega.{arith}
use lib.ListN.{length, drop, length-drop}
use Rattle.structure.specs.Rows.{over_of}
use Rattle.times.specs.Periods.{quarter_hours}
use Rattle.guideline.specs.Rows.{rows_of}
use Rattle.states.specs.Moves.{begun}
use Rattle.states.specs.declared.State.{State}
use Rattle.states.specs.declared.Room.{Room}
use Rattle.reader.specs.Items.{Placed, items_after, items_from}
use Rattle.reader.specs.Reading.{Tables, Out, accepted_at, read_items}
use Rattle.reader.proofs.Ran.{items-few}
use Rattle.trees.specs.Trees.{Trees, spell, Conforms}
use Rattle.trees.specs.Cursor.{follows, row_after, open_after}
use Rattle.trees.proofs.Made.{made}
use Rattle.trees.proofs.Along.{run_along, conforms-along}
use Rattle.trees.proofs.Theorems.{complete, sound}
use Rattle.contents.specs.Spelled.{AllAllowed}
use Rattle.contents.proofs.Laid.{laid, Known}
use Rattle.contents.proofs.Walk.{nothing, walked, Heeds, Passes}
use Rattle.contents.proofs.Fill.{placed_signs, saying, state_of, filled, Unused, Stands}
use Rattle.contents.proofs.Lifted.{spelled-stands}
use Rattle.contents.proofs.Signs.{Runs, respelled, runs-follow, runs-along, along-runs}
use Rattle.contents.proofs.Moved.{Low}
use Rattle.contents.proofs.Items.{Over, Ends, begin-forth, begun-back}

-- The document from the place n on, read into the tables t, is one of a kind, and its tags spell these elements.
pub record Read (doc : List ℕ) (room : Room) (n : ℕ) (t : Tables) (kind : ℕ) (kids : Trees Placed) : Type 0 where
  pub known : Known kind
  pub allowed : AllAllowed (items_from doc n)
  pub tags : placed_signs (items_from doc n) ≡ spell (rows_of kind) kids
  pub conforms : Conforms (rows_of kind) 0 kids
  pub stands : Stands doc kids
  pub passes : Passes kind room (rows_of kind) (saying kids) nothing
  pub heeds : Heeds kind (rows_of kind) (saying kids) nothing
  pub unused : Unused doc kind (rows_of kind) kids nothing t

begun-is : state_of 0 0 true nothing ≡ begun
unfolding state_of nothing begun quarter_hours
begun-is = refl

items-low : (doc : List ℕ) (n : ℕ) → length doc ≤ 1048576 → Low (length (items_from doc n)) nothing
unfolding nothing items_from
items-low doc n h =
    let a = items-few (drop n doc) 0 n in
    let b = length-drop n doc in
    let l : length (items_after 0 n (drop n doc)) ≤ 1048576 = omega (arith, a, b, h) in
    record { series = omega (arith, l); intervals = omega (arith, l); originals = omega (arith, l) }

module _ (doc : List ℕ) (room : Room) (n : ℕ) (t : Tables) (short : length doc ≤ 1048576) where
  pub forth : (read_items doc room (items_from doc n) begun t).found.refusal ≡ 0 → (kind : ℕ) × (kids : Trees Placed) × Read doc room n t kind kids
  forth ok =
      let xs = items_from doc n in
      let b = begin-forth doc room xs t (items-low doc n short) (ap (λ (st : State). (read_items doc room xs st t).found.refusal) begun-is ∙ ok) in
      let kind = b.0 in
      let rows = rows_of kind in
      let w = (laid kind b.1).layout.well in
      let m = made rows w in
      let s = sound Placed rows w (placed_signs xs) (runs-follow doc room kind rows (placed_signs xs) 0 true nothing t b.3) in
      let kids = s.0 in
      let a = conforms-along Placed rows m 0 kids m.some-row s.1 in
      let runs = respelled doc room kind rows (Over kind) 0 true nothing t (s.2 ∙ sym (append-nil (spell rows kids))) b.3 in
      let k = runs-along doc room kind rows (Over kind) kids 0 true nothing t a [] runs in (
        kind,
        kids,
        record {
          known = b.1;
          allowed = b.2;
          tags = s.2;
          conforms = s.1;
          stands = spelled-stands doc n rows kids s.2;
          passes = k.0.0;
          heeds = k.0.1;
          unused = k.1;
        },
      )

  -- what is found, and the tables
  abbrev out_of : ℕ → Trees Placed → Out
  out_of kind kids =
      record {
        found = accepted_at (length doc) (state_of kind (row_after 0 kids) (open_after true kids) (walked (rows_of kind) (saying kids) nothing));
        tables = filled kind (rows_of kind) kids nothing t;
      }

  pub back : (kind : ℕ) (kids : Trees Placed) → Read doc room n t kind kids → read_items doc room (items_from doc n) begun t ≡ out_of kind kids
  unfolding Runs follows
  back kind kids r =
      let xs = items_from doc n in
      let rows = rows_of kind in
      let w = (laid kind r.known).layout.well in
      let m = made rows w in
      let a = conforms-along Placed rows m 0 kids m.some-row r.conforms in
      let over : over_of rows (row_after 0 kids) (open_after true kids) ≡ true =
      sym (run_along Placed rows kids 0 true a []) ∙ ap (follows rows 0 true) (append-nil (spell rows kids)) ∙ complete Placed rows w kids r.conforms in
      let runs = along-runs doc room kind rows (Ends doc kind (out_of kind kids)) kids 0 true nothing t a [] r.passes r.heeds r.unused (over, refl) in
      ap (λ (st : State). read_items doc room xs st t) (sym begun-is)
      ∙ begun-back doc room kind r.known (out_of kind kids) xs t (items-low doc n short) r.allowed
      (respelled doc room kind rows (Ends doc kind (out_of kind kids)) 0 true nothing t (append-nil (spell rows kids) ∙ sym r.tags) runs)
