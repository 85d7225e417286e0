-- The signs of a document one after the other: from a place in the table, a tally and the tables so far, each sign is due and taken. Over the
-- spelling of elements that is the walk over them. Assumes nothing.
use Prim.Native.Nat.{ℕ}
use mathlib.Core.Path.{◌≡◌, refl, sym, ap, subst, ◌∙◌}
use mathlib.Core.List.{List, [], ◌∷◌, ◌++◌}
use mathlib.Core.Bool.{Bool, true, false}
use lib.ListN.{get_or}
use Rattle.std.specs.Prelude.{Option, Some, None}
use Rattle.items.specs.Parts.{span_of}
use Rattle.structure.specs.Rows.{name_of, start_of, end_of, over_of}
use Rattle.structure.proofs.Means.{start-made}
use Rattle.columns.specs.Columns.{role_of}
use Rattle.states.specs.Moves.{entry_of}
use Rattle.states.specs.declared.Room.{Room}
use Rattle.states.specs.declared.Entry.{Entry}
use Rattle.reader.specs.Items.{Placed}
use Rattle.reader.specs.Rows.{used_before}
use Rattle.reader.specs.Reading.{Tables}
use Rattle.trees.specs.Trees.{Sign, Opens, Closes, Trees, none, element, spell}
use Rattle.trees.specs.Cursor.{on_row, follows, row_after, open_after}
use Rattle.trees.proofs.Along.{Along, spell-on, closes-after, due-within}
use Rattle.contents.specs.Legal.{position_of}
use Rattle.contents.proofs.Walk.{Tally, opened, walked, Takes, Shuts, Heeds, Passes}
use Rattle.contents.proofs.Fill.{said_of, saying, tables_with, filled, Unused}

-- a row is due, and this holds of it
abbrev OnRow : Option ℕ → (ℕ → Type 0) → Type 0
OnRow (Some q) P = P q
OnRow None P = ⊥

pub on-row : (d : Option ℕ) (P : ℕ → Type 0) → OnRow d P → (q : ℕ) × (d ≡ Some q) × P q
on-row (Some q) P h = (q, refl, h)
on-row None P h = absurd h

pub row_on : (d : Option ℕ) (P : ℕ → Type 0) (q : ℕ) → d ≡ Some q → P q → OnRow d P
row_on d P q e h = subst (λ (f : Option ℕ). OnRow f P) (sym e) h

pub row_of : (d : Option ℕ) (P : ℕ → Type 0) (q : ℕ) → d ≡ Some q → OnRow d P → P q
row_of d P q e h = subst (λ (f : Option ℕ). OnRow f P) e h

-- where the signs have come to: a row, whether it is open, the tally and the tables
abbrev pub Goal : Type 1
Goal = ℕ → Bool → Tally → Tables → Type 0

-- the tally after a start tag of row q
abbrev pub after : List ℕ → ℕ → Placed → Tally → Tally
after rows q x y = opened (get_or rows q 0) (said_of x) y

-- what it brings into the tables
abbrev pub bringing : List ℕ → ℕ → Placed → Entry
bringing rows q x = entry_of (role_of (get_or rows q 0)) (position_of (said_of x))

-- its TimeSeriesIdentification, if it brings one, is new, y being the tally after it
abbrev pub New : List ℕ → List ℕ → ℕ → Placed → Tally → Tables → Type 0
New doc rows q x y t = used_before doc t.series (span_of x.item) x.rest y.series (bringing rows q x) ≡ false

module _ (doc : List ℕ) (room : Room) (kind : ℕ) (rows : List ℕ) where
  unfoldable pub Runs : Goal → List (Sign Placed) → ℕ → Bool → Tally → Tables → Type 0
  Runs goal [] r o y t = goal r o y t
  Runs goal (Opens x name ∷ s) r o y t =
      OnRow (start_of rows r o name)
      (λ q.
      Takes kind room (get_or rows q 0) (said_of x) y
      × New doc rows q x (after rows q x y) t
      × Runs goal s q true (after rows q x y) (tables_with kind rows q x (after rows q x y) t))
  Runs goal (Closes name ∷ s) r o y t =
      OnRow (end_of rows r o name) (λ q. Shuts kind (get_or rows q 0) y × Runs goal s q false y t)

  -- what a start tag's row has to pass, and an end tag's, with the signs s after it
  abbrev pub Opening : Goal → Placed → List (Sign Placed) → Tally → Tables → ℕ → Type 0
  Opening goal x s y t q =
      Takes kind room (get_or rows q 0) (said_of x) y
      × New doc rows q x (after rows q x y) t
      × Runs goal s q true (after rows q x y) (tables_with kind rows q x (after rows q x y) t)

  abbrev pub Closing : Goal → List (Sign Placed) → Tally → Tables → ℕ → Type 0
  Closing goal s y t q = Shuts kind (get_or rows q 0) y × Runs goal s q false y t

  pub respelled : (goal : Goal) (r : ℕ) (o : Bool) (y : Tally) (t : Tables) {a b : List (Sign Placed)} → a ≡ b → Runs goal a r o y t → Runs goal b r o y t
  respelled goal r o y t e h = subst (λ (s : List (Sign Placed)). Runs goal s r o y t) e h

  -- the cursor goes with it
  pub runs-follow : (s : List (Sign Placed)) (r : ℕ) (o : Bool) (y : Tally) (t : Tables) → Runs (λ r o y t. over_of rows r o ≡ true) s r o y t
      → follows rows r o s ≡ true
  unfolding Runs follows on_row
  runs-follow [] r o y t h = h
  runs-follow (Opens x name ∷ s) r o y t h =
      let k = on-row (start_of rows r o name) (Opening (λ r o y t. over_of rows r o ≡ true) x s y t) h in
      ap (λ (d : Option ℕ). on_row d (λ q. follows rows q true s)) k.1
      ∙ runs-follow s k.0 true (after rows k.0 x y) (tables_with kind rows k.0 x (after rows k.0 x y) t) k.2.2
  runs-follow (Closes name ∷ s) r o y t h =
      let k = on-row (end_of rows r o name) (Closing (λ r o y t. over_of rows r o ≡ true) s y t) h in
      ap (λ (d : Option ℕ). on_row d (λ q. follows rows q false s)) k.1 ∙ runs-follow s k.0 false y t k.2.1

  module _ (goal : Goal) where
    -- ---- along elements that the cursor goes over

    pub runs-along : (kids : Trees Placed) (r : ℕ) (o : Bool) (y : Tally) (t : Tables) → Along rows r o kids → (rest : List (Sign Placed))
        → Runs goal (spell rows kids ++ rest) r o y t
        → (Passes kind room rows (saying kids) y × Heeds kind rows (saying kids) y)
        × Unused doc kind rows kids y t
        × Runs goal rest (row_after r kids) (open_after o kids) (walked rows (saying kids) y) (filled kind rows kids y t)
    unfolding Runs spell row_after open_after saying Passes Heeds Unused walked filled
    runs-along none r o y t a rest h = ((tt, tt), tt, h)
    runs-along (element q x inner later) r o y t a rest h =
        let name = name_of (get_or rows q 0) in
        let l = due-within rows r o name q a.0 in
        let y1 = after rows q x y in
        let t1 = tables_with kind rows q x y1 t in
        let y2 = walked rows (saying inner) y1 in
        let t2 = filled kind rows inner y1 t1 in
        let behind = spell rows inner ++ (Closes name ∷ (spell rows later ++ rest)) in
        let h0 : Runs goal (Opens x name ∷ behind) r o y t =
        respelled goal r o y t (spell-on Placed rows q x inner later rest) h in
        let h1 =
        row_of (start_of rows r o name) (Opening goal x behind y t) q (start-made rows r name q o a.0) h0 in
        let h2 = runs-along inner q true y1 t1 a.1 (Closes name ∷ (spell rows later ++ rest)) h1.2 in
        let h3 =
        row_of (end_of rows (row_after q inner) (open_after true inner) name) (Closing goal (spell rows later ++ rest) y2 t2) q
        (closes-after Placed rows inner q true q refl l l a.1) h2.2 in
        let h4 = runs-along later q false y2 t2 a.2 rest h3.1 in (
          ((h1.0.0, h2.0.0, h3.0.0, h4.0.0), (h1.0.1, h2.0.1, h3.0.1, h4.0.1)),
          (h1.1, h2.1, h4.1),
          h4.2,
        )

    pub along-runs : (kids : Trees Placed) (r : ℕ) (o : Bool) (y : Tally) (t : Tables) → Along rows r o kids → (rest : List (Sign Placed))
        → Passes kind room rows (saying kids) y
        → Heeds kind rows (saying kids) y
        → Unused doc kind rows kids y t
        → Runs goal rest (row_after r kids) (open_after o kids) (walked rows (saying kids) y) (filled kind rows kids y t)
        → Runs goal (spell rows kids ++ rest) r o y t
    unfolding Runs spell row_after open_after saying Passes Heeds Unused walked filled
    along-runs none r o y t a rest p b u h = h
    along-runs (element q x inner later) r o y t a rest p b u h =
        let name = name_of (get_or rows q 0) in
        let l = due-within rows r o name q a.0 in
        let y1 = after rows q x y in
        let t1 = tables_with kind rows q x y1 t in
        let y2 = walked rows (saying inner) y1 in
        let t2 = filled kind rows inner y1 t1 in
        let behind = spell rows inner ++ (Closes name ∷ (spell rows later ++ rest)) in
        let h4 = along-runs later q false y2 t2 a.2 rest p.3 b.3 u.2 h in
        let h3 : Runs goal (Closes name ∷ (spell rows later ++ rest)) (row_after q inner) (open_after true inner) y2 t2 =
        row_on (end_of rows (row_after q inner) (open_after true inner) name) (Closing goal (spell rows later ++ rest) y2 t2) q
        (closes-after Placed rows inner q true q refl l l a.1) ((p.2, b.2), h4) in
        let h2 = along-runs inner q true y1 t1 a.1 (Closes name ∷ (spell rows later ++ rest)) p.1 b.1 u.1 h3 in
        let h1 : Runs goal (Opens x name ∷ behind) r o y t =
        row_on (start_of rows r o name) (Opening goal x behind y t) q (start-made rows r name q o a.0) ((p.0, b.0), u.0, h2) in
        respelled goal r o y t (sym (spell-on Placed rows q x inner later rest)) h1
