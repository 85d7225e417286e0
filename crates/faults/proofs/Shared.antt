-- An item that stands with the same bytes at one place of two documents moves the state and the tables alike. Assumes nothing.
use Prim.Native.Nat.{ℕ}
use mathlib.Core.Path.{◌≡◌, refl, ap, ◌∙◌}
use mathlib.Core.List.{List}
use mathlib.Core.Bool.{Bool, true, false}
use lib.ListN.{drop, get_or}
use Rattle.std.specs.Prelude.{Option, Some, None}
use Rattle.lists.proofs.Cases.{zero-not-one}
use Rattle.slices.specs.Part.{part_of}
use Rattle.elements.specs.Names.{element_no}
use Rattle.structure.specs.Rows.{start_of}
use Rattle.guideline.specs.Rows.{rows_of}
use Rattle.items.specs.Item.{is_readable}
use Rattle.items.specs.Parts.{span_of}
use Rattle.items.specs.declared.Tag.{Tag}
use Rattle.items.specs.declared.Item.{Item}
use Rattle.items.specs.declared.Item.TheVariants.{Start, Empty, End, Text, Comment, Unreadable}
use Rattle.rules.specs.declared.Held.{Held}
use Rattle.states.specs.Attributes.{said_in, scheme_refusal, value_fixed, dtd_fixed, judge_tag}
use Rattle.states.specs.Moves.{held_of, values_judged, judged_at, start_judged, started_at, started, moved, root_kind, kind_told, step}
use Rattle.states.specs.declared.State.{State}
use Rattle.states.specs.declared.Room.{Room}
use Rattle.states.specs.declared.Entry.{Entry}
use Rattle.states.specs.Step.{Step, Next, Refused}
use Rattle.reader.specs.Rows.{quoted}
use Rattle.reader.specs.Items.{Placed}
use Rattle.reader.specs.Reading.{Tables, without_used, step_of, tables_after}
use Rattle.digits.specs.Items.{value_in, PartsSame}
use Rattle.blindness.proofs.Shown.{Shown, shown-next, same-used, same_after}
use Rattle.blindness.proofs.Runs.{amounts-same}
use Rattle.fronts.proofs.Items.{Says}

-- ---- the state

module _ (t : Tag) (s s' : List ℕ) (p : PartsSame t s s' × (value_in s t.v ≡ value_in s' t.v)) where
  judge-same : (w : ℕ) (h : Held) → judge_tag w t h s ≡ judge_tag w t h s'
  unfolding judge_tag dtd_fixed value_fixed scheme_refusal said_in
  judge-same w h = rw (p.0.version, p.0.release, p.0.message, p.0.coding, p.1)

  start-same : (x : State) (kind : ℕ) (rows : List ℕ) (empty : Bool) (room : Room)
      → started x kind rows (element_no (part_of s 1 t.name)) t s empty room ≡ started x kind rows (element_no (part_of s' 1 t.name)) t s' empty room
  unfolding started started_at start_judged judged_at values_judged
  start-same x kind rows empty room =
      by (start_of rows x.row x.inside (element_no (part_of s 1 t.name))) ∙ ap (λ (n : List ℕ). started x kind rows (element_no n) t s' empty room) p.0.name
    where
      by : (d : Option ℕ) → started_at x kind rows t s empty room d ≡ started_at x kind rows t s' empty room d
      by (Some r) = rw (judge-same (get_or rows r 0) (held_of x kind))
      by None = refl

module _ (s s' : List ℕ) where
  pub step_same : (x : State) (room : Room) (i : Item) → Says i s s' → step x i s room ≡ step x i s' room
  unfolding step kind_told root_kind moved Says
  step_same x room (Start t) p = start-same t s s' p x (kind_told x (Start t) s) (rows_of (kind_told x (Start t) s)) false room ∙ rw p.0.name
  step_same x room (Empty t) p = start-same t s s' p x (kind_told x (Empty t) s) (rows_of (kind_told x (Empty t) s)) true room ∙ rw p.0.name
  step_same x room (End n e) p = rw p
  step_same x room (Text w e) p = refl
  step_same x room (Comment e) p = refl
  step_same x room (Unreadable q) p = refl

  pub quoted-same : (i : Item) → Says i s s' → quoted (span_of i) s ≡ quoted (span_of i) s'
  unfolding Says span_of quoted part_of
  quoted-same (Start t) p = p.1
  quoted-same (Empty t) p = p.1
  quoted-same (End n e) p = refl
  quoted-same (Text w e) p = refl
  quoted-same (Comment e) p = refl
  quoted-same (Unreadable q) p = refl

-- an item that moved the state can be read
pub moved-read : (doc table : List ℕ) (room : Room) (p : Placed) (st st' : State) (e : Entry) → step_of doc table room p st ≡ Next st' e → is_readable p.item ≡ true
unfolding step_of without_used step moved
moved-read doc table room p st st' e q = by p.item refl
  where
    by : (i : Item) → p.item ≡ i → is_readable i ≡ true
    by (Start t) z = refl
    by (Empty t) z = refl
    by (End n k) z = refl
    by (Text w k) z = refl
    by (Comment k) z = refl
    by (Unreadable u) z = let f : Refused 2 ≡ Next st' e = rw z at q in absurd (zero-not-one (cc))

-- ---- the documents x and y, and the series table, of which each row shows the same identification in both

abbrev pub SameRows : List ℕ → List ℕ → List ℕ → Type 0
SameRows x y table = Shown x y ◌≡◌ refl table

module _ (x y : List ℕ) (room : Room) (at : ℕ) (i : Item) (s s' : List ℕ) (p : Says i s s') (st : State) (t : Tables) (h : SameRows x y t.series) where
  abbrev here : Placed
  here = record { at = at; item = i; rest = s }

  abbrev there : Placed
  there = record { at = at; item = i; rest = s' }

  pub same_step : step_of x t.series room here st ≡ step_of y t.series room there st
  unfolding step_of without_used
  same_step = by (step st i s room) ∙ ap (without_used y t.series i s') (step_same s s' st room i p)
    where
      by : (q : Step) → without_used x t.series i s q ≡ without_used y t.series i s' q
      by (Next st' e) = rw (same-used x y ◌≡◌ refl (span_of i) s s' t.series h st'.series e (λ id a b z. rw (z, quoted-same s s' i p)))
      by (Refused n) = refl

  pub same_tables : (st' : State) (e : Entry) → tables_after here st' e t ≡ tables_after there st' e t
  unfolding tables_after
  same_tables st' e =
      let q = quoted-same s s' i p in
      rw (same_after at (span_of i) s s' st' e t.series (λ z. q), amounts-same (span_of i) s s' st' e t.amounts (λ z. q))

  pub same_rows : s ≡ drop at x → s' ≡ drop at y → (st' : State) (e : Entry) → SameRows x y (tables_after here st' e t).series
  unfolding tables_after
  same_rows ex ey st' e = shown-next x y ◌≡◌ refl at (span_of i) s s' st' e t.series ex ey h (λ id. quoted-same s s' i p)
