-- Where a document begins: its first tag starts the root, which tells the kind, and nothing may end before it. Assumes nothing.
use Prim.Native.Nat.{ℕ, ◌<◌}
use mathlib.Core.Path.{◌≡◌, sym, ap, ◌∙◌}
use mathlib.Core.List.{List}
use mathlib.Core.Bool.{Bool, true, false}
use mathlib.Core.Logic.{⊎_elim}
use native.Mathlib.Omega.{arith}
use lib.ListN.{length, get_or}
use Rattle.std.specs.Prelude.{Some}
use Rattle.lists.proofs.Cases.{bool_cases, zero-not-one}
use Rattle.structure.specs.Rows.{name_of, parent_of, start_of, end_of, ends_at_once, over_of}
use Rattle.structure.specs.Means.{EndDue}
use Rattle.structure.proofs.Means.{start-means, end-means}
use Rattle.states.specs.Moves.{cut_short}
use Rattle.trees.specs.Trees.{none}
use Rattle.trees.specs.Cursor.{follows, row_after, open_after}
use Rattle.trees.proofs.Made.{made}
use Rattle.trees.proofs.Along.{over-means, along-conforms, due-within, due-named}
use Rattle.trees.proofs.Theorems.{may-close, empty-ends, empty-conforms}
use Rattle.contents.proofs.Laid.{Layout}
use Rattle.contents.proofs.Shape.{under-document}

module _ (rows : List ℕ) (p : ℕ) (L : Layout rows p) where
  long : 1 < length rows
  long = let s = L.size in let w = L.wide in omega (arith, s, w)

  root_stands : parent_of (get_or rows 1 0) ≡ 0
  root_stands = L.stands 1 (omega arith) long

  -- the first tag
  pub first-row : (name q : ℕ) → start_of rows 0 true name ≡ Some q → name_of (get_or rows 1 0) ≡ name
  first-row name q e =
      let d = (start-means rows 0 name q true e).1 in
      ap (λ (i : ℕ). name_of (get_or rows i 0)) (sym (under-document rows p L q d.within d.stands)) ∙ d.named

  none-due : (name q : ℕ) → EndDue rows 0 true name q → ⊥
  none-due name q d =
      let z : ◌≡◌ {A = Bool} true false = sym L.must-root ∙ d.complete 1 (omega arith) long (root_stands ∙ sym d.innermost) in
      zero-not-one (cc)

  pub no_end : (name q : ℕ) → end_of rows 0 true name ≡ Some q → ⊥
  no_end name q e = none-due name q (end-means rows 0 name q true e)

  pub not-over : over_of rows 0 true ≡ true → ⊥
  unfolding follows
  not-over e = none-due 255 0 (over-means ℕ rows 0 true e)

  pub row_within : (r : ℕ) (o : Bool) (name q : ℕ) → start_of rows r o name ≡ Some q → q < length rows
  row_within r o name q e = due-within rows r o name q (start-means rows r name q o e)

  pub row-named : (r : ℕ) (o : Bool) (name q : ℕ) → start_of rows r o name ≡ Some q → name_of (get_or rows q 0) ≡ name
  row-named r o name q e = due-named rows r o name q (start-means rows r name q o e)

  -- ---- an empty tag

  pub short-ends : (q : ℕ) → cut_short true rows q ≡ false → ends_at_once rows q ≡ true
  unfolding cut_short
  short-ends q h =
      ⊎_elim
      (λ y. y)
      (λ y. let z : ◌≡◌ {A = Bool} true false = rw y at h in absurd (zero-not-one (cc)))
      (bool_cases (ends_at_once rows q))

  -- an end tag right after the start tag closes its row, where nothing has to come in it
  pub ends-row : (q name : ℕ) → q < length rows → name_of (get_or rows q 0) ≡ name → ends_at_once rows q ≡ true → end_of rows q true name ≡ Some q
  unfolding row_after open_after
  ends-row q name l n e =
      ap (λ (i : ℕ). end_of rows q true i) (sym n) ∙ may-close ℕ rows L.well q none l (empty-conforms ℕ rows L.well q l e)

  pub row_ends : (q name i : ℕ) → q < length rows → end_of rows q true name ≡ Some i → (i ≡ q) × (cut_short true rows q ≡ false)
  unfolding cut_short
  row_ends q name i l e =
      let d = end-means rows q name i true e in
      let c = along-conforms ℕ rows (made rows L.well) q none l (λ j a b s. d.complete j a b (s ∙ sym d.innermost)) in
      (d.innermost, rw (empty-ends ℕ rows L.well q l c))
