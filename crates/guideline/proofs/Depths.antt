-- The rows of each kind stand one in another, up to row 0: a computed test. Assumes nothing.
use Prim.Native.Nat.{ℕ, suc, ◌<◌}
use mathlib.Core.Path.{◌≡◌, refl, sym, ◌∙◌}
use mathlib.Core.List.{List}
use mathlib.Core.Bool.{Bool, true, false, cond, not}
use native.Mathlib.Omega.{arith}
use lib.Dec.{eqb, ltb}
use lib.ListN.{length, get_or}
use borrow.Author.Tests.{ne_eqb, eqb-true, ltb-true, not-true}
use Rattle.lists.proofs.Cases.{both_true}
use Rattle.slices.specs.Same.{same}
use Rattle.elements.specs.Names.{names, number_in, element_no}
use Rattle.structure.specs.Rows.{name_of, parent_of, repeated}
use Rattle.structure.specs.Depth.{height_in}
use Rattle.structure.proofs.Depths.{Deep}
use Rattle.guideline.specs.Kinds.{is_kind}
use Rattle.guideline.specs.Rows.{beschaffungsanforderung, kostenblatt, network_constraint_document, rows_of}
use Rattle.guideline.proofs.Each.{each_row, row_of, of-kind}

module _ (t : List ℕ) where
  -- a row is one element deeper than the row in which it stands, which is one of the table
  abbrev climbs_one : ℕ → ℕ → Bool
  climbs_one i w = cond (eqb i 0) true (cond (eqb (height_in 16 t i) (suc (height_in 16 t (parent_of w)))) (ltb (parent_of w) 255) false)

  abbrev deep_test : Bool
  deep_test =
      cond (eqb (parent_of (get_or t 0 0)) 255)
      (cond (not (repeated (get_or t 0 0))) (cond (eqb (name_of (get_or t 0 0)) 255) (each_row climbs_one 0 t) false) false)
      false

  deep-by : deep_test ≡ true → Deep t
  deep-by h =
      let a = both_true (eqb (parent_of (get_or t 0 0)) 255) h in
      let b = both_true (not (repeated (get_or t 0 0))) a.1 in
      let c = both_true (eqb (name_of (get_or t 0 0)) 255) b.1 in
      let at : (i : ℕ) → (i ≡ 0 → ⊥) → i < length t
      → (eqb (height_in 16 t i) (suc (height_in 16 t (parent_of (get_or t i 0)))) ≡ true) × (ltb (parent_of (get_or t i 0)) 255 ≡ true) =
      λ i f l. both_true (eqb (height_in 16 t i) (suc (height_in 16 t (parent_of (get_or t i 0))))) (rw (ne_eqb i 0 f) at (row_of climbs_one t c.1 i l)) in
      record {
        climbs = λ i f l. eqb-true (height_in 16 t i) (suc (height_in 16 t (parent_of (get_or t i 0)))) (at i f l).0;
        inner =
            λ i f l e.
            let z = ltb-true (parent_of (get_or t i 0)) 255 (at i f l).1 in
            let y = eqb-true (parent_of (get_or t 0 0)) 255 a.0 in
            omega arith;
        once = not-true (repeated (get_or t 0 0)) b.0;
        named = eqb-true (name_of (get_or t 0 0)) 255 c.0;
      }

pub deep : (kind : ℕ) → is_kind kind ≡ true → Deep (rows_of kind)
unfolding height_in name_of parent_of repeated rows_of beschaffungsanforderung kostenblatt network_constraint_document element_no number_in names same
deep kind known = deep-by (rows_of kind) (of-kind (λ k. deep_test (rows_of k)) refl kind known)
