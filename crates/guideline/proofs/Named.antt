-- Each row of each kind bears the number of an element's name: one computed test. That they are structure tables is in crate trees.
-- Assumes nothing.
use Prim.Native.Nat.{ℕ}
use mathlib.Core.Path.{◌≡◌, refl}
use mathlib.Core.List.{List, [], ◌∷◌}
use mathlib.Core.Bool.{Bool, true, false, ◌&&◌}
use lib.Dec.{leb}
use lib.ListN.{length}
use Rattle.slices.specs.Same.{same}
use Rattle.elements.specs.Names.{names, number_in, element_no}
use Rattle.structure.specs.Rows.{name_of}
use Rattle.guideline.specs.Rows.{beschaffungsanforderung, kostenblatt, network_constraint_document, rows_of}
use Rattle.guideline.proofs.Each.{each_kind}

abbrev each_named : List ℕ → Bool
each_named [] = true
each_named (w ∷ ws) = leb 1 (name_of w) && leb (name_of w) (length names) && each_named ws

-- row 0 is the document, which has no name of an element
abbrev pub rows_named : List ℕ → Bool
rows_named [] = false
rows_named (w ∷ ws) = each_named ws

pub tables-named : each_kind (λ k. rows_named (rows_of k)) ≡ true
unfolding rows_of beschaffungsanforderung kostenblatt network_constraint_document element_no number_in names same name_of
tables-named = refl
