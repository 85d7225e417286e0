use mathlib.Core.Path.{refl}
use borrow.Author.Rules.{rules}
use Rattle.slices.specs.Same.{same}
use Rattle.elements.specs.Names.{names, number_in, element_no}
use Rattle.guideline.specs.Rows.{beschaffungsanforderung, kostenblatt, network_constraint_document, every_row}
use Rattle.guideline.proofs.every_row.Goals as goal

pub returns : goal.returns
unfolding every_row beschaffungsanforderung kostenblatt network_constraint_document element_no number_in names same
returns c = record { rows = refl; size = search rules }
