use Rattle.slices.specs.Same.{same}
use Rattle.elements.specs.Names.{names, number_in, element_no}
use Rattle.guideline.specs.Kinds.{no_kind}
use Rattle.guideline.proofs.Kind.unknown.Goals as goal

pub returns : goal.returns
unfolding no_kind element_no number_in names same
returns c = simp (← c.none-dtd.ensures)
