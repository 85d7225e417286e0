use Rattle.slices.specs.Same.{same}
use Rattle.elements.specs.Names.{names, number_in, element_no}
use Rattle.guideline.specs.Kinds.{kind_three}
use Rattle.guideline.proofs.Kind.three.Goals as goal

pub returns : goal.returns
unfolding kind_three element_no number_in names same
returns c = simp (← c.version_and_release-dtd.ensures)
