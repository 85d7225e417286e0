use Rattle.slices.specs.Same.{same}
use Rattle.elements.specs.Names.{names, number_in, element_no}
use Rattle.guideline.specs.Kinds.{kind_one}
use Rattle.guideline.proofs.Kind.one.Goals as goal

pub returns : goal.returns
unfolding kind_one element_no number_in names same
returns c = simp (← c.message_alone-dtd.ensures)
