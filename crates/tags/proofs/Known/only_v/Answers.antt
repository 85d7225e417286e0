use Rattle.slices.specs.Same.{same}
use Rattle.tags.specs.Known.{with_attribute, none_known, up_to_two, absent}
use Rattle.tags.proofs.Known.only_v.Goals as goal

pub returns : goal.returns
unfolding with_attribute same none_known up_to_two absent
returns c = simp (← c.none-dtd.ensures)
