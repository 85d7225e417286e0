use mathlib.Core.Path.{refl}
use Rattle.tags.specs.Known.{no_dtd, absent}
use Rattle.tags.proofs.Dtd.none.Goals as goal

pub returns : goal.returns
unfolding no_dtd absent
returns c = refl
