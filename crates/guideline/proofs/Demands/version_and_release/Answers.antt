use mathlib.Core.Path.{refl}
use Rattle.guideline.specs.Kinds.{version_and_release}
use Rattle.guideline.proofs.Demands.version_and_release.Goals as goal

pub returns : goal.returns
unfolding version_and_release
returns c = refl
