use mathlib.Core.Path.{refl}
use Rattle.reader.specs.Reading.{accepted_at}
use Rattle.reader.proofs.accepted_at.Goals as goal

pub returns : goal.returns
unfolding accepted_at
returns c = refl
