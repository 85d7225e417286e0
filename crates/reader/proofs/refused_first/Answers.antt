use mathlib.Core.Path.{refl}
use Rattle.structure.specs.Depth.{height_in, depth_of}
use Rattle.guideline.specs.Rows.{rows_of}
use Rattle.states.specs.Moves.{begun}
use Rattle.reader.specs.Reading.{refused_at}
use Rattle.reader.proofs.refused_first.Goals as goal

pub returns : goal.returns
unfolding refused_at begun depth_of height_in rows_of
returns c = rw c.number.ensures
