use Rattle.reader.specs.Reading.{refused_at}
use Rattle.reader.proofs.refused_at.Goals as goal

pub returns : goal.returns
unfolding refused_at
returns c = rw (c.depth_after-depth.ensures, c.number.ensures, c.requires)
