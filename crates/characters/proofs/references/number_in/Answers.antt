use Rattle.characters.proofs.Referring.{counted-more, counted-end}
use Rattle.characters.proofs.references.number_in.Goals as goal

pub loop-b-preserved : goal.loop-b-preserved
loop-b-preserved c = counted-more c.loop-b.invariant c.loop-b-test.true c.base_of.ensures.base c.digit_value.ensures.value c.capped_at-n.ensures

pub returns : goal.returns
returns c = counted-end c.loop-b.invariant c.loop-b-test.false
