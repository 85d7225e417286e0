use Rattle.lists.proofs.Tests.{tests}
use Rattle.states.specs.Moves.{entry_of}
use Rattle.states.proofs.row_at.Goals as goal

pub returns-else-row-rows : goal.returns-else-row-rows
unfolding entry_of
returns-else-row-rows c = search tests
