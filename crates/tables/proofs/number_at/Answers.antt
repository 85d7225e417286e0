use Rattle.lists.proofs.Tests.{tests}
use Rattle.tables.proofs.number_at.Goals as goal

pub returns-else-i-t : goal.returns-else-i-t
returns-else-i-t c = search tests
