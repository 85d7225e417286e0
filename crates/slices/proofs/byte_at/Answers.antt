use Rattle.lists.proofs.Tests.{tests}
use Rattle.slices.specs.Bytes.{byte}
use Rattle.slices.proofs.byte_at.Goals as goal

pub returns-then-i-s : goal.returns-then-i-s
unfolding byte
returns-then-i-s c = search tests

pub returns-else-i-s : goal.returns-else-i-s
unfolding byte
returns-else-i-s c = search tests
