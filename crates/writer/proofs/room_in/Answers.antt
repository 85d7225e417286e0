use Rattle.drafts.specs.Written.{room_in}
use borrow.Author.Rules.{rules}
use Rattle.writer.proofs.room_in.Goals as goal

pub returns-then-n-lt-LONGEST : goal.returns-then-n-lt-LONGEST
unfolding room_in
returns-then-n-lt-LONGEST c = record { room = search rules; least = search rules; most = search rules }

pub returns-else-n-lt-LONGEST : goal.returns-else-n-lt-LONGEST
unfolding room_in
returns-else-n-lt-LONGEST c = record { room = search rules; least = search rules; most = search rules }
