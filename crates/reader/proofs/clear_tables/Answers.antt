use Rattle.reader.specs.Reading.{blank}
use Rattle.reader.proofs.clear_tables.Goals as goal

pub returns : goal.returns
unfolding blank
returns c = simp (← c.clear_amounts.ensures, ← c.clear_numbers-2.ensures, ← c.clear_numbers.ensures)
