use mathlib.Core.Path.{refl}
use Rattle.writer.specs.Permitted.{two_in}
use Rattle.writer.proofs.put_two.Goals as goal

pub returns : goal.returns
unfolding two_in
returns c = rw (c.set_number-2.ensures, c.set_number.ensures, c.clear_numbers.ensures) refl
