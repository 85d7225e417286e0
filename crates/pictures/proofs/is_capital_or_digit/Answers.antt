use Rattle.pictures.specs.Picture.{capital_or_digit}
use Rattle.pictures.proofs.is_capital_or_digit.Goals as goal

pub returns-then-is_capital : goal.returns-then-is_capital
unfolding capital_or_digit
returns-then-is_capital c = simp (c.if-is_capital.true, ← c.is_capital.ensures)

pub returns-else-is_capital : goal.returns-else-is_capital
unfolding capital_or_digit
returns-else-is_capital c = simp (← c.is_digit.ensures, c.if-is_capital.false, ← c.is_capital.ensures)
