use Rattle.pictures.specs.Picture.{party_char}
use Rattle.pictures.proofs.is_party_char.Goals as goal

pub returns-then-is_capital_or_digit : goal.returns-then-is_capital_or_digit
unfolding party_char
returns-then-is_capital_or_digit c = simp (c.if-is_capital_or_digit.true, ← c.is_capital_or_digit.ensures)

pub returns-else-is_capital_or_digit : goal.returns-else-is_capital_or_digit
unfolding party_char
returns-else-is_capital_or_digit c = simp (c.if-is_capital_or_digit.false, ← c.is_capital_or_digit.ensures)
