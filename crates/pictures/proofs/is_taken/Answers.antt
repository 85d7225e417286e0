use borrow.Author.Tests.{eq-eqb, ne_eqb}
use Rattle.pictures.specs.Picture.{takes}
use Rattle.pictures.proofs.is_taken.Goals as goal

pub returns-then-m-eq57 : goal.returns-then-m-eq57
unfolding takes
returns-then-m-eq57 c = simp (← c.is_digit.ensures, eq-eqb _ _ c.if-m-eq57.true)

pub returns-then-m-eq88 : goal.returns-then-m-eq88
unfolding takes
returns-then-m-eq88 c = simp (← c.is_capital_or_digit.ensures, eq-eqb _ _ c.if-m-eq88.true, ne_eqb _ _ c.if-m-eq57.false)

pub returns-then-m-eq35 : goal.returns-then-m-eq35
unfolding takes
returns-then-m-eq35 c = simp (← c.is_party_char.ensures, eq-eqb _ _ c.if-m-eq35.true, ne_eqb _ _ c.if-m-eq88.false, ne_eqb _ _ c.if-m-eq57.false)

pub returns-then-m-eq63 : goal.returns-then-m-eq63
unfolding takes
returns-then-m-eq63 c = simp (← c.is_first_three.ensures, eq-eqb _ _ c.if-m-eq63.true, ne_eqb _ _ c.if-m-eq35.false, ne_eqb _ _ c.if-m-eq88.false, ne_eqb _ _ c.if-m-eq57.false)

pub returns-else-m-eq63 : goal.returns-else-m-eq63
unfolding takes
returns-else-m-eq63 c = simp (ne_eqb _ _ c.if-m-eq63.false, ne_eqb _ _ c.if-m-eq35.false, ne_eqb _ _ c.if-m-eq88.false, ne_eqb _ _ c.if-m-eq57.false)
