use borrow.Author.Tests.{eq-eqb, ne_eqb}
use Rattle.prolog.specs.Prolog.{utf}
use Rattle.prolog.proofs.is_utf.Goals as goal

pub returns-then-v-ne5 : goal.returns-then-v-ne5
unfolding utf
returns-then-v-ne5 c = simp (ne_eqb _ _ c.if-v-ne5.true)

pub returns-then-lower_of-ne117 : goal.returns-then-lower_of-ne117
unfolding utf
returns-then-lower_of-ne117 c = simp (ne_eqb _ _ c.if-lower_of-ne117.true, ← c.lower_of.ensures, ← c.byte_at.ensures, eq-eqb _ _ c.if-v-ne5.false)

pub returns-then-lower_of-ne116 : goal.returns-then-lower_of-ne116
unfolding utf
returns-then-lower_of-ne116 c = simp (ne_eqb _ _ c.if-lower_of-ne116.true, ← c.lower_of-2.ensures, ← c.byte_at-2.ensures, eq-eqb _ _ c.if-lower_of-ne117.false, ← c.lower_of.ensures, ← c.byte_at.ensures, eq-eqb _ _ c.if-v-ne5.false)

pub returns-then-lower_of-ne102 : goal.returns-then-lower_of-ne102
unfolding utf
returns-then-lower_of-ne102 c = simp (ne_eqb _ _ c.if-lower_of-ne102.true, ← c.lower_of-3.ensures, ← c.byte_at-3.ensures, eq-eqb _ _ c.if-lower_of-ne116.false, ← c.lower_of-2.ensures, ← c.byte_at-2.ensures, eq-eqb _ _ c.if-lower_of-ne117.false, ← c.lower_of.ensures, ← c.byte_at.ensures, eq-eqb _ _ c.if-v-ne5.false)

pub returns-then-byte_at-ne45 : goal.returns-then-byte_at-ne45
unfolding utf
returns-then-byte_at-ne45 c = simp (ne_eqb _ _ c.if-byte_at-ne45.true, ← c.byte_at-4.ensures, eq-eqb _ _ c.if-lower_of-ne102.false, ← c.lower_of-3.ensures, ← c.byte_at-3.ensures, eq-eqb _ _ c.if-lower_of-ne116.false, ← c.lower_of-2.ensures, ← c.byte_at-2.ensures, eq-eqb _ _ c.if-lower_of-ne117.false, ← c.lower_of.ensures, ← c.byte_at.ensures, eq-eqb _ _ c.if-v-ne5.false)

pub returns : goal.returns
unfolding utf
returns c = simp (← c.byte_at-5.ensures, eq-eqb _ _ c.if-byte_at-ne45.false, ← c.byte_at-4.ensures, eq-eqb _ _ c.if-lower_of-ne102.false, ← c.lower_of-3.ensures, ← c.byte_at-3.ensures, eq-eqb _ _ c.if-lower_of-ne116.false, ← c.lower_of-2.ensures, ← c.byte_at-2.ensures, eq-eqb _ _ c.if-lower_of-ne117.false, ← c.lower_of.ensures, ← c.byte_at.ensures, eq-eqb _ _ c.if-v-ne5.false)
