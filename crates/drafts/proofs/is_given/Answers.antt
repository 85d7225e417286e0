use Prim.Native.Nat.{ℕ}
use mathlib.Core.Path.{sym, ap, ◌∙◌}
use mathlib.Core.Bool.{not}
use lib.Dec.{eqb}
use Rattle.drafts.proofs.Given.{none-past, start-given, length-given}
use Rattle.drafts.proofs.is_given.Goals as goal

pub returns-then-pairs-cell : goal.returns-then-pairs-cell
returns-then-pairs-cell c = search none-past

pub returns-then-number_at-ne0 : goal.returns-then-number_at-ne0
returns-then-number_at-ne0 c = start-given _ _ (λ z. c.if-number_at-ne0.true (c.number_at.ensures ∙ z))

pub returns : goal.returns
returns c = ap (λ (n : ℕ). not (eqb n 0)) c.number_at-2.ensures ∙ length-given _ _ (sym c.number_at.ensures ∙ c.if-number_at-ne0.false)
