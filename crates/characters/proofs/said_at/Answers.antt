use mathlib.Core.Path.{sym, ◌∙◌}
use borrow.Author.Tests.{ne_eqb}
use Rattle.characters.specs.Says.{said_by, said_at}
use Rattle.slices.specs.Bytes.{byte}
use Rattle.characters.proofs.Units.{met-itself}
use borrow.Author.Rules.{rules}
use Rattle.characters.proofs.said_at.Goals as goal

pub returns-then-is_itself : goal.returns-then-is_itself
unfolding said_at said_by byte
returns-then-is_itself c = record { said = simp (ne_eqb _ _ c.if-v-eq0.false, met-itself c.args.v.now (sym c.is_itself.ensures ∙ c.if-is_itself.true)); size = search rules }
