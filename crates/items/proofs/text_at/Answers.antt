use mathlib.Core.Path.{sym, ◌∙◌}
use Rattle.items.proofs.Whites.{white-only}
use borrow.Author.Rules.{rules}
use Rattle.items.proofs.text_at.Goals as goal

pub returns-then-byte_at-eq60 : goal.returns-then-byte_at-eq60
returns-then-byte_at-eq60 c = record { item = white-only c.args.before c.args.s.now _ c.white_len-w.ensures.run c.if-w-gt0.true (sym c.byte_at.ensures ∙ c.if-byte_at-eq60.true); size = search rules }
