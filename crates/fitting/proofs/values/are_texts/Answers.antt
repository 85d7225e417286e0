use mathlib.Core.Path.{sym, ◌∙◌}
use Rattle.fitting.proofs.Judging.{texts-start, texts-not, texts-next, texts-over}
use Rattle.fitting.proofs.values.are_texts.Goals as goal

pub loop-k-init : goal.loop-k-init
loop-k-init c = texts-start _ _ _

pub returns-then-not-is_text : goal.returns-then-not-is_text
returns-then-not-is_text c = texts-not c.loop-k.invariant c.loop-k-test.true (sym c.is_text.ensures ∙ c.if-not-is_text.true)

pub loop-k-preserved : goal.loop-k-preserved
loop-k-preserved c = texts-next c.loop-k.invariant c.loop-k-test.true (sym c.is_text.ensures ∙ c.if-not-is_text.false)

pub returns : goal.returns
returns c = texts-over c.loop-k.invariant c.loop-k-test.false
