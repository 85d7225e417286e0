use mathlib.Core.Path.{sym, ◌∙◌}
use Rattle.reader.proofs.Used.{used-none, used-hit, used-miss}
use Rattle.reader.proofs.rows.is_used.Goals as goal

pub is_shown-requires : goal.is_shown-requires
is_shown-requires c = c.own_end-last.ensures

pub returns-then-is_shown : goal.returns-then-is_shown
returns-then-is_shown c = sym (used-hit _ _ _ _ c.loop-i-test.true (sym c.is_shown.ensures ∙ c.if-is_shown.true)) ∙ c.loop-i.invariant

pub loop-i-preserved : goal.loop-i-preserved
loop-i-preserved c = used-miss _ _ _ _ c.loop-i-test.true (sym c.is_shown.ensures ∙ c.if-is_shown.false) ∙ c.loop-i.invariant

pub returns : goal.returns
returns c = used-none _ _ _ _ c.loop-i-test.false ∙ c.loop-i.invariant
