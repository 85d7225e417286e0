use mathlib.Core.Path.{sym, ◌∙◌}
use Rattle.fitting.proofs.Judging.{covering-start, covering-here, covering-next, covering-over}
use Rattle.fitting.proofs.values.covered_pair.Goals as goal

pub loop-q-init : goal.loop-q-init
loop-q-init c = covering-start _

pub returns-then-form_of-eq-PERIOD_FORM : goal.returns-then-form_of-eq-PERIOD_FORM
returns-then-form_of-eq-PERIOD_FORM c = let it = covering-here c.loop-q.invariant c.loop-q-test.true (sym c.form_of.ensures ∙ c.if-form_of-eq-PERIOD_FORM.true) in record { pair = it.0; size = it.1 }

pub loop-q-preserved : goal.loop-q-preserved
loop-q-preserved c = covering-next c.loop-q.invariant c.loop-q-test.true c.requires (λ z. c.if-form_of-eq-PERIOD_FORM.false (c.form_of.ensures ∙ z)) c.pairs_of-k.ensures.many c.pairs_of-k.ensures.size

pub returns : goal.returns
returns c = let it = covering-over c.loop-q.invariant c.loop-q-test.false in record { pair = it.0; size = it.1 }
