use mathlib.Core.Path.{sym, ◌∙◌}
use Rattle.fitting.specs.Told.{covered_at, covered_told}
use Rattle.fitting.proofs.Judging.{as-shown, as-given}
use Rattle.fitting.proofs.values.covered.Goals as goal

pub covered_pair-k-requires : goal.covered_pair-k-requires
covered_pair-k-requires c = c.requires

pub returns-then-not-is_given : goal.returns-then-not-is_given
unfolding covered_told covered_at
returns-then-not-is_given c = simp (← c.covered_pair-k.ensures.pair, sym (as-given c.args.pairs.now c.covered_pair-k.result c.is_given.ensures) ∙ c.if-not-is_given.true)

pub returns-then-has_ampersand : goal.returns-then-has_ampersand
unfolding covered_told covered_at
returns-then-has_ampersand c = simp (← c.covered_pair-k.ensures.pair, sym (as-given c.args.pairs.now c.covered_pair-k.result c.is_given.ensures) ∙ c.if-not-is_given.false, as-shown c.args.text.now c.args.pairs.now c.covered_pair-k.result c.shown-v.ensures, ← c.has_ampersand.ensures, c.if-has_ampersand.true)

pub returns : goal.returns
unfolding covered_told covered_at
returns c = simp (← c.covered_pair-k.ensures.pair, sym (as-given c.args.pairs.now c.covered_pair-k.result c.is_given.ensures) ∙ c.if-not-is_given.false, as-shown c.args.text.now c.args.pairs.now c.covered_pair-k.result c.shown-v.ensures, ← c.has_ampersand.ensures, c.if-has_ampersand.false, ← c.interval_of.ensures)
