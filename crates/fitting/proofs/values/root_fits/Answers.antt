use mathlib.Core.Path.{sym, ◌∙◌}
use Rattle.fitting.specs.Told.{root_told}
use Rattle.fitting.proofs.Judging.{as-shown, as-given}
use Rattle.fitting.proofs.values.root_fits.Goals as goal

pub returns-then-is_given : goal.returns-then-is_given
unfolding root_told
returns-then-is_given c = simp (← as-given c.args.pairs.now 0 c.is_given.ensures, c.if-is_given.true)

pub returns-then-is_given-2 : goal.returns-then-is_given-2
unfolding root_told
returns-then-is_given-2 c = simp (← as-given c.args.pairs.now 0 c.is_given.ensures, c.if-is_given.false, ← as-given c.args.pairs.now 1 c.is_given-2.ensures, c.if-is_given-2.true)

pub returns-then-not-is_given : goal.returns-then-not-is_given
unfolding root_told
returns-then-not-is_given c = simp (← as-given c.args.pairs.now 0 c.is_given.ensures, c.if-is_given.false, ← as-given c.args.pairs.now 1 c.is_given-2.ensures, c.if-is_given-2.false, sym (as-given c.args.pairs.now 2 c.is_given-3.ensures) ∙ c.if-not-is_given.true)

pub returns-then-has_ampersand : goal.returns-then-has_ampersand
unfolding root_told
returns-then-has_ampersand c = simp (← as-given c.args.pairs.now 0 c.is_given.ensures, c.if-is_given.false, ← as-given c.args.pairs.now 1 c.is_given-2.ensures, c.if-is_given-2.false, sym (as-given c.args.pairs.now 2 c.is_given-3.ensures) ∙ c.if-not-is_given.false, as-shown c.args.text.now c.args.pairs.now 2 c.shown-v.ensures, ← c.has_ampersand.ensures, c.if-has_ampersand.true)

pub returns : goal.returns
unfolding root_told
returns c = simp (← as-given c.args.pairs.now 0 c.is_given.ensures, c.if-is_given.false, ← as-given c.args.pairs.now 1 c.is_given-2.ensures, c.if-is_given-2.false, sym (as-given c.args.pairs.now 2 c.is_given-3.ensures) ∙ c.if-not-is_given.false, as-shown c.args.text.now c.args.pairs.now 2 c.shown-v.ensures, ← c.has_ampersand.ensures, c.if-has_ampersand.false, ← c.is_fixed.ensures)
