use mathlib.Core.Path.{refl, sym, ap, ◌∙◌}
use borrow.Author.Tests.{eq-eqb, ne_eqb}
use Rattle.guideline.specs.declared.Kind.{Kind}
use Rattle.fitting.specs.Told.{count_told}
use Rattle.fitting.proofs.Loops.{one-more}
use Rattle.fitting.proofs.rows.count_fits.Goals as goal

pub returns-then-n-eq0 : goal.returns-then-n-eq0
unfolding count_told
returns-then-n-eq0 c = rw (eq-eqb _ _ c.if-n-eq0.true) refl

pub returns-then-not-has_enough : goal.returns-then-not-has_enough
unfolding count_told
returns-then-not-has_enough c = rw (ne_eqb _ _ c.if-n-eq0.false, sym c.has_enough.ensures ∙ c.if-not-has_enough.true) refl

pub returns-then-not-takes_another : goal.returns-then-not-takes_another
unfolding count_told
returns-then-not-takes_another c = rw (ne_eqb _ _ c.if-n-eq0.false, sym c.has_enough.ensures ∙ c.if-not-has_enough.false, sym (one-more _ _ c.if-n-eq0.false c.takes_another.ensures) ∙ c.if-not-takes_another.true) refl

pub returns-then-kind_at : goal.returns-then-kind_at
unfolding count_told
returns-then-kind_at c = rw (ne_eqb _ _ c.if-n-eq0.false, sym c.has_enough.ensures ∙ c.if-not-has_enough.false, sym (one-more _ _ c.if-n-eq0.false c.takes_another.ensures) ∙ c.if-not-takes_another.false, ap (λ (k : Kind). k.full) (sym c.kind_at.ensures) ∙ c.if-kind_at.true) refl

pub returns-else-kind_at : goal.returns-else-kind_at
unfolding count_told
returns-else-kind_at c = rw (ne_eqb _ _ c.if-n-eq0.false, sym c.has_enough.ensures ∙ c.if-not-has_enough.false, sym (one-more _ _ c.if-n-eq0.false c.takes_another.ensures) ∙ c.if-not-takes_another.false, ap (λ (k : Kind). k.full) (sym c.kind_at.ensures) ∙ c.if-kind_at.false) refl
