use mathlib.Core.Path.{sym, ◌∙◌}
use Prim.Native.Nat.{◌+◌}
use Rattle.fitting.specs.Told.{single_told}
use Rattle.fitting.proofs.Judging.{as-shown, as-given}
use Rattle.fitting.proofs.values.single_fits.Goals as goal
use Rattle.fitting.proofs.values.single_fits.Goals.{then-asks_scheme-2+else-not-is_given-2+else-not-scheme_fits, else-asks_scheme-2}

pub returns-then-is_required : goal.returns-then-is_required
unfolding single_told
returns-then-is_required c = simp (sym (as-given c.args.pairs.now c.args.k c.is_given.ensures) ∙ c.if-not-is_given.true, ← c.is_required.ensures, c.if-is_required.true)

pub returns-then-asks_scheme : goal.returns-then-asks_scheme
unfolding single_told
returns-then-asks_scheme c = simp (sym (as-given c.args.pairs.now c.args.k c.is_given.ensures) ∙ c.if-not-is_given.true, ← c.is_required.ensures, c.if-is_required.false, ← c.asks_scheme.ensures, c.if-asks_scheme.true, ← as-given c.args.pairs.now (c.args.k + 1) c.is_given-then-asks_scheme.ensures)

pub returns-then-not-is_given : goal.returns-then-not-is_given
unfolding single_told
returns-then-not-is_given c = simp (sym (as-given c.args.pairs.now c.args.k c.is_given.ensures) ∙ c.if-not-is_given.true, ← c.is_required.ensures, c.if-is_required.false, ← c.asks_scheme.ensures, c.if-asks_scheme.false)

pub returns-then-not-is_given-2 : goal.returns-then-not-is_given-2
unfolding single_told
returns-then-not-is_given-2 c = simp (sym (as-given c.args.pairs.now c.args.k c.is_given.ensures) ∙ c.if-not-is_given.false, ← c.asks_scheme-2.ensures, c.if-asks_scheme-2.true, sym (as-given c.args.pairs.now (c.args.k + 1) c.is_given-then-asks_scheme-2.ensures) ∙ c.if-not-is_given-2.true)

pub returns-then-not-scheme_fits : goal.returns-then-not-scheme_fits
unfolding single_told
returns-then-not-scheme_fits c = simp (sym (as-given c.args.pairs.now c.args.k c.is_given.ensures) ∙ c.if-not-is_given.false, ← c.asks_scheme-2.ensures, c.if-asks_scheme-2.true, sym (as-given c.args.pairs.now (c.args.k + 1) c.is_given-then-asks_scheme-2.ensures) ∙ c.if-not-is_given-2.false, as-shown c.args.text.now c.args.pairs.now (c.args.k + 1) c.shown.ensures, sym c.scheme_fits.ensures ∙ c.if-not-scheme_fits.true)

pub returns : goal.returns
unfolding single_told
returns c = let given = as-given c.args.pairs.now c.args.k c.is_given.ensures in
    let here = as-shown c.args.text.now c.args.pairs.now c.args.k c.shown-2.ensures in
    elim c.if-asks_scheme-2.branch [
      | then-asks_scheme-2+else-not-is_given-2+else-not-scheme_fits w ↦
          simp (
            sym given ∙ c.if-not-is_given.false,
            ← c.asks_scheme-2.ensures,
            w.if-asks_scheme-2.true,
            sym (as-given c.args.pairs.now (c.args.k + 1) w.is_given-then-asks_scheme-2.ensures) ∙ w.if-not-is_given-2.false,
            as-shown c.args.text.now c.args.pairs.now (c.args.k + 1) w.shown.ensures,
            sym w.scheme_fits.ensures ∙ w.if-not-scheme_fits.false,
            here,
            ← c.text_fits.ensures,
          )
      | else-asks_scheme-2 w ↦ simp (sym given ∙ c.if-not-is_given.false, ← c.asks_scheme-2.ensures, w.if-asks_scheme-2.false, here, ← c.text_fits.ensures)
    ]
