-- `explanations::put_explanation` meets its contract: a note, and no note.
-- Assumes nothing.
use mathlib.Core.Path.{sym, ap, ◌∙◌}
use Rattle.explanations.specs.Explanation.{meaning, explanation}
use Rattle.explanations.proofs.Adding.{adds_same, adds-counts}
use Rattle.explanations.proofs.put_explanation.Goals as goal

pub returns-in-Some : goal.returns-in-Some
unfolding explanation
returns-in-Some c = let it = let e = ap meaning (sym c.in-Some.is ∙ c.read_line.ensures) in
    adds-counts (explanation c.args.line.now) c.args.out.now _ _ (adds_same _ (explanation c.args.line.now) c.args.out.now _ 0 _ e (c.add_note.ensures.next, c.add_note.ensures.text)) in record { count = it.0; text = it.1.0; room = it.1.1 }

pub returns-in-None : goal.returns-in-None
unfolding explanation
returns-in-None c = let it = let e = ap meaning (sym c.in-None.is ∙ c.read_line.ensures) in
    adds-counts (explanation c.args.line.now) c.args.out.now _ _ (adds_same _ (explanation c.args.line.now) c.args.out.now _ 0 _ e (c.add_text.ensures.next, c.add_text.ensures.text)) in record { count = it.0; text = it.1.0; room = it.1.1 }
