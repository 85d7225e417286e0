-- `explanations::add_refusal` meets its contract: the three texts, one after the other.
-- Assumes nothing.
use Rattle.slices.specs.Text.{text}
use Rattle.explanations.specs.Explanation.{head_part, words_part, refusal_line}
use Rattle.explanations.proofs.Adding.{adds-more}
use Rattle.explanations.proofs.add_refusal.Goals as goal

pub returns : goal.returns
unfolding refusal_line
returns c = let it = adds-more (head_part c.args.n) _ c.args.out.now _ _ c.args.at _ _ (c.add_head-words_at.ensures.next, c.add_head-words_at.ensures.text)
    (adds-more (words_part c.args.n) (text ".\n") _ _ _ _ _ _ (c.add_words-end_at.ensures.next, c.add_words-end_at.ensures.text) (c.add_text.ensures.next, c.add_text.ensures.text)) in record { next = it.0; text = it.1 }
