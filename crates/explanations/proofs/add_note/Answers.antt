-- `explanations::add_note` meets its contract: the lines, one after the other.
-- Assumes nothing.
use Rattle.explanations.specs.Explanation.{refusal_line, place_line, kind_line, series_part, intervals_part, depth_line, explained}
use Rattle.explanations.proofs.Adding.{adds-more}
use Rattle.explanations.proofs.add_note.Goals as goal

pub returns : goal.returns
unfolding explained
returns c = let it = let n = c.args.n in
    adds-more (refusal_line n.refusal) _ c.args.out.now _ _ c.args.at _ _ (c.add_refusal-place_at.ensures.next, c.add_refusal-place_at.ensures.text)
    (adds-more (place_line n.refusal n.place) _ _ _ _ _ _ _ (c.add_place-kind_at.ensures.next, c.add_place-kind_at.ensures.text)
    (adds-more (kind_line n.kind) _ _ _ _ _ _ _ (c.add_kind-series_at.ensures.next, c.add_kind-series_at.ensures.text)
    (adds-more (series_part n.refusal n.series) _ _ _ _ _ _ _ (c.add_series-intervals_at.ensures.next, c.add_series-intervals_at.ensures.text)
    (adds-more (intervals_part n.intervals) (depth_line n.depth) _ _ _ _ _ _ (c.add_intervals-depth_at.ensures.next, c.add_intervals-depth_at.ensures.text) (c.add_depth.ensures.next, c.add_depth.ensures.text))))) in record { next = it.0; text = it.1 }
