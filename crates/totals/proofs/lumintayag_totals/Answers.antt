use lib.ListN.{length}
use mathlib.Core.Path.{sym, ◌∙◌}
use Rattle.totals.specs.Rules.{handed}
use Rattle.totals.proofs.Answers.{blank-again, answer-17, answer-18, answer-0}
use Rattle.totals.proofs.lumintayag_totals.Goals as goal

pub returns-then-count-gt-MOST_SERIES : goal.returns-then-count-gt-MOST_SERIES
returns-then-count-gt-MOST_SERIES c = let g = handed c.args.kind c.args.quarters c.args.count c.args.series.now c.args.positions.now c.args.amounts.now in answer-17 g _ _ _ _ c.clear_amounts.ensures c.clear_amounts-2.ensures c.if-count-gt-MOST_SERIES.true

pub put_totals-requires : goal.put_totals-requires
put_totals-requires c = record { allowed = sym c.is_allowed.ensures ∙ c.if-is_allowed.true; most = c.if-count-gt-MOST_SERIES.false; blank = blank-again _ (length c.args.totals.now) c.clear_amounts.ensures; empty = blank-again _ (length c.args.sum.now) c.clear_amounts-2.ensures }

pub returns-then-is_allowed : goal.returns-then-is_allowed
returns-then-is_allowed c = let g = handed c.args.kind c.args.quarters c.args.count c.args.series.now c.args.positions.now c.args.amounts.now in answer-0 g _ _ _ _ _ _ c.clear_amounts.ensures c.clear_amounts-2.ensures c.if-count-gt-MOST_SERIES.false c.is_allowed.ensures c.if-is_allowed.true c.put_totals.ensures.each c.put_totals.ensures.all

pub returns : goal.returns
returns c = let g = handed c.args.kind c.args.quarters c.args.count c.args.series.now c.args.positions.now c.args.amounts.now in answer-18 g _ _ _ _ c.clear_amounts.ensures c.clear_amounts-2.ensures c.if-count-gt-MOST_SERIES.false c.is_allowed.ensures c.if-is_allowed.false
