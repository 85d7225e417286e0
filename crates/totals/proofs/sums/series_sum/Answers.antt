use Rattle.totals.proofs.Facts.{own_is, from_end}
use Rattle.totals.proofs.sums.series_sum.Goals as goal

pub slice_bounds-rows_sum-count : goal.slice_bounds-rows_sum-count
slice_bounds-rows_sum-count c = from_end _ _ _ _ c.field_of-first.ensures c.end_row-end.ensures

pub slice_bounds-rows_sum-start : goal.slice_bounds-rows_sum-start
slice_bounds-rows_sum-start c = from_end _ _ _ _ c.field_of-first.ensures c.end_row-end.ensures

pub slice_bounds-rows_sum-count-2 : goal.slice_bounds-rows_sum-count-2
slice_bounds-rows_sum-count-2 c = from_end _ _ _ _ c.field_of-first.ensures c.end_row-end.ensures

pub slice_bounds-rows_sum-start-2 : goal.slice_bounds-rows_sum-start-2
slice_bounds-rows_sum-start-2 c = from_end _ _ _ _ c.field_of-first.ensures c.end_row-end.ensures

pub rows_sum-requires : goal.rows_sum-requires
rows_sum-requires c = let p = own_is c.args.series.now c.args.i _ _ c.args.positions.now c.field_of-first.ensures c.end_row-end.ensures in let q = own_is c.args.series.now c.args.i _ _ c.args.amounts.now c.field_of-first.ensures c.end_row-end.ensures in rw (p, q) c.requires.rows

pub returns : goal.returns
returns c = let p = own_is c.args.series.now c.args.i _ _ c.args.positions.now c.field_of-first.ensures c.end_row-end.ensures in let q = own_is c.args.series.now c.args.i _ _ c.args.amounts.now c.field_of-first.ensures c.end_row-end.ensures in rw (p, q) at c.rows_sum.ensures
