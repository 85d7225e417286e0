use native.Mathlib.Omega.{arith}
use lib.ListN.{length}
use mathlib.Core.Path.{refl, ◌∙◌}
use Rattle.std.proofs.Common.{rules, tests}
use Rattle.std.proofs.lemmas.Iterator.{YieldsList-from_range}
use Rattle.std.proofs.lemmas.Iterator.Search.{all_from_yields_List}
use Rattle.totals.specs.Rules.{row_allowed}
use Rattle.totals.proofs.Below.{all_listed}
use Rattle.totals.proofs.allowed.are_rows_allowed.Goals as goal

pub returns : goal.returns
returns c =
    let f = row_allowed c.args.kind c.args.quarters c.args.positions.now c.args.amounts.now in
    let n = length c.args.positions.now in
    all_from_yields_List f _ _ _ c.all.ensures.ran (YieldsList-from_range 0 n n refl (omega arith)) (λ x b q k. search (rules, tests)) ∙ all_listed f _
