use native.Mathlib.Omega.{arith}
use mathlib.Core.Path.{refl, ◌∙◌}
use Rattle.std.proofs.Common.{rules, tests}
use Rattle.std.proofs.lemmas.Iterator.{YieldsList-from_range}
use Rattle.std.proofs.lemmas.Iterator.Search.{all_from_yields_List}
use Rattle.totals.specs.Given.{handed_of}
use Rattle.totals.specs.Rules.{series_allowed}
use Rattle.totals.proofs.Below.{all_listed}
use Rattle.totals.proofs.allowed.Given.all_allowed.Goals as goal

pub returns : goal.returns
returns c =
    let f = series_allowed (handed_of c.args.self) in
    let n = c.args.self.count in
    all_from_yields_List f _ _ _ c.all.ensures.ran (YieldsList-from_range 0 n n refl (omega arith)) (λ x b q k. search (rules, tests)) ∙ all_listed f _
