use Rattle.std.proofs.Common.{rules, tests}
use Rattle.std.proofs.lemmas.Iterator.{YieldsList-from_slice}
use Rattle.std.proofs.lemmas.Iterator.Search.{position_from_yields_List}
use lib.Dec.{eqb}
use Rattle.columns.specs.Columns.{role_of}
use Rattle.drafts.proofs.Given.{role-or-end}
use Rattle.drafts.proofs.role_row.Goals as goal

pub returns-clause-row : goal.returns-clause-row
returns-clause-row c =
    let rows = c.args.rows.now in
    let found = position_from_yields_List (λ w. eqb (role_of w) c.args.role) _ _ c.position.result c.position.ensures.ran (YieldsList-from_slice rows cc) (λ x b q k. search (rules, tests)) in
    role-or-end _ rows found c.unwrap_or.ensures
