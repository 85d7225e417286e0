-- What a call is given, as the code holds it and as the rules tell it.
use Rattle.totals.specs.declared.allowed.Given.{Given}
use Rattle.totals.specs.Rules.{Handed, handed}

abbrev pub handed_of : Given → Handed
handed_of g = handed g.kind g.quarters g.count g.series.now g.positions.now g.amounts.now
