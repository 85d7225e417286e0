use Rattle.characters.proofs.Referring.{Counted}
use Rattle.characters.proofs.references.number_in.Given as goal

abbrev pub invariant-loop-b : goal.invariant-loop-b
invariant-loop-b l = Counted l.hex l.digits l.n l.b-index
