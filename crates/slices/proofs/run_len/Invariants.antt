use Rattle.slices.proofs.Runs.{Ran}
use Rattle.slices.proofs.run_len.Given as goal

abbrev pub invariant-loop-i : goal.invariant-loop-i
invariant-loop-i g l = Ran (g.T.ByteTest.test l.test) l.s l.i
