use mathlib.Core.Path.{sym, refl}
use lib.Seq.{length-take-le, take_all}
use native.Mathlib.Nat.{le_of_lt, le_of_eq}
use Rattle.slices.proofs.front.Goals as goal

pub slice_bounds-result-end : goal.slice_bounds-result-end
slice_bounds-result-end c = sym (length-take-le c.args.n c.args.s.now c.if-n-s.true)

pub returns-then-n-s : goal.returns-then-n-s
returns-then-n-s c = record { list = refl; size = le_of_eq (length-take-le c.args.n c.args.s.now c.if-n-s.true) }

pub returns-else-n-s : goal.returns-else-n-s
returns-else-n-s c = record { list = sym (take_all c.args.n c.args.s.now (le_of_lt c.if-n-s.false)); size = le_of_lt c.if-n-s.false }
