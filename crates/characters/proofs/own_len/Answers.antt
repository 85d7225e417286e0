use mathlib.Core.Path.{◌≡◌, ◌∙◌}
use native.Mathlib.Omega.{arith}
use Prim.Native.Nat.{min, ◌≤◌}
use lib.ListN.{length}
use Rattle.characters.proofs.Alike.{owned-end, owned-other, owned-stop, owned-more}
use Rattle.characters.proofs.own_len.Goals.{then-a-i-via-then-a-i, then-a-i-via-else-a-i+then-not-is_itself}
use Rattle.characters.proofs.own_len.Goals as goal

pub returns-then-a-i-clause-len : goal.returns-then-a-i-clause-len
returns-then-a-i-clause-len c = elim c.then-a-i.branch [
  | then-a-i-via-then-a-i w ↦ owned-other c.loop-i.invariant (omega arith) (omega arith) w.if-a-i.true
  | then-a-i-via-else-a-i+then-not-is_itself w ↦ owned-stop c.loop-i.invariant (omega arith) (omega arith) w.if-a-i.false w.is_itself.ensures w.if-not-is_itself.true
]

pub loop-i-preserved : goal.loop-i-preserved
loop-i-preserved c = owned-more c.loop-i.invariant (omega arith) (omega arith) c.if-a-i.false c.is_itself.ensures c.if-not-is_itself.false

pub returns-clause-len : goal.returns-clause-len
returns-clause-len c =
    let h : min (length c.args.a.now) (length c.args.b.now) ≤ c.loop-i.i = omega arith in
    let e : c.min-most.result ≡ c.loop-i.i = omega arith in
    e ∙ owned-end c.loop-i.invariant h
