use Rattle.structure.proofs.Laws.{ends-end, ends-past, ends-stop, ends_on}
use Rattle.structure.proofs.ends_in.Goals as goal
use Rattle.structure.proofs.ends_in.Goals.{then-parent_of-p+else-is_required, else-parent_of-p}

pub returns-then-is_required : goal.returns-then-is_required
returns-then-is_required c = ends-stop _ _ _ c.loop-i.invariant c.loop-i-test.true
    c.parent_of.ensures c.if-parent_of-p.true c.is_required.ensures c.if-is_required.true

pub loop-i-preserved : goal.loop-i-preserved
loop-i-preserved c = let inv = c.loop-i.invariant in
    let h = c.loop-i-test.true in
    elim c.if-parent_of-p.branch [
      | then-parent_of-p+else-is_required w ↦ ends_on _ _ _ inv h c.parent_of.ensures w.if-parent_of-p.true w.is_required.ensures w.if-is_required.false
      | else-parent_of-p w ↦ ends-past _ _ _ inv h c.parent_of.ensures w.if-parent_of-p.false
    ]

pub returns : goal.returns
returns c = ends-end _ _ _ c.loop-i.invariant c.loop-i-test.false
