use Rattle.structure.proofs.Laws.{next-end, next_past, next_row, next-stop, next-on}
use Rattle.structure.proofs.next_in.Goals as goal
use Rattle.structure.proofs.next_in.Goals.{then-parent_of-p+else-name_of-name+else-is_required, else-parent_of-p}

pub returns-then-name_of-name : goal.returns-then-name_of-name
returns-then-name_of-name c = next_row _ _ _ _ c.loop-i.invariant c.loop-i-test.true
    c.parent_of.ensures c.if-parent_of-p.true c.name_of.ensures c.if-name_of-name.true

pub returns-then-is_required : goal.returns-then-is_required
returns-then-is_required c = next-stop _ _ _ _ c.loop-i.invariant c.loop-i-test.true c.parent_of.ensures
    c.if-parent_of-p.true c.name_of.ensures c.if-name_of-name.false
    c.is_required.ensures c.if-is_required.true

pub loop-i-preserved : goal.loop-i-preserved
loop-i-preserved c = let inv = c.loop-i.invariant in
    let h = c.loop-i-test.true in
    elim c.if-parent_of-p.branch [
      | then-parent_of-p+else-name_of-name+else-is_required w ↦ next-on _ _ _ _ inv h c.parent_of.ensures w.if-parent_of-p.true w.name_of.ensures w.if-name_of-name.false w.is_required.ensures w.if-is_required.false
      | else-parent_of-p w ↦ next_past _ _ _ _ inv h c.parent_of.ensures w.if-parent_of-p.false
    ]

pub returns : goal.returns
returns c = next-end _ _ _ _ c.loop-i.invariant c.loop-i-test.false
