use borrow.Author.Tests.{eq-eqb, ne_eqb, le-ltb, lt-ltb}
use Rattle.structure.specs.Rows.{start_of}
use Rattle.structure.proofs.start_after.Goals as goal
use Rattle.structure.proofs.start_after.Goals.{then-is_repeated+else-name_of-name, else-is_repeated}

pub returns-then-t-row : goal.returns-then-t-row
unfolding start_of
returns-then-t-row c = simp (le-ltb _ _ c.if-t-row.true)

pub returns-then-inside : goal.returns-then-inside
unfolding start_of
returns-then-inside c = simp (← c.next_in.ensures, c.if-inside.true, lt-ltb _ _ c.if-t-row.false)

pub returns-then-name_of-name : goal.returns-then-name_of-name
unfolding start_of
returns-then-name_of-name c = simp (eq-eqb _ _ c.if-name_of-name.true, ← c.name_of.ensures, c.if-is_repeated.true, ← c.is_repeated.ensures, c.if-inside.false, lt-ltb _ _ c.if-t-row.false)

pub returns : goal.returns
unfolding start_of
returns c =
    elim c.if-is_repeated.branch [
      | then-is_repeated+else-name_of-name w ↦ simp (
        ← c.parent_of.ensures,
        lt-ltb _ _ c.if-t-row.false,
        c.if-inside.false,
        ← c.is_repeated.ensures,
        w.if-is_repeated.true,
        ← w.name_of.ensures,
        ne_eqb _ _ w.if-name_of-name.false,
      ) c.next_in-2.ensures
      | else-is_repeated w ↦ simp (
        ← c.parent_of.ensures,
        lt-ltb _ _ c.if-t-row.false,
        c.if-inside.false,
        ← c.is_repeated.ensures,
        w.if-is_repeated.false,
      ) c.next_in-2.ensures
    ]
