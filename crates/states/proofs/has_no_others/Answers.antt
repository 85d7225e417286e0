use Rattle.states.specs.Attributes.{no_others}
use Rattle.states.proofs.has_no_others.Goals as goal

pub returns-then-is_root : goal.returns-then-is_root
unfolding no_others
returns-then-is_root c = simp (c.if-is_root.true, ← c.is_root.ensures, c.if-others.true)

pub returns-then-others : goal.returns-then-others
unfolding no_others
returns-then-others c = simp (c.if-is_root.false, ← c.is_root.ensures, c.if-others.true)

pub returns : goal.returns
unfolding no_others
returns c = simp c.if-others.false
