use mathlib.Core.Path.{◌∙◌}
use lib.ListN.{length-set}
use Rattle.repeats.proofs.Table.{added-last, added-first}
use borrow.Author.Rules.{rules}
use Rattle.repeats.proofs.put.Goals as goal

pub shape_of-h-then-n-h : goal.shape_of-h-then-n-h
shape_of-h-then-n-h c = c.rise.auto.h ∙ simp length-set

pub returns-then-n-h : goal.returns-then-n-h
returns-then-n-h c = record { size = search rules; cells = added-last c.if-n-h.true c.rise.ensures }

pub shape_of-h : goal.shape_of-h
shape_of-h c = c.sink.auto.h ∙ simp length-set

pub returns-then-is_before : goal.returns-then-is_before
returns-then-is_before c = record { size = search rules; cells = added-first c.if-n-gt0.true c.requires c.sink.ensures }
