use mathlib.Core.Path.{ap, ◌∙◌}
use Rattle.lists.specs.Zeros.{zeros}
use Rattle.reader.proofs.Sheets.{judged-long, judged-short}
use borrow.Author.Rules.{rules}
use Rattle.reader.proofs.judge.Goals as goal

pub returns-then-doc-gt1048576 : goal.returns-then-doc-gt1048576
returns-then-doc-gt1048576 c = record { found = c.refused_first.ensures ∙ judged-long _ _ _ c.if-doc-gt1048576.true; blank = search rules }

pub returns : goal.returns
returns c = record { found = c.judge_all-found.ensures ∙ judged-short _ _ _ c.if-doc-gt1048576.false c.clear_numbers.ensures; blank = c.clear_numbers-2.ensures ∙ ap zeros (c.judge_all-found.auto.series ∙ c.clear_numbers.auto.t) }
