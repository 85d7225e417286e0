use mathlib.Core.Path.{sym, ap, ◌∙◌}
use mathlib.Core.Logic.{⊎_elim}
use native.Mathlib.Omega.{arith}
use Rattle.prolog.proofs.Promises.{refused-place}
use Rattle.reader.specs.Reading.{Out}
use Rattle.reader.proofs.Sheets.{judged-items, judged-unread}
use Rattle.reader.proofs.judge_all.Goals as goal

pub overflow_cast-p : goal.overflow_cast-p
overflow_cast-p c = ⊎_elim (λ z. omega (arith, z)) (λ z. omega (arith, z)) (refused-place _ _ (sym c.first_item.ensures.begin ∙ c.in-Err.is))

pub returns-in-Ok : goal.returns-in-Ok
returns-in-Ok c = ap (λ (o : Out). o.found) c.read_items.ensures ∙ judged-items _ _ _ _ (sym c.first_item.ensures.begin ∙ c.in-Ok.is)

pub returns-in-Err : goal.returns-in-Err
returns-in-Err c = c.refused_first.ensures ∙ judged-unread _ _ _ _ (sym c.first_item.ensures.begin ∙ c.in-Err.is)
