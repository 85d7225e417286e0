use mathlib.Core.Path.{sym, ◌∙◌}
use Rattle.views.proofs.Sheets.{sheet-from, sheet-none}
use Rattle.views.proofs.show_sheet.Goals as goal

pub returns-in-Ok : goal.returns-in-Ok
returns-in-Ok c = c.show_items.ensures ∙ sheet-from _ _ _ _ (sym c.first_item.ensures.begin ∙ c.in-Ok.is)

pub returns-in-Err : goal.returns-in-Err
returns-in-Err c = sheet-none _ _ _ _ (sym c.first_item.ensures.begin ∙ c.in-Err.is)
