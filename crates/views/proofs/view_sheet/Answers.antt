use Rattle.views.proofs.Sheets.{own-rows, own-few, judged-within, viewed-short, viewed-refused, viewed-taken}
use Rattle.views.proofs.view_sheet.Goals as goal

pub returns-then-t : goal.returns-then-t
returns-then-t c = viewed-short _ _ c.if-t.true c.too_short.ensures c.clear_numbers.ensures

pub show_sheet-requires : goal.show_sheet-requires
show_sheet-requires c = record { short = judged-within _ _ _ c.judge-found.ensures.found c.if-found-eq-NO_REFUSAL.true; rows = own-few _ c.every_row-rows.ensures.rows c.rows_of.ensures }

pub returns-then-found-eq-NO_REFUSAL : goal.returns-then-found-eq-NO_REFUSAL
returns-then-found-eq-NO_REFUSAL c = viewed-taken _ _ c.if-t.false c.room_in.ensures c.judge-found.ensures.found c.if-found-eq-NO_REFUSAL.true (own-rows _ c.every_row-rows.ensures.rows c.rows_of.ensures) c.judge-found.ensures.blank c.show_sheet.ensures

pub returns-else-found-eq-NO_REFUSAL : goal.returns-else-found-eq-NO_REFUSAL
returns-else-found-eq-NO_REFUSAL c = viewed-refused _ _ c.if-t.false c.room_in.ensures c.judge-found.ensures.found c.if-found-eq-NO_REFUSAL.false c.judge-found.ensures.blank
