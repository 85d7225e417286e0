use Rattle.views.proofs.Sheets.{own-rows, own-few}
use Rattle.putting.proofs.put_sheet.Goals as goal

pub put_by-requires : goal.put_by-requires
put_by-requires c = own-few _ c.every_row-rows.ensures.rows c.rows_of.ensures

pub returns : goal.returns
returns c = record { answer = rw (← own-rows _ c.every_row-rows.ensures.rows c.rows_of.ensures) c.put_by.ensures.answer; buffer = rw (← own-rows _ c.every_row-rows.ensures.rows c.rows_of.ensures) c.put_by.ensures.buffer }
