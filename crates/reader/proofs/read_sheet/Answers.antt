use mathlib.Core.Path.{◌∙◌}
use lib.ListN.{length}
use Rattle.reader.proofs.Sheets.{sheet-long, sheet-taken, sheet-refused, blank-same}
use Rattle.reader.proofs.read_sheet.Goals as goal

pub returns-then-doc-gt1048576 : goal.returns-then-doc-gt1048576
returns-then-doc-gt1048576 c = sheet-long _ (length c.args.series.now) (length c.args.positions.now) (length c.args.amounts.now) c.clear_tables.ensures c.if-doc-gt1048576.true c.refused_first.ensures

pub returns-then-found-eq-NO_REFUSAL : goal.returns-then-found-eq-NO_REFUSAL
returns-then-found-eq-NO_REFUSAL c = sheet-taken _ (length c.args.series.now) (length c.args.positions.now) (length c.args.amounts.now) c.clear_tables.ensures c.if-doc-gt1048576.false c.read_all-found.ensures c.if-found-eq-NO_REFUSAL.true

pub returns : goal.returns
returns c = let k = c.read_all-found.auto in let l = c.clear_tables.auto in sheet-refused _ (length c.args.series.now) (length c.args.positions.now) (length c.args.amounts.now) c.clear_tables.ensures c.if-doc-gt1048576.false c.read_all-found.ensures c.if-found-eq-NO_REFUSAL.false (c.clear_tables-2.ensures ∙ blank-same (k.series ∙ l.series) (k.positions ∙ l.positions) (k.amounts ∙ l.amounts))
