use lib.ListN.{length}
use Rattle.writer.proofs.Fits.{permits-unfit, permits-none, permits-some}
use Rattle.writer.proofs.lumintayag_write.Goals as goal

pub returns-then-not-is_fit : goal.returns-then-not-is_fit
returns-then-not-is_fit c = rw c.put_refusal.ensures.answer (permits-unfit _ (length c.args.out.now) (length c.args.answer.now) c.is_fit.ensures c.if-not-is_fit.true c.clear_bytes.ensures c.put_refusal.ensures.cells)

pub returns-then-len-eq0 : goal.returns-then-len-eq0
returns-then-len-eq0 c = rw c.put_refusal-then-len-eq0.ensures.answer (permits-none _ (length c.args.out.now) (length c.args.answer.now) c.is_fit.ensures c.if-not-is_fit.false c.write_fit-len.ensures.answer c.write_fit-len.ensures.buffer c.if-len-eq0.true c.put_refusal-then-len-eq0.ensures.cells)

pub returns : goal.returns
returns c = permits-some _ (length c.args.out.now) (length c.args.answer.now) c.is_fit.ensures c.if-not-is_fit.false c.write_fit-len.ensures.answer c.write_fit-len.ensures.buffer c.if-len-eq0.false c.put_two.ensures
