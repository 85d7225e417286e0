-- `lines::put_byte` meets its contract: a store past the end changes nothing.
-- Assumes nothing.
use mathlib.Core.Path.{sym}
use native.Mathlib.Omega.{arith}
use lib.Seq.{set_out}
use Rattle.lines.proofs.put_byte.Goals as goal

pub returns : goal.returns
returns c = record { next = omega arith; byte = sym (set_out _ _ _ c.if-n-out.false) }
