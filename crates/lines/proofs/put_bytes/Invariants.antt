use Rattle.std.proofs.Common.{◌<◌, drop, IfSome}
use Rattle.lists.proofs.Stores.{Putting}
use Rattle.lines.specs.Text.{hex_bytes}
use Rattle.lines.proofs.Hex.{waiting}
use Rattle.lines.proofs.put_bytes.Given as goal

abbrev pub invariant-loop-c : goal.invariant-loop-c
invariant-loop-c l = record {
  digit : IfSome l.high (λ h. h < 16);
  put : Putting (hex_bytes 16 l.line) l.initial.out l.out l.n (hex_bytes (waiting l.high) (drop l.c-index l.line));
}
