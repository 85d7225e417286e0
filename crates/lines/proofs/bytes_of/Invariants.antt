use Rattle.std.proofs.Common.{◌≡◌, ◌++◌, ◌<◌, drop, IfSome}
use Rattle.lines.specs.Text.{hex_bytes}
use Rattle.lines.proofs.Hex.{waiting}
use Rattle.lines.proofs.bytes_of.Given as goal

abbrev pub invariant-loop-c : goal.invariant-loop-c
invariant-loop-c l = record {
  digit : IfSome l.high (λ h. h < 16);
  rest : l.bytes.items ++ hex_bytes (waiting l.high) (drop l.c-index l.line) ≡ hex_bytes 16 l.line;
}
