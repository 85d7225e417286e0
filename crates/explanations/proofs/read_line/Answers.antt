-- `explanations::read_line` meets its contract: what is read from the line and printed again is the line, or not.
-- Assumes nothing.
use mathlib.Core.Path.{◌≡◌, refl, ap, ◌∙◌}
use native.Mathlib.Omega.{arith}
use lib.ListN.{length}
use Rattle.lists.specs.Zeros.{zeros}
use Rattle.lines.specs.Text.{hex_bytes, hex_text}
use Rattle.lines.proofs.Hex.{hex-size}
use Rattle.notes.specs.Reader.{note_in}
use Rattle.explanations.proofs.OnLine.{whole, bytes-size, on-long, on_same, on-other}
use Rattle.explanations.proofs.read_line.Goals as goal

pub returns-then-line-gt56 : goal.returns-then-line-gt56
returns-then-line-gt56 c = on-long _ c.if-line-gt56.true

pub returns-then-is_same : goal.returns-then-is_same
returns-then-is_same c = let line = c.args.line.now in
    let h = c.if-line-gt56.false in
    let z : length (zeros 56) ≡ 56 = refl in
    let y : length (zeros 168) ≡ 168 = refl in
    let eb = whole (hex_bytes 16 line) (zeros 56) _ _ _ (omega (arith, bytes-size 16 line)) c.put_bytes-n.ensures.count c.put_bytes-n.ensures.bytes c.front.ensures.list in
    let b = c.front.result.now in
    let et = whole (hex_text b) (zeros 168) _ _ _ (omega (arith, hex-size b, ap length eb, bytes-size 16 line)) c.put_hex-m.ensures.count c.put_hex-m.ensures.text c.front-2.ensures.list in
    let ec = whole (hex_bytes 16 line) (zeros 56) _ _ _ (omega (arith, bytes-size 16 line)) c.put_bytes-n.ensures.count c.put_bytes-n.ensures.bytes c.front-then-is_same.ensures.list in
    c.read_note.ensures ∙ ap note_in ec ∙ on_same line h _ (et ∙ ap hex_text eb) _ c.is_same.ensures c.if-is_same.true

pub returns : goal.returns
returns c = let line = c.args.line.now in
    let h = c.if-line-gt56.false in
    let z : length (zeros 56) ≡ 56 = refl in
    let y : length (zeros 168) ≡ 168 = refl in
    let eb = whole (hex_bytes 16 line) (zeros 56) _ _ _ (omega (arith, bytes-size 16 line)) c.put_bytes-n.ensures.count c.put_bytes-n.ensures.bytes c.front.ensures.list in
    let b = c.front.result.now in
    let et = whole (hex_text b) (zeros 168) _ _ _ (omega (arith, hex-size b, ap length eb, bytes-size 16 line)) c.put_hex-m.ensures.count c.put_hex-m.ensures.text c.front-2.ensures.list in
    on-other line h _ (et ∙ ap hex_text eb) _ c.is_same.ensures c.if-is_same.false
