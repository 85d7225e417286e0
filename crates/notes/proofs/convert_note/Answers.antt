-- `notes::convert_note` meets its contract.
-- Assumes nothing.
use mathlib.Core.Path.{◌≡◌, sym, ap, ◌∙◌}
use lib.ListN.{length}
use borrow.Author.Rules.{rules}
use Rattle.lists.specs.Zeros.{zeros}
use Rattle.std.specs.Prelude.{Ok}
use Rattle.notes.proofs.Converting.{conv-short, conv-neither, conv-turned}
use Rattle.notes.proofs.convert_note.Goals as goal

pub returns-then-out-lt24 : goal.returns-then-out-lt24
returns-then-out-lt24 c = let h = conv-short c.args.s.now c.args.shape _ c.if-out-lt24.true in
    let f : c.fill.new.self ≡ zeros (length c.args.out.now) = search rules in
    record { answer = h.0; buffer = f ∙ h.1 }

pub returns-in_default : goal.returns-in_default
returns-in_default c = let h = conv-neither c.args.s.now c.args.shape _ c.if-out-lt24.false (sym c.read_note.ensures ∙ c.in_default.is) in
    let f : c.fill-in_default.new.self ≡ zeros (length c.args.out.now) = search rules in
    record { answer = h.0; buffer = f ∙ h.1 }

pub returns : goal.returns
returns c = let h = conv-turned c.args.s.now c.args.shape _ _ c.if-out-lt24.false (sym c.read_note.ensures ∙ c.in-Some.is) in
    record { answer = ap Ok c.write_note.ensures.answer ∙ h.0; buffer = c.write_note.ensures.buffer ∙ h.1 }
