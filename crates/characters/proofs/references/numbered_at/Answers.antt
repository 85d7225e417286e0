use Prim.Native.Nat.{ℕ}
use mathlib.Core.Path.{sym, ap, ◌∙◌}
use mathlib.Core.List.{List}
use native.Mathlib.Omega.{arith}
use lib.ListN.{take}
use Rattle.slices.specs.Run.{run}
use Rattle.slices.proofs.Bytes.{byte-there}
use Rattle.characters.proofs.Referring.{numbered-char, numbered-none}
use Rattle.characters.specs.References.{ref_digit, capped, number_by}
use borrow.Author.Rules.{rules}
use Rattle.characters.proofs.references.numbered_at.Goals as goal

pub returns-then-is_xml_char : goal.returns-then-is_xml_char
returns-then-is_xml_char c = record { char = numbered-char c.args.hex c.args.from c.args.s.now (c.digits_len-n.ensures.run ∙ ap (run (ref_digit c.args.hex)) c.rest-t.ensures.list) c.if-n-eq0.false (sym c.byte_at.ensures ∙ c.if-byte_at-eq59.true) (c.number_in-c.ensures ∙ ap (λ (l : List ℕ). capped (number_by c.args.hex 0 l)) (c.front.ensures.list ∙ ap (take c.digits_len-n.result) c.rest-t.ensures.list)) (sym c.is_xml_char.ensures ∙ c.if-is_xml_char.true); size = omega (arith, byte-there c.args.s.now _ c.byte_at.ensures (omega arith)) }

pub returns-else-is_xml_char : goal.returns-else-is_xml_char
returns-else-is_xml_char c = record { char = numbered-none c.args.hex c.args.from c.args.s.now (c.digits_len-n.ensures.run ∙ ap (run (ref_digit c.args.hex)) c.rest-t.ensures.list) c.if-n-eq0.false (sym c.byte_at.ensures ∙ c.if-byte_at-eq59.true) (c.number_in-c.ensures ∙ ap (λ (l : List ℕ). capped (number_by c.args.hex 0 l)) (c.front.ensures.list ∙ ap (take c.digits_len-n.result) c.rest-t.ensures.list)) (sym c.is_xml_char.ensures ∙ c.if-is_xml_char.false); size = search rules }
