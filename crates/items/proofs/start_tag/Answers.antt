use mathlib.Core.Path.{sym, ap, ◌∙◌}
use native.Mathlib.Omega.{arith}
use Rattle.items.specs.Item.{start_tag}
use Rattle.items.specs.declared.Item.TheVariants.{Start, Empty}
use Rattle.items.proofs.Tagged.{start-name, tagged, broken}
use borrow.Author.Rules.{rules}
use Rattle.items.proofs.start_tag.Goals as goal

pub returns-then-is_repeated : goal.returns-then-is_repeated
returns-then-is_repeated c = record { item = sym (start-name c.args.before c.args.s.now c.byte_at.ensures c.is_name_start.ensures c.if-is_name_start.true c.rest.ensures.list c.name_len-n.ensures.run ∙ tagged c.args.before c.name_len-n.result _ _ _ _ c.is_repeated.result (sym c.in-Some.is ∙ c.tail_at.ensures.tail) c.is_repeated.ensures ∙ rw c.if-is_repeated.true); size = omega arith }

pub returns-then-tail : goal.returns-then-tail
returns-then-tail c = record { item = ap Empty c.tag_of-t.ensures.tag ∙ sym (start-name c.args.before c.args.s.now c.byte_at.ensures c.is_name_start.ensures c.if-is_name_start.true c.rest.ensures.list c.name_len-n.ensures.run ∙ tagged c.args.before c.name_len-n.result _ _ _ _ c.is_repeated.result (sym c.in-Some.is ∙ c.tail_at.ensures.tail) c.is_repeated.ensures ∙ rw (c.if-is_repeated.false, c.if-tail.true)); size = rw c.tag_of-t.ensures.size.1 (omega (arith, c.tag_of-t.ensures.size.0, rw c.in-Some.is at c.tail_at.ensures.size)) }

pub returns-in-Some : goal.returns-in-Some
returns-in-Some c = record { item = ap Start c.tag_of-t.ensures.tag ∙ sym (start-name c.args.before c.args.s.now c.byte_at.ensures c.is_name_start.ensures c.if-is_name_start.true c.rest.ensures.list c.name_len-n.ensures.run ∙ tagged c.args.before c.name_len-n.result _ _ _ _ c.is_repeated.result (sym c.in-Some.is ∙ c.tail_at.ensures.tail) c.is_repeated.ensures ∙ rw (c.if-is_repeated.false, c.if-tail.false)); size = rw c.tag_of-t.ensures.size.1 (omega (arith, c.tag_of-t.ensures.size.0, rw c.in-Some.is at c.tail_at.ensures.size)) }

pub returns-in-None : goal.returns-in-None
returns-in-None c = record { item = sym (start-name c.args.before c.args.s.now c.byte_at.ensures c.is_name_start.ensures c.if-is_name_start.true c.rest.ensures.list c.name_len-n.ensures.run ∙ broken c.args.before c.name_len-n.result _ (sym c.in-None.is ∙ c.tail_at.ensures.tail)); size = omega arith }

pub returns : goal.returns
unfolding start_tag
returns c = record { item = simp (c.if-is_name_start.false, ← c.is_name_start.ensures, ← c.byte_at.ensures); size = search rules }
