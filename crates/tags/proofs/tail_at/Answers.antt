use Rattle.tags.specs.Tail.{tail, shut}
use Prim.Native.Nat.{◌+◌, ◌<◌}
use mathlib.Core.Path.{sym, ap, ◌∙◌}
use mathlib.Core.Bool.{false}
use native.Mathlib.Omega.{arith}
use lib.ListN.{length}
use Rattle.slices.proofs.Bytes.{byte-there}
use Rattle.tags.specs.Known.{none_known, absent}
use Rattle.tags.specs.declared.Known.{Known}
use Rattle.tags.proofs.Ends.{ends-over, close-tail, first-v, first-inside, first_tail, first-empty}
use Rattle.tags.proofs.tail_at.Goals as goal

pub returns-then-s-from : goal.returns-then-s-from
unfolding tail
returns-then-s-from c = record { tail = sym (ap (tail none_known) (ends-over c.args.s.now c.args.from c.if-s-from.true)); size = omega arith }

pub returns-then-byte_at-eq62 : goal.returns-then-byte_at-eq62
unfolding none_known absent
returns-then-byte_at-eq62 c = record {
  tail = c.shut.ensures ∙ ap (λ (k : Known). shut k false (c.args.from + 1)) c.none.ensures
      ∙ close-tail c.args.s.now c.args.from c.rest-t.ensures.list c.byte_at.ensures c.if-byte_at-eq62.true c.if-s-from.false;
  size = rw (c.shut.ensures, c.none.ensures) (omega (arith, c.if-s-from.false));
}

pub overflow_add-i : goal.overflow_add-i
overflow_add-i c = let h = first-inside c.args.from c.v_len-m.result c.v_use.result c.first_known-k.result c.v_use.ensures c.first_known-k.ensures c.args.s.now c.rest-t.ensures.list c.v_len-m.ensures.len in
    omega (arith, h, c.rest-t.ensures.size, c.if-s-from.false)

pub overflow_add-i-then-byte_at-eq62-2 : goal.overflow_add-i-then-byte_at-eq62-2
overflow_add-i-then-byte_at-eq62-2 c = let h = first-inside c.args.from c.v_len-m.result c.v_use.result c.first_known-k.result c.v_use.ensures c.first_known-k.ensures c.args.s.now c.rest-t.ensures.list c.v_len-m.ensures.len in
    omega (arith, h, c.rest-t.ensures.size, c.if-s-from.false)

pub returns-then-byte_at-eq62-2 : goal.returns-then-byte_at-eq62-2
returns-then-byte_at-eq62-2 c = let h = byte-there _ _ c.byte_at-then-byte_at-eq47.ensures (omega (arith, c.if-byte_at-eq62-2.true)) in
    let i : c.args.from + (c.v_len-m.result + 5) < length c.args.s.now = omega (arith, h, c.rest-t.ensures.size) in
    let f = first-inside c.args.from c.v_len-m.result c.v_use.result c.first_known-k.result c.v_use.ensures c.first_known-k.ensures c.args.s.now c.rest-t.ensures.list c.v_len-m.ensures.len in
    let v = first-v c.args.from c.v_len-m.result c.v_use.result c.first_known-k.result c.v_use.ensures c.first_known-k.ensures in
    record {
      tail = c.shut-then-byte_at-eq62-2.ensures ∙ first-empty c.args.from c.v_len-m.result c.v_use.result c.first_known-k.result c.v_use.ensures c.first_known-k.ensures c.args.s.now c.rest-t.ensures.list c.v_len-m.ensures.len c.if-m-gt0.true c.byte_at-then-m-gt0.ensures c.if-byte_at-eq47.true c.byte_at-then-byte_at-eq47.ensures c.if-byte_at-eq62-2.true i
          ∙ first_tail c.args.from c.v_len-m.result c.v_use.result c.first_known-k.result c.v_use.ensures c.first_known-k.ensures c.args.s.now c.rest-t.ensures.list c.v_len-m.ensures.len c.if-s-from.false;
      size = rw c.shut-then-byte_at-eq62-2.ensures (omega (arith, f, v, c.rest-t.ensures.size, c.if-s-from.false));
    }

pub any_tail-requires : goal.any_tail-requires
any_tail-requires c = first-v c.args.from c.v_len-m.result c.v_use.result c.first_known-k.result c.v_use.ensures c.first_known-k.ensures

pub returns : goal.returns
returns c = record { tail = c.any_tail.ensures.tail ∙ first_tail c.args.from c.v_len-m.result c.v_use.result c.first_known-k.result c.v_use.ensures c.first_known-k.ensures c.args.s.now c.rest-t.ensures.list c.v_len-m.ensures.len c.if-s-from.false; size = c.any_tail.ensures.size }
