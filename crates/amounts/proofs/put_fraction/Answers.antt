-- `amounts::put_fraction` meets its contract: byte after byte is put, and the text is known where it ends. Assumes nothing.
use Prim.Native.Nat.{◌+◌}
use mathlib.Core.Path.{refl, sym}
use native.Mathlib.Nat.{add_assoc}
use Rattle.amounts.proofs.Putting.{byte_put, told, more, nothing}
use Rattle.amounts.proofs.Fractions.{no-point, point-first, one-after, two-after, three-after}
use Rattle.amounts.proofs.put_fraction.Goals as goal

pub returns-then-f-eq0 : goal.returns-then-f-eq0
returns-then-f-eq0 c = let it = nothing _ _ (no-point _ c.if-f-eq0.true) in record { end = it.0; buffer = it.1 }

pub returns-then-f-eq0-2 : goal.returns-then-f-eq0-2
returns-then-f-eq0-2 c = let it = let at = c.args.at in
    let p = byte_put _ at _ _ (at + 1) _ refl refl c.set_byte.ensures in
    let q = byte_put _ (at + 1) _ _ (at + 2) _ (sym (add_assoc at 1 1)) c.numeral.ensures c.set_byte-2.ensures in
    told (sym (point-first _ (one-after _ c.if-f-eq0.false c.if-f-eq0-2.true))) (more p q) in record { end = it.0; buffer = it.1 }

pub returns-then-f-eq0-3 : goal.returns-then-f-eq0-3
returns-then-f-eq0-3 c = let it = let at = c.args.at in
    let p = byte_put _ at _ _ (at + 1) _ refl refl c.set_byte.ensures in
    let q = byte_put _ (at + 1) _ _ (at + 2) _ (sym (add_assoc at 1 1)) c.numeral.ensures c.set_byte-2.ensures in
    let r = byte_put _ (at + 2) _ _ (at + 3) _ (sym (add_assoc at 2 1)) c.numeral-2.ensures c.set_byte-3.ensures in
    told (sym (point-first _ (two-after _ c.if-f-eq0.false c.if-f-eq0-2.false c.if-f-eq0-3.true))) (more p (more q r)) in record { end = it.0; buffer = it.1 }

pub returns : goal.returns
returns c = let it = let at = c.args.at in
    let p = byte_put _ at _ _ (at + 1) _ refl refl c.set_byte.ensures in
    let q = byte_put _ (at + 1) _ _ (at + 2) _ (sym (add_assoc at 1 1)) c.numeral.ensures c.set_byte-2.ensures in
    let r = byte_put _ (at + 2) _ _ (at + 3) _ (sym (add_assoc at 2 1)) c.numeral-2.ensures c.set_byte-3.ensures in
    let s = byte_put _ (at + 3) _ _ (at + 4) _ (sym (add_assoc at 3 1)) c.numeral-3.ensures c.set_byte-4.ensures in
    told (sym (point-first _ (three-after _ c.if-f-eq0.false c.if-f-eq0-2.false c.if-f-eq0-3.false))) (more p (more q (more r s))) in record { end = it.0; buffer = it.1 }
