-- `escapes::put_utf8` meets its contract. Assumes nothing.
use Rattle.escapes.proofs.Spelling.{utf8-one, utf8-two, utf8-three, utf8-four}
use Rattle.escapes.proofs.put_utf8.Goals as goal

pub returns-then-c-lt128 : goal.returns-then-c-lt128
returns-then-c-lt128 c = record { answer = rw (utf8-one _ c.if-c-lt128.true) c.put_text.ensures.answer; buffer = rw (utf8-one _ c.if-c-lt128.true) c.put_text.ensures.buffer }

pub returns-then-c-lt2048 : goal.returns-then-c-lt2048
returns-then-c-lt2048 c = record { answer = rw (utf8-two _ c.if-c-lt128.false c.if-c-lt2048.true) c.put_text-then-c-lt2048.ensures.answer; buffer = rw (utf8-two _ c.if-c-lt128.false c.if-c-lt2048.true, ← c.later_byte.ensures) c.put_text-then-c-lt2048.ensures.buffer }

pub returns-then-c-lt65536 : goal.returns-then-c-lt65536
returns-then-c-lt65536 c = record { answer = rw (utf8-three _ c.if-c-lt2048.false c.if-c-lt65536.true) c.put_text-then-c-lt65536.ensures.answer; buffer = rw (utf8-three _ c.if-c-lt2048.false c.if-c-lt65536.true, ← c.later_byte-then-c-lt65536-2.ensures, ← c.later_byte-then-c-lt65536.ensures) c.put_text-then-c-lt65536.ensures.buffer }

pub returns : goal.returns
returns c = record { answer = rw (utf8-four _ c.if-c-lt65536.false) c.put_text-2.ensures.answer; buffer = rw (utf8-four _ c.if-c-lt65536.false, ← c.later_byte-4.ensures, ← c.later_byte-3.ensures, ← c.later_byte-2.ensures) c.put_text-2.ensures.buffer }
