use mathlib.Core.Path.{◌≡◌}
use mathlib.Core.List.{[], ◌∷◌}
use native.Mathlib.Omega.{arith}
use Rattle.escapes.specs.Escaped.{escaped_byte}
use Rattle.escapes.proofs.Escaping.{plain_byte, needed}
use Rattle.escapes.proofs.put_escaped_byte.Goals as goal

pub returns-in-38 : goal.returns-in-38
returns-in-38 c = record { answer = rw (c.in-38.is, needed.0) c.put_text.ensures.answer; buffer = rw (c.in-38.is, needed.0) c.put_text.ensures.buffer }

pub returns-in-60 : goal.returns-in-60
returns-in-60 c = record { answer = rw (c.in-60.is, needed.1) c.put_text-in-60.ensures.answer; buffer = rw (c.in-60.is, needed.1) c.put_text-in-60.ensures.buffer }

pub returns-in-34 : goal.returns-in-34
returns-in-34 c = record { answer = rw (c.in-34.is, needed.2) c.put_text-in-34.ensures.answer; buffer = rw (c.in-34.is, needed.2) c.put_text-in-34.ensures.buffer }

pub returns-in-9 : goal.returns-in-9
returns-in-9 c = record { answer = rw (c.in-9.is, needed.3) c.put_text-in-9.ensures.answer; buffer = rw (c.in-9.is, needed.3) c.put_text-in-9.ensures.buffer }

pub returns-in-10 : goal.returns-in-10
returns-in-10 c = record { answer = rw (c.in-10.is, needed.4) c.put_text-in-10.ensures.answer; buffer = rw (c.in-10.is, needed.4) c.put_text-in-10.ensures.buffer }

pub returns-in-13 : goal.returns-in-13
returns-in-13 c = record { answer = rw (c.in-13.is, needed.5) c.put_text-in-13.ensures.answer; buffer = rw (c.in-13.is, needed.5) c.put_text-in-13.ensures.buffer }

pub returns-in_default : goal.returns-in_default
returns-in_default c =
    let p : escaped_byte c.args.b ≡ c.args.b ∷ [] =
    plain_byte (record { amp = λ e. omega arith; lt = λ e. omega arith; quot = λ e. omega arith; tab = λ e. omega arith; lf = λ e. omega arith; cr = λ e. omega arith }) in
    record { answer = rw p; buffer = rw p c.set_byte.ensures }
