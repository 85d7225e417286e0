use Prim.Native.Nat.{ℕ}
use mathlib.Core.Path.{◌≡◌, refl, sym, ap, ◌∙◌}
use mathlib.Core.List.{List, [], ◌∷◌}
use native.Mathlib.Omega.{arith}
use Rattle.std.specs.Prelude.{Result, Err}
use Rattle.notes.specs.Converter.{convert_refusal, convert_length}
use Rattle.notes.specs.declared.ConvertError.{ConvertError}
use Rattle.notes.specs.declared.ConvertError.TheVariants.{OutShort, NeitherShape}
use Rattle.library.specs.Cells.{cells, two_of}
use Rattle.library.proofs.put_converted.Goals as goal

refused-length : (e : ConvertError) → convert_length (Err e) ≡ 0
refused-length OutShort = refl
refused-length NeitherShape = refl

refused-two : (c : Result ℕ ConvertError) (e : ConvertError) (n : ℕ) → c ≡ Err e → n ≡ convert_refusal (Err e) → two_of c ≡ n ∷ 0 ∷ []
unfolding two_of
refused-two c e n p q = rw (p, q, refused-length e) refl

pub overflow_cast-k : goal.overflow_cast-k
overflow_cast-k c = omega (arith, rw c.in-Ok.is at c.requires)

pub returns-in-Ok : goal.returns-in-Ok
unfolding two_of
returns-in-Ok c = record { answer = rw c.in-Ok.is c.put_pair.ensures.answer; pair = rw c.in-Ok.is c.put_pair.ensures.pair }

pub returns-in-Err : goal.returns-in-Err
returns-in-Err c = record {
  answer = c.put_pair-in-Err.ensures.answer ∙ c.refusal_of.ensures ∙ sym (ap convert_refusal c.in-Err.is);
  pair = rw (refused-two _ _ _ c.in-Err.is c.refusal_of.ensures) c.put_pair-in-Err.ensures.pair;
}
