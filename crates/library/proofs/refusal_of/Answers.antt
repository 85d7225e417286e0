use mathlib.Core.Path.{sym, ap, ◌∙◌}
use Rattle.std.specs.Prelude.{Err}
use Rattle.notes.specs.Converter.{convert_refusal}
use Rattle.notes.specs.declared.ConvertError.{ConvertError}
use Rattle.library.proofs.refusal_of.Goals as goal

pub returns-in-OutShort : goal.returns-in-OutShort
returns-in-OutShort c = c.number.ensures ∙ sym (ap (λ (e : ConvertError). convert_refusal (Err e)) c.in-OutShort.is)

pub returns-in-NeitherShape : goal.returns-in-NeitherShape
returns-in-NeitherShape c = c.number-in-NeitherShape.ensures ∙ sym (ap (λ (e : ConvertError). convert_refusal (Err e)) c.in-NeitherShape.is)
