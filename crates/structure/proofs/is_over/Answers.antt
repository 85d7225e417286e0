use Rattle.std.specs.Prelude.{◌≡◌, ℕ, nat_eq, Option, Some, None}
use Rattle.std.specs.Option.{option_eq}
use mathlib.Core.Path.{refl, ap, ◌∙◌}
use Rattle.structure.specs.Rows.{closes_document, over_of}
use Rattle.structure.proofs.is_over.Goals as goal

row-none : (d : Option ℕ) → option_eq nat_eq d (Some 0) ≡ closes_document d
unfolding closes_document
row-none (Some p) = refl
row-none None = refl

pub returns : goal.returns
unfolding over_of
returns c = c.eq.ensures ∙ row-none _ ∙ ap closes_document c.end_after.ensures
