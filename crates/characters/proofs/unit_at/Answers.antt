use mathlib.Core.Path.{◌≡◌, refl, sym, ap, ◌∙◌}
use Rattle.std.specs.Prelude.{ℕ, Option, Some, None, unwrap_or}
use Rattle.characters.specs.Says.{said_by}
use Rattle.characters.proofs.Units.{met-reference, met-standing}
use Rattle.characters.proofs.unit_at.Goals as goal

-- a byte that belongs to no character says 0
stray : (x : Option (ℕ × ℕ)) → Some (unwrap_or x (0, 1)) ≡ said_by x
unfolding said_by
stray (Some (c, n)) = refl
stray None = refl

pub returns-then-byte_at-eq38-clause-char : goal.returns-then-byte_at-eq38-clause-char
returns-then-byte_at-eq38-clause-char c =
    ap Some c.unwrap_or.ensures
    ∙ stray _
    ∙ ap said_by (c.reference_at.ensures.char ∙ sym (met-reference _ (sym c.byte_at.ensures ∙ c.if-byte_at-eq38.true)))

pub returns-clause-char : goal.returns-clause-char
returns-clause-char c =
    ap Some c.unwrap_or-2.ensures
    ∙ stray _
    ∙ ap said_by (c.char_at.ensures.char ∙ sym (met-standing _ (λ e. c.if-byte_at-eq38.false (c.byte_at.ensures ∙ e))))
