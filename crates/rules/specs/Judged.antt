-- What a value comes to, in numbers, and how the code tells it.
use Rattle.std.specs.Prelude.{ℕ, cond, eqb, Result, Ok, Err}
use Rattle.refusals.specs.Refusals.{no_refusal, number}
use Rattle.refusals.specs.declared.Refusal.{Refusal}
use Rattle.rules.specs.declared.Says.{Says}

-- the refusal's number, 0 for none, and what the value says
pub record Judged : Type 0 where
  pub number : ℕ
  pub first : ℕ
  pub second : ℕ

-- a value that is taken
abbrev pub said : Says → Judged
said x = record { number = no_refusal; first = x.first; second = x.second }

-- what the code tells: of a value that is taken what it says, of one that is refused the refusal, and that it says nothing
abbrev pub judged_told : Result Says Refusal → Judged
judged_told (Ok x) = said x
judged_told (Err r) = record { number = number r; first = 0; second = 0 }

-- what counts of what a value comes to: beside a refusal, nothing that it says
unfoldable pub settled : Judged → Judged
settled j = cond (eqb j.number no_refusal) j (record { number = j.number; first = 0; second = 0 })
