-- What an item comes to, in numbers, and how the code tells it.
use Rattle.std.specs.Prelude.{ℕ, Result, Ok, Err}
use Rattle.refusals.specs.Refusals.{number}
use Rattle.refusals.specs.declared.Refusal.{Refusal}
use Rattle.states.specs.declared.State.{State}
use Rattle.states.specs.declared.Entry.{Entry}

-- the state after it and what it brings into the tables, or the refusal's number
pub data Step : Type 0 where
  Next : State → Entry → Step
  Refused : ℕ → Step

abbrev pub step_told : Result (State × Entry) Refusal → Step
step_told (Ok m) = Next m.0 m.1
step_told (Err r) = Refused (number r)
