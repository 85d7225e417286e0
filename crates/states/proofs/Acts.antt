-- What an item moves, by its act; and that it goes by the rows of its kind. Assumes nothing.
use Prim.Native.Nat.{ℕ}
use mathlib.Core.Path.{◌≡◌, refl}
use mathlib.Core.List.{List}
use mathlib.Core.Bool.{true, false}
use Rattle.elements.specs.Names.{element_no}
use Rattle.refusals.specs.Refusals.{number}
use Rattle.guideline.specs.Rows.{every_row}
use Rattle.guideline.proofs.Each.{rows-in}
use Rattle.items.specs.Parts.{name_in}
use Rattle.items.specs.declared.Item.{Item}
use Rattle.items.specs.declared.Item.TheVariants.{Start, Empty, End, Text, Comment, Unreadable}
use Rattle.states.specs.Act.{act_of}
use Rattle.states.specs.Moves.{started, after_end, moved, kind_told, step_by, step}
use Rattle.states.specs.declared.State.{State}
use Rattle.states.specs.declared.Room.{Room}
use Rattle.states.specs.declared.Entry.TheVariants.{Nothing}
use Rattle.states.specs.Step.{Step, Next, Refused}
use Rattle.states.specs.declared.Act.{Act}
use Rattle.states.specs.declared.Act.TheVariants.{Opens, Closes, Passes, Refuses}

unfoldable pub acted : State → ℕ → List ℕ → ℕ → List ℕ → Room → Act → Step
acted x kind rows name s room (Opens t empty) = started x kind rows name t s empty room
acted x kind rows name s room Closes = after_end x rows name
acted x kind rows name s room Passes = Next x Nothing
acted x kind rows name s room (Refuses r) = Refused (number r)

pub moved-acted : (item : Item) (x : State) (kind : ℕ) (rows s : List ℕ) (room : Room)
    → moved x kind rows item s room ≡ acted x kind rows (element_no (name_in item s)) s room (act_of item)
unfolding act_of name_in moved acted
moved-acted (Start t) x kind rows s room = refl
moved-acted (Empty t) x kind rows s room = refl
moved-acted (End n k) x kind rows s room = refl
moved-acted (Text true k) x kind rows s room = refl
moved-acted (Text false k) x kind rows s room = refl
moved-acted (Comment k) x kind rows s room = refl
moved-acted (Unreadable p) x kind rows s room = refl

pub step-rows : (x : State) (item : Item) (s : List ℕ) (room : Room) → step_by x every_row item s room ≡ step x item s room
unfolding step_by step
step-rows x item s room = rw (rows-in (kind_told x item s)) refl
