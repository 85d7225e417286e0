-- What an item does to the state.
use Rattle.std.specs.Prelude.{true, false, cond}
use Rattle.refusals.specs.declared.Refusal.TheVariants.{UnreadableItem, NotDue}
use Rattle.items.specs.declared.Item.{Item}
use Rattle.items.specs.declared.Item.TheVariants.{Start, Empty, End, Text, Comment, Unreadable}
use Rattle.states.specs.declared.Act.{Act}
use Rattle.states.specs.declared.Act.TheVariants.{Opens, Closes, Passes, Refuses}

unfoldable pub act_of : Item → Act
act_of (Start t) = Opens t false
act_of (Empty t) = Opens t true
act_of (End n e) = Closes
act_of (Text white e) = cond white Passes (Refuses NotDue)
act_of (Comment e) = Passes
act_of (Unreadable p) = Refuses UnreadableItem
