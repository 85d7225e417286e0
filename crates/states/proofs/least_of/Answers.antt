use Prim.Native.Nat.{ℕ}
use mathlib.Core.Path.{◌≡◌, refl}
use mathlib.Core.Bool.{Bool, true, false, cond}
use lib.Dec.{ltb, leb}
use borrow.Author.Tests.{le-leb, lt-leb, ltb-true, ltb-false}
use denote.Enum.Declared.{tag_of}
use Rattle.std.specs.Prelude.{[], ◌∷◌, get_or, pos}
use Rattle.std.specs.Ordering.{ord_min}
use Rattle.refusals.specs.Refusals.{number}
use Rattle.refusals.specs.contracts.Refusal.{the_type}
use Rattle.refusals.specs.contracts.RefusalOrd.TheImpl.{cmp-value}
use Rattle.refusals.specs.declared.Refusal.{Refusal}
use Rattle.refusals.specs.declared.Refusal.TheVariants.{TooLong, UnreadableItem, NotDue, TableFull, WrongAttribute, AgainstForm, OutsideList, AgainstValue, UsedAgain, BufferShort, NotOneNote, ContentUnfit, NoRoomToWrite}
use Rattle.refusals.proofs.Numbers.{refuses}
use Rattle.states.specs.Attributes.{least}
use Rattle.states.proofs.least_of.Goals as goal

-- the derived order is that of the numbers
ordered_as : (r : Refusal) → get_or (pos 1 ∷ pos 2 ∷ pos 3 ∷ pos 4 ∷ pos 5 ∷ pos 6 ∷ pos 7 ∷ pos 8 ∷ pos 9 ∷ pos 10 ∷ pos 11 ∷ pos 12 ∷ pos 13 ∷ []) (tag_of the_type r) (pos 0) ≡ pos (number r)
ordered_as TooLong = refl
ordered_as UnreadableItem = refl
ordered_as NotDue = refl
ordered_as TableFull = refl
ordered_as WrongAttribute = refl
ordered_as AgainstForm = refl
ordered_as OutsideList = refl
ordered_as AgainstValue = refl
ordered_as UsedAgain = refl
ordered_as BufferShort = refl
ordered_as NotOneNote = refl
ordered_as ContentUnfit = refl
ordered_as NoRoomToWrite = refl

min_by : (a b : Refusal) (p q : Bool) → ltb (number b) (number a) ≡ p → ltb (number a) (number b) ≡ q
    → number (ord_min cmp-value.it a b) ≡ cond (leb (number a) (number b)) (number a) (number b)
min_by a b true q e f = rw (ordered_as a, ordered_as b, e, lt-leb _ _ (ltb-true _ _ e))
min_by a b false true e f = rw (ordered_as a, ordered_as b, e, f, le-leb _ _ (ltb-false _ _ e))
min_by a b false false e f = rw (ordered_as a, ordered_as b, e, f, le-leb _ _ (ltb-false _ _ e))

pub returns : goal.returns
unfolding least
returns c = rw (c.min.ensures, refuses c.args.a, refuses c.args.b) (min_by c.args.a c.args.b _ _ refl refl)
