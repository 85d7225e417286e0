-- A number tells one refusal, and none has the number of acceptance. Assumes nothing.
use Prim.Native.Nat.{ℕ, zero, suc}
use mathlib.Core.Path.{◌≡◌, refl, sym, ap, ◌∙◌}
use mathlib.Core.Bool.{Bool, false}
use Rattle.std.specs.Prelude.{[], ◌∷◌, get_or, Result, Ok, Err, IsErrAnd}
use lib.Dec.{eqb}
use Rattle.refusals.specs.Refusals.{number}
use Rattle.refusals.specs.declared.Refusal.{Refusal}
use Rattle.refusals.specs.declared.Refusal.TheVariants.{TooLong, UnreadableItem, NotDue, TableFull, WrongAttribute, AgainstForm, OutsideList, AgainstValue, UsedAgain, BufferShort, NotOneNote, ContentUnfit, NoRoomToWrite}

abbrev of_number : ℕ → Refusal
of_number n = get_or (TooLong ∷ TooLong ∷ UnreadableItem ∷ NotDue ∷ TableFull ∷ WrongAttribute ∷ AgainstForm ∷ OutsideList ∷ AgainstValue ∷ UsedAgain ∷ BufferShort ∷ NotOneNote ∷ ContentUnfit ∷ NoRoomToWrite ∷ []) n TooLong

of-number : (r : Refusal) → of_number (number r) ≡ r
of-number TooLong = refl
of-number UnreadableItem = refl
of-number NotDue = refl
of-number TableFull = refl
of-number WrongAttribute = refl
of-number AgainstForm = refl
of-number OutsideList = refl
of-number AgainstValue = refl
of-number UsedAgain = refl
of-number BufferShort = refl
of-number NotOneNote = refl
of-number ContentUnfit = refl
of-number NoRoomToWrite = refl

pub number-one : (a b : Refusal) → number a ≡ number b → a ≡ b
number-one a b e = sym (of-number a) ∙ ap of_number e ∙ of-number b

-- what `?` passes on
pub raised : {T : Type 0} (q : Result T Refusal) (r : Refusal) → IsErrAnd q (λ e. e ≡ r) → q ≡ Err r
raised (Ok x) r p = absurd p
raised (Err e) r p = ap Err p

pub refuses : (r : Refusal) → eqb (number r) 0 ≡ false
refuses TooLong = refl
refuses UnreadableItem = refl
refuses NotDue = refl
refuses TableFull = refl
refuses WrongAttribute = refl
refuses AgainstForm = refl
refuses OutsideList = refl
refuses AgainstValue = refl
refuses UsedAgain = refl
refuses BufferShort = refl
refuses NotOneNote = refl
refuses ContentUnfit = refl
refuses NoRoomToWrite = refl
