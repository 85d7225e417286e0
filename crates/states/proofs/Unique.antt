-- The contracts of `is_there`, `asks_v`, `asks_scheme`, `count_of`, `begin` and `step` leave one possible answer. Assumes nothing.
use mathlib.Core.Path.{◌≡◌, sym, ap, ◌∙◌}
use mathlib.Core.List.{List}
use mathlib.Core.Bool.{Bool}
use Prim.Native.Nat.{ℕ, ◌-◌}
use Rattle.std.specs.Prelude.{Result, Ok, Err}
use Rattle.refusals.specs.Refusals.{number}
use Rattle.refusals.specs.declared.Refusal.{Refusal}
use Rattle.refusals.proofs.Numbers.{number-one}
use Rattle.slices.specs.declared.Span.{Span}
use Rattle.items.specs.declared.Item.{Item}
use Rattle.lists.proofs.Unique.{one}
use Rattle.states.specs.Attributes.{there, asks_v, asks_scheme}
use Rattle.states.specs.Moves.{begun, step_by}
use Rattle.states.specs.declared.State.{State}
use Rattle.states.specs.declared.Room.{Room}
use Rattle.states.specs.declared.Entry.{Entry}
use Rattle.states.specs.Step.{Next, step_told}

pub is-there-one : (x : Span) {r r' : Bool} → r ≡ there x → r' ≡ there x → r ≡ r'
is-there-one x = one

pub asks-v-one : (w : ℕ) {r r' : Bool} → r ≡ asks_v w → r' ≡ asks_v w → r ≡ r'
asks-v-one w = one

pub asks-scheme-one : (w : ℕ) {r r' : Bool} → r ≡ asks_scheme w → r' ≡ asks_scheme w → r ≡ r'
asks-scheme-one w = one

pub count-of-one : (intervals first : ℕ) {r r' : ℕ} → r ≡ intervals - first → r' ≡ intervals - first → r ≡ r'
count-of-one intervals first = one

pub begin-one : {r r' : State} → r ≡ begun → r' ≡ begun → r ≡ r'
begin-one = one

told-one : (r r' : Result (State × Entry) Refusal) → step_told r ≡ step_told r' → r ≡ r'
told-one (Ok (x, d)) (Ok (y, f)) e = let a : x ≡ y = cc in let b : d ≡ f = cc in cc
told-one (Ok m) (Err b) e = cc
told-one (Err a) (Ok n) e = cc
told-one (Err a) (Err b) e = let k : number a ≡ number b = cc in ap Err (number-one a b k)

pub step-one : (x : State) (rows : List ℕ) (item : Item) (s : List ℕ) (room : Room) {r r' : Result (State × Entry) Refusal}
    → step_told r ≡ step_by x rows item s room → step_told r' ≡ step_by x rows item s room → r ≡ r'
step-one x rows item s room {r} {r'} p q = told-one r r' (p ∙ sym q)
