-- The contract of `judge_value` leaves one possible answer. Assumes nothing.
use Prim.Native.Nat.{ℕ}
use mathlib.Core.Path.{◌≡◌, refl, sym, ap, ◌∙◌}
use mathlib.Core.List.{List}
use Rattle.std.specs.Prelude.{Result, Ok, Err}
use Rattle.characters.specs.Says.{says}
use Rattle.refusals.specs.declared.Refusal.{Refusal}
use Rattle.refusals.proofs.Numbers.{number-one, refuses}
use Rattle.rules.specs.Rules.{judge}
use Rattle.rules.specs.Judged.{Judged, said, judged_told}
use Rattle.rules.specs.declared.Held.{Held}
use Rattle.rules.specs.declared.Says.{Says}

said-one : (x y : Says) → said x ≡ said y → x ≡ y
said-one x y e = ap (λ (j : Judged). record { first = j.first; second = j.second }) e

pub told-one : (r r' : Result Says Refusal) → judged_told r ≡ judged_told r' → r ≡ r'
told-one (Ok x) (Ok y) e = ap Ok (said-one x y e)
told-one (Ok x) (Err b) e = let h = ap (λ (j : Judged). j.number) e in cc (refuses b)
told-one (Err a) (Ok y) e = let h = ap (λ (j : Judged). j.number) e in cc (refuses a)
told-one (Err a) (Err b) e = ap Err (number-one a b (ap (λ (j : Judged). j.number) e))

pub judge-value-one : (form : ℕ) (v : List ℕ) (h : Held) {r r' : Result Says Refusal} → judged_told r ≡ judge form h (says v) → judged_told r' ≡ judge form h (says v) → r ≡ r'
judge-value-one form v h {r} {r'} p q = told-one r r' (p ∙ sym q)
