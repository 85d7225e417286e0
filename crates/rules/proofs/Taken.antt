-- A value is taken where the code tells no refusal, and one that is refused says nothing. Assumes nothing.
use Prim.Native.Nat.{ℕ, ◌+◌}
use mathlib.Core.Path.{◌≡◌, refl, sym, ap, ◌∙◌}
use mathlib.Core.List.{List}
use mathlib.Core.Bool.{Bool, true, false, cond}
use mathlib.Core.Logic.{⊎_elim}
use lib.Dec.{eqb}
use Rattle.std.specs.Prelude.{Result, Ok, Err, is_ok}
use Rattle.lists.proofs.Cases.{by_cond, eqb-cases}
use Rattle.slices.specs.Same.{same}
use Rattle.slices.specs.Text.{text}
use Rattle.refusals.specs.Refusals.{number, outside_list}
use Rattle.refusals.specs.declared.Refusal.{Refusal}
use Rattle.refusals.proofs.Numbers.{refuses}
use Rattle.columns.specs.Columns.{in_list, business_type_three_list, direction_list}
use Rattle.codes.specs.Lists.{lists, codes_of, listed}
use Rattle.rules.specs.Rules.{unless, form_refusal, type_no, direction_no, code_no}
use Rattle.rules.specs.Judged.{Judged, said, judged_told, settled}
use Rattle.rules.specs.declared.Says.{Says}

-- ---- what counts of it, and what the code tells
number-counts : (j : Judged) → (settled j).number ≡ j.number
unfolding settled
number-counts j = by_cond (λ (k : Judged). k.number ≡ j.number) (eqb j.number 0) refl refl

-- of a refusal its number alone
pub refusal-settled : (r : Refusal) (j : Judged) → j.number ≡ number r → judged_told (Err r) ≡ settled j
unfolding settled
refusal-settled r j e = rw (e, refuses r) refl

pub settled-refusal : (r : Refusal) (j : Judged) → judged_told (Err r) ≡ settled j → j.number ≡ number r
settled-refusal r j e = sym (ap (λ (k : Judged). k.number) e ∙ number-counts j)

-- and of a value that is taken all
pub settled-taken : (x : Says) (j : Judged) → judged_told (Ok x) ≡ settled j → j ≡ said x
unfolding settled
settled-taken x j e =
    let n : j.number ≡ 0 = sym (ap (λ (k : Judged). k.number) e ∙ number-counts j) in
    let same : settled j ≡ j = rw n refl in
    sym (e ∙ same)

-- so what is told whole counts whole
pub told-settled : (q : Result Says Refusal) (j : Judged) → judged_told q ≡ j → judged_told q ≡ settled j
unfolding settled
told-settled (Ok x) j e = rw (sym e) refl
told-settled (Err r) j e = refusal-settled r j (sym (ap (λ (k : Judged). k.number) e))

pub taken : (q : Result Says Refusal) (j : Judged) → judged_told q ≡ settled j → is_ok q ≡ eqb j.number 0
taken (Ok x) j e = rw (settled-taken x j e) refl
taken (Err r) j e = rw (settled-refusal r j e) (sym (refuses r))

-- of a list of two codes: a value that is neither of them is no code
two : (r : Refusal) (a b : Bool) → number r ≡ unless outside_list (cond a true (cond b true false)) → ◌≡◌ {A = ℕ} (cond a 1 (cond b 2 0)) 0
unfolding unless
two r true b e = cc (refuses r)
two r false true e = cc (refuses r)
two r false false e = refl

pub unsaid : (r : Refusal) (form : ℕ) (cs : List ℕ) → number r ≡ form_refusal form cs → code_no form cs ≡ 0
unfolding form_refusal code_no type_no direction_no codes_of lists listed
unsaid r form cs e =
    ⊎_elim
    (λ y. let f = rw y.0 at e in rw y.0 (two r (same (text "A77") cs) (same (text "B59") cs) f))
    (λ y. rw y.1 (
    ⊎_elim
    (λ z. let f = rw z.0 at e in rw z.0 (two r (same (text "A01") cs) (same (text "A02") cs) f))
    (λ z. rw z.1 refl)
    (eqb-cases form (in_list + direction_list))))
    (eqb-cases form (in_list + business_type_three_list))
