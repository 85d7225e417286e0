-- The values of a draft can be quoted. Assumes nothing.
use Prim.Native.Nat.{ℕ, suc, ◌+◌, ◌/◌, ◌%◌, ◌≤◌, ◌<◌}
use mathlib.Core.Path.{◌≡◌, refl, sym, ap, ◌∙◌}
use mathlib.Core.List.{List, [], ◌∷◌, ◌++◌}
use mathlib.Core.Bool.{Bool, true, false, cond}
use mathlib.Core.Logic.{⊎_elim}
use native.Mathlib.Omega.{arith}
use lib.Dec.{eqb, leb, ltb}
use lib.IntN.{ℤ, pos, negsuc}
use lib.ListN.{length}
use borrow.Author.Tests.{ne_eqb, le-ltb, lt-ltb}
use Rattle.std.specs.Prelude.{Some}
use Rattle.lists.proofs.Cases.{bool_cases, leb-cases, both_true, never}
use Rattle.slices.specs.Bytes.{byte}
use Rattle.slices.specs.Walk.{WalkStep, go, stop, walk}
use Rattle.characters.specs.Says.{Met, met, all_chars}
use Rattle.characters.specs.References.{digit}
use Rattle.attributes.specs.Attribute.{value, value_next, value_over, plain}
use Rattle.attributes.proofs.Values.{plain_step}
use Rattle.wholes.specs.Whole.{whole_text}
use Rattle.amounts.specs.Texts.{decimals, pointed, fraction_text, unsigned_text, amount_text}
use Rattle.amounts.proofs.Digits.{AllDigits, whole-digits}
use Rattle.amounts.proofs.Fractions.{decimals-told}
use Rattle.layouts.specs.Layout.{Quotable, QuotableIn}

-- bytes of numbers: `-`, `.` and the digits, `/` among them
unfoldable pub Numeric : List ℕ → Type 0
Numeric [] = Unit {0}
Numeric (b ∷ l) = (0x2D ≤ b) × (b ≤ 0x39) × Numeric l

numeric-join : (v w : List ℕ) → Numeric v → Numeric w → Numeric (v ++ w)
unfolding Numeric
numeric-join [] w a b = b
numeric-join (c ∷ v) w a b = (a.0, a.1, numeric-join v w a.2 b)

pub digit-bounds : (c : ℕ) → digit c ≡ true → (0x30 ≤ c) × (c ≤ 0x39)
unfolding digit
digit-bounds c e =
    let t = both_true (leb 0x30 c) e in
    (⊎_elim (λ y. y.0) (λ y. never (sym y.1 ∙ t.0)) (leb-cases 0x30 c), ⊎_elim (λ y. y.0) (λ y. never (sym y.1 ∙ t.1)) (leb-cases c 0x39))

numeric-digits : (v : List ℕ) → AllDigits v → Numeric v
unfolding AllDigits Numeric
numeric-digits [] h = tt
numeric-digits (c ∷ v) h = let b = digit-bounds c h.0 in let low = b.0 in (omega (arith, low), b.1, numeric-digits v h.1)

numeric-pointed : (f : List ℕ) → AllDigits f → Numeric (pointed f)
unfolding pointed Numeric
numeric-pointed [] h = tt
numeric-pointed (c ∷ f) h = (omega arith, omega arith, numeric-digits (c ∷ f) h)

numeric-unsigned : (n : ℕ) → Numeric (unsigned_text n)
unfolding unsigned_text fraction_text
numeric-unsigned n =
    let t = decimals-told (n % 1000) (omega arith) in
    numeric-join (whole_text (n / 1000)) (pointed (decimals (n % 1000))) (numeric-digits (whole_text (n / 1000)) (whole-digits (n / 1000))) (numeric-pointed (decimals (n % 1000)) t.all)

pub numeric-amount : (m : ℤ) → Numeric (amount_text m)
unfolding amount_text Numeric
numeric-amount (pos n) = numeric-unsigned n
numeric-amount (negsuc n) = (omega arith, omega arith, numeric-unsigned (suc n))

pub numeric-whole : (n : ℕ) → Numeric (whole_text n)
numeric-whole n = numeric-digits (whole_text n) (whole-digits n)

-- such bytes stand as they are, up to the quote
numeric-plain : (b : ℕ) → 0x2D ≤ b → b ≤ 0x39 → plain b ≡ true
unfolding plain
numeric-plain b l m =
    rw (le-ltb b 0x20 (omega arith), ne_eqb b 0x3C (λ z. omega (arith, z)), ne_eqb b 0x26 (λ z. omega (arith, z)), lt-ltb b 0x80 (omega arith)) refl

numeric-walk : (b r : List ℕ) (at : ℕ) → Numeric b → walk met (value_next 0x22) value_over at 0 (b ++ (0x22 ∷ r)) ≡ Some (at + length b)
unfolding Numeric walk byte plain
numeric-walk [] r at h =
    let step : value_next 0x22 at (met (0x22 ∷ r)) ≡ stop (Some at) = plain_step 0x22 at (0x22 ∷ r) refl in
    rw (walk, step) (ap Some (omega arith))
numeric-walk (c ∷ b) r at h =
    let low = h.0 in
    let step : value_next 0x22 at (met (c ∷ (b ++ (0x22 ∷ r)))) ≡ go 1 (at + 1) =
    plain_step 0x22 at (c ∷ (b ++ (0x22 ∷ r))) (numeric-plain c h.0 h.1) ∙ rw (ne_eqb c 0x22 (λ z. omega (arith, z, low))) refl in
    rw (walk, step) (numeric-walk b r (at + 1) h.2 ∙ ap Some (omega arith))

pub numeric-quotable : (b : List ℕ) → Numeric b → Quotable b
unfolding Quotable value
numeric-quotable b h r = numeric-walk b r 0 h ∙ ap Some (omega arith)
