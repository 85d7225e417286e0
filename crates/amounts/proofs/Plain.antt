-- The characters of amounts and positions: each stands for itself in a document, and none is a space.
-- Assumes nothing.
use Prim.Native.Nat.{ℕ, suc, ◌/◌, ◌%◌, ◌≤◌}
use mathlib.Core.Path.{◌≡◌, refl, ap, ◌∙◌}
use mathlib.Core.List.{List, [], ◌∷◌, ◌++◌}
use mathlib.Core.Bool.{true, false}
use native.Mathlib.Omega.{arith}
use lib.IntN.{ℤ, pos, negsuc}
use borrow.Author.Tests.{le-leb, lt-ltb, ne_eqb}
use Rattle.slices.specs.Bytes.{byte}
use Rattle.wholes.specs.Whole.{whole_text}
use Rattle.characters.specs.Says.{said_by, says, itself}
use Rattle.characters.proofs.Units.{met-itself}
use Rattle.characters.proofs.Saying.{says-char, says_none, said-by}
use Rattle.trims.specs.Trim.{space, drop_lead, kept_before, drop_trail, dropped}
use Rattle.numbers.proofs.Reading.{digit-range}
use Rattle.amounts.specs.Texts.{decimals, pointed, fraction_text, unsigned_text, amount_text}
use Rattle.amounts.proofs.Digits.{AllDigits, whole-digits}
use Rattle.amounts.proofs.Fractions.{decimals-told}

-- from `-` to `9`: the minus, the point, digits
unfoldable pub Plain : List ℕ → Type 0
Plain [] = Unit {0}
Plain (c ∷ l) = (0x2D ≤ c) × ((c ≤ 0x39) × Plain l)

own-said : (c : ℕ) (l : List ℕ) → 0x2D ≤ c → c ≤ 0x39 → says (c ∷ l) ≡ c ∷ says l
unfolding itself said_by byte
own-said c l g h =
    let e : itself c ≡ true = rw (le-leb 0x27 c (omega arith), lt-ltb c 0x80 (omega arith)) in
    says-char (c ∷ l) c 1 (omega arith) (said-by (c ∷ l) (omega arith) ∙ ap said_by (met-itself (c ∷ l) e)) (omega arith)

pub plain-said : (l : List ℕ) → Plain l → says l ≡ l
unfolding Plain
plain-said [] p = says_none
plain-said (c ∷ l) p = own-said c l p.0 p.1.0 ∙ ap (λ (t : List ℕ). c ∷ t) (plain-said l p.1.1)

no-space : (c : ℕ) → 0x2D ≤ c → space c ≡ false
unfolding space
no-space c h = ne_eqb c 0x20 (λ z. omega arith)

kept-all : (l : List ℕ) → Plain l → drop_trail l ≡ l
unfolding Plain drop_trail kept_before
kept-all [] p = refl
kept-all (c ∷ []) p = rw (no-space c p.0)
kept-all (c ∷ d ∷ l) p = rw (kept-all (d ∷ l) p.1.1)

pub plain-kept : (l : List ℕ) → Plain l → dropped l ≡ l
unfolding Plain dropped drop_lead
plain-kept [] p = kept-all [] p
plain-kept (c ∷ l) p = rw (no-space c p.0) (kept-all (c ∷ l) p)

plain-join : (v w : List ℕ) → Plain v → Plain w → Plain (v ++ w)
unfolding Plain
plain-join [] w p q = q
plain-join (c ∷ v) w p q = (p.0, (p.1.0, plain-join v w p.1.1 q))

pub digits-plain : (l : List ℕ) → AllDigits l → Plain l
unfolding Plain AllDigits
digits-plain [] h = tt
digits-plain (c ∷ l) h = let g = digit-range c h.0 in (omega arith, (omega arith, digits-plain l h.1))

pointed-plain : (f : List ℕ) → Plain f → Plain (pointed f)
unfolding Plain pointed
pointed-plain [] p = tt
pointed-plain (c ∷ f) p = (omega arith, (omega arith, p))

unsigned-plain : (n : ℕ) → Plain (unsigned_text n)
unfolding unsigned_text fraction_text
unsigned-plain n =
    let t = decimals-told (n % 1000) (omega arith) in
    plain-join (whole_text (n / 1000)) (pointed (decimals (n % 1000))) (digits-plain (whole_text (n / 1000)) (whole-digits (n / 1000)))
    (pointed-plain (decimals (n % 1000)) (digits-plain (decimals (n % 1000)) t.all))

pub amount-plain : (m : ℤ) → Plain (amount_text m)
unfolding Plain amount_text
amount-plain (pos n) = unsigned-plain n
amount-plain (negsuc n) = (omega arith, (omega arith, unsigned-plain (suc n)))
