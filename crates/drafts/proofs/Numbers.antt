-- Positions and amounts that the reader takes are those that are judged fit. Assumes nothing.
use Prim.Native.Nat.{ℕ, zero, suc, ◌+◌, ◌*◌, ◌/◌, ◌%◌, ◌≤◌, ◌<◌}
use mathlib.Core.Path.{◌≡◌, refl, sym, ap, ◌∙◌}
use mathlib.Core.List.{List, [], ◌∷◌, ◌++◌, append_assoc}
use mathlib.Core.Bool.{Bool, true, false, cond, not, ◌&&◌}
use mathlib.Core.Logic.{⊎_elim}
use native.Mathlib.Omega.{arith}
use lib.Dec.{eqb, ltb}
use lib.IntN.{ℤ, pos, negsuc, nat_abs}
use lib.ListN.{length, take, drop, get_or, take-append-drop, length-take, length-drop}
use lib.Seq.{drop_at}
use borrow.Author.Tests.{ne_eqb}
use Rattle.lists.proofs.Cases.{bool_cases, ltb-cases, past-cond, zero-not-one, never}
use Rattle.characters.specs.References.{digit}
use Rattle.numbers.specs.Digits.{digits, number_from, only_digits}
use Rattle.numbers.specs.Amount.{minus, unsigned, fraction_form, unsigned_form, written_amount}
use Rattle.numbers.specs.Number.{number_form, at_most_nine, number_within, number_of}
use Rattle.std.specs.Prelude.{Some}
use Rattle.wholes.specs.Whole.{whole_text}
use Rattle.wholes.proofs.Wholes.{whole-longer, whole-some}
use Rattle.amounts.specs.Texts.{fraction_text, unsigned_text, amount_text}
use Rattle.amounts.proofs.Digits.{AllDigits, digits-counted, whole-digits, whole_says}
use Rattle.amounts.proofs.Shapes.{only-split}
use Rattle.amounts.proofs.Promises.{only-position}
use Rattle.drafts.proofs.Quoted.{digit-bounds}

-- ---- how many digits a number has

tens : ℕ → ℕ
tens zero = 1
tens (suc k) = 10 * tens k

some-tens : (k : ℕ) → 1 ≤ tens k
unfolding tens
some-tens zero = omega arith
some-tens (suc k) = let h = some-tens k in omega (arith, h)

whole-many : (k n : ℕ) → tens k ≤ n → suc k ≤ length (whole_text n)
unfolding tens
whole-many zero n h = whole-some n
whole-many (suc k) n h =
    let s = some-tens k in
    let l = whole-longer n (omega (arith, s)) in
    let m = whole-many k (n / 10) (omega (arith, s)) in
    omega (arith, l, m)

-- ---- positions

-- a text that is read as a position has at most five digits
few-digits : (t : List ℕ) (n : ℕ) → number_of t 5 ≡ Some n → length t ≤ 5
unfolding number_of at_most_nine number_within number_form
few-digits t n e =
    ⊎_elim
    (λ (y : number_form 5 t ≡ true). let z = past-cond (eqb (get_or t 0 0) 0x30) (λ w. never w) y in (only-split 5 t z.1).1.1)
    (λ (y : number_form 5 t ≡ false). let z = rw y at e in absurd (zero-not-one (cc)))
    (bool_cases (number_form 5 t))

pub position-told : (q n : ℕ) → number_of (whole_text q) 5 ≡ Some n → (q ≡ n) × (q ≤ 99999)
unfolding tens
position-told q n e =
    let w = only-position (whole_text q) n e in
    let same : q ≡ n = sym (whole_says q) ∙ ap (number_from 0) w ∙ whole_says n in
    let few = few-digits (whole_text q) n e in (
      same,
      ⊎_elim
          (λ (y : (q < 100000) × (ltb q 100000 ≡ true)). let l = y.0 in omega (arith, l))
          (λ (y : (100000 ≤ q) × (ltb q 100000 ≡ false)). let m = whole-many 5 q y.0 in absurd (omega (arith, m, few)))
          (ltb-cases q 100000),
    )

-- ---- amounts

all_take : (k : ℕ) (l : List ℕ) → AllDigits l → AllDigits (take k l)
unfolding AllDigits
all_take zero l h = tt
all_take (suc k) [] h = tt
all_take (suc k) (c ∷ l) h = (h.0, all_take k l h.1)

all_drop : (k : ℕ) (l : List ℕ) → AllDigits l → AllDigits (drop k l)
unfolding AllDigits
all_drop zero l h = h
all_drop (suc k) [] h = tt
all_drop (suc k) (c ∷ l) h = all_drop k l h.1

no-digits : (l : List ℕ) → digits 0 l ≡ 0
unfolding digits
no-digits [] = refl
no-digits (c ∷ l) = refl

-- behind twelve digits no digit may stand
no-thirteenth : (l : List ℕ) → AllDigits l → 1 ≤ length l → (r : List ℕ) → fraction_form (l ++ r) ≡ true → ⊥
unfolding AllDigits fraction_form
no-thirteenth [] h s r e = absurd (omega arith)
no-thirteenth (c ∷ l) h s r e =
    let b = digit-bounds c h.0 in
    let low = b.0 in
    never (rw (ne_eqb c 0x2E (λ z. omega (arith, z, low))) at e)

long-whole : (w r : List ℕ) → AllDigits w → 13 ≤ length w → unsigned_form (w ++ r) ≡ true → ⊥
unfolding unsigned_form
long-whole w r h l e =
    let twelve : length (take 12 w) ≡ 12 = let z = length-take 12 w in omega (arith, z) in
    let is : w ++ r ≡ take 12 w ++ (drop 12 w ++ r) = ap (λ (x : List ℕ). x ++ r) (sym (take-append-drop 12 w)) ∙ append_assoc (take 12 w) (drop 12 w) r in
    let n : digits 12 (w ++ r) ≡ 12 =
    ap (digits 12) is
    ∙ ap (λ (k : ℕ). digits k (take 12 w ++ (drop 12 w ++ r))) (let z : 12 ≡ length (take 12 w) + 0 = omega (arith, twelve) in z)
    ∙ digits-counted 0 (take 12 w) (drop 12 w ++ r) (all_take 12 w h)
    ∙ (let z = no-digits (drop 12 w ++ r) in omega (arith, z, twelve)) in
    let rest : drop 12 (w ++ r) ≡ drop 12 w ++ r = ap (drop 12) is ∙ drop_at (take 12 w) (drop 12 w ++ r) 12 twelve in
    let p = past-cond (eqb (digits 12 (w ++ r)) 0) (λ z. never z) e in
    no-thirteenth (drop 12 w) (all_drop 12 w h) (let z = length-drop 12 w in omega (arith, z)) r (rw (n, rest) at p.1)

small-unsigned : (n : ℕ) → unsigned_form (unsigned_text n) ≡ true → n < 1000000000000000
unfolding unsigned_text tens
small-unsigned n e =
    ⊎_elim
    (λ (y : (n < 1000000000000000) × (ltb n 1000000000000000 ≡ true)). y.0)
    (λ (y : (1000000000000000 ≤ n) × (ltb n 1000000000000000 ≡ false)).
    let g = y.0 in
    absurd (long-whole (whole_text (n / 1000)) (fraction_text (n % 1000)) (whole-digits (n / 1000)) (whole-many 12 (n / 1000) (omega (arith, g))) e))
    (ltb-cases n 1000000000000000)

first-digit : (w r : List ℕ) → AllDigits w → 1 ≤ length w → minus (w ++ r) ≡ false
unfolding AllDigits minus
first-digit [] r h s = absurd (omega arith)
first-digit (c ∷ w) r h s = let b = digit-bounds c h.0 in let low = b.0 in ne_eqb c 0x2D (λ z. omega (arith, z, low))

pub small-amount : (m : ℤ) → written_amount (amount_text m) ≡ true → nat_abs m < 1000000000000000
unfolding written_amount unsigned amount_text unsigned_text minus
small-amount (pos n) e =
    let z = first-digit (whole_text (n / 1000)) (fraction_text (n % 1000)) (whole-digits (n / 1000)) (whole-some (n / 1000)) in
    small-unsigned n (rw z at e)
small-amount (negsuc n) e = small-unsigned (suc n) e
