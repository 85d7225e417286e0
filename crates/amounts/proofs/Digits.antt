-- Lists of digits, the numbers that they say, and the texts that are the only ones to say them so.
-- Assumes nothing.
use Prim.Native.Nat.{ℕ, zero, suc, ◌+◌, ◌-◌, ◌*◌, ◌/◌, ◌%◌, ◌≤◌, ◌<◌}
use mathlib.Core.Path.{◌≡◌, refl, sym, ap, ◌∙◌}
use mathlib.Core.List.{List, [], ◌∷◌, ◌++◌, append_assoc, append-nil}
use mathlib.Core.Bool.{true}
use mathlib.Core.Logic.{⊎_elim}
use native.Mathlib.Nat.{zero-add}
use native.Mathlib.Omega.{arith}
use lib.ListN.{length, get_or, length-append, get_or-append}
use borrow.Author.Tests.{le-leb}
use Rattle.lists.proofs.Cases.{bool_cases}
use Rattle.characters.specs.References.{digit}
use Rattle.numbers.specs.Digits.{digits, number_from}
use Rattle.numbers.proofs.Reading.{digit-range}
use Rattle.wholes.specs.Whole.{numeral, whole_text}
use Rattle.wholes.proofs.Wholes.{last, on, by-tens, whole-some}

unfoldable pub AllDigits : List ℕ → Type 0
AllDigits [] = Unit {0}
AllDigits (c ∷ l) = (digit c ≡ true) × AllDigits l

pub numeral-digit : (d : ℕ) → d < 10 → digit (numeral d) ≡ true
unfolding digit
numeral-digit d h = rw (le-leb 0x30 (0x30 + d) (omega arith), le-leb (0x30 + d) 0x39 (omega arith))

pub digits-join : (v w : List ℕ) → AllDigits v → AllDigits w → AllDigits (v ++ w)
unfolding AllDigits
digits-join [] w p q = q
digits-join (c ∷ v) w p q = (p.0, digits-join v w p.1 q)

one-digit : (d : ℕ) → d < 10 → AllDigits (numeral d ∷ [])
unfolding AllDigits
one-digit d h = (numeral-digit d h, tt)

-- ---- how many stand at the front

pub digits-counted : (j : ℕ) (w r : List ℕ) → AllDigits w → digits (length w + j) (w ++ r) ≡ length w + digits j r
unfolding AllDigits digits
digits-counted j [] r h = rw (zero-add j) (sym (zero-add (digits j r)))
digits-counted j (c ∷ w) r h =
    let z : suc (length w) + j ≡ suc (length w + j) = omega arith in
    rw (z, h.0, digits-counted j w r h.1) (omega arith)

-- l is the digits w, at most k, and r, and w are those that are counted
pub record Front (k : ℕ) (l : List ℕ) : Type 0 where
  pub w : List ℕ
  pub r : List ℕ
  pub all : AllDigits w
  pub whole : l ≡ w ++ r
  pub count : digits k l ≡ length w
  pub few : length w ≤ k

pub front : (k : ℕ) (l : List ℕ) → Front k l
unfolding AllDigits digits
front zero l = record { w = []; r = l; all = tt; whole = refl; count = refl; few = omega arith }
front (suc k) [] = record { w = []; r = []; all = tt; whole = refl; count = refl; few = omega arith }
front (suc k) (c ∷ l) =
    ⊎_elim
    (λ e.
    let s = front k l in
    record { w = c ∷ s.w; r = s.r; all = (e, s.all); whole = ap (λ (t : List ℕ). c ∷ t) s.whole; count = rw e (ap suc s.count); few = omega (arith, s.few) })
    (λ e. record { w = []; r = c ∷ l; all = tt; whole = refl; count = rw e; few = omega arith })
    (bool_cases (digit c))

-- ---- the number that they say

number_more : (n : ℕ) (l : List ℕ) (c : ℕ) → number_from n (l ++ c ∷ []) ≡ number_from n l * 10 + (c - 0x30)
unfolding number_from
number_more n [] c = refl
number_more n (d ∷ l) c = number_more (n * 10 + (d - 0x30)) l c

-- the text of n has digits alone
pub whole-digits : (n : ℕ) → AllDigits (whole_text n)
whole-digits =
    by-tens (λ (n : ℕ). AllDigits (whole_text n)) (λ n h. rw (last n h) (one-digit n h))
    (λ n h r. rw (on n h) (digits-join (whole_text (n / 10)) (numeral (n % 10) ∷ []) r (one-digit (n % 10) (omega arith))))

-- and says n
pub whole_says : (n : ℕ) → number_from 0 (whole_text n) ≡ n
unfolding number_from
whole_says =
    by-tens (λ (n : ℕ). number_from 0 (whole_text n) ≡ n) (λ n h. rw (last n h) (omega arith))
    (λ n h r. rw (on n h) (number_more 0 (whole_text (n / 10)) (numeral (n % 10)) ∙ rw r (omega arith)))

-- no zero at its front but that of 0
pub whole-front : (n : ℕ) → 1 ≤ n → get_or (whole_text n) 0 0 ≡ 0x30 → ⊥
whole-front =
    by-tens (λ (n : ℕ). 1 ≤ n → get_or (whole_text n) 0 0 ≡ 0x30 → ⊥) (λ n h s. rw (last n h) (λ e. omega (arith, e)))
    (λ n h r s. rw (on n h, get_or-append (whole_text (n / 10)) (numeral (n % 10) ∷ []) 0 0 (whole-some (n / 10))) (r (omega arith)))

pub whole-leading : (n : ℕ) → get_or (whole_text n) 0 0 ≡ 0x30 → length (whole_text n) ≡ 1
whole-leading zero e = ap length (last 0 (omega arith))
whole-leading (suc n) e = absurd (whole-front (suc n) (omega arith) e)

-- a digit more
next-digit : (n c : ℕ) → 1 ≤ n → digit c ≡ true → whole_text (n * 10 + (c - 0x30)) ≡ whole_text n ++ c ∷ []
next-digit n c s e =
    let g = digit-range c e in
    let q : (n * 10 + (c - 0x30)) / 10 ≡ n = omega (arith, g) in
    let d : numeral ((n * 10 + (c - 0x30)) % 10) ≡ c = omega (arith, g) in
    on (n * 10 + (c - 0x30)) (omega arith) ∙ rw (q, d)

-- digits after the text of n are the text of what all say
next-digits : (n : ℕ) (l : List ℕ) → 1 ≤ n → AllDigits l → whole_text n ++ l ≡ whole_text (number_from n l)
unfolding AllDigits number_from
next-digits n [] s h = append-nil (whole_text n)
next-digits n (c ∷ l) s h =
    sym (append_assoc (whole_text n) (c ∷ []) l)
    ∙ ap (λ (t : List ℕ). t ++ l) (sym (next-digit n c s h.0))
    ∙ next-digits (n * 10 + (c - 0x30)) l (omega arith) h.1

first-digit : (c : ℕ) → digit c ≡ true → whole_text (0 * 10 + (c - 0x30)) ≡ c ∷ []
first-digit c e =
    let g = digit-range c e in
    let d : numeral (0 * 10 + (c - 0x30)) ≡ c = omega (arith, g) in
    last (0 * 10 + (c - 0x30)) (omega (arith, g)) ∙ ap (λ (x : ℕ). x ∷ []) d

-- digits with no leading zero are the text of their number
pub whole-only : (w : List ℕ) → AllDigits w → 1 ≤ length w → (get_or w 0 0 ≡ 0x30 → length w ≡ 1) → w ≡ whole_text (number_from 0 w)
unfolding AllDigits number_from
whole-only [] h s z = absurd (omega arith)
whole-only (c ∷ []) h s z = sym (first-digit c h.0)
whole-only (c ∷ d ∷ l) h s z =
    let g = digit-range c h.0 in
    let other : c ≡ 0x30 → ⊥ = λ e. let y = z e in omega (arith, y) in
    let n = 0 * 10 + (c - 0x30) in
    ap (λ (t : List ℕ). t ++ d ∷ l) (sym (first-digit c h.0)) ∙ next-digits n (d ∷ l) (omega (arith, g, other)) h.1

grown-one : (n c : ℕ) → digit c ≡ true → length (whole_text (n * 10 + (c - 0x30))) ≤ length (whole_text n) + 1
grown-one zero c e = let f = ap length (first-digit c e) in omega (arith, f)
grown-one (suc n) c e = let f = ap length (next-digit (suc n) c (omega arith) e) ∙ length-append (whole_text (suc n)) (c ∷ []) in omega (arith, f)

grown : (n : ℕ) (l : List ℕ) → AllDigits l → length (whole_text (number_from n l)) ≤ length (whole_text n) + length l
unfolding AllDigits number_from
grown n [] h = omega arith
grown n (c ∷ l) h = omega (arith, grown-one n c h.0, grown (n * 10 + (c - 0x30)) l h.1)

-- and no digits that say a number are fewer than those of its text
pub whole-least : (w : List ℕ) → AllDigits w → 1 ≤ length w → length (whole_text (number_from 0 w)) ≤ length w
unfolding AllDigits number_from
whole-least [] h s = absurd (omega arith)
whole-least (c ∷ l) h s = let f = ap length (first-digit c h.0) in omega (arith, f, grown (0 * 10 + (c - 0x30)) l h.1)
