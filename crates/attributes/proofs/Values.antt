-- The steps of a value: a plain byte, which is looked at as it stands, and what stands at any other. Assumes nothing.
use Prim.Native.Nat.{ℕ, ◌+◌, ◌-◌, ◌≤◌, ◌<◌}
use mathlib.Core.Path.{◌≡◌, refl, sym, ap, ◌∙◌}
use mathlib.Core.List.{List}
use mathlib.Core.Bool.{Bool, true, false, cond}
use mathlib.Core.Logic.{⊎_elim}
use native.Mathlib.Omega.{arith}
use lib.Dec.{eqb, ltb}
use lib.ListN.{length, take, drop, get_or}
use lib.Seq.{drop-cons}
use borrow.Author.Tests.{le-leb, lt-leb, lt-ltb, eq-eqb, ne_eqb, eqb-true, eqb-false, ltb-true, ltb-false}
use Rattle.std.specs.Prelude.{Option, Some, None}
use Rattle.lists.proofs.Cases.{ltb-cases, eqb-cases, past-cond, never}
use Rattle.lists.proofs.Loans.{rest_part}
use Rattle.slices.specs.Bytes.{byte}
use Rattle.slices.specs.Walk.{go, stop}
use Rattle.characters.specs.Utf8.{control, single, char_at}
use Rattle.characters.specs.References.{reference_at}
use Rattle.characters.specs.Says.{referred, standing, met}
use Rattle.characters.proofs.Ascii.{char-ascii, char-printed}
use Rattle.characters.proofs.Low.{char-low}
use Rattle.attributes.specs.Attribute.{quote, fit, standing_next, referred_next, value_next, plain, longer}

-- ---- what is met

pub met-amp : (s : List ℕ) → byte s 0 ≡ 0x26 → met s ≡ referred (reference_at s)
unfolding met
met-amp s e = rw (eq-eqb (byte s 0) 0x26 e)

pub met-other : (s : List ℕ) → (byte s 0 ≡ 0x26 → ⊥) → met s ≡ standing (char_at s)
unfolding met
met-other s h = rw (ne_eqb (byte s 0) 0x26 h)

pub quote-range : (q : ℕ) → quote q ≡ true → (0x22 ≤ q) × (q ≤ 0x27) × (q ≡ 0x26 → ⊥)
unfolding quote
quote-range q e =
    ⊎_elim
    (λ y. (omega (arith, y.0), omega (arith, y.0), λ z. omega (arith, y.0, z)))
    (λ y. let z = eqb-true q 0x27 (rw y.1 at e) in (omega arith, omega arith, λ w. omega (arith, w)))
    (eqb-cases q 0x22)

-- a character that is none of the four may stand
pub fit-other : (c : ℕ) → 0x20 ≤ c → (c ≡ 0x3C → ⊥) → fit c ≡ true
unfolding fit
fit-other c l a = rw (ne_eqb c 0x3C a, ne_eqb c 0x09 (λ e. omega (arith, e)), ne_eqb c 0x0A (λ e. omega (arith, e)), ne_eqb c 0x0D (λ e. omega (arith, e)))

-- ---- a plain byte

plain-range : (b : ℕ) → plain b ≡ true → (0x20 ≤ b) × (b < 0x80) × (b ≡ 0x3C → ⊥) × (b ≡ 0x26 → ⊥)
unfolding plain
plain-range b e =
    let low = past-cond (ltb b 0x20) (λ z. never z) e in
    let lt = past-cond (eqb b 0x3C) (λ z. never z) low.1 in
    let amp = past-cond (eqb b 0x26) (λ z. never z) lt.1 in
    (ltb-false b 0x20 low.0, ltb-true b 0x80 amp.1, eqb-false b 0x3C lt.0, eqb-false b 0x26 amp.0)

pub plain_step : (q at : ℕ) (s : List ℕ) → plain (byte s 0) ≡ true → value_next q at (met s) ≡ cond (eqb (byte s 0) q) (stop (Some at)) (go 1 (at + 1))
unfolding value_next standing_next
plain_step q at s p =
    let r = plain-range (byte s 0) p in
    ap (value_next q at) (met-other s r.3 ∙ ap standing (char-printed s r.0 r.1)) ∙ rw (fit-other (byte s 0) r.0 r.2)

-- ---- any other

-- a byte below 80 that is neither plain nor `&`
broken-step : (q at b : ℕ) → b < 0x80 → (b ≡ 0x26 → ⊥) → plain b ≡ false → standing_next q at (single b) ≡ stop None
unfolding plain single control fit standing_next
broken-step q at b high amp p =
    ⊎_elim
    (λ y.
    let c = lt-leb 0x20 b y.0 in
    ⊎_elim
    (λ z. simp (c, z.1, ne_eqb b 0x3C (omega arith)))
    (λ z.
    ⊎_elim
    (λ w. simp (c, z.1, w.1, ne_eqb b 0x3C (omega arith)))
    (λ w.
    ⊎_elim
    (λ u. simp (c, z.1, w.1, u.1, ne_eqb b 0x3C (omega arith)))
    (λ u. simp (c, z.1, w.1, u.1))
    (eqb-cases b 0x0D))
    (eqb-cases b 0x0A))
    (eqb-cases b 0x09))
    (λ y.
    ⊎_elim
    (λ z. simp (le-leb 0x20 b y.0, z.1))
    (λ z. never (sym (simp (y.1, z.1, ne_eqb b 0x26 amp, lt-ltb b 0x80 high) at p)))
    (eqb-cases b 0x3C))
    (ltb-cases b 0x20)

-- a character of several bytes
high-step : (q at : ℕ) (s : List ℕ) → quote q ≡ true → 0x80 ≤ byte s 0 → standing_next q at (char_at s) ≡ referred_next at (char_at s)
unfolding standing_next referred_next
high-step q at s quotes high = by (char_at s) refl
  where
    by : (x : Option (ℕ × ℕ)) → char_at s ≡ x → standing_next q at x ≡ referred_next at x
    by None e = refl
    by (Some (c, n)) e =
        let r = quote-range q quotes in
        let l : 0x80 ≤ c = ⊎_elim (λ y. let z = (char-low s e y.0).0 in absurd (omega (arith, z, y.0))) (λ y. y.0) (ltb-cases c 0x80) in
        rw (fit-other c (omega arith) (λ z. omega (arith, z)), ne_eqb c q (λ z. omega (arith, z, r.1)))

pub longer-step : (q at : ℕ) (s : List ℕ) → quote q ≡ true → plain (byte s 0) ≡ false → value_next q at (met s) ≡ referred_next at (longer s)
unfolding longer value_next referred_next
longer-step q at s quotes p =
    ⊎_elim
    (λ y. rw y.1 (ap (value_next q at) (met-amp s y.0)))
    (λ y.
    ⊎_elim
    (λ z. rw (y.1, z.1) (ap (value_next q at) (met-other s y.0 ∙ ap standing (char-ascii s z.0)) ∙ broken-step q at (byte s 0) z.0 y.0 p))
    (λ z. rw (y.1, z.1) (ap (value_next q at) (met-other s y.0) ∙ high-step q at s quotes z.0))
    (ltb-cases (byte s 0) 0x80))
    (eqb-cases (byte s 0) 0x26)

-- the byte at i of s, and the same at the front of what a callee on `&s[i..]` sees
pub front-byte : (s : List ℕ) (i : ℕ) → i < length s → byte (take (length s - i) (drop i s)) 0 ≡ get_or s i 0
unfolding byte
front-byte s i h = rw (rest_part i s, drop-cons s i 0 h)

-- t is what `is_plain` answered of that byte
module _ (q at : ℕ) (s : List ℕ) (i : ℕ) (h : i < length s) {t : Bool} (e : t ≡ plain (get_or s i 0)) where
  abbrev there : List ℕ
  there = take (length s - i) (drop i s)

  told : (u : Bool) → t ≡ u → plain (byte there 0) ≡ u
  told u y = ap plain (front-byte s i h) ∙ sym e ∙ y

  pub plain_here : t ≡ true → value_next q at (met there) ≡ cond (eqb (get_or s i 0) q) (stop (Some at)) (go 1 (at + 1))
  plain_here y = rw (← front-byte s i h) (plain_step q at there (told true y))

  -- x is what `longer_at` answered
  pub longer-here : {x : Option (ℕ × ℕ)} → quote q ≡ true → t ≡ false → x ≡ longer there → value_next q at (met there) ≡ referred_next at x
  longer-here quotes y f = longer-step q at there quotes (told false y) ∙ ap (referred_next at) (sym f)
