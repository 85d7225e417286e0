-- A character below 80 is its own byte, no later byte is below 80, and a character is read from its own bytes alone. Assumes nothing.
use Prim.Native.Nat.{ℕ, pred, ◌+◌, ◌*◌, ◌%◌, ◌≤◌, ◌<◌}
use mathlib.Core.Path.{◌≡◌, refl, sym, ap, ◌∙◌}
use mathlib.Core.List.{List}
use mathlib.Core.Bool.{Bool, true, false, cond}
use mathlib.Core.Logic.{◌⊎◌, inl, inr, ⊎_elim}
use native.Mathlib.Omega.{arith}
use lib.Dec.{leb, eqb, lit≤}
use borrow.Author.Tests.{leb-true, leb-false, lt-leb, eqb-true, eqb-false}
use lib.ListN.{length}
use Rattle.std.specs.Prelude.{Option, Some, None}
use Rattle.lists.proofs.Cases.{by_cond, both_true, eqb-cases, zero-not-one}
use Rattle.slices.proofs.Bytes.{byte-there}
use Rattle.slices.specs.Bytes.{byte}
use Rattle.characters.specs.Utf8.{seq_len, low, high, second, later_byte, control, nonchar, single, double, triple, fourfold, char_at}
use Rattle.characters.proofs.Ascii.{low-ascii}

-- ---- a character below 80

pub by-test : {A : Type 0} (P : A → Type 0) (t : Bool) {a b : A} → (t ≡ true → P a) → (t ≡ false → P b) → P (cond t a b)
by-test P true f g = f refl
by-test P false f g = g refl

-- the ranges of the lead byte
abbrev Lead : ℕ → ℕ → Type 0
Lead a k = (k ≡ 2 → (0xC2 ≤ a) × (a ≤ 0xDF)) × (k ≡ 3 → (0xE0 ≤ a) × (a ≤ 0xEF)) × (k ≡ 4 → (0xF0 ≤ a) × (a ≤ 0xF4))

lead-range : (a : ℕ) → Lead a (seq_len a)
unfolding seq_len
lead-range a =
    by-test (Lead a) (leb a 0x7F) (λ e. (λ k. absurd (omega arith), λ k. absurd (omega arith), λ k. absurd (omega arith)))
    (λ n₁. by-test (Lead a) (leb a 0xC1) (λ e. (λ k. absurd (omega arith), λ k. absurd (omega arith), λ k. absurd (omega arith)))
    (λ n₂. by-test (Lead a) (leb a 0xDF) (λ e. (λ k. (let x = leb-false a 0xC1 n₂ in omega arith, leb-true _ _ e), λ k. absurd (omega arith), λ k. absurd (omega arith)))
    (λ n₃. by-test (Lead a) (leb a 0xEF) (λ e. (λ k. absurd (omega arith), λ k. (let x = leb-false a 0xDF n₃ in omega arith, leb-true _ _ e), λ k. absurd (omega arith)))
    (λ n₄. by-test (Lead a) (leb a 0xF4) (λ e. (λ k. absurd (omega arith), λ k. absurd (omega arith), λ k. (let x = leb-false a 0xEF n₄ in omega arith, leb-true _ _ e)))
    (λ n₅. (λ k. absurd (omega arith), λ k. absurd (omega arith), λ k. absurd (omega arith)))))))

high_le : (a : ℕ) → high a ≤ 0xBF
unfolding high
high_le a = by_cond (λ (n : ℕ). n ≤ 0xBF) (eqb a 0xED) (lit≤ tt) (by_cond (λ (n : ℕ). n ≤ 0xBF) (eqb a 0xF4) (lit≤ tt) (lit≤ tt))

second_range : (a b : ℕ) → second a b ≡ true → (low a ≤ b) × (b ≤ 0xBF)
unfolding second
second_range a b e =
    let p = both_true (leb (low a) b) e in
    let h = high_le a in
    let y = leb-true b (high a) p.1 in
    (leb-true (low a) b p.0, omega arith)

-- below 80 it is the byte a, alone
abbrev Own : ℕ → Option (ℕ × ℕ) → Type 0
Own a (Some (c, n)) = c < 0x80 → (a ≡ c) × (n ≡ 1)
Own a None = Unit {0}

double-own : (a b : ℕ) → seq_len a ≡ 2 → Own a (double a b)
unfolding double
double-own a b k = let l = (lead-range a).0 k in by-test (Own a) (second a b) (λ e q. absurd (omega arith)) (λ e. tt)

triple-big : (a b c : ℕ) (t : Bool) → eqb a 0xE0 ≡ t → (0xE0 ≤ a) × (a ≤ 0xEF) → (low a ≤ b) × (b ≤ 0xBF) → a % 16 * 4096 + b % 64 * 64 + c % 64 < 0x80 → ⊥
unfolding low
triple-big a b c true e l s q = let z : low a ≡ 0xA0 = ap low (eqb-true a 0xE0 e) in omega arith
triple-big a b c false e l s q = let z = eqb-false a 0xE0 e in omega arith

fourfold-big : (a b c d : ℕ) (t : Bool) → eqb a 0xF0 ≡ t → (0xF0 ≤ a) × (a ≤ 0xF4) → (low a ≤ b) × (b ≤ 0xBF) → a % 8 * 262144 + b % 64 * 4096 + c % 64 * 64 + d % 64 < 0x80 → ⊥
unfolding low
fourfold-big a b c d true e l s q = let z : low a ≡ 0x90 = ap low (eqb-true a 0xF0 e) in omega arith
fourfold-big a b c d false e l s q = let z = eqb-false a 0xF0 e in omega arith

triple-own : (a b c : ℕ) → seq_len a ≡ 3 → Own a (triple a b c)
unfolding triple
triple-own a b c k =
    by-test (Own a) (second a b)
    (λ e. by_cond (Own a) (later_byte c)
    (by_cond (Own a) (nonchar a b c) tt (λ q. absurd (triple-big a b c (eqb a 0xE0) refl ((lead-range a).1 k) (second_range a b e) q))) tt)
    (λ e. tt)

fourfold-own : (a b c d : ℕ) → seq_len a ≡ 4 → Own a (fourfold a b c d)
unfolding fourfold
fourfold-own a b c d k =
    by-test (Own a) (second a b)
    (λ e. by_cond (Own a) (later_byte c)
    (by_cond (Own a) (later_byte d) (λ q. absurd (fourfold-big a b c d (eqb a 0xF0) refl ((lead-range a).2 k) (second_range a b e) q)) tt) tt)
    (λ e. tt)

own : (s : List ℕ) → Own (byte s 0) (char_at s)
unfolding char_at single
own s =
    let a = byte s 0 in
    by-test (Own a) (eqb (seq_len a) 1) (λ e. by_cond (Own a) (control a) tt (λ q. (refl, refl)))
    (λ n₁. by-test (Own a) (eqb (seq_len a) 2) (λ e. double-own a (byte s 1) (eqb-true _ _ e))
    (λ n₂. by-test (Own a) (eqb (seq_len a) 3) (λ e. triple-own a (byte s 1) (byte s 2) (eqb-true _ _ e))
    (λ n₃. by-test (Own a) (eqb (seq_len a) 4) (λ e. fourfold-own a (byte s 1) (byte s 2) (byte s 3) (eqb-true _ _ e)) (λ n₄. tt))))

pub char-low : (s : List ℕ) {c n : ℕ} → char_at s ≡ Some (c, n) → c < 0x80 → (byte s 0 ≡ c) × (n ≡ 1)
char-low s e = let h = own s in rw e at h

-- ---- later bytes

-- two bytes that no test of a later byte tells apart
abbrev pub Level : ℕ → ℕ → Type 0
Level x y = (x ≡ y) ⊎ ((x < 0x80) × (y < 0x80))

second-low : (a b : ℕ) → b < 0x80 → second a b ≡ false
unfolding second
second-low a b h = let l = low-ascii a in rw (lt-leb (low a) b (omega arith))

tail-low : (b : ℕ) → b < 0x80 → later_byte b ≡ false
unfolding later_byte
tail-low b h = rw (lt-leb 0x80 b h)

double-level : (a : ℕ) {b b' : ℕ} → Level b b' → double a b ≡ double a b'
unfolding double
double-level a (inl p) = rw p
double-level a {b} {b'} (inr l) = rw (second-low a b l.0, second-low a b' l.1)

triple-level : (a : ℕ) {b b' c c' : ℕ} → Level b b' → Level c c' → triple a b c ≡ triple a b' c'
unfolding triple
triple-level a {b} {b'} (inr l) q = rw (second-low a b l.0, second-low a b' l.1)
triple-level a (inl p) (inl q) = rw (p, q)
triple-level a {b} {b'} {c} {c'} (inl p) (inr l) = rw (p, tail-low c l.0, tail-low c' l.1)

fourfold-level : (a : ℕ) {b b' c c' d d' : ℕ} → Level b b' → Level c c' → Level d d' → fourfold a b c d ≡ fourfold a b' c' d'
unfolding fourfold
fourfold-level a {b} {b'} (inr l) q r = rw (second-low a b l.0, second-low a b' l.1)
fourfold-level a {b} {b'} {c} {c'} (inl p) (inr l) r = rw (p, tail-low c l.0, tail-low c' l.1)
fourfold-level a {b} {b'} {c} {c'} {d} {d'} (inl p) (inl q) (inr l) = rw (p, q, tail-low d l.0, tail-low d' l.1)
fourfold-level a (inl p) (inl q) (inl r) = rw (p, q, r)

pub char-level : (s s' : List ℕ) → byte s 0 ≡ byte s' 0 → ((k : ℕ) → Level (byte s k) (byte s' k)) → char_at s ≡ char_at s'
unfolding char_at
char-level s s' e h =
    rw (e, double-level (byte s' 0) (h 1), triple-level (byte s' 0) (h 1) (h 2), fourfold-level (byte s' 0) (h 1) (h 2) (h 3))

-- ---- its own bytes alone

-- a choice whose cases are the same where they are this character
cond-is : {z : Option (ℕ × ℕ)} (t : Bool) {a b a' b' : Option (ℕ × ℕ)} → (a ≡ z → a' ≡ a) → (b ≡ z → b' ≡ b) → cond t a b ≡ z → cond t a' b' ≡ cond t a b
cond-is true f g h = f h
cond-is false f g h = g h

Sized : ℕ → Option (ℕ × ℕ) → Type 0
Sized k (Some (c, n)) = n ≡ k
Sized k None = Unit {0}

module _ (a b c d : ℕ) where
  single-sized : Sized 1 (single a)
  unfolding single Sized
  single-sized = by_cond (Sized 1) (control a) tt refl

  double-sized : Sized 2 (double a b)
  unfolding double Sized
  double-sized = by_cond (Sized 2) (second a b) refl tt

  triple-sized : Sized 3 (triple a b c)
  unfolding triple Sized
  triple-sized = by_cond (Sized 3) (second a b) (by_cond (Sized 3) (later_byte c) (by_cond (Sized 3) (nonchar a b c) tt refl) tt) tt

  fourfold-sized : Sized 4 (fourfold a b c d)
  unfolding fourfold Sized
  fourfold-sized = by_cond (Sized 4) (second a b) (by_cond (Sized 4) (later_byte c) (by_cond (Sized 4) (later_byte d) refl tt) tt) tt

size : (k : ℕ) {z : Option (ℕ × ℕ)} {c n : ℕ} → Sized k z → z ≡ Some (c, n) → n ≡ k
unfolding Sized
size k h e = rw e at h

Lasts : Option (ℕ × ℕ) → Type 0
Lasts (Some (c, n)) = 1 ≤ n
Lasts None = Unit {0}

lasts : (k : ℕ) (z : Option (ℕ × ℕ)) → Sized (1 + k) z → Lasts z
unfolding Sized Lasts
lasts k (Some (c, n)) h = omega (arith, h)
lasts k None h = tt

char-lasts : (s : List ℕ) → Lasts (char_at s)
unfolding char_at Lasts
char-lasts s =
    let a = byte s 0 in
    let b = byte s 1 in
    let c = byte s 2 in
    let d = byte s 3 in
    by_cond Lasts (eqb (seq_len a) 1) (lasts 0 (single a) (single-sized a b c d))
    (by_cond Lasts (eqb (seq_len a) 2) (lasts 1 (double a b) (double-sized a b c d))
    (by_cond Lasts (eqb (seq_len a) 3) (lasts 2 (triple a b c) (triple-sized a b c d))
    (by_cond Lasts (eqb (seq_len a) 4) (lasts 3 (fourfold a b c d) (fourfold-sized a b c d)) tt)))

pub char-size : (s : List ℕ) {c n : ℕ} → char_at s ≡ Some (c, n) → 1 ≤ n
unfolding Lasts
char-size s e = let h = char-lasts s in rw e at h

pub char-near : (s s' : List ℕ) {c n : ℕ} → char_at s ≡ Some (c, n) → ((i : ℕ) → i < n → byte s i ≡ byte s' i) → char_at s' ≡ Some (c, n)
unfolding char_at
char-near s s' {c = ch} {n} e h =
    let a = byte s 0 in
    let b = byte s 1 in
    let c = byte s 2 in
    let d = byte s 3 in
    let few = char-size s e in
    rw (← h 0 few)
    (cond-is (eqb (seq_len a) 1) (λ q. refl)
    (cond-is (eqb (seq_len a) 2) (λ q. let z = size 2 (double-sized a b c d) q in rw (h 1 (omega arith)))
    (cond-is (eqb (seq_len a) 3) (λ q. let z = size 3 (triple-sized a b c d) q in rw (h 1 (omega arith), h 2 (omega arith)))
    (cond-is (eqb (seq_len a) 4) (λ q. let z = size 4 (fourfold-sized a b c d) q in rw (h 1 (omega arith), h 2 (omega arith), h 3 (omega arith)))
    (λ q. refl)))) e
    ∙ e)

-- ---- it ends where its list does, or before

second-high : (a b : ℕ) → second a b ≡ true → 0x80 ≤ b
second-high a b e = let l = low-ascii a in let h = (second_range a b e).0 in omega arith

later-high : (b : ℕ) → later_byte b ≡ true → 0x80 ≤ b
unfolding later_byte
later-high b e = leb-true 0x80 b (both_true (leb 0x80 b) e).0

-- the last byte: its own, or one from 80 on
unfoldable LastHigh : List ℕ → Option (ℕ × ℕ) → Type 0
LastHigh s (Some (c, n)) = ((n ≡ 1) × (byte s 0 ≡ c)) ⊎ (0x80 ≤ byte s (pred n))
LastHigh s None = Unit {0}

last-high : (s : List ℕ) → LastHigh s (char_at s)
unfolding char_at single double triple fourfold LastHigh
last-high s =
    let a = byte s 0 in
    let b = byte s 1 in
    let c = byte s 2 in
    let d = byte s 3 in
    by_cond P (eqb (seq_len a) 1) (by_cond P (control a) tt (inl (refl, refl)))
    (by_cond P (eqb (seq_len a) 2) (by-test P (second a b) (λ e. inr (second-high a b e)) (λ e. tt))
    (by_cond P (eqb (seq_len a) 3)
    (by_cond P (second a b) (by-test P (later_byte c) (λ e. by_cond P (nonchar a b c) tt (inr (later-high c e))) (λ e. tt)) tt)
    (by_cond P (eqb (seq_len a) 4) (by_cond P (second a b) (by_cond P (later_byte c) (by-test P (later_byte d) (λ e. inr (later-high d e)) (λ e. tt)) tt) tt) tt)))
  where
    P : Option (ℕ × ℕ) → Type 0
    P = LastHigh s

pub char-last : (s : List ℕ) {c n : ℕ} → char_at s ≡ Some (c, n) → ((n ≡ 1) × (byte s 0 ≡ c)) ⊎ (0x80 ≤ byte s (pred n))
unfolding LastHigh
char-last s e = let h = last-high s in rw e at h

-- no character is 0
none-zero : (s : List ℕ) {n : ℕ} → char_at s ≡ Some (0, n) → ⊥
unfolding char_at seq_len single control
none-zero s e =
    let z = (char-low s e (omega arith)).0 in
    let f : None ≡ char_at s = rw z in
    zero-not-one (cc)

pub char-inside : (s : List ℕ) {c n : ℕ} → char_at s ≡ Some (c, n) → n ≤ length s
char-inside s {c} {n} e =
    ⊎_elim
    (λ one. ⊎_elim (λ z. absurd (none-zero s (rw z.0 at e))) (λ z. let k = z.0 in omega (arith, one.0, byte-there s 0 (sym one.1) (omega arith))) (eqb-cases c 0))
    (λ high. let l = byte-there s (pred n) refl (omega (arith, high)) in let m = char-size s e in omega arith)
    (char-last s e)
