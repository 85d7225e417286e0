-- What stands first in a value, a character or a reference: it is read from its own bytes alone, and ends where the value does, or before.
-- Assumes nothing.
use Prim.Native.Nat.{ℕ, suc, pred, ◌+◌, ◌-◌, ◌≤◌, ◌<◌}
use mathlib.Core.Path.{◌≡◌, refl, sym, ap, ◌∙◌}
use mathlib.Core.List.{List, ◌++◌}
use mathlib.Core.Bool.{Bool, true, false, cond, not}
use mathlib.Core.Logic.{◌⊎◌, inl, inr, ⊎_elim}
use native.Mathlib.Omega.{arith}
use lib.Dec.{leb, eqb}
use lib.ListN.{length, take, drop, length-drop, length-take, take-append-drop}
use borrow.Author.Tests.{eq-eqb, ne_eqb, leb-true, ltb-true}
use Rattle.std.specs.Prelude.{Option, Some, None, unwrap_or}
use Rattle.lists.proofs.Below.{every, below}
use Rattle.lists.proofs.Cases.{bool_cases, eqb-cases, ltb-cases, past-cond, both_true, zero-not-one, never}
use Rattle.slices.specs.Bytes.{byte}
use Rattle.slices.specs.Part.{part_of}
use Rattle.slices.specs.Run.{run}
use Rattle.slices.specs.Same.{same, begins}
use Rattle.slices.specs.Text.{text}
use Rattle.slices.proofs.Bytes.{byte-there, byte-drop, byte-take}
use Rattle.slices.proofs.Runs.{run-each}
use Rattle.slices.proofs.Near.{Front, front-drop, run-near, take-front, begins-take}
use Rattle.characters.specs.Utf8.{char_use, char_at}
use Rattle.characters.specs.References.{xml_char, digit, hex_digit, ref_digit, number_by, char_by, numbered_to, numbered_at, named_at, reference_at}
use Rattle.characters.specs.Says.{met, char_of, itself}
use Rattle.characters.proofs.Ascii.{char-printed}
use Rattle.characters.proofs.Low.{char-size, char-near, char-last, char-inside}

pub not-some : {c n : ℕ} → ◌≡◌ {A = Option (ℕ × ℕ)} None (Some (c, n)) → ⊥
not-some e = zero-not-one (cc)

-- the parts of a pair that is the same
pub pair-parts : {a b c d : ℕ} → ◌≡◌ {A = Option (ℕ × ℕ)} (Some (a, b)) (Some (c, d)) → (a ≡ c) × (b ≡ d)
pair-parts {a} {b} {c} {d} e = let p : ◌≡◌ {A = ℕ × ℕ} (a, b) (c, d) = cc in (ap (λ (x : ℕ × ℕ). x.0) p, ap (λ (x : ℕ × ℕ). x.1) p)

-- where there is no character, one byte is passed
pub unwrapped-use : (x : Option (ℕ × ℕ)) → (unwrap_or x (0, 1)).1 ≡ char_use x
unwrapped-use (Some (c, n)) = refl
unwrapped-use None = refl

-- ---- which it is

pub met-reference : (s : List ℕ) → byte s 0 ≡ 0x26 → char_of (met s) ≡ reference_at s
unfolding met char_of
met-reference s e = rw (eq-eqb (byte s 0) 0x26 e)

pub met-standing : (s : List ℕ) → (byte s 0 ≡ 0x26 → ⊥) → char_of (met s) ≡ char_at s
unfolding met char_of
met-standing s h = rw (ne_eqb (byte s 0) 0x26 h)

-- ---- a byte that says itself

pub itself-range : (b : ℕ) → itself b ≡ true → (0x20 ≤ b) × (b < 0x80) × (b ≡ 0x26 → ⊥)
unfolding itself
itself-range b e =
    let p = both_true (leb 0x27 b) e in
    let low = leb-true 0x27 b p.0 in
    (omega arith, ltb-true b 0x80 p.1, λ z. omega arith)

pub met-itself : (s : List ℕ) → itself (byte s 0) ≡ true → char_of (met s) ≡ Some (byte s 0, 1)
met-itself s e = let r = itself-range (byte s 0) e in met-standing s r.2 ∙ char-printed s r.0 r.1

-- ---- digits and `;`

none-digit : (hex : Bool) → ref_digit hex 0 ≡ false
unfolding ref_digit hex_digit digit
none-digit true = refl
none-digit false = refl

-- what a number is made of: m digits from the place `from` on, and `;` behind them
pub record Numbered (hex : Bool) (from : ℕ) (s : List ℕ) (c n : ℕ) : Type 0 where
  pub digits : ℕ
  pub some : digits ≡ 0 → ⊥
  pub count : run (ref_digit hex) (drop from s) ≡ digits
  pub long : n ≡ from + digits + 1
  pub ends : byte s (from + digits) ≡ 0x3B
  pub char : char_by (number_by hex 0 (part_of s from digits)) n ≡ Some (c, n)

numbered : (hex : Bool) (from : ℕ) (s : List ℕ) {c n : ℕ} → numbered_at hex from s ≡ Some (c, n) → Numbered hex from s c n
unfolding numbered_at numbered_to char_by
numbered hex from s {c} {n} e =
    let m = run (ref_digit hex) (drop from s) in
    let p = past-cond (eqb m 0) not-some e in
    let q : (byte s (from + m) ≡ 0x3B) × (char_by (number_by hex 0 (part_of s from m)) (from + m + 1) ≡ Some (c, n)) =
    ⊎_elim (λ y. (y.0, rw y.1 at p.1)) (λ y. absurd (not-some (rw y.1 at p.1))) (eqb-cases (byte s (from + m)) 0x3B) in
    let x : (xml_char (number_by hex 0 (part_of s from m)) ≡ true) × ◌≡◌ {A = Option (ℕ × ℕ)} (Some (number_by hex 0 (part_of s from m), from + m + 1)) (Some (c, n)) =
    ⊎_elim (λ y. (y, rw y at q.1)) (λ y. absurd (not-some (rw y at q.1))) (bool_cases (xml_char (number_by hex 0 (part_of s from m)))) in
    let z = (pair-parts x.1).1 in
    record {
      digits = m;
      some = λ u. let b = eq-eqb m 0 u in let f : ◌≡◌ {A = Bool} false true = sym p.0 ∙ b in never f;
      count = refl;
      long = sym z;
      ends = q.0;
      char = rw z at q.1;
    }

part-front : (s s' : List ℕ) (from m n : ℕ) → from + m < n → n ≤ length s → n ≤ length s' → Front s s' n → part_of s' from m ≡ part_of s from m
unfolding part_of
part-front s s' from m n k l l' h =
    take-front (drop from s') (drop from s) m (rw length-drop (omega arith)) (rw length-drop (omega arith))
    (λ i g. byte-drop s' from i ∙ sym (h (from + i) (omega arith)) ∙ sym (byte-drop s from i))

module _ {hex : Bool} {from : ℕ} {s : List ℕ} {c n : ℕ} (w : Numbered hex from s c n) where
  numbered-inside : n ≤ length s
  numbered-inside = omega (arith, w.long, byte-there s (from + w.digits) (sym w.ends) (omega arith))

  numbered-front : (s' : List ℕ) → n ≤ length s' → Front s s' n → numbered_at hex from s' ≡ Some (c, n)
  unfolding numbered_at numbered_to
  numbered-front s' l h =
      let m = w.digits in
      let k : from + m < n = omega (arith, w.long) in
      let f : Front (drop from s) (drop from s') (run (ref_digit hex) (drop from s) + 1) = front-drop s s' from _ (λ i g. h i (omega (arith, g, w.count))) in
      let r : run (ref_digit hex) (drop from s') ≡ m = run-near (ref_digit hex) (none-digit hex) (drop from s) (drop from s') f ∙ w.count in
      let e : byte s' (from + m) ≡ 0x3B = sym (h (from + m) k) ∙ w.ends in
      rw (r, ne_eqb m 0 w.some, eq-eqb (byte s' (from + m)) 0x3B e, part-front s s' from m n k numbered-inside l h, ← w.long) w.char

-- ---- the whole reference

-- a text that ends with `;`, and what it names
pub record Named (t s : List ℕ) (d c n : ℕ) : Type 0 where
  pub begins : take (length t) s ≡ t
  pub char : d ≡ c
  pub long : length t ≡ n

pub data Referred (s : List ℕ) (c n : ℕ) : Type 0 where
  hex : begins (text "&#x") s ≡ true → Numbered true 3 s c n → Referred s c n
  dec : begins (text "&#x") s ≡ false → begins (text "&#") s ≡ true → Numbered false 2 s c n → Referred s c n
  amp : Named (text "&amp;") s 0x26 c n → Referred s c n
  lt : Named (text "&lt;") s 0x3C c n → Referred s c n
  gt : Named (text "&gt;") s 0x3E c n → Referred s c n
  quot : Named (text "&quot;") s 0x22 c n → Referred s c n
  apos : Named (text "&apos;") s 0x27 c n → Referred s c n

name-is : (t s : List ℕ) (d : ℕ) {c n : ℕ} → begins t s ≡ true → ◌≡◌ {A = Option (ℕ × ℕ)} (Some (d, length t)) (Some (c, n)) → Named t s d c n
name-is t s d b e = let p = pair-parts e in record { begins = begins-take t s b; char = p.0; long = p.1 }

-- a choice that is a character: one of its cases is
chosen : {c n : ℕ} (t : Bool) {a b : Option (ℕ × ℕ)} → cond t a b ≡ Some (c, n) → ((t ≡ true) × (a ≡ Some (c, n))) ⊎ ((t ≡ false) × (b ≡ Some (c, n)))
chosen true e = inl (refl, e)
chosen false e = inr (refl, e)

named : (s : List ℕ) {c n : ℕ} → named_at s ≡ Some (c, n) → Referred s c n
unfolding named_at
named s e =
    ⊎_elim (λ y. amp (name-is (text "&amp;") s 0x26 y.0 y.1))
    (λ y. ⊎_elim (λ z. lt (name-is (text "&lt;") s 0x3C z.0 z.1))
    (λ z. ⊎_elim (λ u. gt (name-is (text "&gt;") s 0x3E u.0 u.1))
    (λ u. ⊎_elim (λ v. quot (name-is (text "&quot;") s 0x22 v.0 v.1))
    (λ v. ⊎_elim (λ w. apos (name-is (text "&apos;") s 0x27 w.0 w.1)) (λ w. absurd (not-some w.1))
    (chosen (begins (text "&apos;") s) v.1))
    (chosen (begins (text "&quot;") s) u.1))
    (chosen (begins (text "&gt;") s) z.1))
    (chosen (begins (text "&lt;") s) y.1))
    (chosen (begins (text "&amp;") s) e)

pub referred-is : (s : List ℕ) {c n : ℕ} → reference_at s ≡ Some (c, n) → Referred s c n
unfolding reference_at
referred-is s e =
    ⊎_elim (λ y. hex y.0 (numbered true 3 s y.1))
    (λ y. ⊎_elim (λ z. dec y.0 z.0 (numbered false 2 s z.1)) (λ z. named s z.1) (chosen (begins (text "&#") s) y.1))
    (chosen (begins (text "&#x") s) e)

-- the name again at the front of another list
name-front : {t s : List ℕ} {d c n : ℕ} (s' : List ℕ) → Named t s d c n → n ≤ length s → n ≤ length s' → Front s s' n → s' ≡ t ++ drop (length t) s'
name-front {t} {s} s' w l l' h =
    let e = w.long in
    sym (take-append-drop (length t) s')
    ∙ ap (λ (x : List ℕ). x ++ drop (length t) s') (sym (take-front s s' (length t) (omega arith) (omega arith) (λ i g. h i (omega arith))) ∙ w.begins)

name-inside : {t s : List ℕ} {d c n : ℕ} → Named t s d c n → n ≤ length s
name-inside {t} {s} w = omega (arith, w.long, ap length w.begins, length-take (length t) s)

pub reference-inside : (s : List ℕ) {c n : ℕ} → reference_at s ≡ Some (c, n) → n ≤ length s
reference-inside s {c} {n} e = by (referred-is s e)
  where
    by : Referred s c n → n ≤ length s
    by (hex b w) = numbered-inside w
    by (dec a b w) = numbered-inside w
    by (amp w) = name-inside w
    by (lt w) = name-inside w
    by (gt w) = name-inside w
    by (quot w) = name-inside w
    by (apos w) = name-inside w

-- the five names, whatever follows them
module _ (r : List ℕ) where
  names : (reference_at (text "&amp;" ++ r) ≡ Some (0x26, 5)) × (reference_at (text "&lt;" ++ r) ≡ Some (0x3C, 4)) × (reference_at (text "&gt;" ++ r) ≡ Some (0x3E, 4))
      × (reference_at (text "&quot;" ++ r) ≡ Some (0x22, 6)) × (reference_at (text "&apos;" ++ r) ≡ Some (0x27, 6))
  unfolding reference_at named_at begins same
  names = (refl, refl, refl, refl, refl)

-- it is read from its own bytes alone
pub reference-front : (s s' : List ℕ) {c n : ℕ} → reference_at s ≡ Some (c, n) → n ≤ length s' → Front s s' n → reference_at s' ≡ Some (c, n)
unfolding reference_at begins
reference-front s s' {c} {n} e l h = by (referred-is s e)
  where
    inside : n ≤ length s
    inside = reference-inside s e

    named_again : (t : List ℕ) (d : ℕ) → Named t s d c n → reference_at (t ++ drop (length t) s') ≡ Some (d, length t) → reference_at s' ≡ Some (c, n)
    named_again t d w q = ap reference_at (name-front s' w inside l h) ∙ q ∙ ap (λ (k : ℕ). Some (k, length t)) w.char ∙ ap (λ (k : ℕ). Some (c, k)) w.long

    mark : (t : List ℕ) → length t ≤ n → begins t s' ≡ begins t s
    mark t k = let i = inside in ap (same t) (sym (take-front s s' (length t) (omega arith) (omega arith) (λ i g. h i (omega arith))))

    by : Referred s c n → reference_at s' ≡ Some (c, n)
    by (hex b w) = rw (mark (text "&#x") (omega (arith, w.long)), b) (numbered-front w s' l h)
    by (dec a b w) =
        let some = w.some in
        rw (mark (text "&#x") (omega (arith, w.long, some)), a, mark (text "&#") (omega (arith, w.long)), b) (numbered-front w s' l h)
    by (amp w) = named_again (text "&amp;") 0x26 w (names (drop 5 s')).0
    by (lt w) = named_again (text "&lt;") 0x3C w (names (drop 4 s')).1
    by (gt w) = named_again (text "&gt;") 0x3E w (names (drop 4 s')).2
    by (quot w) = named_again (text "&quot;") 0x22 w (names (drop 6 s')).3
    by (apos w) = named_again (text "&apos;") 0x27 w (names (drop 6 s')).4

-- ---- where it ends

name-byte : {t s : List ℕ} {d c n : ℕ} (i : ℕ) → Named t s d c n → i < n → byte s i ≡ byte t i
name-byte {t} {s} i w h = sym (byte-take s (length t) i (omega (arith, w.long))) ∙ ap (λ (l : List ℕ). byte l i) w.begins

-- its last byte is `;`, and no other one is
pub record Shut (s : List ℕ) (n : ℕ) : Type 0 where
  pub some : 1 ≤ n
  pub last : byte s (pred n) ≡ 0x3B
  pub only : (i : ℕ) → suc i < n → byte s i ≡ 0x3B → ⊥

-- no byte of t before its last is `;`
abbrev open_to : List ℕ → ℕ → Bool
open_to t k = every (λ (i : ℕ). not (eqb (byte t i) 0x3B)) k

open-to : (t : List ℕ) (k : ℕ) → open_to t k ≡ true → (i : ℕ) → i < k → byte t i ≡ 0x3B → ⊥
open-to t k e i h q =
    let f : not (eqb (byte t i) 0x3B) ≡ true = below (λ (j : ℕ). not (eqb (byte t j) 0x3B)) k e i h in
    never (rw (eq-eqb (byte t i) 0x3B q) at f)

name-shut : (t : List ℕ) {s : List ℕ} {d c n : ℕ} → Named t s d c n → 0 < length t → byte t (pred (length t)) ≡ 0x3B → open_to t (pred (length t)) ≡ true → Shut s n
name-shut t {s} {n = n} w p e f =
    let z = w.long in
    record {
      some = omega arith;
      last = name-byte (pred n) w (omega arith) ∙ ap (λ (k : ℕ). byte t (pred k)) (sym z) ∙ e;
      only = λ i h q. open-to t (pred (length t)) f i (omega arith) (sym (name-byte i w (omega arith)) ∙ q);
    }

digit-other : (hex : Bool) (b : ℕ) → ref_digit hex b ≡ true → b ≡ 0x3B → ⊥
unfolding ref_digit hex_digit digit
digit-other true b e q = never (rw q at e)
digit-other false b e q = never (rw q at e)

numbered-shut : (t : List ℕ) {hex : Bool} {from : ℕ} {s : List ℕ} {c n : ℕ} → take (length t) s ≡ t → length t ≡ from → open_to t from ≡ true → Numbered hex from s c n → Shut s n
numbered-shut t {hex} {from} {s} {n = n} b z f w =
    record {
      some = omega (arith, w.long);
      last = ap (byte s) (let e : pred n ≡ from + w.digits = omega (arith, w.long) in e) ∙ w.ends;
      only = λ i h q.
          ⊎_elim
          (λ l. open-to t from f i l.0 (sym (sym (byte-take s (length t) i (omega (arith, l.0))) ∙ ap (λ (x : List ℕ). byte x i) b) ∙ q))
          (λ l.
          let j : from + (i - from) ≡ i = omega (arith, l.0) in
          digit-other hex (byte s i) (ap (ref_digit hex) (ap (byte s) (sym j) ∙ sym (byte-drop s from (i - from)))
          ∙ run-each (ref_digit hex) (drop from s) (i - from) (omega (arith, w.long, w.count, l.0))) q)
          (ltb-cases i from);
    }

pub reference-shut : (s : List ℕ) {c n : ℕ} → reference_at s ≡ Some (c, n) → Shut s n
unfolding byte
reference-shut s {c} {n} e = by (referred-is s e)
  where
    by : Referred s c n → Shut s n
    by (hex b w) = numbered-shut (text "&#x") (begins-take (text "&#x") s b) refl refl w
    by (dec a b w) = numbered-shut (text "&#") (begins-take (text "&#") s b) refl refl w
    by (amp w) = name-shut (text "&amp;") w (omega arith) refl refl
    by (lt w) = name-shut (text "&lt;") w (omega arith) refl refl
    by (gt w) = name-shut (text "&gt;") w (omega arith) refl refl
    by (quot w) = name-shut (text "&quot;") w (omega arith) refl refl
    by (apos w) = name-shut (text "&apos;") w (omega arith) refl refl

-- ---- either of them

-- one that stands, or a reference
pub data Unit' (s : List ℕ) (c n : ℕ) : Type 0 where
  stands : (byte s 0 ≡ 0x26 → ⊥) → char_at s ≡ Some (c, n) → Unit' s c n
  refers : byte s 0 ≡ 0x26 → reference_at s ≡ Some (c, n) → Unit' s c n

pub unit-is : (s : List ℕ) {c n : ℕ} → char_of (met s) ≡ Some (c, n) → Unit' s c n
unit-is s e =
    ⊎_elim (λ y. refers y.0 (sym (met-reference s y.0) ∙ e)) (λ y. stands y.0 (sym (met-standing s y.0) ∙ e)) (eqb-cases (byte s 0) 0x26)

module _ (s : List ℕ) {c n : ℕ} (e : char_of (met s) ≡ Some (c, n)) where
  pub unit-some : 1 ≤ n
  unit-some = by (unit-is s e)
    where
      by : Unit' s c n → 1 ≤ n
      by (stands a q) = char-size s q
      by (refers a q) = (reference-shut s q).some

  pub unit-inside : n ≤ length s
  unit-inside = by (unit-is s e)
    where
      by : Unit' s c n → n ≤ length s
      by (stands a q) = char-inside s q
      by (refers a q) = reference-inside s q

  pub unit-front : (s' : List ℕ) → n ≤ length s' → Front s s' n → char_of (met s') ≡ Some (c, n)
  unit-front s' l h = let first = h 0 (omega (arith, unit-some)) in by (unit-is s e) first
    where
      by : Unit' s c n → byte s 0 ≡ byte s' 0 → char_of (met s') ≡ Some (c, n)
      by (stands a q) z = met-standing s' (λ y. a (z ∙ y)) ∙ char-near s s' q h
      by (refers a q) z = met-reference s' (sym z ∙ a) ∙ reference-front s s' q l h

  -- its last byte: `;` of a reference, its own, or one from 80 on
  pub unit-last : (byte s (pred n) ≡ 0x3B) ⊎ (((n ≡ 1) × (byte s 0 ≡ c)) ⊎ (0x80 ≤ byte s (pred n)))
  unit-last = by (unit-is s e)
    where
      by : Unit' s c n → (byte s (pred n) ≡ 0x3B) ⊎ (((n ≡ 1) × (byte s 0 ≡ c)) ⊎ (0x80 ≤ byte s (pred n)))
      by (stands a q) = inr (char-last s q)
      by (refers a q) = inl (reference-shut s q).last
