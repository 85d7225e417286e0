-- A loop that reads the digits at the front of a value: its invariant, `Read`, and how it starts, goes on and ends. Assumes nothing.
use Prim.Native.Nat.{ℕ, zero, suc, ◌+◌, ◌-◌, ◌*◌, ◌^◌, ◌≤◌, ◌<◌}
use mathlib.Core.Path.{◌≡◌, refl, sym, ap, ◌∙◌}
use mathlib.Core.List.{List, [], ◌∷◌}
use mathlib.Core.Bool.{true, false}
use native.Mathlib.Omega.{arith}
use native.Mathlib.Nat.{pow-suc, pow-le-pow_right, mul-le-mul_left, mul_assoc}
use native.Mathlib.Numerals.{add-one}
use lib.ListN.{take, drop}
use lib.Dec.{leb, lit<}
use borrow.Author.Tests.{leb-true}
use Rattle.lists.proofs.Cases.{both_true}
use Rattle.characters.specs.References.{digit}
use Rattle.numbers.specs.Digits.{digits, number_from}

-- of the digits that begin l, n are read, and say x; what is left is t
pub record Read (most before : ℕ) (l t : List ℕ) (n x : ℕ) : Type 0 where
  pub within : n ≤ most
  pub count : n + digits (most - n) t ≡ digits most l
  pub value : number_from x (take (digits (most - n) t) t) ≡ number_from before (take (digits most l) l)
  pub left : drop (digits (most - n) t) t ≡ drop (digits most l) l
  pub small : x < (before + 1) * 10 ^ n

-- and they are all
pub record AllRead (most before : ℕ) (l t : List ℕ) (n x : ℕ) : Type 0 where
  pub count : n ≡ digits most l
  pub value : x ≡ number_from before (take n l)
  pub left : t ≡ drop n l

digits_more : (k c : ℕ) (t : List ℕ) → digit c ≡ true → digits (suc k) (c ∷ t) ≡ suc (digits k t)
unfolding digits
digits_more k c t e = rw e

digits-other : (k c : ℕ) (t : List ℕ) → digit c ≡ false → digits k (c ∷ t) ≡ 0
unfolding digits
digits-other zero c t e = refl
digits-other (suc k) c t e = rw e

pub digits-none : (k : ℕ) → digits k [] ≡ 0
unfolding digits
digits-none zero = refl
digits-none (suc k) = refl

digits-full : (t : List ℕ) → digits 0 t ≡ 0
unfolding digits
digits-full t = refl

pub digit-range : (c : ℕ) → digit c ≡ true → (0x30 ≤ c) × (c ≤ 0x39)
unfolding digit
digit-range c e = let p = both_true (leb 0x30 c) e in (leb-true _ _ p.0, leb-true _ _ p.1)

tenfold : (b n : ℕ) → b * 10 ^ (n + 1) ≡ b * 10 ^ n * 10
tenfold b n = rw (add-one n, pow-suc 10 n, ← mul_assoc b (10 ^ n) 10)

module _ {most before : ℕ} {l : List ℕ} where
  pub read-start : Read most before l l 0 before
  read-start =
      let z : most - 0 ≡ most = omega arith in
      record { within = omega arith; count = rw z (omega arith); value = rw z; left = rw z; small = omega arith }

  module _ {t : List ℕ} {n x : ℕ} (r : Read most before l t n x) where
    stop : digits (most - n) t ≡ 0 → AllRead most before l t n x
    unfolding number_from
    stop e =
        let q : n ≡ digits most l = omega (arith, r.count) in
        record {
          count = q;
          value = rw e at r.value ∙ ap (λ (k : ℕ). number_from before (take k l)) (sym q);
          left = rw e at r.left ∙ ap (λ (k : ℕ). drop k l) (sym q);
        }

    pub read-full : most ≤ n → AllRead most before l t n x
    read-full h = let z : most - n ≡ 0 = omega arith in stop (rw z (digits-full t))

    pub read-over : t ≡ [] → AllRead most before l t n x
    read-over e = stop (rw e (digits-none (most - n)))

    pub read-other : {c : ℕ} {u : List ℕ} → t ≡ c ∷ u → digit c ≡ false → AllRead most before l t n x
    read-other {c} {u} e f = stop (rw e (digits-other (most - n) c u f))

    pub read_more : {c : ℕ} {u : List ℕ} → n < most → t ≡ c ∷ u → digit c ≡ true → Read most before l u (n + 1) (x * 10 + (c - 0x30))
    unfolding number_from
    read_more {c} {u} h e f =
        let z : most - n ≡ suc (most - (n + 1)) = omega arith in
        let q : digits (most - n) t ≡ suc (digits (most - (n + 1)) u) = rw (z, e) (digits_more (most - (n + 1)) c u f) in
        record {
          within = omega arith;
          count = omega (arith, q, r.count);
          value = rw (q, e) at r.value;
          left = rw (q, e) at r.left;
          small = omega (arith, tenfold (before + 1) n, digit-range c f);
        }

    pub read_fits : (before + 1) * 10 ^ most ≤ 10 ^ 15 → x < 10 ^ 15
    read_fits h = let g : 10 ^ n ≤ 10 ^ most = pow-le-pow_right (lit< tt) r.within in omega (arith, mul-le-mul_left (before + 1) g)

-- what `digits_of` owes where it ends
pub all : {most before : ℕ} {l t : List ℕ} {n x : ℕ} → AllRead most before l t n x → Read most before l t n x
    → (n ≡ digits most l) × ((x ≡ number_from before (take n l)) × ((t ≡ drop n l) × ((n ≤ most) × (x < (before + 1) * 10 ^ n))))
all a r = (a.count, (a.value, (a.left, (r.within, r.small))))
