-- The invariants of the two reading loops.
--     Sum     the number reader: what the groups so far make of those to come is the number
--     Rd      the reader of numbers: what is read and what is still to be read is all of them
-- Assumes nothing.
use mathlib.Core.Path.{◌≡◌, refl, sym, ap, ap₂, ◌∙◌}
use mathlib.Core.List.{List, [], ◌∷◌, ◌++◌, append_assoc, append-nil}
use Prim.Native.Nat.{ℕ, zero, suc, ◌+◌, ◌-◌, ◌*◌, ◌^◌, ◌≤◌, ◌<◌}
use native.Mathlib.Nat.{zero-add, one-mul, mul-add, mul_assoc, pow-succ', mul-le-mul_left, pow-le-pow_right, le_of_eq}
use native.Mathlib.Numerals.{add-one}
use native.Mathlib.Omega.{arith}
use mathlib.Core.Bool.{Bool, true, false, cond}
use mathlib.Core.Logic.{⊎_elim}
use lib.Dec.{ltb, eqb}
use lib.ListN.{length, take, drop, set, get_or, length-set, length-drop, length-replicate, drop_of_length-le}
use lib.Seq.{drop-cons, drop-drop, take-suc-set, take_all}
use borrow.Author.Tests.{lt-ltb, le-ltb}
use Rattle.std.specs.Prelude.{Option, Some, None}
use Rattle.lists.specs.Zeros.{zeros}
use Rattle.lists.proofs.Cases.{ltb-cases, eqb-cases, zero-not-one}
use Rattle.std.proofs.lemmas.Option.{some_pair_parts}
use Rattle.notes.specs.Reader.{more_of, first_number, with_number, numbers_in, old_note, new_note, note_in}

-- ---- the number reader's loop
-- i groups come to `value`, the next counts `unit`, and below `least` it is not shortest: what they make of the groups after them
unfoldable pub under : (least value unit i : ℕ) → Option (ℕ × ℕ) → Option (ℕ × ℕ)
under least value unit i (Some (v, u)) = cond (ltb v least) None (Some (value + unit * v, i + u))
under least value unit i None = None

pub record Sum (s : List ℕ) (i value unit least : ℕ) : Type 0 where
  pub k : ℕ
  pub count : i + k ≡ 3
  pub weight : unit ≡ 128 ^ i
  pub small : value < unit
  pub low : least ≤ 1
  pub all : under least value unit i (first_number k (drop i s)) ≡ first_number 3 s

under_none : (g : Option (ℕ × ℕ)) → under 0 0 1 0 g ≡ g
unfolding under
under_none (Some (v, u)) = simp (le-ltb v 0 (omega arith)) (ap₂ (λ (v u : ℕ). Some (v, u)) (zero-add (1 * v) ∙ one-mul v) (zero-add u))
under_none None = refl

pub sum-start : (s : List ℕ) → Sum s 0 0 1 0
sum-start s = record { k = 3; count = zero-add 3; weight = refl; small = omega arith; low = omega arith; all = under_none (first_number 3 s) }

-- a group with its top bit set goes from what is to come to what has been
under_more : (least value unit i b : ℕ) (g : Option (ℕ × ℕ)) → least ≤ 1 → under least value unit i (more_of b g) ≡ under 1 (value + unit * (b - 128)) (unit * 128) (i + 1) g
unfolding under
under_more least value unit i b None h = refl
under_more least value unit i b (Some (v, u)) h =
    ⊎_elim
    (λ y. simp (y.1, lt-ltb v 1 (omega (arith, y.0))))
    (λ y.
    let p : 1 ≤ v = omega (arith, y.0) in
    let q : least ≤ b - 128 + 128 * v = omega arith in
    let e : value + unit * (b - 128 + 128 * v) ≡ value + unit * (b - 128) + unit * 128 * v =
    omega (arith, mul-add unit (b - 128) (128 * v), mul_assoc unit 128 v) in
    simp (y.1, le-ltb v 1 p, le-ltb (b - 128 + 128 * v) least q) (ap₂ (λ (v u : ℕ). Some (v, u)) e (omega arith)))
    (eqb-cases v 0)

module _ (s : List ℕ) (i value unit least : ℕ) (r : Sum s i value unit least) where
  -- the sums fit
  sum_fits : (x : ℕ) → i < 3 → x < 128 → (unit ≤ 16384) × (unit * x ≤ unit * 127) × (value + unit * x < unit * 128)
  sum_fits x h hx =
      let p : 128 ^ i ≤ 128 ^ 2 = pow-le-pow_right {n = 128} (omega arith) {i = i} {j = 2} (omega arith) in
      let q : unit * x ≤ unit * 127 = mul-le-mul_left unit (omega arith) in
      (omega (arith, r.weight), q, omega (arith, r.small))

  pub last_fits : i < 3 → get_or s i 0 < 128 → value + unit * get_or s i 0 < 2 ^ 21
  last_fits h d = omega (arith, sum_fits (get_or s i 0) h d)

  pub group-fits : i < 3 → get_or s i 0 < 256 → (value + unit * (get_or s i 0 - 128) < 2 ^ 21) × (unit * 128 ≤ 2 ^ 21)
  group-fits h d = let f = sum_fits (get_or s i 0 - 128) h (omega arith) in (omega arith, omega arith)

  -- what holds of the groups to come, of which there is one at least
  on-next : (P : Option (ℕ × ℕ) → Type 0) → i < 3 → ((k : ℕ) → suc i + k ≡ 3 → under least value unit i (first_number (suc k) (drop i s)) ≡ first_number 3 s → P (first_number 3 s)) → P (first_number 3 s)
  on-next P h f = go r.k r.count r.all
    where
      go : (k : ℕ) → i + k ≡ 3 → under least value unit i (first_number k (drop i s)) ≡ first_number 3 s → P (first_number 3 s)
      go zero c a = absurd (omega arith)
      go (suc k) c a = f k (omega arith) a

  pub sum-short : i < 3 → length s ≤ i → None ≡ first_number 3 s
  unfolding under first_number
  sum-short h l = on-next (λ (g : Option (ℕ × ℕ)). None ≡ g) h (λ k c a. rw (drop_of_length-le s l) at a)

  module _ (h : i < 3) (l : i < length s) where
    pub sum-idle : get_or s i 0 < least → None ≡ first_number 3 s
    unfolding under first_number
    sum-idle b =
        let d : get_or s i 0 < 128 = omega (arith, r.low) in
        on-next (λ (g : Option (ℕ × ℕ)). None ≡ g) h (λ k c a. simp (drop-cons s i 0 l, lt-ltb (get_or s i 0) 128 d, lt-ltb (get_or s i 0) least b) at a)

    pub sum-last : least ≤ get_or s i 0 → get_or s i 0 < 128 → Some (value + unit * get_or s i 0, i + 1) ≡ first_number 3 s
    unfolding under first_number
    sum-last b d =
        on-next (λ (g : Option (ℕ × ℕ)). Some (value + unit * get_or s i 0, i + 1) ≡ g) h
        (λ k c a. simp (drop-cons s i 0 l, lt-ltb (get_or s i 0) 128 d, le-ltb (get_or s i 0) least b) at a)

    more-at : (k : ℕ) → 128 ≤ get_or s i 0 → first_number (suc k) (drop i s) ≡ more_of (get_or s i 0) (first_number k (drop (i + 1) s))
    unfolding first_number
    more-at k d = rw (add-one, drop-cons s i 0 l) (simp (le-ltb (get_or s i 0) 128 d))

    pub sum-next : 128 ≤ get_or s i 0 → get_or s i 0 < 256 → Sum s (i + 1) (value + unit * (get_or s i 0 - 128)) (unit * 128) 1
    sum-next d t = go r.k r.count r.all
      where
        go : (k : ℕ) → i + k ≡ 3 → under least value unit i (first_number k (drop i s)) ≡ first_number 3 s
            → Sum s (i + 1) (value + unit * (get_or s i 0 - 128)) (unit * 128) 1
        go zero c a = absurd (omega arith)
        go (suc k) c a =
            record {
              k = k;
              count = omega arith;
              weight = rw add-one (omega (arith, r.weight, pow-succ' 128 i));
              small = omega (arith, sum_fits (get_or s i 0 - 128) h (omega arith));
              low = omega arith;
              all = sym (under_more least value unit i (get_or s i 0) (first_number k (drop (i + 1) s)) r.low)
                  ∙ sym (ap (under least value unit i) (more-at k d)) ∙ a;
            }

  -- a fourth group
  pub sum-end : 3 ≤ i → None ≡ first_number 3 s
  unfolding under first_number
  sum-end h = go r.k r.count r.all
    where
      go : (k : ℕ) → i + k ≡ 3 → under least value unit i (first_number k (drop i s)) ≡ first_number 3 s → None ≡ first_number 3 s
      go zero c a = a
      go (suc k) c a = absurd (omega arith)

-- ---- the loop of the reader of numbers
pub not-bad : {v u : ℕ} → ◌≡◌ {A = Option (ℕ × ℕ)} None (Some (v, u)) → ⊥
not-bad e = zero-not-one (cc)

-- a number of several groups: what its first group and the others say
pub more-inv : (b : ℕ) (g : Option (ℕ × ℕ)) (v u : ℕ) → more_of b g ≡ Some (v, u)
    → (w : ℕ) × (x : ℕ) × (g ≡ Some (w, x)) × (0 < w) × (v ≡ b - 128 + 128 * w) × (u ≡ x + 1)
more-inv b None v u e = absurd (not-bad e)
more-inv b (Some (w, x)) v u e =
    ⊎_elim
    (λ y. absurd (not-bad (rw y.1 at e)))
    (λ y.
    let q : ◌≡◌ {A = Option (ℕ × ℕ)} (Some (b - 128 + 128 * w, x + 1)) (Some (v, u)) = rw y.1 at e in
    let p = some_pair_parts _ _ _ _ q in
    (w, x, refl, omega (arith, y.0), sym p.0, sym p.1))
    (eqb-cases w 0)

-- a number lies within what it was read from
pub got-len : (k : ℕ) (s : List ℕ) (v u : ℕ) → first_number k s ≡ Some (v, u) → u ≤ length s
unfolding first_number
got-len zero s v u e = absurd (not-bad e)
got-len (suc k) [] v u e = absurd (not-bad e)
got-len (suc k) (b ∷ s) v u e =
    ⊎_elim
    (λ y. let q : ◌≡◌ {A = Option (ℕ × ℕ)} (Some (b, 1)) (Some (v, u)) = rw y.1 at e in omega (arith, some_pair_parts _ _ _ _ q))
    (λ y.
    let q : more_of b (first_number k s) ≡ Some (v, u) = rw y.1 at e in
    let m = more-inv b (first_number k s) v u q in
    omega (arith, got-len k s m.0 m.1 m.2, m.5))
    (ltb-cases b 128)

-- in front of what is still to be read stands what was read
unfoldable pub join : List ℕ → Option (List ℕ) → Option (List ℕ)
join p (Some l) = Some (p ++ l)
join p None = None

-- of n numbers i were read up to at; j are to come
pub record Rd (n : ℕ) (s ns : List ℕ) (at i : ℕ) : Type 0 where
  pub j : ℕ
  pub sum : i + j ≡ n
  pub most : at ≤ length s
  pub long : length ns ≡ n
  pub rest : join (take i ns) (numbers_in j (drop at s)) ≡ numbers_in n s

join-none : (x : Option (List ℕ)) → join [] x ≡ x
unfolding join
join-none (Some l) = refl
join-none None = refl

pub rd-start : (n : ℕ) (s : List ℕ) → Rd n s (zeros n) 0 0
rd-start n s = record { j = n; sum = zero-add n; most = omega arith; long = length-replicate n 0; rest = join-none (numbers_in n s) }

join_front : (p : List ℕ) (v u : ℕ) (x : Option (List ℕ)) → join p (with_number (Some (v, u)) x) ≡ join (p ++ v ∷ []) x
unfolding join
join_front p v u (Some l) = ap Some (sym (append_assoc p (v ∷ []) l))
join_front p v u None = refl

module _ (n : ℕ) (s ns : List ℕ) (at i : ℕ) (r : Rd n s ns at i) where
  rd-rest : (v u k : ℕ) → i < n → first_number 3 (drop at s) ≡ Some (v, u) → join (take i ns) (numbers_in (suc k) (drop at s)) ≡ numbers_in n s
      → join (take (i + 1) (set ns i v)) (numbers_in k (drop (at + u) s)) ≡ numbers_in n s
  unfolding numbers_in
  rd-rest v u k h e q =
      let l : i < length ns = omega (arith, r.long) in
      let t : take (i + 1) (set ns i v) ≡ take i ns ++ v ∷ [] = rw add-one (take-suc-set ns i v l) in
      rw (t, ← drop-drop u at s) (sym (join_front (take i ns) v u (numbers_in k (drop u (drop at s)))) ∙ rw e at q)

  pub rd_next : (v u : ℕ) → i < n → first_number 3 (drop at s) ≡ Some (v, u) → Rd n s (set ns i v) (at + u) (i + 1)
  rd_next v u h e = go r.j r.sum r.rest
    where
      go : (j : ℕ) → i + j ≡ n → join (take i ns) (numbers_in j (drop at s)) ≡ numbers_in n s → Rd n s (set ns i v) (at + u) (i + 1)
      go zero sm re = absurd (omega arith)
      go (suc j) sm re =
          record {
            j = j;
            sum = omega arith;
            most = omega (arith, got-len 3 (drop at s) v u e, length-drop at s, r.most);
            long = length-set ns i v ∙ r.long;
            rest = rd-rest v u j h e re;
          }

  stopped : (j : ℕ) → first_number 3 (drop at s) ≡ None → join (take i ns) (numbers_in (suc j) (drop at s)) ≡ None
  unfolding numbers_in join
  stopped j e = rw e

  pub rd-bad : i < n → first_number 3 (drop at s) ≡ None → None ≡ numbers_in n s
  rd-bad h e = go r.j r.sum r.rest
    where
      go : (j : ℕ) → i + j ≡ n → join (take i ns) (numbers_in j (drop at s)) ≡ numbers_in n s → None ≡ numbers_in n s
      go zero sm re = absurd (omega arith)
      go (suc j) sm re = sym (stopped j e) ∙ re

  -- all numbers are read
  ended-at : n ≤ i → join ns (numbers_in 0 (drop at s)) ≡ numbers_in n s
  ended-at h = go r.j (omega (arith, r.sum)) r.rest
    where
      go : (j : ℕ) → j ≡ 0 → join (take i ns) (numbers_in j (drop at s)) ≡ numbers_in n s → join ns (numbers_in 0 (drop at s)) ≡ numbers_in n s
      go zero z q = sym (ap (λ (l : List ℕ). join l (numbers_in 0 (drop at s))) (take_all i ns (omega (arith, r.long)))) ∙ q
      go (suc j) z q = absurd (omega arith)

  pub whole-end : n ≤ i → at ≡ length s → Some ns ≡ numbers_in n s
  unfolding numbers_in join
  whole-end h e =
      sym (ap Some (append-nil ns))
      ∙ sym (ap (λ (l : List ℕ). join ns (numbers_in 0 l)) (drop_of_length-le s (le_of_eq (sym e))))
      ∙ ended-at h

  pub more-end : n ≤ i → (at ≡ length s → ⊥) → None ≡ numbers_in n s
  unfolding numbers_in join
  more-end h f =
      let l : at < length s = omega (arith, r.most, f) in
      sym (ap (λ (d : List ℕ). join ns (numbers_in 0 d)) (drop-cons s at 0 l)) ∙ ended-at h

-- ---- the note reader: five numbers, seven, and neither
module _ (s : List ℕ) where
  pub read-five : (five : List ℕ) → numbers_in 5 s ≡ Some five → old_note five ≡ note_in s
  unfolding note_in
  read-five five e = rw e refl

  pub read-seven : (seven : List ℕ) → numbers_in 5 s ≡ None → numbers_in 7 s ≡ Some seven → new_note seven ≡ note_in s
  unfolding note_in
  read-seven seven e f = rw (e, f) refl

  pub read-neither : numbers_in 5 s ≡ None → numbers_in 7 s ≡ None → None ≡ note_in s
  unfolding note_in
  read-neither e f = rw (e, f) refl
