-- What the reader's definitions make of a note, and what bytes they take.
--     number-back, numbers-back    a number, and numbers one after the other, are read back
--     numbers-other                and not as fewer or more of them
--     number_is, numbers-are       bytes that are read as numbers are those numbers' groups, and nothing else
-- Assumes nothing.
use mathlib.Core.Path.{◌≡◌, refl, sym, ap, ap₂, ◌∙◌}
use mathlib.Core.List.{List, [], ◌∷◌, ◌++◌}
use Prim.Native.Nat.{ℕ, zero, suc, ◌+◌, ◌-◌, ◌*◌, ◌/◌, ◌%◌, ◌^◌, ◌≤◌, ◌<◌}
use native.Mathlib.Nat.{pow-succ', pow-le-pow_right}
use native.Mathlib.Numerals.{add-one}
use native.Mathlib.Omega.{arith}
use mathlib.Core.Logic.{⊎_elim}
use lib.ListN.{length, drop}
use lib.Seq.{drop_at}
use borrow.Author.Tests.{lt-ltb, le-ltb, ne_eqb}
use Rattle.std.specs.Prelude.{Option, Some, None}
use Rattle.lists.proofs.Cases.{ltb-cases, zero-not-one}
use Rattle.std.proofs.lemmas.Option.{some_pair_parts}
use Rattle.notes.specs.Note.{groups_in, groups, flat, AllBelow}
use Rattle.notes.specs.Reader.{more_of, first_number, past_number, with_number, numbers_in}
use Rattle.notes.proofs.Groups.{on, last, pos, less, groups-three}
use Rattle.notes.proofs.Reading.{not-bad, more-inv}

-- ---- reading back
pub number-back : (k n : ℕ) (rest : List ℕ) → n < 128 ^ suc k → first_number (suc k) (groups_in k n ++ rest) ≡ Some (n, length (groups_in k n))
unfolding first_number groups_in
number-back zero n rest h = simp (lt-ltb n 128 (omega arith))
number-back (suc k) n rest h =
    ⊎_elim
    (λ y. simp y.1)
    (λ y.
    simp (y.1, number-back k (n / 128) rest (less k n h), le-ltb (128 + n % 128) 128 (omega arith), ne_eqb (n / 128) 0 (omega (arith, y.0)))
    (ap₂ (λ (v u : ℕ). Some (v, u)) (omega arith) (add-one _)))
    (ltb-cases n 128)

got-back : (n : ℕ) (rest : List ℕ) → n < 2 ^ 21 → first_number 3 (groups n ++ rest) ≡ Some (n, length (groups n))
got-back n rest h = rw (groups-three n h) (number-back 2 n rest h)

pub numbers-back : (ns : List ℕ) → AllBelow (2 ^ 21) ns → numbers_in (length ns) (flat ns) ≡ Some ns
unfolding numbers_in flat AllBelow
numbers-back [] h = refl
numbers-back (n ∷ ns) h =
    rw (got-back n (flat ns) h.0, drop_at (groups n) (flat ns) (length (groups n)) refl, numbers-back ns h.1)

none_first : first_number 3 [] ≡ None
unfolding first_number
none_first = refl

none_left : (w v : List ℕ) → 0 < length w → numbers_in 0 (w ++ v) ≡ None
unfolding numbers_in
none_left [] v h = absurd (omega arith)
none_left (b ∷ w) v h = refl

pub numbers-other : (k : ℕ) (ns : List ℕ) → AllBelow (2 ^ 21) ns → (k ≡ length ns → ⊥) → numbers_in k (flat ns) ≡ None
unfolding numbers_in flat AllBelow
numbers-other zero [] h f = absurd (f refl)
numbers-other zero (n ∷ ns) h f = none_left (groups n) (flat ns) (pos 4 n)
numbers-other (suc k) [] h f = rw none_first
numbers-other (suc k) (n ∷ ns) h f =
    rw (got-back n (flat ns) h.0, drop_at (groups n) (flat ns) (length (groups n)) refl, numbers-other k ns h.1 (λ e. f (ap suc e)))

-- ---- bytes that are read
-- v and its groups are what the bytes s begin with, in u bytes
pub record Begins (k v u : ℕ) (s : List ℕ) : Type 0 where
  pub small : v < 128 ^ suc k
  pub bytes : groups_in k v ++ drop u s ≡ s

one-group : (k b v u : ℕ) (s : List ℕ) → b < 128 → ◌≡◌ {A = Option (ℕ × ℕ)} (Some (b, 1)) (Some (v, u)) → Begins k v u (b ∷ s)
one-group k b v u s h e =
    let p = some_pair_parts _ _ _ _ e in
    let w : 128 ^ 1 ≤ 128 ^ suc k = pow-le-pow_right {n = 128} (omega arith) {i = 1} {j = suc k} (omega arith) in
    rw (← p.0, ← p.1) (record { small = omega arith; bytes = rw (last k b h) refl })

more-groups : (k b v u w x : ℕ) (s : List ℕ) → 128 ≤ b → b < 256 → 0 < w → v ≡ b - 128 + 128 * w → u ≡ x + 1 → Begins k w x s → Begins (suc k) v u (b ∷ s)
more-groups k b v u w x s h t z ev eu g =
    let d : v / 128 ≡ w = omega arith in
    let m : 128 + v % 128 ≡ b = omega arith in
    let n : 128 ≤ v = omega arith in
    let e : 128 ^ suc (suc k) ≡ 128 * 128 ^ suc k = pow-succ' 128 (suc k) in
    let q : groups_in (suc k) v ≡ b ∷ groups_in k w = on k v n ∙ rw (m, d) refl in
    record { small = omega (arith, g.small); bytes = rw (q, eu, add-one) (ap (λ (l : List ℕ). b ∷ l) g.bytes) }

pub number_is : (k : ℕ) (s : List ℕ) (v u : ℕ) → AllBelow 256 s → first_number (suc k) s ≡ Some (v, u) → Begins k v u s
unfolding first_number AllBelow
number_is zero [] v u a e = absurd (not-bad e)
number_is zero (b ∷ s) v u a e =
    ⊎_elim (λ y. one-group zero b v u s y.0 (rw y.1 at e)) (λ y. absurd (not-bad (rw y.1 at e))) (ltb-cases b 128)
number_is (suc k) [] v u a e = absurd (not-bad e)
number_is (suc k) (b ∷ s) v u a e =
    ⊎_elim
    (λ y. one-group (suc k) b v u s y.0 (rw y.1 at e))
    (λ y.
    let q : more_of b (first_number (suc k) s) ≡ Some (v, u) = rw y.1 at e in
    let m = more-inv b (first_number (suc k) s) v u q in
    more-groups k b v u m.0 m.1 s y.0 a.0 m.3 m.4 m.5 (number_is k s m.0 m.1 a.1 m.2))
    (ltb-cases b 128)

all_drop : (m u : ℕ) (s : List ℕ) → AllBelow m s → AllBelow m (drop u s)
unfolding AllBelow
all_drop m zero s a = a
all_drop m (suc u) [] a = a
all_drop m (suc u) (b ∷ s) a = all_drop m u s a.1

-- s is the numbers l, k of them, one after the other
pub record Are (k : ℕ) (s l : List ℕ) : Type 0 where
  pub many : length l ≡ k
  pub small : AllBelow (2 ^ 21) l
  pub bytes : s ≡ flat l

not_none : {l : List ℕ} → None ≡ Some l → ⊥
not_none e = zero-not-one (cc)

-- a number in front of numbers
front-is : (k v u : ℕ) (s l : List ℕ) → Begins 2 v u s → Are k (drop u s) l → Are (suc k) s (v ∷ l)
unfolding flat AllBelow
front-is k v u s l b r =
    let h : v < 2 ^ 21 = b.small in
    record {
      many = ap suc r.many;
      small = (h, r.small);
      bytes = sym b.bytes ∙ ap (λ (t : List ℕ). groups_in 2 v ++ t) r.bytes ∙ ap (λ (g : List ℕ). g ++ flat l) (sym (groups-three v h));
    }

step : (k : ℕ) (s l : List ℕ) → ((s' l' : List ℕ) → AllBelow 256 s' → numbers_in k s' ≡ Some l' → Are k s' l')
    → AllBelow 256 s → (g : Option (ℕ × ℕ)) → first_number 3 s ≡ g → (o : Option (List ℕ)) → numbers_in k (past_number s g) ≡ o → with_number g o ≡ Some l → Are (suc k) s l
step k s l ih a None eg o eo e = absurd (not_none e)
step k s l ih a (Some (v, u)) eg None eo e = absurd (not_none e)
step k s l ih a (Some (v, u)) eg (Some l') eo e =
    let q : v ∷ l' ≡ l = cc in
    rw (← q) (front-is k v u s l' (number_is 2 s v u a eg) (ih (drop u s) l' (all_drop 256 u s a) eo))

pub numbers-are : (k : ℕ) (s l : List ℕ) → AllBelow 256 s → numbers_in k s ≡ Some l → Are k s l
unfolding numbers_in flat AllBelow
numbers-are zero [] l a e = let q : [] ≡ l = cc in rw (← q) (record { many = refl; small = tt; bytes = refl })
numbers-are zero (b ∷ s) l a e = absurd (not_none e)
numbers-are (suc k) s l a e =
    step k s l (λ s' l' a' e'. numbers-are k s' l' a' e') a (first_number 3 s) refl (numbers_in k (past_number s (first_number 3 s))) refl e
