-- Two values that say the same: the loop that compares them, and what their last bytes tell. Assumes nothing.
use Prim.Native.Nat.{ℕ, zero, suc, pred, min, ◌+◌, ◌-◌, ◌≤◌, ◌<◌}
use mathlib.Core.Path.{◌≡◌, refl, sym, ap, subst, ◌∙◌}
use mathlib.Core.List.{List, [], ◌∷◌}
use mathlib.Core.Bool.{Bool, true, false, cond}
use mathlib.Core.Logic.{⊎_elim}
use native.Mathlib.Omega.{arith}
use lib.Dec.{leb, eqb}
use native.Mathlib.Numerals.{add-one}
use lib.ListN.{length, get_or, drop, drop_of_length-le, length-drop}
use lib.Seq.{drop-cons, drop-drop}
use borrow.Author.Tests.{le-leb, lt-leb, eq-eqb, ne_eqb, eqb-false}
use Rattle.std.specs.Prelude.{Option, Some, None}
use Rattle.lists.proofs.Cases.{bool_cases, eqb-cases, ltb-cases, past-cond, never, leb-cases}
use Rattle.slices.specs.Bytes.{byte}
use Rattle.slices.specs.Same.{same}
use Rattle.slices.proofs.Bytes.{byte-drop}
use Rattle.slices.proofs.Sames.{same-equal}
use Rattle.characters.specs.Says.{met, char_of, itself, own_byte, own_end, other_byte, ends_otherwise, own_len, said_by, said_at, says}
use Rattle.characters.proofs.Units.{not-some, itself-range, met-itself, unit-last}
use Rattle.characters.proofs.Saying.{says-char, says-over, says_none, said-end, said-by, said-not-over, said-there, Uttered, unit, stray, uttered, said-some-bytes, said-inside}

-- ---- the loop: i bytes of the one and k of the other have said the same
pub record Abreast (a b : List ℕ) (i k : ℕ) : Type 0 where
  pub inside : k ≤ length b
  pub left : same (says (drop i a)) (says (drop k b)) ≡ same (says a) (says b)

module _ {a b : List ℕ} where
  pub abreast-start : Abreast a b 0 0
  abreast-start = record { inside = omega arith; left = refl }

  module _ {i k : ℕ} (w : Abreast a b i k) where
    -- x is what the call on the rest of a answered, y that on the rest of b
    module _ {x : Option (ℕ × ℕ)} (h : i < length a) (e : x ≡ said_at (drop i a)) where
      more : 0 < length (drop i a)
      more = rw length-drop (omega arith)

      pub abreast-never : x ≡ None → ⊥
      abreast-never q = said-not-over (drop i a) more (sym e ∙ q)

      module _ {c n : ℕ} (q : x ≡ Some (c, n)) where
        first : says (drop i a) ≡ c ∷ says (drop (i + n) a)
        first = let m = said-some-bytes (drop i a) more (sym e ∙ q) in rw (← drop-drop n i a) (says-char (drop i a) c n more (sym e ∙ q) m)

        module _ {y : Option (ℕ × ℕ)} (f : y ≡ said_at (drop k b)) where
          pub abreast-over : y ≡ None → false ≡ same (says a) (says b)
          unfolding same
          abreast-over r = rw (first, says-over (drop k b) (sym f ∙ r)) at w.left

          module _ {d m : ℕ} (r : y ≡ Some (d, m)) where
            some : 0 < length (drop k b)
            some = said-there (drop k b) (sym f ∙ r)

            other : says (drop k b) ≡ d ∷ says (drop (k + m) b)
            other = let l = said-some-bytes (drop k b) some (sym f ∙ r) in rw (← drop-drop m k b) (says-char (drop k b) d m some (sym f ∙ r) l)

            pub abreast-stop : (c ≡ d → ⊥) → false ≡ same (says a) (says b)
            unfolding same
            abreast-stop u = rw (first, other, ne_eqb c d u) at w.left

            pub abreast-more : c ≡ d → Abreast a b (i + n) (k + m)
            unfolding same
            abreast-more u =
                record {
                  inside = omega (arith, said-inside (drop k b) some (sym f ∙ r), length-drop k b);
                  left = rw (first, other, eq-eqb c d u) at w.left;
                }

    pub abreast-end : length a ≤ i → leb (length b) k ≡ same (says a) (says b)
    unfolding same
    abreast-end h =
        ⊎_elim
        (λ (y : (k < length b) × _). rw (lt-leb (length b) k y.0) (by (said_at (drop k b)) refl y.0))
        (λ y. rw (le-leb (length b) k y.0) (rw (said-end a i h, said-end b k y.0) at w.left))
        (ltb-cases k (length b))
      where
        by : (y : Option (ℕ × ℕ)) → said_at (drop k b) ≡ y → k < length b → false ≡ same (says a) (says b)
        by None q l = absurd (said-not-over (drop k b) (rw length-drop (omega arith)) q)
        by (Some (d, m)) q l =
            let some : 0 < length (drop k b) = rw length-drop (omega arith) in
            let z = says-char (drop k b) d m some q (said-some-bytes (drop k b) some q) in
            rw (said-end a i h, z) at w.left

-- ---- bytes at the front that are the same and say themselves

own-said : (b : ℕ) (t : List ℕ) → itself b ≡ true → says (b ∷ t) ≡ b ∷ says t
unfolding said_by byte
own-said b t e = says-char (b ∷ t) b 1 (omega arith) (said-by (b ∷ t) (omega arith) ∙ ap said_by (met-itself (b ∷ t) e)) (omega arith)

own-more : (x y : ℕ) (a b : List ℕ) → eqb x y ≡ true → itself x ≡ true → own_len (x ∷ a) (y ∷ b) ≡ suc (own_len a b)
unfolding own_len
own-more x y a b p q = rw (p, q)

own-none : (x y : ℕ) (a b : List ℕ) → cond (eqb x y) (itself x) false ≡ false → own_len (x ∷ a) (y ∷ b) ≡ 0
unfolding own_len
own-none x y a b p =
    ⊎_elim
    (λ (e : eqb x y ≡ true). ⊎_elim (λ (t : itself x ≡ true). never (sym (rw (e, t) at p))) (λ (t : itself x ≡ false). rw (e, t)) (bool_cases (itself x)))
    (λ (e : eqb x y ≡ false). rw e)
    (bool_cases (eqb x y))

-- nothing is passed
at_front : (a b : List ℕ) {n : ℕ} → n ≡ 0 → Abreast a b n n
at_front a b e = rw e abreast-start

pub own-abreast : (a b : List ℕ) → Abreast a b (own_len a b) (own_len a b)
unfolding own_len same
own-abreast [] b = at_front [] b refl
own-abreast (x ∷ a) [] = at_front (x ∷ a) [] refl
own-abreast (x ∷ a) (y ∷ b) = by (own-abreast a b)
  where
    by : Abreast a b (own_len a b) (own_len a b) → Abreast (x ∷ a) (y ∷ b) (own_len (x ∷ a) (y ∷ b)) (own_len (x ∷ a) (y ∷ b))
    by r =
        ⊎_elim
        (λ e.
        ⊎_elim
        (λ (t : itself x ≡ true).
        let s : same (says (x ∷ a)) (says (y ∷ b)) ≡ same (says a) (says b) = rw (own-said x a t, own-said y b (rw e.0 at t), e.1) in
        let w : Abreast (x ∷ a) (y ∷ b) (suc (own_len a b)) (suc (own_len a b)) = record { inside = omega (arith, r.inside); left = r.left ∙ sym s } in
        subst (λ (n : ℕ). Abreast (x ∷ a) (y ∷ b) n n) (sym (own-more x y a b e.1 t)) w)
        (λ (t : itself x ≡ false). at_front (x ∷ a) (y ∷ b) (own-none x y a b (rw e.1 t)))
        (bool_cases (itself x)))
        (λ e. at_front (x ∷ a) (y ∷ b) (own-none x y a b (rw e.1)))
        (eqb-cases x y)

-- the loop that counts them
pub record Owned (a b : List ℕ) (i : ℕ) : Type 0 where
  pub first : i ≤ length a
  pub second : i ≤ length b
  pub total : i + own_len (drop i a) (drop i b) ≡ own_len a b

module _ {a b : List ℕ} where
  pub owned-start : Owned a b 0
  owned-start = record { first = omega arith; second = omega arith; total = omega arith }

  module _ {i : ℕ} (w : Owned a b i) where
    -- one of them ends
    pub owned-end : min (length a) (length b) ≤ i → i ≡ own_len a b
    unfolding own_len
    owned-end h = ⊎_elim by-first by-second (leb-cases (length a) i)
      where
        by-first : (y : (length a ≤ i) × (leb (length a) i ≡ true)) → i ≡ own_len a b
        by-first y = let z : own_len (drop i a) (drop i b) ≡ 0 = rw (drop_of_length-le a y.0) in omega (arith, z, w.total)

        by-second : (y : (i < length a) × (leb (length a) i ≡ false)) → i ≡ own_len a b
        by-second y =
            let z : own_len (drop i a) (drop i b) ≡ 0 = rw (drop_of_length-le b {i = i} (omega (arith, y.0)), drop-cons a i 0 y.0) in
            omega (arith, z, w.total)

    module _ (h : i < length a) where
      module _ (k : i < length b) where
        pub owned-other : (get_or a i 0 ≡ get_or b i 0 → ⊥) → i ≡ own_len a b
        unfolding own_len
        owned-other n = let z : own_len (drop i a) (drop i b) ≡ 0 = rw (drop-cons a i 0 h, drop-cons b i 0 k, ne_eqb _ _ n) in omega (arith, z, w.total)

        -- t is what `is_itself` answered of the byte
        module _ (e : get_or a i 0 ≡ get_or b i 0) {t : Bool} (f : t ≡ itself (get_or a i 0)) where
          pub owned-stop : t ≡ false → i ≡ own_len a b
          unfolding own_len
          owned-stop y =
              let z : own_len (drop i a) (drop i b) ≡ 0 = rw (drop-cons a i 0 h, drop-cons b i 0 k, eq-eqb _ _ e, ← f, y) in
              omega (arith, z, w.total)

          pub owned-more : t ≡ true → Owned a b (i + 1)
          unfolding own_len
          owned-more y =
              let z : own_len (drop i a) (drop i b) ≡ suc (own_len (drop (suc i) a) (drop (suc i) b)) =
              rw (drop-cons a i 0 h, drop-cons b i 0 k, eq-eqb _ _ e, ← f, y) in
              record { first = omega arith; second = omega arith; total = rw (add-one i) (omega (arith, z, w.total)) }

-- ---- the last byte

abbrev last_or : ℕ → List ℕ → ℕ
last_or d [] = d
last_or d (c ∷ l) = last_or c l

own-byte : (b : ℕ) → (own_byte b ≡ 0 → ⊥) → (own_byte b ≡ b) × (itself b ≡ true) × (b ≡ 0x3B → ⊥)
unfolding own_byte
own-byte b h =
    ⊎_elim
    (λ y. absurd (h (rw y.1)))
    (λ y. ⊎_elim (λ z. (rw (y.1, z), z, y.0)) (λ z. absurd (h (rw (y.1, z)))) (bool_cases (itself b)))
    (eqb-cases b 0x3B)

none-own : own_end [] ≡ 0
unfolding own_end own_byte byte itself
none-own = refl

end-own : (v : List ℕ) → own_byte (byte v (length v - 1)) ≡ own_end v
unfolding own_end
end-own v = refl

own-ends : (v : List ℕ) → (own_byte (byte v (length v - 1)) ≡ 0 → ⊥) → own_end v ≡ 0 → ⊥
own-ends v h z = h (end-own v ∙ z)

-- a value whose last byte says itself says it last; n is a bound of its length
abbrev LastSaid : ℕ → Type 0
LastSaid n = (v : List ℕ) (d : ℕ) → length v ≤ n → (own_end v ≡ 0 → ⊥) → last_or d (says v) ≡ own_end v

last_step : (n : ℕ) → LastSaid n → LastSaid (suc n)
unfolding own_end
last_step n ih [] d l h = absurd (h none-own)
last_step n ih (b ∷ t) d l h = by (said_at (b ∷ t)) refl
  where
    v : List ℕ
    v = b ∷ t

    own : (own_byte (byte v (length v - 1)) ≡ byte v (length v - 1)) × (itself (byte v (length v - 1)) ≡ true) × (byte v (length v - 1) ≡ 0x3B → ⊥)
    own = own-byte (byte v (length v - 1)) h

    -- nothing is behind the unit
    alone : {c m : ℕ} → Uttered v c m → m ≡ length v → c ≡ own_end v
    alone {c} {m} (unit q) z =
        let p : pred m ≡ length v - 1 = omega (arith, z) in
        let r = itself-range (byte v (length v - 1)) own.1 in
        ⊎_elim
        (λ x. absurd (own.2 (ap (byte v) (sym p) ∙ x)))
        (λ x.
        ⊎_elim
        (λ u. let f : length v - 1 ≡ 0 = omega (arith, u.0, z) in sym u.1 ∙ ap (byte v) (sym f) ∙ sym own.0)
        (λ u. absurd (let g : byte v (pred m) ≡ byte v (length v - 1) = ap (byte v) p in omega (arith, g, u, r.1)))
        x)
        (unit-last v q)
    alone {c} {m} (stray q e o) z =
        let f : length v - 1 ≡ 0 = omega (arith, o, z) in
        let g : char_of (met v) ≡ Some (byte v 0, 1) = met-itself v (ap (λ (k : ℕ). itself (byte v k)) (sym f) ∙ own.1) in
        absurd (not-some (sym q ∙ g))

    by : (x : Option (ℕ × ℕ)) → said_at v ≡ x → last_or d (says v) ≡ own_end v
    by None q = absurd (said-not-over v (omega arith) q)
    by (Some (c, m)) q =
        let some : 0 < length v = omega arith in
        let m1 = said-some-bytes v some q in
        let m2 = said-inside v some q in
        let s = says-char v c m some q m1 in
        ⊎_elim
        (λ y.
        let k : length (drop m v) ≡ length v - m = length-drop m v in
        let e : own_end (drop m v) ≡ own_end v =
        ap own_byte (byte-drop v m (length (drop m v) - 1) ∙ ap (byte v) (let f : m + (length (drop m v) - 1) ≡ length v - 1 = omega (arith, k, y.0) in f)) in
        rw s (ih (drop m v) c (omega (arith, k)) (λ z. h (sym e ∙ z)) ∙ e))
        (λ y.
        let z : m ≡ length v = omega (arith, y.0) in
        rw (s, drop_of_length-le v {i = m} (omega arith), says_none) (alone (uttered v some q) z))
        (ltb-cases m (length v))

last_none : LastSaid 0
last_none [] d l h = absurd (h none-own)
last_none (b ∷ t) d l h = absurd (omega arith)

last-said : (n : ℕ) → LastSaid n
last-said zero = last_none
last-said (suc n) = last_step n (last-said n)

pub otherwise : (a b : List ℕ) → ends_otherwise a (own_end b) ≡ true → false ≡ same (says a) (says b)
unfolding ends_otherwise other_byte
otherwise a b e =
    let l = byte a (length a - 1) in
    let differ = past-cond (eqb l (own_end b)) (λ z. never z) e in
    let x = past-cond (eqb (own_end b) 0) (λ z. never z) differ.1 in
    let h : own_byte l ≡ 0 → ⊥ = λ z. never (rw (eq-eqb (own_byte l) 0 z) at x.1) in
    ⊎_elim
    (λ (t : same (says a) (says b) ≡ true).
    let p = last-said (length a) a 0 (omega arith) (own-ends a h) in
    let q = last-said (length b) b 0 (omega arith) (eqb-false (own_end b) 0 x.0) in
    absurd (eqb-false l (own_end b) differ.0 (sym (own-byte l h).0 ∙ end-own a ∙ sym p ∙ ap (last_or 0) (same-equal (says a) (says b) t) ∙ q)))
    (λ t. sym t)
    (bool_cases (same (says a) (says b)))
