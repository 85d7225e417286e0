-- A loop that reads what a value says, character by character: what `said_at` found at a place, and what is said from there on. Assumes nothing.
use Prim.Native.Nat.{ℕ, zero, suc, ◌+◌, ◌-◌, ◌≤◌, ◌<◌}
use mathlib.Core.Path.{◌≡◌, refl, sym, ap, ◌∙◌}
use mathlib.Core.List.{List, [], ◌∷◌}
use native.Mathlib.Omega.{arith}
use lib.ListN.{length, take, drop, drop_of_length-le, length-drop, length-take}
use lib.Seq.{drop-drop}
use borrow.Author.Tests.{ne_eqb}
use Rattle.std.specs.Prelude.{Option, Some, None}
use Rattle.lists.proofs.Loans.{rest_part}
use Rattle.characters.specs.Says.{met, char_of, said_by, said_at, says_after, says}
use Rattle.lists.proofs.Cases.{zero-not-one}
use Rattle.slices.proofs.Bytes.{byte-take}
use Rattle.characters.proofs.Units.{not-some, pair-parts, unit-some, unit-inside, unit-front}

pub said-some : (b : ℕ) (t : List ℕ) → said_at (b ∷ t) ≡ said_by (char_of (met (b ∷ t)))
unfolding said_at
said-some b t = simp (ne_eqb (suc (length t)) 0 (λ z. omega arith))

skip : (k : ℕ) (v : List ℕ) → says_after k v ≡ says_after 0 (drop k v)
unfolding says_after
skip zero v = refl
skip (suc k) [] = refl
skip (suc k) (b ∷ t) = skip k t

pub says-char : (v : List ℕ) (c n : ℕ) → 0 < length v → said_at v ≡ Some (c, n) → 1 ≤ n → says v ≡ c ∷ says (drop n v)
unfolding says says_after
says-char [] c n p q m = absurd (omega arith)
says-char (b ∷ t) c zero p q m = absurd (omega arith)
says-char (b ∷ t) c (suc n) p q m = rw (says_after, q) (ap (λ (l : List ℕ). c ∷ l) (skip n t))

pub says-over : (v : List ℕ) → said_at v ≡ None → says v ≡ []
unfolding says says_after
says-over [] q = refl
says-over (b ∷ t) q = rw (says_after, q)

pub says_none : says [] ≡ []
unfolding says says_after
says_none = refl

-- x is what the call of `said_at` on `&v[i..]` answered
module _ (v : List ℕ) (i : ℕ) {x : Option (ℕ × ℕ)} (e : x ≡ said_at (take (length v - i) (drop i v))) where
  seen : said_at (drop i v) ≡ x
  seen = sym (e ∙ ap said_at (rest_part i v))

  pub said-char : {c n : ℕ} → i < length v → x ≡ Some (c, n) → 1 ≤ n → says (drop i v) ≡ c ∷ says (drop (i + n) v)
  said-char {c} {n} h q m = rw (← drop-drop n i v) (says-char (drop i v) c n (rw length-drop (omega arith)) (seen ∙ q) m)

  pub said-over : x ≡ None → says (drop i v) ≡ []
  said-over q = says-over (drop i v) (seen ∙ q)

pub said-end : (v : List ℕ) (i : ℕ) → length v ≤ i → says (drop i v) ≡ []
said-end v i h = rw (drop_of_length-le v h) says_none

-- ---- a value that is not over

module _ (v : List ℕ) (some : 0 < length v) where
  pub said-by : said_at v ≡ said_by (char_of (met v))
  unfolding said_at
  said-by = simp (ne_eqb (length v) 0 (λ z. omega arith))

  pub said-not-over : said_at v ≡ None → ⊥
  unfolding said_by
  said-not-over e = by (char_of (met v)) (sym said-by ∙ e)
    where
      by : (x : Option (ℕ × ℕ)) → said_by x ≡ None → ⊥
      by (Some (c, n)) q = zero-not-one (cc)
      by None q = zero-not-one (cc)

pub said-there : (v : List ℕ) {c n : ℕ} → said_at v ≡ Some (c, n) → 0 < length v
unfolding said_at
said-there [] e = absurd (zero-not-one (cc))
said-there (b ∷ t) e = omega arith

-- what was said, and by what: a unit, or a byte that belongs to none
pub data Uttered (v : List ℕ) (c n : ℕ) : Type 0 where
  unit : char_of (met v) ≡ Some (c, n) → Uttered v c n
  stray : char_of (met v) ≡ None → c ≡ 0 → n ≡ 1 → Uttered v c n

module _ (v : List ℕ) (some : 0 < length v) {c n : ℕ} (e : said_at v ≡ Some (c, n)) where
  pub uttered : Uttered v c n
  unfolding said_by
  uttered = by (char_of (met v)) refl (sym (said-by v some) ∙ e)
    where
      by : (x : Option (ℕ × ℕ)) → char_of (met v) ≡ x → said_by x ≡ Some (c, n) → Uttered v c n
      by (Some x) q f = unit (q ∙ f)
      by None q f = let p = pair-parts f in stray q (sym p.0) (sym p.1)

  pub said-some-bytes : 1 ≤ n
  said-some-bytes = by uttered
    where
      by : Uttered v c n → 1 ≤ n
      by (unit q) = unit-some v q
      by (stray q z o) = omega (arith, o)

  pub said-inside : n ≤ length v
  said-inside = by uttered
    where
      by : Uttered v c n → n ≤ length v
      by (unit q) = unit-inside v q
      by (stray q z o) = omega (arith, o)

  -- the same is said first where only later bytes are cut off
  pub said-cut : (m : ℕ) → n ≤ m → said_at (take m v) ≡ Some (c, n)
  unfolding said_by
  said-cut m l = by uttered
    where
      long : 0 < length (take m v)
      long = rw length-take (let k = said-some-bytes in omega arith)

      cut-none : (x : Option (ℕ × ℕ)) → char_of (met v) ≡ None → char_of (met (take m v)) ≡ x → x ≡ None
      cut-none None q f = refl
      cut-none (Some (d, k)) q f =
          let most : k ≤ m = omega (arith, unit-inside (take m v) f, length-take m v) in
          let inside : k ≤ length v = omega (arith, unit-inside (take m v) f, length-take m v) in
          let whole = unit-front (take m v) f v inside (λ i g. byte-take v m i (omega arith)) in
          absurd (not-some (sym q ∙ whole))

      by : Uttered v c n → said_at (take m v) ≡ Some (c, n)
      by (unit q) = said-by (take m v) long
          ∙ ap said_by (unit-front v q (take m v) (rw length-take (let k = unit-inside v q in omega arith)) (λ i g. sym (byte-take v m i (omega arith))))
      by (stray q z o) = said-by (take m v) long ∙ ap said_by (cut-none (char_of (met (take m v))) q refl) ∙ ap (λ (k : ℕ). Some (k, 1)) (sym z) ∙ ap (λ (k : ℕ). Some (c, k)) (sym o)
