-- The number of a reference, counted up to 110000 alone: what is no character stays none. Assumes nothing.
use Prim.Native.Nat.{ℕ, suc, ◌+◌, ◌*◌, ◌≤◌, ◌<◌}
use mathlib.Core.Path.{◌≡◌, refl, sym, ap, ◌∙◌}
use mathlib.Core.List.{List, [], ◌∷◌}
use mathlib.Core.Bool.{Bool, true, false, cond}
use mathlib.Core.Logic.{⊎_elim}
use native.Mathlib.Omega.{arith}
use native.Mathlib.Numerals.{add-one}
use lib.Dec.{ltb}
use lib.ListN.{length, get_or, take, drop, drop_of_length-le}
use lib.Seq.{drop-cons}
use borrow.Author.Tests.{le-leb, lt-leb, le-ltb, eq-eqb, ne_eqb}
use Rattle.std.specs.Prelude.{Some, None}
use Rattle.lists.proofs.Cases.{ltb-cases}
use Rattle.slices.specs.Bytes.{byte}
use Rattle.slices.specs.Part.{part_of}
use Rattle.slices.specs.Run.{run}
use Rattle.characters.specs.References.{within, xml_char, ref_digit, base, digit_value, number_by, char_by, numbered_to, numbered_at, capped}

pub capped-most : (n : ℕ) → capped n ≤ 0x110000
unfolding capped
capped-most n = ⊎_elim (λ y. rw y.1 (omega (arith, y.0))) (λ y. rw y.1 (omega arith)) (ltb-cases n 0x110000)

kept : (n : ℕ) → n ≤ 0x110000 → capped n ≡ n
unfolding capped
kept n m = ⊎_elim (λ y. rw y.1) (λ y. rw y.1 (omega (arith, y.0))) (ltb-cases n 0x110000)

-- a number that is capped stays past the last character
capped-more : (hex : Bool) (n d : ℕ) → capped (capped n * base hex + d) ≡ capped (n * base hex + d)
unfolding capped base
capped-more hex n d = ⊎_elim (λ y. rw y.1) (λ y. rw y.1 (past hex y.0)) (ltb-cases n 0x110000)
  where
    past : (hex : Bool) → 0x110000 ≤ n
        → cond (ltb (0x110000 * cond hex 16 10 + d) 0x110000) (0x110000 * cond hex 16 10 + d) 0x110000
        ≡ cond (ltb (n * cond hex 16 10 + d) 0x110000) (n * cond hex 16 10 + d) 0x110000
    past true h = rw (le-ltb (0x110000 * 16 + d) 0x110000 (omega arith), le-ltb (n * 16 + d) 0x110000 (omega arith))
    past false h = rw (le-ltb (0x110000 * 10 + d) 0x110000 (omega arith), le-ltb (n * 10 + d) 0x110000 (omega arith))

number-capped : (hex : Bool) (n : ℕ) (t : List ℕ) → capped (number_by hex (capped n) t) ≡ capped (number_by hex n t)
unfolding number_by
number-capped hex n [] = kept (capped n) (capped-most n)
number-capped hex n (b ∷ t) =
    sym (number-capped hex (capped n * base hex + digit_value b) t)
    ∙ ap (λ (k : ℕ). capped (number_by hex k t)) (capped-more hex n (digit_value b))
    ∙ number-capped hex (n * base hex + digit_value b) t

-- the loop over the digits l of a number: i are counted, and n is what they say, capped
pub record Counted (hex : Bool) (l : List ℕ) (n i : ℕ) : Type 0 where
  pub most : n ≤ 0x110000
  pub left : capped (number_by hex n (drop i l)) ≡ capped (number_by hex 0 l)

module _ {hex : Bool} {l : List ℕ} where
  pub counted_start : Counted hex l 0 0
  counted_start = record { most = omega arith; left = refl }

  module _ {n i : ℕ} (w : Counted hex l n i) where
    -- b, d and m are what the code answered: the base, the digit's value, and what is counted on
    pub counted-more : {b d m : ℕ} → i < length l → b ≡ base hex → d ≡ digit_value (get_or l i 0) → m ≡ capped (n * b + d) → Counted hex l m (i + 1)
    unfolding number_by
    counted-more {b} {d} {m} h e f g =
        record {
          most = rw g (capped-most (n * b + d));
          left =
              rw (g, e, f, add-one i) (number-capped hex (n * base hex + digit_value (get_or l i 0)) (drop (suc i) l))
              ∙ (rw (drop-cons l i 0 h) at w.left);
        }

    pub counted-end : length l ≤ i → n ≡ capped (number_by hex 0 l)
    unfolding number_by
    counted-end h = sym (kept n w.most) ∙ (rw (drop_of_length-le l h) at w.left)

-- and where nothing is counted on there is no character
xml-past : (c : ℕ) → 0x110000 ≤ c → xml_char c ≡ false
unfolding xml_char within
xml-past c h =
    rw (
      ne_eqb c 0x9 (omega arith),
      ne_eqb c 0xA (omega arith),
      ne_eqb c 0xD (omega arith),
      le-leb 0x20 c (omega arith),
      lt-leb c 0xD7FF (omega arith),
      le-leb 0xE000 c (omega arith),
      lt-leb c 0xFFFD (omega arith),
      le-leb 0x10000 c (omega arith),
      lt-leb c 0x10FFFF (omega arith),
    )

pub char-capped : (c n : ℕ) → char_by (capped c) n ≡ char_by c n
unfolding char_by capped
char-capped c n = ⊎_elim (λ y. rw y.1) (λ y. rw (y.1, xml-past c y.0, xml-past 0x110000 (omega arith))) (ltb-cases c 0x110000)

module _ (hex : Bool) (from : ℕ) (s : List ℕ) {n c : ℕ} (e : n ≡ run (ref_digit hex) (drop from s)) (some : n ≡ 0 → ⊥) (ends : byte s (from + n) ≡ 0x3B)
    (counted : c ≡ capped (number_by hex 0 (take n (drop from s)))) where
  -- n digits and `;`, and c is what is counted of them
  numbered-by : numbered_at hex from s ≡ char_by c (from + n + 1)
  unfolding numbered_at numbered_to part_of
  numbered-by =
      rw (← e, ne_eqb n 0 some, eq-eqb (byte s (from + n)) 0x3B ends)
      (sym (char-capped (number_by hex 0 (take n (drop from s))) (from + n + 1)) ∙ ap (λ (k : ℕ). char_by k (from + n + 1)) (sym counted))

  pub numbered-char : xml_char c ≡ true → Some (c, from + n + 1) ≡ numbered_at hex from s
  unfolding char_by
  numbered-char t = sym (numbered-by ∙ rw t)

  pub numbered-none : xml_char c ≡ false → None ≡ numbered_at hex from s
  unfolding char_by
  numbered-none t = sym (numbered-by ∙ rw t)
