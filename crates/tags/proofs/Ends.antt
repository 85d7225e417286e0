-- A loop over the pieces of a tag: what `piece_at` found at a place, and how the tag goes on from there. Assumes nothing.
use Prim.Native.Nat.{ℕ, zero, suc, ◌+◌, ◌-◌, ◌≤◌, ◌<◌}
use mathlib.Core.Path.{◌≡◌, refl, sym, ap, ◌∙◌}
use mathlib.Core.List.{List, [], ◌∷◌}
use mathlib.Core.Bool.{Bool, true, false, cond}
use native.Mathlib.Omega.{arith}
use native.Mathlib.Nat.{add-zero}
use lib.ListN.{length, drop, drop_of_length-le, length-drop}
use lib.Seq.{drop-drop}
use lib.Dec.{eqb}
use mathlib.Core.Logic.{⊎_elim}
use borrow.Author.Tests.{ne_eqb}
use Rattle.lists.proofs.Cases.{by_cond, eqb-cases, ltb-cases}
use Rattle.slices.specs.Same.{same}
use Rattle.slices.specs.Text.{text}
use Rattle.slices.specs.Bytes.{byte}
use Rattle.slices.specs.Part.{part_of}
use Rattle.attributes.specs.Attribute.{piece}
use Rattle.attributes.specs.Short.{v_len}
use Rattle.slices.proofs.Bytes.{byte-drop}
use Rattle.attributes.proofs.Short.{v-inside, v-piece, v-name, close-piece, empty-piece}
use Rattle.attributes.specs.declared.Piece.{Piece}
use Rattle.attributes.specs.declared.Piece.TheVariants.{Attribute, Close, CloseEmpty, Torn}
use Rattle.tags.specs.Known.{dtd_name, with_attribute, none_known, absent}
use Rattle.tags.specs.First.{v_use, first_known}
use Rattle.tags.specs.Tail.{Attr, Ends, closed, torn, onto, ends_after, ends, kept_of, tail, shut}
use Rattle.slices.specs.declared.Span.{Span}
use Rattle.tags.specs.declared.Known.{Known}

skip : (k at : ℕ) (l : List ℕ) → ends_after k at l ≡ ends_after 0 (at + k) (drop k l)
unfolding ends_after
skip zero at [] = refl
skip zero at (b ∷ t) = rw add-zero
skip (suc k) at [] = refl
skip (suc k) at (b ∷ t) = skip k (suc at) t ∙ ap (λ (n : ℕ). ends_after 0 n (drop k t)) (omega arith)

-- the attribute that a piece tells of, in the part l that starts at the place `at`
abbrev pub attr : ℕ → List ℕ → ℕ → ℕ → ℕ → ℕ → Attr
attr at l w n v m = record { name = part_of l w n; value = record { start = at + v; len = m } }

at-attribute : (at : ℕ) (l : List ℕ) (w n v m e : ℕ) → 0 < length l → piece l ≡ Attribute w n v m e → 1 ≤ e
    → ends_after 0 at l ≡ onto (attr at l w n v m) (ends_after 0 (at + e) (drop e l))
unfolding ends_after
at-attribute at [] w n v m e p q h = absurd (omega arith)
at-attribute at (b ∷ t) w n v m zero p q h = absurd (omega arith)
at-attribute at (b ∷ t) w n v m (suc e) p q h =
    rw (ends_after, q) (ap (onto (attr at (b ∷ t) w n v m)) (skip e (suc at) t ∙ ap (λ (x : ℕ). ends_after 0 x (drop e t)) (omega arith)))

at-close : (at : ℕ) (l : List ℕ) (n : ℕ) → 0 < length l → piece l ≡ Close n → ends_after 0 at l ≡ closed [] false (at + n)
unfolding ends_after
at-close at [] n p q = absurd (omega arith)
at-close at (b ∷ t) n p q = rw (ends_after, q)

at-empty : (at : ℕ) (l : List ℕ) (n : ℕ) → 0 < length l → piece l ≡ CloseEmpty n → ends_after 0 at l ≡ closed [] true (at + n)
unfolding ends_after
at-empty at [] n p q = absurd (omega arith)
at-empty at (b ∷ t) n p q = rw (ends_after, q)

at-torn : (at : ℕ) (l : List ℕ) → piece l ≡ Torn → ends_after 0 at l ≡ torn
unfolding ends_after
at-torn at [] q = refl
at-torn at (b ∷ t) q = rw (ends_after, q)

-- x is what the call of `piece_at` on the part from i on answered, and t is that part
module _ (s : List ℕ) (i : ℕ) (t : List ℕ) (et : t ≡ drop i s) (x : Piece) (e : x ≡ piece t) where
  seen : piece (drop i s) ≡ x
  seen = ap piece (sym et) ∙ sym e

  pub ends-attribute : (w n v m k : ℕ) → i < length s → x ≡ Attribute w n v m k → 1 ≤ k
      → ends s i ≡ onto (attr i t w n v m) (ends s (i + k))
  unfolding ends
  ends-attribute w n v m k h q p =
      at-attribute i (drop i s) w n v m k (rw length-drop (omega arith)) (seen ∙ q) p
      ∙ ap (λ (l : List ℕ). onto (attr i l w n v m) (ends_after 0 (i + k) (drop k (drop i s)))) (sym et)
      ∙ ap (λ (l : List ℕ). onto (attr i t w n v m) (ends_after 0 (i + k) l)) (drop-drop k i s)

  pub ends_close : (n : ℕ) → i < length s → x ≡ Close n → ends s i ≡ closed [] false (i + n)
  unfolding ends
  ends_close n h q = at-close i (drop i s) n (rw length-drop (omega arith)) (seen ∙ q)

  pub ends-empty : (n : ℕ) → i < length s → x ≡ CloseEmpty n → ends s i ≡ closed [] true (i + n)
  unfolding ends
  ends-empty n h q = at-empty i (drop i s) n (rw length-drop (omega arith)) (seen ∙ q)

  pub ends-torn : x ≡ Torn → ends s i ≡ torn
  unfolding ends
  ends-torn q = at-torn i (drop i s) (seen ∙ q)

pub ends-over : (s : List ℕ) (i : ℕ) → length s ≤ i → ends s i ≡ torn
unfolding ends ends_after
ends-over s i h = rw (drop_of_length-le s h)

-- what is kept of an attribute in front
pub tail-onto : (k : Known) (a : Attr) (x : Ends) → tail k (onto a x) ≡ tail (with_attribute k a.name a.value) x
unfolding tail onto kept_of
tail-onto k a (closed more empty n) = refl
tail-onto k a torn = refl

-- one turn of a loop that keeps attributes: name is what was read as the attribute's name, k and next what is kept before and after it
pub tail-attribute : (s : List ℕ) (i : ℕ) (k : Known) {t : List ℕ} {x : Piece} {w n v m e : ℕ} {name : List ℕ} {next : Known}
    → t ≡ drop i s → x ≡ piece t → i < length s → x ≡ Attribute w n v m e → 1 ≤ e
    → name ≡ part_of t w n → next ≡ with_attribute k name (record { start = i + v; len = m })
    → tail next (ends s (i + e)) ≡ tail k (ends s i)
tail-attribute s i k {t} {x} {w} {n} {v} {m} {e} {name} {next} et ex h q p en ek =
    ap (λ (y : Known). tail y (ends s (i + e))) (ek ∙ ap (λ (y : List ℕ). with_attribute k y (record { start = i + v; len = m })) en)
    ∙ sym (ap (tail k) (ends-attribute s i t et x ex w n v m e h q p) ∙ tail-onto k (attr i t w n v m) (ends s (i + e)))

-- the value of `v` ends before j, where that of each attribute does
pub noted-v : (k : Known) {next : Known} (name : List ℕ) (value : Span) (j : ℕ) → next ≡ with_attribute k name value
    → k.v.start + k.v.len ≤ j → value.start + value.len ≤ j → next.v.start + next.v.len ≤ j
unfolding with_attribute
noted-v k {next} name value j e p q =
    rw e
    (by_cond P (same name (text "v")) q
    (by_cond P (same name (text "codingScheme")) p (by_cond P (dtd_name name) p p)))
  where
    P : Known → Type 0
    P x = x.v.start + x.v.len ≤ j

-- t is the part of the tag from i on, and b what `byte_at` answered there
pub close-tail : (s : List ℕ) (i : ℕ) {t : List ℕ} {b : ℕ} → t ≡ drop i s → b ≡ byte t 0 → b ≡ 0x3E → i < length s
    → shut none_known false (i + 1) ≡ tail none_known (ends s i)
unfolding tail kept_of
close-tail s i {t} et e f h = sym (ap (tail none_known) (ends_close s i t et (piece t) refl 1 h (close-piece t (sym e ∙ f))))

pos : (m : ℕ) → (m ≡ 0 → ⊥) → 0 < m
pos m h = ⊎_elim (λ y. y.0) (λ y. absurd (h (omega (arith, y.0)))) (ltb-cases 0 m)

-- m is what `v_len` answered, u how many bytes that is, and k what is known after them
module _ (i m u : ℕ) (k : Known) (eu : u ≡ v_use m) (ek : k ≡ first_known i m) where
  use-none : eqb m 0 ≡ true → u ≡ 0
  unfolding v_use
  use-none z = eu ∙ ap (λ (x : Bool). cond x 0 (m + 4)) z

  use-some : eqb m 0 ≡ false → u ≡ m + 4
  unfolding v_use
  use-some z = eu ∙ ap (λ (x : Bool). cond x 0 (m + 4)) z

  known-none : eqb m 0 ≡ true → k ≡ none_known
  unfolding first_known
  known-none z = ek ∙ ap (λ (x : Bool). cond x none_known (with_attribute none_known (text "v") (record { start = i + 4; len = m - 1 }))) z

  known_some : eqb m 0 ≡ false → k ≡ with_attribute none_known (text "v") (record { start = i + 4; len = m - 1 })
  unfolding first_known
  known_some z = ek ∙ ap (λ (x : Bool). cond x none_known (with_attribute none_known (text "v") (record { start = i + 4; len = m - 1 }))) z

  pub first-v : k.v.start + k.v.len ≤ i + u
  unfolding none_known absent
  first-v =
      ⊎_elim
      (λ z. rw (known-none z.1) (omega arith))
      (λ z.
      let n : 0 < m = pos m z.0 in
      noted-v none_known (text "v") (record { start = i + 4; len = m - 1 }) (i + u) (known_some z.1) (omega arith) (omega (arith, use-some z.1, n)))
      (eqb-cases m 0)

  module _ (s : List ℕ) {t : List ℕ} (et : t ≡ drop i s) (em : m ≡ v_len t) where
    pub first-inside : u ≤ length t
    first-inside =
        ⊎_elim
        (λ z. omega (arith, use-none z.1))
        (λ z. omega (arith, use-some z.1, v-inside t em (pos m z.0)))
        (eqb-cases m 0)

    pub first_tail : i < length s → tail k (ends s (i + u)) ≡ tail none_known (ends s i)
    first_tail h =
        ⊎_elim
        (λ z. rw (known-none z.1, use-none z.1, add-zero) refl)
        (λ z.
        let n : 0 < m = pos m z.0 in
        rw (use-some z.1)
        (tail-attribute s i none_known et refl h (v-piece t em n) (omega arith) (sym (v-name t em n)) (known_some z.1)))
        (eqb-cases m 0)

    -- with `/>` after it; a and b are the two bytes
    pub first-empty : {a b : ℕ} → 0 < m → a ≡ byte t (m + 4) → a ≡ 0x2F → b ≡ byte t (m + 5) → b ≡ 0x3E → i + (m + 5) < length s
        → shut k true (i + u + 2) ≡ tail k (ends s (i + u))
    unfolding tail kept_of
    first-empty n ea fa eb fb h =
        let x : u ≡ m + 4 = use-some (ne_eqb m 0 (λ e. omega arith)) in
        let l = drop (i + u) s in
        let el : l ≡ drop u t = sym (ap (drop u) et ∙ drop-drop u i s) in
        let p : piece l ≡ CloseEmpty 2 =
        empty-piece l
        (ap (λ (y : List ℕ). byte y 0) el ∙ byte-drop t u 0 ∙ ap (byte t) (omega arith) ∙ sym ea ∙ fa)
        (ap (λ (y : List ℕ). byte y 1) el ∙ byte-drop t u 1 ∙ ap (byte t) (omega arith) ∙ sym eb ∙ fb) in
        sym (ap (tail k) (ends-empty s (i + u) l refl (piece l) refl 2 (omega arith) p))
