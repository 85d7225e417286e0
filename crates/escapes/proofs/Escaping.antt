-- Escaped texts, a byte at a time. Assumes nothing.
use Prim.Native.Nat.{ℕ, ◌+◌, ◌-◌, ◌*◌, ◌≤◌, ◌<◌, min}
use mathlib.Core.Path.{◌≡◌, refl, ap, sym, ◌∙◌}
use mathlib.Core.List.{List, [], ◌∷◌, ◌++◌, append_assoc}
use native.Mathlib.Omega.{arith}
use lib.Dec.{eqb}
use lib.ListN.{length, drop, get_or, length-append, drop_of_length-le}
use lib.Seq.{sets}
use borrow.Author.Tests.{ne_eqb}
use borrow.Rule.Slice.PartMut.{mid_of, put_mid}
use Rattle.lists.proofs.Cases.{by_cond}
use Rattle.slices.specs.Text.{text}
use Rattle.escapes.specs.Escaped.{escaped_byte, escaped}
use Rattle.escapes.proofs.Putting.{Put, next-byte, put-piece}

-- a byte that needs no reference
pub record Plain (b : ℕ) : Type 0 where
  pub amp : b ≡ 0x26 → ⊥
  pub lt : b ≡ 0x3C → ⊥
  pub quot : b ≡ 0x22 → ⊥
  pub tab : b ≡ 0x09 → ⊥
  pub lf : b ≡ 0x0A → ⊥
  pub cr : b ≡ 0x0D → ⊥

pub plain_byte : {b : ℕ} → Plain b → escaped_byte b ≡ b ∷ []
unfolding escaped_byte
plain_byte {b} p =
    rw (ne_eqb b 0x26 p.amp, ne_eqb b 0x3C p.lt, ne_eqb b 0x22 p.quot, ne_eqb b 0x09 p.tab, ne_eqb b 0x0A p.lf, ne_eqb b 0x0D p.cr)

-- "`&amp;`, `&lt;`, `&quot;`, `&#9;`, `&#10;`, `&#13;`"
pub needed : (escaped_byte 0x26 ≡ text "&amp;") × (escaped_byte 0x3C ≡ text "&lt;") × (escaped_byte 0x22 ≡ text "&quot;")
    × (escaped_byte 0x09 ≡ text "&#9;") × (escaped_byte 0x0A ≡ text "&#10;") × (escaped_byte 0x0D ≡ text "&#13;")
unfolding escaped_byte
needed = (refl, refl, refl, refl, refl, refl)

-- no byte takes more than six
abbrev Few : List ℕ → Type 0
Few l = length l ≤ 6

abbrev Some : List ℕ → Type 0
Some l = 1 ≤ length l

pub byte-most : (b : ℕ) → length (escaped_byte b) ≤ 6
unfolding escaped_byte
byte-most b =
    by_cond Few (eqb b 0x26) (omega arith)
    (by_cond Few (eqb b 0x3C) (omega arith)
    (by_cond Few (eqb b 0x22) (omega arith)
    (by_cond Few (eqb b 0x09) (omega arith)
    (by_cond Few (eqb b 0x0A) (omega arith)
    (by_cond Few (eqb b 0x0D) (omega arith) (omega arith))))))

pub escaped-most : (v : List ℕ) → length (escaped v) ≤ 6 * length v
unfolding escaped
escaped-most [] = omega arith
escaped-most (b ∷ v) = omega (arith, length-append (escaped_byte b) (escaped v), byte-most b, escaped-most v)

-- and each takes one
byte-some : (b : ℕ) → 1 ≤ length (escaped_byte b)
unfolding escaped_byte
byte-some b =
    by_cond Some (eqb b 0x26) (omega arith)
    (by_cond Some (eqb b 0x3C) (omega arith)
    (by_cond Some (eqb b 0x22) (omega arith)
    (by_cond Some (eqb b 0x09) (omega arith)
    (by_cond Some (eqb b 0x0A) (omega arith)
    (by_cond Some (eqb b 0x0D) (omega arith) (omega arith))))))

pub escaped-least : (v : List ℕ) → length v ≤ length (escaped v)
unfolding escaped
escaped-least [] = omega arith
escaped-least (b ∷ v) = omega (arith, length-append (escaped_byte b) (escaped v), byte-some b, escaped-least v)

pub escaped-none : escaped [] ≡ []
unfolding escaped
escaped-none = refl

escaped-cons : (b : ℕ) (v : List ℕ) → escaped (b ∷ v) ≡ escaped_byte b ++ escaped v
unfolding escaped
escaped-cons b v = refl

pub escaped-append : (v w : List ℕ) → escaped (v ++ w) ≡ escaped v ++ escaped w
unfolding escaped
escaped-append [] w = refl
escaped-append (b ∷ v) w = ap (λ (l : List ℕ). escaped_byte b ++ l) (escaped-append v w) ∙ sym (append_assoc (escaped_byte b) (escaped v) (escaped w))

-- ---- the loop
escaped-next : (v : List ℕ) (i : ℕ) → i < length v → escaped (drop i v) ≡ escaped_byte (get_or v i 0) ++ escaped (drop (i + 1) v)
escaped-next v i h = ap escaped (next-byte v i h) ∙ escaped-cons (get_or v i 0) (drop (i + 1) v)

pub escaped-more : (v b₀ b : List ℕ) (at i : ℕ) → Put (escaped v) b₀ b at (escaped (drop i v)) → i < length v → at ≤ length b → (k : ℕ) (l : List ℕ)
    → k ≡ length (escaped_byte (get_or v i 0)) → l ≡ sets (mid_of at (length b - at) b) 0 (escaped_byte (get_or v i 0))
    → Put (escaped v) b₀ (put_mid at (length b - at) b l) (at + k) (escaped (drop (i + 1) v))
escaped-more v b₀ b at i p h r k l ek el =
    let e : at ≡ min at (length b) = omega arith in
    put-piece p (escaped_byte (get_or v i 0)) (escaped-next v i h) e ek el

pub escaped-over : (v : List ℕ) (i : ℕ) → length v ≤ i → escaped (drop i v) ≡ []
escaped-over v i h = ap escaped (drop_of_length-le v h) ∙ escaped-none
