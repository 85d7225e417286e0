-- The shortest form of `v`, and `>` or `/>` with nothing before it, are the pieces that `piece` tells. Assumes nothing.
use Prim.Native.Nat.{ℕ, suc, ◌+◌, ◌-◌, ◌≤◌, ◌<◌}
use mathlib.Core.Path.{◌≡◌, refl, sym, ap, ◌∙◌}
use mathlib.Core.List.{List, [], ◌∷◌}
use mathlib.Core.Bool.{true, false}
use mathlib.Core.Logic.{⊎_elim}
use native.Mathlib.Omega.{arith}
use lib.Dec.{eqb}
use lib.ListN.{length, drop, take}
use borrow.Author.Tests.{le-ltb, lt-ltb, ne_eqb, eqb-true}
use Rattle.std.specs.Prelude.{Some}
use Rattle.lists.proofs.Cases.{bool_cases, leb-cases, ltb-cases, eqb-cases, never, both_true}
use Rattle.slices.specs.Bytes.{byte}
use Rattle.slices.specs.Run.{run}
use Rattle.slices.specs.Text.{text}
use Rattle.slices.specs.Walk.{go, stop, walk}
use Rattle.slices.proofs.Bytes.{byte-there, byte-drop}
use Rattle.slices.proofs.Runs.{run_by}
use Rattle.characters.specs.Says.{met}
use Rattle.attributes.specs.Names.{name_start, name_byte, white}
use Rattle.slices.specs.Part.{part_of}
use Rattle.attributes.specs.Attribute.{quote, plain, value_next, value_over, value, opening_from, opening, attribute_end, attribute_quote, attribute_name, attribute, piece_after, piece}
use Rattle.attributes.specs.declared.Piece.TheVariants.{Attribute, Close, CloseEmpty}
use Rattle.attributes.proofs.Values.{plain_step}
use Rattle.attributes.specs.Short.{common, opens_v, v_upto, v_len}

common-in : (b : ℕ) → common b ≡ true → (0x28 ≤ b) × (b < 0x80) × (b ≡ 0x3C → ⊥)
unfolding common
common-in b e =
    ⊎_elim
    (λ y.
    ⊎_elim
    (λ z. (omega (arith, y.0, z.0), z.0, λ w. omega (arith, y.0, w)))
    (λ z. never (simp (y.1, z.1) at e))
    (ltb-cases b 0x80))
    (λ y.
    ⊎_elim
    (λ z.
    ⊎_elim
    (λ w. (z.0, omega (arith, w.0), λ v. omega (arith, w.0, v)))
    (λ w. never (simp (y.1, z.1, w.1) at e))
    (ltb-cases b 0x3C))
    (λ z. never (simp (y.1, z.1) at e))
    (leb-cases 0x28 b))
    (ltb-cases 0x3C b)

common-plain : (b : ℕ) → common b ≡ true → plain b ≡ true
unfolding plain
common-plain b e =
    let i = common-in b e in
    rw (le-ltb b 0x20 (omega (arith, i.0)), ne_eqb b 0x3C i.2, ne_eqb b 0x26 (λ z. omega (arith, i.0, z)), lt-ltb b 0x80 i.1)

quote-plain : plain 0x22 ≡ true
unfolding plain
quote-plain = refl

-- common bytes up to a double quote are a value
common-value : (u : List ℕ) (at : ℕ) → byte u (run common u) ≡ 0x22 → walk met (value_next 0x22) value_over at 0 u ≡ Some (at + run common u)
unfolding byte walk
common-value [] at e = absurd (omega (arith, e))
common-value (b ∷ t) at e =
    ⊎_elim
    (λ y.
    let i = common-in b y in
    let n : run common (b ∷ t) ≡ suc (run common t) = run_by common b t y in
    let step : value_next 0x22 at (met (b ∷ t)) ≡ go 1 (at + 1) =
    plain_step 0x22 at (b ∷ t) (common-plain b y) ∙ rw (ne_eqb b 0x22 (λ z. omega (arith, i.0, z))) in
    rw (walk, step) (common-value t (at + 1) (rw n at e) ∙ ap Some (rw n (omega arith))))
    (λ d.
    let n : run common (b ∷ t) ≡ 0 = run_by common b t d in
    let q : b ≡ 0x22 = rw n at e in
    let step : value_next 0x22 at (met (b ∷ t)) ≡ stop (Some at) = plain_step 0x22 at (b ∷ t) (rw q quote-plain) ∙ rw q in
    rw (walk, step) (ap Some (rw n (omega arith))))
    (bool_cases (common b))

-- the bytes of ` v="`, one by one
shape : (t : List ℕ) → byte t 0 ≡ 0x20 → byte t 1 ≡ 0x76 → byte t 2 ≡ 0x3D → byte t 3 ≡ 0x22 → t ≡ 0x20 ∷ 0x76 ∷ 0x3D ∷ 0x22 ∷ drop 4 t
unfolding byte
shape [] e f g h = absurd (omega (arith, e))
shape (a ∷ []) e f g h = absurd (omega (arith, f))
shape (a ∷ b ∷ []) e f g h = absurd (omega (arith, g))
shape (a ∷ b ∷ c ∷ []) e f g h = absurd (omega (arith, h))
shape (a ∷ b ∷ c ∷ d ∷ u) e f g h = cc

opened : (u : List ℕ) → piece (0x20 ∷ 0x76 ∷ 0x3D ∷ 0x22 ∷ u) ≡ attribute_end 1 1 4 (value 0x22 u)
unfolding piece piece_after run white attribute name_start attribute_name name_byte opening opening_from attribute_quote quote byte
opened u = refl

opens : (t : List ℕ) → opens_v t ≡ true → t ≡ 0x20 ∷ 0x76 ∷ 0x3D ∷ 0x22 ∷ drop 4 t
unfolding opens_v
opens t e =
    let a = both_true (eqb (byte t 3) 0x22) e in
    let b = both_true (eqb (byte t 2) 0x3D) a.1 in
    let c = both_true (eqb (byte t 1) 0x76) b.1 in
    shape t (eqb-true (byte t 0) 0x20 c.1) (eqb-true (byte t 1) 0x76 c.0) (eqb-true (byte t 2) 0x3D b.0) (eqb-true (byte t 3) 0x22 a.0)

-- what a length of `v` that is not 0 says
upto : (t : List ℕ) {r : ℕ} → r ≡ v_len t → 0 < r → (opens_v t ≡ true) × (byte t (run common (drop 4 t) + 4) ≡ 0x22) × (r ≡ run common (drop 4 t) + 1)
unfolding v_len v_upto
upto t {r} e h =
    ⊎_elim
    (λ y.
    ⊎_elim
    (λ z. (y, z.0, e ∙ simp (y, z.1)))
    (λ z. let f : r ≡ 0 = e ∙ simp (y, z.1) in absurd (omega arith))
    (eqb-cases (byte t (run common (drop 4 t) + 4)) 0x22))
    (λ (d : opens_v t ≡ false). let f : r ≡ 0 = e ∙ rw d refl in absurd (omega arith))
    (bool_cases (opens_v t))

pub v-piece : (t : List ℕ) {r : ℕ} → r ≡ v_len t → 0 < r → piece t ≡ Attribute 1 1 4 (r - 1) (r + 4)
unfolding attribute_end value
v-piece t {r} e h =
    let u = upto t e h in
    let n = run common (drop 4 t) in
    let q : byte (drop 4 t) n ≡ 0x22 = byte-drop t 4 n ∙ ap (byte t) (omega arith) ∙ u.1 in
    let v : value 0x22 (drop 4 t) ≡ Some n = common-value (drop 4 t) 0 q ∙ ap Some (omega arith) in
    let a : n ≡ r - 1 = omega (arith, u.2) in
    let b : 4 + n + 1 ≡ r + 4 = omega (arith, u.2) in
    ap piece (opens t u.0) ∙ opened (drop 4 t) ∙ ap (attribute_end 1 1 4) v ∙ ap (λ (k : ℕ). Attribute 1 1 4 k (4 + n + 1)) a ∙ ap (Attribute 1 1 4 (r - 1)) b

pub v-inside : (t : List ℕ) {r : ℕ} → r ≡ v_len t → 0 < r → r + 4 ≤ length t
v-inside t e h =
    let u = upto t e h in
    omega (arith, u.2, byte-there t (run common (drop 4 t) + 4) (sym u.1) (omega arith))

pub v-name : (t : List ℕ) {r : ℕ} → r ≡ v_len t → 0 < r → part_of t 1 1 ≡ text "v"
unfolding part_of
v-name t e h = ap (λ (l : List ℕ). take 1 (drop 1 l)) (opens t (upto t e h).0)

pub close-piece : (l : List ℕ) → byte l 0 ≡ 0x3E → piece l ≡ Close 1
unfolding piece piece_after run white byte
close-piece [] e = absurd (omega (arith, e))
close-piece (a ∷ t) e = rw e refl

pub empty-piece : (l : List ℕ) → byte l 0 ≡ 0x2F → byte l 1 ≡ 0x3E → piece l ≡ CloseEmpty 2
unfolding piece piece_after run white byte
empty-piece [] e f = absurd (omega (arith, e))
empty-piece (a ∷ []) e f = absurd (omega (arith, f))
empty-piece (a ∷ b ∷ t) e f = rw (e, f) refl
