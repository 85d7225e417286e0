-- Values that differ only in digits outside references, place by place. Assumes nothing.
use Prim.Native.Nat.{ℕ, zero, suc, pred, ◌<◌}
use mathlib.Core.Path.{◌≡◌, refl, ap, ◌∙◌}
use mathlib.Core.List.{List, [], ◌∷◌, ◌++◌}
use mathlib.Core.Bool.{Bool, true, false}
use mathlib.Core.Logic.{◌⊎◌, inl, inr, ⊎_elim, ◌↔◌}
use native.Mathlib.Omega.{arith}
use lib.Dec.{eqb}
use lib.ListN.{length}
use borrow.Author.Tests.{eq-eqb, ne_eqb}
use Rattle.lists.proofs.Cases.{by_cond, never}
use Rattle.slices.specs.Bytes.{byte}
use Rattle.slices.specs.Text.{text}
use Rattle.slices.proofs.Near.{Front}
use Rattle.characters.specs.References.{digit}
use Rattle.numbers.proofs.Reading.{digit-range}
use Rattle.numbers.specs.Alike.{Like}
use Rattle.digits.specs.Outside.{opened, open_at, AlikeFrom, none, same, digits}

-- a digit opens and closes none
opened-digit : (o : Bool) (c : ℕ) → digit c ≡ true → opened o c ≡ o
unfolding opened
opened-digit o c e = let r = digit-range c e in rw (ne_eqb c 0x26 (λ z. omega arith), ne_eqb c 0x3B (λ z. omega arith))

alike-itself : {o : Bool} (x : List ℕ) → AlikeFrom o x x
alike-itself [] = none
alike-itself {o = o} (b ∷ x) = same b (alike-itself {o = opened o b} x)

-- the same list behind them
pub alike-append : {o : Bool} {x y : List ℕ} (z : List ℕ) → AlikeFrom o x y → AlikeFrom o (x ++ z) (y ++ z)
alike-append z none = alike-itself z
alike-append z (same b r) = same b (alike-append z r)
alike-append z (digits e f r) = digits e f (alike-append z r)

pub alike-sym : {o : Bool} {x y : List ℕ} → AlikeFrom o x y → AlikeFrom o y x
alike-sym none = none
alike-sym (same b r) = same b (alike-sym r)
alike-sym (digits e f r) = digits f e (alike-sym r)

pub alike-length : {o : Bool} {x y : List ℕ} → AlikeFrom o x y → length x ≡ length y
alike-length none = refl
alike-length (same b r) = ap suc (alike-length r)
alike-length (digits e f r) = ap suc (alike-length r)

-- the pointwise form: as long, and at each place the same byte, or two digits where no reference is open
abbrev pub LikeAt : Bool → List ℕ → List ℕ → ℕ → Type 0
LikeAt o x y p = (byte x p ≡ byte y p) ⊎ ((open_at o x p ≡ false) × (digit (byte x p) ≡ true) × (digit (byte y p) ≡ true))

pub alike-by : (o : Bool) (x y : List ℕ) → length x ≡ length y → ((p : ℕ) → p < length x → LikeAt o x y p) → AlikeFrom o x y
unfolding byte open_at
alike-by o [] [] e h = none
alike-by o [] (d ∷ y) e h = absurd (omega arith)
alike-by o (c ∷ x) [] e h = absurd (omega arith)
alike-by o (c ∷ x) (d ∷ y) e h =
    let more : AlikeFrom (opened o c) x y = alike-by (opened o c) x y (omega arith) (λ p q. h (suc p) (omega arith)) in
    ⊎_elim
    (λ (z : c ≡ d). rw (← z) (same c more))
    (λ (z : (o ≡ false) × (digit c ≡ true) × (digit d ≡ true)). rw z.0 (digits z.1 z.2 (rw (opened-digit o c z.1, z.0) at more)))
    (h 0 (omega arith))

alike_at : {o : Bool} {x y : List ℕ} → AlikeFrom o x y → (p : ℕ) → LikeAt o x y p
unfolding byte open_at
alike_at none p = inl refl
alike_at (same b r) zero = inl refl
alike_at (same b r) (suc p) = alike_at r p
alike_at (digits e f r) zero = inr (refl, e, f)
alike_at (digits {c} {d} {x} {y} e f r) (suc p) = rw (opened-digit false c e) (alike_at r p)

pub alike-pointwise : (o : Bool) (x y : List ℕ) → ((length x ≡ length y) × ((p : ℕ) → LikeAt o x y p)) ↔ AlikeFrom o x y
alike-pointwise o x y = (λ h. alike-by o x y h.0 (λ p q. h.1 p), λ r. (alike-length r, alike_at r))

-- the same byte, or two digits
pub alike-byte : {o : Bool} {x y : List ℕ} → AlikeFrom o x y → (p : ℕ) → Like (byte x p) (byte y p)
alike-byte r p = ⊎_elim inl (λ z. inr (z.1, z.2)) (alike_at r p)

-- ---- the bytes of a reference

stays_open : (b : ℕ) → (b ≡ 0x3B → ⊥) → opened true b ≡ true
unfolding opened
stays_open b h = rw (ne_eqb b 0x3B h) (by_cond (λ (t : Bool). t ≡ true) (eqb b 0x26) refl refl)

-- where one is open, they are the same up to the `;` that closes it
alike-open : {o : Bool} {x y : List ℕ} → AlikeFrom o x y → o ≡ true → (n : ℕ) → ((i : ℕ) → suc i < n → byte x i ≡ 0x3B → ⊥) → Front x y n
unfolding byte
alike-open none e n h i l = refl
alike-open (same b r) e n h zero l = refl
alike-open (same b r) e n h (suc i) l =
    alike-open r (ap (λ (t : Bool). opened t b) e ∙ stays_open b (h 0 (omega arith))) (pred n) (λ j k. h (suc j) (omega arith)) i (omega arith)
alike-open (digits p q r) e n h i l = never e

-- and so from its `&` on
pub alike-reference : {o : Bool} {x y : List ℕ} → AlikeFrom o x y → byte x 0 ≡ 0x26 → (n : ℕ) → ((i : ℕ) → suc i < n → byte x i ≡ 0x3B → ⊥) → Front x y n
unfolding byte opened
alike-reference none e n h i l = refl
alike-reference (same b r) e n h zero l = refl
alike-reference (same b r) e n h (suc i) l = alike-open r (rw (eq-eqb b 0x26 e)) (pred n) (λ j k. h (suc j) (omega arith)) i (omega arith)
alike-reference (digits {c} p q r) e n h i l = let d = digit-range c p in absurd (omega arith)

-- ---- of `1&#50;3` the first and the last digit may be others

pub alike-example : AlikeFrom false (text "1&#50;3") (text "4&#50;9")
unfolding opened digit
alike-example = digits refl refl (same 0x26 (same 0x23 (same 0x35 (same 0x30 (same 0x3B (digits refl refl none))))))

-- and 50, which stands for 2, may not
pub open-example : (open_at false (text "1&#50;3") 0 ≡ false) × (open_at false (text "1&#50;3") 3 ≡ true) × (open_at false (text "1&#50;3") 4 ≡ true) × (open_at false (text "1&#50;3") 6 ≡ false)
unfolding opened open_at
open-example = (refl, refl, refl, refl)
