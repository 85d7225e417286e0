-- A value between its quotes, whatever is behind them, and between the other quotes. Assumes nothing.
use Prim.Native.Nat.{ℕ, zero, suc, pred, ◌+◌, ◌<◌}
use mathlib.Core.Path.{◌≡◌, refl, sym, ap, ◌∙◌}
use mathlib.Core.List.{List, [], ◌∷◌, ◌++◌, append_assoc}
use mathlib.Core.Bool.{true, false}
use mathlib.Core.Logic.{⊎_elim}
use native.Mathlib.Omega.{arith}
use lib.Dec.{eqb}
use lib.ListN.{length, length-append, get_or-append}
use lib.Seq.{get_or-append_seam}
use borrow.Author.Tests.{le-ltb, lt-ltb, eq-eqb, ne_eqb}
use Rattle.std.specs.Prelude.{Option, Some, None}
use Rattle.lists.proofs.Cases.{bool_cases, eqb-cases, zero-not-one}
use Rattle.slices.specs.Bytes.{byte}
use Rattle.slices.specs.Walk.{go, stop, walk}
use Rattle.slices.proofs.Firsts.{first_by}
use Rattle.characters.specs.Utf8.{char_at}
use Rattle.characters.specs.Says.{standing, met}
use Rattle.characters.proofs.Low.{char-low}
use Rattle.characters.proofs.Units.{unit-some}
use Rattle.attributes.specs.Attribute.{quote, fit, standing_next, value_next, value_over, value, plain}
use Rattle.attributes.proofs.Values.{met-amp, met-other, quote-range, plain_step}
use Rattle.escapes.proofs.Values.{Next, ended, passed, value-next, value-from}
use Rattle.digits.proofs.Near.{met-front, value_from, value-near}
use Rattle.likeness.specs.Alike.{Quoted, Without}

small : (q : ℕ) → quote q ≡ true → q < 0x80
small q e = let r = quote-range q e in omega (arith, r.1)

pub value_on : (q : ℕ) (v r : List ℕ) → quote q ≡ true → Quoted q v → value q (v ++ (q ∷ r)) ≡ Some (length v)
unfolding byte
value_on q v r t e =
    let u = v ++ (q ∷ []) in
    let long : length u ≡ length v + 1 = length-append v (q ∷ []) in
    ap (value q) (sym (append_assoc v (q ∷ []) r))
    ∙ value-near q (small q t) u (u ++ r) (length v) (omega (arith, length-append u r)) e (λ i l. sym (get_or-append u r 0 i (omega arith)))

-- ---- the other quotes

module _ (q q' : ℕ) (t : quote q ≡ true) (t' : quote q' ≡ true) where
  -- the closing quote
  quote-step : (at : ℕ) (s : List ℕ) → byte s 0 ≡ q' → value_next q' at (met s) ≡ stop (Some at)
  unfolding plain
  quote-step at s e =
      let r = quote-range q' t' in
      let p : plain (byte s 0) ≡ true =
      rw (le-ltb (byte s 0) 0x20 (omega (arith, r.0)), ne_eqb (byte s 0) 0x3C (λ z. omega (arith, r.1, z)), ne_eqb (byte s 0) 0x26 (λ z. r.2 (sym e ∙ z)), lt-ltb (byte s 0) 0x80 (omega (arith, r.1))) in
      plain_step q' at s p ∙ rw (eq-eqb (byte s 0) q' e)

  -- what is passed over between quotes q is passed over between quotes q'
  step_other : (at n to : ℕ) (s : List ℕ) → (byte s 0 ≡ q' → ⊥) → value_next q at (met s) ≡ go n to → value_next q' at (met s) ≡ go n to
  unfolding value_next standing_next
  step_other at n to s free e =
      ⊎_elim
      (λ (a : (byte s 0 ≡ 0x26) × (eqb (byte s 0) 0x26 ≡ true)). rw (met-amp s a.0) (rw (met-amp s a.0) at e))
      (λ (a : (byte s 0 ≡ 0x26 → ⊥) × (eqb (byte s 0) 0x26 ≡ false)). rw (met-other s a.0) (by (char_at s) refl (rw (met-other s a.0) at e)))
      (eqb-cases (byte s 0) 0x26)
    where
      by : (z : Option (ℕ × ℕ)) → char_at s ≡ z → value_next q at (standing z) ≡ go n to → value_next q' at (standing z) ≡ go n to
      by None g f = absurd (zero-not-one (cc))
      by (Some (d, k)) g f =
          ⊎_elim
          (λ (y : fit d ≡ true).
          ⊎_elim
          (λ (u : (d ≡ q) × (eqb d q ≡ true)). let z = rw (y, u.1) at f in absurd (zero-not-one (cc)))
          (λ (u : (d ≡ q → ⊥) × (eqb d q ≡ false)).
          rw (y, ne_eqb d q' (λ z. free ((char-low s g (let h = small q' t' in omega (arith, z))).0 ∙ z))) (rw (y, u.1) at f))
          (eqb-cases d q))
          (λ (y : fit d ≡ false). let z = rw y at f in absurd (zero-not-one (cc)))
          (bool_cases (fit d))

  other : (x y : List ℕ) (k at m : ℕ) → m + k < at + length y → value_from q (small q t) at k x ≡ Some m
      → ((i : ℕ) → i + at < m + k → (byte x i ≡ byte y i) × (byte x i ≡ q' → ⊥)) → ((i : ℕ) → i + at ≡ m + k → byte y i ≡ q')
      → value_from q' (small q' t') at k y ≡ Some m
  unfolding walk value_over byte
  other [] y k at m l e h c = absurd (zero-not-one (cc))
  other (b ∷ x) [] k at m l e h c = let r = value-from q (small q t) (b ∷ x) k at m e in absurd (omega arith)
  other (b ∷ x) (d ∷ y) (suc k) at m l e h c = other x y k at m (omega arith) e (λ i g. h (suc i) (omega arith)) (λ i g. c (suc i) (omega arith))
  other (b ∷ x) (d ∷ y) zero at m l e h c = by (value-next q (small q t) at b x m e) (other x y)
    where
      by : Next q (small q t) at b x m
          → ((k at m : ℕ) → m + k < at + length y → value_from q (small q t) at k x ≡ Some m
          → ((i : ℕ) → i + at < m + k → (byte x i ≡ byte y i) × (byte x i ≡ q' → ⊥)) → ((i : ℕ) → i + at ≡ m + k → byte y i ≡ q')
          → value_from q' (small q' t') at k y ≡ Some m)
          → value_from q' (small q' t') at zero (d ∷ y) ≡ Some m
      by (ended g u s z) f = rw (walk, quote-step at (d ∷ y) (c 0 (omega arith))) (ap Some z)
      by (passed ch n g s z) f =
          let r = value-from q (small q t) x (pred n) (at + n) m z in
          let u = unit-some (b ∷ x) g in
          rw (walk, met-front (b ∷ x) (d ∷ y) g (omega arith) (λ i v. (h i (omega arith)).0), step_other at n (at + n) (b ∷ x) (h 0 (omega arith)).1 s)
          (f (pred n) (at + n) m (omega arith) z (λ i v. h (suc i) (omega arith)) (λ i v. c (suc i) (omega arith)))

without-each : (q : ℕ) (v : List ℕ) → Without q v → (i : ℕ) → i < length v → byte v i ≡ q → ⊥
unfolding byte
without-each q [] w i l e = omega arith
without-each q (b ∷ v) w zero l e = let z = first_by q b v (eq-eqb q b (sym e)) in omega (arith, z)
without-each q (b ∷ v) w (suc i) l e =
    ⊎_elim
    (λ (y : (q ≡ b) × (eqb q b ≡ true)). let z = first_by q b v y.1 in omega (arith, z))
    (λ (y : (q ≡ b → ⊥) × (eqb q b ≡ false)). let z = first_by q b v y.1 in without-each q v (omega arith) i (omega arith) e)
    (eqb-cases q b)

pub quoted-other : (q q' : ℕ) (v : List ℕ) → quote q ≡ true → quote q' ≡ true → Quoted q v → Without q' v → Quoted q' v
unfolding value byte
quoted-other q q' v t t' e w =
    let long = length-append v (q' ∷ []) in
    other q q' t t' (v ++ (q ∷ [])) (v ++ (q' ∷ [])) 0 0 (length v) (omega arith) e
    (λ i l.
    let g : i < length v = omega arith in
    let a = get_or-append v (q ∷ []) 0 i g in
    (a ∙ sym (get_or-append v (q' ∷ []) 0 i g), λ z. without-each q' v w i g (sym a ∙ z)))
    (λ i l. let z : i ≡ length v = omega arith in ap (byte (v ++ (q' ∷ []))) z ∙ get_or-append_seam v q' [] 0)
