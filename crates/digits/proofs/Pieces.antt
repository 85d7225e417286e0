-- The piece of a tag at the front of two lists is the same where its bytes are, its value left aside. Assumes nothing.
use Prim.Native.Nat.{ℕ, zero, suc, ◌+◌, ◌≤◌, ◌<◌}
use mathlib.Core.Path.{◌≡◌, refl, sym, ap, ◌∙◌}
use mathlib.Core.List.{List, [], ◌∷◌, ◌++◌}
use mathlib.Core.Bool.{true, false}
use mathlib.Core.Logic.{⊎_elim}
use native.Mathlib.Omega.{arith}
use lib.Dec.{eqb}
use lib.ListN.{length, take, drop, length-append, length-drop}
use lib.Seq.{length-take-le, split_at}
use Rattle.std.specs.Prelude.{Some}
use Rattle.lists.proofs.Cases.{bool_cases}
use Rattle.slices.specs.Bytes.{byte}
use Rattle.slices.specs.Part.{part_of}
use Rattle.slices.specs.Run.{run}
use Rattle.attributes.specs.Names.{name_byte, white}
use Rattle.attributes.specs.Attribute.{quote, value, opening_from, opening, attribute_quote, attribute_name, attribute, piece_after, piece}
use Rattle.attributes.specs.declared.Piece.TheVariants.{Close, CloseEmpty}
use Rattle.attributes.proofs.Values.{quote-range}
use Rattle.slices.proofs.Bytes.{byte-there, byte-drop}
use Rattle.digits.specs.Unseen.{Unseen}
use Rattle.slices.proofs.Near.{Front, front-drop, run-near, take-front}
use Rattle.digits.proofs.Near.{value-closes, value-near}
use Rattle.digits.proofs.Spans.{AttributeLaid, PieceLaid}

none-white : white 0 ≡ false
unfolding white
none-white = refl

none-name : name_byte 0 ≡ false
unfolding name_byte
none-name = refl

-- runs from a place on
pub white-near : (x y : List ℕ) (a : ℕ) → Front x y (a + (run white (drop a x) + 1)) → run white (drop a y) ≡ run white (drop a x)
white-near x y a h = run-near white none-white (drop a x) (drop a y) (front-drop x y a _ h)

pub name-near : (x y : List ℕ) (a : ℕ) → Front x y (a + (run name_byte (drop a x) + 1)) → run name_byte (drop a y) ≡ run name_byte (drop a x)
name-near x y a h = run-near name_byte none-name (drop a x) (drop a y) (front-drop x y a _ h)

-- a part of both, where both are long enough
pub part-front : (x y : List ℕ) (e : ℕ) → e ≤ length x → e ≤ length y → Front x y e → (at n : ℕ) → at + n ≤ e → part_of y at n ≡ part_of x at n
unfolding part_of
part-front x y e lx ly f at n h =
    take-front (drop at y) (drop at x) n (rw (length-drop at y) (omega arith)) (rw (length-drop at x) (omega arith))
    (λ i g. byte-drop y at i ∙ sym (f (at + i) (omega arith)) ∙ sym (byte-drop x at i))

opening-near : (x y : List ℕ) (a : ℕ) → 0 < opening x a → Front x y (opening x a + 1) → opening y a ≡ opening x a
unfolding opening opening_from
opening-near x y a h f =
    let e = a + run white (drop a x) in
    let g = run white (drop (e + 1) x) in
    ⊎_elim
    (λ t.
    let o : opening x a ≡ e + 1 + g = rw t in
    let p = white-near x y a (λ i l. f i (omega arith)) in
    rw (p, ← f e (omega arith), t, white-near x y (e + 1) (λ i l. f i (omega arith))))
    (λ t. let o : opening x a ≡ 0 = rw t in absurd (omega arith))
    (bool_cases (eqb (byte x e) 0x3D))

-- ---- a value, and one that R joins to it

quote-small : (q : ℕ) → quote q ≡ true → (q < 0x80) × (0 < q)
quote-small q e = let r = quote-range q e in (omega (arith, r.1), omega (arith, r.0))

prefix-front : (p : List ℕ) (c : ℕ) (r r' : List ℕ) → Front (p ++ c ∷ r) (p ++ c ∷ r') (length p + 1)
unfolding byte
prefix-front [] c r r' zero l = refl
prefix-front [] c r r' (suc i) l = absurd (omega arith)
prefix-front (a ∷ p) c r r' zero l = refl
prefix-front (a ∷ p) c r r' (suc i) l = prefix-front p c r r' i (omega arith)

pub value_same : {R : List ℕ → List ℕ → Type 0} → Unseen R → (q : ℕ) (x y : List ℕ) (m : ℕ) → quote q ≡ true → length x ≡ length y → value q x ≡ Some m
    → R (take m x) (take m y) → byte x m ≡ byte y m → value q y ≡ Some m
unfolding byte
value_same u q x y m t long v r e =
    let small = quote-small q t in
    let c = value-closes q small.0 x m v in
    let l = byte-there x m (sym c) small.1 in
    let a = length-take-le m x (omega arith) in
    let b = length-take-le m y (omega arith) in
    let xs : x ≡ take m x ++ q ∷ drop (suc m) x = split_at x m 0 l ∙ ap (λ (z : ℕ). take m x ++ z ∷ drop (suc m) x) c in
    let ys : y ≡ take m y ++ q ∷ drop (suc m) y = split_at y m 0 (omega arith) ∙ ap (λ (z : ℕ). take m y ++ z ∷ drop (suc m) y) (sym e ∙ c) in
    let w = u.whole r q (drop (suc m) x) t (sym (ap (value q) xs) ∙ v ∙ ap Some (sym a)) in
    let n : length (take m y) < length (take m y ++ q ∷ drop (suc m) y) = rw (length-append (take m y) (q ∷ drop (suc m) y)) (omega arith) in
    ap (value q) ys ∙ value-near q small.0 _ _ (length (take m y)) n w (prefix-front (take m y) q (drop (suc m) x) (drop (suc m) y)) ∙ ap Some b

-- ---- pieces

-- a piece that is an attribute: its bytes up to the value, and a value that ends where it did
module _ (x y : List ℕ) where
  attribute-near : (w n o m : ℕ) → AttributeLaid x w n o m → Front x y (o + 1) → value (byte x o) (drop (o + 1) y) ≡ Some m → attribute y w ≡ attribute x w
  unfolding attribute attribute_name attribute_quote
  attribute-near w n o m a f e =
      let name = name-near x y w (λ i l. f i (omega (arith, a.name, a.behind))) in
      let opens = opening-near x y (w + n) (omega (arith, a.opens, a.behind)) (λ i l. f i (omega (arith, a.opens))) in
      rw (← f w (omega (arith, a.behind)), name, a.name, opens, a.opens, ← f o (omega arith), e, a.value)

  pub piece-near : (w n o m : ℕ) → AttributeLaid x w n o m → Front x y (o + 1) → value (byte x o) (drop (o + 1) y) ≡ Some m → piece y ≡ piece x
  unfolding piece piece_after
  piece-near w n o m a f e =
      let b = a.behind in
      let white : run white y ≡ run white x = white-near x y 0 (λ i l. f i (omega (arith, a.white))) in
      rw (white, a.white, ← f w (omega arith), ← f (w + 1) (omega arith), attribute-near w n o m a f e)

  -- and where its value is the same too
  pub piece-whole : (w n o m : ℕ) → o + 1 + m < length y → AttributeLaid x w n o m → Front x y (o + 1 + (m + 1)) → piece y ≡ piece x
  piece-whole w n o m long a f =
      piece-near w n o m a (λ i l. f i (omega arith))
      (value-near (byte x o) (quote-small (byte x o) a.quotes).0 (drop (o + 1) x) (drop (o + 1) y) m (rw (length-drop (o + 1) y) (omega arith)) a.value
      (front-drop x y (o + 1) (m + 1) f))

  pub close-near : (n : ℕ) → PieceLaid x (Close n) → Front x y n → piece y ≡ Close n
  unfolding piece piece_after PieceLaid
  close-near n h f =
      let w = run white x in
      let white : run white y ≡ w = white-near x y 0 (λ i l. f i (omega (arith, h.0))) in
      rw (white, ← f w (omega (arith, h.0)), h.1, h.0)

  pub empty-near : (n : ℕ) → PieceLaid x (CloseEmpty n) → Front x y n → piece y ≡ CloseEmpty n
  unfolding piece piece_after PieceLaid
  empty-near n h f =
      let w = run white x in
      let white : run white y ≡ w = white-near x y 0 (λ i l. f i (omega (arith, h.0))) in
      rw (white, ← f w (omega (arith, h.0)), h.1, ← f (w + 1) (omega (arith, h.0)), h.2, h.0)
