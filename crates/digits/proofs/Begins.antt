-- Where the items begin, where nothing is changed up to five bytes behind that place: the same place. Assumes nothing.
use Prim.Native.Nat.{ℕ, ◌+◌, ◌≤◌, ◌<◌}
use mathlib.Core.Path.{◌≡◌, refl, sym, ◌∙◌}
use mathlib.Core.List.{List, [], ◌∷◌}
use mathlib.Core.Bool.{Bool, true, false, cond}
use mathlib.Core.Logic.{⊎_elim}
use native.Mathlib.Omega.{arith}
use lib.Dec.{eqb}
use lib.ListN.{length, drop, length-drop}
use borrow.Author.Tests.{eqb-true}
use Rattle.std.specs.Prelude.{Result, Ok, Err}
use Rattle.lists.proofs.Cases.{bool_cases, by_cond, zero-not-one}
use Rattle.slices.specs.Bytes.{byte}
use Rattle.slices.specs.Run.{run}
use Rattle.slices.specs.Same.{same, begins}
use Rattle.slices.specs.Text.{text}
use Rattle.attributes.specs.Names.{name_start, white}
use Rattle.slices.specs.Part.{part_of}
use Rattle.attributes.specs.Attribute.{attribute, piece_after, piece}
use Rattle.attributes.specs.declared.Piece.{Piece}
use Rattle.attributes.specs.declared.Piece.TheVariants.{Attribute, Close, CloseEmpty, Torn}
use Rattle.slices.proofs.Bytes.{byte-there, byte-drop}
use Rattle.prolog.specs.Prolog.{utf, declared_by, declared, encoded_by, encoded, declaration_by, declaration, mark_len, behind_mark, begin_after, begin}
use Rattle.slices.proofs.Near.{Front, front-drop, long-drop, begins-near}
use Rattle.digits.proofs.Spans.{PieceLaid, piece-laid}
use Rattle.digits.proofs.Pieces.{white-near, part-front, piece-whole}

-- a choice that is not the second one is the first
reached : {A : Type 0} {a b c : A} (t : Bool) → (b ≡ c → ⊥) → cond t a b ≡ c → (t ≡ true) × (a ≡ c)
reached true other e = (refl, e)
reached false other e = absurd (other e)

not-from : (p k : ℕ) → Err p ≡ Ok k → ⊥
not-from p k e = zero-not-one (cc)

-- no attribute begins with `?`
torn-at : (l : List ℕ) → byte l (run white l) ≡ 0x3F → piece l ≡ Torn
unfolding piece piece_after attribute name_start
torn-at l e = rw e (by_cond (λ (z : Piece). z ≡ Torn) (eqb (run white l) 0) refl refl)

-- y is long enough where x is
module _ (before : ℕ) (x y : List ℕ) (k : ℕ) (long : k ≤ length x → k ≤ length y) (f : Front x y k) where
  -- the end of the declaration
  pub record Shut (a : ℕ) : Type 0 where
    pub low : a ≤ k
    pub inside : k ≤ length x
    pub mark : byte (drop a y) (run white (drop a y)) ≡ 0x3F
    pub ends : declared before y a ≡ Ok k

  declared_same : (a : ℕ) → declared before x a ≡ Ok k → Shut a
  unfolding declared declared_by
  declared_same a q =
      let e = a + run white (drop a x) in
      let p = reached (eqb (byte x e) 0x3F) (not-from before k) q in
      let u = reached (eqb (byte x (e + 1)) 0x3E) (not-from before k) p.1 in
      let z : e + 2 ≡ k = cc in
      let w = white-near x y a (λ i l. f i (omega arith)) in
      record {
        low = omega arith;
        inside = let there = byte-there x (e + 1) (sym (eqb-true _ _ u.0)) (omega arith) in omega arith;
        mark = rw w (byte-drop y a (run white (drop a x)) ∙ sym (f e (omega arith)) ∙ eqb-true _ _ p.0);
        ends = rw (w, ← f e (omega arith), p.0, ← f (e + 1) (omega arith), u.0) u.1;
      }

  -- a part of what stands behind a bytes
  part-behind : k ≤ length x → (a at n : ℕ) → a + at + n ≤ k → part_of (drop a y) at n ≡ part_of (drop a x) at n
  part-behind lx a at n h =
      let ly = long lx in
      part-front (drop a x) (drop a y) (at + n) (rw (length-drop a x) (omega arith)) (rw (length-drop a y) (omega arith))
      (front-drop x y a (at + n) (λ j l. f j (omega arith))) at n (omega arith)

  -- the attribute behind a bytes
  piece-behind : k ≤ length x → (a w n v m e : ℕ) → piece (drop a x) ≡ Attribute w n v m e → PieceLaid (drop a x) (Attribute w n v m e) → a + e ≤ k
      → piece (drop a y) ≡ Attribute w n v m e
  unfolding PieceLaid
  piece-behind lx a w n v m e q l h =
      let ly = long lx in
      piece-whole (drop a x) (drop a y) w n l.0 m (rw (length-drop a y) (omega (arith, l.1, l.2))) l.3
      (front-drop x y a (l.0 + 1 + (m + 1)) (λ i b. f i (omega (arith, l.1, l.2)))) ∙ q

  encoded-by : (a : ℕ) (p : Piece) → piece (drop a x) ≡ p → PieceLaid (drop a x) p → encoded_by before x a p ≡ Ok k → (encoded before y a ≡ Ok k) × (a ≤ k) × (k ≤ length x)
  unfolding encoded encoded_by PieceLaid
  encoded-by a (Attribute w n v m e) is l q =
      let name = reached (same (part_of (drop a x) w n) (text "encoding")) (not-from before k) q in
      let value = reached (utf (part_of (drop a x) v m)) (not-from before k) name.1 in
      let end = declared_same (a + e) value.1 in
      let low = end.low in
      let en = part-behind end.inside a w n (omega (arith, l.1, l.2, l.3.behind)) in
      let ev = part-behind end.inside a v m (omega (arith, l.2)) in
      (rw (piece-behind end.inside a w n v m e is l low) (rw (en, name.0, ev, value.0) end.ends), omega arith, end.inside)
  encoded-by a (Close n) is l q = let s = declared_same a q in (rw (torn-at (drop a y) s.mark) s.ends, s.low, s.inside)
  encoded-by a (CloseEmpty n) is l q = let s = declared_same a q in (rw (torn-at (drop a y) s.mark) s.ends, s.low, s.inside)
  encoded-by a Torn is l q = let s = declared_same a q in (rw (torn-at (drop a y) s.mark) s.ends, s.low, s.inside)

  declaration-by : (p : Piece) → piece (drop 5 x) ≡ p → PieceLaid (drop 5 x) p → declaration_by before x p ≡ Ok k → (declaration before y ≡ Ok k) × (k ≤ length x) × (5 ≤ k)
  unfolding declaration declaration_by encoded PieceLaid
  declaration-by (Attribute w n v m e) is l q =
      let name = reached (same (part_of (drop 5 x) w n) (text "version")) (not-from before k) q in
      let value = reached (same (part_of (drop 5 x) v m) (text "1.0")) (not-from before k) name.1 in
      let rest = encoded-by (5 + e) (piece (drop (5 + e) x)) refl (piece-laid (drop (5 + e) x)) value.1 in
      let en = part-behind rest.2 5 w n (omega (arith, l.1, l.2, l.3.behind, rest.1)) in
      let ev = part-behind rest.2 5 v m (omega (arith, l.2, rest.1)) in
      (rw (piece-behind rest.2 5 w n v m e is l rest.1) (rw (en, name.0, ev, value.0) rest.0), rest.2, omega (arith, rest.1))
  declaration-by (Close n) is l q = absurd (not-from before k q)
  declaration-by (CloseEmpty n) is l q = absurd (not-from before k q)
  declaration-by Torn is l q = absurd (not-from before k q)

  pub declaration-same : declaration before x ≡ Ok k → (declaration before y ≡ Ok k) × (k ≤ length x) × (5 ≤ k)
  unfolding declaration
  declaration-same q = declaration-by (piece (drop 5 x)) refl (piece-laid (drop 5 x)) q

pub after_same : (m n : ℕ) (x y : Result ℕ ℕ) → ((k : ℕ) → m + k ≡ n → x ≡ Ok k → y ≡ Ok k) → behind_mark m x ≡ Ok n → (behind_mark m y ≡ Ok n) × (m ≤ n)
unfolding behind_mark
after_same m n (Ok k) y h q = let z : m + k ≡ n = cc in (rw (h k z refl) q, omega arith)
after_same m n (Err p) y h q = absurd (not-from p n q)

module _ (x y : List ℕ) (n : ℕ) (long : length x ≡ length y) (f : Front x y (n + 5)) where
  begin-after : (m : ℕ) → begin_after x m ≡ Ok n → begin_after y m ≡ Ok n
  unfolding begin_after
  begin-after m q =
      ⊎_elim
      (λ (t : begins (text "<?xml") (drop m x) ≡ true).
      let a = after_same m n (declaration m (drop m x)) (declaration m (drop m y)) rest (rw t at q) in rw (marks a.1, t) a.0)
      (λ (t : begins (text "<?xml") (drop m x) ≡ false).
      let z : ◌≡◌ {A = Result ℕ ℕ} (Ok m) (Ok n) = rw t at q in let e : m ≡ n = cc in rw (marks (omega arith), t) z)
      (bool_cases (begins (text "<?xml") (drop m x)))
    where
      marks : m ≤ n → begins (text "<?xml") (drop m y) ≡ begins (text "<?xml") (drop m x)
      marks l = begins-near (text "<?xml") (drop m x) (drop m y) (long-drop x y m long) (front-drop x y m 5 (λ i g. f i (omega arith)))

      rest : (k : ℕ) → m + k ≡ n → declaration m (drop m x) ≡ Ok k → declaration m (drop m y) ≡ Ok k
      rest k e z =
          let l = long-drop x y m long in
          (declaration-same m (drop m x) (drop m y) k (λ z. omega arith) (front-drop x y m k (λ i g. f i (omega arith))) z).0

  -- the items begin at n
  pub begin-same : begin x ≡ Ok n → begin y ≡ Ok n
  unfolding begin mark_len
  begin-same q = rw (begins-near (0xEF ∷ 0xBB ∷ 0xBF ∷ []) x y long (λ i g. f i (omega arith))) (begin-after (mark_len x) q)
