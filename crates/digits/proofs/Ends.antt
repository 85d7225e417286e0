-- The attributes of a tag, where bytes differ in values alone: the same names, places and end. Assumes nothing.
use Prim.Native.Nat.{ℕ, zero, suc, pred, ◌+◌, ◌≤◌, ◌<◌}
use mathlib.Core.Path.{◌≡◌, refl, sym, ap, ◌∙◌}
use mathlib.Core.List.{List, [], ◌∷◌}
use mathlib.Core.Bool.{Bool}
use mathlib.Core.Logic.{◌⊎◌, inl, inr, ⊎_elim}
use native.Mathlib.Omega.{arith}
use lib.ListN.{length, drop}
use Rattle.lists.proofs.Cases.{zero-not-one}
use Rattle.slices.specs.Bytes.{byte}
use Rattle.slices.specs.Part.{part_of}
use Rattle.attributes.specs.Attribute.{value, piece}
use Rattle.attributes.specs.declared.Piece.{Piece}
use Rattle.attributes.specs.declared.Piece.TheVariants.{Attribute, Close, CloseEmpty, Torn}
use Rattle.slices.proofs.Bytes.{byte-drop}
use Rattle.tags.specs.Tail.{Attr, closed, onto, ends_after}
use Rattle.tags.proofs.Ends.{attr}
use Rattle.slices.specs.declared.Span.{Span}
use Rattle.digits.specs.Unseen.{Unseen, Or}
use Rattle.digits.specs.Items.{InSpan}
use Rattle.slices.proofs.Near.{Front, long-drop, part-near}
use Rattle.digits.proofs.Spans.{PieceLaid, piece-laid, Within, within_wider, ends_by, ends-by, onto-closed, ends-ordered}
use Rattle.digits.proofs.Pieces.{value_same, piece-near, close-near, empty-near}

-- g is one of the values
unfoldable pub OneOf : Span → List Attr → Type 0
OneOf g [] = ⊥
OneOf g (a ∷ more) = (a.value ≡ g) ⊎ OneOf g more

-- and stands where they do
pub one-behind : (from to : ℕ) (g : Span) (more : List Attr) → Within from to more → OneOf g more → from + 2 < g.start
unfolding Within OneOf
one-behind from to g [] w o = absurd o
one-behind from to g (a ∷ more) w (inl e) = rw e at w.0
one-behind from to g (a ∷ more) w (inr o) = let l = one-behind (a.value.start + a.value.len) to g more w.2 o in omega (arith, l, w.0)

-- g ends before the place `at`, or is one of the values that are left
abbrev pub Left : Span → ℕ → List Attr → Type 0
Left g at more = (g.start + g.len ≤ at) ⊎ OneOf g more

module _ {R : List ℕ → List ℕ → Type 0} (u : Unseen (Or R)) (g : Span) where
  -- from the place `from` of x and y on, up to e, the bytes are equal or lie in g; `at` is the place of their first byte
  abbrev Equal : List ℕ → List ℕ → ℕ → ℕ → ℕ → Type 0
  Equal x y from at e = (i j : ℕ) → j ≡ at + i → from ≤ i → j < e → (byte x i ≡ byte y i) ⊎ InSpan j g

  -- and what stands in g in the one is joined to what stands there in the other
  abbrev Joined : List ℕ → List ℕ → ℕ → Type 0
  Joined x y at = (i : ℕ) → g.start ≡ at + i → Or R (part_of x i g.len) (part_of y i g.len)

  -- an attribute at the front of x, whose value of m bytes is v bytes on, and what is behind its j bytes
  record Here (x y : List ℕ) (at v m j : ℕ) (rest : List Attr) : Type 0 where
    out : (i : ℕ) → i ≤ v + m → (v ≤ i → i < v + m → ⊥) → byte x i ≡ byte y i
    value : Or R (part_of x v m) (part_of y v m)
    left : Left g (at + j) rest

  module _ (x y : List ℕ) (long : length x ≡ length y) (at v m j e : ℕ) (a : Attr) (is : a.value ≡ record { start = at + v; len = m }) (rest : List Attr)
      (size : j ≡ v + m + 1) (end : at + j < e) (after : Within (at + j) e rest) (h : Equal x y zero at e) where
    -- g is none of its places
    off : ((i : ℕ) → i ≤ v + m → InSpan (at + i) g → ⊥) → Left g (at + j) rest → Here x y at v m j rest
    off clear l =
        let same : (i : ℕ) → i ≤ v + m → byte x i ≡ byte y i = λ i b. ⊎_elim (λ q. q) (λ q. absurd (clear i b q)) (h i (at + i) refl (omega arith) (omega arith)) in
        record { out = λ i b c. same i b; value = inl (part-near x y v m long (λ i p q. same i (omega arith))); left = l }

    here : Left g (at + 0) (a ∷ rest) → Joined x y at → Here x y at v m j rest
    unfolding OneOf
    here (inl p) r = off (λ i b q. omega (arith, p, q.1)) (inl (omega arith))
    here (inr (inr o)) r = let l = one-behind (at + j) e g rest after o in off (λ i b q. omega (arith, l, q.0)) (inr o)
    here (inr (inl z)) r =
        let start : g.start ≡ at + v = ap (λ (k : Span). k.start) (sym z ∙ is) in
        let len : g.len ≡ m = ap (λ (k : Span). k.len) (sym z ∙ is) in
        record {
          out = λ i b c. ⊎_elim (λ q. q) (λ q. absurd (c (omega (arith, q.0)) (omega (arith, q.1)))) (h i (at + i) refl (omega arith) (omega arith));
          value = rw len at (r v start);
          left = inl (omega arith);
        }

  pub same_ends : (x y : List ℕ) → length x ≡ length y → (k at : ℕ) (more : List Attr) (empty : Bool) (e : ℕ)
      → ends_after k at x ≡ closed more empty e → Left g (at + k) more → Equal x y k at e → Joined x y at → ends_after k at y ≡ closed more empty e
  unfolding ends_after ends_by onto PieceLaid OneOf byte part_of
  same_ends [] [] long k at more empty e q l h r = q
  same_ends [] (d ∷ y) long k at more empty e q l h r = absurd (omega arith)
  same_ends (c ∷ x) [] long k at more empty e q l h r = absurd (omega arith)
  same_ends (c ∷ x) (d ∷ y) long (suc k) at more empty e q l h r =
      same_ends x y (omega arith) k (suc at) more empty e q (⊎_elim (λ b. inl (omega arith)) inr l) (λ i p z low high. h (suc i) p (omega arith) (omega arith) high)
      (λ i z. r (suc i) (omega arith))
  same_ends (c ∷ x) (d ∷ y) long zero at more empty e q l h r =
      ends-by at d y ∙ by (piece (c ∷ x)) refl (piece-laid (c ∷ x)) (sym (ends-by at c x) ∙ q) (λ k rest. same_ends x y (omega arith) k (suc at) rest empty e)
    where
      -- a tag with no more values
      bare : [] ≡ more → (n : ℕ) → at + n ≡ e → Front (c ∷ x) (d ∷ y) n
      bare none n end i b =
          let l' : Left g (at + 0) [] = rw (← none) at l in
          ⊎_elim (λ z. z) (λ z. absurd (⊎_elim (λ p. omega (arith, p, z.1)) (λ p. p) l')) (h i (at + i) refl (omega arith) (omega arith))

      by : (p : Piece) → piece (c ∷ x) ≡ p → PieceLaid (c ∷ x) p → ends_by at (c ∷ x) x p ≡ closed more empty e
          → ((k : ℕ) (rest : List Attr) → ends_after k (suc at) x ≡ closed rest empty e → Left g (suc at + k) rest → Equal x y k (suc at) e → Joined x y (suc at)
          → ends_after k (suc at) y ≡ closed rest empty e)
          → ends_by at (d ∷ y) y (piece (d ∷ y)) ≡ closed more empty e
      by (Attribute w n v m j) is b z f =
          let a = attr at (c ∷ x) w n v m in
          let laid = b.3 in
          let o = onto-closed a (ends_after (pred j) (suc at) x) more empty e z in
          let t = ends-ordered x (pred j) (suc at) o.0 empty e o.1 in
          let near = here (c ∷ x) (d ∷ y) long at v m j e a refl o.0 b.2 (omega (arith, b.2, t.end)) (within_wider e o.0 (omega (arith, b.2)) t.values) h (rw o.2 at l) r in
          let front : Front (c ∷ x) (d ∷ y) (b.0 + 1) = λ i p. near.out i (omega (arith, b.1)) (λ s s'. omega (arith, b.1)) in
          let close = near.out (v + m) (omega arith) (λ s s'. omega arith) in
          let whole = value_same u (byte (c ∷ x) b.0) (drop (b.0 + 1) (c ∷ x)) (drop (b.0 + 1) (d ∷ y)) m laid.quotes
          (long-drop (c ∷ x) (d ∷ y) (b.0 + 1) long) laid.value (rw b.1 at near.value)
          (byte-drop (c ∷ x) (b.0 + 1) m ∙ rw b.1 at close ∙ sym (byte-drop (d ∷ y) (b.0 + 1) m)) in
          let same = piece-near (c ∷ x) (d ∷ y) w n b.0 m laid front whole ∙ is in
          let name = part-near (c ∷ x) (d ∷ y) w n long (λ i p p'. front i (omega (arith, laid.behind))) in
          let rest = f (pred j) o.0 o.1 (⊎_elim (λ p. inl (omega (arith, p, b.2))) inr near.left) (λ i p q low high. h (suc i) p (omega arith) (omega arith) high)
          (λ i q. r (suc i) (omega arith)) in
          ap (ends_by at (d ∷ y) y) same
          ∙ ap (λ (l : List ℕ). onto (record { name = l; value = a.value }) (ends_after (pred j) (suc at) y)) (sym name)
          ∙ ap (onto a) rest
          ∙ sym (ap (λ (l : List Attr). closed l empty e) o.2)
      by (Close n) is b z f =
          let none : [] ≡ more = cc in
          let end : at + n ≡ e = cc in
          ap (ends_by at (d ∷ y) y) (close-near (c ∷ x) (d ∷ y) n b (bare none n end)) ∙ z
      by (CloseEmpty n) is b z f =
          let none : [] ≡ more = cc in
          let end : at + n ≡ e = cc in
          ap (ends_by at (d ∷ y) y) (empty-near (c ∷ x) (d ∷ y) n b (bare none n end)) ∙ z
      by Torn is b z f = absurd (zero-not-one (cc))
