-- The attributes of a tag that ends within the bytes that two lists share: the same, and the same end. Assumes nothing.
use Prim.Native.Nat.{ℕ, zero, suc, pred, ◌+◌, ◌≤◌, ◌<◌}
use mathlib.Core.Path.{◌≡◌, refl, sym, ap, ◌∙◌}
use mathlib.Core.List.{List, [], ◌∷◌}
use mathlib.Core.Bool.{Bool}
use native.Mathlib.Omega.{arith}
use lib.ListN.{length}
use Rattle.lists.proofs.Cases.{zero-not-one}
use Rattle.slices.specs.Bytes.{byte}
use Rattle.slices.specs.Run.{run}
use Rattle.slices.proofs.Bytes.{byte-there}
use Rattle.slices.proofs.Near.{Front}
use Rattle.attributes.specs.Names.{white}
use Rattle.attributes.specs.Attribute.{piece}
use Rattle.attributes.specs.declared.Piece.{Piece}
use Rattle.attributes.specs.declared.Piece.TheVariants.{Attribute, Close, CloseEmpty, Torn}
use Rattle.tags.specs.Tail.{Attr, closed, onto, ends_after}
use Rattle.tags.proofs.Ends.{attr}
use Rattle.digits.proofs.Spans.{PieceLaid, piece-laid, ends_by, ends-by, onto-closed, ends-ordered}
use Rattle.digits.proofs.Pieces.{part-front, piece-whole, close-near, empty-near}

-- a tag ends within its list
pub ends-inside : (l : List ℕ) (k at : ℕ) (more : List Attr) (empty : Bool) (e : ℕ) → ends_after k at l ≡ closed more empty e → e ≤ at + length l
unfolding ends_after ends_by PieceLaid
ends-inside [] k at more empty e q = absurd (zero-not-one (cc))
ends-inside (b ∷ t) (suc k) at more empty e q = let r = ends-inside t k (suc at) more empty e q in omega (arith, r)
ends-inside (b ∷ t) zero at more empty e q = by (piece (b ∷ t)) (piece-laid (b ∷ t)) (sym (ends-by at b t) ∙ q) (λ k rest. ends-inside t k (suc at) rest empty e)
  where
    by : (p : Piece) → PieceLaid (b ∷ t) p → ends_by at (b ∷ t) t p ≡ closed more empty e
        → ((k : ℕ) (rest : List Attr) → ends_after k (suc at) t ≡ closed rest empty e → e ≤ suc at + length t) → e ≤ at + suc (length t)
    by (Attribute w n v m j) h z f =
        let c = onto-closed (attr at (b ∷ t) w n v m) (ends_after (pred j) (suc at) t) more empty e z in let r = f (pred j) c.0 c.1 in omega (arith, r)
    by (Close n) h z f = let x : at + n ≡ e = cc in let there = byte-there (b ∷ t) (run white (b ∷ t)) (sym h.1) (omega arith) in omega (arith, h.0)
    by (CloseEmpty n) h z f = let x : at + n ≡ e = cc in let there = byte-there (b ∷ t) (run white (b ∷ t) + 1) (sym h.2) (omega arith) in omega (arith, h.0)
    by Torn h z f = absurd (zero-not-one (cc))

-- the bytes before the place e are shared; `at` is the place of the first
pub ends-front : (x y : List ℕ) (k at : ℕ) (more : List Attr) (empty : Bool) (e : ℕ) → ends_after k at x ≡ closed more empty e → e ≤ at + length y
    → ((i : ℕ) → at + i < e → byte x i ≡ byte y i) → ends_after k at y ≡ closed more empty e
unfolding ends_after ends_by onto PieceLaid byte
ends-front [] y k at more empty e q l h = absurd (zero-not-one (cc))
ends-front (c ∷ x) [] k at more empty e q l h = let o = ends-ordered (c ∷ x) k at more empty e q in absurd (omega (arith, o.end))
ends-front (c ∷ x) (d ∷ y) (suc k) at more empty e q l h = ends-front x y k (suc at) more empty e q (omega arith) (λ i g. h (suc i) (omega arith))
ends-front (c ∷ x) (d ∷ y) zero at more empty e q l h =
    ends-by at d y ∙ by (piece (c ∷ x)) refl (piece-laid (c ∷ x)) (sym (ends-by at c x) ∙ q) (λ k rest. ends-front x y k (suc at) rest empty e)
  where
    by : (p : Piece) → piece (c ∷ x) ≡ p → PieceLaid (c ∷ x) p → ends_by at (c ∷ x) x p ≡ closed more empty e
        → ((k : ℕ) (rest : List Attr) → ends_after k (suc at) x ≡ closed rest empty e → e ≤ suc at + length y → ((i : ℕ) → suc at + i < e → byte x i ≡ byte y i)
        → ends_after k (suc at) y ≡ closed rest empty e)
        → ends_by at (d ∷ y) y (piece (d ∷ y)) ≡ closed more empty e
    by (Attribute w n v m j) is b z f =
        let a = attr at (c ∷ x) w n v m in
        let laid = b.3 in
        let o = onto-closed a (ends_after (pred j) (suc at) x) more empty e z in
        let t = ends-ordered x (pred j) (suc at) o.0 empty e o.1 in
        let inside = ends-inside x (pred j) (suc at) o.0 empty e o.1 in
        let end : at + j < e = omega (arith, b.2, t.end) in
        let front : Front (c ∷ x) (d ∷ y) j = λ i g. h i (omega arith) in
        let same = piece-whole (c ∷ x) (d ∷ y) w n b.0 m (omega (arith, b.1, b.2)) laid (λ i g. front i (omega (arith, b.1, b.2))) ∙ is in
        let name = part-front (c ∷ x) (d ∷ y) j (omega arith) (omega arith) front w n (omega (arith, laid.behind, b.1, b.2)) in
        let rest = f (pred j) o.0 o.1 (omega arith) (λ i g. h (suc i) (omega arith)) in
        ap (ends_by at (d ∷ y) y) same
        ∙ ap (λ (l : List ℕ). onto (record { name = l; value = a.value }) (ends_after (pred j) (suc at) y)) name
        ∙ ap (onto a) rest
        ∙ sym (ap (λ (l : List Attr). closed l empty e) o.2)
    by (Close n) is b z f = let end : at + n ≡ e = cc in ap (ends_by at (d ∷ y) y) (close-near (c ∷ x) (d ∷ y) n b (λ i g. h i (omega arith))) ∙ z
    by (CloseEmpty n) is b z f = let end : at + n ≡ e = cc in ap (ends_by at (d ∷ y) y) (empty-near (c ∷ x) (d ∷ y) n b (λ i g. h i (omega arith))) ∙ z
    by Torn is b z f = absurd (zero-not-one (cc))
