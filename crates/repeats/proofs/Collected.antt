-- A loop that puts places of names into the heap: its invariant, `Collected`, and how it starts and goes on. Assumes nothing.
use Prim.Native.Nat.{ℕ, ◌+◌, ◌≤◌, ◌<◌}
use mathlib.Core.Path.{◌≡◌, refl, sym, ap, ◌∙◌}
use mathlib.Core.List.{List}
use mathlib.Core.Bool.{true}
use native.Mathlib.Omega.{arith}
use lib.ListN.{length, drop, length-drop}
use Rattle.slices.specs.Part.{part_of}
use Rattle.attributes.specs.Attribute.{piece}
use Rattle.attributes.specs.declared.Piece.{Piece}
use Rattle.attributes.specs.declared.Piece.TheVariants.{Attribute}
use Rattle.attributes.proofs.Named.{piece-name}
use Rattle.tags.specs.Tail.{ends}
use Rattle.tags.proofs.Ends.{attr, ends-attribute}
use Rattle.repeats.specs.Bearers.{bears, bears_at}
use Rattle.repeats.specs.Cells.{Cells, KeptOr}
use Rattle.repeats.proofs.Bearing.{bears-here, bears-more}
use Rattle.repeats.proofs.Named.{name-here}

-- the first n cells of u are places of names of the tag; what it bears from the place i on it bears
pub record Collected (s : List ℕ) (from : ℕ) (t u : List ℕ) (n i : ℕ) : Type 0 where
  pub same : length u ≡ length t
  pub most : n ≤ length u
  pub cells : Cells (bears_at s from) n u
  pub borne : (x : List ℕ) → bears x (ends s i) ≡ true → bears x (ends s from) ≡ true

pub collected-start : (s : List ℕ) (from : ℕ) (t : List ℕ) → Collected s from t t 0 from
collected-start s from t = record { same = refl; most = omega arith; cells = record { each = λ j l. absurd (omega arith) }; borne = λ x e. e }

-- x is what the call of `piece_at` on the part from i on answered, and p is that part
module _ (s : List ℕ) (i : ℕ) {p : List ℕ} (ep : p ≡ drop i s) {x : Piece} (e : x ≡ piece p) {a l v m k : ℕ} (q : x ≡ Attribute a l v m k) (h : i < length s) where
  pub place_inside : i + a < length s
  place_inside =
      let o = (piece-name a l v m k p (sym e ∙ q)).0 in
      omega (arith, o, ap length ep ∙ length-drop i s)

  pub collected-more : {from : ℕ} {t u w : List ℕ} {n r : ℕ} → Collected s from t u n i → 1 ≤ k → KeptOr n r (i + a) u w → r ≤ length u → length w ≡ length u
      → Collected s from t w r (i + k)
  unfolding bears_at
  collected-more {from} c o added room same =
      let tag = ends-attribute s i p ep x e a l v m k h q o in
      let here : bears (part_of p a l) (ends s i) ≡ true = ap (bears (part_of p a l)) tag ∙ bears-here (attr i p a l v m) (ends s (i + k)) in
      let name = name-here s i p ep a l v m k (sym e ∙ q) in
      record {
        same = same ∙ c.same;
        most = omega arith;
        cells = added (bears_at s from) c.cells (ap (λ (y : List ℕ). bears y (ends s from)) name ∙ c.borne (part_of p a l) here);
        borne = λ y b. c.borne y (ap (bears y) tag ∙ bears-more y (attr i p a l v m) (ends s (i + k)) b);
      }
