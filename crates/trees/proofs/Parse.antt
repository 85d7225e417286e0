-- From signs that the cursor follows to the elements that they spell.
-- Assumes nothing.
use mathlib.Core.Path.{◌≡◌, refl, sym, ap, subst, ◌∙◌}
use mathlib.Core.Bool.{Bool, true, false}
use mathlib.Core.List.{List, [], ◌∷◌, ◌++◌, append-nil}
use mathlib.Core.Logic.{◌⊎◌, inl, inr, ⊎_elim}
use Prim.Native.Nat.{ℕ, zero, suc, ◌+◌, ◌<◌}
use native.Mathlib.Omega.{arith}
use lib.ListN.{length, get_or, length-append}
use Rattle.lists.proofs.Cases.{zero-not-one}
use Rattle.structure.specs.Rows.{name_of, repeated}
use Rattle.structure.specs.Means.{StartDue}
use Rattle.structure.proofs.Means.{start-means, end-means}
use Rattle.trees.specs.Trees.{Sign, Opens, Closes, Trees, none, element, spell}
use Rattle.trees.specs.Cursor.{follows}
use Rattle.trees.proofs.Made.{Made}
use Rattle.trees.proofs.Along.{enclosing, Along, opened, closed, over-means, spell-on, due-stands, due-named}

-- what is left after the elements that stand in p: nothing, if p is the document, or the end tag of p, from where the cursor goes on
abbrev pub Ends : {A : Type 0} → List ℕ → ℕ → List (Sign A) → Type 0
Ends {A = A} t p rest =
    ((rest ≡ []) × (p ≡ 0)) ⊎ ((u : List (Sign A)) × (rest ≡ Closes (name_of (get_or t p 0)) ∷ u) × (follows t p false u ≡ true))

-- the signs s, from the cursor on, are the spelling of these elements and the rest
pub record Parsed (A : Type 0) (t : List ℕ) (r : ℕ) (o : Bool) (s : List (Sign A)) : Type 0 where
  pub kids : Trees A
  pub rest : List (Sign A)
  pub spelled : s ≡ spell t kids ++ rest
  pub along : Along t r o kids
  pub ends : Ends t (enclosing t r o) rest

-- what is left after an end tag is shorter
shorter : {A : Type 0} (s k rest u : List (Sign A)) (x : ℕ) → s ≡ k ++ rest → rest ≡ Closes x ∷ u → length u < length s
shorter s k rest u x e f =
    let a : length s ≡ length k + length rest = ap length e ∙ length-append k rest in
    let b : length rest ≡ suc (length u) = ap length f in
    omega (arith, a, b)

module _ (t : List ℕ) (m : Made t) where
  once-contradicted : (r : ℕ) → r ≡ 0 → repeated (get_or t r 0) ≡ true → ⊥
  once-contradicted r e f =
      let z : true ≡ false = sym f ∙ ap (λ (i : ℕ). repeated (get_or t i 0)) e ∙ m.once in
      zero-not-one (cc)

  -- no start tag takes row 0
  not-document : (r : ℕ) (o : Bool) (x q : ℕ) → StartDue t r o x q → q ≡ 0 → ⊥
  not-document r true x q d e = omega (arith, d.1.after, e)
  not-document r false x q d e =
      ⊎_elim (λ g. once-contradicted r (sym g.itself ∙ e) g.repeats) (λ g. omega (arith, g.1.after, e)) d.1

module _ (A : Type 0) (t : List ℕ) (m : Made t) where
  -- once the document is closed, nothing follows
  stuck : (s : List (Sign A)) → follows t 0 false s ≡ true → ⊥
  stuck [] e =
      let d = over-means A t 0 false e in
      omega (arith, d.innermost, m.outermost, m.some-row)
  stuck (Opens tag x ∷ s) e =
      let f = opened A t 0 false tag x s e in
      let d = start-means t 0 x f.0 false f.1 in
      ⊎_elim
      (λ g. once-contradicted t m 0 refl g.repeats)
      (λ g. omega (arith, m.before f.0 g.1.after g.1.within, g.1.stands, g.1.within, m.outermost))
      d.1
  stuck (Closes x ∷ s) e =
      let f = closed A t 0 false x s e in
      let d = end-means t 0 x f.0 false f.1 in
      omega (arith, d.innermost, d.within, m.outermost)

  ends_at : (p q x : ℕ) (u : List (Sign A)) → q ≡ p → name_of (get_or t q 0) ≡ x → follows t q false u ≡ true → Ends t p (Closes x ∷ u)
  ends_at p q x u e n f =
      inr (u, ap (λ (y : ℕ). Closes y ∷ u) (sym n ∙ ap (λ (i : ℕ). name_of (get_or t i 0)) e), ap (λ (i : ℕ). follows t i false u) (sym e) ∙ f)

  spelled-on : (tag : A) (x q : ℕ) (inner after : Trees A) (s rest u end : List (Sign A)) → name_of (get_or t q 0) ≡ x → s ≡ spell t inner ++ rest
      → rest ≡ Closes (name_of (get_or t q 0)) ∷ u → u ≡ spell t after ++ end → Opens tag x ∷ s ≡ spell t (element q tag inner after) ++ end
  spelled-on tag x q inner after s rest u end n es er eu =
      let y = name_of (get_or t q 0) in
      ap (λ (i : ℕ). Opens tag i ∷ s) (sym n)
      ∙ ap (λ (l : List (Sign A)). Opens tag y ∷ l) (es ∙ ap (λ (l : List (Sign A)). spell t inner ++ l) (er ∙ ap (λ (l : List (Sign A)). Closes y ∷ l) eu))
      ∙ sym (spell-on A t q tag inner after end)

  -- n bounds the number of signs
  pub parse : (n : ℕ) (s : List (Sign A)) (r : ℕ) (o : Bool) → length s < n → follows t r o s ≡ true → Parsed A t r o s
  unfolding spell
  parse zero s r o b e = absurd (omega arith)
  parse (suc n) [] r o b e =
      let d = over-means A t r o e in
      record {
        kids = none;
        rest = [];
        spelled = refl;
        along = λ j x y z. d.complete j x y (z ∙ sym d.innermost);
        ends = inl (refl, sym d.innermost);
      }
  parse (suc n) (Closes x ∷ s) r o b e =
      let f = closed A t r o x s e in
      let d = end-means t r x f.0 o f.1 in
      record {
        kids = none;
        rest = Closes x ∷ s;
        spelled = refl;
        along = λ j y z w. d.complete j y z (w ∙ sym d.innermost);
        ends = ends_at (enclosing t r o) f.0 x s d.innermost d.named f.2;
      }
  parse (suc n) (Opens tag x ∷ s) r o b e =
      let f = opened A t r o tag x s e in
      let q = f.0 in
      let d = start-means t r x q o f.1 in
      let named = due-named t r o x q d in
      let first = parse n s q true (omega (arith, b)) f.2 in
      ⊎_elim
      (λ y. absurd (not-document t m r o x q d y.1))
      (λ y.
      let fewer = shorter s (spell t first.kids) first.rest y.0 (name_of (get_or t q 0)) first.spelled y.1 in
      let second = parse n y.0 q false (omega (arith, fewer, b)) y.2 in
      record {
        kids = element q tag first.kids second.kids;
        rest = second.rest;
        spelled = spelled-on tag x q first.kids second.kids s first.rest y.0 second.rest named first.spelled y.1 second.spelled;
        along = (subst (λ (i : ℕ). StartDue t r o i q) (sym named) d, first.along, second.along);
        ends = subst (λ (p : ℕ). Ends t p second.rest) (due-stands t r o x q d) second.ends;
      })
      first.ends

  -- where it is the document that is open, the elements are all there is
  pub whole : (s : List (Sign A)) (p : Parsed A t 0 true s) → s ≡ spell t p.kids
  whole s p =
      ⊎_elim
      (λ y. p.spelled ∙ ap (λ (l : List (Sign A)). spell t p.kids ++ l) y.0 ∙ append-nil (spell t p.kids))
      (λ y. absurd (stuck y.0 y.2))
      p.ends
