-- The order of tags that the cursor accepts is the spelling of elements that conform to the table: for every table that passes the test
-- `well_made`, and the rows of each kind do (`well-made`).
-- Assumes nothing.
use mathlib.Core.Path.{◌≡◌, refl, sym, ap, ◌∙◌}
use mathlib.Core.Bool.{Bool, true, false, cond}
use mathlib.Core.List.{List, [], ◌∷◌, ◌++◌, append-nil}
use Prim.Native.Nat.{ℕ, ◌+◌, ◌<◌}
use native.Mathlib.Omega.{arith}
use lib.ListN.{length, get_or}
use borrow.Author.Tests.{eq-eqb, lt-ltb}
use Rattle.std.specs.Prelude.{Option, Some, None}
use Rattle.lists.proofs.Cases.{zero-not-one}
use Rattle.structure.specs.Rows.{start_of, end_of, end_at, ends_at_once, name_of}
use Rattle.structure.proofs.Means.{start-means, end-means}
use Rattle.trees.specs.Trees.{Sign, Opens, Closes, Trees, none, spell, Conforms, well_made}
use Rattle.trees.specs.Cursor.{on_row, follows, row_after, open_after, visited, places_of}
use Rattle.trees.proofs.Made.{made}
use Rattle.trees.proofs.Along.{over-made, closes-after, run_along, visits-along, one_along, opens-on, due-within, due-named}
use Rattle.trees.proofs.Along.{conforms-along, along-conforms}
use Rattle.trees.proofs.Parse.{parse, whole}

chosen : (q : ℕ) (b : Bool) → cond b (Some q) None ≡ Some q → b ≡ true
chosen q true e = refl
chosen q false e = absurd (zero-not-one (cc))

-- an end tag right after its start tag
at_once : (t : List ℕ) (q x : ℕ) → q < length t → name_of (get_or t q 0) ≡ x → end_of t q true x ≡ cond (ends_at_once t q) (Some q) None
unfolding end_of end_at ends_at_once
at_once t q x l n = rw (lt-ltb q (length t) l, eq-eqb (name_of (get_or t q 0)) x n) refl

on-chosen : (q : ℕ) (b : Bool) (go : ℕ → Bool) → on_row (cond b (Some q) None) go ≡ cond b (go q) false
unfolding on_row
on-chosen q true go = refl
on-chosen q false go = refl

-- An empty tag opens and closes the row that is due, exactly where `ends_at_once` says so; the cursor is then at that row, closed. In any table.
pub empty-tag : (A : Type 0) (t : List ℕ) (r : ℕ) (o : Bool) (tag : A) (x q : ℕ) (s : List (Sign A)) → start_of t r o x ≡ Some q
    → follows t r o (Opens tag x ∷ (Closes x ∷ s)) ≡ cond (ends_at_once t q) (follows t q false s) false
unfolding follows
empty-tag A t r o tag x q s e =
    let d = start-means t r x q o e in
    opens-on A t r o tag x q (Closes x ∷ s) e
    ∙ ap (λ (f : Option ℕ). on_row f (λ p. follows t p false s)) (at_once t q x (due-within t r o x q d) (due-named t r o x q d))
    ∙ on-chosen q (ends_at_once t q) (λ p. follows t p false s)

module _ (A : Type 0) (t : List ℕ) (w : well_made t ≡ true) where
  -- Whatever conforms is accepted: the spelling of elements that conform to the document's row is followed to its end.
  pub complete : (kids : Trees A) → Conforms t 0 kids → follows t 0 true (spell t kids) ≡ true
  complete kids c =
      let m = made t w in
      let a = conforms-along A t m 0 kids m.some-row c in
      let r = row_after 0 kids in
      let o = open_after true kids in
      ap (λ (s : List (Sign A)). follows t 0 true s) (sym (append-nil (spell t kids)))
      ∙ run_along A t kids 0 true a []
      ∙ over-made A t r o (ap (λ (x : ℕ). end_of t r o x) (sym m.named) ∙ closes-after A t kids 0 true 0 refl m.some-row m.some-row a)

  -- Nothing else is accepted: signs that are followed to their end are the spelling of elements that conform.
  pub sound : (s : List (Sign A)) → follows t 0 true s ≡ true → (kids : Trees A) × Conforms t 0 kids × (s ≡ spell t kids)
  sound s e =
      let m = made t w in
      let p = parse A t m (length s + 1) s 0 true (omega arith) e in
      (p.kids, along-conforms A t m 0 p.kids m.some-row p.along, whole A t m s p)

  -- There is one tree: elements that conform and are spelled alike are the same elements.
  pub one-tree : (ks ls : Trees A) → Conforms t 0 ks → Conforms t 0 ls → spell t ks ≡ spell t ls → ks ≡ ls
  one-tree ks ls c d e =
      let m = made t w in
      (one_along A t ks ls 0 true 255 255 [] []
      (conforms-along A t m 0 ks m.some-row c)
      (conforms-along A t m 0 ls m.some-row d)
      (ap (λ (l : List (Sign A)). l ++ (Closes 255 ∷ [])) e)).0

  -- Along elements that conform to row p, from its start tag on, the cursor goes to the last of them, whatever comes after: it is then at
  -- that one's row, closed; where there is none, still at p, open.
  pub carried : (p : ℕ) (kids : Trees A) → p < length t → Conforms t p kids → (rest : List (Sign A))
      → follows t p true (spell t kids ++ rest) ≡ follows t (row_after p kids) (open_after true kids) rest
  carried p kids l c rest = run_along A t kids p true (conforms-along A t (made t w) p kids l c) rest

  -- there p may be closed
  pub may-close : (p : ℕ) (kids : Trees A) → p < length t → Conforms t p kids
      → end_of t (row_after p kids) (open_after true kids) (name_of (get_or t p 0)) ≡ Some p
  may-close p kids l c = closes-after A t kids p true p refl l l (conforms-along A t (made t w) p kids l c)

  -- After each tag of elements that conform, the cursor is at the row of the element that was just opened, or just closed.
  pub trace : (p : ℕ) (kids : Trees A) → p < length t → Conforms t p kids → visited t p true (spell t kids) ≡ places_of kids
  unfolding visited
  trace p kids l c =
      ap (λ (s : List (Sign A)). visited t p true s) (sym (append-nil (spell t kids)))
      ∙ visits-along A t kids p true (conforms-along A t (made t w) p kids l c) []
      ∙ append-nil (places_of kids)

  -- An element with nothing in it conforms exactly where `ends_at_once` says so.
  pub empty-ends : (q : ℕ) → q < length t → Conforms {A = A} t q none → ends_at_once t q ≡ true
  unfolding row_after open_after
  empty-ends q l c =
      chosen q (ends_at_once t q) (sym (at_once t q (name_of (get_or t q 0)) l refl) ∙ may-close q none l c)

  pub empty-conforms : (q : ℕ) → q < length t → ends_at_once t q ≡ true → Conforms {A = A} t q none
  empty-conforms q l e =
      let d = end-means t q (name_of (get_or t q 0)) q true (at_once t q (name_of (get_or t q 0)) l refl ∙ ap (λ (b : Bool). cond b (Some q) None) e) in
      along-conforms A t (made t w) q none l d.complete
