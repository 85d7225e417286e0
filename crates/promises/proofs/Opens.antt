-- An item that starts an element makes one more open, one that ends an element one less, and by the rows of the kind the state tells how many. Assumes nothing.
use Prim.Native.Nat.{ℕ, suc, ◌+◌, ◌≤◌}
use mathlib.Core.Path.{◌≡◌, refl, sym, ap, ◌∙◌}
use mathlib.Core.List.{List, [], ◌∷◌}
use mathlib.Core.Bool.{Bool, true, false, cond, not}
use mathlib.Core.Logic.{◌⊎◌, inl, inr, ⊎_elim}
use native.Mathlib.Omega.{arith}
use lib.Dec.{eqb}
use lib.ListN.{length, get_or}
use borrow.Author.Tests.{leb-true}
use Rattle.std.specs.Prelude.{Option, Some, None}
use Rattle.lists.proofs.Cases.{by_cond, bool_cases, eqb-cases, never}
use Rattle.slices.specs.Same.{same}
use Rattle.slices.specs.Part.{part_of}
use Rattle.elements.specs.Names.{names, number_in, element_no}
use Rattle.structure.specs.Rows.{parent_of, start_of, end_of, over_of}
use Rattle.structure.specs.Depth.{height_in, depth_of}
use Rattle.structure.proofs.Depths.{start-shut, start-open, end-one, over_none, none_open}
use Rattle.guideline.specs.Rows.{rows_of}
use Rattle.guideline.specs.Kinds.{is_kind}
use Rattle.guideline.proofs.Depths.{deep}
use Rattle.guideline.proofs.Roots.{not-over}
use Rattle.items.specs.declared.Tag.{Tag}
use Rattle.items.specs.declared.Item.{Item}
use Rattle.items.specs.declared.Item.TheVariants.{Start, Empty, End, Text, Comment, Unreadable}
use Rattle.rules.specs.Judged.{Judged}
use Rattle.states.specs.Constraints.{noticed}
use Rattle.states.specs.Moves.{at_row, entered, start_judged, started_by, started_at, started, closed_at, end_refusal, after_end_at, after_end, moved, root_kind, kind_told, step}
use Rattle.states.specs.declared.State.{State}
use Rattle.states.specs.declared.Room.{Room}
use Rattle.states.specs.Step.{Step, Next, Refused}
use Rattle.promises.specs.Items.{opens_in, shuts_in}
use Rattle.promises.proofs.Marks.{due-known, end_known}
use Rattle.promises.proofs.Steps.{Sound, kept-keeps}

-- how many elements are open in a state, by the rows of its kind
abbrev pub depth_at : State → ℕ
depth_at x = depth_of (rows_of x.kind) x.row x.inside

abbrev pub Deepens : Item → State → Step → Type 0
Deepens i x (Next y e) = depth_at y + shuts_in i ≡ depth_at x + opens_in i
Deepens i x (Refused n) = Unit {0}

-- no element has the number of the document as a whole
number-few : (n : List ℕ) (k : ℕ) (ws : List (List ℕ)) → number_in n k ws ≤ k + length ws
unfolding number_in
number-few n k [] = omega arith
number-few n k (w ∷ ws) =
    let h = number-few n (k + 1) ws in
    by_cond (λ (m : ℕ). m ≤ k + suc (length ws)) (same n w) (omega arith) (omega arith)

names-few : length names ≤ 200
unfolding names
names-few = leb-true (length names) 200 refl

element-few : (n : List ℕ) → element_no n ≡ 255 → ⊥
unfolding element_no
element-few n e = omega (arith, e, number-few n 1 names, names-few)

-- before the root nothing is open
pub first-none : (o : Bool) → depth_of (rows_of 0) 0 o ≡ 0
unfolding depth_of height_in rows_of parent_of
first-none true = refl
first-none false = refl

-- where the document may be over nothing is open
pub over-shut : (kind r : ℕ) (o : Bool) → over_of (rows_of kind) r o ≡ true → depth_of (rows_of kind) r o ≡ 0
over-shut kind r o e =
    ⊎_elim
    (λ y. over_none (rows_of kind) (deep kind y) r o e)
    (λ y. never (sym (not-over kind y r o) ∙ e))
    (bool_cases (is_kind kind))

module _ (x : State) (kind : ℕ) where
  abbrev rows : List ℕ
  rows = rows_of kind

  abbrev here : ℕ
  here = depth_of rows x.row x.inside

  -- the kind is that of the state, or the item tells it
  here-is : (kind ≡ x.kind) ⊎ (x.kind ≡ 0) → (x.kind ≡ 0 → x.row ≡ 0) → (name r : ℕ) → start_of rows x.row x.inside name ≡ Some r → here ≡ depth_at x
  here-is w f name r e =
      ⊎_elim
      (λ k. ap (λ (n : ℕ). depth_of (rows_of n) x.row x.inside) k)
      (λ z.
      let q : start_of rows 0 x.inside name ≡ Some r = rw (f z) at e in
      ap (λ (n : ℕ). depth_of rows n x.inside) (f z)
      ∙ none_open rows (deep kind (due-known kind 0 x.inside name r q)) name r x.inside q
      ∙ sym (rw (f z, z) (first-none x.inside)))
      w

  -- the state that a start tag leads to
  entered-depth : (r : ℕ) (j : Judged) (within : Bool) → depth_at (entered x kind r (get_or rows r 0) j within) ≡ depth_of rows r within
  unfolding entered at_row
  entered-depth r j within =
      let k = kept-keeps (at_row x kind r within (noticed x.seen (get_or rows r 0) j.first)) (get_or rows r 0) j in
      rw (k.kind, k.row, k.inside) refl

  module _ (w : (kind ≡ x.kind) ⊎ (x.kind ≡ 0)) (f : x.kind ≡ 0 → x.row ≡ 0) (t : Tag) (s : List ℕ) (room : Room) where
    open_at : (name : ℕ) (d : Option ℕ) → start_of rows x.row x.inside name ≡ d → Deepens (Start t) x (started_at x kind rows t s false room d)
    unfolding started_at started_by opens_in shuts_in
    open_at name None e = tt
    open_at name (Some r) e =
        let j = start_judged x kind rows r t s false room in
        let p = entered-depth r j true in
        let q = start-open rows (deep kind (due-known kind x.row x.inside name r e)) x.row name r x.inside e in
        let h = here-is w f name r e in
        by_cond (Deepens (Start t) x) (eqb j.number 0) (omega arith) tt

    shut_at : (name : ℕ) (d : Option ℕ) → start_of rows x.row x.inside name ≡ d → Deepens (Empty t) x (started_at x kind rows t s true room d)
    unfolding started_at started_by opens_in shuts_in
    shut_at name None e = tt
    shut_at name (Some r) e =
        let j = start_judged x kind rows r t s true room in
        let p = entered-depth r j false in
        let q = start-shut rows (deep kind (due-known kind x.row x.inside name r e)) x.row name r x.inside e in
        let h = here-is w f name r e in
        by_cond (Deepens (Empty t) x) (eqb j.number 0) (omega arith) tt

  end-at : (k : kind ≡ x.kind) (n e : ℕ) (name : ℕ) → (name ≡ 255 → ⊥) → (d : Option ℕ) → end_of rows x.row x.inside name ≡ d → Deepens (End n e) x (after_end_at x rows d)
  unfolding after_end_at closed_at opens_in shuts_in
  end-at k n e name f None q = tt
  end-at k n e name f (Some r) q =
      let z = end-one rows (deep kind (end_known kind x.row x.inside name r q)) x.row name r x.inside q f in
      let a : here ≡ depth_at x = ap (λ (m : ℕ). depth_of (rows_of m) x.row x.inside) k in
      let b : depth_of rows r false ≡ depth_at (closed_at x r) = ap (λ (m : ℕ). depth_of (rows_of m) r false) k in
      by_cond (Deepens (End n e) x) (eqb (end_refusal x rows r) 0) (omega arith) tt

  -- the kind that an item tells, where it tells one
  told-cases : (k : ℕ) → kind ≡ cond (eqb x.kind 0) k x.kind → (kind ≡ x.kind) ⊎ (x.kind ≡ 0)
  told-cases k e = ⊎_elim (λ y. inr y.0) (λ y. inl (rw y.1 at e)) (eqb-cases x.kind 0)

  told_none : kind ≡ cond (eqb x.kind 0) 0 x.kind → kind ≡ x.kind
  told_none e = ⊎_elim (λ y. let z : kind ≡ 0 = rw y.1 at e in z ∙ sym y.0) (λ y. rw y.1 at e) (eqb-cases x.kind 0)

  moved-deepens : (item : Item) (s : List ℕ) (room : Room) → (x.kind ≡ 0 → x.row ≡ 0) → kind ≡ cond (eqb x.kind 0) (root_kind item s) x.kind
      → Deepens item x (moved x kind rows item s room)
  unfolding moved started after_end root_kind opens_in shuts_in
  moved-deepens (Start t) s room f told =
      open_at (told-cases _ told) f t s room (element_no (part_of s 1 t.name)) (start_of rows x.row x.inside (element_no (part_of s 1 t.name))) refl
  moved-deepens (Empty t) s room f told =
      shut_at (told-cases _ told) f t s room (element_no (part_of s 1 t.name)) (start_of rows x.row x.inside (element_no (part_of s 1 t.name))) refl
  moved-deepens (End n e) s room f told =
      end-at (told_none told) n e (element_no (part_of s 2 n)) (element-few (part_of s 2 n)) (end_of rows x.row x.inside (element_no (part_of s 2 n))) refl
  moved-deepens (Text white e) s room f told = by_cond (Deepens (Text white e) x) white refl tt
  moved-deepens (Comment e) s room f told = refl
  moved-deepens (Unreadable p) s room f told = tt

pub step-deepens : (x : State) → Sound x → (item : Item) (s : List ℕ) (room : Room) → Deepens item x (step x item s room)
unfolding step kind_told
step-deepens x b item s room = moved-deepens x (kind_told x item s) item s room b.outside refl
