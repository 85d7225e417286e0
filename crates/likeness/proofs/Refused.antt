-- Two readings whose items go together, place by place or passed over, end with the same number. Assumes nothing.
use Prim.Native.Nat.{ℕ, zero, suc, ◌+◌, ◌-◌, ◌≤◌, ◌<◌}
use mathlib.Core.Path.{◌≡◌, refl, sym, ap, ◌∙◌}
use mathlib.Core.List.{List, [], ◌∷◌}
use mathlib.Core.Bool.{true, false}
use mathlib.Core.Logic.{⊎_elim}
use native.Mathlib.Omega.{arith}
use lib.ListN.{length, drop, length-set}
use Rattle.lists.specs.Zeros.{zeros}
use Rattle.lists.proofs.Cases.{bool_cases, eqb-cases, ltb-cases, zero-not-one}
use Rattle.slices.specs.Part.{part_of}
use Rattle.slices.specs.declared.Span.{Span}
use Rattle.characters.specs.Says.{says}
use Rattle.structure.specs.Rows.{over_of}
use Rattle.guideline.specs.Rows.{rows_of}
use Rattle.items.specs.Parts.{span_of, passed}
use Rattle.series.specs.Row.{cell_of, row_width, cell_at, with_field, with_view, view}
use Rattle.series.specs.declared.Field.{Field}
use Rattle.series.specs.declared.Field.TheVariants.{Identification, Object, BusinessType, Direction, Area, FirstRow, Count}
use Rattle.series.proofs.Rows.{view-set, view-shown, view-kept, view-none}
use Rattle.states.specs.Moves.{step}
use Rattle.states.specs.declared.State.{State}
use Rattle.states.specs.declared.Room.{Room}
use Rattle.states.specs.declared.Entry.{Entry}
use Rattle.states.specs.declared.Entry.TheVariants.{Nothing, Series, Interval, Position, Amount}
use Rattle.states.specs.declared.Entry.TheVariants.{Identification as BringsIdentification, Object as BringsObject, BusinessType as BringsBusinessType, Direction as BringsDirection, Area as BringsArea}
use Rattle.states.specs.Step.{Step, Next, Refused}
use Rattle.reader.specs.Items.{Placed}
use Rattle.reader.specs.Rows.{quoted, brought_by, field_after, series_with, series_after, used, used_in, used_with, used_before}
use Rattle.reader.specs.Reading.{Tables, accepted_at, refused_at, ended_at, without_used, step_of, tables_after, read_items}
use Rattle.reader.specs.Reading.{Out}
use Rattle.reader.proofs.Ran.{read_next, read-stop, still}
use Rattle.blindness.proofs.Shown.{value-part, zero-cell, row_kept, row-short}
use Rattle.contents.proofs.Moved.{tables-still}

-- ---- the identifications that the rows of two series tables show

pub record SameViews (x t y u : List ℕ) : Type 0 where
  pub long : length t ≡ length u
  pub shown : (i : ℕ) → view x t i Identification ≡ view y u i Identification

pub views-none : (x y : List ℕ) (n : ℕ) → SameViews x (zeros n) y (zeros n)
views-none x y n =
    record { long = refl; shown = λ i. let z = zero-cell n (cell_at i Identification + 1) in view-none x (zeros n) i Identification z ∙ sym (view-none y (zeros n) i Identification z) }

-- a store behind the two cells of the identification
field-kept : (doc t : List ℕ) (n : ℕ) (f : Field) (v i : ℕ) → 2 ≤ cell_of f → cell_of f < row_width → view doc (with_field t n f v) i Identification ≡ view doc t i Identification
field-kept doc t n f v i low high = row_kept doc t (cell_at n f) v i (λ e. omega (arith, e)) (λ e. omega (arith, e))

other-kept : (doc t : List ℕ) (n : ℕ) (f : Field) (a k i : ℕ) → 2 ≤ cell_of f → cell_of f + 1 < row_width → view doc (with_view t n f a k) i Identification ≡ view doc t i Identification
other-kept doc t n f a k i low high = view-kept doc t n f a k i Identification (λ e. omega (arith, e)) (λ e. omega (arith, e)) (λ e. omega (arith, e))

module _ (x t y u : List ℕ) (h : SameViews x t y u) where
  views-field : (n : ℕ) (f : Field) (v : ℕ) → 2 ≤ cell_of f → cell_of f < row_width → SameViews x (with_field t n f v) y (with_field u n f v)
  views-field n f v low high =
      record {
        long = length-set t (cell_at n f) v ∙ h.long ∙ sym (length-set u (cell_at n f) v);
        shown = λ i. field-kept x t n f v i low high ∙ h.shown i ∙ sym (field-kept y u n f v i low high);
      }

  views-other : (n : ℕ) (f : Field) (a k b l : ℕ) → 2 ≤ cell_of f → cell_of f + 1 < row_width → SameViews x (with_view t n f a k) y (with_view u n f b l)
  views-other n f a k b l low high =
      record {
        long = (view-set t n f a k).size ∙ h.long ∙ sym (view-set u n f b l).size;
        shown = λ i. other-kept x t n f a k i low high ∙ h.shown i ∙ sym (other-kept y u n f b l i low high);
      }

  views-row : (n a k b l : ℕ) → part_of x a k ≡ part_of y b l → SameViews x (with_view t n Identification a k) y (with_view u n Identification b l)
  views-row n a k b l e =
      record {
        long = (view-set t n Identification a k).size ∙ h.long ∙ sym (view-set u n Identification b l).size;
        shown = λ i. ⊎_elim (λ q. rw q.0 here) (λ q. there i q.0) (eqb-cases i n);
      }
    where
      here : view x (with_view t n Identification a k) n Identification ≡ view y (with_view u n Identification b l) n Identification
      here =
          ⊎_elim
          (λ c. view-shown x t n Identification a k c.0 ∙ e ∙ sym (view-shown y u n Identification b l (omega (arith, c.0, h.long))))
          (λ c. row-short x t a k n c.0 ∙ sym (row-short y u b l n (omega (arith, c.0, h.long))))
          (ltb-cases (cell_at n Identification + 1) (length t))

      kept : (doc t : List ℕ) (a k i : ℕ) → (i ≡ n → ⊥) → view doc (with_view t n Identification a k) i Identification ≡ view doc t i Identification
      kept doc t a k i q = view-kept doc t n Identification a k i Identification (λ z. q (omega (arith, z))) (λ z. omega (arith, z)) (λ z. omega (arith, z))

      there : (i : ℕ) → (i ≡ n → ⊥) → view x (with_view t n Identification a k) i Identification ≡ view y (with_view u n Identification b l) i Identification
      there i q = kept x t a k i q ∙ h.shown i ∙ sym (kept y u b l i q)

  used-same : (n : ℕ) (id : List ℕ) → used x t n id ≡ used y u n id
  unfolding used
  used-same zero id = refl
  used-same (suc n) id = rw (h.shown n, used-same n id)

-- ---- two items that move a state alike

pub record Together (x y : List ℕ) (p q : Placed) : Type 0 where
  pub moves : (st : State) (room : Room) → step st p.item p.rest room ≡ step st q.item q.rest room
  pub value : quoted (span_of p.item) p.rest ≡ quoted (span_of q.item) q.rest
  pub passes : passed p.item ≡ passed q.item
  pub here : p.rest ≡ drop p.at x
  pub there : q.rest ≡ drop q.at y

module _ (x y : List ℕ) (p q : Placed) (g : Together x y p q) (t u : List ℕ) (h : SameViews x t y u) where
  abbrev v : Span
  v = span_of p.item

  abbrev w : Span
  w = span_of q.item

  shows : part_of x (p.at + v.start) v.len ≡ part_of y (q.at + w.start) w.len
  shows = sym (value-part x p.at p.rest v g.here) ∙ g.value ∙ value-part y q.at q.rest w g.there

  used-both : (n : ℕ) (e : Entry) → used_before x t v p.rest n e ≡ used_before y u w q.rest n e
  unfolding used_before used_with brought_by used_in
  used-both n Nothing = refl
  used-both n Series = refl
  used-both n BringsIdentification = rw g.value (used-same x t y u h (n - 1) (says (quoted w q.rest)))
  used-both n BringsObject = refl
  used-both n BringsBusinessType = refl
  used-both n BringsDirection = refl
  used-both n BringsArea = refl
  used-both n Interval = refl
  used-both n (Position k) = refl
  used-both n Amount = refl

  views_after : (st : State) (e : Entry) → SameViews x (series_after p.at v p.rest st e t) y (series_after q.at w q.rest st e u)
  unfolding series_after series_with brought_by field_after
  views_after st Nothing = h
  views_after st BringsIdentification = views-row x t y u h (st.series - 1) (p.at + v.start) v.len (q.at + w.start) w.len shows
  views_after st BringsObject = views-other x t y u h (st.series - 1) Object _ _ _ _ (omega arith) (omega arith)
  views_after st BringsBusinessType = views-other x t y u h (st.series - 1) BusinessType _ _ _ _ (omega arith) (omega arith)
  views_after st BringsDirection = views-other x t y u h (st.series - 1) Direction _ _ _ _ (omega arith) (omega arith)
  views_after st BringsArea = views-other x t y u h (st.series - 1) Area _ _ _ _ (omega arith) (omega arith)
  views_after st Series = views-field x t y u h (st.series - 1) FirstRow st.first (omega arith) (omega arith)
  views_after st Interval = views-field x t y u h (st.series - 1) Count (st.intervals - st.first) (omega arith) (omega arith)
  views_after st (Position k) = h
  views_after st Amount = h

  step_both : (room : Room) (st : State) → step_of x t room p st ≡ step_of y u room q st
  unfolding step_of without_used
  step_both room st = by (step st p.item p.rest room) ∙ ap (without_used y u q.item q.rest) (g.moves st room)
    where
      by : (o : Step) → without_used x t p.item p.rest o ≡ without_used y u q.item q.rest o
      by (Next st' e) = rw (used-both st'.series e)
      by (Refused n) = refl

-- ---- the items of two documents: those that go together, and those of either that are passed over

module _ (x y : List ℕ) where
  pub data Pairs : List Placed → List Placed → Type 0 where
    over : Pairs [] []
    left : (p : Placed) {ps qs : List Placed} → passed p.item ≡ true → Pairs ps qs → Pairs (p ∷ ps) qs
    right : (q : Placed) {ps qs : List Placed} → passed q.item ≡ true → Pairs ps qs → Pairs ps (q ∷ qs)
    both : {p q : Placed} {ps qs : List Placed} → Together x y p q → Pairs ps qs → Pairs (p ∷ ps) (q ∷ qs)

  abbrev number : Out → ℕ
  number o = o.found.refusal

  pass-one : (doc : List ℕ) (room : Room) (p : Placed) (ps : List Placed) (st : State) (t : Tables) → passed p.item ≡ true
      → read_items doc room (p ∷ ps) st t ≡ read_items doc room ps st t
  unfolding step_of without_used used_before used_with brought_by
  pass-one doc room p ps st t e =
      read_next doc room p ps st t st Nothing (rw (still st p.item e p.rest room)) ∙ ap (λ (u : Tables). read_items doc room ps st u) (tables-still p st t)

  module _ (room : Room) {p q : Placed} (ps qs : List Placed) (g : Together x y p q) (st : State) (t u : Tables) (h : SameViews x t.series y u.series)
      (rest : (st : State) (t u : Tables) → SameViews x t.series y u.series → number (read_items x room ps st t) ≡ number (read_items y room qs st u)) where
    both-number : (o : Step) → step_of x t.series room p st ≡ o → number (read_items x room (p ∷ ps) st t) ≡ number (read_items y room (q ∷ qs) st u)
    unfolding tables_after refused_at
    both-number (Next st' e) z =
        let z' = sym (step_both x y p q g t.series u.series h room st) ∙ z in
        ap number (read_next x room p ps st t st' e z)
        ∙ rest st' (tables_after p st' e t) (tables_after q st' e u) (views_after x y p q g t.series u.series h st' e)
        ∙ sym (ap number (read_next y room q qs st u st' e z'))
    both-number (Refused n) z =
        let z' = sym (step_both x y p q g t.series u.series h room st) ∙ z in
        ap number (read-stop x room p ps st t n z) ∙ sym (ap number (read-stop y room q qs st u n z'))

  pub same-number : (room : Room) {ps qs : List Placed} → Pairs ps qs → (st : State) (t u : Tables) → SameViews x t.series y u.series
      → number (read_items x room ps st t) ≡ number (read_items y room qs st u)
  unfolding read_items ended_at accepted_at refused_at
  same-number room over st t u h =
      ⊎_elim
      (λ (e : over_of (rows_of st.kind) st.row st.inside ≡ true). rw e)
      (λ (e : over_of (rows_of st.kind) st.row st.inside ≡ false). rw e)
      (bool_cases (over_of (rows_of st.kind) st.row st.inside))
  same-number room (left p {ps} {qs} e r) st t u h = ap number (pass-one x room p ps st t e) ∙ same-number room r st t u h
  same-number room (right q {ps} {qs} e r) st t u h = same-number room r st t u h ∙ sym (ap number (pass-one y room q qs st u e))
  same-number room (both {p} {q} {ps} {qs} g r) st t u h =
      both-number room ps qs g st t u h (λ st' t' u' h'. same-number room r st' t' u' h') (step_of x t.series room p st) refl

  -- an item of the second that is passed over may be left out
  pub without : {ps zs : List Placed} → Pairs ps zs → (q : Placed) (qs : List Placed) → zs ≡ q ∷ qs → passed q.item ≡ true → Pairs ps qs
  without over q qs e f = absurd (zero-not-one (cc))
  without (left p d r) q qs e f = left p d (without r q qs e f)
  without (right z {qs = zs} d r) q qs e f = let i : zs ≡ qs = cc in rw i at r
  without (both {p} {q = z} {qs = zs} g r) q qs e f =
      let i : zs ≡ qs = cc in
      let j : z ≡ q = cc in
      left p (g.passes ∙ ap (λ (k : Placed). passed k.item) j ∙ f) (rw i at r)
