-- A view that is set in a row of the series table: what it shows, and that every other cell is kept. Assumes nothing.
use Prim.Native.Nat.{ℕ, ◌+◌, ◌*◌, ◌≤◌, ◌<◌}
use mathlib.Core.Path.{◌≡◌, refl, sym, ap, ◌∙◌}
use mathlib.Core.List.{List, []}
use mathlib.Core.Bool.{true, cond}
use mathlib.Core.Logic.{◌⊎◌, inl, inr, ⊎_elim}
use native.Mathlib.Omega.{arith}
use native.Mathlib.Nat.{div-add-mod'}
use lib.Dec.{eqb}
use lib.ListN.{length, get_or, set, length-set}
use lib.Seq.{get_or-set_same, get_or-set_other}
use Rattle.lists.proofs.Cases.{eqb-cases, ltb-cases, never}
use Rattle.slices.specs.Part.{part_of}
use Rattle.series.specs.declared.Field.{Field}
use Rattle.series.specs.declared.Field.TheVariants.{Identification, Object, BusinessType, Direction, Area, FirstRow, Count}
use Rattle.series.specs.Row.{cell_of, is_view, row_width, cells_of, room_for, cell_at, with_view, view}

-- u is t with a view of a and n in field f of row i, and every other cell kept
pub record ViewSet (t u : List ℕ) (i : ℕ) (f : Field) (a n : ℕ) : Type 0 where
  pub size : length u ≡ length t
  pub start : cell_at i f < length t → get_or u (cell_at i f) 0 ≡ a
  pub len : cell_at i f + 1 < length t → get_or u (cell_at i f + 1) 0 ≡ n
  pub others : (j : ℕ) → (j ≡ cell_at i f → ⊥) → (j ≡ cell_at i f + 1 → ⊥) → get_or u j 0 ≡ get_or t j 0

pub view-set : (t : List ℕ) (i : ℕ) (f : Field) (a n : ℕ) → ViewSet t (with_view t i f a n) i f a n
unfolding with_view
view-set t i f a n =
    let c = cell_at i f in
    let u = set t c a in
    record {
      size = length-set u (c + 1) n ∙ length-set t c a;
      start = λ h. get_or-set_other u (c + 1) c n 0 (λ e. omega (arith, e)) ∙ get_or-set_same t c a 0 h;
      len = λ h. get_or-set_same u (c + 1) n 0 (rw (length-set t c a) h);
      others = λ j x y. get_or-set_other u (c + 1) j n 0 y ∙ get_or-set_other t c j a 0 x;
    }

module _ (doc : List ℕ) where
  -- two tables with the same two cells
  pub view-as : (t u : List ℕ) (i : ℕ) (f : Field) → get_or u (cell_at i f) 0 ≡ get_or t (cell_at i f) 0
      → get_or u (cell_at i f + 1) 0 ≡ get_or t (cell_at i f + 1) 0 → view doc u i f ≡ view doc t i f
  unfolding view
  view-as t u i f a b = rw (a, b)

  pub view-shown : (t : List ℕ) (i : ℕ) (f : Field) (a n : ℕ) → cell_at i f + 1 < length t → view doc (with_view t i f a n) i f ≡ part_of doc a n
  unfolding view
  view-shown t i f a n h =
      let s = view-set t i f a n in
      rw (s.start (omega (arith, h)), s.len h)

  -- another view of the same table
  pub view-kept : (t : List ℕ) (i : ℕ) (f : Field) (a n k : ℕ) (g : Field) → (cell_at k g ≡ cell_at i f → ⊥) → (cell_at k g ≡ cell_at i f + 1 → ⊥)
      → (cell_at k g + 1 ≡ cell_at i f → ⊥) → view doc (with_view t i f a n) k g ≡ view doc t k g
  view-kept t i f a n k g x y z =
      let s = view-set t i f a n in
      view-as t (with_view t i f a n) k g (s.others (cell_at k g) x y) (s.others (cell_at k g + 1) z (λ e. x (omega (arith, e))))

-- as many rows as there is room for have their cells
pub rows-fit : (n m : ℕ) → n ≤ room_for m → cells_of n ≤ m
rows-fit n m h = omega (arith, h, div-add-mod' m row_width)

-- ---- views beside each other

-- before the two counts
pub view-low : (f : Field) → is_view f ≡ true → cell_of f + 1 < cell_of FirstRow
view-low Identification e = omega arith
view-low Object e = omega arith
view-low BusinessType e = omega arith
view-low Direction e = omega arith
view-low Area e = omega arith
view-low FirstRow e = never e
view-low Count e = never e

even : (f : Field) → is_view f ≡ true → (k : ℕ) × (cell_of f ≡ 2 * k)
even Identification e = (0, refl)
even Object e = (1, refl)
even BusinessType e = (2, refl)
even Direction e = (3, refl)
even Area e = (4, refl)
even FirstRow e = never e
even Count e = never e

-- the field that begins at a cell
abbrev field_from : ℕ → Field
field_from n =
    cond (eqb n 0) Identification (cond (eqb n 2) Object (cond (eqb n 4) BusinessType (cond (eqb n 6) Direction (cond (eqb n 8) Area (cond (eqb n 10) FirstRow Count)))))

field-from : (f : Field) → field_from (cell_of f) ≡ f
field-from Identification = refl
field-from Object = refl
field-from BusinessType = refl
field-from Direction = refl
field-from Area = refl
field-from FirstRow = refl
field-from Count = refl

-- two views are one, or have no cell in common
pub views-apart : (f g : Field) → is_view f ≡ true → is_view g ≡ true → (f ≡ g) ⊎ ((cell_of f + 1 < cell_of g) ⊎ (cell_of g + 1 < cell_of f))
views-apart f g a b =
    ⊎_elim
    (λ y. inl (sym (field-from f) ∙ ap field_from y.0 ∙ field-from g))
    (λ y.
    let m = even f a in
    let n = even g b in
    inr (⊎_elim (λ z. inl (omega (arith, m.1, n.1, z.0))) (λ z. inr (omega (arith, m.1, n.1, z.0, y.0))) (ltb-cases (cell_of f) (cell_of g))))
    (eqb-cases (cell_of f) (cell_of g))

-- a view of no length
pub view-none : (doc t : List ℕ) (i : ℕ) (f : Field) → get_or t (cell_at i f + 1) 0 ≡ 0 → view doc t i f ≡ []
unfolding view part_of
view-none doc t i f e = rw e
