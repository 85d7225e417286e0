-- What the series table shows in two documents goes together, from row to row. Assumes nothing.
use Prim.Native.Nat.{ℕ, zero, suc, ◌+◌, ◌-◌, ◌≤◌, ◌<◌}
use mathlib.Core.Path.{◌≡◌, refl, ap}
use mathlib.Core.List.{List, []}
use mathlib.Core.Logic.{◌⊎◌, inl, inr, ⊎_elim}
use native.Mathlib.Omega.{arith}
use lib.ListN.{length, get_or, take, drop, set, get_or-eq_default}
use lib.Seq.{drop-drop, get_or-set_other}
use Rattle.lists.specs.Zeros.{zeros}
use Rattle.lists.proofs.Cases.{eqb-cases, ltb-cases, zero-not-one}
use Rattle.slices.specs.Part.{part_of}
use Rattle.slices.specs.Same.{same}
use Rattle.characters.specs.Says.{says}
use Rattle.trims.specs.Trim.{lead_of, trimmed_of}
use Rattle.slices.specs.declared.Span.{Span}
use Rattle.states.specs.declared.State.{State}
use Rattle.states.specs.declared.Entry.{Entry}
use Rattle.states.specs.declared.Entry.TheVariants.{Nothing, Series, Interval, Position, Amount}
use Rattle.states.specs.declared.Entry.TheVariants.{Identification as BringsIdentification, Object as BringsObject, BusinessType as BringsBusinessType, Direction as BringsDirection, Area as BringsArea}
use Rattle.series.specs.Row.{cell_of, row_width, cell_at, with_field, with_view, view}
use Rattle.series.specs.declared.Field.{Field}
use Rattle.series.specs.declared.Field.TheVariants.{Identification, Object, BusinessType, Direction, Area, FirstRow, Count}
use Rattle.series.proofs.Rows.{view-set, view-as, view-shown, view-kept}
use Rattle.reader.specs.Rows.{brought_by, quoted, field_after, series_with, series_after, used, used_in, used_with, used_before}
use Rattle.blindness.proofs.Steps.{Values, same-value}

-- What a value that is brought does to the series table, in x and in y, where R joins the two values.
pub record Tabled (R : List ℕ → List ℕ → Type 0) (brought : Entry) (x y : List ℕ) : Type 1 where
  -- what a table shows in x and in y goes together
  pub Shows : List ℕ → Type 0
  pub none : (n : ℕ) → Shows (zeros n)
  pub next : (at : ℕ) (v : Span) (s s' : List ℕ) (st : State) (e : Entry) (t : List ℕ) → s ≡ drop at x → s' ≡ drop at y → Shows t
      → Values R brought e (quoted v s) (quoted v s') → Shows (series_after at v s st e t)
  -- an identification is used before in the one as in the other
  pub used : (v : Span) (s s' t : List ℕ) → Shows t → (n : ℕ) (e : Entry) → Values R brought e (quoted v s) (quoted v s')
      → used_before x t v s n e ≡ used_before y t v s' n e
  -- the rows hold the same
  pub after : (at : ℕ) (v : Span) (s s' : List ℕ) (st : State) (e : Entry) (t : List ℕ) → Values R brought e (quoted v s) (quoted v s')
      → series_after at v s st e t ≡ series_after at v s' st e t

-- a value of an item is a part of its document
pub value-part : (doc : List ℕ) (at : ℕ) (s : List ℕ) (v : Span) → s ≡ drop at doc → quoted v s ≡ part_of doc (at + v.start) v.len
unfolding quoted part_of
value-part doc at s v e = rw e (ap (take v.len) (drop-drop v.start at doc))

-- ---- the identifications that the rows show in x and in y, a pair for each row

pub zero-cell : (n k : ℕ) → get_or (zeros n) k 0 ≡ 0
zero-cell zero k = refl
zero-cell (suc n) zero = refl
zero-cell (suc n) (suc k) = zero-cell n k

-- a store into another cell than the two of row i
pub row_kept : (doc t : List ℕ) (j v i : ℕ) → (cell_at i Identification ≡ j → ⊥) → (cell_at i Identification + 1 ≡ j → ⊥)
    → view doc (set t j v) i Identification ≡ view doc t i Identification
row_kept doc t j v i a b =
    view-as doc t (set t j v) i Identification (get_or-set_other t j (cell_at i Identification) v 0 a) (get_or-set_other t j (cell_at i Identification + 1) v 0 b)

-- a view whose second cell lies past the end shows nothing
pub row-short : (doc t : List ℕ) (start len i : ℕ) → length t ≤ cell_at i Identification + 1 → view doc (with_view t i Identification start len) i Identification ≡ []
unfolding view part_of
row-short doc t start len i h =
    rw (get_or-eq_default (with_view t i Identification start len) 0 {n = cell_at i Identification + 1} (rw (view-set t i Identification start len).size h))

-- P holds of each pair, and of none and none
module _ (x y : List ℕ) (P : List ℕ → List ℕ → Type 0) (empty : P [] []) where
  abbrev pub Shown : List ℕ → Type 0
  Shown t = (i : ℕ) → P (view x t i Identification) (view y t i Identification)

  pub shown-none : (n : ℕ) → Shown (zeros n)
  unfolding view part_of
  shown-none n i = rw (zero-cell n (cell_at i Identification + 1)) empty

  -- a store into a later field of a row
  shown-field : (t : List ℕ) (n : ℕ) (f : Field) (v : ℕ) → 2 ≤ cell_of f → cell_of f < row_width → Shown t → Shown (with_field t n f v)
  shown-field t n f v low high h i = rw (kept x, kept y) (h i)
    where
      kept : (doc : List ℕ) → view doc (with_field t n f v) i Identification ≡ view doc t i Identification
      kept doc = row_kept doc t (cell_at n f) v i (λ e. omega (arith, e)) (λ e. omega (arith, e))

  -- another view
  shown-view : (t : List ℕ) (n : ℕ) (f : Field) (start len : ℕ) → 2 ≤ cell_of f → cell_of f + 1 < row_width → Shown t → Shown (with_view t n f start len)
  shown-view t n f start len low high h i = rw (kept x, kept y) (h i)
    where
      kept : (doc : List ℕ) → view doc (with_view t n f start len) i Identification ≡ view doc t i Identification
      kept doc = view-kept doc t n f start len i Identification (λ e. omega (arith, e)) (λ e. omega (arith, e)) (λ e. omega (arith, e))

  -- the view of an identification
  shown-row : (t : List ℕ) (n start len : ℕ) → Shown t → P (part_of x start len) (part_of y start len) → Shown (with_view t n Identification start len)
  shown-row t n start len h e i =
      ⊎_elim
      (λ q. rw q.0
      (⊎_elim
      (λ l. rw (view-shown x t n Identification start len l.0, view-shown y t n Identification start len l.0) e)
      (λ l. rw (row-short x t start len n l.0, row-short y t start len n l.0) empty)
      (ltb-cases (cell_at n Identification + 1) (length t))))
      (λ q. rw (other q.0 x, other q.0 y) (h i))
      (eqb-cases i n)
    where
      other : (i ≡ n → ⊥) → (doc : List ℕ) → view doc (with_view t n Identification start len) i Identification ≡ view doc t i Identification
      other q doc =
          view-kept doc t n Identification start len i Identification (λ z. q (omega (arith, z))) (λ z. omega (arith, z)) (λ z. omega (arith, z))

  -- v is where the value of the item at the place `at` stands
  shown-after : (at : ℕ) (v : Span) (s : List ℕ) (st : State) (e : Entry) (t : List ℕ) → Shown t
      → (e ≡ BringsIdentification → P (part_of x (at + v.start) v.len) (part_of y (at + v.start) v.len)) → Shown (series_after at v s st e t)
  unfolding series_after series_with brought_by field_after
  shown-after at v s st Nothing t h p = h
  shown-after at v s st BringsIdentification t h p = shown-row t (st.series - 1) (at + v.start) v.len h (p refl)
  shown-after at v s st BringsObject t h p = shown-view t (st.series - 1) Object (at + v.start) v.len (omega arith) (omega arith) h
  shown-after at v s st BringsBusinessType t h p =
      shown-view t (st.series - 1) BusinessType (at + v.start + lead_of (quoted v s)) (length (trimmed_of (quoted v s))) (omega arith) (omega arith) h
  shown-after at v s st BringsDirection t h p =
      shown-view t (st.series - 1) Direction (at + v.start + lead_of (quoted v s)) (length (trimmed_of (quoted v s))) (omega arith) (omega arith) h
  shown-after at v s st BringsArea t h p = shown-view t (st.series - 1) Area (at + v.start) v.len (omega arith) (omega arith) h
  shown-after at v s st Series t h p = shown-field t (st.series - 1) FirstRow st.first (omega arith) (omega arith) h
  shown-after at v s st Interval t h p = shown-field t (st.series - 1) Count (st.intervals - st.first) (omega arith) (omega arith) h
  shown-after at v s st (Position q) t h p = h
  shown-after at v s st Amount t h p = h

  -- and the next one
  pub shown-next : (at : ℕ) (v : Span) (s s' : List ℕ) (st : State) (e : Entry) (t : List ℕ) → s ≡ drop at x → s' ≡ drop at y → Shown t
      → (e ≡ BringsIdentification → P (quoted v s) (quoted v s')) → Shown (series_after at v s st e t)
  shown-next at v s s' st e t ex ey h p = shown-after at v s st e t h (λ id. rw (← value-part x at s v ex, ← value-part y at s' v ey) (p id))

  used-same : (t : List ℕ) → Shown t → (n : ℕ) (id id' : List ℕ) → ((a b : List ℕ) → P a b → same (says a) id ≡ same (says b) id') → used x t n id ≡ used y t n id'
  unfolding used
  used-same t h zero id id' p = refl
  used-same t h (suc n) id id' p = rw (p (view x t n Identification) (view y t n Identification) (h n), used-same t h n id id' p)

  pub same-used : (v : Span) (s s' t : List ℕ) → Shown t → (n : ℕ) (e : Entry)
      → (e ≡ BringsIdentification → (a b : List ℕ) → P a b → same (says a) (says (quoted v s)) ≡ same (says b) (says (quoted v s'))) → used_before x t v s n e ≡ used_before y t v s' n e
  unfolding used_before used_with brought_by used_in
  same-used v s s' t h n Nothing p = refl
  same-used v s s' t h n Series p = refl
  same-used v s s' t h n BringsIdentification p = used-same t h (n - 1) (says (quoted v s)) (says (quoted v s')) (p refl)
  same-used v s s' t h n BringsObject p = refl
  same-used v s s' t h n BringsBusinessType p = refl
  same-used v s s' t h n BringsDirection p = refl
  same-used v s s' t h n BringsArea p = refl
  same-used v s s' t h n Interval p = refl
  same-used v s s' t h n (Position q) p = refl
  same-used v s s' t h n Amount p = refl

-- of a BusinessType and a Direction the row knows how many spaces stand around them
pub same_after : (at : ℕ) (v : Span) (s s' : List ℕ) (st : State) (e : Entry) (t : List ℕ)
    → ((e ≡ BringsBusinessType) ⊎ (e ≡ BringsDirection) → quoted v s ≡ quoted v s') → series_after at v s st e t ≡ series_after at v s' st e t
unfolding series_after series_with brought_by field_after
same_after at v s s' st Nothing t q = refl
same_after at v s s' st Series t q = refl
same_after at v s s' st BringsIdentification t q = refl
same_after at v s s' st BringsObject t q = refl
same_after at v s s' st BringsBusinessType t q = rw (q (inl refl))
same_after at v s s' st BringsDirection t q = rw (q (inr refl))
same_after at v s s' st BringsArea t q = refl
same_after at v s s' st Interval t q = refl
same_after at v s s' st (Position p) t q = refl
same_after at v s s' st Amount t q = refl

-- ---- the first use: where amounts differ, each row shows the same identification in x and in y

pub amounts-tabled : (x y : List ℕ) (R : List ℕ → List ℕ → Type 0) → Tabled R Amount x y
amounts-tabled x y R =
    record {
      Shows = Shown x y ◌≡◌ refl;
      none = shown-none x y ◌≡◌ refl;
      next = λ at v s s' st e t ex ey h q. shown-next x y ◌≡◌ refl at v s s' st e t ex ey h (λ id. same-value (λ am. zero-not-one (cc)) q);
      used = λ v s s' t h n e q.
          same-used x y ◌≡◌ refl v s s' t h n e (λ id a b z. let p = same-value (λ am. zero-not-one (cc)) q in rw (z, p));
      after = λ at v s s' st e t q.
          same_after at v s s' st e t (λ is. same-value (λ am. ⊎_elim (λ b. zero-not-one (cc)) (λ b. zero-not-one (cc)) is) q);
    }
