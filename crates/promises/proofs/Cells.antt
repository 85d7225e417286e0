-- What an item brings into the tables stays within their rows. Assumes nothing.
use Prim.Native.Nat.{ℕ, ◌+◌, ◌-◌, ◌≤◌, ◌<◌}
use mathlib.Core.Path.{◌≡◌, refl, ◌∙◌}
use mathlib.Core.List.{List}
use mathlib.Core.Logic.{⊎_elim}
use native.Mathlib.Omega.{arith}
use lib.IntN.{ℤ, pos}
use lib.ListN.{length, set, replicate, length-set, get_or-replicate, get_or-eq_default, length-replicate}
use lib.Seq.{get_or-set_other}
use Rattle.items.specs.Parts.{span_of}
use Rattle.lists.proofs.Cases.{ltb-cases}
use Rattle.slices.specs.declared.Span.{Span}
use Rattle.trims.specs.Trim.{lead_of, trimmed_of}
use Rattle.states.specs.declared.State.{State}
use Rattle.states.specs.declared.Room.{Room}
use Rattle.states.specs.declared.Entry.{Entry}
use Rattle.states.specs.declared.Entry.TheVariants.{Nothing, Series, Interval, Position, Amount}
use Rattle.states.specs.declared.Entry.TheVariants.{Identification as BringsIdentification, Object as BringsObject, BusinessType as BringsBusinessType, Direction as BringsDirection, Area as BringsArea}
use Rattle.reader.specs.Items.{Placed}
use Rattle.series.specs.Row.{cell_of, row_width, cells_of, cell_at, with_field, with_view}
use Rattle.series.specs.declared.Field.{Field}
use Rattle.series.specs.declared.Field.TheVariants.{Identification, Object, BusinessType, Direction, Area, FirstRow, Count}
use Rattle.series.proofs.Rows.{view-set}
use Rattle.reader.specs.Rows.{brought_by, quoted, field_after, series_with, positions_with, amounts_with, series_after, positions_after, amounts_after}
use Rattle.reader.specs.Reading.{Tables, blank, tables_after}
use Rattle.promises.specs.Rows.{ZeroFrom, ZeroPast, Sized}
use Rattle.promises.proofs.Steps.{Fits, Stepped}

module _ {A : Type 0} (z : A) (n : ℕ) where
  -- n may rise
  rise : (m : ℕ) (l : List A) → m ≤ n → ZeroFrom m z l → ZeroFrom n z l
  rise m l h p j k = p j (omega arith)

  -- a store before cell n
  store : (l : List A) (i : ℕ) (v : A) → i < n → ZeroFrom n z l → ZeroFrom n z (set l i v)
  store l i v h p j k = get_or-set_other l i j v z (λ e. absurd (omega arith)) ∙ p j k

zero-all : {A : Type 0} (z : A) (n m : ℕ) → ZeroFrom m z (replicate n z)
zero-all z n m j h =
    ⊎_elim
    (λ y. get_or-replicate n j z z y.0)
    (λ y. get_or-eq_default (replicate n z) z (rw length-replicate y.0))
    (ltb-cases j n)

pub blank-past : (ns np na series intervals : ℕ) → ZeroPast series intervals (blank ns np na)
unfolding blank
blank-past ns np na series intervals =
    record { series-cells = zero-all 0 ns (cells_of series); positions = zero-all 0 np intervals; amounts = zero-all (pos 0) na intervals }

-- a row that is one of n has its cells before those past them
view-past : (n : ℕ) (f : Field) (start len : ℕ) (t : List ℕ) → 1 ≤ n → cell_of f + 1 < row_width → ZeroFrom (cells_of n) 0 t
    → ZeroFrom (cells_of n) 0 (with_view t (n - 1) f start len)
view-past n f start len t h m p j k =
    (view-set t (n - 1) f start len).others j (λ e. omega (arith, e)) (λ e. omega (arith, e)) ∙ p j k

field_past : (n : ℕ) (f : Field) (v : ℕ) (t : List ℕ) → 1 ≤ n → cell_of f < row_width → ZeroFrom (cells_of n) 0 t → ZeroFrom (cells_of n) 0 (with_field t (n - 1) f v)
field_past n f v t h m p = store 0 (cells_of n) t (cell_at (n - 1) f) v (omega arith) p

pub blank-sized : (ns np na : ℕ) → Sized ns np na (blank ns np na)
unfolding blank
blank-sized ns np na = record { series = length-replicate ns 0; positions = length-replicate np 0; amounts = length-replicate na (pos 0) }

module _ (at : ℕ) (v : Span) (s : List ℕ) (y : State) where
  row-size : (f : Field) (t : List ℕ) → length (field_after at v s y f t) ≡ length t
  unfolding field_after
  row-size Identification t = (view-set t _ Identification _ _).size
  row-size Object t = (view-set t _ Object _ _).size
  row-size BusinessType t = (view-set t _ BusinessType _ _).size
  row-size Direction t = (view-set t _ Direction _ _).size
  row-size Area t = (view-set t _ Area _ _).size
  row-size FirstRow t = simp length-set
  row-size Count t = simp length-set

  series-size : (e : Entry) (t : List ℕ) → length (series_after at v s y e t) ≡ length t
  unfolding series_after series_with brought_by
  series-size Nothing t = refl
  series-size Series t = row-size FirstRow t
  series-size BringsIdentification t = row-size Identification t
  series-size BringsObject t = row-size Object t
  series-size BringsBusinessType t = row-size BusinessType t
  series-size BringsDirection t = row-size Direction t
  series-size BringsArea t = row-size Area t
  series-size Interval t = row-size Count t
  series-size (Position q) t = refl
  series-size Amount t = refl

  positions-size : (e : Entry) (t : List ℕ) → length (positions_after y e t) ≡ length t
  unfolding positions_after positions_with brought_by
  positions-size Nothing t = refl
  positions-size Series t = refl
  positions-size BringsIdentification t = refl
  positions-size BringsObject t = refl
  positions-size BringsBusinessType t = refl
  positions-size BringsDirection t = refl
  positions-size BringsArea t = refl
  positions-size Interval t = refl
  positions-size (Position q) t = simp length-set
  positions-size Amount t = refl

  amounts-size : (e : Entry) (t : List ℤ) → length (amounts_after v s y e t) ≡ length t
  unfolding amounts_after amounts_with brought_by
  amounts-size Nothing t = refl
  amounts-size Series t = refl
  amounts-size BringsIdentification t = refl
  amounts-size BringsObject t = refl
  amounts-size BringsBusinessType t = refl
  amounts-size BringsDirection t = refl
  amounts-size BringsArea t = refl
  amounts-size Interval t = refl
  amounts-size (Position q) t = refl
  amounts-size Amount t = simp length-set

  row-past : (f : Field) (t : List ℕ) → 1 ≤ y.series → ZeroFrom (cells_of y.series) 0 t → ZeroFrom (cells_of y.series) 0 (field_after at v s y f t)
  unfolding field_after
  row-past Identification t h p = view-past y.series Identification (at + v.start) v.len t h (omega arith) p
  row-past Object t h p = view-past y.series Object (at + v.start) v.len t h (omega arith) p
  row-past BusinessType t h p =
      view-past y.series BusinessType (at + v.start + lead_of (quoted v s)) (length (trimmed_of (quoted v s))) t h (omega arith) p
  row-past Direction t h p =
      view-past y.series Direction (at + v.start + lead_of (quoted v s)) (length (trimmed_of (quoted v s))) t h (omega arith) p
  row-past Area t h p = view-past y.series Area (at + v.start) v.len t h (omega arith) p
  row-past FirstRow t h p = field_past y.series FirstRow y.first t h (omega arith) p
  row-past Count t h p = field_past y.series Count (y.intervals - y.first) t h (omega arith) p

  series-past : (e : Entry) (t : List ℕ) → Fits y e → ZeroFrom (cells_of y.series) 0 t → ZeroFrom (cells_of y.series) 0 (series_after at v s y e t)
  unfolding series_after series_with brought_by
  series-past Nothing t f p = p
  series-past Series t f p = row-past FirstRow t f p
  series-past BringsIdentification t f p = row-past Identification t f p
  series-past BringsObject t f p = row-past Object t f p
  series-past BringsBusinessType t f p = row-past BusinessType t f p
  series-past BringsDirection t f p = row-past Direction t f p
  series-past BringsArea t f p = row-past Area t f p
  series-past Interval t f p = row-past Count t f p
  series-past (Position q) t f p = p
  series-past Amount t f p = p

  positions-past : (e : Entry) (t : List ℕ) → Fits y e → ZeroFrom y.intervals 0 t → ZeroFrom y.intervals 0 (positions_after y e t)
  unfolding positions_after positions_with brought_by
  positions-past Nothing t f p = p
  positions-past Series t f p = p
  positions-past BringsIdentification t f p = p
  positions-past BringsObject t f p = p
  positions-past BringsBusinessType t f p = p
  positions-past BringsDirection t f p = p
  positions-past BringsArea t f p = p
  positions-past Interval t f p = p
  positions-past (Position q) t f p = store 0 y.intervals t (y.intervals - 1) q (omega arith) p
  positions-past Amount t f p = p

  amounts-past : (e : Entry) (t : List ℤ) → Fits y e → ZeroFrom y.intervals (pos 0) t → ZeroFrom y.intervals (pos 0) (amounts_after v s y e t)
  unfolding amounts_after amounts_with brought_by
  amounts-past Nothing t f p = p
  amounts-past Series t f p = p
  amounts-past BringsIdentification t f p = p
  amounts-past BringsObject t f p = p
  amounts-past BringsBusinessType t f p = p
  amounts-past BringsDirection t f p = p
  amounts-past BringsArea t f p = p
  amounts-past Interval t f p = p
  amounts-past (Position q) t f p = p
  amounts-past Amount t f p = store (pos 0) y.intervals t (y.intervals - 1) _ (omega arith) p

pub step-sized : (ns np na : ℕ) (p : Placed) (y : State) (e : Entry) (t : Tables) → Sized ns np na t → Sized ns np na (tables_after p y e t)
unfolding tables_after
step-sized ns np na p y e t z =
    record {
      series = series-size p.at (span_of p.item) p.rest y e t.series ∙ z.series;
      positions = positions-size p.at (span_of p.item) p.rest y e t.positions ∙ z.positions;
      amounts = amounts-size p.at (span_of p.item) p.rest y e t.amounts ∙ z.amounts;
    }

pub step_past : (room : Room) (p : Placed) (x y : State) (e : Entry) (t : Tables) → Stepped room x y e → ZeroPast x.series x.intervals t
    → ZeroPast y.series y.intervals (tables_after p y e t)
unfolding tables_after
step_past room p x y e t s z =
    let c = s.counts in
    record {
      series-cells =
          series-past p.at (span_of p.item) p.rest y e t.series s.fits
          (rise 0 (cells_of y.series) (cells_of x.series) t.series (omega (arith, c.series-up)) z.series-cells);
      positions =
          positions-past p.at (span_of p.item) p.rest y e t.positions s.fits
          (rise 0 y.intervals x.intervals t.positions c.intervals-up z.positions);
      amounts =
          amounts-past p.at (span_of p.item) p.rest y e t.amounts s.fits
          (rise (pos 0) y.intervals x.intervals t.amounts c.intervals-up z.amounts);
    }
