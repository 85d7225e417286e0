-- Each pair and each row that is counted is lent exactly where `is_lent` tells it. Assumes nothing.
use Prim.Native.Nat.{ℕ, zero, suc, ◌+◌, ◌*◌, ◌/◌, ◌≤◌, ◌<◌}
use mathlib.Core.Path.{◌≡◌, refl, sym, ap, ◌∙◌, subst}
use mathlib.Core.Bool.{Bool, true, false, ◌&&◌, and-eq-true_iff}
use mathlib.Core.Logic.{⊎_elim}
use native.Mathlib.Omega.{arith}
use lib.Dec.{eqb, leb}
use lib.ListN.{length}
use borrow.Author.Tests.{leb-true, le-leb}
use Rattle.lists.proofs.Cases.{eqb-cases}
use Rattle.series.specs.Row.{field_at, cells_of, room_for}
use Rattle.series.specs.declared.Field.TheVariants.{FirstRow, Count}
use Rattle.views.specs.Layout.{header_pairs, series_pairs, cell_of}
use Rattle.drafts.specs.Draft.{Draft, pair_fits, RowsLent, Lent}
use Rattle.drafts.specs.Fit.{is_written, pairs_fit, rows_fit, is_lent}
use Rattle.fitting.specs.Told.{is_text, texts_told}
use Rattle.fitting.proofs.Apart.{both_ways}

pub both_so : (a b : Bool) → a ≡ true → b ≡ true → (a && b) ≡ true
both_so a b x y = (and-eq-true_iff a b).1 (x, y)

-- ---- the pairs

pub texts-told : (d : Draft) (k n : ℕ) → texts_told d.text d.pairs k n ≡ pairs_fit d k n
unfolding texts_told is_text pairs_fit pair_fits
texts-told d k zero = refl
texts-told d k (suc n) = ap (λ (z : Bool). pair_fits d k && z) (texts-told d (suc k) n)

pub pairs-each : (d : Draft) (k n : ℕ) → pairs_fit d k n ≡ true → (j : ℕ) → k ≤ j → j < k + n → pair_fits d j ≡ true
unfolding pairs_fit
pairs-each d k zero h j l m = absurd (omega arith)
pairs-each d k (suc n) h j l m =
    let t = (and-eq-true_iff (pair_fits d k) (pairs_fit d (suc k) n)).0 h in
    ⊎_elim
    (λ (y : (j ≡ k) × (eqb j k ≡ true)). ap (pair_fits d) y.0 ∙ t.0)
    (λ (y : (j ≡ k → ⊥) × (eqb j k ≡ false)). pairs-each d (suc k) n t.1 j (let g = y.0 in omega (arith, g)) (omega arith))
    (eqb-cases j k)

each-pairs : (d : Draft) (k n : ℕ) → ((j : ℕ) → k ≤ j → j < k + n → pair_fits d j ≡ true) → pairs_fit d k n ≡ true
unfolding pairs_fit
each-pairs d k zero h = refl
each-pairs d k (suc n) h = both_so (pair_fits d k) (pairs_fit d (suc k) n) (h k (omega arith) (omega arith)) (each-pairs d (suc k) n (λ j l m. h j (omega arith) (omega arith)))

-- ---- the rows

abbrev end_of : Draft → ℕ → ℕ
end_of d i = field_at d.series i FirstRow + field_at d.series i Count

rows-each : (d : Draft) (i n : ℕ) → rows_fit d i n ≡ true → (j : ℕ) → i ≤ j → j < i + n → RowsLent d j
unfolding rows_fit
rows-each d i zero h j l m = absurd (omega arith)
rows-each d i (suc n) h j l m =
    let p = leb (end_of d i) (length d.positions) in
    let a = leb (end_of d i) (length d.amounts) in
    let t = (and-eq-true_iff (p && a) (rows_fit d (suc i) n)).0 h in
    let u = (and-eq-true_iff p a).0 t.0 in
    ⊎_elim
    (λ (y : (j ≡ i) × (eqb j i ≡ true)).
    subst (RowsLent d) (sym y.0) (record { positions = leb-true (end_of d i) (length d.positions) u.0; amounts = leb-true (end_of d i) (length d.amounts) u.1 }))
    (λ (y : (j ≡ i → ⊥) × (eqb j i ≡ false)). rows-each d (suc i) n t.1 j (let g = y.0 in omega (arith, g)) (omega arith))
    (eqb-cases j i)

each_rows : (d : Draft) (i n : ℕ) → ((j : ℕ) → i ≤ j → j < i + n → RowsLent d j) → rows_fit d i n ≡ true
unfolding rows_fit
each_rows d i zero h = refl
each_rows d i (suc n) h =
    let p = leb (end_of d i) (length d.positions) in
    let a = leb (end_of d i) (length d.amounts) in
    let r = h i (omega arith) (omega arith) in
    both_so (p && a) (rows_fit d (suc i) n)
    (both_so p a (le-leb (end_of d i) (length d.positions) r.positions) (le-leb (end_of d i) (length d.amounts) r.amounts))
    (each_rows d (suc i) n (λ j l m. h j (omega arith) (omega arith)))

-- ---- the whole

pub record LentParts (d : Draft) : Type 0 where
  pub written : is_written d.kind ≡ true
  pub pairs : leb (cell_of (header_pairs + series_pairs * d.count)) (length d.pairs) ≡ true
  pub texts : pairs_fit d 0 (header_pairs + series_pairs * d.count) ≡ true
  pub series : leb (cells_of d.count) (length d.series) ≡ true
  pub rows : rows_fit d 0 d.count ≡ true

module _ (d : Draft) where
  pub lent-parts : is_lent d ≡ true → LentParts d
  unfolding is_lent
  lent-parts h =
      let w = is_written d.kind in
      let p = leb (cell_of (header_pairs + series_pairs * d.count)) (length d.pairs) in
      let t = pairs_fit d 0 (header_pairs + series_pairs * d.count) in
      let s = leb (cells_of d.count) (length d.series) in
      let t4 = (and-eq-true_iff (w && p && t && s) (rows_fit d 0 d.count)).0 h in
      let t3 = (and-eq-true_iff (w && p && t) s).0 t4.0 in
      let t2 = (and-eq-true_iff (w && p) t).0 t3.0 in
      let t1 = (and-eq-true_iff w p).0 t2.0 in
      record { written = t1.0; pairs = t1.1; texts = t2.1; series = t3.1; rows = t4.1 }

  pub parts-lent : LentParts d → is_lent d ≡ true
  unfolding is_lent
  parts-lent l = rw (l.written, l.pairs, l.texts, l.series, l.rows) refl

  -- "pairs or rows past what is lent too": what is told of it
  pub lent-exactly : (is_lent d ≡ true → Lent d) × (Lent d → is_lent d ≡ true)
  unfolding is_written
  lent-exactly = (
    λ h. let l = lent-parts h in
        record {
          kind = l.written;
          pairs = leb-true (cell_of (header_pairs + series_pairs * d.count)) (length d.pairs) l.pairs;
          values = λ k m. pairs-each d 0 (header_pairs + series_pairs * d.count) l.texts k (omega arith) (omega arith);
          series = leb-true (cells_of d.count) (length d.series) l.series;
          rows = λ i m. rows-each d 0 d.count l.rows i (omega arith) (omega arith);
        },
    λ l. parts-lent
        (record {
          written = l.kind;
          pairs = le-leb (cell_of (header_pairs + series_pairs * d.count)) (length d.pairs) l.pairs;
          texts = each-pairs d 0 (header_pairs + series_pairs * d.count) (λ j m n. l.values j (omega arith));
          series = le-leb (cells_of d.count) (length d.series) l.series;
          rows = each_rows d 0 d.count (λ j m n. l.rows j (omega arith));
        }),
  )

-- so many series have room exactly where their cells are there
pub room-told : (count cells : ℕ) → leb count (room_for cells) ≡ leb (cells_of count) cells
room-told count cells =
    both_ways (leb count (cells / 12)) (leb (12 * count) cells)
    (λ e. let l = leb-true count (cells / 12) e in le-leb (12 * count) cells (omega (arith, l)))
    (λ e. let l = leb-true (12 * count) cells e in le-leb count (cells / 12) (omega (arith, l)))
