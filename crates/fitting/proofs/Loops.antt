-- The size of an amount, and the loops over the rows of a series and over the series. Assumes nothing.
use Prim.Native.Nat.{ℕ, zero, suc, ◌+◌, ◌*◌, ◌-◌, ◌≤◌, ◌<◌}
use mathlib.Core.Path.{◌≡◌, refl, sym, ap, ◌∙◌}
use mathlib.Core.List.{List}
use mathlib.Core.Bool.{Bool, true, false, cond, ◌&&◌}
use mathlib.Core.Logic.{⊎_elim}
use native.Mathlib.Omega.{arith}
use native.Mathlib.Numerals.{add-one}
use lib.Dec.{eqb}
use lib.IntN.{ℤ, pos, negsuc}
use lib.ListN.{length, get_or, drop}
use lib.Signed.{lt_z}
use borrow.Author.Tests.{eq-eqb, ne_eqb, le-ltb, lt-ltb, ltb-true, ltb-false}
use Rattle.lists.proofs.Cases.{ltb-cases, by_cond, never}
use Rattle.slices.specs.Same.{same}
use Rattle.slices.specs.Part.{part_of}
use Rattle.columns.specs.Columns.{series_role}
use Rattle.times.specs.Periods.{quarter_hours}
use Rattle.series.specs.Row.{field_at}
use Rattle.series.specs.declared.Field.TheVariants.{FirstRow, Count}
use Rattle.guideline.specs.Kinds.{takes_another, within_most}
use Rattle.views.specs.Layout.{header_pairs, series_pairs, cell_of}
use Rattle.views.specs.Shown.{pair_view}
use Rattle.drafts.specs.Draft.{role_row}
use Rattle.fitting.specs.Told.{singles_told, originals_told, amount_told, row_told, rows_told, count_told, rows_lent, five_or_none, id_of, used_before, series_told, every_told}

-- ---- an amount

pub amount-above : (a : ℤ) → lt_z (negsuc 999999999999999) a ≡ true → lt_z a (pos 1000000000000000) ≡ amount_told a
unfolding amount_told
amount-above (pos n) e = refl
amount-above (negsuc n) e = let h = ltb-true n 999999999999999 e in sym (lt-ltb (suc n) 1000000000000000 (omega (arith, h)))

pub amount-below : (a : ℤ) → lt_z (negsuc 999999999999999) a ≡ false → false ≡ amount_told a
unfolding amount_told
amount-below (pos n) e = never (sym e)
amount-below (negsuc n) e = let h = ltb-false n 999999999999999 e in sym (le-ltb (suc n) 1000000000000000 (omega (arith, h)))

-- ---- how many rows there are

pub one-more : (kind n : ℕ) → (n ≡ 0 → ⊥) → {r : Bool} → r ≡ takes_another kind (n - 1) → r ≡ within_most kind n
unfolding takes_another
one-more kind n d e = let m : suc (n - 1) ≡ n = omega (arith, d) in rw m at e

-- ---- the rows of a series

module _ (kind quarters : ℕ) (positions : List ℕ) (amounts : List ℤ) (first count : ℕ) where
  -- before row j, where the Pos of the row before it is `last`
  pub record Rowing (last j : ℕ) : Type 0 where
    pub left : rows_told kind quarters positions amounts last j (first + count - j) ≡ rows_told kind quarters positions amounts 0 first count

  pub rowing_start : Rowing 0 first
  rowing_start = let e : first + count - first ≡ count = omega arith in record { left = rw e refl }

module _ {kind quarters : ℕ} {positions : List ℕ} {amounts : List ℤ} {first count last j : ℕ} (n : Rowing kind quarters positions amounts first count last j) where
  pub rowing-over : first + count ≤ j → true ≡ rows_told kind quarters positions amounts 0 first count
  unfolding rows_told
  rowing-over h = let e : first + count - j ≡ 0 = omega (arith, h) in rw e at n.left

  module _ (h : j < first + count) where
    one-row : row_told kind quarters last (get_or positions j 0) (get_or amounts j (pos 0))
        && rows_told kind quarters positions amounts (get_or positions j 0) (suc j) (first + count - suc j)
        ≡ rows_told kind quarters positions amounts 0 first count
    unfolding rows_told
    one-row = let e : first + count - j ≡ suc (first + count - suc j) = omega (arith, h) in rw e at n.left

    module _ {p : ℕ} {a : ℤ} {r : Bool} (ep : p ≡ get_or positions j 0) (ea : a ≡ get_or amounts j (pos 0)) (e : r ≡ row_told kind quarters last p a) where
      row_is : r ≡ row_told kind quarters last (get_or positions j 0) (get_or amounts j (pos 0))
      row_is = rw (sym ep, sym ea) e

      pub rowing-fails : r ≡ false → false ≡ rows_told kind quarters positions amounts 0 first count
      rowing-fails t = rw (sym row_is ∙ t) at one-row

      pub rowing-next : r ≡ true → Rowing kind quarters positions amounts first count p (j + 1)
      rowing-next t = record { left = rw (ep, add-one j) (rw (sym row_is ∙ t) at one-row) }

-- ---- a series

module _ (kind from to : ℕ) (text pairs rows : List ℕ) (row k first count : ℕ) (positions : List ℕ) (amounts : List ℤ) where
  module _ {l : Bool} (el : l ≡ rows_lent first count (length positions) (length amounts)) where
    pub rows-missing : l ≡ false → false ≡ series_told kind from to text pairs rows row k first count positions amounts
    unfolding series_told
    rows-missing tl = rw (sym el ∙ tl) refl

    module _ (tl : l ≡ true) {quarters : ℕ} {c : Bool} (eq : quarters ≡ quarter_hours from to) (ec : c ≡ count_told kind quarters count) where
      count-is : c ≡ count_told kind (quarter_hours from to) count
      count-is = rw eq at ec

      pub count-unfit : c ≡ false → false ≡ series_told kind from to text pairs rows row k first count positions amounts
      unfolding series_told
      count-unfit tc = rw (sym el ∙ tl, sym count-is ∙ tc) refl

      module _ (tc : c ≡ true) {s : Bool} (es : s ≡ singles_told kind from to text pairs k (drop row rows)) where
        pub single-unfit : s ≡ false → false ≡ series_told kind from to text pairs rows row k first count positions amounts
        unfolding series_told
        single-unfit ts = rw (sym el ∙ tl, sym count-is ∙ tc, sym es ∙ ts) refl

        module _ (ts : s ≡ true) {o : ℕ} (eo : o ≡ originals_told pairs k (drop row rows)) where
          pub originals-unfit : (o ≡ 0 → ⊥) → eqb o 5 ≡ false → false ≡ series_told kind from to text pairs rows row k first count positions amounts
          unfolding series_told five_or_none
          originals-unfit d z = rw (sym el ∙ tl, sym count-is ∙ tc, sym es ∙ ts, sym eo, ne_eqb o 0 d, z) refl

          module _ {r : Bool} (er : r ≡ rows_told kind quarters positions amounts 0 first count) where
            rows_are : r ≡ rows_told kind (quarter_hours from to) positions amounts 0 first count
            rows_are = rw eq at er

            pub without-originals : o ≡ 0 → r ≡ series_told kind from to text pairs rows row k first count positions amounts
            unfolding series_told five_or_none
            without-originals z = rw (sym el ∙ tl, sym count-is ∙ tc, sym es ∙ ts, sym eo, eq-eqb o 0 z) rows_are

            pub with-originals : (o ≡ 0 → ⊥) → eqb o 5 ≡ true → r ≡ series_told kind from to text pairs rows row k first count positions amounts
            unfolding series_told five_or_none
            with-originals d z = rw (sym el ∙ tl, sym count-is ∙ tc, sym es ∙ ts, sym eo, ne_eqb o 0 d, z) rows_are

-- ---- an identification that was used before

-- what the first pair of series i shows
abbrev pub id_shown : List ℕ → List ℕ → ℕ → List ℕ
id_shown text pairs i =
    part_of text (get_or pairs (cell_of (header_pairs + series_pairs * i)) 0) (get_or pairs (cell_of (header_pairs + series_pairs * i) + 1) 0)

id-shown : (text pairs : List ℕ) (i : ℕ) → id_shown text pairs i ≡ id_of text pairs i
unfolding id_of pair_view
id-shown text pairs i = refl

used-at : (text pairs : List ℕ) (i n j : ℕ) → j < n → same (id_of text pairs i) (id_of text pairs j) ≡ true → true ≡ used_before text pairs i n
unfolding used_before
used-at text pairs i zero j h e = absurd (omega (arith, h))
used-at text pairs i (suc n) j h e =
    ⊎_elim
    (λ y. by_cond (λ (b : Bool). true ≡ b) (same (id_of text pairs i) (id_of text pairs n)) refl (used-at text pairs i n j y.0 e))
    (λ y. let m : j ≡ n = omega (arith, h, y.0) in rw (rw m at e) refl)
    (ltb-cases j n)

-- before series j, of those before series i
pub record Unused (text pairs : List ℕ) (i j : ℕ) : Type 0 where
  pub none : used_before text pairs i j ≡ false
  pub low : j ≤ i

pub unused-start : (text pairs : List ℕ) (i : ℕ) → Unused text pairs i 0
unfolding used_before
unused-start text pairs i = record { none = refl; low = omega arith }

module _ {text pairs : List ℕ} {i j : ℕ} (n : Unused text pairs i j) where
  pub unused-over : i ≤ j → false ≡ used_before text pairs i i
  unused-over h = let l = n.low in sym n.none ∙ ap (used_before text pairs i) (omega (arith, l, h))

  module _ (h : j < i) {a b : List ℕ} {r : Bool} (ea : a ≡ id_shown text pairs i) (eb : b ≡ id_shown text pairs j) (e : r ≡ same a b) where
    same-is : r ≡ same (id_of text pairs i) (id_of text pairs j)
    same-is = rw (sym (id-shown text pairs i), sym (id-shown text pairs j), sym ea, sym eb) e

    pub unused-fails : r ≡ true → true ≡ used_before text pairs i i
    unused-fails t = used-at text pairs i i j h (sym same-is ∙ t)

    pub unused-next : r ≡ false → Unused text pairs i (j + 1)
    unfolding used_before
    unused-next t = record { none = rw (add-one j, sym same-is ∙ t) n.none; low = omega (arith, h) }

-- ---- the series

module _ (kind from to : ℕ) (text pairs rows series positions : List ℕ) (amounts : List ℤ) (count : ℕ) where
  -- before series i
  pub record Telling (i : ℕ) : Type 0 where
    pub left : every_told kind from to text pairs rows series positions amounts i (count - i) ≡ every_told kind from to text pairs rows series positions amounts 0 count

  pub telling-start : Telling 0
  telling-start = let e : count - 0 ≡ count = omega arith in record { left = rw e refl }

module _ {kind from to : ℕ} {text pairs rows series positions : List ℕ} {amounts : List ℤ} {count i : ℕ}
    (n : Telling kind from to text pairs rows series positions amounts count i) where
  pub telling-over : count ≤ i → true ≡ every_told kind from to text pairs rows series positions amounts 0 count
  unfolding every_told
  telling-over h = let e : count - i ≡ 0 = omega (arith, h) in rw e at n.left

  module _ (h : i < count) {row first m : ℕ} {s : Bool} (er : row ≡ role_row series_role rows) (ef : first ≡ field_at series i FirstRow) (em : m ≡ field_at series i Count)
      (e : s ≡ series_told kind from to text pairs rows (row + 1) (header_pairs + series_pairs * i) first m positions amounts) where
    one-series : cond s (cond (used_before text pairs i i) false (every_told kind from to text pairs rows series positions amounts (suc i) (count - suc i))) false
        ≡ every_told kind from to text pairs rows series positions amounts 0 count
    unfolding every_told
    one-series =
        let l : count - i ≡ suc (count - suc i) = omega (arith, h) in
        let w : row + 1 ≡ suc (role_row series_role rows) = omega (arith, er) in
        rw (rw (w, ef, em) at e) (rw l at n.left)

    pub telling-fails : s ≡ false → false ≡ every_told kind from to text pairs rows series positions amounts 0 count
    telling-fails t = rw t at one-series

    module _ (t : s ≡ true) {u : Bool} (eu : u ≡ used_before text pairs i i) where
      pub telling-used : u ≡ true → false ≡ every_told kind from to text pairs rows series positions amounts 0 count
      telling-used v = rw (t, sym eu ∙ v) at one-series

      pub telling-next : u ≡ false → Telling kind from to text pairs rows series positions amounts count (i + 1)
      telling-next v = record { left = rw (add-one i) (rw (t, sym eu ∙ v) at one-series) }
