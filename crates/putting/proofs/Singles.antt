-- What stands of an attribute, of an element of a single value, and of the rows from one on, by what the code has found.
-- Assumes nothing.
use mathlib.Core.Path.{◌≡◌, refl}
use mathlib.Core.List.{List, [], ◌++◌}
use mathlib.Core.Bool.{Bool, true, false, not}
use Prim.Native.Nat.{ℕ, ◌+◌, ◌*◌, ◌≤◌, ◌<◌}
use native.Mathlib.Numerals.{add-one}
use native.Mathlib.Omega.{arith}
use lib.ListN.{length, get_or, drop, drop_of_length-le}
use lib.Seq.{sets, drop-cons}
use borrow.Author.Tests.{ne_eqb}
use Rattle.slices.specs.Text.{text}
use Rattle.slices.specs.Part.{part_of}
use Rattle.columns.specs.Columns.{role_of}
use Rattle.states.specs.Attributes.{asks_v, asks_scheme}
use Rattle.views.specs.Layout.{cell_of}
use Rattle.views.specs.Shown.{pair_view}
use Rattle.escapes.specs.Escaped.{escaped}
use Rattle.drafts.specs.Draft.{is_no_pair}
use Rattle.drafts.specs.Pairs.{pairs_of, has_pair}
use Rattle.putting.specs.Sheet.{landed, attribute_of, open_text, scheme_text, has_value, single_text, singles_text}
use Rattle.putting.proofs.Landing.{took, Left, left-start, left-more, left_end}

-- whether pair k is there, as the code tells it
abbrev Found : List ℕ → ℕ → Bool → Type 0
Found pairs k g = g ≡ not (is_no_pair (get_or pairs (cell_of k) 0) (get_or pairs (cell_of k + 1) 0))

-- ---- an attribute

pub no-attribute : (opens t pairs : List ℕ) (k : ℕ) (g : Bool) → Found pairs k g → g ≡ false → [] ≡ attribute_of opens t pairs k
unfolding attribute_of has_pair
no-attribute opens t pairs k g f n = rw (← f, n) refl

pub an-attribute : (opens t pairs : List ℕ) (k : ℕ) (g : Bool) → Found pairs k g → g ≡ true → (v : List ℕ) → v ≡ part_of t (get_or pairs (cell_of k) 0) (get_or pairs (cell_of k + 1) 0)
    → opens ++ (escaped v ++ text "\"") ≡ attribute_of opens t pairs k
unfolding attribute_of has_pair pair_view
an-attribute opens t pairs k g f y v e = rw (← f, y, e) refl

-- ---- an element of a single value, of row w

pub value-first : (pairs : List ℕ) (w k : ℕ) (g : Bool) → Found pairs k g → g ≡ true → true ≡ has_value pairs w k
unfolding has_value has_pair
value-first pairs w k g f y = rw (← f, y) refl

pub value-scheme : (pairs : List ℕ) (w k : ℕ) (g : Bool) → Found pairs k g → g ≡ false → (s : Bool) → s ≡ asks_scheme w → s ≡ true → (h : Bool) → Found pairs (k + 1) h
    → h ≡ has_value pairs w k
unfolding has_value has_pair
value-scheme pairs w k g f n s e y h d = rw (← f, n, ← e, y) d

pub value_none : (pairs : List ℕ) (w k : ℕ) (g : Bool) → Found pairs k g → g ≡ false → (s : Bool) → s ≡ asks_scheme w → s ≡ false → false ≡ has_value pairs w k
unfolding has_value has_pair
value_none pairs w k g f n s e z = rw (← f, n, ← e, z) refl

pub no-scheme : (t pairs : List ℕ) (w k : ℕ) (s : Bool) → s ≡ asks_scheme w → s ≡ false → [] ≡ scheme_text t pairs w k
unfolding scheme_text
no-scheme t pairs w k s e n = rw (← e, n) refl

pub a-scheme : (t pairs : List ℕ) (w k : ℕ) (s : Bool) → s ≡ asks_scheme w → s ≡ true → attribute_of (text " codingScheme=\"") t pairs (k + 1) ≡ scheme_text t pairs w k
unfolding scheme_text
a-scheme t pairs w k s e y = rw (← e, y) refl

pub no-single : (t pairs : List ℕ) (w k : ℕ) (h : Bool) → h ≡ has_value pairs w k → h ≡ false → [] ≡ single_text t pairs w k
unfolding single_text
no-single t pairs w k h e n = rw (← e, n) refl

pub a-single : (t pairs : List ℕ) (w k : ℕ) (h : Bool) → h ≡ has_value pairs w k → h ≡ true
    → open_text w ++ (attribute_of (text " v=\"") t pairs k ++ (scheme_text t pairs w k ++ text "/>")) ≡ single_text t pairs w k
unfolding single_text
a-single t pairs w k h e y = rw (← e, y) refl

-- ---- the rows from q on, whose first pair is `next`; no more pairs are passed than two for each row

pub record Going (out₀ : List ℕ) (at : ℕ) (t pairs rows : List ℕ) (row k : ℕ) (out : List ℕ) (end q next : ℕ) : Type 0 where
  pub left : Left out₀ at (singles_text t pairs k (drop row rows)) out end (singles_text t pairs next (drop q rows))
  pub few : next ≤ 99999999000 + 2 * q

pub going_start : (out : List ℕ) (at : ℕ) (t pairs rows : List ℕ) (row k : ℕ) → at ≤ length out + 1 → k ≤ 99999999000 → Going out at t pairs rows row k out at row k
going_start out at t pairs rows row k h l = record { left = left-start out at _ h; few = omega (arith, l) }

module _ (t pairs rows : List ℕ) (q next : ℕ) where
  rows-over : length rows ≤ q → singles_text t pairs next (drop q rows) ≡ []
  unfolding singles_text
  rows-over h = rw (drop_of_length-le rows h) refl

  module _ (h : q < length rows) (v : Bool) (e : v ≡ asks_v (get_or rows q 0)) where
    row-value : v ≡ true → singles_text t pairs next (drop q rows) ≡ single_text t pairs (get_or rows q 0) next ++ singles_text t pairs (next + pairs_of (get_or rows q 0)) (drop (q + 1) rows)
    unfolding singles_text
    row-value y = rw (drop-cons rows q 0 h, ← e, y, add-one q) refl

    module _ (z : v ≡ false) (a : ℕ) (i : a ≡ role_of (get_or rows q 0)) where
      row-period : a ≡ 3 → singles_text t pairs next (drop q rows) ≡ text "<Period>" ++ singles_text t pairs next (drop (q + 1) rows)
      unfolding singles_text
      row-period y = rw (drop-cons rows q 0 h, ← e, z, ← i, y, add-one q) refl

      row_other : (a ≡ 3 → ⊥) → singles_text t pairs next (drop q rows) ≡ []
      unfolding singles_text
      row_other n = rw (drop-cons rows q 0 h, ← e, z, ← i, ne_eqb a 3 n) refl

module _ {out₀ : List ℕ} {at : ℕ} {t pairs rows : List ℕ} {row k : ℕ} {out : List ℕ} {end q next : ℕ} (g : Going out₀ at t pairs rows row k out end q next) where
  abbrev Whole : Type 0
  Whole = (end ≡ landed out₀ at (singles_text t pairs k (drop row rows))) × (out ≡ sets out₀ at (singles_text t pairs k (drop row rows)))

  pub going-over : length rows ≤ q → Whole
  going-over h = left_end g.left (rows-over t pairs rows q next h)

  module _ (h : q < length rows) {v : Bool} (e : v ≡ asks_v (get_or rows q 0)) where
    -- a row with a `v`
    pub going-value : v ≡ true → {o o' : List ℕ} {r r' n m : ℕ}
        → (r ≡ landed out end (single_text t pairs (get_or rows q 0) next)) × (o ≡ sets out end (single_text t pairs (get_or rows q 0) next))
        → (n ≡ pairs_of (get_or rows q 0)) × (n ≤ 2) → o' ≡ o → r' ≡ r → m ≡ next + n → Going out₀ at t pairs rows row k o' r' (q + 1) m
    going-value y {o} {o'} {r} {r'} {n} {m} p s eo er em =
        let l : Left out₀ at (singles_text t pairs k (drop row rows)) o r (singles_text t pairs (next + n) (drop (q + 1) rows)) =
        rw s.0 (left-more g.left (row-value t pairs rows q next h v e y) (took (single_text t pairs (get_or rows q 0) next) p)) in
        record { left = rw (eo, er, em) l; few = omega (arith, g.few, s.1, em) }

    module _ (z : v ≡ false) {a : ℕ} (i : a ≡ role_of (get_or rows q 0)) where
      -- the Period
      pub going-period : a ≡ 3 → {o o' : List ℕ} {r r' m : ℕ} → (r ≡ landed out end (text "<Period>")) × (o ≡ sets out end (text "<Period>")) → o' ≡ o → r' ≡ r → m ≡ next
          → Going out₀ at t pairs rows row k o' r' (q + 1) m
      going-period y {o} {o'} {r} {r'} {m} p eo er em =
          let l : Left out₀ at (singles_text t pairs k (drop row rows)) o r (singles_text t pairs next (drop (q + 1) rows)) =
          left-more g.left (row-period t pairs rows q next h v e z a i y) (took (text "<Period>") p) in
          record { left = rw (eo, er, em) l; few = omega (arith, g.few, em) }

      -- what else has no `v`
      pub going-out : (a ≡ 3 → ⊥) → Whole
      going-out n = left_end g.left (row_other t pairs rows q next h v e z a i n)
