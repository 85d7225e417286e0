-- The loops over pairs, bytes, characters and rows that judge the values of a draft. Assumes nothing.
use Prim.Native.Nat.{ℕ, zero, suc, ◌+◌, ◌*◌, ◌-◌, ◌≤◌, ◌<◌}
use mathlib.Core.Path.{◌≡◌, refl, sym, ap, ◌∙◌}
use mathlib.Core.List.{List, [], ◌∷◌}
use mathlib.Core.Bool.{Bool, true, false, not, cond, ◌||◌}
use lib.Dec.{eqb}
use Rattle.std.specs.List.{list_any}
use native.Mathlib.Omega.{arith}
use native.Mathlib.Nat.{zero-add}
use native.Mathlib.Numerals.{add-one}
use lib.ListN.{length, drop, get_or, drop_of_length-le, length-drop}
use lib.Seq.{drop-cons, drop-drop}
use borrow.Author.Tests.{eq-eqb, ne_eqb, not-true, not-false}
use Rattle.std.specs.Prelude.{Option, Some, None, unwrap_or}
use Rattle.characters.specs.Utf8.{char_use, char_at}
use Rattle.characters.specs.Says.{says}
use Rattle.slices.specs.Part.{part_of}
use Rattle.trims.specs.Trim.{dropped, trimmed_of}
use Rattle.trims.proofs.Trimming.{trimmed-says}
use Rattle.escapes.specs.Spelled.{chars_after, chars_of}
use Rattle.columns.specs.Columns.{form_of, role_of, period_form, period_role, original_role}
use Rattle.states.specs.Attributes.{asks_v}
use Rattle.views.specs.Layout.{cell_of}
use Rattle.views.specs.Shown.{pair_view}
use Rattle.drafts.specs.Draft.{is_no_pair}
use Rattle.drafts.specs.Pairs.{has_pair, pairs_of}
use Rattle.fitting.specs.Told.{is_text, texts_told, has_ampersand, single_told, singles_told, originals_told, covered_pair}

-- ---- what a pair is, and shows, and what is left of a value without its spaces: as the code and as the definitions say it

pub as-given : (pairs : List ℕ) (k : ℕ) {g : Bool} → g ≡ not (is_no_pair (get_or pairs (cell_of k) 0) (get_or pairs (cell_of k + 1) 0)) → g ≡ has_pair pairs k
unfolding has_pair
as-given pairs k e = e

pub as-shown : (text pairs : List ℕ) (k : ℕ) {s : List ℕ} → s ≡ part_of text (get_or pairs (cell_of k) 0) (get_or pairs (cell_of k + 1) 0) → pair_view text pairs k ≡ s
unfolding pair_view
as-shown text pairs k e = sym e

pub as-trimmed : (v : List ℕ) {t : List ℕ} → t ≡ trimmed_of v → dropped (says v) ≡ says t
as-trimmed v e = sym (ap says e ∙ trimmed-says v)

-- a is what a call answered of which `!a` was tested, b what that is
module _ {a b : Bool} (e : a ≡ b) where
  pub not_so : not a ≡ true → b ≡ false
  not_so t = sym e ∙ not-true a t

  pub is-so : not a ≡ false → b ≡ true
  is-so t = sym e ∙ not-false a t

-- ---- the pairs that lie in the text

-- the n pairs are told from pair k on
pub record Texts (text pairs : List ℕ) (n k : ℕ) : Type 0 where
  pub left : texts_told text pairs k (n - k) ≡ texts_told text pairs 0 n
  pub inside : k ≤ n

pub texts-start : (text pairs : List ℕ) (n : ℕ) → Texts text pairs n 0
texts-start text pairs n = let z : n - 0 ≡ n = omega arith in record { left = rw z refl; inside = omega arith }

module _ {text pairs : List ℕ} {n k : ℕ} (r : Texts text pairs n k) where
  pub texts-not : k < n → is_text text pairs k ≡ false → false ≡ texts_told text pairs 0 n
  unfolding texts_told
  texts-not h e =
      let m : n - k ≡ suc (n - (k + 1)) = omega arith in
      let z : texts_told text pairs k (n - k) ≡ false = rw (m, e) refl in
      sym z ∙ r.left

  pub texts-next : k < n → is_text text pairs k ≡ true → Texts text pairs n (k + 1)
  unfolding texts_told
  texts-next h e =
      let m : n - k ≡ suc (n - (k + 1)) = omega arith in
      let z : texts_told text pairs k (n - k) ≡ texts_told text pairs (k + 1) (n - (k + 1)) = rw (m, e, add-one k) refl in
      record { left = sym z ∙ r.left; inside = omega (arith, h) }

  pub texts-over : n ≤ k → true ≡ texts_told text pairs 0 n
  unfolding texts_told
  texts-over h =
      let m : n - k ≡ 0 = omega arith in
      let z : texts_told text pairs k (n - k) ≡ true = rw m refl in
      sym z ∙ r.left

-- ---- the bytes of a value

or_cond : (t : Bool) {a b : Bool} → a ≡ b → (t || a) ≡ cond t true b
or_cond true e = refl
or_cond false e = e

pub any-ampersand : (v : List ℕ) → list_any (λ b. eqb b 0x26) v ≡ has_ampersand v
unfolding has_ampersand
any-ampersand [] = refl
any-ampersand (b ∷ v) = or_cond (eqb b 0x26) (any-ampersand v)

-- ---- the characters of a text

skip : (k : ℕ) (v : List ℕ) → chars_after k v ≡ chars_after 0 (drop k v)
unfolding chars_after
skip zero v = refl
skip (suc k) [] = refl
skip (suc k) (b ∷ t) = skip k t

chars-one : (v : List ℕ) (c n : ℕ) → 0 < length v → char_at v ≡ Some (c, n) → 1 ≤ n → chars_of v ≡ c ∷ chars_of (drop n v)
unfolding chars_of chars_after
chars-one [] c n p q m = absurd (omega arith)
chars-one (b ∷ t) c zero p q m = absurd (omega arith)
chars-one (b ∷ t) c (suc n) p q m = rw (chars_after, q) (ap (λ (l : List ℕ). c ∷ l) (skip n t))

chars-stray : (v : List ℕ) → 0 < length v → char_at v ≡ None → chars_of v ≡ 0 ∷ chars_of (drop 1 v)
unfolding chars_of chars_after
chars-stray [] p q = absurd (omega arith)
chars-stray (b ∷ t) p q = rw (chars_after, q) refl

-- n characters are counted, which take i bytes
pub record Counted (v : List ℕ) (n i : ℕ) : Type 0 where
  pub left : n + length (chars_of (drop i v)) ≡ length (chars_of v)
  pub few : n ≤ i

pub counted_start : (v : List ℕ) → Counted v 0 0
counted_start v = record { left = zero-add _; few = omega arith }

module _ {v : List ℕ} {n i : ℕ} (r : Counted v n i) where
  -- x is what `char_at` answered on s, the rest of v from i on
  module _ {s : List ℕ} {x : Option (ℕ × ℕ)} (h : i < length v) (a : s ≡ drop i v) (e : x ≡ char_at s) where
    here : char_at (drop i v) ≡ x
    here = ap char_at (sym a) ∙ sym e

    more : 0 < length (drop i v)
    more = rw length-drop (omega arith)

    counted-one : {c k : ℕ} → x ≡ Some (c, k) → 1 ≤ k → Counted v (n + 1) (i + k)
    counted-one {c} {k} q m =
        let z : length (chars_of (drop i v)) ≡ suc (length (chars_of (drop (i + k) v))) =
        rw (← drop-drop k i v) (ap length (chars-one (drop i v) c k more (here ∙ q) m)) in
        let l = r.left in
        let f = r.few in
        record { left = omega (arith, z, l); few = omega (arith, f, m) }

    counted-stray : x ≡ None → Counted v (n + 1) (i + 1)
    counted-stray q =
        let z : length (chars_of (drop i v)) ≡ suc (length (chars_of (drop (i + 1) v))) =
        rw (← drop-drop 1 i v) (ap length (chars-stray (drop i v) more (here ∙ q))) in
        let l = r.left in
        let f = r.few in
        record { left = omega (arith, z, l); few = omega (arith, f) }

    pub counted-next : {k : ℕ} → k ≡ (unwrap_or x (0, 1)).1 → 1 ≤ char_use x → Counted v (n + 1) (i + k)
    counted-next {k} u m = rw u (by x refl m)
      where
        by : (y : Option (ℕ × ℕ)) → x ≡ y → 1 ≤ char_use y → Counted v (n + 1) (i + (unwrap_or y (0, 1)).1)
        by None q m = counted-stray q
        by (Some (c, k)) q m = counted-one q m

  pub counted-over : length v ≤ i → n ≡ length (chars_of v)
  unfolding chars_of chars_after
  counted-over h =
      let z : length (chars_of (drop i v)) ≡ 0 = rw (drop_of_length-le v h) refl in
      let l = r.left in
      omega (arith, z, l)

-- ---- the pair of TimePeriodCovered

pub record Covering (rows : List ℕ) (k q : ℕ) : Type 0 where
  pub left : covered_pair k (drop q rows) ≡ covered_pair 3 (drop 2 rows)
  pub low : k ≤ 2 * q
  pub most : q ≤ 34

pub covering-start : (rows : List ℕ) → Covering rows 3 2
covering-start rows = record { left = refl; low = omega arith; most = omega arith }

module _ {rows : List ℕ} {k q : ℕ} (r : Covering rows k q) where
  size : k ≤ 71
  size = omega (arith, r.low, r.most)

  pub covering-here : q < length rows → form_of (get_or rows q 0) ≡ period_form → (k ≡ covered_pair 3 (drop 2 rows)) × (k ≤ 71)
  unfolding covered_pair
  covering-here h e = let z : covered_pair k (drop q rows) ≡ k = rw (drop-cons rows q 0 h, eq-eqb _ _ e) refl in (sym z ∙ r.left, size)

  pub covering-next : {p : ℕ} → q < length rows → length rows ≤ 34 → (form_of (get_or rows q 0) ≡ period_form → ⊥) → p ≡ pairs_of (get_or rows q 0) → p ≤ 2
      → Covering rows (k + p) (q + 1)
  unfolding covered_pair
  covering-next {p} h l d e m =
      let z : covered_pair k (drop q rows) ≡ covered_pair (k + p) (drop (q + 1) rows) = rw (drop-cons rows q 0 h, ne_eqb _ _ d, add-one q, e) refl in
      let f = r.low in
      record { left = sym z ∙ r.left; low = omega (arith, f, m); most = omega (arith, h, l) }

  pub covering-over : length rows ≤ q → (k ≡ covered_pair 3 (drop 2 rows)) × (k ≤ 71)
  unfolding covered_pair
  covering-over h = let z : covered_pair k (drop q rows) ≡ k = rw (drop_of_length-le rows h) refl in (sym z ∙ r.left, size)

-- ---- the Original elements

-- n of them are counted before row q, whose first pair is `next`
pub record Originals (pairs rows : List ℕ) (row k n q next : ℕ) : Type 0 where
  pub left : n + originals_told pairs next (drop q rows) ≡ originals_told pairs k (drop row rows)
  pub few : n ≤ q
  pub low : next ≤ k + 2 * q

pub originals-start : (pairs rows : List ℕ) (row k : ℕ) → Originals pairs rows row k 0 row k
originals-start pairs rows row k = record { left = zero-add _; few = omega arith; low = omega arith }

module _ {pairs rows : List ℕ} {row k n q next : ℕ} (r : Originals pairs rows row k n q next) where
  pub originals-over : length rows ≤ q → n ≡ originals_told pairs k (drop row rows)
  unfolding originals_told
  originals-over h =
      let z : originals_told pairs next (drop q rows) ≡ 0 = rw (drop_of_length-le rows h) refl in
      let l = r.left in
      omega (arith, z, l)

  -- a is what `asks_v` answered of the row, p what `pairs_of` did, g what `is_given` did
  module _ {a : Bool} (h : q < length rows) (e : a ≡ asks_v (get_or rows q 0)) where
    pub originals-stop : a ≡ false → n ≡ originals_told pairs k (drop row rows)
    unfolding originals_told
    originals-stop t =
        let z : originals_told pairs next (drop q rows) ≡ 0 = rw (drop-cons rows q 0 h, ← e, t) refl in
        let l = r.left in
        omega (arith, z, l)

    module _ {p : ℕ} (t : a ≡ true) (u : p ≡ pairs_of (get_or rows q 0)) (m : p ≤ 2) where
      pub originals-other : {n' : ℕ} → n' ≡ n → (role_of (get_or rows q 0) ≡ original_role → ⊥) → Originals pairs rows row k n' (q + 1) (next + p)
      unfolding originals_told
      originals-other {n'} y d =
          let z : originals_told pairs next (drop q rows) ≡ originals_told pairs (next + p) (drop (q + 1) rows) =
          rw (drop-cons rows q 0 h, ← e, t, ne_eqb _ _ d, add-one q, u) refl in
          let l = r.left in
          let f = r.few in
          let g = r.low in
          record { left = omega (arith, z, l, y); few = omega (arith, f, y); low = omega (arith, g, m) }

      module _ {b : Bool} (o : role_of (get_or rows q 0) ≡ original_role) (g : b ≡ has_pair pairs next) where
        pub originals-one : {n' : ℕ} → n' ≡ n + 1 → b ≡ true → Originals pairs rows row k n' (q + 1) (next + p)
        unfolding originals_told
        originals-one {n'} y s =
            let z : originals_told pairs next (drop q rows) ≡ suc (originals_told pairs (next + p) (drop (q + 1) rows)) =
            rw (drop-cons rows q 0 h, ← e, t, eq-eqb _ _ o, ← g, s, add-one q, u) refl in
            let l = r.left in
            let f = r.few in
            let w = r.low in
            record { left = omega (arith, z, l, y); few = omega (arith, f, y); low = omega (arith, w, m) }

        pub originals-none : {n' : ℕ} → n' ≡ n → b ≡ false → Originals pairs rows row k n' (q + 1) (next + p)
        unfolding originals_told
        originals-none {n'} y s =
            let z : originals_told pairs next (drop q rows) ≡ originals_told pairs (next + p) (drop (q + 1) rows) =
            rw (drop-cons rows q 0 h, ← e, t, eq-eqb _ _ o, ← g, s, add-one q, u) refl in
            let l = r.left in
            let f = r.few in
            let w = r.low in
            record { left = omega (arith, z, l, y); few = omega (arith, f, y); low = omega (arith, w, m) }

-- ---- single values

-- those before row q fit, whose first pair is `next`
pub record Singles (kind from to : ℕ) (text pairs rows : List ℕ) (row k q next : ℕ) : Type 0 where
  pub left : singles_told kind from to text pairs next (drop q rows) ≡ singles_told kind from to text pairs k (drop row rows)
  pub low : next ≤ k + 2 * q

module _ {kind from to : ℕ} {text pairs rows : List ℕ} {row k : ℕ} where
  pub singles-start : Singles kind from to text pairs rows row k row k
  singles-start = record { left = refl; low = omega arith }

  module _ {q next : ℕ} (r : Singles kind from to text pairs rows row k q next) where
    pub singles-over : length rows ≤ q → true ≡ singles_told kind from to text pairs k (drop row rows)
    unfolding singles_told
    singles-over h =
        let z : singles_told kind from to text pairs next (drop q rows) ≡ true = rw (drop_of_length-le rows h) refl in sym z ∙ r.left

    -- a is what `asks_v` answered of the row, b what `single_fits` did, p what `pairs_of` did
    module _ {a : Bool} (h : q < length rows) (e : a ≡ asks_v (get_or rows q 0)) where
      pub singles-stop : a ≡ false → (role_of (get_or rows q 0) ≡ period_role → ⊥) → true ≡ singles_told kind from to text pairs k (drop row rows)
      unfolding singles_told
      singles-stop t d =
          let z : singles_told kind from to text pairs next (drop q rows) ≡ true = rw (drop-cons rows q 0 h, ← e, t, ne_eqb _ _ d) refl in
          sym z ∙ r.left

      pub singles-period : {next' : ℕ} → next' ≡ next → a ≡ false → role_of (get_or rows q 0) ≡ period_role → Singles kind from to text pairs rows row k (q + 1) next'
      unfolding singles_told
      singles-period {next'} y t o =
          let z : singles_told kind from to text pairs next (drop q rows) ≡ singles_told kind from to text pairs next' (drop (q + 1) rows) =
          rw (drop-cons rows q 0 h, ← e, t, eq-eqb _ _ o, add-one q, y) refl in
          let l = r.low in
          record { left = sym z ∙ r.left; low = omega (arith, l, y) }

      module _ {b : Bool} (t : a ≡ true) (f : b ≡ single_told kind from to text pairs (get_or rows q 0) next) where
        pub singles-not : b ≡ false → false ≡ singles_told kind from to text pairs k (drop row rows)
        unfolding singles_told
        singles-not s =
            let z : singles_told kind from to text pairs next (drop q rows) ≡ false = rw (drop-cons rows q 0 h, ← e, t, ← f, s) refl in
            sym z ∙ r.left

        pub singles-next : {p next' : ℕ} → next' ≡ next + p → b ≡ true → p ≡ pairs_of (get_or rows q 0) → p ≤ 2 → Singles kind from to text pairs rows row k (q + 1) next'
        unfolding singles_told
        singles-next {p} {next'} y s u m =
            let z : singles_told kind from to text pairs next (drop q rows) ≡ singles_told kind from to text pairs next' (drop (q + 1) rows) =
            rw (drop-cons rows q 0 h, ← e, t, ← f, s, add-one q, y, u) refl in
            let l = r.low in
            record { left = sym z ∙ r.left; low = omega (arith, l, y, m) }
