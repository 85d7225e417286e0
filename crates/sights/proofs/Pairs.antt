-- What a pair shows after a tag: its own values, and those of the pairs of others stay. Assumes nothing.
use Prim.Native.Nat.{ℕ, zero, suc, ◌+◌, ◌≤◌, ◌<◌}
use mathlib.Core.Path.{◌≡◌, refl, sym, ap, ◌∙◌}
use mathlib.Core.List.{List, [], ◌∷◌, ◌++◌}
use mathlib.Core.Bool.{Bool, true, false, cond}
use mathlib.Core.Logic.{◌⊎◌, ⊎_elim}
use native.Mathlib.Omega.{arith}
use native.Mathlib.Nat.{add-zero}
use lib.Dec.{eqb}
use lib.ListN.{length, drop, get_or, set, length-set}
use lib.Seq.{get_or-set_same, get_or-set_other}
use Rattle.lists.proofs.Cases.{bool_cases, eqb-cases, never, up}
use Rattle.slices.specs.Part.{part_of}
use Rattle.slices.specs.declared.Span.{Span}
use Rattle.trims.specs.Trim.{lead_of, trimmed_of}
use Rattle.columns.specs.Columns.{collapsed, role_of, root_role, pos_role, qty_role}
use Rattle.items.specs.declared.Tag.{Tag}
use Rattle.tags.specs.declared.Dtd.{Dtd}
use Rattle.states.specs.Attributes.{there, asks_v, asks_scheme}
use Rattle.reader.specs.Rows.{quoted}
use Rattle.contents.specs.Said.{AttributeValue, Absent, Given}
use Rattle.contents.specs.Spelled.{value_given, dtd_of_tag, said_of_tag}
use Rattle.contents.proofs.Views.{part_in, trimmed-part}
use Rattle.views.specs.Layout.{one_if, values_of, cell_of}
use Rattle.views.specs.Shown.{value_start, value_length, with_pair, pair_view, with_value, root_shown, v_shown, scheme_shown, tag_shown}
use Rattle.sights.specs.Values.{without_spaces, only_if, values_said, PairShows}

-- ---- one pair

pair_set : (t : List ℕ) (k a n : ℕ) → cell_of k + 1 < length t → (get_or (with_pair t k a n) (cell_of k) 0 ≡ a) × (get_or (with_pair t k a n) (cell_of k + 1) 0 ≡ n)
unfolding with_pair
pair_set t k a n h = (
  get_or-set_other (set t (cell_of k) a) (cell_of k + 1) (cell_of k) n 0 (λ e. omega (arith, e)) ∙ get_or-set_same t (cell_of k) a 0 (omega (arith, h)),
  get_or-set_same (set t (cell_of k) a) (cell_of k + 1) n 0 (rw (length-set t (cell_of k) a) h),
)

pair-kept : (t : List ℕ) (k l a n : ℕ) → (k ≡ l → ⊥)
    → (get_or (with_pair t k a n) (cell_of l) 0 ≡ get_or t (cell_of l) 0) × (get_or (with_pair t k a n) (cell_of l + 1) 0 ≡ get_or t (cell_of l + 1) 0)
unfolding with_pair
pair-kept t k l a n d = (
  get_or-set_other (set t (cell_of k) a) (cell_of k + 1) (cell_of l) n 0 (λ e. d (omega (arith, e))) ∙ get_or-set_other t (cell_of k) (cell_of l) a 0 (λ e. d (omega (arith, e))),
  get_or-set_other (set t (cell_of k) a) (cell_of k + 1) (cell_of l + 1) n 0 (λ e. d (omega (arith, e)))
      ∙ get_or-set_other t (cell_of k) (cell_of l + 1) a 0 (λ e. d (omega (arith, e))),
)

pub pair-long : (t : List ℕ) (k a n : ℕ) → length (with_pair t k a n) ≡ length t
unfolding with_pair
pair-long t k a n = length-set (set t (cell_of k) a) (cell_of k + 1) n ∙ length-set t (cell_of k) a

module _ (doc : List ℕ) where
  abbrev cells_show : ℕ → ℕ → AttributeValue → Type 0
  cells_show a n Absent = (a ≡ 0) × (n ≡ 0)
  cells_show a n (Given b) = (part_of doc a n ≡ b) × (1 ≤ a)

  by-cells : (t : List ℕ) (k : ℕ) (v : AttributeValue) → cells_show (get_or t (cell_of k) 0) (get_or t (cell_of k + 1) 0) v → PairShows doc t k v
  unfolding PairShows pair_view
  by-cells t k Absent h = h
  by-cells t k (Given b) h = h

  in_cells : (t : List ℕ) (k : ℕ) (v : AttributeValue) → PairShows doc t k v → cells_show (get_or t (cell_of k) 0) (get_or t (cell_of k + 1) 0) v
  unfolding PairShows pair_view
  in_cells t k Absent h = h
  in_cells t k (Given b) h = h

  -- the two cells of pair l are the same
  abbrev pub Kept : List ℕ → List ℕ → ℕ → Type 0
  Kept t u l = (get_or u (cell_of l) 0 ≡ get_or t (cell_of l) 0) × (get_or u (cell_of l + 1) 0 ≡ get_or t (cell_of l + 1) 0)

  kept-shows : (t u : List ℕ) (l : ℕ) (v : AttributeValue) → Kept t u l → PairShows doc t l v → PairShows doc u l v
  kept-shows t u l v k h = by-cells u l v (rw (k.0, k.1) (in_cells t l v h))

  -- ---- a value

  module _ (at : ℕ) (s : List ℕ) (stands : s ≡ drop at doc) where
    some-start : (x : Span) → there x ≡ true → 1 ≤ x.start
    unfolding there
    some-start x y =
        ⊎_elim
        (λ (z : (x.start ≡ 0) × (eqb x.start 0 ≡ true)). never (rw z.1 at y))
        (λ (z : (x.start ≡ 0 → ⊥) × (eqb x.start 0 ≡ false)). up 0 (omega arith) z.0)
        (eqb-cases x.start 0)

    said-cells : (drops : Bool) (x : Span) → cells_show (value_start drops at x s) (value_length drops x s) (without_spaces drops (value_given x s))
    unfolding value_start value_length value_given without_spaces quoted
    said-cells drops x =
        ⊎_elim
        (λ (y : there x ≡ true).
        let from = some-start x y in
        ⊎_elim
        (λ (z : drops ≡ true).
        rw (y, z)
        (let e : at + x.start + lead_of (quoted x s) ≡ at + (x.start + lead_of (quoted x s)) = omega arith in (
          ap (λ (n : ℕ). part_of doc n (length (trimmed_of (quoted x s)))) e
              ∙ part_in doc s at (x.start + lead_of (quoted x s)) (length (trimmed_of (quoted x s))) stands
              ∙ trimmed-part x s,
          omega (arith, from),
        )))
        (λ (z : drops ≡ false). rw (y, z) (part_in doc s at x.start x.len stands, omega (arith, from)))
        (bool_cases drops))
        (λ (y : there x ≡ false). rw y (refl, refl))
        (bool_cases (there x))

    value-shown : (t : List ℕ) (k : ℕ) (drops : Bool) (x : Span) → cell_of k + 1 < length t
        → PairShows doc (with_value k drops at x s t) k (without_spaces drops (value_given x s))
    unfolding with_value
    value-shown t k drops x h =
        let e = pair_set t k (value_start drops at x s) (value_length drops x s) h in
        by-cells (with_pair t k (value_start drops at x s) (value_length drops x s)) k (without_spaces drops (value_given x s)) (rw (e.0, e.1) (said-cells drops x))

    value-kept : (t : List ℕ) (k l : ℕ) (drops : Bool) (x : Span) → (k ≡ l → ⊥) → Kept t (with_value k drops at x s t) l
    unfolding with_value
    value-kept t k l drops x d = pair-kept t k l (value_start drops at x s) (value_length drops x s) d

    value_stays : (t : List ℕ) (k l : ℕ) (drops : Bool) (x : Span) (v : AttributeValue) → (k ≡ l → ⊥) → PairShows doc t l v → PairShows doc (with_value k drops at x s t) l v
    value_stays t k l drops x v d h = kept-shows t (with_value k drops at x s t) l v (value-kept t k l drops x d) h

    value-cells : (t : List ℕ) (k : ℕ) (drops : Bool) (x : Span) → cell_of k + 1 < length t
        → (get_or (with_value k drops at x s t) (cell_of k) 0 ≡ value_start drops at x s) × (get_or (with_value k drops at x s t) (cell_of k + 1) 0 ≡ value_length drops x s)
    unfolding with_value
    value-cells t k drops x h = pair_set t k (value_start drops at x s) (value_length drops x s) h

    value-long : (t : List ℕ) (k : ℕ) (drops : Bool) (x : Span) → length (with_value k drops at x s t) ≡ length t
    unfolding with_value
    value-long t k drops x = pair-long t k (value_start drops at x s) (value_length drops x s)

    -- ---- a root

    all-kept : (a : AttributeValue) → without_spaces false a ≡ a
    unfolding without_spaces
    all-kept Absent = refl
    all-kept (Given b) = refl

    module _ (t : List ℕ) (k : ℕ) (d : Dtd) where
      abbrev one : List ℕ
      one = with_value k false at d.version s t

      abbrev two : List ℕ
      two = with_value (k + 1) false at d.release s one

      root-shown : cell_of (k + 3) ≤ length t → (j : ℕ) → j < 3
          → PairShows doc (root_shown k at d s t) (k + j) (get_or (value_given d.version s ∷ value_given d.release s ∷ value_given d.message s ∷ []) j Absent)
      unfolding root_shown
      root-shown h zero l =
          rw (add-zero k)
          (value_stays two (k + 2) k false d.message _ (λ e. omega (arith, e))
          (value_stays one (k + 1) k false d.release _ (λ e. omega (arith, e))
          (rw (all-kept (value_given d.version s)) at (value-shown t k false d.version (omega (arith, h))))))
      root-shown h (suc zero) l =
          let m = value-long t k false d.version in
          value_stays two (k + 2) (k + 1) false d.message _ (λ e. omega (arith, e))
          (rw (all-kept (value_given d.release s)) at (value-shown one (k + 1) false d.release (omega (arith, h, m))))
      root-shown h (suc (suc zero)) l =
          let m = value-long t k false d.version in
          let n = value-long one (k + 1) false d.release in
          rw (all-kept (value_given d.message s)) at (value-shown two (k + 2) false d.message (omega (arith, h, m, n)))
      root-shown h (suc (suc (suc j))) l = absurd (omega (arith, l))

      root_kept : (i : ℕ) → (i < k) ⊎ (k + 3 ≤ i) → Kept t (root_shown k at d s t) i
      unfolding root_shown
      root_kept i o =
          let a = value-kept t k i false d.version (λ e. ⊎_elim (λ y. omega (arith, e, y)) (λ y. omega (arith, e, y)) o) in
          let b = value-kept one (k + 1) i false d.release (λ e. ⊎_elim (λ y. omega (arith, e, y)) (λ y. omega (arith, e, y)) o) in
          let c = value-kept two (k + 2) i false d.message (λ e. ⊎_elim (λ y. omega (arith, e, y)) (λ y. omega (arith, e, y)) o) in
          (c.0 ∙ b.0 ∙ a.0, c.1 ∙ b.1 ∙ a.1)

      root-long : length (root_shown k at d s t) ≡ length t
      unfolding root_shown
      root-long = value-long two (k + 2) false d.message ∙ value-long one (k + 1) false d.release ∙ value-long t k false d.version

    -- ---- any other tag

    module _ (t : List ℕ) (k w : ℕ) (tag : Tag) where
      abbrev v_table : Bool → List ℕ
      v_table a = cond a (with_value k (collapsed w) at tag.v s t) t

      abbrev both_tables : Bool → Bool → List ℕ
      both_tables a b = cond b (with_value (k + one_if a) true at tag.coding s (v_table a)) (v_table a)

      abbrev both_said : Bool → Bool → List AttributeValue
      both_said a b = only_if a (without_spaces (collapsed w) (value_given tag.v s)) ++ only_if b (without_spaces true (value_given tag.coding s))

      both-shown : (a b : Bool) → cell_of (k + (one_if a + one_if b)) ≤ length t → (j : ℕ) → j < one_if a + one_if b
          → PairShows doc (both_tables a b) (k + j) (get_or (both_said a b) j Absent)
      both-shown true true h zero l =
          rw (add-zero k)
          (value_stays (v_table true) (k + 1) k true tag.coding _ (λ e. omega (arith, e)) (value-shown t k (collapsed w) tag.v (omega (arith, h))))
      both-shown true true h (suc zero) l =
          let m = value-long t k (collapsed w) tag.v in
          value-shown (v_table true) (k + 1) true tag.coding (omega (arith, h, m))
      both-shown true true h (suc (suc j)) l = absurd (omega (arith, l))
      both-shown true false h zero l = rw (add-zero k) (value-shown t k (collapsed w) tag.v (omega (arith, h)))
      both-shown true false h (suc j) l = absurd (omega (arith, l))
      both-shown false true h zero l = value-shown t (k + 0) true tag.coding (omega (arith, h))
      both-shown false true h (suc j) l = absurd (omega (arith, l))
      both-shown false false h j l = absurd (omega (arith, l))

      both-kept : (a b : Bool) (i : ℕ) → (i < k) ⊎ (k + (one_if a + one_if b) ≤ i) → Kept t (both_tables a b) i
      both-kept true true i o =
          let a = value-kept t k i (collapsed w) tag.v (λ e. ⊎_elim (λ y. omega (arith, e, y)) (λ y. omega (arith, e, y)) o) in
          let b = value-kept (v_table true) (k + 1) i true tag.coding (λ e. ⊎_elim (λ y. omega (arith, e, y)) (λ y. omega (arith, e, y)) o) in
          (b.0 ∙ a.0, b.1 ∙ a.1)
      both-kept true false i o = value-kept t k i (collapsed w) tag.v (λ e. ⊎_elim (λ y. omega (arith, e, y)) (λ y. omega (arith, e, y)) o)
      both-kept false true i o = value-kept t (k + 0) i true tag.coding (λ e. ⊎_elim (λ y. omega (arith, e, y)) (λ y. omega (arith, e, y)) o)
      both-kept false false i o = (refl, refl)

      -- the pair of `v`
      both-cells : (b : Bool) → cell_of k + 1 < length t
          → (get_or (both_tables true b) (cell_of k) 0 ≡ value_start (collapsed w) at tag.v s) × (get_or (both_tables true b) (cell_of k + 1) 0 ≡ value_length (collapsed w) tag.v s)
      both-cells true h =
          let a = value-cells t k (collapsed w) tag.v h in
          let e = value-kept (v_table true) (k + 1) k true tag.coding (λ e. omega (arith, e)) in
          (e.0 ∙ a.0, e.1 ∙ a.1)
      both-cells false h = value-cells t k (collapsed w) tag.v h

      both_long : (a b : Bool) → length (both_tables a b) ≡ length t
      both_long true true = value-long (v_table true) (k + 1) true tag.coding ∙ value-long t k (collapsed w) tag.v
      both_long true false = value-long t k (collapsed w) tag.v
      both_long false true = value-long t (k + 0) true tag.coding
      both_long false false = refl

      -- ---- of its row

      abbrev counted : Bool → Bool → Bool → ℕ
      counted r p q = cond r 3 (cond p 0 (cond q 0 (one_if (asks_v w) + one_if (asks_scheme w))))

      abbrev table_of : Bool → List ℕ
      table_of r = cond r (root_shown k at tag.dtd s t) (both_tables (asks_v w) (asks_scheme w))

      abbrev said_by : Bool → List AttributeValue
      said_by r = cond r (value_given tag.dtd.version s ∷ value_given tag.dtd.release s ∷ value_given tag.dtd.message s ∷ []) (both_said (asks_v w) (asks_scheme w))

      row-shown : (r p q : Bool) → cell_of (k + counted r p q) ≤ length t → (j : ℕ) → j < counted r p q → PairShows doc (table_of r) (k + j) (get_or (said_by r) j Absent)
      row-shown true p q h j l = root-shown t k tag.dtd h j l
      row-shown false true q h j l = absurd (omega (arith, l))
      row-shown false false true h j l = absurd (omega (arith, l))
      row-shown false false false h j l = both-shown (asks_v w) (asks_scheme w) h j l

      row_kept : (r p q : Bool) → eqb (counted r p q) 0 ≡ false → (i : ℕ) → (i < k) ⊎ (k + counted r p q ≤ i) → Kept t (table_of r) i
      row_kept true p q e i o = root_kept t k tag.dtd i o
      row_kept false true q e i o = never (sym e)
      row_kept false false true e i o = never (sym e)
      row_kept false false false e i o = both-kept (asks_v w) (asks_scheme w) i o

      pub tag-shown : cell_of (k + values_of w) ≤ length t → (j : ℕ) → j < values_of w
          → PairShows doc (tag_shown k at w tag s t) (k + j) (get_or (values_said w (said_of_tag tag s)) j Absent)
      unfolding tag_shown scheme_shown v_shown values_of values_said said_of_tag dtd_of_tag
      tag-shown h j l = row-shown (eqb (role_of w) root_role) (eqb (role_of w) pos_role) (eqb (role_of w) qty_role) h j l

      pub cells-kept : eqb (values_of w) 0 ≡ false → (i : ℕ) → (i < k) ⊎ (k + values_of w ≤ i) → Kept t (tag_shown k at w tag s t) i
      unfolding tag_shown scheme_shown v_shown values_of
      cells-kept e i o = row_kept (eqb (role_of w) root_role) (eqb (role_of w) pos_role) (eqb (role_of w) qty_role) e i o

      pub tag-kept : eqb (values_of w) 0 ≡ false → (i : ℕ) (v : AttributeValue) → (i < k) ⊎ (k + values_of w ≤ i) → PairShows doc t i v
          → PairShows doc (tag_shown k at w tag s t) i v
      tag-kept e i v o h = kept-shows t (tag_shown k at w tag s t) i v (cells-kept e i o) h

      -- `v` of a tag that is no root
      pub v-cells : eqb (role_of w) root_role ≡ false → asks_v w ≡ true → cell_of k + 1 < length t
          → (get_or (tag_shown k at w tag s t) (cell_of k) 0 ≡ value_start (collapsed w) at tag.v s)
          × (get_or (tag_shown k at w tag s t) (cell_of k + 1) 0 ≡ value_length (collapsed w) tag.v s)
      unfolding tag_shown scheme_shown v_shown
      v-cells r e h = rw (r, e) (both-cells (asks_scheme w) h)

      long-by : (r : Bool) → length (table_of r) ≡ length t
      long-by true = root-long t k tag.dtd
      long-by false = both_long (asks_v w) (asks_scheme w)

      pub tag-long : length (tag_shown k at w tag s t) ≡ length t
      unfolding tag_shown scheme_shown v_shown
      tag-long = long-by (eqb (role_of w) root_role)
