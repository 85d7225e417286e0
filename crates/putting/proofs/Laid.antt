-- The text that the code puts is the fixed layout of the draft's content, for the two kinds that are written. Assumes nothing.
use Prim.Native.Nat.{ℕ, zero, suc, ◌+◌, ◌*◌}
use mathlib.Core.Path.{◌≡◌, refl, sym, ap, ◌∙◌}
use mathlib.Core.List.{List, [], ◌∷◌, ◌++◌, append_assoc, append-nil}
use mathlib.Core.Bool.{Bool, true, false, cond, ◌&&◌, and-eq-true_iff}
use mathlib.Core.Logic.{⊎_elim}
use native.Mathlib.Omega.{arith}
use lib.Dec.{eqb, leb}
use lib.IntN.{pos}
use lib.ListN.{drop, get_or}
use borrow.Author.Tests.{eqb-true}
use Rattle.lists.proofs.Cases.{bool_cases, eqb-cases, never}
use Rattle.slices.specs.Text.{text}
use Rattle.slices.specs.Same.{same}
use Rattle.structure.specs.Rows.{name_of}
use Rattle.columns.specs.Columns.{form_of, scheme_of, role_of, series_role, period_role, interval_role}
use Rattle.guideline.specs.Rows.{beschaffungsanforderung, kostenblatt, rows_of}
use Rattle.elements.specs.Names.{names, number_in, element_no}
use Rattle.states.specs.Attributes.{asks_v, asks_scheme}
use Rattle.series.specs.Row.{field_at}
use Rattle.series.specs.declared.Field.TheVariants.{FirstRow, Count}
use Rattle.views.specs.Layout.{header_pairs, series_pairs, one_if, values_of, pair_after, pairs_after, first_pair, cell_of}
use Rattle.wholes.specs.Whole.{whole_text}
use Rattle.amounts.specs.Texts.{amount_text}
use Rattle.trees.specs.Trees.{Trees, none, element}
use Rattle.contents.specs.Said.{TagSaid, given}
use Rattle.layouts.specs.Layout.{element_name, attribute_text, attributes_text, tag_text, end_text, layout_of}
use Rattle.drafts.specs.Draft.{Draft, is_no_pair, pair_value, no_dtd_said, single_tag, is_said, root_tag, bare_tag, number_tag, singles, intervals_from, role_row, pair_for, singles_in, period_tree, series_from, draft_content, draft_document}
use Rattle.drafts.specs.Pairs.{pairs_of, has_pair}
use Rattle.drafts.proofs.Rows.{is_named, in_pairs, is_bare, Table, table}
use Rattle.drafts.proofs.Writing.{row-there}
use Rattle.putting.specs.Sheet.{name_text, open_text, close_text, attribute_of, scheme_text, has_value, single_text, singles_text, interval_text, intervals_text, series_text, every_series_text, root_text, sheet_text}

-- ---- an element's name

named-text : (e : ℕ) → leb 1 e ≡ true → name_text e ≡ element_name e
unfolding name_text
named-text zero h = never h
named-text (suc e) h = refl

named : (w : ℕ) → is_named w ≡ true → name_text (name_of w) ≡ element_name (name_of w)
unfolding is_named
named w h = named-text (name_of w) ((and-eq-true_iff (leb 1 (name_of w)) (leb (name_of w) 44)).0 h).0

bare : (w : ℕ) → is_bare w ≡ true → (name_text (name_of w) ≡ element_name (name_of w)) × (asks_v w ≡ false)
unfolding is_bare
bare w e = ⊎_elim (λ y. never (rw y at e)) (λ y. (named w (rw y at e), y)) (bool_cases (asks_v w))

-- the parts of what is computed of a row with a `v`
pairs-part : (most k w : ℕ) (ws : List ℕ) → asks_v w ≡ true → in_pairs most k (w ∷ ws) ≡ true
    → (name_text (name_of w) ≡ element_name (name_of w)) × (pairs_of w ≡ values_of w) × (in_pairs most (k + values_of w) ws ≡ true)
unfolding in_pairs pairs_of
pairs-part most k w ws y t =
    let u : is_named w && eqb (values_of w) (1 + one_if (asks_scheme w)) && leb (k + values_of w) most && in_pairs most (k + values_of w) ws ≡ true = rw y at t in
    let u1 = (and-eq-true_iff (is_named w && eqb (values_of w) (1 + one_if (asks_scheme w)) && leb (k + values_of w) most) _).0 u in
    let u2 = (and-eq-true_iff (is_named w && eqb (values_of w) (1 + one_if (asks_scheme w))) _).0 u1.0 in
    let u3 = (and-eq-true_iff (is_named w) _).0 u2.0 in
    let n = eqb-true (values_of w) (1 + one_if (asks_scheme w)) u3.1 in
    let many : cond (asks_scheme w) 2 1 ≡ values_of w =
    ⊎_elim
    (λ (s : asks_scheme w ≡ true). let n1 : values_of w ≡ 2 = rw s at n in rw s (sym n1))
    (λ (s : asks_scheme w ≡ false). let n1 : values_of w ≡ 1 = rw s at n in rw s (sym n1))
    (bool_cases (asks_scheme w)) in
    (named w u3.0, many, u1.1)

-- ---- the rows up to the Period

-- the first row without a `v` is a Period
unfoldable pub at_period : List ℕ → Bool
at_period [] = false
at_period (w ∷ ws) = cond (asks_v w) (at_period ws) (eqb (role_of w) period_role)

-- the rows after it
unfoldable pub past : List ℕ → List ℕ
past [] = []
past (w ∷ ws) = cond (asks_v w) (past ws) ws

-- its pair, where the first row's is k
unfoldable pub pair_past : ℕ → List ℕ → ℕ
pair_past k [] = k
pair_past k (w ∷ ws) = cond (asks_v w) (pair_past (k + values_of w) ws) k

-- ---- parts put together

two-parts : {a b s t : List ℕ} (z : List ℕ) → a ≡ b → s ≡ t → (a ++ s) ++ z ≡ b ++ (t ++ z)
two-parts {a} {b} {s} {t} z e f = append_assoc a s z ∙ ap (λ (l : List ℕ). l ++ (s ++ z)) e ∙ ap (λ (l : List ℕ). b ++ (l ++ z)) f

-- ---- a value

module _ (d : Draft) where
  value-text : (opens : List ℕ) (k : ℕ) → attribute_text opens (pair_value d k) ≡ attribute_of opens d.text d.pairs k
  unfolding attribute_text pair_value attribute_of has_pair
  value-text opens k =
      ⊎_elim (λ y. rw y refl) (λ y. rw y refl) (bool_cases (is_no_pair (get_or d.pairs (cell_of k) 0) (get_or d.pairs (cell_of k + 1) 0)))

  value-given : (k : ℕ) → given (pair_value d k) ≡ has_pair d.pairs k
  unfolding given pair_value has_pair
  value-given k =
      ⊎_elim (λ y. rw y refl) (λ y. rw y refl) (bool_cases (is_no_pair (get_or d.pairs (cell_of k) 0) (get_or d.pairs (cell_of k + 1) 0)))

  -- ---- a single value

  scheme-text : (w k : ℕ) → attribute_text (text " codingScheme=\"") (single_tag d w k).scheme ≡ scheme_text d.text d.pairs w k
  unfolding single_tag scheme_text attribute_text
  scheme-text w k =
      ⊎_elim (λ y. rw y (value-text (text " codingScheme=\"") (k + 1))) (λ y. rw y refl) (bool_cases (asks_scheme w))

  scheme-given : (w k : ℕ) → given (single_tag d w k).scheme ≡ cond (asks_scheme w) (has_pair d.pairs (k + 1)) false
  unfolding single_tag given
  scheme-given w k = ⊎_elim (λ y. rw y (value-given (k + 1))) (λ y. rw y refl) (bool_cases (asks_scheme w))

  single-said : (w k : ℕ) → is_said (single_tag d w k) ≡ has_value d.pairs w k
  unfolding is_said single_tag has_value
  single-said w k =
      ap (λ (b : Bool). cond b true (given (single_tag d w k).scheme)) (value-given k)
      ∙ ap (λ (b : Bool). cond (has_pair d.pairs k) true b) (scheme-given w k)

  single-tag : (w k : ℕ) → name_text (name_of w) ≡ element_name (name_of w) → is_said (single_tag d w k) ≡ true
      → tag_text (name_of w) (single_tag d w k) (text "/>") ≡ single_text d.text d.pairs w k
  unfolding tag_text attributes_text single_tag no_dtd_said attribute_text single_text open_text
  single-tag w k n s =
      let c : has_value d.pairs w k ≡ true = sym (single-said w k) ∙ s in
      let parts = two-parts (text "/>") (value-text (text " v=\"") k) (scheme-text w k) in
      rw (c, n) (ap (λ (l : List ℕ). text "<" ++ (element_name (name_of w) ++ l)) parts)

  single-none : (w k : ℕ) → is_said (single_tag d w k) ≡ false → single_text d.text d.pairs w k ≡ []
  unfolding single_text
  single-none w k s = rw (sym (single-said w k) ∙ s) refl

  -- ---- single values, one after the other

  -- those of the rows at the front
  front_text : ℕ → List ℕ → List ℕ
  front_text k [] = []
  front_text k (w ∷ ws) = cond (asks_v w) (single_text d.text d.pairs w k ++ front_text (k + pairs_of w) ws) []

  module _ (rows : List ℕ) (behind : Trees TagSaid) (most z : ℕ) where
    singles-front : (ws : List ℕ) (q k : ℕ) → ws ≡ drop q rows → in_pairs most k ws ≡ true
        → layout_of rows (singles d q (k + z) ws behind) ≡ front_text (k + z) ws ++ layout_of rows behind
    unfolding singles in_pairs layout_of front_text
    singles-front [] q k e t = refl
    singles-front (w ∷ ws) q k e t = by (asks_v w) refl (λ (s : in_pairs most (k + values_of w) ws ≡ true). singles-front ws (suc q) (k + values_of w) there.1 s)
      where
        there : (get_or rows q 0 ≡ w) × (ws ≡ drop (suc q) rows)
        there = row-there rows q w ws e

        rest : Trees TagSaid
        rest = singles d (suc q) (k + z + values_of w) ws behind

        by : (a : Bool) → asks_v w ≡ a
            → (in_pairs most (k + values_of w) ws ≡ true → layout_of rows (singles d (suc q) (k + values_of w + z) ws behind) ≡ front_text (k + values_of w + z) ws ++ layout_of rows behind)
            → layout_of rows (cond (asks_v w) (cond (is_said (single_tag d w (k + z))) (element q (single_tag d w (k + z)) none rest) rest) behind)
            ≡ cond (asks_v w) (single_text d.text d.pairs w (k + z) ++ front_text (k + z + pairs_of w) ws) [] ++ layout_of rows behind
        by false y ih = rw y refl
        by true y ih =
            let u = pairs-part most k w ws y t in
            let m : k + values_of w + z ≡ k + z + values_of w = omega arith in
            let r : layout_of rows rest ≡ front_text (k + z + pairs_of w) ws ++ layout_of rows behind =
            ap (λ (j : ℕ). layout_of rows (singles d (suc q) j ws behind)) (sym m) ∙ ih u.2
            ∙ ap (λ (j : ℕ). front_text j ws ++ layout_of rows behind) (m ∙ ap (λ (j : ℕ). k + z + j) (sym u.1)) in
            rw y
            (⊎_elim
            (λ (v : is_said (single_tag d w (k + z)) ≡ true).
            rw (v, there.0, y)
            (ap (λ (l : List ℕ). l ++ layout_of rows rest) (single-tag w (k + z) u.0 v)
            ∙ ap (λ (l : List ℕ). single_text d.text d.pairs w (k + z) ++ l) r
            ∙ sym (append_assoc (single_text d.text d.pairs w (k + z)) (front_text (k + z + pairs_of w) ws) (layout_of rows behind))))
            (λ (v : is_said (single_tag d w (k + z)) ≡ false). rw (v, single-none w (k + z) v) r)
            (bool_cases (is_said (single_tag d w (k + z)))))

  -- no Period follows
  front-all : (ws : List ℕ) (k : ℕ) → at_period ws ≡ false → singles_text d.text d.pairs k ws ≡ front_text k ws
  unfolding singles_text front_text at_period
  front-all [] k e = refl
  front-all (w ∷ ws) k e =
      ⊎_elim
      (λ (y : asks_v w ≡ true). rw y (ap (λ (l : List ℕ). single_text d.text d.pairs w k ++ l) (front-all ws (k + pairs_of w) (rw y at e))))
      (λ (y : asks_v w ≡ false). let n : eqb (role_of w) period_role ≡ false = rw y at e in rw (y, n) refl)
      (bool_cases (asks_v w))

  -- a Period follows
  front-period : (most z : ℕ) (ws : List ℕ) (k : ℕ) → at_period ws ≡ true → in_pairs most k ws ≡ true
      → singles_text d.text d.pairs (k + z) ws ≡ front_text (k + z) ws ++ (text "<Period>" ++ singles_text d.text d.pairs (pair_past k ws + z) (past ws))
  unfolding singles_text front_text at_period in_pairs pair_past past
  front-period most z [] k e t = never e
  front-period most z (w ∷ ws) k e t =
      ⊎_elim
      (λ (y : asks_v w ≡ true).
      let u = pairs-part most k w ws y t in
      let m : k + z + pairs_of w ≡ k + values_of w + z = ap (λ (j : ℕ). k + z + j) u.1 ∙ omega arith in
      let more = front-period most z ws (k + values_of w) (rw y at e) u.2 in
      let tail = text "<Period>" ++ singles_text d.text d.pairs (pair_past (k + values_of w) ws + z) (past ws) in
      rw (y, m)
      (ap (λ (l : List ℕ). single_text d.text d.pairs w (k + z) ++ l) more
      ∙ sym (append_assoc (single_text d.text d.pairs w (k + z)) (front_text (k + values_of w + z) ws) tail)))
      (λ (y : asks_v w ≡ false). let n : eqb (role_of w) period_role ≡ true = rw y at e in rw (y, n) refl)
      (bool_cases (asks_v w))

-- ---- the rows of the two kinds

pub record Shape (rows : List ℕ) : Type 0 where
  pub header-first : first_pair rows 2 ≡ 3
  pub header-end : at_period (drop 2 rows) ≡ false
  pub series-first : first_pair rows (suc (role_row series_role rows)) ≡ header_pairs
  pub series-end : at_period (drop (suc (role_row series_role rows)) rows) ≡ true
  pub series-past : past (drop (suc (role_row series_role rows)) rows) ≡ drop (suc (role_row period_role rows)) rows
  pub period-first : pair_past header_pairs (drop (suc (role_row series_role rows)) rows) ≡ first_pair rows (suc (role_row period_role rows))
  pub period-end : at_period (drop (suc (role_row period_role rows)) rows) ≡ false
  pub period-name : element_name (name_of (get_or rows (role_row period_role rows) 0)) ≡ text "Period"
  pub interval-name : element_name (name_of (get_or rows (role_row interval_role rows) 0)) ≡ text "Interval"
  pub pos-name : element_name (name_of (get_or rows (suc (role_row interval_role rows)) 0)) ≡ text "Pos"
  pub qty-name : element_name (name_of (get_or rows (suc (suc (role_row interval_role rows))) 0)) ≡ text "Qty"
  pub pos-value : asks_v (get_or rows (suc (role_row interval_role rows)) 0) ≡ true
  pub qty-value : asks_v (get_or rows (suc (suc (role_row interval_role rows))) 0) ≡ true

shape_one : Shape beschaffungsanforderung
unfolding beschaffungsanforderung element_no names number_in same name_of form_of scheme_of role_of asks_v asks_scheme values_of pair_after pairs_after first_pair role_row at_period past pair_past element_name
shape_one =
    record {
      header-first = refl;
      header-end = refl;
      series-first = refl;
      series-end = refl;
      series-past = refl;
      period-first = refl;
      period-end = refl;
      period-name = refl;
      interval-name = refl;
      pos-name = refl;
      qty-name = refl;
      pos-value = refl;
      qty-value = refl;
    }

shape_two : Shape kostenblatt
unfolding kostenblatt element_no names number_in same name_of form_of scheme_of role_of asks_v asks_scheme values_of pair_after pairs_after first_pair role_row at_period past pair_past element_name
shape_two =
    record {
      header-first = refl;
      header-end = refl;
      series-first = refl;
      series-end = refl;
      series-past = refl;
      period-first = refl;
      period-end = refl;
      period-name = refl;
      interval-name = refl;
      pos-name = refl;
      qty-name = refl;
      pos-value = refl;
      qty-value = refl;
    }

shape : (kind : ℕ) → cond (eqb kind 1) true (eqb kind 2) ≡ true → Shape (rows_of kind)
unfolding rows_of
shape kind h =
    ⊎_elim
    (λ (y : (kind ≡ 1) × (eqb kind 1 ≡ true)). rw y.1 shape_one)
    (λ (y : (kind ≡ 1 → ⊥) × (eqb kind 1 ≡ false)). let e : eqb kind 2 ≡ true = rw y.1 at h in rw (y.1, e) shape_two)
    (eqb-cases kind 1)

-- ---- Intervals

interval-joined : (p a : List ℕ)
    → text "<Interval>" ++ (((text "<Pos v=\"" ++ ((p ++ text "\"") ++ text "/>")) ++ ((text "<Qty v=\"" ++ ((a ++ text "\"") ++ text "/>")) ++ [])) ++ text "</Interval>")
    ≡ text "<Interval><Pos v=\"" ++ (p ++ (text "\"/><Qty v=\"" ++ (a ++ text "\"/></Interval>")))
interval-joined p a =
    let q : List ℕ = text "<Qty v=\"" ++ ((a ++ text "\"") ++ text "/>") in
    let z : List ℕ = text "</Interval>" in
    let pz : ((((p ++ text "\"") ++ text "/>") ++ (q ++ [])) ++ z) ≡ p ++ (text "\"/>" ++ ((q ++ []) ++ z)) =
    append_assoc ((p ++ text "\"") ++ text "/>") (q ++ []) z ∙ append_assoc (p ++ text "\"") (text "/>") ((q ++ []) ++ z) ∙ append_assoc p (text "\"") (text "/>" ++ ((q ++ []) ++ z)) in
    let az : ((a ++ text "\"") ++ text "/>") ++ z ≡ a ++ text "\"/></Interval>" = append_assoc (a ++ text "\"") (text "/>") z ∙ append_assoc a (text "\"") (text "/>" ++ z) in
    let qz : (q ++ []) ++ z ≡ text "<Qty v=\"" ++ (a ++ text "\"/></Interval>") = ap (λ (l : List ℕ). l ++ z) (append-nil q) ∙ ap (λ (l : List ℕ). text "<Qty v=\"" ++ l) az in
    ap (λ (l : List ℕ). text "<Interval><Pos v=\"" ++ l) (pz ∙ ap (λ (l : List ℕ). p ++ (text "\"/>" ++ l)) qz)

bare-tag : (e : ℕ) (name : List ℕ) → element_name e ≡ name → tag_text e bare_tag (text ">") ≡ text "<" ++ (name ++ text ">")
unfolding tag_text attributes_text bare_tag no_dtd_said attribute_text
bare-tag e name n = rw n refl

number-tag : (e : ℕ) (name t : List ℕ) → element_name e ≡ name → tag_text e (number_tag t) (text "/>") ≡ text "<" ++ (name ++ (text " v=\"" ++ ((t ++ text "\"") ++ text "/>")))
unfolding tag_text attributes_text number_tag no_dtd_said attribute_text
number-tag e name t n =
    rw n (ap (λ (l : List ℕ). text "<" ++ (name ++ (text " v=\"" ++ (l ++ text "/>")))) (append-nil (t ++ text "\"")))

module _ (d : Draft) (rows : List ℕ) (tb : Table rows) (s : Shape rows) where
  intervals-laid : (j n : ℕ) → layout_of rows (intervals_from d (role_row interval_role rows) j n) ≡ intervals_text d.positions d.amounts j n
  unfolding intervals_from intervals_text interval_text layout_of end_text
  intervals-laid j zero = refl
  intervals-laid j (suc n) =
      let q = role_row interval_role rows in
      let b = bare (get_or rows q 0) tb.interval in
      let p = whole_text (get_or d.positions j 0) in
      let a = amount_text (get_or d.amounts j (pos 0)) in
      rw (
        b.1,
        s.pos-value,
        s.qty-value,
        bare-tag (name_of (get_or rows q 0)) (text "Interval") s.interval-name,
        number-tag (name_of (get_or rows (suc q) 0)) (text "Pos") p s.pos-name,
        number-tag (name_of (get_or rows (suc (suc q)) 0)) (text "Qty") a s.qty-name,
        s.interval-name,
      )
      (ap (λ (l : List ℕ). l ++ layout_of rows (intervals_from d q (suc j) n)) (interval-joined p a)
      ∙ ap (λ (l : List ℕ). (text "<Interval><Pos v=\"" ++ (p ++ (text "\"/><Qty v=\"" ++ (a ++ text "\"/></Interval>")))) ++ l) (intervals-laid (suc j) n))

  -- ---- a series

  period-joined : (f g i e : List ℕ) → (f ++ ((text "<Period>" ++ ((g ++ i) ++ text "</Period>")) ++ [])) ++ e ≡ (f ++ (text "<Period>" ++ g)) ++ (i ++ (text "</Period>" ++ e))
  period-joined f g i e =
      let c = text "</Period>" in
      let o = text "<Period>" in
      append_assoc f ((o ++ ((g ++ i) ++ c)) ++ []) e
      ∙ ap (λ (l : List ℕ). f ++ (l ++ e)) (append-nil (o ++ ((g ++ i) ++ c)))
      ∙ ap (λ (l : List ℕ). f ++ (o ++ l)) (append_assoc (g ++ i) c e ∙ append_assoc g i (c ++ e))
      ∙ sym (append_assoc f (o ++ g) (i ++ (c ++ e)))

  period-laid : (i : ℕ) → layout_of rows (period_tree d rows i)
      ≡ (text "<Period>" ++ ((front_text d (first_pair rows (suc (role_row period_role rows)) + series_pairs * i) (drop (suc (role_row period_role rows)) rows)
      ++ intervals_text d.positions d.amounts (field_at d.series i FirstRow) (field_at d.series i Count)) ++ text "</Period>")) ++ []
  unfolding period_tree singles_in pair_for layout_of end_text
  period-laid i =
      let p = role_row period_role rows in
      let b = bare (get_or rows p 0) tb.period in
      let first = field_at d.series i FirstRow in
      let count = field_at d.series i Count in
      let inner =
      singles-front d rows (intervals_from d (role_row interval_role rows) first count) (header_pairs + series_pairs) (series_pairs * i) (drop (suc p) rows) (suc p) (first_pair rows (suc p)) refl tb.period-pairs
      ∙ ap (λ (l : List ℕ). front_text d (first_pair rows (suc p) + series_pairs * i) (drop (suc p) rows) ++ l) (intervals-laid first count) in
      rw (b.1, bare-tag (name_of (get_or rows p 0)) (text "Period") s.period-name, inner, s.period-name) refl

  -- what is put inside a series, up to its end tag
  inside-laid : (i : ℕ) (e : List ℕ) → layout_of rows (singles_in d rows (role_row series_role rows) i (period_tree d rows i)) ++ e
      ≡ singles_text d.text d.pairs (header_pairs + series_pairs * i) (drop (suc (role_row series_role rows)) rows)
      ++ (intervals_text d.positions d.amounts (field_at d.series i FirstRow) (field_at d.series i Count) ++ (text "</Period>" ++ e))
  unfolding singles_in pair_for
  inside-laid i e =
      let sr = role_row series_role rows in
      let p = role_row period_role rows in
      let k = header_pairs + series_pairs * i in
      let kp = first_pair rows (suc p) + series_pairs * i in
      let pairs : in_pairs (header_pairs + series_pairs) header_pairs (drop (suc sr) rows) ≡ true = rw s.series-first at tb.series-pairs in
      let f = front_text d k (drop (suc sr) rows) in
      let g = front_text d kp (drop (suc p) rows) in
      let iv = intervals_text d.positions d.amounts (field_at d.series i FirstRow) (field_at d.series i Count) in
      let left : layout_of rows (singles d (suc sr) (first_pair rows (suc sr) + series_pairs * i) (drop (suc sr) rows) (period_tree d rows i))
      ≡ f ++ ((text "<Period>" ++ ((g ++ iv) ++ text "</Period>")) ++ []) =
      ap (λ (n : ℕ). layout_of rows (singles d (suc sr) (n + series_pairs * i) (drop (suc sr) rows) (period_tree d rows i))) s.series-first
      ∙ singles-front d rows (period_tree d rows i) (header_pairs + series_pairs) (series_pairs * i) (drop (suc sr) rows) (suc sr) header_pairs refl pairs
      ∙ ap (λ (l : List ℕ). f ++ l) (period-laid i) in
      let right : singles_text d.text d.pairs k (drop (suc sr) rows) ≡ f ++ (text "<Period>" ++ g) =
      front-period d (header_pairs + series_pairs) (series_pairs * i) (drop (suc sr) rows) header_pairs s.series-end pairs
      ∙ ap (λ (n : ℕ). f ++ (text "<Period>" ++ singles_text d.text d.pairs (n + series_pairs * i) (past (drop (suc sr) rows)))) s.period-first
      ∙ ap (λ (ws : List ℕ). f ++ (text "<Period>" ++ singles_text d.text d.pairs kp ws)) s.series-past
      ∙ ap (λ (l : List ℕ). f ++ (text "<Period>" ++ l)) (front-all d (drop (suc p) rows) kp s.period-end) in
      ap (λ (l : List ℕ). l ++ e) left ∙ period-joined f g iv e ∙ ap (λ (l : List ℕ). l ++ (iv ++ (text "</Period>" ++ e))) (sym right)

  series-laid : (i n : ℕ) → layout_of rows (series_from d rows i n) ≡ every_series_text d.text d.pairs rows d.series d.positions d.amounts i n
  unfolding series_from every_series_text series_text open_text close_text layout_of end_text
  series-laid i zero = refl
  series-laid i (suc n) =
      let sr = role_row series_role rows in
      let w = get_or rows sr 0 in
      let b = bare w tb.series in
      let name = element_name (name_of w) in
      let e = text "</" ++ (name ++ text ">") in
      let inner = layout_of rows (singles_in d rows sr i (period_tree d rows i)) in
      let rest = layout_of rows (series_from d rows (suc i) n) in
      let inside =
      singles_text d.text d.pairs (header_pairs + series_pairs * i) (drop (suc sr) rows)
      ++ (intervals_text d.positions d.amounts (field_at d.series i FirstRow) (field_at d.series i Count) ++ (text "</Period>" ++ e)) in
      let own = ap (λ (l : List ℕ). text "<" ++ l) (append_assoc name (text ">") (inner ++ e) ∙ ap (λ (l : List ℕ). name ++ (text ">" ++ l)) (inside-laid i e)) in
      rw (b.1, b.0, bare-tag (name_of w) name refl)
      (ap (λ (l : List ℕ). l ++ rest) own ∙ ap (λ (l : List ℕ). (text "<" ++ (name ++ (text ">" ++ inside))) ++ l) (series-laid (suc i) n))

-- ---- the sheet

root-tag : (d : Draft) (w : ℕ) → name_text (name_of w) ≡ element_name (name_of w) → tag_text (name_of w) (root_tag d) (text ">") ≡ root_text d.text d.pairs w
unfolding tag_text attributes_text root_tag attribute_text root_text open_text
root-tag d w n =
    let z = text ">" in
    let value : (opens : List ℕ) (k : ℕ) → attribute_text opens (pair_value d k) ≡ attribute_of opens d.text d.pairs k = value-text d in
    let release = attribute_of (text " DtdRelease=\"") d.text d.pairs 1 in
    let parts =
    two-parts z (value (text " DtdVersion=\"") 0) refl
    ∙ ap (λ (l : List ℕ). attribute_of (text " DtdVersion=\"") d.text d.pairs 0 ++ l)
    (two-parts z (value (text " DtdRelease=\"") 1) refl ∙ ap (λ (l : List ℕ). release ++ l) (two-parts z (value (text " DtdBDEWNachrichtenVersion=\"") 2) refl)) in
    rw n (ap (λ (l : List ℕ). text "<" ++ (element_name (name_of w) ++ l)) parts)

pub sheet-layout : (d : Draft) → cond (eqb d.kind 1) true (eqb d.kind 2) ≡ true
    → sheet_text (rows_of d.kind) d.text d.pairs d.count d.series d.positions d.amounts ≡ draft_document d
unfolding sheet_text close_text draft_document draft_content singles_in pair_for layout_of end_text
sheet-layout d h =
    let rows = rows_of d.kind in
    let tb = table d.kind h in
    let s = shape d.kind h in
    let w = get_or rows 1 0 in
    let b = bare w tb.root in
    let behind = series_from d rows 0 d.count in
    let e = text "</" ++ (element_name (name_of w) ++ text ">") in
    let header = singles_text d.text d.pairs 3 (drop 2 rows) in
    let series = every_series_text d.text d.pairs rows d.series d.positions d.amounts 0 d.count in
    let inner : layout_of rows (singles d 2 (first_pair rows 2 + series_pairs * 0) (drop 2 rows) behind) ≡ header ++ series =
    singles-front d rows behind header_pairs (series_pairs * 0) (drop 2 rows) 2 (first_pair rows 2) refl tb.header-pairs
    ∙ ap (λ (k : ℕ). front_text d (k + series_pairs * 0) (drop 2 rows) ++ layout_of rows behind) s.header-first
    ∙ ap (λ (l : List ℕ). l ++ layout_of rows behind) (sym (front-all d (drop 2 rows) 3 s.header-end))
    ∙ ap (λ (l : List ℕ). header ++ l) (series-laid d rows tb s 0 d.count) in
    let inside : layout_of rows (singles d 2 (first_pair rows 2 + series_pairs * 0) (drop 2 rows) behind) ++ e ≡ header ++ (series ++ e) =
    ap (λ (l : List ℕ). l ++ e) inner ∙ append_assoc header series e in
    let whole = tag_text (name_of w) (root_tag d) (text ">") ++ (layout_of rows (singles d 2 (first_pair rows 2 + series_pairs * 0) (drop 2 rows) behind) ++ e) in
    sym
    (rw (b.1, b.0)
    (append-nil whole ∙ ap (λ (l : List ℕ). tag_text (name_of w) (root_tag d) (text ">") ++ l) inside ∙ ap (λ (l : List ℕ). l ++ (header ++ (series ++ e))) (root-tag d w b.0)))
