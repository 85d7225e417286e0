-- The second walk over the items of a document shows the elements of its content, one after the other. Assumes nothing.
use Prim.Native.Nat.{ℕ, ◌+◌, ◌-◌, ◌≤◌, ◌<◌}
use mathlib.Core.Path.{◌≡◌, refl, sym, ap, ◌∙◌}
use mathlib.Core.List.{List, [], ◌∷◌, ◌++◌, map, append_assoc, append-nil}
use mathlib.Core.Bool.{Bool, true, false, cond}
use mathlib.Core.Logic.{◌⊎◌, inl, inr, ⊎_elim}
use native.Mathlib.Omega.{arith}
use native.Mathlib.Nat.{le_refl}
use lib.Dec.{eqb, leb, ltb}
use lib.ListN.{length, drop, get_or}
use borrow.Author.Tests.{leb-true, le-ltb}
use Rattle.lists.proofs.Cases.{by_cond, bool_cases, both_true, never, ltb-cases, eqb-cases}
use Rattle.slices.specs.Same.{same}
use Rattle.elements.specs.Names.{names, number_in, element_no}
use Rattle.structure.specs.Rows.{name_of, parent_of}
use Rattle.columns.specs.Columns.{role_of, form_of, scheme_of, series_role}
use Rattle.guideline.specs.Rows.{beschaffungsanforderung, kostenblatt, network_constraint_document, rows_of}
use Rattle.guideline.proofs.Each.{each_table, of-table, each_row, row_of, row_with}
use Rattle.states.specs.Attributes.{asks_v, asks_scheme}
use Rattle.items.specs.declared.Item.{Item}
use Rattle.items.specs.declared.Item.TheVariants.{Start, Empty, End, Text, Comment, Unreadable}
use Rattle.reader.specs.Items.{Placed}
use Rattle.trees.specs.Trees.{Sign, Opens, Closes, Trees, none, element, rows_taken, spell, Stand, EachConforms}
use Rattle.contents.specs.Said.{AttributeValue, Absent}
use Rattle.contents.specs.Spelled.{element_in}
use Rattle.contents.proofs.Fill.{said_by_item, said_of, placed_by, placed_signs, is_tag, Stands}
use Rattle.views.specs.Layout.{header_pairs, values_of, pair_after, pairs_after, first_pair, pair_in, row_named, cell_of}
use Rattle.views.specs.Shown.{tag_shown, tag_row, series_at, tag_counts, tag_shows, item_counts, item_shows, items_shown}
use Rattle.sights.specs.Values.{Part, counts_of, parts_of, stands_in, last_of, values_said, PairShows, RowShows}
use Rattle.sights.proofs.Pairs.{tag-shown, tag-kept, tag-long}
use Rattle.sights.proofs.Slots.{own_name, Apart, numbers_apart, rows_apart}

-- ---- items, signs, elements

-- what an item that opens an element of row w shows
unfoldable pub shows_as : ℕ → ℕ → ℕ → Item → List ℕ → List ℕ → List ℕ
shows_as k at w (Start tag) s t = cond (eqb (values_of w) 0) t (tag_shown k at w tag s t)
shows_as k at w (Empty tag) s t = cond (eqb (values_of w) 0) t (tag_shown k at w tag s t)
shows_as k at w (End n e) s t = t
shows_as k at w (Text white e) s t = t
shows_as k at w (Comment e) s t = t
shows_as k at w (Unreadable p) s t = t

abbrev pub shown_for : List ℕ → ℕ → ℕ → Placed → List ℕ → List ℕ
shown_for rows q m x t = shows_as (pair_in (first_pair rows q) m) x.at (get_or rows q 0) x.item x.rest t

unfoldable signs_shown : List ℕ → List (Sign Placed) → ℕ → List ℕ → List ℕ
signs_shown rows [] n t = t
signs_shown rows (Opens x e ∷ l) n t =
    let q = row_named e rows in
    let m = series_at (get_or rows q 0) n in
    signs_shown rows l m (shown_for rows q m x t)
signs_shown rows (Closes e ∷ l) n t = signs_shown rows l n t

unfoldable pub parts_show : List ℕ → List (Part Placed) → List ℕ → List ℕ
parts_show rows [] t = t
parts_show rows (p ∷ ps) t = parts_show rows ps (shown_for rows p.row p.number p.said t)

module _ (rows : List ℕ) where
  by-item : (x : Placed) (xs : List Placed) (n : ℕ) (t : List ℕ) → ((m : ℕ) (u : List ℕ) → items_shown rows xs m u ≡ signs_shown rows (placed_signs xs) m u)
      → (i : Item) → x.item ≡ i
      → items_shown rows xs (item_counts rows i x.rest n) (item_shows rows x.at i x.rest n t) ≡ signs_shown rows (placed_by x i ++ placed_signs xs) n t
  unfolding item_counts tag_counts item_shows tag_shows tag_row placed_by signs_shown shows_as element_in
  by-item x xs n t ih (Start tag) e = ih _ _ ∙ rw e refl
  by-item x xs n t ih (Empty tag) e = ih _ _ ∙ rw e refl
  by-item x xs n t ih (End k m) e = ih _ _
  by-item x xs n t ih (Text w m) e = ih _ _
  by-item x xs n t ih (Comment m) e = ih _ _
  by-item x xs n t ih (Unreadable p) e = ih _ _

  items-signs : (xs : List Placed) (n : ℕ) (t : List ℕ) → items_shown rows xs n t ≡ signs_shown rows (placed_signs xs) n t
  unfolding items_shown placed_signs signs_shown
  items-signs [] n t = refl
  items-signs (x ∷ xs) n t = by-item x xs n t (λ m u. items-signs xs m u) x.item refl

  parts-both : (a b : List (Part Placed)) (t : List ℕ) → parts_show rows (a ++ b) t ≡ parts_show rows b (parts_show rows a t)
  unfolding parts_show
  parts-both [] b t = refl
  parts-both (p ∷ a) b t = parts-both a b _

  -- each row is that of its name
  unfoldable pub Named : Trees Placed → Type 0
  Named none = Unit {0}
  Named (element q x inner after) = (row_named (name_of (get_or rows q 0)) rows ≡ q) × Named inner × Named after

  opens_row : (x : Placed) (name q : ℕ) (l : List (Sign Placed)) (n : ℕ) (t : List ℕ) → row_named name rows ≡ q
      → signs_shown rows (Opens x name ∷ l) n t ≡ signs_shown rows l (series_at (get_or rows q 0) n) (shown_for rows q (series_at (get_or rows q 0) n) x t)
  unfolding signs_shown
  opens_row x name q l n t e = rw (signs_shown, e) refl

  spell-shown : (kids : Trees Placed) → Named kids → (l : List (Sign Placed)) (n : ℕ) (t : List ℕ)
      → signs_shown rows (spell rows kids ++ l) n t ≡ signs_shown rows l (counts_of rows kids n) (parts_show rows (parts_of rows kids n) t)
  unfolding Named spell counts_of parts_of parts_show signs_shown
  spell-shown none h l n t = refl
  spell-shown (element q x inner after) h l n t =
      let name = name_of (get_or rows q 0) in
      let m = series_at (get_or rows q 0) n in
      let u = shown_for rows q m x t in
      let k = counts_of rows inner m in
      let e : signs_shown rows ((spell rows inner ++ (Closes name ∷ spell rows after)) ++ l) m u ≡ signs_shown rows (spell rows inner ++ (Closes name ∷ (spell rows after ++ l))) m u =
      ap (λ (r : List (Sign Placed)). signs_shown rows r m u) (append_assoc (spell rows inner) (Closes name ∷ spell rows after) l) in
      opens_row x name q ((spell rows inner ++ (Closes name ∷ spell rows after)) ++ l) n t h.0
      ∙ (e ∙ spell-shown inner h.1 (Closes name ∷ (spell rows after ++ l)) m u
      ∙ spell-shown after h.2 l k (parts_show rows (parts_of rows inner m) u)
      ∙ ap (signs_shown rows l (counts_of rows after k)) (sym (parts-both (parts_of rows inner m) (parts_of rows after k) u)))

-- ---- rows that stand in a series

-- rows of a series stand behind its row, which is r, and in r or behind it
behind : List ℕ → Bool
behind rows =
    let r = row_with series_role rows in
    each_row
    (λ q w.
    cond (cond (eqb (values_of w) 0) true (cond (ltb (first_pair rows q) header_pairs) true (leb r q)))
    (cond (ltb q r) true (cond (eqb (role_of w) series_role) true (leb r (parent_of w))))
    false)
    0 rows

behind-all : each_table behind ≡ true
unfolding behind rows_of beschaffungsanforderung kostenblatt network_constraint_document element_no number_in names same values_of pair_after pairs_after first_pair asks_v asks_scheme role_of form_of scheme_of parent_of
behind-all = refl

pub at_least : (w n : ℕ) → n ≤ series_at w n
unfolding series_at
at_least w n = by_cond (λ (m : ℕ). n ≤ m) (eqb (role_of w) series_role) (omega arith) (le_refl n)

pub counts_up : {A : Type 0} (rows : List ℕ) (kids : Trees A) (n : ℕ) → n ≤ counts_of rows kids n
unfolding counts_of
counts_up rows none n = le_refl n
counts_up rows (element q x inner after) n =
    let a = at_least (get_or rows q 0) n in
    let b = counts_up rows inner (series_at (get_or rows q 0) n) in
    let c = counts_up rows after (counts_of rows inner (series_at (get_or rows q 0) n)) in
    omega (arith, a, b, c)

module _ (doc : List ℕ) (kind : ℕ) where
  abbrev rows : List ℕ
  rows = rows_of kind

  abbrev r : ℕ
  r = row_with series_role rows

  abbrev many : ℕ → ℕ
  many q = values_of (get_or rows q 0)

  behind-row : (q : ℕ) → q < length rows
      → (eqb (many q) 0 ≡ false → header_pairs ≤ first_pair rows q → r ≤ q) × (r ≤ q → (eqb (role_of (get_or rows q 0)) series_role ≡ true) ⊎ (r ≤ parent_of (get_or rows q 0)))
  unfolding behind
  behind-row q h =
      let t = both_true (cond (eqb (many q) 0) true (cond (ltb (first_pair rows q) header_pairs) true (leb r q))) (row_of _ rows (of-table behind behind-all kind) q h) in (
        λ e l. leb-true _ _ (rw (e, le-ltb _ _ l) at t.0),
        λ l.
            let u : cond (eqb (role_of (get_or rows q 0)) series_role) true (leb r (parent_of (get_or rows q 0))) ≡ true = rw (le-ltb _ _ l) at t.1 in
            ⊎_elim (λ y. inl y) (λ y. inr (leb-true _ _ (rw y at u))) (bool_cases (eqb (role_of (get_or rows q 0)) series_role)),
      )

  -- an element that stands in a series comes after the start of one
  numbered : (q n : ℕ) → q < length rows → (r ≤ parent_of (get_or rows q 0) → 1 ≤ n) → r ≤ q → 1 ≤ series_at (get_or rows q 0) n
  unfolding series_at
  numbered q n h k l =
      ⊎_elim
      (λ y. rw y (omega arith))
      (λ y. let a = k y in let b = at_least (get_or rows q 0) n in omega (arith, a, b))
      ((behind-row q h).1 l)

  -- what is known of each element
  pub record Good (p : Part Placed) : Type 0 where
    pub low : p.row < length rows
    pub number : eqb (many p.row) 0 ≡ false → header_pairs ≤ first_pair rows p.row → 1 ≤ p.number
    pub tag : is_tag p.said.item ≡ true
    pub stands : p.said.rest ≡ drop p.said.at doc

  unfoldable pub AllGood : List (Part Placed) → Type 0
  AllGood [] = Unit {0}
  AllGood (p ∷ ps) = Good p × AllGood ps

  good-both : (a b : List (Part Placed)) → AllGood a → AllGood b → AllGood (a ++ b)
  unfolding AllGood
  good-both [] b x y = y
  good-both (p ∷ a) b x y = (x.0, good-both a b x.1 y)

  pub all-good : (kids : Trees Placed) (p n : ℕ) → Stand rows p (rows_taken kids) → EachConforms rows kids → Stands doc kids → (r ≤ p → 1 ≤ n) → AllGood (parts_of rows kids n)
  unfolding rows_taken Stand EachConforms Stands parts_of AllGood
  all-good none p n s c d k = tt
  all-good (element q x inner after) p n s c d k =
      let w = get_or rows q 0 in
      let m = series_at w n in
      let f : r ≤ q → 1 ≤ m = numbered q n s.0 (λ l. k (rw s.1 at l)) in
      let a = at_least w n in
      let b = counts_up rows inner m in (
        record { low = s.0; number = λ e l. f ((behind-row q s.0).0 e l); tag = d.0; stands = d.1 },
        good-both (parts_of rows inner m) (parts_of rows after (counts_of rows inner m))
            (all-good inner q m c.0.stand c.1 d.2 f)
            (all-good after p (counts_of rows inner m) s.2 c.2 d.3 (λ l. let z = k l in omega (arith, z, a, b))),
      )

  pub named : (kids : Trees Placed) (p : ℕ) → Stand rows p (rows_taken kids) → EachConforms rows kids → Named rows kids
  unfolding rows_taken Stand EachConforms Named
  named none p s c = tt
  named (element q x inner after) p s c = (own_name kind q s.0, named inner q c.0.stand c.1, named after p s.2 c.2)

  in-front : (a q n m : ℕ) → a ≡ q → ltb (first_pair rows q) header_pairs ≡ true → pair_in (first_pair rows a) n ≡ pair_in (first_pair rows q) m
  unfolding pair_in
  in-front a q n m e z = rw (e, z) refl

  -- ---- what the pairs of a row show, in the header or in series m

  module _ (q m : ℕ) (low : q < length rows) (some : eqb (many q) 0 ≡ false) (number : header_pairs ≤ first_pair rows q → 1 ≤ m) where
    abbrev own : ℕ
    own = pair_in (first_pair rows q) m

    abbrev Shows : List ℕ → List Placed → Type 0
    Shows t d = RowShows doc t own (get_or rows q 0) (map said_of d)

    module _ (k at w : ℕ) (s : List ℕ) (stands : s ≡ drop at doc) (t : List ℕ) where
      item-shown : (i : Item) → is_tag i ≡ true → eqb (values_of w) 0 ≡ false → cell_of (k + values_of w) ≤ length t → (j : ℕ) → j < values_of w
          → PairShows doc (shows_as k at w i s t) (k + j) (get_or (values_said w (said_by_item i s)) j Absent)
      unfolding is_tag shows_as said_by_item
      item-shown (Start tag) y e h j l = rw e (tag-shown doc at s stands t k w tag h j l)
      item-shown (Empty tag) y e h j l = rw e (tag-shown doc at s stands t k w tag h j l)
      item-shown (End n x) y e h j l = never y
      item-shown (Text b x) y e h j l = never y
      item-shown (Comment x) y e h j l = never y
      item-shown (Unreadable x) y e h j l = never y

      item-kept : (i : Item) (l : ℕ) (v : AttributeValue) → (eqb (values_of w) 0 ≡ false → (l < k) ⊎ (k + values_of w ≤ l)) → PairShows doc t l v → PairShows doc (shows_as k at w i s t) l v
      unfolding shows_as
      item-kept (Start tag) l v o h = ⊎_elim (λ y. rw y h) (λ y. rw y (tag-kept doc at s stands t k w tag y l v (o y) h)) (bool_cases (eqb (values_of w) 0))
      item-kept (Empty tag) l v o h = ⊎_elim (λ y. rw y h) (λ y. rw y (tag-kept doc at s stands t k w tag y l v (o y) h)) (bool_cases (eqb (values_of w) 0))
      item-kept (End n x) l v o h = h
      item-kept (Text b x) l v o h = h
      item-kept (Comment x) l v o h = h
      item-kept (Unreadable x) l v o h = h

      item-long : (i : Item) → length (shows_as k at w i s t) ≡ length t
      unfolding shows_as
      item-long (Start tag) = by_cond (λ (u : List ℕ). length u ≡ length t) (eqb (values_of w) 0) refl (tag-long doc at s stands t k w tag)
      item-long (Empty tag) = by_cond (λ (u : List ℕ). length u ≡ length t) (eqb (values_of w) 0) refl (tag-long doc at s stands t k w tag)
      item-long (End n x) = refl
      item-long (Text b x) = refl
      item-long (Comment x) = refl
      item-long (Unreadable x) = refl

    module _ (p : Part Placed) (g : Good p) (t : List ℕ) (room : cell_of (own + many q) ≤ length t) where
      abbrev next : List ℕ
      next = shown_for rows p.row p.number p.said t

      next-long : length next ≡ length t
      next-long = item-long (pair_in (first_pair rows p.row) p.number) p.said.at (get_or rows p.row 0) p.said.rest g.stands t p.said.item

      taken : p.row ≡ q → pair_in (first_pair rows p.row) p.number ≡ own → Shows next (p.said ∷ [])
      taken e f j l =
          rw (f, e)
          (item-shown own p.said.at (get_or rows q 0) p.said.rest g.stands t p.said.item g.tag some room j l)

      passed : (eqb (many p.row) 0 ≡ false → Apart kind p.row p.number q m) → (d : List Placed) → Shows t d → Shows next d
      passed a d h j l =
          item-kept (pair_in (first_pair rows p.row) p.number) p.said.at (get_or rows p.row 0) p.said.rest g.stands t p.said.item (own + j) _
          (λ e. ⊎_elim (λ y. inr (omega (arith, y))) (λ y. inl (omega (arith, y, l))) (a e))
          (h j l)

      one-part : (d : List Placed) → Shows t d → Shows next (cond (stands_in rows q m p) (p.said ∷ []) d)
      one-part d h =
          ⊎_elim
          (λ (y : (p.row ≡ q) × (eqb p.row q ≡ true)).
          ⊎_elim
          (λ (z : (first_pair rows q < header_pairs) × (ltb (first_pair rows q) header_pairs ≡ true)). rw (y.1, z.1) (taken y.0 (in-front p.row q p.number m y.0 z.1)))
          (λ (z : (header_pairs ≤ first_pair rows q) × (ltb (first_pair rows q) header_pairs ≡ false)).
          ⊎_elim
          (λ (u : (p.number ≡ m) × (eqb p.number m ≡ true)). rw (y.1, z.1, u.1) (taken y.0 (rw (y.0, u.0) refl)))
          (λ (u : (p.number ≡ m → ⊥) × (eqb p.number m ≡ false)).
          rw (y.1, z.1, u.1) (passed (λ e. other y.0 z.0 u.0) d h))
          (eqb-cases p.number m))
          (ltb-cases (first_pair rows q) header_pairs))
          (λ (y : (p.row ≡ q → ⊥) × (eqb p.row q ≡ false)).
          rw y.1 (passed (λ e. rows_apart kind p.row p.number q m g.low low e some (g.number e) number y.0) d h))
          (eqb-cases p.row q)
        where
          other : p.row ≡ q → header_pairs ≤ first_pair rows q → (p.number ≡ m → ⊥) → Apart kind p.row p.number q m
          other e z u =
              let some' : eqb (many p.row) 0 ≡ false = rw e some in
              let z' : header_pairs ≤ first_pair rows p.row = rw e z in
              rw e (numbers_apart kind q p.number m low some z (g.number some' z') (number z) u)

    pub parts-show : (ps : List (Part Placed)) → AllGood ps → (t : List ℕ) (d : List Placed) → cell_of (own + many q) ≤ length t → Shows t d
        → Shows (parts_show rows ps t) (last_of rows q m d ps)
    unfolding AllGood parts_show last_of
    parts-show [] g t d room h = h
    parts-show (p ∷ ps) g t d room h =
        let e = next-long p g.0 t room in
        parts-show ps g.1 _ _ (rw e room) (one-part p g.0 t room d h)

-- the whole
pub items-shown : (kind : ℕ) (xs : List Placed) (kids : Trees Placed) (t : List ℕ) → Named (rows_of kind) kids → placed_signs xs ≡ spell (rows_of kind) kids
    → items_shown (rows_of kind) xs 0 t ≡ parts_show (rows_of kind) (parts_of (rows_of kind) kids 0) t
unfolding signs_shown
items-shown kind xs kids t h e =
    let rows = rows_of kind in
    items-signs rows xs 0 t ∙ ap (λ (l : List (Sign Placed)). signs_shown rows l 0 t) (e ∙ sym (append-nil (spell rows kids))) ∙ spell-shown rows kids h [] 0 t
