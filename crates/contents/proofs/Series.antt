-- What the elements in a series put into its row of the series table, and that they put nothing into any other row.
-- Assumes nothing.
use Prim.Native.Nat.{ℕ, suc, ◌+◌, ◌-◌, ◌≤◌, ◌<◌}
use mathlib.Core.Path.{◌≡◌, refl, sym, ap, subst, ◌∙◌}
use mathlib.Core.List.{List, [], ◌++◌, map}
use mathlib.Core.Bool.{true, false}
use mathlib.Core.Logic.{◌⊎◌, ⊎_elim}
use native.Mathlib.Omega.{arith}
use lib.ListN.{length, get_or, drop, length-set}
use lib.Dec.{eqb}
use lib.Seq.{get_or-set_same, get_or-set_other}
use borrow.Author.Tests.{eq-eqb, ne_eqb}
use Rattle.items.specs.Parts.{span_of}
use Rattle.lists.proofs.Cases.{zero-not-one}
use Rattle.trims.specs.Trim.{lead_of, trimmed_of}
use Rattle.columns.specs.Columns.{role_of}
use Rattle.states.specs.Attributes.{there}
use Rattle.states.specs.Moves.{entry_of}
use Rattle.reader.specs.Items.{Placed}
use Rattle.series.specs.Row.{cell_of, is_view, cells_of, cell_at, field_at, with_field, with_view, view}
use Rattle.series.specs.declared.Field.{Field}
use Rattle.series.specs.declared.Field.TheVariants.{Identification, Object, BusinessType, Direction, Area, FirstRow, Count}
use Rattle.series.proofs.Rows.{view-set, view-as, view-low, views-apart}
use Rattle.reader.specs.Rows.{brought_by, quoted, field_after, series_with, series_after}
use Rattle.reader.specs.Reading.{Tables, tables_after}
use Rattle.trees.specs.Trees.{Trees, none, element, rows_taken, Stand, EachConforms}
use Rattle.contents.specs.Said.{TagSaid, bytes}
use Rattle.contents.specs.Legal.{has_role, those, position_of}
use Rattle.contents.specs.Shown.{last_of, role_shown, part_shown, said_for}
use Rattle.contents.proofs.Lists.{last-append, none_both}
use Rattle.contents.proofs.Laid.{Layout, series_at, Valued}
use Rattle.contents.proofs.Elements.{own, mapped-parts}
use Rattle.contents.proofs.Shape.{later}
use Rattle.contents.proofs.Walk.{Tally, opened, walked}
use Rattle.contents.proofs.Fill.{said_of, saying, state_of, tables_with, filled, Stands}
use Rattle.contents.proofs.Values.{HasValues}
use Rattle.contents.proofs.Views.{whole-view, trimmed-view}
use Rattle.contents.proofs.Roles.{Role, is-series, is-interval, is-object, is-business, is-id, is_pos, is-qty, is-direction, is-area, is-other, role-cases, role-tells, shown_role, not-shown}

-- what an element in row w shows in each view
abbrev pub value_shown : Field → TagSaid → List ℕ
value_shown f s = part_shown f (bytes s.v)

abbrev pub shown_by : ℕ → TagSaid → Field → List (List ℕ)
shown_by role s f = map (value_shown f) (own (eqb role (role_shown f)) s)

-- a count that stays
still : (y y' : Tally) → y'.intervals ≡ y.intervals → y'.first ≡ y.first → (n : ℕ) → n ≡ y.intervals - y.first → n ≡ y'.intervals - y'.first
still y y' ei ef n e = rw (ei, ef) e

-- between two tables a view of row i is set to each of these, of which the last stays; where there is none its cells are kept
pub record Viewed (doc : List ℕ) (i : ℕ) (t t' : List ℕ) (f : Field) (l : List (List ℕ)) : Type 0 where
  pub shown : view doc t' i f ≡ last_of (view doc t i f) l
  pub kept : l ≡ [] → (get_or t' (cell_at i f) 0 ≡ get_or t (cell_at i f) 0) × (get_or t' (cell_at i f + 1) 0 ≡ get_or t (cell_at i f + 1) 0)

module _ {doc : List ℕ} {i : ℕ} {f : Field} {t : List ℕ} where
  viewed-same : {t' : List ℕ} → get_or t' (cell_at i f) 0 ≡ get_or t (cell_at i f) 0 → get_or t' (cell_at i f + 1) 0 ≡ get_or t (cell_at i f + 1) 0 → Viewed doc i t t' f []
  viewed-same {t'} a b = record { shown = view-as doc t t' i f a b; kept = λ e. (a, b) }

  viewed-on : {t₁ t₂ : List ℕ} {l m : List (List ℕ)} → Viewed doc i t t₁ f l → Viewed doc i t₁ t₂ f m → Viewed doc i t t₂ f (l ++ m)
  viewed-on {t₁} {t₂} {l} {m} a b =
      record {
        shown = b.shown ∙ ap (λ (d : List ℕ). last_of d m) a.shown ∙ sym (last-append (view doc t i f) l m);
        kept = λ e.
            let n = none_both l m e in
            ((b.kept n.1).0 ∙ (a.kept n.0).0, (b.kept n.1).1 ∙ (a.kept n.0).1);
      }

-- a view that is set to what an element says
module _ (doc : List ℕ) (i : ℕ) (t : List ℕ) (g : Field) (v : is_view g ≡ true) (a n : ℕ) (s : TagSaid) (shows : view doc (with_view t i g a n) i g ≡ value_shown g s) where
  set-viewed : Viewed doc i t (with_view t i g a n) g (shown_by (role_shown g) s g)
  set-viewed = rw (eq-eqb (role_shown g) (role_shown g) refl) (record { shown = shows; kept = λ e. absurd (zero-not-one (cc)) })

  other-viewed : (f : Field) → is_view f ≡ true → (f ≡ g → ⊥) → (cell_of f + 1 < cell_of g) ⊎ (cell_of g + 1 < cell_of f)
      → Viewed doc i t (with_view t i g a n) f (shown_by (role_shown g) s f)
  other-viewed f e ne h =
      let k = view-set t i g a n in
      rw (ne_eqb (role_shown g) (role_shown f) (λ z. ne (sym (role-tells g f v e z))))
      (viewed-same
      (k.others (cell_at i f) (λ z. ⊎_elim (λ d. omega (arith, d, z)) (λ d. omega (arith, d, z)) h) (λ z. ⊎_elim (λ d. omega (arith, d, z)) (λ d. omega (arith, d, z)) h))
      (k.others (cell_at i f + 1) (λ z. ⊎_elim (λ d. omega (arith, d, z)) (λ d. omega (arith, d, z)) h) (λ z. ⊎_elim (λ d. omega (arith, d, z)) (λ d. omega (arith, d, z)) h)))

  each-viewed : (f : Field) → is_view f ≡ true → Viewed doc i t (with_view t i g a n) f (shown_by (role_shown g) s f)
  each-viewed f e =
      ⊎_elim
      (λ q. subst (λ (h : Field). Viewed doc i t (with_view t i g a n) h (shown_by (role_shown g) s h)) (sym q) set-viewed)
      (λ h. other-viewed f e (λ q. let c : cell_of f ≡ cell_of g = ap cell_of q in ⊎_elim (λ d. omega (arith, d, c)) (λ d. omega (arith, d, c)) h) h)
      (views-apart f g e v)

-- between two places of the walk inside series i its row takes these values for each view; the tally's series stays, and so do the other rows
pub record Effect (doc : List ℕ) (i : ℕ) (y : Tally) (t : List ℕ) (y' : Tally) (t' : List ℕ) (ls : Field → List (List ℕ)) : Type 0 where
  pub series : y'.series ≡ y.series
  pub first : y'.first ≡ y.first
  pub size : length t' ≡ length t
  pub others : (j : ℕ) → (j < cells_of i) ⊎ (cells_of (i + 1) ≤ j) → get_or t' j 0 ≡ get_or t j 0
  pub start : field_at t' i FirstRow ≡ field_at t i FirstRow
  pub count : field_at t i Count ≡ y.intervals - y.first → field_at t' i Count ≡ y'.intervals - y'.first
  pub views : (f : Field) → is_view f ≡ true → Viewed doc i t t' f (ls f)

module _ {doc : List ℕ} {i : ℕ} {y : Tally} {t : List ℕ} where
  -- two steps, after which the values are these
  effect-on : {y₁ y₂ : Tally} {t₁ t₂ : List ℕ} {ls ms ns : Field → List (List ℕ)} → ((f : Field) → ls f ++ ms f ≡ ns f) → Effect doc i y t y₁ t₁ ls
      → Effect doc i y₁ t₁ y₂ t₂ ms → Effect doc i y t y₂ t₂ ns
  effect-on {y₁} {y₂} {t₁} {t₂} {ls} {ms} {ns} e a b =
      record {
        series = b.series ∙ a.series;
        first = b.first ∙ a.first;
        size = b.size ∙ a.size;
        others = λ j h. b.others j h ∙ a.others j h;
        start = b.start ∙ a.start;
        count = λ h. b.count (a.count h);
        views = λ f h. subst (Viewed doc i t t₂ f) (e f) (viewed-on (a.views f h) (b.views f h));
      }

  -- ---- one element

  module _ {y' : Tally} (es : y'.series ≡ y.series) (ef : y'.first ≡ y.first) where
    -- no view shows it
    interval-effect : {ls : Field → List (List ℕ)} → ((f : Field) → is_view f ≡ true → ls f ≡ []) → cells_of (i + 1) ≤ length t
        → Effect doc i y t y' (with_field t i Count (y'.intervals - y'.first)) ls
    interval-effect unseen h =
        let c = cell_at i Count in
        let v = y'.intervals - y'.first in
        record {
          series = es;
          first = ef;
          size = length-set t c v;
          others = λ j o. get_or-set_other t c j v 0 (λ e. ⊎_elim (λ z. omega (arith, z, e)) (λ z. omega (arith, z, e)) o);
          start = get_or-set_other t c (cell_at i FirstRow) v 0 (λ e. omega (arith, e));
          count = λ e. get_or-set_same t c v 0 (omega (arith, h));
          views = λ f e.
              let low = view-low f e in
              rw (unseen f e)
              (viewed-same (get_or-set_other t c (cell_at i f) v 0 (λ z. omega (arith, z, low))) (get_or-set_other t c (cell_at i f + 1) v 0 (λ z. omega (arith, z, low))));
        }

    module _ (ei : y'.intervals ≡ y.intervals) where
      kept-effect : {ls : Field → List (List ℕ)} → ((f : Field) → is_view f ≡ true → ls f ≡ []) → Effect doc i y t y' t ls
      kept-effect unseen =
          record {
            series = es;
            first = ef;
            size = refl;
            others = λ j o. refl;
            start = refl;
            count = λ e. still y y' ei ef (field_at t i Count) e;
            views = λ f e. rw (unseen f e) (viewed-same refl refl);
          }

      view-effect : (g : Field) → is_view g ≡ true → (a n : ℕ) (s : TagSaid) → view doc (with_view t i g a n) i g ≡ value_shown g s
          → Effect doc i y t y' (with_view t i g a n) (shown_by (role_shown g) s)
      view-effect g v a n s shows =
          let k = view-set t i g a n in
          let low = view-low g v in
          record {
            series = es;
            first = ef;
            size = k.size;
            others = λ j o.
                k.others j (λ e. ⊎_elim (λ z. omega (arith, z, e)) (λ z. omega (arith, z, e, low)) o) (λ e. ⊎_elim (λ z. omega (arith, z, e)) (λ z. omega (arith, z, e, low)) o);
            start = k.others (cell_at i FirstRow) (λ e. omega (arith, e, low)) (λ e. omega (arith, e, low));
            count = λ e.
                still y y' ei ef (field_at (with_view t i g a n) i Count) (k.others (cell_at i Count) (λ h. omega (arith, h, low)) (λ h. omega (arith, h, low)) ∙ e);
            views = each-viewed doc i t g v a n s shows;
          }

-- what a role says that no view shows
unshown : (r : ℕ) → shown_role r ≡ false → (s : TagSaid) (f : Field) → is_view f ≡ true → shown_by r s f ≡ []
unshown r z s f e = rw (not-shown r z f e)

last_row : {n i : ℕ} → n ≡ suc i → n - 1 ≡ i
last_row e = omega (arith, e)

module _ (kind : ℕ) (doc : List ℕ) where
  pub step-effect : (w q i : ℕ) (x : Placed) (y : Tally) (t : List ℕ) → Role (role_of w) → (role_of w ≡ 2 → ⊥) → (6 ≤ role_of w → there (span_of x.item) ≡ true)
      → x.rest ≡ drop x.at doc → y.series ≡ suc i → cells_of (i + 1) ≤ length t
      → Effect doc i y t (opened w (said_of x) y)
      (series_after x.at (span_of x.item) x.rest (state_of kind q true (opened w (said_of x) y)) (entry_of (role_of w) (position_of (said_of x))) t)
      (shown_by (role_of w) (said_of x))
  unfolding series_after series_with brought_by field_after entry_of state_of
  step-effect w q i x y t (is-series e) n v s a l = absurd (n e)
  step-effect w q i x y t (is-interval e) n v s a l = rw (e, last_row a) (interval-effect refl refl (unshown 4 refl (said_of x)) l)
  step-effect w q i x y t (is-object e) n v s a l =
      rw (e, last_row a) (view-effect refl refl refl Object refl (x.at + (span_of x.item).start) (span_of x.item).len (said_of x) (whole-view doc x s (v (omega (arith, e))) t i Object (omega (arith, l))))
  step-effect w q i x y t (is-business e) n v s a l =
      rw (e, last_row a) (view-effect refl refl refl BusinessType refl (x.at + (span_of x.item).start + lead_of (quoted (span_of x.item) x.rest))
      (length (trimmed_of (quoted (span_of x.item) x.rest))) (said_of x) (trimmed-view doc x s (v (omega (arith, e))) t i BusinessType (omega (arith, l))))
  step-effect w q i x y t (is-direction e) n v s a l =
      rw (e, last_row a) (view-effect refl refl refl Direction refl (x.at + (span_of x.item).start + lead_of (quoted (span_of x.item) x.rest))
      (length (trimmed_of (quoted (span_of x.item) x.rest))) (said_of x) (trimmed-view doc x s (v (omega (arith, e))) t i Direction (omega (arith, l))))
  step-effect w q i x y t (is-area e) n v s a l =
      rw (e, last_row a) (view-effect refl refl refl Area refl (x.at + (span_of x.item).start) (span_of x.item).len (said_of x) (whole-view doc x s (v (omega (arith, e))) t i Area (omega (arith, l))))
  step-effect w q i x y t (is-id e) n v s a l =
      rw (e, last_row a) (view-effect refl refl refl Identification refl (x.at + (span_of x.item).start) (span_of x.item).len (said_of x) (whole-view doc x s (v (omega (arith, e))) t i Identification (omega (arith, l))))
  step-effect w q i x y t (is_pos e) n v s a l = rw e (kept-effect refl refl refl (unshown 9 refl (said_of x)))
  step-effect w q i x y t (is-qty e) n v s a l = rw e (kept-effect refl refl refl (unshown 10 refl (said_of x)))
  step-effect w q i x y t (is-other b c d e f g h j k) n v s a l = simp (b, c, d, e, f, g, h, j, k) (kept-effect refl refl refl (unshown (role_of w) (rw (d, e, f, j, k)) (said_of x)))

-- ---- the elements in a series

module _ (kind : ℕ) (rows : List ℕ) (p : ℕ) (L : Layout rows p) (W : Valued rows) (doc : List ℕ) where
  pub no-series : (h q : ℕ) → series_at L ≤ h → h < q → q < length rows → role_of (get_or rows q 0) ≡ 2 → ⊥
  no-series h q a b l e = let d = L.only-series q l e in omega (arith, a, b, d)

  pub inside : (kids : Trees Placed) (h i : ℕ) (y : Tally) (t : Tables) → series_at L ≤ h → h < length rows → Stand rows h (rows_taken kids) → EachConforms rows kids
      → Stands doc kids → HasValues rows kids → y.series ≡ suc i → cells_of (i + 1) ≤ length t.series
      → Effect doc i y t.series (walked rows (saying kids) y) (filled kind rows kids y t).series
      (said_for rows (saying kids))
  unfolding walked filled saying rows_taken Stand EachConforms HasValues Stands tables_after said_for those
  inside none h i y t a l s c d g e m = kept-effect refl refl refl (λ f h. refl)
  inside (element q x inner after) h i y t a l s c d g e m =
      let w = get_or rows q 0 in
      let y₁ = opened w (said_of x) y in
      let t₁ = tables_with kind rows q x y₁ t in
      let b = later rows p L h q l s.0 s.1 in
      let one = step-effect kind doc w q i x y t.series (role-cases (role_of w)) (no-series h q a b s.0) (λ r. g.0 (W q s.0 r)) d.1 e m in
      let e₁ = one.series ∙ e in
      let z₁ = one.size in
      let two = inside inner q i y₁ t₁ (omega (arith, a, b)) s.0 c.0.stand c.1 d.2 g.1 e₁ (omega (arith, z₁, m)) in
      let e₂ = two.series ∙ e₁ in
      let z₂ = two.size in
      let three = inside after h i (walked rows (saying inner) y₁) (filled kind rows inner y₁ t₁) a l s.2 c.2 d.3 g.2 e₂ (omega (arith, z₂, z₁, m)) in
      effect-on (λ f. sym (mapped-parts rows (value_shown f) (has_role (role_shown f)) q (said_of x) (saying inner) (saying after))) one (effect-on (λ f. refl) two three)
