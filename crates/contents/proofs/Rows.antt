-- What the series table shows of a conforming content: a row for each series, in document order.
-- Assumes nothing.
use Prim.Native.Nat.{ℕ, zero, suc, ◌+◌, ◌-◌, ◌≤◌, ◌<◌}
use mathlib.Core.Path.{◌≡◌, refl, sym, ap, ◌∙◌}
use mathlib.Core.List.{List, [], ◌∷◌, ◌++◌}
use mathlib.Core.Bool.{true, false, Bool}
use mathlib.Core.Logic.{inl, inr, ⊎_elim}
use native.Mathlib.Omega.{arith}
use lib.Dec.{eqb}
use lib.ListN.{length, get_or, take, length-set}
use lib.Seq.{get_or-set_same, get_or-set_other}
use borrow.Author.Tests.{ne_eqb}
use Rattle.items.specs.Parts.{span_of}
use Rattle.lists.proofs.Cases.{eqb-cases}
use Rattle.slices.specs.declared.Span.{Span}
use Rattle.structure.specs.Rows.{parent_of, required}
use Rattle.columns.specs.Columns.{role_of}
use Rattle.states.specs.Moves.{entry_of}
use Rattle.states.specs.declared.State.{State}
use Rattle.reader.specs.Items.{Placed}
use Rattle.series.specs.Row.{cells_of, cell_at, with_field}
use Rattle.series.specs.declared.Field.TheVariants.{FirstRow, Count}
use Rattle.series.proofs.Rows.{view-as, view-low, view-none}
use Rattle.reader.specs.Rows.{brought_by, field_after, series_with, series_after}
use Rattle.reader.specs.Reading.{Tables, tables_after}
use Rattle.trees.specs.Trees.{Trees, none, element, rows_taken, Stand, Fits, EachConforms}
use Rattle.contents.specs.Said.{TagSaid}
use Rattle.contents.specs.Legal.{has_role, those, in_each, position_of}
use Rattle.contents.specs.Shown.{sum, last_of, said_for, each_series, interval_counts, RowShows}
use Rattle.contents.proofs.Laid.{Layout, series_at, Valued}
use Rattle.contents.proofs.Elements.{in-of, own, those-of, Within, none_in, none-there, within_more}
use Rattle.contents.proofs.Shape.{in-series-row, series-in, under-root, leaf, elsewhere, comes-once}
use Rattle.contents.proofs.Walk.{Tally, opened, walked}
use Rattle.contents.proofs.Fill.{said_of, saying, state_of, tables_with, filled, Stands}
use Rattle.contents.proofs.Lifted.{each-said, taken-said}
use Rattle.contents.proofs.Values.{HasValues}
use Rattle.contents.proofs.Roles.{by-entry}
use Rattle.contents.proofs.Intervals.{puts}
use Rattle.contents.proofs.Series.{Effect, inside}

row_kept : {doc t u rows : List ℕ} {n : ℕ} {s : Trees TagSaid} {first : ℕ} → ((j : ℕ) → j < cells_of (n + 1) → get_or u j 0 ≡ get_or t j 0)
    → RowShows doc t rows n s first → RowShows doc u rows n s first
row_kept {doc} {t} {u} {rows} {n} k r =
    record {
      views = λ f e. let low = view-low f e in view-as doc t u n f (k (cell_at n f) (omega (arith, low))) (k (cell_at n f + 1) (omega (arith, low))) ∙ r.views f e;
      absent = λ f e h.
          let low = view-low f e in
          let z = r.absent f e h in
          (k (cell_at n f) (omega (arith, low)) ∙ z.0, k (cell_at n f + 1) (omega (arith, low)) ∙ z.1);
      begins = k (cell_at n FirstRow) (omega arith) ∙ r.begins;
      count = k (cell_at n Count) (omega arith) ∙ r.count;
    }

pub row_moved : {doc cells rows : List ℕ} {n m : ℕ} {s : Trees TagSaid} {f g : ℕ} → n ≡ m → f ≡ g → RowShows doc cells rows n s f → RowShows doc cells rows m s g
row_moved e d r = rw (e, d) at r

-- m rows from n on show these series, of which the first has its first interval at f
abbrev RowsFrom : List ℕ → List ℕ → List ℕ → ℕ → ℕ → ℕ → List (Trees TagSaid) → Type 0
RowsFrom doc cells rows n f m ss = (i : ℕ) → i < m → RowShows doc cells rows (n + i) (get_or ss i none) (f + sum (take i (interval_counts rows ss)))

-- one row and those after it
rows_on : (doc cells rows : List ℕ) (n f m : ℕ) (s : Trees TagSaid) (ss : List (Trees TagSaid)) → RowShows doc cells rows n s f
    → RowsFrom doc cells rows (n + 1) (f + length (those (has_role 4) rows s)) m ss → RowsFrom doc cells rows n f (suc m) (s ∷ ss)
unfolding sum interval_counts
rows_on doc cells rows n f m s ss r rs zero l = row_moved (omega arith) (omega arith) r
rows_on doc cells rows n f m s ss r rs (suc i) l = row_moved (omega arith) (omega arith) (rs i (omega (arith, l)))

-- between two places of the walk beside the series: m rows from n on are filled
pub record Filled (doc rows : List ℕ) (n f : ℕ) (t u : List ℕ) (m : ℕ) (ss : List (Trees TagSaid)) : Type 0 where
  pub size : length u ≡ length t
  pub before : (j : ℕ) → j < cells_of n → get_or u j 0 ≡ get_or t j 0
  pub shown : RowsFrom doc u rows n f m ss

pub filled-as : {doc rows : List ℕ} {n n₁ f f₁ : ℕ} {t t₁ u : List ℕ} {m m₁ : ℕ} {ss ss₁ : List (Trees TagSaid)} → n ≡ n₁ → f ≡ f₁ → t ≡ t₁ → m ≡ m₁ → ss ≡ ss₁
    → Filled doc rows n f t u m ss → Filled doc rows n₁ f₁ t₁ u m₁ ss₁
filled-as a b c d e k = rw (a, b, c, d, e) at k

-- ---- the lists of a content with one element more

module _ (rows : List ℕ) (role q : ℕ) (x : Placed) (inner after : Trees Placed) where
  pub those-after : {t : Bool} {l : List TagSaid} → eqb (role_of (get_or rows q 0)) role ≡ t → those (has_role role) rows (saying inner) ≡ l
      → own t (said_of x) ++ (l ++ those (has_role role) rows (saying after)) ≡ those (has_role role) rows (saying (element q x inner after))
  unfolding saying
  those-after e f = sym (those-of rows (has_role role) q (said_of x) (saying inner) (saying after) e f)

  each_after : {t : Bool} {l : List (Trees TagSaid)} → eqb (role_of (get_or rows q 0)) role ≡ t → in_each (has_role role) rows (saying inner) ≡ l
      → own t (saying inner) ++ (l ++ in_each (has_role role) rows (saying after)) ≡ in_each (has_role role) rows (saying (element q x inner after))
  unfolding saying
  each_after e f = sym (in-of rows (has_role role) q (said_of x) (saying inner) (saying after) e f)

  -- an element that adds nothing to them
  module _ (bare : inner ≡ none) (n : eqb (role_of (get_or rows q 0)) role ≡ false) where
    pub those-plain : those (has_role role) rows (saying after) ≡ those (has_role role) rows (saying (element q x inner after))
    unfolding those saying
    those-plain = those-after {l = []} n (rw bare refl)

    each-plain : in_each (has_role role) rows (saying after) ≡ in_each (has_role role) rows (saying (element q x inner after))
    unfolding in_each saying
    each-plain = each_after {l = []} n (rw bare refl)

-- ---- what stands beside the series changes nothing

pub series-kept : (r n at : ℕ) (v : Span) (s : List ℕ) (st : State) (l : List ℕ) → (r ≡ 2 → ⊥) → (r ≡ 4 → ⊥) → (6 ≤ r → ⊥) → series_after at v s st (entry_of r n) l ≡ l
unfolding series_after series_with brought_by
series-kept r n at v s st l a b c =
    by-entry (λ e. series_after at v s st e l ≡ l) r n refl (λ e. absurd (a e)) (λ e. absurd (b e)) (λ e. absurd (c (omega (arith, e)))) (λ e. absurd (c (omega (arith, e))))
    (λ e. absurd (c (omega (arith, e)))) (λ e. refl) (λ e. refl) (λ e. absurd (c (omega (arith, e)))) (λ e. absurd (c (omega (arith, e))))

module _ (kind : ℕ) (rows : List ℕ) (p : ℕ) (L : Layout rows p) (W : Valued rows) (doc : List ℕ) where
  -- the tally and the tables after the start tag of an element, and after what stands in it
  abbrev pub tally_in : ℕ → Placed → Tally → Tally
  tally_in q x y = opened (get_or rows q 0) (said_of x) y

  abbrev pub tables_in : ℕ → Placed → Tally → Tables → Tables
  tables_in q x y t = tables_with kind rows q x (tally_in q x y) t

  abbrev pub tally_out : ℕ → Placed → Trees Placed → Tally → Tally
  tally_out q x inner y = walked rows (saying inner) (tally_in q x y)

  abbrev pub tables_out : ℕ → Placed → Trees Placed → Tally → Tables → Tables
  tables_out q x inner y t = filled kind rows inner (tally_in q x y) (tables_in q x y t)

  -- ---- a series

  -- what a series has once
  one-said : (role k : ℕ) → ((q : ℕ) → q < length rows → role_of (get_or rows q 0) ≡ role → q ≡ k) → series_at L < k → k < p → role_of (get_or rows k 0) ≡ role
      → required (get_or rows k 0) ≡ true → (inner : Trees Placed) → Fits rows (series_at L) (rows_taken inner) → EachConforms rows inner
      → (s : TagSaid) × (those (has_role role) rows (saying inner) ≡ s ∷ [])
  one-said role k only a b r m inner f c =
      let s = L.size in
      let e = in-series-row rows p L k a (omega (arith, b)) in
      let once = L.once k (omega (arith, s, b)) (λ d. omega (arith, d, a)) (λ d. omega (arith, d, b)) in
      let g = rw (← taken-said inner) at f in
      comes-once rows p L k once (rw e (omega (arith, s, a))) role only r (saying inner) (rw e g.stand) g.ordered (each-said rows inner c)
      (g.complete k (omega (arith, s, b)) e m)

  -- a series' element brings its row
  pub record Rowed (y y' : Tally) (t t' : List ℕ) (s : Trees TagSaid) : Type 0 where
    pub series : y'.series ≡ y.series + 1
    pub intervals : y'.intervals ≡ y.intervals + length (those (has_role 4) rows s)
    pub size : length t' ≡ length t
    pub before : (j : ℕ) → j < cells_of y.series → get_or t' j 0 ≡ get_or t j 0
    pub beyond : (j : ℕ) → cells_of (y.series + 1) ≤ j → get_or t' j 0 ≡ get_or t j 0
    pub row : RowShows doc t' rows y.series s y.intervals

  module _ (q : ℕ) (x : Placed) (inner : Trees Placed) (y : Tally) (t : Tables) (e : q ≡ series_at L) where
    is-two : role_of (get_or rows q 0) ≡ 2
    is-two = ap (λ (i : ℕ). role_of (get_or rows i 0)) e ∙ L.series

    pub opened-series : ((tally_in q x y).series ≡ y.series + 1) × ((tally_in q x y).intervals ≡ y.intervals) × ((tally_in q x y).first ≡ y.intervals)
    opened-series = rw is-two (refl, refl, refl)

    opened-cells : (tables_in q x y t).series ≡ with_field t.series y.series FirstRow y.intervals
    unfolding tables_after series_after series_with brought_by field_after entry_of state_of
    opened-cells = let d : y.series + 1 - 1 ≡ y.series = omega arith in rw (is-two, d)

    pub opened-before : (j : ℕ) → j < cells_of y.series → get_or (tables_in q x y t).series j 0 ≡ get_or t.series j 0
    opened-before j h = rw opened-cells (get_or-set_other t.series (cell_at y.series FirstRow) j y.intervals 0 (λ d. omega (arith, d, h)))

    opened-beyond : (j : ℕ) → cells_of (y.series + 1) ≤ j → get_or (tables_in q x y t).series j 0 ≡ get_or t.series j 0
    opened-beyond j h = rw opened-cells (get_or-set_other t.series (cell_at y.series FirstRow) j y.intervals 0 (λ d. omega (arith, d, h)))

    pub opened-size : length (tables_in q x y t).series ≡ length t.series
    opened-size = rw opened-cells (length-set t.series (cell_at y.series FirstRow) y.intervals)

    module _ (f : Fits rows q (rows_taken inner)) (c : EachConforms rows inner) (d : Stands doc inner) (g : HasValues rows inner)
        (room : cells_of (y.series + 1) ≤ length t.series) where
      within : q < length rows
      within = let s = L.size in omega (arith, s, e)

      series-effect : Effect doc y.series (tally_in q x y) (tables_in q x y t).series (tally_out q x inner y) (tables_out q x inner y t).series
          (said_for rows (saying inner))
      series-effect =
          let o = opened-series.0 in
          let z = opened-size in
          inside kind rows p L W doc inner q y.series (tally_in q x y) (tables_in q x y t) (omega (arith, e)) within f.stand c d g (omega (arith, o))
          (omega (arith, z, room))

      series-puts : (tally_out q x inner y).intervals ≡ y.intervals + length (those (has_role 4) rows (saying inner))
      series-puts =
          let w = L.wide in
          (puts kind rows p L W inner q (tally_in q x y) (tables_in q x y t) within (λ h. omega (arith, h, e, w)) f.stand c g).intervals
          ∙ ap (λ (n : ℕ). n + length (those (has_role 4) rows (saying inner))) opened-series.1

      pub rowed : ((j : ℕ) → cells_of y.series ≤ j → get_or t.series j 0 ≡ 0)
          → Rowed y (tally_out q x inner y) t.series (tables_out q x inner y t).series (saying inner)
      rowed blank =
          let n = y.series in
          let k = series-effect in
          let m = series-puts in
          let a₀ = opened-series.0 in
          let a₁ = opened-series.1 in
          let a₂ = opened-series.2 in
          let first = k.first in
          let clear : (c : ℕ) → cells_of n ≤ c → (c ≡ cell_at n FirstRow → ⊥) → get_or (tables_in q x y t).series c 0 ≡ 0
          = λ c l d. rw opened-cells (get_or-set_other t.series (cell_at n FirstRow) c y.intervals 0 d ∙ blank c l) in
          let counted = k.count (clear (cell_at n Count) (omega arith) (λ h. omega (arith, h)) ∙ (let z : 0 ≡ (tally_in q x y).intervals - (tally_in q x y).first = omega (arith, a₁, a₂) in z)) in
          record {
            series = k.series ∙ a₀;
            intervals = m;
            size = k.size ∙ opened-size;
            before = λ j h. k.others j (inl h) ∙ opened-before j h;
            beyond = λ j h. k.others j (inr (omega (arith, h))) ∙ opened-beyond j h;
            row =
                record {
                  views = λ f e.
                      let low = view-low f e in
                      (k.views f e).shown
                      ∙ ap (λ (d : List ℕ). last_of d (said_for rows (saying inner) f))
                      (view-none doc (tables_in q x y t).series n f (clear (cell_at n f + 1) (omega arith) (λ h. omega (arith, h, low))));
                  absent = λ f e h.
                      let low = view-low f e in
                      let z = (k.views f e).kept h in (
                        z.0 ∙ clear (cell_at n f) (omega arith) (λ d. omega (arith, d, low)),
                        z.1 ∙ clear (cell_at n f + 1) (omega arith) (λ d. omega (arith, d, low)),
                      );
                  begins = k.start ∙ rw opened-cells (get_or-set_same t.series (cell_at n FirstRow) y.intervals 0 (omega (arith, room)));
                  count = counted ∙ omega (arith, m, first, a₂);
                };
          }

  -- ---- beside the series

  -- what a row of the root that is no series leaves as it is
  pub record Untouched (q : ℕ) (x : Placed) (inner : Trees Placed) (y : Tally) (t : Tables) : Type 0 where
    pub bare : inner ≡ none
    pub series : (tally_in q x y).series ≡ y.series
    pub intervals : (tally_in q x y).intervals ≡ y.intervals
    pub cells : (tables_in q x y t).series ≡ t.series
    pub not-two : eqb (role_of (get_or rows q 0)) 2 ≡ false
    pub not_eight : eqb (role_of (get_or rows q 0)) 8 ≡ false

  pub untouched : (q : ℕ) (x : Placed) (inner : Trees Placed) (y : Tally) (t : Tables) → (q ≡ series_at L → ⊥) → q < length rows → parent_of (get_or rows q 0) ≡ 1
      → Stand rows q (rows_taken inner) → Untouched q x inner y t
  unfolding tables_after
  untouched q x inner y t n l e s =
      let b = under-root rows p L q l e in
      let b₀ = b.0 in
      let b₁ = b.1 in
      let w = L.wide in
      let r = role_of (get_or rows q 0) in
      let n₂ : r ≡ 2 → ⊥ = λ d. n (L.only-series q l d) in
      let n₄ : r ≡ 4 → ⊥ = λ d. let z = L.only-interval q l d in omega (arith, z, b₁, w) in
      let n₆ : 6 ≤ r → ⊥ = λ d. let z = L.shown-in q l d in omega (arith, z, b₁) in
      let st = state_of kind q true (tally_in q x y) in
      record {
        bare =
            leaf rows p L q inner l (λ d. omega (arith, d, b₀)) (λ d. omega (arith, d, b₀)) n (λ d. omega (arith, d, b₁, w)) (λ d. omega (arith, d, b₁, w)) s;
        series = rw (ne_eqb r 2 n₂);
        intervals = rw (ne_eqb r 4 n₄);
        cells = series-kept r (position_of (said_of x)) x.at (span_of x.item) x.rest st t.series n₂ n₄ n₆;
        not-two = ne_eqb r 2 n₂;
        not_eight = ne_eqb r 8 (λ d. n₆ (omega (arith, d)));
      }

  -- what is said once in a series
  pub record Once (inner : Trees Placed) : Type 0 where
    pub id : TagSaid
    pub id-once : those (has_role 8) rows (saying inner) ≡ id ∷ []
    pub no-series : those (has_role 2) rows (saying inner) ≡ []
    pub no-series-each : in_each (has_role 2) rows (saying inner) ≡ []

  pub once-in : (inner : Trees Placed) → Fits rows (series_at L) (rows_taken inner) → EachConforms rows inner → Once inner
  once-in inner f c =
      let w = L.wide in
      let s = L.size in
      let i = one-said 8 L.id-row L.only-id L.id-in.0 L.id-in.1 L.id L.must-id inner f c in
      let before : parent_of (get_or rows (series_at L) 0) < series_at L = rw (series-in rows p L) (omega arith) in
      let g = rw (← taken-said inner) at f in
      let others : Within (λ q. has_role 2 (get_or rows q 0) ≡ false) (saying inner) =
      within_more (λ q d. ne_eqb (role_of (get_or rows q 0)) 2 (λ e. d.1 (L.only-series q d.0 e))) (saying inner)
      (elsewhere rows p L (series_at L) (saying inner) (series_at L) (omega (arith, s)) before g.stand (each-said rows inner c)) in
      record {
        id = i.0;
        id-once = i.1;
        no-series = none-there rows (has_role 2) (saying inner) others;
        no-series-each = none_in rows (has_role 2) (saying inner) others;
      }

  abbrev pub series_in : Trees Placed → ℕ
  series_in kids = length (those (has_role 2) rows (saying kids))

  abbrev FilledBy : Trees Placed → Tally → Tables → Type 0
  FilledBy kids y t =
      Filled doc rows y.series y.intervals t.series (filled kind rows kids y t).series (series_in kids) (each_series rows (saying kids))

  filled-plain : (q : ℕ) (x : Placed) (inner after : Trees Placed) (y : Tally) (t : Tables) → Untouched q x inner y t
      → FilledBy after (tally_in q x y) (tables_in q x y t) → FilledBy (element q x inner after) y t
  unfolding filled walked saying each_series
  filled-plain q x inner after y t e h =
      let k = filled-as e.series e.intervals e.cells (ap length (those-plain rows 2 q x inner after e.bare e.not-two))
      (each-plain rows 2 q x inner after e.bare e.not-two) h in
      rw e.bare (rw e.bare at k)

  filled-series : (q : ℕ) (x : Placed) (inner after : Trees Placed) (y : Tally) (t : Tables) → q ≡ series_at L → (o : Once inner)
      → Rowed y (tally_out q x inner y) t.series (tables_out q x inner y t).series (saying inner)
      → FilledBy after (tally_out q x inner y) (tables_out q x inner y t) → FilledBy (element q x inner after) y t
  unfolding filled walked saying each_series
  filled-series q x inner after y t e o r h =
      let u = (filled kind rows after (tally_out q x inner y) (tables_out q x inner y t)).series in
      let role = ap (λ (i : ℕ). role_of (get_or rows i 0)) e ∙ L.series in
      let two : eqb (role_of (get_or rows q 0)) 2 ≡ true = rw role in
      let k = filled-as r.series r.intervals refl refl refl h in
      filled-as refl refl refl (ap length (those-after rows 2 q x inner after two o.no-series)) (each_after rows 2 q x inner after two o.no-series-each)
      (record {
        size = k.size ∙ r.size;
        before = λ j l. k.before j (omega (arith, l)) ∙ r.before j l;
        shown = rows_on doc u rows y.series y.intervals (series_in after) (saying inner) (each_series rows (saying after)) (row_kept k.before r.row) k.shown;
      })

  -- how many series there are with one element more
  pub more-series : (q : ℕ) (x : Placed) (inner after : Trees Placed) → q ≡ series_at L → Once inner → series_in (element q x inner after) ≡ suc (series_in after)
  more-series q x inner after e o =
      let role = ap (λ (i : ℕ). role_of (get_or rows i 0)) e ∙ L.series in
      let two : eqb (role_of (get_or rows q 0)) 2 ≡ true = rw role in
      sym (ap length (those-after rows 2 q x inner after two o.no-series))

  pub series-filled : (kids : Trees Placed) (y : Tally) (t : Tables) → Stand rows 1 (rows_taken kids) → EachConforms rows kids → Stands doc kids → HasValues rows kids
      → cells_of (y.series + series_in kids) ≤ length t.series → ((j : ℕ) → cells_of y.series ≤ j → get_or t.series j 0 ≡ 0) → FilledBy kids y t
  unfolding rows_taken Stand EachConforms Stands HasValues filled saying those
  series-filled none y t s c d g room blank = record { size = refl; before = λ j l. refl; shown = λ i l. absurd (omega (arith, l)) }
  series-filled (element q x inner after) y t s c d g room blank =
      ⊎_elim
      (λ e.
      let f = c.0 in
      let o = once-in inner (rw e.0 at f) c.1 in
      let m = more-series q x inner after e.0 o in
      let r = rowed q x inner y t e.0 f c.1 d.2 g.1 (omega (arith, m, room)) blank in
      let u = r.series in
      let v = r.size in
      filled-series q x inner after y t e.0 o r
      (series-filled after (tally_out q x inner y) (tables_out q x inner y t) s.2 c.2 d.3 g.2 (omega (arith, m, room, u, v))
      (λ j l. r.beyond j (omega (arith, l, u)) ∙ blank j (omega (arith, l, u)))))
      (λ e.
      let k = untouched q x inner y t e.0 s.0 s.1 c.0.stand in
      let m : series_in (element q x inner after) ≡ series_in after = sym (ap length (those-plain rows 2 q x inner after k.bare k.not-two)) in
      let u = k.series in
      let v = ap length k.cells in
      filled-plain q x inner after y t k
      (series-filled after (tally_in q x y) (tables_in q x y t) s.2 c.2 d.3 g.2 (omega (arith, m, room, u, v))
      (λ j l. ap (λ (z : List ℕ). get_or z j 0) k.cells ∙ blank j (omega (arith, l, u)))))
      (eqb-cases q (series_at L))
