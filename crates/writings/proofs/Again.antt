-- Writing what was read back from a written document writes the same bytes. Assumes nothing.
use Prim.Native.Nat.{ℕ, zero, suc, ◌+◌, ◌≤◌, ◌<◌}
use mathlib.Core.Path.{◌≡◌, refl, sym, ap, ◌∙◌, subst}
use mathlib.Core.List.{List, [], ◌∷◌, ◌++◌, append-nil}
use mathlib.Core.Bool.{Bool, true, false, cond}
use mathlib.Core.Logic.{⊎_elim}
use native.Mathlib.Omega.{arith}
use native.Mathlib.Nat.{add-zero}
use lib.Dec.{eqb}
use lib.IntN.{ℤ, pos}
use lib.ListN.{length, get_or, drop, take, get_or-append}
use lib.Seq.{get_or-append-add}
use Rattle.lists.proofs.Cases.{bool_cases, never}
use Rattle.notes.specs.declared.Shape.{Shape}
use Rattle.escapes.specs.Escaped.{escaped}
use Rattle.escapes.specs.Spelled.{chars_of}
use Rattle.columns.specs.Columns.{series_role, interval_role}
use Rattle.guideline.specs.Rows.{rows_of}
use Rattle.series.specs.Row.{field_at}
use Rattle.series.specs.declared.Field.TheVariants.{FirstRow, Count}
use Rattle.reader.specs.Reading.{room_of}
use Rattle.reader.specs.Answer.{Outcome}
use Rattle.trees.specs.Trees.{Trees, none}
use Rattle.contents.specs.Said.{Given, TagSaid}
use Rattle.contents.specs.Legal.{has_role, those, in_each, Legal, HasRoom}
use Rattle.contents.specs.Shown.{sum, each_series, interval_counts}
use Rattle.views.specs.Layout.{header_pairs, cell_of, view_room}
use Rattle.views.specs.Shown.{pair_view}
use Rattle.views.specs.Views.{sheet_viewed}
use Rattle.drafts.specs.Draft.{Draft, is_no_pair, pair_value, role_row, pair_for, singles_in, period_tree, series_from, draft_content, draft_document, pair_fits, Lent}
use Rattle.drafts.specs.Pairs.{has_pair}
use Rattle.drafts.specs.Judged.{draft_legal, positions_in, amounts_in, positions_of, amounts_of}
use Rattle.drafts.specs.Fit.{is_lent, draft_fits}
use Rattle.drafts.specs.Written.{written_of}
use Rattle.drafts.proofs.Elements.{Roles, roles, singles-in-each}
use Rattle.drafts.proofs.Legal.{plain-intervals, series-counted, outside, inner-series}
use Rattle.drafts.proofs.Promises.{fit-exactly, outcome, draft-read, positions-back, amounts-back}
use Rattle.writings.specs.Back.{ends_dropped, TextBack, EachValue}
use Rattle.writings.specs.Same.{SameRows, SameGiven}
use Rattle.writings.specs.Again.{ValueFrom, MadeOf, NoneDropped}
use Rattle.writings.proofs.Texts.{pair-absent, pair-given, text-again, draft-series, texts-back}
use Rattle.writings.proofs.Same.{same-content, same-document, each-value}

-- ---- a value

no-pair : (t : List ℕ) (k : ℕ) → (get_or t (cell_of k) 0 ≡ 0) × (get_or t (cell_of k + 1) 0 ≡ 0) → has_pair t k ≡ false
unfolding has_pair is_no_pair
no-pair t k c = rw (c.0, c.1) refl

value-again : (d g : Draft) (doc t : List ℕ) (k : ℕ) (drops : Bool) → pair_fits d k ≡ true → TextBack d doc t k drops → ValueFrom g doc t k
    → (has_pair d.pairs k ≡ true → ends_dropped drops (chars_of (pair_view d.text d.pairs k)) ≡ chars_of (pair_view d.text d.pairs k)) → pair_value d k ≡ pair_value g k
value-again d g doc t k drops f b v kept =
    ⊎_elim
    (λ (y : has_pair d.pairs k ≡ true).
    let h = b.there y in
    pair-given d k y ∙ ap (λ (x : List ℕ). Given (escaped x)) (sym (text-again d k doc t drops f b y (kept y)) ∙ sym (v.text h)) ∙ sym (pair-given g k (v.there ∙ h)))
    (λ (y : has_pair d.pairs k ≡ false). pair-absent d k y ∙ sym (pair-absent g k (v.there ∙ no-pair t k (b.absent y))))
    (bool_cases (has_pair d.pairs k))

-- ---- the rows of each series, one series after the other

module _ {A : Type 0} (d : Draft) (z : A) (f : ℕ → A) where
  -- n of them from row j on
  unfoldable in_turn : ℕ → ℕ → List A
  in_turn j zero = []
  in_turn j (suc n) = f j ∷ in_turn (suc j) n

  -- those of n series from series i on
  unfoldable all_turns : ℕ → ℕ → List A
  all_turns i zero = []
  all_turns i (suc n) = in_turn (field_at d.series i FirstRow) (field_at d.series i Count) ++ all_turns (suc i) n

  turn-long : (j n : ℕ) → length (in_turn j n) ≡ n
  unfolding in_turn
  turn-long j zero = refl
  turn-long j (suc n) = ap suc (turn-long (suc j) n)

  turn_at : (j n x : ℕ) → x < n → get_or (in_turn j n) x z ≡ f (j + x)
  unfolding in_turn
  turn_at j zero x h = absurd (omega (arith, h))
  turn_at j (suc n) zero h = ap f (sym (add-zero j))
  turn_at j (suc n) (suc x) h = let e : suc j + x ≡ j + suc x = omega arith in turn_at (suc j) n x (omega (arith, h)) ∙ ap f e

-- how many rows each of n series from series i on has
unfoldable pub counts_in : Draft → ℕ → ℕ → List ℕ
counts_in d i zero = []
counts_in d i (suc n) = field_at d.series i Count ∷ counts_in d (suc i) n

turns_at : {A : Type 0} (d : Draft) (z : A) (f : ℕ → A) (j i n x : ℕ) → j < n → x < field_at d.series (i + j) Count
    → get_or (all_turns d z f i n) (sum (take j (counts_in d i n)) + x) z ≡ f (field_at d.series (i + j) FirstRow + x)
unfolding all_turns counts_in sum
turns_at d z f j i zero x h l = absurd (omega (arith, h))
turns_at d z f zero i (suc n) x h l =
    let a = field_at d.series i FirstRow in
    let c = field_at d.series i Count in
    let u : x < field_at d.series i Count = rw (add-zero i) at l in
    let m = turn-long d z f a c in
    let e : 0 + x ≡ x = omega arith in
    rw (e, add-zero i) (get_or-append (in_turn d z f a c) (all_turns d z f (suc i) n) z x (omega (arith, m, u)) ∙ turn_at d z f a c x u)
turns_at d z f (suc j) i (suc n) x h l =
    let a = field_at d.series i FirstRow in
    let c = field_at d.series i Count in
    let k : suc i + j ≡ i + suc j = omega arith in
    let s = sum (take j (counts_in d (suc i) n)) in
    let m = turn-long d z f a c in
    let e : c + s + x ≡ length (in_turn d z f a c) + (s + x) = omega (arith, m) in
    ap (λ (y : ℕ). get_or (in_turn d z f a c ++ all_turns d z f (suc i) n) y z) e
    ∙ get_or-append-add (in_turn d z f a c) (all_turns d z f (suc i) n) (s + x) z
    ∙ turns_at d z f j (suc i) n x (omega (arith, h)) (rw k l)
    ∙ ap (λ (y : ℕ). f (field_at d.series y FirstRow + x)) k

module _ (d : Draft) where
  abbrev position_at : ℕ → ℕ
  position_at x = get_or d.positions x 0

  abbrev amount_at : ℕ → ℤ
  amount_at x = get_or d.amounts x (pos 0)

  positions-turn : (j n : ℕ) → positions_in d j n ≡ in_turn d 0 position_at j n
  unfolding positions_in in_turn
  positions-turn j zero = refl
  positions-turn j (suc n) = ap (λ (l : List ℕ). position_at j ∷ l) (positions-turn (suc j) n)

  positions-turns : (i n : ℕ) → positions_of d i n ≡ all_turns d 0 position_at i n
  unfolding positions_of all_turns
  positions-turns i zero = refl
  positions-turns i (suc n) = rw (positions-turn (field_at d.series i FirstRow) (field_at d.series i Count), positions-turns (suc i) n) refl

  amounts-turn : (j n : ℕ) → amounts_in d j n ≡ in_turn d (pos 0) amount_at j n
  unfolding amounts_in in_turn
  amounts-turn j zero = refl
  amounts-turn j (suc n) = ap (λ (l : List ℤ). amount_at j ∷ l) (amounts-turn (suc j) n)

  amounts-turns : (i n : ℕ) → amounts_of d i n ≡ all_turns d (pos 0) amount_at i n
  unfolding amounts_of all_turns
  amounts-turns i zero = refl
  amounts-turns i (suc n) = rw (amounts-turn (field_at d.series i FirstRow) (field_at d.series i Count), amounts-turns (suc i) n) refl

-- ---- what stands in each series

-- in n series from series i on
unfoldable inners : Draft → List ℕ → ℕ → ℕ → List (Trees TagSaid)
inners d rows i zero = []
inners d rows i (suc n) = singles_in d rows (role_row series_role rows) i (period_tree d rows i) ∷ inners d rows (suc i) n

module _ (d : Draft) (kind : cond (eqb d.kind 1) true (eqb d.kind 2) ≡ true) where
  abbrev rows : List ℕ
  rows = rows_of d.kind

  abbrev r : Roles rows
  r = roles d.kind kind

  inners-from : (i n : ℕ) → in_each (has_role series_role) rows (series_from d rows i n) ≡ inners d rows i n
  unfolding series_from in_each inners
  inners-from i zero = refl
  inners-from i (suc n) =
      rw (r.series, inner-series d rows r (outside d.kind kind) i)
      (ap (λ (l : List (Trees TagSaid)). singles_in d rows (role_row series_role rows) i (period_tree d rows i) ∷ l) (inners-from (suc i) n))

  each-inner : each_series rows (draft_content d) ≡ inners d rows 0 d.count
  unfolding each_series draft_content singles_in in_each
  each-inner =
      rw r.root
      (append-nil _
      ∙ singles-in-each (has_role series_role) d rows (series_from d rows 0 d.count) (drop 2 rows) 2 (pair_for rows 2 0) refl (plain-intervals d rows r (drop 2 rows) r.in-header).0
      ∙ inners-from 0 d.count)

  inner-at : (i n j : ℕ) → j < n → length (those (has_role interval_role) rows (get_or (inners d rows i n) j none)) ≡ field_at d.series (i + j) Count
  unfolding inners
  inner-at i zero j h = absurd (omega (arith, h))
  inner-at i (suc n) zero h = rw (add-zero i) (series-counted d rows r i)
  inner-at i (suc n) (suc j) h = let e : suc i + j ≡ i + suc j = omega arith in inner-at (suc i) n j (omega (arith, h)) ∙ ap (λ (k : ℕ). field_at d.series k Count) e

  counts-from : (i n : ℕ) → interval_counts rows (inners d rows i n) ≡ counts_in d i n
  unfolding interval_counts inners counts_in
  counts-from i zero = refl
  counts-from i (suc n) = rw (series-counted d rows r i) (ap (λ (l : List ℕ). field_at d.series i Count ∷ l) (counts-from (suc i) n))

-- ---- the whole

module _ (d g : Draft) (l : Lent d) (fit : draft_legal d ≡ true) (ns np na : ℕ) (shape : Shape) (nb : ℕ) (noted : 16 ≤ nb) (small : length (draft_document d) ≤ 1048576)
    (room : HasRoom (room_of ns np na) d.kind (draft_content d)) (n : ℕ) (wide : cell_of header_pairs ≤ n) (shown : d.count ≤ (view_room n).series) where
  abbrev doc : List ℕ
  doc = draft_document d

  abbrev o : Outcome
  o = outcome d l fit ns np na shape nb noted small room

  abbrev t : List ℕ
  t = (sheet_viewed doc n).table

  pub first_back : (i : ℕ) → i < d.count
      → (field_at o.tables.series i FirstRow ≡ sum (take i (counts_in d 0 d.count))) × (field_at o.tables.series i Count ≡ field_at d.series i Count)
  first_back i h =
      let m = draft-series d l.kind in
      let s = (draft-read d l fit ns np na shape nb noted small room).tables.series i (omega (arith, m, h)) in
      let e = each-inner d l.kind in
      let z : 0 + i ≡ i = omega arith in (
        s.begins ∙ ap (λ (x : List ℕ). sum (take i x)) (ap (interval_counts (rows_of d.kind)) e ∙ counts-from d l.kind 0 d.count),
        s.count
            ∙ ap (λ (x : List (Trees TagSaid)). length (those (has_role interval_role) (rows_of d.kind) (get_or x i none))) e
            ∙ inner-at d l.kind 0 d.count i h
            ∙ ap (λ (k : ℕ). field_at d.series k Count) z,
      )

  module _ (made : MadeOf g doc o t) (kept : NoneDropped d) where
    same_kind : d.kind ≡ g.kind
    same_kind = sym (made.kind ∙ (draft-read d l fit ns np na shape nb noted small room).kinds)

    same_count : d.count ≡ g.count
    same_count = sym (made.count ∙ (draft-read d l fit ns np na shape nb noted small room).series ∙ draft-series d l.kind)

    rows-again : (i : ℕ) → i < d.count → SameRows d g i
    rows-again i h =
        let b = first_back i h in
        let z : 0 + i ≡ i = omega arith in
        let start : field_at g.series i FirstRow ≡ sum (take i (counts_in d 0 d.count)) = ap (λ (x : List ℕ). field_at x i FirstRow) made.series ∙ b.0 in
        record {
          count = sym (ap (λ (x : List ℕ). field_at x i Count) made.series ∙ b.1);
          positions = λ j c.
              sym
              (ap (λ (x : ℕ). get_or g.positions (x + j) 0) start
              ∙ ap (λ (x : List ℕ). get_or x (sum (take i (counts_in d 0 d.count)) + j) 0) made.positions
              ∙ positions-back d l fit ns np na shape nb noted small room (sum (take i (counts_in d 0 d.count)) + j)
              ∙ ap (λ (x : List ℕ). get_or x (sum (take i (counts_in d 0 d.count)) + j) 0) (positions-turns d 0 d.count)
              ∙ turns_at d 0 (position_at d) i 0 d.count j h (rw z c)
              ∙ ap (λ (k : ℕ). get_or d.positions (field_at d.series k FirstRow + j) 0) z);
          amounts = λ j c.
              sym
              (ap (λ (x : ℕ). get_or g.amounts (x + j) (pos 0)) start
              ∙ ap (λ (x : List ℤ). get_or x (sum (take i (counts_in d 0 d.count)) + j) (pos 0)) made.amounts
              ∙ amounts-back d l fit ns np na shape nb noted small room (sum (take i (counts_in d 0 d.count)) + j)
              ∙ ap (λ (x : List ℤ). get_or x (sum (take i (counts_in d 0 d.count)) + j) (pos 0)) (amounts-turns d 0 d.count)
              ∙ turns_at d (pos 0) (amount_at d) i 0 d.count j h (rw z c)
              ∙ ap (λ (k : ℕ). get_or d.amounts (field_at d.series k FirstRow + j) (pos 0)) z);
        }

    values-again : EachValue (rows_of d.kind) d.count (λ k drops. pair_value d k ≡ pair_value g k)
    values-again =
        let b = texts-back d l fit n wide small shown in
        let f = each-value d.kind d.count (λ k drops. pair_fits d k ≡ true) (λ k drops h. l.values k (omega (arith, h))) in
        let v =
        subst (λ (m : ℕ). EachValue (rows_of d.kind) m (λ k drops. ValueFrom g doc t k)) (sym same_count)
        (subst (λ (k : ℕ). EachValue (rows_of k) g.count (λ k drops. ValueFrom g doc t k)) (sym same_kind) made.values) in
        record {
          header = λ q low h j c. value-again d g doc t _ _ (f.header q low h j c) (b.header q low h j c) (v.header q low h j c) (kept.header q low h j c);
          each = λ q low h i u j c. value-again d g doc t _ _ (f.each q low h i u j c) (b.each q low h i u j c) (v.each q low h i u j c) (kept.each q low h i u j c);
        }

    given-again : SameGiven d g
    given-again = record { kind = same_kind; count = same_count; values = values-again; rows = rows-again }

    -- "gives back the same positions, amounts and texts": so much so that what was read back writes the same bytes
    pub written-again : draft_document g ≡ draft_document d
    written-again = sym (same-document d g l.kind given-again)

    -- which is as fit to be written,
    pub again-legal : draft_legal g ≡ true
    again-legal =
        let c = same-content d g l.kind given-again in
        (fit-exactly g (rw (← same_kind) l.kind)).1
        (subst (Legal g.kind) c (subst (λ (k : ℕ). Legal k (draft_content d)) same_kind ((fit-exactly d l.kind).0 fit)))

    -- so that the writer answers the same, and leaves the same in an output of m bytes, where both are lent
    pub again-written : is_lent d ≡ true → is_lent g ≡ true → (m : ℕ) → written_of g m ≡ written_of d m
    unfolding written_of draft_fits
    again-written a b m = rw (a, b, fit, again-legal, written-again) refl

  -- there is one: the draft's own text and pairs show what the views do
  abbrev pub own : Draft
  own =
      record {
        kind = o.answer.kind;
        text = d.text;
        pairs = d.pairs;
        count = o.answer.series;
        series = o.tables.series;
        positions = o.tables.positions;
        amounts = o.tables.amounts;
      }

  own_value : (k : ℕ) (drops : Bool) → pair_fits d k ≡ true → TextBack d doc t k drops
      → (has_pair d.pairs k ≡ true → ends_dropped drops (chars_of (pair_view d.text d.pairs k)) ≡ chars_of (pair_view d.text d.pairs k)) → ValueFrom own doc t k
  own_value k drops f b kept =
      ⊎_elim
      (λ (y : has_pair d.pairs k ≡ true). record { there = y ∙ sym (b.there y); text = λ h. sym (text-again d k doc t drops f b y (kept y)) })
      (λ (y : has_pair d.pairs k ≡ false).
      let e = no-pair t k (b.absent y) in
      record { there = y ∙ sym e; text = λ h. never (sym e ∙ h) })
      (bool_cases (has_pair d.pairs k))

  pub own-made : NoneDropped d → MadeOf own doc o t
  own-made kept =
      let b = texts-back d l fit n wide small shown in
      let f = each-value d.kind d.count (λ k drops. pair_fits d k ≡ true) (λ k drops h. l.values k (omega (arith, h))) in
      let v : EachValue (rows_of d.kind) d.count (λ k drops. ValueFrom own doc t k) =
      record {
        header = λ q low h j c. own_value _ _ (f.header q low h j c) (b.header q low h j c) (kept.header q low h j c);
        each = λ q low h i u j c. own_value _ _ (f.each q low h i u j c) (b.each q low h i u j c) (kept.each q low h i u j c);
      } in
      let k : d.kind ≡ own.kind = sym (draft-read d l fit ns np na shape nb noted small room).kinds in
      let m : d.count ≡ own.count = sym ((draft-read d l fit ns np na shape nb noted small room).series ∙ draft-series d l.kind) in
      record {
        kind = refl;
        count = refl;
        series = refl;
        positions = refl;
        amounts = refl;
        values =
            subst (λ (x : ℕ). EachValue (rows_of own.kind) x (λ k drops. ValueFrom own doc t k)) m
            (subst (λ (x : ℕ). EachValue (rows_of x) d.count (λ k drops. ValueFrom own doc t k)) k v);
      }
