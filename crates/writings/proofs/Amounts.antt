-- What of the writer's answer depends on amounts: whether each is in range, and the length of the document. Assumes nothing.
use Prim.Native.Nat.{ℕ, zero, suc, ◌+◌, ◌*◌}
use mathlib.Core.Path.{◌≡◌, refl, sym, ap, ◌∙◌}
use mathlib.Core.List.{List, [], ◌∷◌}
use mathlib.Core.Bool.{Bool, true, false, cond, ◌&&◌, and-eq-true_iff}
use mathlib.Core.Logic.{⊎_elim}
use lib.Dec.{eqb, leb, ltb}
use lib.IntN.{ℤ, pos, nat_abs}
use lib.ListN.{length, get_or}
use Rattle.lists.proofs.Cases.{bool_cases, never}
use Rattle.columns.specs.Columns.{interval_role, qty_role}
use Rattle.guideline.specs.Rows.{rows_of}
use Rattle.series.specs.Row.{field_at, cells_of}
use Rattle.series.specs.declared.Field.TheVariants.{FirstRow, Count}
use Rattle.amounts.specs.Texts.{amount_text}
use Rattle.amounts.proofs.Promises.{amount-in-value}
use Rattle.states.specs.Attributes.{asks_v}
use Rattle.views.specs.Layout.{header_pairs, series_pairs, values_of, cell_of}
use Rattle.trees.specs.Trees.{Trees, none, element}
use Rattle.contents.specs.Said.{TagSaid}
use Rattle.contents.specs.Legal.{has_role}
use Rattle.drafts.specs.Draft.{Draft, pair_value, single_tag, is_said, root_tag, bare_tag, number_tag, singles, intervals_from, role_row, singles_in, period_tree, series_from, draft_content, draft_document, pair_fits}
use Rattle.drafts.specs.Judged.{amounts_fit, draft_legal}
use Rattle.drafts.specs.Fit.{is_written, pairs_fit, rows_fit, is_lent, draft_fits}
use Rattle.drafts.specs.Written.{room_in, refused_by, laid_in, fit_written, written_of}
use Rattle.drafts.proofs.Elements.{roles}
use Rattle.drafts.proofs.Legal.{tags-fit, draft-legal, ltb-holds}
use Rattle.drafts.proofs.Complete.{legal-draft}
use Rattle.writings.specs.Amounts.{with_amounts, in_range}
use Rattle.writings.proofs.Alike.{TagAlike, TreesAlike, legal-alike}
use Rattle.writings.proofs.Given.{row_in, qty-form, two-kinds}

-- ---- what is lent

module _ (d : Draft) (a b : List ℤ) where
  pairs-alone : (k n : ℕ) → pairs_fit (with_amounts d a) k n ≡ pairs_fit (with_amounts d b) k n
  unfolding pairs_fit pair_fits
  pairs-alone k zero = refl
  pairs-alone k (suc n) = ap (λ (x : Bool). pair_fits (with_amounts d b) k && x) (pairs-alone (suc k) n)

  rows-alone : length a ≡ length b → (i n : ℕ) → rows_fit (with_amounts d a) i n ≡ rows_fit (with_amounts d b) i n
  unfolding rows_fit
  rows-alone e i zero = refl
  rows-alone e i (suc n) = rw (e, rows-alone e (suc i) n) refl

  lent-alone : length a ≡ length b → is_lent (with_amounts d a) ≡ is_lent (with_amounts d b)
  unfolding is_lent
  lent-alone e = rw (pairs-alone 0 _, rows-alone e 0 d.count) refl

-- ---- the contents are alike

tag-itself : (kind w : ℕ) (s : TagSaid) → TagAlike kind w s s
tag-itself kind w s = record { fits = λ p h. h; period = λ y. refl; position = λ y. refl; identification = λ y. refl }

module _ (d : Draft) (a b : List ℤ) (kind : is_written d.kind ≡ true) where
  abbrev da : Draft
  da = with_amounts d a

  abbrev db : Draft
  db = with_amounts d b

  abbrev rows : List ℕ
  rows = rows_of d.kind

  abbrev at : ℕ
  at = role_row interval_role rows

  written : cond (eqb d.kind 1) true (eqb d.kind 2) ≡ true
  unfolding is_written
  written = kind

  -- an amount that is in range fits, whatever the other was
  qty-alike : (m n : ℤ) → ltb (nat_abs n) 1000000000000000 ≡ true → TagAlike d.kind (get_or rows (suc (suc at)) 0) (number_tag (amount_text m)) (number_tag (amount_text n))
  qty-alike m n small =
      let r = roles d.kind written in
      let w = get_or rows (suc (suc at)) 0 in
      let q : has_role qty_role w ≡ true = rw r.amount refl in
      let f = (qty-form w (row_in rows (two-kinds d.kind kind).0 (suc (suc at))) q).0 in
      record {
        fits = λ p h. (tags-fit d.kind written).amount p (amount_text n) n (amount-in-value n (ltb-holds (nat_abs n) 1000000000000000 small));
        period = λ y. never (rw f at y);
        position = λ y. never (rw r.amount at y);
        identification = λ y. never (rw r.amount at y);
      }

  intervals-alike : (j n : ℕ) → amounts_fit db j n ≡ true → TreesAlike d.kind rows (intervals_from da at j n) (intervals_from db at j n)
  unfolding intervals_from TreesAlike amounts_fit
  intervals-alike j zero h = tt
  intervals-alike j (suc n) h =
      let k = (and-eq-true_iff (ltb (nat_abs (get_or b j (pos 0))) 1000000000000000) (amounts_fit db (suc j) n)).0 h in (
        refl,
        tag-itself d.kind _ bare_tag,
        (refl, tag-itself d.kind _ _, tt, (refl, qty-alike (get_or a j (pos 0)) (get_or b j (pos 0)) k.0, tt, tt)),
        intervals-alike (suc j) n k.1,
      )

  singles-alike : (x y : Trees TagSaid) → TreesAlike d.kind rows x y → (q k : ℕ) (ws : List ℕ) → TreesAlike d.kind rows (singles da q k ws x) (singles db q k ws y)
  unfolding singles single_tag pair_value TreesAlike
  singles-alike x y h q k [] = h
  singles-alike x y h q k (w ∷ ws) = by (asks_v w) (is_said (single_tag d w k)) refl refl (singles-alike x y h (suc q) (k + values_of w) ws)
    where
      left : Trees TagSaid
      left = singles da (suc q) (k + values_of w) ws x

      right : Trees TagSaid
      right = singles db (suc q) (k + values_of w) ws y

      by : (v s : Bool) → asks_v w ≡ v → is_said (single_tag d w k) ≡ s → TreesAlike d.kind rows left right
          → TreesAlike d.kind rows (cond (asks_v w) (cond (is_said (single_tag d w k)) (element q (single_tag d w k) none left) left) x)
          (cond (asks_v w) (cond (is_said (single_tag d w k)) (element q (single_tag d w k) none right) right) y)
      by false s u z ih = rw u h
      by true true u z ih = rw (u, z) (refl, tag-itself d.kind _ (single_tag d w k), tt, ih)
      by true false u z ih = rw (u, z) ih

  period-alike : (i : ℕ) → amounts_fit db (field_at d.series i FirstRow) (field_at d.series i Count) ≡ true
      → TreesAlike d.kind rows (period_tree da rows i) (period_tree db rows i)
  unfolding period_tree singles_in TreesAlike
  period-alike i h =
      (refl, tag-itself d.kind _ bare_tag, singles-alike _ _ (intervals-alike (field_at d.series i FirstRow) (field_at d.series i Count) h) _ _ _, tt)

  series-alike : (i n : ℕ) → in_range db i n ≡ true → TreesAlike d.kind rows (series_from da rows i n) (series_from db rows i n)
  unfolding series_from singles_in TreesAlike in_range
  series-alike i zero h = tt
  series-alike i (suc n) h =
      let k = (and-eq-true_iff (amounts_fit db (field_at d.series i FirstRow) (field_at d.series i Count)) (in_range db (suc i) n)).0 h in
      (refl, tag-itself d.kind _ bare_tag, singles-alike _ _ (period-alike i k.0) _ _ _, series-alike (suc i) n k.1)

  content-alike : in_range db 0 d.count ≡ true → TreesAlike d.kind rows (draft_content da) (draft_content db)
  unfolding draft_content singles_in root_tag pair_value TreesAlike
  content-alike h = (refl, tag-itself d.kind _ _, singles-alike _ _ (series-alike 0 d.count h) _ _ _, tt)

  -- legal with these amounts, so with any others that are in range
  pub legal-with : in_range db 0 d.count ≡ true → draft_legal da ≡ true → draft_legal db ≡ true
  legal-with h l =
      legal-draft db written (legal-alike d.kind (draft_content da) (draft_content db) (two-kinds d.kind kind).1 (content-alike h) (draft-legal da written l))

-- ---- the answer

lent_written : (d : Draft) → is_lent d ≡ true → is_written d.kind ≡ true
unfolding is_lent
lent_written d h =
    let n = header_pairs + series_pairs * d.count in
    let p = is_written d.kind && leb (cell_of n) (length d.pairs) in
    let x1 = (and-eq-true_iff (p && pairs_fit d 0 n && leb (cells_of d.count) (length d.series)) (rows_fit d 0 d.count)).0 h in
    let x2 = (and-eq-true_iff (p && pairs_fit d 0 n) (leb (cells_of d.count) (length d.series))).0 x1.0 in
    let x3 = (and-eq-true_iff p (pairs_fit d 0 n)).0 x2.0 in
    ((and-eq-true_iff (is_written d.kind) (leb (cell_of n) (length d.pairs))).0 x3.0).0

fits-with : (d : Draft) (a b : List ℤ) → length a ≡ length b → in_range (with_amounts d b) 0 d.count ≡ true
    → draft_fits (with_amounts d a) ≡ true → draft_fits (with_amounts d b) ≡ true
unfolding draft_fits
fits-with d a b e r h =
    let k = (and-eq-true_iff (is_lent (with_amounts d a)) (draft_legal (with_amounts d a))).0 h in
    (and-eq-true_iff (is_lent (with_amounts d b)) (draft_legal (with_amounts d b))).1
    (sym (lent-alone d a b e) ∙ k.0, legal-with d a b (lent_written (with_amounts d a) k.0) r k.1)

-- two calls that differ in amounts alone, all of them in range, are both fit or both not
pub fit-alone : (d : Draft) (a b : List ℤ) → length a ≡ length b → in_range (with_amounts d a) 0 d.count ≡ true → in_range (with_amounts d b) 0 d.count ≡ true
    → draft_fits (with_amounts d a) ≡ draft_fits (with_amounts d b)
fit-alone d a b e r s =
    ⊎_elim
    (λ (y : draft_fits (with_amounts d a) ≡ true). y ∙ sym (fits-with d a b e s y))
    (λ (y : draft_fits (with_amounts d a) ≡ false).
    ⊎_elim (λ (z : draft_fits (with_amounts d b) ≡ true). never (sym y ∙ fits-with d b a (sym e) r z)) (λ (z : draft_fits (with_amounts d b) ≡ false). y ∙ sym z)
    (bool_cases (draft_fits (with_amounts d b))))
    (bool_cases (draft_fits (with_amounts d a)))

-- "two calls that differ in amounts alone get the same refusal unless an amount is out of range or the length passes its bound"
pub same-refusal : (d : Draft) (a b : List ℤ) (n : ℕ) → length a ≡ length b
    → in_range (with_amounts d a) 0 d.count ≡ true → in_range (with_amounts d b) 0 d.count ≡ true
    → leb (length (draft_document (with_amounts d a))) (room_in n) ≡ leb (length (draft_document (with_amounts d b))) (room_in n)
    → (written_of (with_amounts d a) n).refusal ≡ (written_of (with_amounts d b) n).refusal
unfolding written_of fit_written refused_by laid_in
same-refusal d a b n e r s l =
    rw (fit-alone d a b e r s, l)
    (⊎_elim
    (λ (y : draft_fits (with_amounts d b) ≡ true).
    ⊎_elim
    (λ (z : leb (length (draft_document (with_amounts d b))) (room_in n) ≡ true). rw (y, z) refl)
    (λ (z : leb (length (draft_document (with_amounts d b))) (room_in n) ≡ false). rw (y, z) refl)
    (bool_cases (leb (length (draft_document (with_amounts d b))) (room_in n))))
    (λ (y : draft_fits (with_amounts d b) ≡ false). rw y refl)
    (bool_cases (draft_fits (with_amounts d b))))
