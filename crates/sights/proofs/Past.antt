-- Past the last series all cells are 0. Assumes nothing.
use Prim.Native.Nat.{ℕ, ◌+◌, ◌*◌, ◌-◌, ◌≤◌, ◌<◌}
use mathlib.Core.Path.{◌≡◌, refl, sym, ap, ◌∙◌}
use mathlib.Core.List.{List}
use mathlib.Core.Bool.{true, false}
use mathlib.Core.Logic.{◌⊎◌, inr, ⊎_elim}
use native.Mathlib.Omega.{arith}
use native.Mathlib.Nat.{le_refl}
use lib.Dec.{ltb}
use lib.ListN.{length, get_or}
use Rattle.lists.specs.Zeros.{zeros}
use Rattle.lists.proofs.Cases.{ltb-cases}
use Rattle.guideline.specs.Kinds.{is_kind}
use Rattle.guideline.specs.Rows.{rows_of}
use Rattle.reader.specs.Items.{Placed, items_from}
use Rattle.states.specs.Moves.{begun}
use Rattle.reader.specs.Reading.{blank, read_items}
use Rattle.reader.specs.Judging.{judged}
use Rattle.reader.specs.declared.Found.{Found}
use Rattle.trees.specs.Trees.{Trees, none, element}
use Rattle.contents.specs.Said.{TagSaid}
use Rattle.contents.specs.Spelled.{Spells}
use Rattle.contents.specs.Legal.{Legal}
use Rattle.contents.proofs.Lists.{zero-all}
use Rattle.contents.proofs.Walk.{nothing}
use Rattle.contents.proofs.Bridge.{Read}
use Rattle.views.specs.Layout.{header_pairs, series_pairs, values_of, first_pair, pair_in, cell_of, view_room}
use Rattle.views.specs.Shown.{series_at}
use Rattle.views.specs.Views.{sheet_viewed}
use Rattle.sights.specs.Values.{Part, part, counts_of, parts_of}
use Rattle.sights.proofs.Pairs.{Kept}
use Rattle.sights.proofs.Slots.{in-header, in-series}
use Rattle.sights.proofs.Parts.{shown_for, parts_show, Good, AllGood, all-good, counts_up}
use Rattle.sights.proofs.Shared.{item-kept, good-split, show-both, series-along}
use Rattle.sights.proofs.Promises.{later-row, told_is, taken_is, short, kind-is, table-by}
use Rattle.sights.proofs.Same.{out-count, walked_by, judged-run}

-- the pairs of a row end before those of the series after it
ends : (a v n most k : ℕ) → (a < header_pairs → a + v ≤ header_pairs) → (header_pairs ≤ a → (a + v ≤ header_pairs + series_pairs) × (1 ≤ n)) → n ≤ most
    → header_pairs + series_pairs * most ≤ k → pair_in a n + v ≤ k
unfolding pair_in
ends a v n most k h s l m =
    ⊎_elim
    (λ (y : (a < header_pairs) × (ltb a header_pairs ≡ true)). let z = h y.0 in rw y.1 (omega (arith, z, m)))
    (λ (y : (header_pairs ≤ a) × (ltb a header_pairs ≡ false)). let z = s y.0 in let z₀ = z.0 in let z₁ = z.1 in rw y.1 (omega (arith, z₀, z₁, l, m)))
    (ltb-cases a header_pairs)

module _ (kind : ℕ) (known : is_kind kind ≡ true) (doc : List ℕ) (most k : ℕ) (past : header_pairs + series_pairs * most ≤ k) where
  abbrev rows : List ℕ
  rows = rows_of kind

  part-kept : (p : Part Placed) → Good doc kind p → p.number ≤ most → (u : List ℕ) → Kept doc u (shown_for rows p.row p.number p.said u) k
  part-kept p g l u =
      item-kept kind known doc most (pair_in (first_pair rows p.row) p.number) p.said.at (get_or rows p.row 0) p.said.rest g.stands u p.said.item k
      (λ e.
      inr
      (ends (first_pair rows p.row) (values_of (get_or rows p.row 0)) p.number most k (λ y. in-header kind p.row g.low e y)
      (λ y. (in-series kind p.row g.low e y, g.number e y)) l past))

  kept-along : (kids : Trees Placed) (n : ℕ) (u : List ℕ) → AllGood doc kind (parts_of rows kids n) → counts_of rows kids n ≤ most
      → Kept doc u (parts_show rows (parts_of rows kids n) u) k
  unfolding parts_of parts_show counts_of AllGood
  kept-along none n u g c = (refl, refl)
  kept-along (element q x inner after) n u g c =
      let m = series_at (get_or rows q 0) n in
      let j = counts_of rows inner m in
      let c₁ = counts_up rows inner m in
      let c₂ = counts_up rows after j in
      let gs = good-split kind known doc most (parts_of rows inner m) (parts_of rows after j) g.1 in
      let u₁ = shown_for rows q m x u in
      let u₂ = parts_show rows (parts_of rows inner m) u₁ in
      let a = part-kept (part q m x) g.0 (omega (arith, c, c₁, c₂)) u in
      let b = kept-along inner m u₁ gs.0 (omega (arith, c, c₂)) in
      let d = kept-along after j u₂ gs.1 c in
      rw (show-both kind known doc most (parts_of rows inner m) (parts_of rows after j) u₁) (d.0 ∙ b.0 ∙ a.0, d.1 ∙ b.1 ∙ a.1)

module _ (doc : List ℕ) (n : ℕ) (wide : cell_of header_pairs ≤ n) (accepted : (sheet_viewed doc n).told.refusal ≡ 0) (kind : ℕ) (c : Trees TagSaid) (spells : Spells doc kind c)
    (legal : Legal kind c) where
  small : length doc ≤ 1048576
  small = short doc n wide accepted

  run_is : judged (view_room n) doc n ≡ (read_items doc (view_room n) (items_from doc spells.from) begun (blank n 1 1)).found
  run_is = judged-run doc n spells.from small spells.begins

  abbrev seen : (kids : Trees Placed) × Read doc (view_room n) spells.from (blank n 1 1) kind kids
  seen =
      walked_by doc small (view_room n) spells.from (blank n 1 1) (sym (ap (λ (f : Found). f.refusal) run_is) ∙ taken_is doc n wide accepted) kind
      (sym (ap (λ (f : Found). f.kind) run_is) ∙ kind-is doc n wide accepted kind c spells legal)

  told-count : (sheet_viewed doc n).told.series ≡ counts_of (rows_of kind) seen.0 0
  unfolding nothing
  told-count =
      ap (λ (f : Found). f.series) (told_is doc n wide accepted ∙ run_is)
      ∙ out-count doc small (view_room n) spells.from (blank n 1 1) kind seen.0 seen.1
      ∙ series-along kind legal.known doc 0 seen.0 nothing

  table_is : (sheet_viewed doc n).table ≡ parts_show (rows_of kind) (parts_of (rows_of kind) seen.0 0) (zeros n)
  table_is = table-by doc n wide accepted kind c spells legal seen.0 seen.1.conforms seen.1.tags

  pub past-last : (k : ℕ) → header_pairs + series_pairs * (sheet_viewed doc n).told.series ≤ k
      → (get_or (sheet_viewed doc n).table (cell_of k) 0 ≡ 0) × (get_or (sheet_viewed doc n).table (cell_of k + 1) 0 ≡ 0)
  past-last k h =
      let r = seen.1 in
      let e = told-count in
      let g = all-good doc kind seen.0 0 0 r.conforms.fits.stand r.conforms.each r.stands (λ l. let z = later-row kind legal.known in absurd (omega (arith, l, z))) in
      let a = kept-along kind legal.known doc (counts_of (rows_of kind) seen.0 0) k (omega (arith, h, e)) seen.0 0 (zeros n) g (le_refl _) in
      rw table_is (a.0 ∙ zero-all 0 n (cell_of k), a.1 ∙ zero-all 0 n (cell_of k + 1))
