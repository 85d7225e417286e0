-- "the three pairs that the series table has too are the same": those of the five views that a row of the series table has by now. Assumes nothing.
use Prim.Native.Nat.{ℕ, ◌+◌, ◌*◌, ◌≤◌, ◌<◌}
use mathlib.Core.Path.{◌≡◌, refl, sym, ap, subst, ◌∙◌}
use mathlib.Core.List.{List}
use mathlib.Core.Bool.{true}
use native.Mathlib.Omega.{arith}
use native.Mathlib.Nat.{zero-add, le_refl}
use lib.ListN.{length, get_or, length-replicate}
use borrow.Author.Tests.{eq-eqb, le-ltb}
use Rattle.std.specs.Prelude.{Ok}
use Rattle.lists.specs.Zeros.{zeros}
use Rattle.columns.specs.Columns.{series_role}
use Rattle.prolog.specs.Prolog.{begin}
use Rattle.notes.specs.declared.Shape.{Shape}
use Rattle.series.specs.Row.{is_view, cells_of, cell_at}
use Rattle.series.specs.declared.Field.{Field}
use Rattle.series.proofs.Rows.{rows-fit}
use Rattle.guideline.specs.Kinds.{is_kind}
use Rattle.guideline.specs.Rows.{rows_of}
use Rattle.states.specs.Moves.{begun}
use Rattle.states.specs.declared.Room.{Room}
use Rattle.reader.specs.Items.{Placed, items_from}
use Rattle.reader.specs.Reading.{Tables, Out, blank, room_of, accepted_at, read_items, items_read, read_after, read_into, or_blank, read_sheet}
use Rattle.reader.specs.Judging.{judged_after, judged_into, judged}
use Rattle.reader.specs.Answer.{Outcome, answer_of, told, noted, read_of}
use Rattle.reader.specs.declared.Found.{Found}
use Rattle.reader.specs.declared.Answer.{Answer}
use Rattle.reader.proofs.Sheets.{read-noted}
use Rattle.trees.specs.Trees.{Trees}
use Rattle.trees.proofs.Theorems.{one-tree}
use Rattle.contents.specs.Said.{TagSaid}
use Rattle.contents.specs.Spelled.{Spells}
use Rattle.contents.specs.Legal.{Legal, has_role, those}
use Rattle.contents.proofs.Lists.{zero-all}
use Rattle.contents.proofs.Laid.{laid}
use Rattle.contents.proofs.Walk.{nothing, walked}
use Rattle.contents.proofs.Fill.{saying, state_of, filled}
use Rattle.contents.proofs.Lifted.{conforms-said}
use Rattle.contents.proofs.Values.{each-given}
use Rattle.contents.proofs.Tallies.{series-walked}
use Rattle.contents.proofs.Rules.{Rules, passes-rules}
use Rattle.contents.proofs.Bridge.{Read, forth, back}
use Rattle.contents.proofs.Theorems.{accepted-legal, legal-accepted, one-content}
use Rattle.views.specs.Layout.{header_pairs, series_pairs, cell_of, view_room}
use Rattle.views.specs.Views.{sheet_viewed}
use Rattle.sights.specs.Values.{parts_of, counts_of}
use Rattle.sights.proofs.Parts.{parts_show, all-good}
use Rattle.sights.proofs.Shared.{slot, Alike, Both, series-along, along}
use Rattle.sights.proofs.Promises.{room-width, room-series, blank-room, later-row, taken_is, short, kind-is, table-by}

-- ---- a run that accepts, and the content that it walked

module _ (doc : List ℕ) (small : length doc ≤ 1048576) (room : Room) (from : ℕ) (t : Tables) where
  abbrev out : Out
  out = read_items doc room (items_from doc from) begun t

  module _ (kind : ℕ) (kids : Trees Placed) (r : Read doc room from t kind kids) where
    out-kind : out.found.kind ≡ kind
    unfolding accepted_at state_of
    out-kind = ap (λ (o : Out). o.found.kind) (back doc room from t small kind kids r)

    pub out-count : out.found.series ≡ (walked (rows_of kind) (saying kids) nothing).series
    unfolding accepted_at state_of
    out-count = ap (λ (o : Out). o.found.series) (back doc room from t small kind kids r)

    out-series : out.tables.series ≡ (filled kind (rows_of kind) kids nothing t).series
    out-series = ap (λ (o : Out). o.tables.series) (back doc room from t small kind kids r)

  pub walked_by : out.found.refusal ≡ 0 → (kind : ℕ) → out.found.kind ≡ kind → (kids : Trees Placed) × Read doc room from t kind kids
  walked_by ok kind is =
      let f = forth doc room from t small ok in
      let e : f.0 ≡ kind = sym (out-kind f.0 f.1 f.2) ∙ is in
      subst (λ (k : ℕ). (kids : Trees Placed) × Read doc room from t k kids) e (f.1, f.2)

series-of : (doc : List ℕ) (kind : ℕ) (known : is_kind kind ≡ true) (most : ℕ) (kids : Trees Placed) → counts_of (rows_of kind) kids 0 ≡ length (those (has_role series_role) (rows_of kind) (saying kids))
unfolding nothing
series-of doc kind known most kids = sym (series-along kind known doc most kids nothing) ∙ series-walked (rows_of kind) (saying kids) nothing ∙ zero-add _

-- what was judged for views is what such a run found
pub judged-run : (doc : List ℕ) (n from : ℕ) → length doc ≤ 1048576 → begin doc ≡ Ok from
    → judged (view_room n) doc n ≡ (read_items doc (view_room n) (items_from doc from) begun (blank n 1 1)).found
unfolding judged judged_into judged_after items_read blank
judged-run doc n from small e = rw (le-ltb 1048576 (length doc) small, e) refl

module _ (doc : List ℕ) (n : ℕ) (wide : cell_of header_pairs ≤ n) (accepted : (sheet_viewed doc n).told.refusal ≡ 0) (kind : ℕ) (c : Trees TagSaid) (spells : Spells doc kind c)
    (legal : Legal kind c) (ns np na : ℕ) (shape : Shape) (nb : ℕ) (buffer : 16 ≤ nb) (taken : (read_of doc ns np na shape nb).answer.refusal ≡ 0) where
  abbrev rows : List ℕ
  rows = rows_of kind

  abbrev from : ℕ
  from = spells.from

  small : length doc ≤ 1048576
  small = short doc n wide accepted

  -- ---- the reader

  abbrev run : Out
  run = read_items doc (room_of ns np na) (items_from doc from) begun (blank ns np na)

  sheet-is : read_sheet doc ns np na ≡ or_blank ns np na run
  unfolding read_sheet read_into read_after items_read
  sheet-is = rw (le-ltb 1048576 (length doc) small, spells.begins, blank-room ns np na) refl

  run-found : (read_of doc ns np na shape nb).answer ≡ told shape run.found
  unfolding noted or_blank
  run-found = ap (λ (o : Outcome). o.answer) (sym (read-noted doc ns np na shape nb buffer)) ∙ ap (λ (o : Out). told shape o.found) sheet-is

  run-refusal : run.found.refusal ≡ 0
  unfolding told answer_of
  run-refusal = sym (ap (λ (a : Answer). a.refusal) run-found) ∙ taken

  run-series : (read_of doc ns np na shape nb).tables.series ≡ run.tables.series
  unfolding noted or_blank
  run-series =
      ap (λ (o : Outcome). o.tables.series) (sym (read-noted doc ns np na shape nb buffer)) ∙ ap (λ (o : Out). o.tables.series) sheet-is
      ∙ rw (eq-eqb _ _ run-refusal) refl

  run-kind : run.found.kind ≡ kind
  unfolding told answer_of
  run-kind =
      let a = accepted-legal doc ns np na shape nb buffer small taken in
      let t = legal-accepted doc ns np na shape nb buffer small a.0 a.1 a.2 a.3 a.4 in
      sym (ap (λ (b : Answer). b.kind) run-found) ∙ t.kinds ∙ (one-content doc a.0 kind a.1 c a.2 spells a.3 legal).0

  abbrev own : (kids : Trees Placed) × Read doc (room_of ns np na) from (blank ns np na) kind kids
  own = walked_by doc small (room_of ns np na) from (blank ns np na) run-refusal kind run-kind

  abbrev kids : Trees Placed
  kids = own.0

  -- ---- the views

  abbrev seen : (kids : Trees Placed) × Read doc (view_room n) from (blank n 1 1) kind kids
  seen =
      walked_by doc small (view_room n) from (blank n 1 1) (sym (ap (λ (f : Found). f.refusal) (judged-run doc n from small spells.begins)) ∙ taken_is doc n wide accepted) kind
      (sym (ap (λ (f : Found). f.kind) (judged-run doc n from small spells.begins)) ∙ kind-is doc n wide accepted kind c spells legal)

  same-kids : seen.0 ≡ kids
  same-kids =
      one-tree Placed rows (laid kind legal.known).layout.well seen.0 kids seen.1.conforms own.1.conforms (sym seen.1.tags ∙ own.1.tags)

  table_is : (sheet_viewed doc n).table ≡ parts_show rows (parts_of rows kids 0) (zeros n)
  table_is = table-by doc n wide accepted kind c spells legal kids own.1.conforms own.1.tags

  -- ---- both

  abbrev most : ℕ
  most = counts_of rows kids 0

  abbrev rules_of : (room : Room) (t : Tables) (ks : Trees Placed) → Read doc room from t kind ks → Rules kind room rows (saying ks)
  rules_of room t ks r =
      let l = laid kind legal.known in passes-rules kind room rows l.period l.layout (saying ks) (conforms-said rows 0 ks r.conforms) r.passes

  in_rows : cells_of most ≤ ns
  in_rows =
      let a = series-of doc kind legal.known most kids in
      let b = (rules_of (room_of ns np na) (blank ns np na) kids own.1).series-room in
      rows-fit most ns (let e = room-series ns np na in omega (arith, a, b, e))

  in-pairs : cell_of header_pairs + cell_of series_pairs * most ≤ n
  in-pairs =
      let a = series-of doc kind legal.known most seen.0 in
      let b = (rules_of (view_room n) (blank n 1 1) seen.0 seen.1).series-room in
      let e : counts_of rows seen.0 0 ≡ most = ap (λ (k : Trees Placed). counts_of rows k 0) same-kids in
      let w = (room-width n).0 wide in
      omega (arith, a, b, e, w)

  begun-both : Both kind legal.known doc most (blank ns np na).series (zeros n)
  unfolding blank Alike
  begun-both =
      let ls : length (zeros ns) ≡ ns = length-replicate ns 0 in
      let ln : length (zeros n) ≡ n = length-replicate n 0 in
      record {
        rows-fit = rw ls in_rows;
        pairs-fit = rw ln in-pairs;
        same = λ i l f v. (zero-all 0 ns _ ∙ sym (zero-all 0 n _), zero-all 0 ns _ ∙ sym (zero-all 0 n _));
      }

  both : Both kind legal.known doc most (filled kind rows kids nothing (blank ns np na)).series (parts_show rows (parts_of rows kids 0) (zeros n))
  unfolding nothing
  both =
      let r = own.1 in
      along kind legal.known doc most kids nothing 0 refl (blank ns np na) (zeros n)
      (all-good doc kind kids 0 0 r.conforms.fits.stand r.conforms.each r.stands (λ l. let z = later-row kind legal.known in absurd (omega (arith, l, z))))
      (each-given kind _ rows kids (rules_of (room_of ns np na) (blank ns np na) kids r).elements) (le_refl most) begun-both

  answer-count : (read_of doc ns np na shape nb).answer.series ≡ most
  unfolding told answer_of nothing
  answer-count =
      ap (λ (a : Answer). a.series) run-found ∙ out-count doc small (room_of ns np na) from (blank ns np na) kind kids own.1
      ∙ series-along kind legal.known doc most kids nothing

  -- a view of the series table, and the pair of the same row, series by series
  pub same-pairs : (i : ℕ) → i < (read_of doc ns np na shape nb).answer.series → (f : Field) → is_view f ≡ true
      → (get_or (read_of doc ns np na shape nb).tables.series (cell_at i f) 0 ≡ get_or (sheet_viewed doc n).table (cell_of (slot kind legal.known f + series_pairs * i)) 0)
      × (get_or (read_of doc ns np na shape nb).tables.series (cell_at i f + 1) 0 ≡ get_or (sheet_viewed doc n).table (cell_of (slot kind legal.known f + series_pairs * i) + 1) 0)
  unfolding Alike
  same-pairs i l f v =
      let e = run-series ∙ out-series doc small (room_of ns np na) from (blank ns np na) kind kids own.1 in
      let h = answer-count in
      let b = both.same i (omega (arith, l, h)) f v in
      rw (e, table_is) b
