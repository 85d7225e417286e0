-- What is promised of views, over the definition of the contract, `sheet_viewed`. Assumes nothing.
--     readers-answer   number, place, kind and series are those of the reader with as much room
--     shows-values     the pairs show the values of the content that the document spells, all of them and in their place
--     same-pairs       those that the series table has too are the same (Same)
--     named-pairs      which pair is whose, by name, as the header of the library has it (Named)
--     past-last        past the last series all cells are 0 (Past)
--     legal-viewed     a legal document whose series have room is viewed, and there is one: sheet-viewed, sheet-values (Witness)
--     views-alone      two documents that differ in digits of readable Qty values alone get the same answer and the same table (Blind)
use Prim.Native.Nat.{ℕ, ◌+◌, ◌*◌, ◌-◌, ◌≤◌, ◌<◌}
use mathlib.Core.Path.{◌≡◌, refl, sym, ap, ◌∙◌}
use mathlib.Core.List.{List, [], ◌∷◌, ◌++◌, map, map-append}
use mathlib.Core.Bool.{Bool, true, false, cond}
use mathlib.Core.Logic.{◌⊎◌, ⊎_elim}
use native.Mathlib.Omega.{arith}
use native.Mathlib.Nat.{div-add-mod', le_refl}
use lib.Dec.{eqb, ltb}
use lib.ListN.{length, drop, get_or, length-drop, length-replicate}
use borrow.Author.Tests.{eqb-true, eq-eqb, ltb-true, ltb-false, le-ltb, lt-ltb}
use Rattle.std.specs.Prelude.{Result, Ok, Err}
use Rattle.lists.specs.Zeros.{zeros}
use Rattle.lists.proofs.Cases.{bool_cases, leb-cases}
use Rattle.prolog.specs.Prolog.{begin}
use Rattle.notes.specs.declared.Shape.{Shape}
use Rattle.notes.specs.declared.Shape.TheVariants.{Old}
use Rattle.series.specs.Row.{cells_of, room_for}
use Rattle.series.proofs.Rows.{rows-fit}
use Rattle.slices.specs.Same.{same}
use Rattle.elements.specs.Names.{names, number_in, element_no}
use Rattle.columns.specs.Columns.{role_of, series_role}
use Rattle.guideline.specs.Kinds.{is_kind}
use Rattle.guideline.specs.Rows.{beschaffungsanforderung, kostenblatt, network_constraint_document, rows_of}
use Rattle.guideline.proofs.Each.{each_kind, of-kind, row_with}
use Rattle.states.specs.Moves.{begun}
use Rattle.states.specs.declared.Room.{Room}
use Rattle.reader.specs.Items.{Placed, items_from}
use Rattle.reader.specs.Reading.{blank, room_of, room_in, refused_at, read_items, items_read, read_after, read_into, or_blank, read_sheet}
use Rattle.reader.specs.Judging.{judged_after, judged_into, judged}
use Rattle.reader.specs.Answer.{Outcome, answer_of, told, noted, read_of}
use Rattle.reader.specs.declared.Found.{Found}
use Rattle.reader.proofs.Sheets.{read-noted}
use Rattle.trees.specs.Trees.{Trees, none, element, spell, Conforms}
use Rattle.contents.specs.Said.{Absent, TagSaid}
use Rattle.contents.specs.Spelled.{Spells}
use Rattle.contents.specs.Legal.{Legal, HasRoom}
use Rattle.contents.specs.Shown.{Tells}
use Rattle.contents.proofs.Lists.{zero-all}
use Rattle.contents.proofs.Fill.{said_of, placed_signs, saying, Stands}
use Rattle.contents.proofs.Lifted.{lift}
use Rattle.contents.proofs.Theorems.{accepted-legal, legal-accepted, one-content}
use Rattle.promises.proofs.Steps.{begun-sound, begun-housed}
use Rattle.promises.proofs.Cells.{blank-past, blank-sized}
use Rattle.promises.proofs.Readings.{Held}
use Rattle.views.specs.Layout.{header_pairs, series_pairs, values_of, first_pair, pair_in, cell_of, view_room}
use Rattle.views.specs.Shown.{series_at}
use Rattle.views.specs.Views.{shown_after, sheet_shown, sight_by, sheet_viewed}
use Rattle.sights.specs.Values.{Part, part, counts_of, parts_of, stands_in, last_of, PairShows, RowShows, ShowsValues}
use Rattle.sights.proofs.Answered.{found-same}
use Rattle.sights.proofs.Slots.{in-header, in-series}
use Rattle.sights.proofs.Parts.{parts_show, named, items-shown, AllGood, all-good, parts-show}

-- ---- "The answer is the reader's"

pub room-width : (n : ℕ) → (cell_of header_pairs ≤ n → cell_of header_pairs + cell_of series_pairs * (view_room n).series ≤ n) × (cells_of (view_room n).series ≤ n)
unfolding view_room
room-width n =
    let m = n - cell_of header_pairs in
    let d = div-add-mod' m (cell_of series_pairs) in
    (λ h. omega (arith, h, d), omega (arith, d))

pub room-series : (ns np na : ℕ) → (room_of ns np na).series ≡ room_for ns
unfolding room_of
room-series ns np na = ⊎_elim (λ y. rw y.1 refl) (λ y. rw y.1 refl) (leb-cases np na)

pub room-intervals : (ns np na m : ℕ) → m ≤ np → m ≤ na → m ≤ (room_of ns np na).intervals
unfolding room_of
room-intervals ns np na m a b = ⊎_elim (λ y. rw y.1 a) (λ y. rw y.1 b) (leb-cases np na)

pub blank-room : (ns np na : ℕ) → room_in (blank ns np na) ≡ room_of ns np na
unfolding room_in blank
blank-room ns np na = rw (length-replicate {A = ℕ} ns 0, length-replicate {A = ℕ} np 0, length-replicate na _) refl

module _ (doc : List ℕ) (n ns np na : ℕ) (same : room_for ns ≡ (view_room n).series) (positions : length doc ≤ np) (amounts : length doc ≤ na) where
  abbrev room : Room
  room = view_room n

  abbrev other : Room
  other = room_of ns np na

  rooms : room.series ≡ other.series
  rooms = sym (room-series ns np na ∙ same)

  held : (k : ℕ) → Held doc room n 1 1 (length (drop k doc)) begun (blank n 1 1)
  unfolding begun
  held k =
      let l = length-drop k doc in
      record {
        sound = begun-sound;
        series = omega (arith, l);
        intervals = omega (arith, l);
        housed = begun-housed room;
        cells = blank-past n 1 1 0 0;
        sized = blank-sized n 1 1;
      }

  items-found : length doc ≤ 1048576 → (k : ℕ)
      → (read_items doc room (items_from doc k) begun (blank n 1 1)).found ≡ (read_items doc other (items_from doc k) begun (blank ns np na)).found
  unfolding items_from view_room blank
  items-found short k =
      found-same room other rooms doc (omega (arith, short)) (room-intervals ns np na (length doc) positions amounts) n 1 1 ns np na (room-width n).1
      (rows-fit room.series ns (let e = same in omega (arith, e))) 0 k (drop k doc) begun (blank n 1 1) (blank ns np na) (held k) (blank-sized ns np na)
      (λ j l. zero-all 0 n j ∙ sym (zero-all 0 ns j))

  after-found : length doc ≤ 1048576 → (b : Result ℕ ℕ) → judged_after room doc (zeros n) b ≡ (read_after doc (blank ns np na) b).found
  unfolding judged_after read_after items_read blank
  after-found short (Ok k) =
      items-found short k ∙ ap (λ (r : Room). (read_items doc r (items_from doc k) begun (blank ns np na)).found) (sym (blank-room ns np na))
  after-found short (Err p) = refl

  judged-found : judged room doc n ≡ (read_sheet doc ns np na).found
  unfolding judged judged_into read_sheet or_blank read_into
  judged-found =
      ⊎_elim
      (λ (y : ltb 1048576 (length doc) ≡ true). rw y refl)
      (λ (y : ltb 1048576 (length doc) ≡ false). rw y (after-found (ltb-false 1048576 (length doc) y) (begin doc)))
      (bool_cases (ltb 1048576 (length doc)))

  told-found : cell_of header_pairs ≤ n → (sheet_viewed doc n).told ≡ (read_sheet doc ns np na).found
  unfolding sheet_viewed sight_by
  told-found h = rw (le-ltb _ _ h) judged-found

  abbrev answer : Shape → ℕ → Outcome
  answer shape nb = read_of doc ns np na shape nb

  pub readers-answer : cell_of header_pairs ≤ n → (shape : Shape) (nb : ℕ) → 16 ≤ nb
      → ((sheet_viewed doc n).told.refusal ≡ (answer shape nb).answer.refusal) × ((sheet_viewed doc n).told.place ≡ (answer shape nb).answer.place)
      × ((sheet_viewed doc n).told.kind ≡ (answer shape nb).answer.kind) × ((sheet_viewed doc n).told.series ≡ (answer shape nb).answer.series)
  unfolding noted told answer_of
  readers-answer h shape nb w =
      let e = told-found h in
      let r = read-noted doc ns np na shape nb w in (
        ap (λ (f : Found). f.refusal) e ∙ ap (λ (o : Outcome). o.answer.refusal) r,
        ap (λ (f : Found). f.place) e ∙ ap (λ (o : Outcome). o.answer.place) r,
        ap (λ (f : Found). f.kind) e ∙ ap (λ (o : Outcome). o.answer.kind) r,
        ap (λ (f : Found). f.series) e ∙ ap (λ (o : Outcome). o.answer.series) r,
      )

-- ---- "the views show the values of the content that the document spells, all of them and in their place"

-- the elements of a content, told by their items
abbrev relabelled : Part Placed → Part TagSaid
relabelled p = part p.row p.number (said_of p.said)

counts-said : (rows : List ℕ) (kids : Trees Placed) (n : ℕ) → counts_of rows (saying kids) n ≡ counts_of rows kids n
unfolding counts_of saying
counts-said rows none n = refl
counts-said rows (element q x inner after) n =
    let m = series_at (get_or rows q 0) n in ap (counts_of rows (saying after)) (counts-said rows inner m) ∙ counts-said rows after (counts_of rows inner m)

parts_said : (rows : List ℕ) (kids : Trees Placed) (n : ℕ) → parts_of rows (saying kids) n ≡ map relabelled (parts_of rows kids n)
unfolding parts_of saying
parts_said rows none n = refl
parts_said rows (element q x inner after) n =
    let m = series_at (get_or rows q 0) n in
    ap (λ (l : List (Part TagSaid)). part q m (said_of x) ∷ l)
    (ap (λ (l : List (Part TagSaid)). l ++ parts_of rows (saying after) (counts_of rows (saying inner) m)) (parts_said rows inner m)
    ∙ ap (λ (k : ℕ). map relabelled (parts_of rows inner m) ++ parts_of rows (saying after) k) (counts-said rows inner m)
    ∙ ap (λ (l : List (Part TagSaid)). map relabelled (parts_of rows inner m) ++ l) (parts_said rows after (counts_of rows inner m))
    ∙ sym (map-append relabelled (parts_of rows inner m) (parts_of rows after (counts_of rows inner m))))

said-cond : (b : Bool) (x : Placed) (d : List Placed) → map said_of (cond b (x ∷ []) d) ≡ cond b (said_of x ∷ []) (map said_of d)
said-cond true x d = refl
said-cond false x d = refl

last-said : (rows : List ℕ) (q m : ℕ) (d : List Placed) (ps : List (Part Placed))
    → map said_of (last_of rows q m d ps) ≡ last_of rows q m (map said_of d) (map relabelled ps)
unfolding last_of
last-said rows q m d [] = refl
last-said rows q m d (p ∷ ps) =
    last-said rows q m (cond (stands_in rows q m p) (p.said ∷ []) d) ps
    ∙ ap (λ (l : List TagSaid). last_of rows q m l (map relabelled ps)) (said-cond (stands_in rows q m p) p.said d)

-- the row of a series is not the first
later : ℕ → Bool
later k = ltb 0 (row_with series_role (rows_of k))

later-all : each_kind later ≡ true
unfolding later rows_of beschaffungsanforderung kostenblatt network_constraint_document element_no number_in names same role_of
later-all = refl

pub later-row : (kind : ℕ) → is_kind kind ≡ true → 0 < row_with series_role (rows_of kind)
unfolding later
later-row kind known = ltb-true _ _ (of-kind later later-all kind known)

module _ (doc : List ℕ) (n : ℕ) (wide : cell_of header_pairs ≤ n) (accepted : (sheet_viewed doc n).told.refusal ≡ 0) where
  abbrev most : ℕ
  most = (view_room n).series

  abbrev whole : ℕ
  whole = length doc

  pub told_is : (sheet_viewed doc n).told ≡ judged (view_room n) doc n
  unfolding sheet_viewed sight_by
  told_is = rw (le-ltb _ _ wide) refl

  pub taken_is : (judged (view_room n) doc n).refusal ≡ 0
  taken_is = sym (ap (λ (f : Found). f.refusal) told_is) ∙ accepted

  pub short : whole ≤ 1048576
  unfolding judged refused_at
  short =
      ⊎_elim
      (λ (y : ltb 1048576 whole ≡ true). let z : ◌≡◌ {A = ℕ} 1 0 = rw y at taken_is in absurd (omega (arith, z)))
      (λ (y : ltb 1048576 whole ≡ false). ltb-false 1048576 whole y)
      (bool_cases (ltb 1048576 whole))

  same-room : room_for (cells_of most) ≡ most
  same-room = omega arith

  abbrev f : Found
  f = (sheet_viewed doc n).told

  abbrev o : Outcome
  o = read_of doc (cells_of most) whole whole Old 16

  reads : (f.refusal ≡ o.answer.refusal) × (f.place ≡ o.answer.place) × (f.kind ≡ o.answer.kind) × (f.series ≡ o.answer.series)
  reads = readers-answer doc n (cells_of most) whole whole same-room (le_refl whole) (le_refl whole) wide Old 16 (le_refl 16)

  abbrev taken : (kind : ℕ) × (c : Trees TagSaid) × Spells doc kind c × Legal kind c × HasRoom (room_of (cells_of most) whole whole) kind c
  taken = accepted-legal doc (cells_of most) whole whole Old 16 (le_refl 16) short (sym reads.0 ∙ accepted)

  tells : Tells doc o taken.0 taken.1
  tells = legal-accepted doc (cells_of most) whole whole Old 16 (le_refl 16) short taken.0 taken.1 taken.2 taken.3 taken.4

  few : (sheet_viewed doc n).told.series ≤ most
  few =
      let a = reads.3 in
      let b = tells.series in
      let d = taken.4.series in
      let e = room-series (cells_of most) whole whole in
      let f = same-room in
      omega (arith, a, b, d, e, f)

  module _ (kind : ℕ) (c : Trees TagSaid) (spells : Spells doc kind c) (legal : Legal kind c) where
    abbrev rows : List ℕ
    rows = rows_of kind

    pub kind-is : (judged (view_room n) doc n).kind ≡ kind
    kind-is =
        sym (ap (λ (f : Found). f.kind) told_is) ∙ reads.2 ∙ tells.kinds ∙ (one-content doc taken.0 kind taken.1 c taken.2 spells taken.3 legal).0

    -- the table, by the elements that the tags of the document spell
    pub table-by : (ks : Trees Placed) → Conforms rows 0 ks → placed_signs (items_from doc spells.from) ≡ spell rows ks
        → (sheet_viewed doc n).table ≡ parts_show rows (parts_of rows ks 0) (zeros n)
    unfolding sheet_viewed sight_by sheet_shown shown_after
    table-by ks conforms tags =
        rw (le-ltb _ _ wide, eq-eqb _ _ taken_is, kind-is, spells.begins)
        (items-shown kind (items_from doc spells.from) ks (zeros n) (named doc kind ks 0 conforms.fits.stand conforms.each) tags)

    abbrev lifted : (kids : Trees Placed) × (saying kids ≡ c) × (placed_signs (items_from doc spells.from) ≡ spell rows kids) × Conforms rows 0 kids × Stands doc kids
    lifted = lift doc spells.from kind c legal.known spells.tags legal.conforms

    abbrev kids : Trees Placed
    kids = lifted.0

    abbrev parts : List (Part Placed)
    parts = parts_of rows kids 0

    table_is : (sheet_viewed doc n).table ≡ parts_show rows parts (zeros n)
    table_is = table-by kids lifted.3 lifted.2

    good : AllGood doc kind parts
    good =
        all-good doc kind kids 0 0 lifted.3.fits.stand lifted.3.each lifted.4
        (λ l. let z = later-row kind legal.known in absurd (omega (arith, l, z)))

    said : (q m : ℕ) → map said_of (last_of rows q m [] parts) ≡ last_of rows q m [] (parts_of rows c 0)
    said q m =
        last-said rows q m [] parts
        ∙ ap (last_of rows q m []) (sym (parts_said rows kids 0) ∙ ap (λ (d : Trees TagSaid). parts_of rows d 0) lifted.1)

    no_value : (k : ℕ) → PairShows doc (zeros n) k Absent
    unfolding PairShows
    no_value k = (zero-all 0 n (cell_of k), zero-all 0 n (cell_of k + 1))

    -- the pairs of row q, from k on
    row_shows : (q m k : ℕ) → q < length rows → (header_pairs ≤ first_pair rows q → 1 ≤ m) → pair_in (first_pair rows q) m ≡ k
        → (eqb (values_of (get_or rows q 0)) 0 ≡ false → cell_of (k + values_of (get_or rows q 0)) ≤ n)
        → RowShows doc (sheet_viewed doc n).table k (get_or rows q 0) (last_of rows q m [] (parts_of rows c 0))
    row_shows q m k low number is room =
        ⊎_elim
        (λ (y : eqb (values_of (get_or rows q 0)) 0 ≡ true). λ j l. let z = eqb-true (values_of (get_or rows q 0)) 0 y in absurd (omega (arith, l, z)))
        (λ (y : eqb (values_of (get_or rows q 0)) 0 ≡ false).
        let h = room y in
        let len : length (zeros n) ≡ n = length-replicate n 0 in
        rw (← is, ← said q m, table_is)
        (parts-show doc kind q m low y number parts good (zeros n) [] (rw (is, len) h) (λ j l. no_value (pair_in (first_pair rows q) m + j))))
        (bool_cases (eqb (values_of (get_or rows q 0)) 0))

    in-first : (q : ℕ) → first_pair rows q < header_pairs → pair_in (first_pair rows q) 0 ≡ first_pair rows q
    unfolding pair_in
    in-first q h = rw (lt-ltb _ _ h) refl

    in-each : (q i : ℕ) → header_pairs ≤ first_pair rows q → pair_in (first_pair rows q) (i + 1) ≡ first_pair rows q + series_pairs * i
    unfolding pair_in
    in-each q i h = let e : i + 1 - 1 ≡ i = omega arith in rw (le-ltb _ _ h, e) refl

    pub shows-values : ShowsValues doc (sheet_viewed doc n).table kind (sheet_viewed doc n).told.series c
    shows-values =
        record {
          header = λ q low h.
              row_shows q 0 (first_pair rows q) low (λ l. absurd (omega (arith, l, h))) (in-first q h)
              (λ e. let a = in-header kind q low e h in omega (arith, a, wide));
          each = λ q low h i l.
              row_shows q (i + 1) (first_pair rows q + series_pairs * i) low (λ _. omega arith) (in-each q i h)
              (λ e.
              let a = in-series kind q low e h in
              let b = (room-width n).0 wide in
              let d = few in
              omega (arith, a, b, d, l));
        }
