-- A document is accepted exactly where it spells a legal content; answer and tables are those of the content, and no other content is spelled.
-- Assumes nothing.
use Prim.Native.Nat.{ℕ, ◌≤◌, ◌<◌}
use mathlib.Core.Path.{◌≡◌, refl, sym, ap, subst, ◌∙◌}
use mathlib.Core.List.{List, ◌∷◌, map}
use mathlib.Core.Logic.{◌⊎◌, ⊎_elim}
use mathlib.Core.Bool.{true, false}
use native.Mathlib.Omega.{arith}
use native.Mathlib.Nat.{zero-add}
use lib.Dec.{leb}
use lib.ListN.{length, get_or, length-replicate, take}
use lib.IntN.{pos}
use Rattle.std.specs.Prelude.{Result, Ok, Err}
use Rattle.lists.proofs.Cases.{leb-cases, never}
use Rattle.structure.specs.Rows.{name_of}
use Rattle.prolog.specs.Prolog.{begin}
use Rattle.guideline.specs.Kinds.{kind_of}
use Rattle.guideline.specs.Rows.{rows_of}
use Rattle.states.specs.Moves.{begun}
use Rattle.states.specs.declared.Room.{Room}
use Rattle.notes.specs.declared.Shape.{Shape}
use Rattle.reader.specs.Items.{Placed, items_from}
use Rattle.reader.specs.Reading.{Tables, Out, blank, room_of, room_in, refused_at, accepted_at, read_items, items_read, read_after, read_into}
use Rattle.reader.specs.Answer.{Outcome, answer_of, told, noted, read_of}
use Rattle.reader.proofs.Sheets.{into-items, sheet-taken, sheet-found, read-noted}
use Rattle.trees.specs.Trees.{Sign, Opens, Trees, none, spell, Conforms}
use Rattle.trees.specs.Cursor.{row_after, open_after}
use Rattle.trees.proofs.Theorems.{one-tree}
use Rattle.contents.specs.Said.{TagSaid}
use Rattle.contents.specs.Spelled.{signs_of, Spells, SpellAlike}
use Rattle.contents.specs.Legal.{period_of, quarters_of, Legal, HasRoom}
use Rattle.contents.specs.Shown.{sum, each_series, interval_counts, Shows, RowShows, Tells, SameButPlaces}
use Rattle.series.specs.Row.{is_view, cells_of, room_for, field_at, view}
use Rattle.series.specs.declared.Field.{Field}
use Rattle.series.specs.declared.Field.TheVariants.{Identification, Object, BusinessType, Direction, Area, FirstRow, Count}
use Rattle.series.proofs.Rows.{rows-fit}
use Rattle.contents.proofs.Laid.{Known, laid}
use Rattle.contents.proofs.Shape.{document-shape}
use Rattle.contents.proofs.Walk.{nothing, walked}
use Rattle.contents.proofs.Fill.{saying, state_of, filled}
use Rattle.contents.proofs.Lifted.{relabelled, signs-said, spell-said, conforms-said, lift}
use Rattle.contents.proofs.Values.{each-given}
use Rattle.contents.proofs.Bridge.{Read, forth, back}
use Rattle.contents.proofs.Tallies.{series-walked, intervals-walked, period-walked}
use Rattle.contents.proofs.Rules.{Rules, passes-rules, rules-passes}
use Rattle.contents.proofs.Heeded.{heeds-agree, agree-heeds}
use Rattle.contents.proofs.Shown.{shows}
use Rattle.contents.proofs.Unused.{unused-apart, apart-unused}

-- ---- the whole document around its items

blank-room : (ns np na : ℕ) → room_in (blank ns np na) ≡ room_of ns np na
unfolding room_in blank
blank-room ns np na = rw (length-replicate {A = ℕ} ns 0, length-replicate {A = ℕ} np 0, length-replicate na (pos 0)) refl

-- room for rows is room for their cells
pub room-cells : (ns np na n m : ℕ) → n ≤ (room_of ns np na).series → m ≤ (room_of ns np na).intervals → (cells_of n ≤ ns) × (m ≤ np) × (m ≤ na)
unfolding room_of
room-cells ns np na n m a b =
    ⊎_elim
    (λ (y : (np ≤ na) × (leb np na ≡ true)).
    let c : n ≤ room_for ns = rw y.1 at a in
    let d : m ≤ np = rw y.1 at b in
    (rows-fit n ns c, d, omega (arith, d, y.0)))
    (λ (y : (na < np) × (leb np na ≡ false)).
    let c : n ≤ room_for ns = rw y.1 at a in
    let d : m ≤ na = rw y.1 at b in
    (rows-fit n ns c, omega (arith, d, y.0), d))
    (leb-cases np na)

module _ (doc : List ℕ) (ns np na : ℕ) (shape : Shape) (nb : ℕ) (wide : 16 ≤ nb) (small : length doc ≤ 1048576) where
  abbrev room : Room
  room = room_of ns np na

  abbrev read : ℕ → Out
  read n = read_items doc room (items_from doc n) begun (blank ns np na)

  into : (n : ℕ) → begin doc ≡ Ok n → read_into doc (blank ns np na) ≡ read n
  unfolding items_read
  into n e = sym (into-items doc (blank ns np na) n refl e) ∙ ap (λ r. read_items doc r (items_from doc n) begun (blank ns np na)) (blank-room ns np na)

  outcome-is : (n : ℕ) → begin doc ≡ Ok n → (read n).found.refusal ≡ 0 → read_of doc ns np na shape nb ≡ noted shape nb (read n)
  outcome-is n e z =
      let i = into n e in
      sym (read-noted doc ns np na shape nb wide)
      ∙ ap (noted shape nb) (sym (sheet-taken doc ns np na refl small refl (ap (λ (o : Out). o.found.refusal) i ∙ z)) ∙ i)

  outcome-refusal : (read_of doc ns np na shape nb).answer.refusal ≡ (read_into doc (blank ns np na)).found.refusal
  unfolding noted told answer_of
  outcome-refusal = ap (λ (o : Outcome). o.answer.refusal) (sym (read-noted doc ns np na shape nb wide)) ∙ ap (λ f. f.refusal) (sheet-found doc ns np na small)

  accepted-from : (b : Result ℕ ℕ) → begin doc ≡ b → (read_into doc (blank ns np na)).found.refusal ≡ 0 → (n : ℕ) × (begin doc ≡ Ok n) × ((read n).found.refusal ≡ 0)
  unfolding read_into read_after refused_at
  accepted-from (Ok n) e z = (n, e, ap (λ (o : Out). o.found.refusal) (sym (into n e)) ∙ z)
  accepted-from (Err p) e z = let u : ◌≡◌ {A = ℕ} 2 0 = rw e at z in absurd (omega (arith, u))

  -- ---- accepted documents spell legal contents

  pub accepted-legal : (read_of doc ns np na shape nb).answer.refusal ≡ 0 → (kind : ℕ) × (c : Trees TagSaid) × Spells doc kind c × Legal kind c × HasRoom room kind c
  accepted-legal z =
      let g = accepted-from (begin doc) refl (sym outcome-refusal ∙ z) in
      let n = g.0 in
      let f = forth doc room n (blank ns np na) small g.2 in
      let kind = f.0 in
      let kids = f.1 in
      let r = f.2 in
      let rows = rows_of kind in
      let l = laid kind r.known in
      let conforms = conforms-said rows 0 kids r.conforms in
      let k = passes-rules kind room rows l.period l.layout (saying kids) conforms r.passes in
      let m = room-cells ns np na _ _ k.series-room k.intervals-room in (
        kind,
        saying kids,
        record {
          from = n;
          begins = g.1;
          items = r.allowed;
          tags = signs-said (items_from doc n) ∙ ap (map relabelled) r.tags ∙ sym (spell-said rows kids);
        },
        record {
          known = r.known;
          conforms = conforms;
          elements = k.elements;
          series = k.series;
          constraint = heeds-agree kind rows l.period l.layout l.sighted (saying kids) conforms r.heeds;
          apart =
              unused-apart kind rows l.period l.layout l.valued doc ns np na kids r.conforms r.stands (each-given kind _ rows kids k.elements) m.0
              r.unused;
        },
        record { series = k.series-room; intervals = k.intervals-room },
      )

  -- ---- documents that spell legal contents are accepted

  module _ (kind : ℕ) (kids : Trees Placed) (n : ℕ) (begins : begin doc ≡ Ok n) (r : Read doc room n (blank ns np na) kind kids)
      (rules : Rules kind room (rows_of kind) (saying kids)) where
    abbrev rows : List ℕ
    rows = rows_of kind

    read_is : read n ≡ record {
      found = accepted_at (length doc) (state_of kind (row_after 0 kids) (open_after true kids) (walked rows (saying kids) nothing));
      tables = filled kind rows kids nothing (blank ns np na);
    }
    read_is = back doc room n (blank ns np na) small kind kids r

    outcome : read_of doc ns np na shape nb ≡ noted shape nb (record {
      found = accepted_at (length doc) (state_of kind (row_after 0 kids) (open_after true kids) (walked rows (saying kids) nothing));
      tables = filled kind rows kids nothing (blank ns np na);
    })
    unfolding accepted_at
    outcome = outcome-is n begins (ap (λ (o : Out). o.found.refusal) read_is) ∙ ap (noted shape nb) read_is

    tells : Tells doc (read_of doc ns np na shape nb) kind (saying kids)
    unfolding noted told answer_of accepted_at state_of quarters_of nothing period_of
    tells =
        let l = laid kind r.known in
        let m = room-cells ns np na _ _ rules.series-room rules.intervals-room in
        let e = outcome in
        record {
          accepted = ap (λ (o : Outcome). o.answer.refusal) e;
          kinds = ap (λ (o : Outcome). o.answer.kind) e;
          series = ap (λ (o : Outcome). o.answer.series) e ∙ series-walked rows (saying kids) nothing ∙ zero-add _;
          intervals = ap (λ (o : Outcome). o.answer.intervals) e ∙ intervals-walked rows (saying kids) nothing ∙ zero-add _;
          quarters = ap (λ (o : Outcome). o.answer.quarters) e ∙ ap quarters_of (period-walked rows (saying kids) nothing);
          tables =
              subst (λ (t : Tables). Shows doc t rows (saying kids)) (sym (ap (λ (o : Outcome). o.tables) e))
              (shows kind rows l.period l.layout l.valued doc ns np na kids r.conforms r.stands (each-given kind _ rows kids rules.elements) m.0 m.1 m.2);
        }

  pub legal-accepted : (kind : ℕ) (c : Trees TagSaid) → Spells doc kind c → Legal kind c → HasRoom room kind c → Tells doc (read_of doc ns np na shape nb) kind c
  legal-accepted kind c s g h =
      let rows = rows_of kind in
      let n = s.from in
      let l = laid kind g.known in
      let k = lift doc n kind c g.known s.tags g.conforms in
      let kids = k.0 in
      let e = k.1 in
      let rules : Rules kind room rows c =
      record { elements = g.elements; series = g.series; series-room = h.series; intervals-room = h.intervals } in
      let own = subst (Rules kind room rows) (sym e) rules in
      let m = room-cells ns np na _ _ own.series-room own.intervals-room in
      let conforms = conforms-said rows 0 kids k.3 in
      let r : Read doc room n (blank ns np na) kind kids =
      record {
        known = g.known;
        allowed = s.items;
        tags = k.2;
        conforms = k.3;
        stands = k.4;
        passes = rules-passes kind room rows l.period l.layout (saying kids) conforms own;
        heeds = agree-heeds kind rows l.period l.layout l.sighted (saying kids) conforms (subst (λ d. Legal kind d) (sym e) g).constraint;
        unused =
            apart-unused kind rows l.period l.layout l.valued doc ns np na kids k.3 k.4 (each-given kind _ rows kids own.elements) m.0
            (subst (λ d. Legal kind d) (sym e) g).apart;
      } in
      subst (Tells doc (read_of doc ns np na shape nb) kind) e (tells kind kids n s.begins r own)

-- ---- there is one content

-- the first tag of a content that conforms is its root's
first-tag : (kind : ℕ) → Known kind → (c : Trees TagSaid) → Conforms (rows_of kind) 0 c
    → (s : TagSaid) × (rest : List (Sign TagSaid)) × (spell (rows_of kind) c ≡ Opens s (name_of (get_or (rows_of kind) 1 0)) ∷ rest)
unfolding spell
first-tag kind known c conforms =
    let l = laid kind known in
    let d = document-shape (rows_of kind) l.period l.layout c conforms in
    (d.tag, _, ap (spell (rows_of kind)) d.is)

opened-name : (s u : TagSaid) (n m : ℕ) (l k : List (Sign TagSaid)) → Opens s n ∷ l ≡ Opens u m ∷ k → n ≡ m
opened-name s u n m l k e = cc

same_names : (kind other : ℕ) → Known kind → Known other → (c d : Trees TagSaid) → Conforms (rows_of kind) 0 c → Conforms (rows_of other) 0 d
    → spell (rows_of kind) c ≡ spell (rows_of other) d → name_of (get_or (rows_of kind) 1 0) ≡ name_of (get_or (rows_of other) 1 0)
same_names kind other k o c d a b e =
    let f = first-tag kind k c a in
    let g = first-tag other o d b in
    opened-name f.0 g.0 _ _ f.1 g.1 (sym f.2 ∙ e ∙ g.2)

-- and its name tells the kind
same_kind : (kind other : ℕ) → Known kind → Known other → name_of (get_or (rows_of kind) 1 0) ≡ name_of (get_or (rows_of other) 1 0) → kind ≡ other
same_kind kind other k o e = sym (laid kind k).told ∙ ap kind_of e ∙ (laid other o).told

begins-once : (doc : List ℕ) (n m : ℕ) → begin doc ≡ Ok n → begin doc ≡ Ok m → n ≡ m
begins-once doc n m a b = let e : ◌≡◌ {A = Result ℕ ℕ} (Ok n) (Ok m) = sym a ∙ b in cc

-- "the content unambiguous": a document spells no two legal contents
pub one-content : (doc : List ℕ) (kind other : ℕ) (c d : Trees TagSaid) → Spells doc kind c → Spells doc other d → Legal kind c → Legal other d
    → (kind ≡ other) × (c ≡ d)
one-content doc kind other c d s u g h =
    let f = begins-once doc s.from u.from s.begins u.begins in
    let e : spell (rows_of kind) c ≡ spell (rows_of other) d = sym s.tags ∙ ap (λ n. signs_of (items_from doc n)) f ∙ u.tags in
    let k = same_kind kind other g.known h.known (same_names kind other g.known h.known c d g.conforms h.conforms e) in (
      k,
      one-tree TagSaid (rows_of other) (laid other h.known).layout.well c d (subst (λ (i : ℕ). Conforms (rows_of i) 0 c) k g.conforms) h.conforms
          (ap (λ (i : ℕ). spell (rows_of i) c) (sym k) ∙ e),
    )

-- ---- what may differ

alike-spells : (x y : List ℕ) → SpellAlike x y → (kind : ℕ) (c : Trees TagSaid) → Spells x kind c → Spells y kind c
alike-spells x y a kind c s =
    record {
      from = a.other_from;
      begins = a.other-begins;
      items = a.other_items;
      tags = sym a.tags ∙ ap (λ n. signs_of (items_from x n)) (begins-once x a.from s.from a.begins s.begins) ∙ s.tags;
    }

module _ (x y : List ℕ) (o u : Outcome) (kind : ℕ) (c : Trees TagSaid) (t : Tells x o kind c) (v : Tells y u kind c) where
  abbrev Row : List ℕ → Outcome → ℕ → Type 0
  Row doc r i =
      RowShows doc r.tables.series (rows_of kind) i (get_or (each_series (rows_of kind) c) i none)
      (sum (take i (interval_counts (rows_of kind) (each_series (rows_of kind) c))))

  row : (i : ℕ) → i < o.answer.series → Row x o i × Row y u i
  row i l = let l' = rw t.series at l in (t.tables.series i l', v.tables.series i l')

  views_same : (i : ℕ) → i < o.answer.series → (f : Field) → is_view f ≡ true → view x o.tables.series i f ≡ view y u.tables.series i f
  views_same i l f e = let r = row i l in r.0.views f e ∙ sym (r.1.views f e)

  counts_same : (i : ℕ) → i < o.answer.series → (f : Field) → is_view f ≡ false → field_at o.tables.series i f ≡ field_at u.tables.series i f
  counts_same i l Identification e = never (sym e)
  counts_same i l Object e = never (sym e)
  counts_same i l BusinessType e = never (sym e)
  counts_same i l Direction e = never (sym e)
  counts_same i l Area e = never (sym e)
  counts_same i l FirstRow e = let r = row i l in r.0.begins ∙ sym r.1.begins
  counts_same i l Count e = let r = row i l in r.0.count ∙ sym r.1.count

  same-told : SameButPlaces x o y u
  same-told =
      record {
        refusal = t.accepted ∙ sym v.accepted;
        kinds = t.kinds ∙ sym v.kinds;
        series = t.series ∙ sym v.series;
        intervals = t.intervals ∙ sym v.intervals;
        quarters = t.quarters ∙ sym v.quarters;
        views = views_same;
        counts = counts_same;
        positions = λ j. t.tables.positions j ∙ sym (v.tables.positions j);
        amounts = λ j. t.tables.amounts j ∙ sym (v.tables.amounts j);
      }

-- "white text, comments, quotes, attribute order and the choice between an empty tag and a start with an end change nothing but places"
pub nothing-but-places : (x y : List ℕ) (ns np na : ℕ) (shape : Shape) (nb : ℕ) → 16 ≤ nb → length x ≤ 1048576 → length y ≤ 1048576 → SpellAlike x y
    → (read_of x ns np na shape nb).answer.refusal ≡ 0 → SameButPlaces x (read_of x ns np na shape nb) y (read_of y ns np na shape nb)
nothing-but-places x y ns np na shape nb w a b l z =
    let g = accepted-legal x ns np na shape nb w a z in
    let kind = g.0 in
    let c = g.1 in
    same-told x y (read_of x ns np na shape nb) (read_of y ns np na shape nb) kind c
    (legal-accepted x ns np na shape nb w a kind c g.2 g.3 g.4)
    (legal-accepted y ns np na shape nb w b kind c (alike-spells x y l kind c g.2) g.3 g.4)
