-- "Two documents of equal length that differ only in digits of readable Qty values get the same answer, place, counts and note, and the same cells but
-- for the amounts of accepted intervals whose own digits differ." Assumes nothing.
use Prim.Native.Nat.{ℕ, zero, suc, ◌+◌, ◌≤◌, ◌<◌}
use mathlib.Core.Path.{◌≡◌, refl, sym, ap, ◌∙◌}
use mathlib.Core.List.{List, map}
use mathlib.Core.Bool.{Bool, true, false, cond}
use mathlib.Core.Logic.{◌⊎◌, inl, inr, ⊎_elim}
use native.Mathlib.Omega.{arith}
use lib.IntN.{ℤ, pos}
use lib.Dec.{eqb, ltb}
use native.Mathlib.Nat.{le_refl}
use lib.ListN.{length, get_or, drop, replicate, length-replicate, length-map, length-drop, get_or-map, get_or-eq_default}
use borrow.Author.Tests.{eqb-true, eq-eqb, ltb-false}
use Rattle.std.specs.Prelude.{Result, Ok, Err}
use Rattle.lists.specs.Zeros.{zeros}
use Rattle.slices.specs.Text.{text}
use Rattle.lists.proofs.Cases.{bool_cases, leb-cases, ltb-cases}
use Rattle.characters.specs.Says.{says, says_after}
use Rattle.slices.specs.Part.{part_of}
use Rattle.tags.specs.Known.{absent}
use Rattle.slices.specs.declared.Span.{Span}
use Rattle.trims.specs.Trim.{drop_lead, drop_trail, dropped}
use Rattle.numbers.specs.Digits.{digits}
use Rattle.numbers.specs.Amount.{minus, unsigned, unsigned_form, written_amount, amount_of}
use Rattle.prolog.specs.Prolog.{begin}
use Rattle.tables.specs.Cells.{no_amounts}
use Rattle.states.specs.Moves.{begun}
use Rattle.states.specs.declared.Entry.TheVariants.{Amount}
use Rattle.digits.specs.Outside.{AlikeFrom}
use Rattle.digits.proofs.Chars.{digits-unseen}
use Rattle.notes.specs.declared.Shape.{Shape}
use Rattle.reader.specs.Items.{items_from}
use Rattle.reader.specs.Rows.{quoted, thousandths_of}
use Rattle.reader.specs.Reading.{Tables, Out, blank, room_of, refused_at, read_after, read_into, or_blank, read_sheet}
use Rattle.reader.specs.declared.Answer.{Answer}
use Rattle.reader.specs.Answer.{answer_of, told, noted, unnoted, read_of}
use Rattle.blindness.specs.Readable.{DifferInQty}
use Rattle.blindness.specs.Sources.{amount_at, qty_values, qty_values_after, sources_of}
use Rattle.blindness.proofs.Sources.{unsourced, sources_from, source_table}
use Rattle.blindness.proofs.Counts.{begun-counted}
use Rattle.reader.proofs.Ran.{items-few}
use Rattle.blindness.proofs.Order.{order}
use Rattle.blindness.specs.Blind.{amount_cell, source, OwnDigitsDiffer, SameButAmounts}
use Rattle.blindness.proofs.Pairs.{list_cases}
use Rattle.blindness.specs.Replaced.{Replaced}
use Rattle.blindness.proofs.Mixed.{between, first-replaced, second-replaced}
use Rattle.blindness.proofs.Steps.{qty-kinds}
use Rattle.blindness.proofs.Shown.{amounts-tabled}
use Rattle.blindness.proofs.Runs.{parts-after, run-said}
use Rattle.blindness.proofs.Told.{items_out, items-read, SameTold, told-join, replaced-same}

-- ---- the amounts of a document are those at their sources

nothing_said : (doc : List ℕ) → amount_at doc absent ≡ pos 0
unfolding amount_at absent quoted part_of dropped drop_lead drop_trail says says_after amount_of written_amount unsigned_form unsigned minus digits thousandths_of
nothing_said doc = refl

map_same : {A B : Type 0} (f : A → B) (n : ℕ) (a : A) (b : B) → f a ≡ b → map f (replicate n a) ≡ replicate n b
map_same f zero a b e = refl
map_same f (suc n) a b e = rw (e, map_same f n a b e)

none_said : (doc : List ℕ) (na : ℕ) → no_amounts na ≡ map (amount_at doc) (unsourced na)
unfolding unsourced
none_said doc na = sym (map_same (amount_at doc) na absent (pos 0) (nothing_said doc))

module _ (doc : List ℕ) (ns np na : ℕ) where
  into-said : (b : Result ℕ ℕ) → (read_after doc (blank ns np na) b).tables.amounts ≡ map (amount_at doc) (sources_from doc ns np na b)
  unfolding read_after sources_from items_from blank
  into-said (Ok n) =
      ap (λ (o : Out). o.tables.amounts) (items-read doc ns np na n)
      ∙ ap (λ (ams : List ℤ). (items_out doc ns np na n ams).tables.amounts) (none_said doc na)
      ∙ run-said doc (room_of ns np na) (items_from doc n) (parts-after doc (drop n doc) 0 n refl) begun (zeros ns) (zeros np) (unsourced na)
  into-said (Err p) = none_said doc na

  -- on every refusal there are none
  chosen-said : (t : Bool) (a : Tables) (so : List Span) → a.amounts ≡ map (amount_at doc) so
      → (cond t a (blank ns np na)).amounts ≡ map (amount_at doc) (cond t so (unsourced na))
  unfolding blank
  chosen-said true a so e = e
  chosen-said false a so e = none_said doc na

  sheet-said : (read_sheet doc ns np na).tables.amounts
      ≡ map (amount_at doc) (cond (eqb (read_sheet doc ns np na).found.refusal 0) (sources_from doc ns np na (begin doc)) (unsourced na))
  unfolding read_sheet or_blank read_into refused_at blank
  sheet-said =
      ⊎_elim
      (λ l. rw l (none_said doc na))
      (λ l. rw l
      (chosen-said (eqb (read_into doc (blank ns np na)).found.refusal 0) (read_into doc (blank ns np na)).tables (sources_from doc ns np na (begin doc))
      (into-said (begin doc))))
      (bool_cases (ltb 1048576 (length doc)))

  -- "It is stored in thousandths": each amount is that which the value at its source says
  pub amounts-said : (shape : Shape) (nb : ℕ) → (read_of doc ns np na shape nb).tables.amounts ≡ map (amount_at doc) (source_table doc ns np na shape nb)
  unfolding read_of source_table unnoted noted told answer_of refused_at blank
  amounts-said shape nb = ⊎_elim (λ l. rw l (none_said doc na)) (λ l. rw l sheet-said) (bool_cases (ltb nb 16))

  table-said : (shape : Shape) (nb k : ℕ) → amount_cell ns np na shape nb doc k ≡ amount_at doc (get_or (source_table doc ns np na shape nb) k absent)
  table-said shape nb k =
      ap (λ (l : List ℤ). get_or l k (pos 0)) (amounts-said shape nb)
      ∙ ap (get_or (map (amount_at doc) (source_table doc ns np na shape nb)) k) (sym (nothing_said doc))
      ∙ get_or-map (amount_at doc) (source_table doc ns np na shape nb) k absent

-- ---- and these are its Qty values, in document order

none-at : (n k : ℕ) → get_or (replicate n absent) k absent ≡ absent
none-at zero k = refl
none-at (suc n) zero = refl
none-at (suc n) (suc k) = none-at n k

room_fits : (ns np na : ℕ) → (room_of ns np na).intervals ≤ na
unfolding room_of
room_fits ns np na = ⊎_elim (λ l. rw l.1 l.0) (λ l. rw l.1 (le_refl na)) (leb-cases np na)

module _ (doc : List ℕ) (ns np na : ℕ) where
  -- of a document that is accepted: its sources, and the number of its intervals
  abbrev Sourced : Result ℕ ℕ → Type 0
  Sourced b =
      ((k : ℕ) → get_or (sources_from doc ns np na b) k absent ≡ get_or (qty_values_after doc b) k absent)
      × ((read_after doc (blank ns np na) b).found.intervals ≡ length (qty_values_after doc b))

  begun-low : (n : ℕ) → length (items_from doc n) ≤ length (drop n doc) → length doc ≤ 1048576 → begun.intervals + length (items_from doc n) ≤ 4294967295
  unfolding begun
  begun-low n few short = let cut = length-drop n doc in omega (arith, few, cut, short)

  begin-sourced : length doc ≤ 1048576 → (b : Result ℕ ℕ) → (read_after doc (blank ns np na) b).found.refusal ≡ 0 → Sourced b
  unfolding read_after sources_from qty_values_after unsourced items_from refused_at
  begin-sourced short (Err p) e = absurd (omega (arith, e))
  begin-sourced short (Ok n) e =
      let few = items-few (drop n doc) 0 n in
      let r = order doc (room_of ns np na) (items_from doc n) begun (zeros ns) (zeros np) (no_amounts na) (unsourced na) 0
      (record {
        counted = begun-counted (room_of ns np na);
        low = begun-low n few short;
        wide = rw (length-replicate {A = Span} na absent) (room_fits ns np na);
        empty = λ j l. none-at na j;
      })
      (rw (items-read doc ns np na n) at e) in (
        λ k. let z : 0 + k ≡ k = omega arith in ap (λ (m : ℕ). get_or (sources_from doc ns np na (Ok n)) m absent) (sym z) ∙ r.0.1 k,
        ap (λ (o : Out). o.found.intervals) (items-read doc ns np na n) ∙ r.1 ∙ (let z : 0 + length (qty_values (items_from doc n)) ≡ length (qty_values (items_from doc n)) = omega arith in z),
      )

  -- what a document that is accepted passed
  taken : (shape : Shape) (nb : ℕ) → (read_of doc ns np na shape nb).answer.refusal ≡ 0
      → (length doc ≤ 1048576) × ((read_into doc (blank ns np na)).found.refusal ≡ 0)
      × ((read_of doc ns np na shape nb).answer.intervals ≡ (read_into doc (blank ns np na)).found.intervals)
  unfolding read_of unnoted noted told answer_of refused_at read_sheet or_blank
  taken shape nb e =
      ⊎_elim
      (λ (y : ltb nb 16 ≡ true). let z : ◌≡◌ {A = ℕ} 10 0 = rw y at e in absurd (omega (arith, z)))
      (λ (y : ltb nb 16 ≡ false).
      ⊎_elim
      (λ (l : ltb 1048576 (length doc) ≡ true). let z : ◌≡◌ {A = ℕ} 1 0 = rw (y, l) at e in absurd (omega (arith, z)))
      (λ (l : ltb 1048576 (length doc) ≡ false). (ltb-false 1048576 (length doc) l, rw (y, l) at e, rw (y, l) refl))
      (bool_cases (ltb 1048576 (length doc))))
      (bool_cases (ltb nb 16))

  accepted-sourced : (shape : Shape) (nb : ℕ) → (read_of doc ns np na shape nb).answer.refusal ≡ 0 → Sourced (begin doc)
  unfolding read_into
  accepted-sourced shape nb e = let t = taken shape nb e in begin-sourced t.0 (begin doc) t.1

  source_told : (shape : Shape) (nb k : ℕ) → get_or (source_table doc ns np na shape nb) k absent ≡ source ns np na shape nb doc k
  unfolding source_table sources_of unsourced
  source_told shape nb k =
      ⊎_elim
      (λ y. rw y ((accepted-sourced shape nb (eqb-true (read_of doc ns np na shape nb).answer.refusal 0 y)).0 k))
      (λ y. rw y (none-at na k))
      (bool_cases (eqb (read_of doc ns np na shape nb).answer.refusal 0))

  pub cell-said : (shape : Shape) (nb k : ℕ) → amount_cell ns np na shape nb doc k ≡ amount_at doc (source ns np na shape nb doc k)
  cell-said shape nb k = table-said doc ns np na shape nb k ∙ ap (amount_at doc) (source_told shape nb k)

  -- a cell with a source is that of an interval
  source-interval : (shape : Shape) (nb k : ℕ) → (read_of doc ns np na shape nb).answer.refusal ≡ 0
      → (source ns np na shape nb doc k ≡ absent) ⊎ (k < (read_of doc ns np na shape nb).answer.intervals)
  unfolding sources_of read_into
  source-interval shape nb k e =
      let t = taken shape nb e in
      let n = t.2 ∙ (accepted-sourced shape nb e).1 in
      ⊎_elim
      (λ l. inr (rw n l.0))
      (λ l. inl (rw (eq-eqb (read_of doc ns np na shape nb).answer.refusal 0 e) (get_or-eq_default (qty_values_after doc (begin doc)) absent l.0)))
      (ltb-cases k (length (qty_values_after doc (begin doc))))

-- ---- two documents

module _ (x y : List ℕ) (ns np na : ℕ) (shape : Shape) (nb : ℕ) where
  -- all but the amounts, and where these come from
  abbrev Same : Type 0
  Same = SameTold (read_of x ns np na shape nb) (read_of y ns np na shape nb) × (source_table x ns np na shape nb ≡ source_table y ns np na shape nb)

module _ (ns np na : ℕ) (shape : Shape) (nb : ℕ) where
  qty-same : (x y : List ℕ) → Replaced (text "Qty") (AlikeFrom false) x y → Same x y ns np na shape nb
  qty-same x y d = replaced-same (text "Qty") (AlikeFrom false) Amount digits-unseen qty-kinds x y (amounts-tabled x y (AlikeFrom false)) d ns np na shape nb

  all_same : (x y : List ℕ) → DifferInQty x y → Same x y ns np na shape nb
  all_same x y d =
      let p = qty-same x (between x y d) (first-replaced x y d) in
      let q = qty-same y (between x y d) (second-replaced x y d) in
      (told-join p.0 q.0, p.1 ∙ sym q.1)

module _ (x y : List ℕ) (ns np na : ℕ) (shape : Shape) (nb : ℕ) where
  -- on every refusal no cell has a source
  refused-source : (k : ℕ) → eqb (read_of x ns np na shape nb).answer.refusal 0 ≡ false → source ns np na shape nb x k ≡ absent
  unfolding sources_of
  refused-source k e = rw e

  nothing-quoted : quoted absent x ≡ quoted absent y
  unfolding quoted part_of absent
  nothing-quoted = refl

  own_same : (k : ℕ) → source_table x ns np na shape nb ≡ source_table y ns np na shape nb → source ns np na shape nb x k ≡ source ns np na shape nb y k
  own_same k e = sym (source_told x ns np na shape nb k) ∙ ap (λ (l : List Span). get_or l k absent) e ∙ source_told y ns np na shape nb k

  cell_same : (k : ℕ) → quoted (source ns np na shape nb x k) x ≡ quoted (source ns np na shape nb y k) y → amount_cell ns np na shape nb x k ≡ amount_cell ns np na shape nb y k
  unfolding amount_at
  cell_same k e = cell-said x ns np na shape nb k ∙ ap (λ (l : List ℕ). thousandths_of (amount_of (dropped (says l)))) e ∙ sym (cell-said y ns np na shape nb k)

  cells : Same x y ns np na shape nb → (k : ℕ) → (amount_cell ns np na shape nb x k ≡ amount_cell ns np na shape nb y k) ⊎ OwnDigitsDiffer ns np na shape nb x y k
  cells h k =
      let own = own_same k h.1 in
      ⊎_elim
      (λ e. inl (cell_same k e))
      (λ (differ : quoted (source ns np na shape nb x k) x ≡ quoted (source ns np na shape nb y k) y → ⊥).
      ⊎_elim
      (λ t.
      let z = eqb-true (read_of x ns np na shape nb).answer.refusal 0 t in
      ⊎_elim
      (λ (none : source ns np na shape nb x k ≡ absent). absurd (differ (rw (← own, none) nothing-quoted)))
      (λ interval.
      inr
      (record {
        interval = interval;
        accepted = (z, sym (ap (λ (a : Answer). a.refusal) h.0.answer) ∙ z);
        own = own;
        says = (cell-said x ns np na shape nb k, cell-said y ns np na shape nb k);
        differ = differ;
      }))
      (source-interval x ns np na shape nb k z))
      (λ t. absurd (differ (rw (← own, refused-source k t) nothing-quoted)))
      (bool_cases (eqb (read_of x ns np na shape nb).answer.refusal 0)))
      (list_cases (quoted (source ns np na shape nb x k) x) (quoted (source ns np na shape nb y k) y))

  pub blind : DifferInQty x y → SameButAmounts ns np na shape nb x y
  blind d =
      let h = all_same ns np na shape nb x y d in
      record {
        answer = h.0.answer;
        note = h.0.note;
        series = h.0.series;
        positions = h.0.positions;
        long = ap length (amounts-said x ns np na shape nb) ∙ length-map (source_table x ns np na shape nb) (amount_at x) ∙ ap length h.1
            ∙ sym (ap length (amounts-said y ns np na shape nb) ∙ length-map (source_table y ns np na shape nb) (amount_at y));
        amounts = cells h;
      }
