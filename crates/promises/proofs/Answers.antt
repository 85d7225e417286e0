-- What holds of the document reader's answer, tables and note, from what holds of what was found. Assumes nothing.
use Prim.Native.Nat.{ℕ, ◌^◌, ◌≤◌, ◌<◌}
use mathlib.Core.Path.{◌≡◌, refl, sym, ◌∙◌}
use mathlib.Core.List.{List}
use mathlib.Core.Logic.{⊎_elim}
use native.Mathlib.Omega.{arith}
use lib.ListN.{length, take}
use Rattle.std.specs.Prelude.{Some}
use Rattle.lists.specs.Zeros.{zeros, padded}
use Rattle.lists.proofs.Cases.{ltb-cases}
use Rattle.notes.specs.declared.Note.{Note}
use Rattle.notes.specs.Note.{groups_in, flat, numbers_for, note_of, tells_in, AllBelow}
use Rattle.notes.specs.Reader.{note_in}
use Rattle.notes.specs.declared.Shape.TheVariants.{Old, New}
use Rattle.notes.proofs.Promises.{fits-reader, left-padded, written_back}
use Rattle.structure.specs.Depth.{height_in, depth_of}
use Rattle.guideline.specs.Rows.{rows_of}
use Rattle.states.specs.Moves.{begun}
use Rattle.notes.specs.declared.Shape.{Shape}
use Rattle.reader.specs.Reading.{Out, blank, refused_at, read_sheet}
use Rattle.reader.specs.Answer.{Outcome, note_for, answer_of, told, noted, unnoted, read_of}
use Rattle.reader.proofs.Sheets.{read-unnoted, read-noted}
use Rattle.promises.specs.Rows.{ZeroPast, InRoom, Sized}
use Rattle.promises.specs.Answers.{note_told, count_in, longest, at_once}
use Rattle.guideline.specs.Kinds.{series_element}
use Rattle.promises.specs.Items.{before, starts, kind_in, interval_element, items_in, PlaceOf, start_tags, end_tags, open_before}
use Rattle.promises.proofs.Places.{sheet-here}
use Rattle.promises.proofs.Cells.{blank-past, blank-sized}
use Rattle.promises.proofs.Counted.{first-told, sheet-told}
use Rattle.promises.proofs.Readings.{sheet-room, sheet-fine, sheet-cleared, sheet-long}

-- refusal 1, before any item
first-note : (shape : Shape) → told shape (refused_at 1 0 begun) ≡ at_once 1 (count_in shape)
unfolding told answer_of note_for refused_at begun flat groups_in depth_of height_in rows_of
first-note Old = refl
first-note New = refl

module _ (doc : List ℕ) (ns np na : ℕ) (shape : Shape) (nb : ℕ) where
  abbrev sheet : Out
  sheet = read_sheet doc ns np na

  abbrev outcome : Outcome
  outcome = read_of doc ns np na shape nb

  -- what holds of either outcome holds
  by-buffer : (P : Outcome → Type 0) → (nb < 16 → P (unnoted ns np na nb)) → (16 ≤ nb → P (noted shape nb sheet)) → P outcome
  by-buffer P f g =
      ⊎_elim
      (λ y. rw (← read-unnoted doc ns np na shape nb y.0) (f y.0))
      (λ y. rw (← read-noted doc ns np na shape nb y.0) (g y.0))
      (ltb-cases nb 16)

  pub ten-is : nb < 16 → (outcome.answer ≡ at_once 10 0) × (outcome.tables ≡ blank ns np na) × (outcome.note ≡ zeros nb)
  unfolding unnoted answer_of refused_at begun
  ten-is h = rw (← read-unnoted doc ns np na shape nb h) (refl, refl, refl)

  pub ten-only : outcome.answer.refusal ≡ 10 → nb < 16
  unfolding noted told answer_of
  ten-only =
      by-buffer (λ (o : Outcome). o.answer.refusal ≡ 10 → nb < 16) (λ h e. h)
      (λ h e. absurd (omega (arith, e, (sheet-fine doc ns np na).refusals)))

  pub long-is : 16 ≤ nb → 1048576 < length doc → outcome.answer ≡ at_once 1 (count_in shape)
  unfolding noted
  long-is h l = rw (← read-noted doc ns np na shape nb h, sheet-long doc ns np na l) (first-note shape)

  pub long-only : outcome.answer.refusal ≡ 1 → 1048576 < length doc
  unfolding noted unnoted told answer_of refused_at
  long-only =
      by-buffer (λ (o : Outcome). o.answer.refusal ≡ 1 → 1048576 < length doc) (λ h e. absurd (omega arith))
      (λ h e. (sheet-fine doc ns np na).long e)

  pub refusal-clears : (outcome.answer.refusal ≡ 0 → ⊥) → (outcome.tables ≡ blank ns np na) × (outcome.answer.quarters ≡ 0)
  unfolding noted unnoted told answer_of refused_at
  refusal-clears =
      by-buffer (λ (o : Outcome). (o.answer.refusal ≡ 0 → ⊥) → (o.tables ≡ blank ns np na) × (o.answer.quarters ≡ 0)) (λ h f. (refl, refl))
      (λ h f. (sheet-cleared doc ns np na f, (sheet-fine doc ns np na).quarters f))

  pub refusal-known : outcome.answer.refusal ≤ 10
  unfolding noted unnoted told answer_of refused_at
  refusal-known =
      by-buffer (λ (o : Outcome). o.answer.refusal ≤ 10) (λ h. omega arith) (λ h. let f = (sheet-fine doc ns np na).refusals in omega arith)

  pub place-within : outcome.answer.place ≤ length doc
  unfolding noted unnoted told answer_of refused_at
  place-within = by-buffer (λ (o : Outcome). o.answer.place ≤ length doc) (λ h. omega arith) (λ h. (sheet-fine doc ns np na).places)

  pub accepted-whole : outcome.answer.refusal ≡ 0 → outcome.answer.place ≡ length doc
  unfolding noted unnoted told answer_of refused_at
  accepted-whole =
      by-buffer (λ (o : Outcome). o.answer.refusal ≡ 0 → o.answer.place ≡ length doc) (λ h e. absurd (omega arith))
      (λ h e. (sheet-fine doc ns np na).accepted e)

  pub counts-within : (outcome.answer.kind ≤ 3) × (outcome.answer.series ≤ length doc) × (outcome.answer.intervals ≤ length doc)
  unfolding noted unnoted told answer_of refused_at begun
  counts-within =
      by-buffer (λ (o : Outcome). (o.answer.kind ≤ 3) × (o.answer.series ≤ length doc) × (o.answer.intervals ≤ length doc))
      (λ h. (omega arith, omega arith, omega arith))
      (λ h. let f = sheet-fine doc ns np na in (f.kinds, f.series, f.intervals))

  pub cells-past : ZeroPast outcome.answer.series outcome.answer.intervals outcome.tables
  unfolding noted unnoted told answer_of refused_at
  cells-past =
      by-buffer (λ (o : Outcome). ZeroPast o.answer.series o.answer.intervals o.tables)
      (λ h. blank-past ns np na begun.series begun.intervals)
      (λ h. (sheet-fine doc ns np na).cells)

  pub rows-kept : InRoom ns np na outcome.answer.series outcome.answer.intervals × Sized ns np na outcome.tables
  unfolding noted unnoted told answer_of refused_at begun
  rows-kept =
      by-buffer (λ (o : Outcome). InRoom ns np na o.answer.series o.answer.intervals × Sized ns np na o.tables)
      (λ h. (record { series-rows = omega arith; position-rows = omega arith; amount-rows = omega arith }, blank-sized ns np na))
      (λ h. (sheet-room doc ns np na, (sheet-fine doc ns np na).sized))

  pub place-told : 16 ≤ nb → length doc ≤ 1048576 → PlaceOf doc outcome.answer.place
  unfolding noted told answer_of
  place-told h l = rw (← read-noted doc ns np na shape nb h) (sheet-here doc ns np na l)

  pub counts-told : (outcome.answer.kind ≡ kind_in (before outcome.answer.place (items_in doc)))
      × (outcome.answer.series ≡ starts (series_element outcome.answer.kind) (before outcome.answer.place (items_in doc)))
      × (outcome.answer.intervals ≡ starts interval_element (before outcome.answer.place (items_in doc)))
  unfolding noted unnoted told answer_of
  counts-told =
      by-buffer
      (λ (o : Outcome).
      (o.answer.kind ≡ kind_in (before o.answer.place (items_in doc)))
      × (o.answer.series ≡ starts (series_element o.answer.kind) (before o.answer.place (items_in doc)))
      × (o.answer.intervals ≡ starts interval_element (before o.answer.place (items_in doc))))
      (λ h. let f = first-told doc 10 (blank ns np na) in (f.kind, f.series, f.intervals))
      (λ h. let f = sheet-told doc ns np na in (f.kind, f.series, f.intervals))

  never-ten : (refused_at 10 0 begun).refusal ≡ 0 → ⊥
  unfolding refused_at
  never-ten e = omega (arith, e)

  -- the numbers of the note
  abbrev found : Note
  found = note_for sheet.found

  record Small : Type 0 where
    refusals : found.refusal ≤ 9
    places : found.place < 2 ^ 21
    kinds : found.kind ≤ 3
    series : found.series < 2 ^ 21
    intervals : found.intervals < 2 ^ 21
    depths : found.depth ≤ 16

  small : Small
  unfolding note_for refused_at begun
  small =
      let f = sheet-fine doc ns np na in
      ⊎_elim
      (λ y.
      record {
        refusals = f.refusals;
        places = rw (sheet-long doc ns np na y.0) (omega arith);
        kinds = f.kinds;
        series = rw (sheet-long doc ns np na y.0) (omega arith);
        intervals = rw (sheet-long doc ns np na y.0) (omega arith);
        depths = f.depths;
      })
      (λ y.
      record {
        refusals = f.refusals;
        places = omega (arith, f.places, y.0);
        kinds = f.kinds;
        series = omega (arith, f.series, y.0);
        intervals = omega (arith, f.intervals, y.0);
        depths = f.depths;
      })
      (ltb-cases 1048576 (length doc))

  all-below : (s : Shape) → AllBelow (2 ^ 21) (numbers_for s found)
  unfolding AllBelow
  all-below Old = let z = small in (omega arith, (omega arith, (omega arith, (omega arith, (omega arith, tt)))))
  all-below New = let z = small in (omega arith, (omega arith, (omega arith, (omega arith, (omega arith, (omega arith, (omega arith, tt)))))))

  short : (s : Shape) → length (note_of s found) ≤ longest s
  short Old = let z = small in (fits-reader found (omega arith) z.places (omega arith) z.series z.intervals (omega arith)).0
  short New = let z = small in (fits-reader found (omega arith) z.places (omega arith) z.series z.intervals (omega arith)).1

  longest-fits : (s : Shape) → longest s ≤ 16
  longest-fits Old = omega arith
  longest-fits New = omega arith

  -- start tags less end tags
  open_is : sheet.found.depth ≡ open_before doc sheet.found.place
  unfolding open_before
  open_is = let f = sheet-told doc ns np na in omega (arith, f.depth)

  pub note-told : 16 ≤ nb
      → (outcome.answer.note ≡ length (note_of shape (note_told outcome.answer (open_before doc outcome.answer.place))))
      × (outcome.answer.note ≤ longest shape)
      × (outcome.note ≡ padded nb (note_of shape (note_told outcome.answer (open_before doc outcome.answer.place))))
      × (note_in (take outcome.answer.note outcome.note) ≡ Some (tells_in shape (note_told outcome.answer (open_before doc outcome.answer.place))))
  unfolding noted told answer_of note_for
  note-told h =
      let l = short shape in
      let w = longest-fits shape in
      let r : length (note_of shape found) ≤ nb = omega arith in
      let b = written_back shape found nb (all-below shape) (λ q. omega (arith, q, small.refusals)) r in
      rw (← read-noted doc ns np na shape nb h, ← open_is) (refl, l, left-padded (note_of shape found) nb r, b)

  pub open_told : (end_tags (before outcome.answer.place (items_in doc)) ≤ start_tags (before outcome.answer.place (items_in doc)))
      × (outcome.answer.refusal ≡ 0 → open_before doc outcome.answer.place ≡ 0)
  unfolding noted unnoted told answer_of
  open_told =
      by-buffer
      (λ (o : Outcome).
      (end_tags (before o.answer.place (items_in doc)) ≤ start_tags (before o.answer.place (items_in doc)))
      × (o.answer.refusal ≡ 0 → open_before doc o.answer.place ≡ 0))
      (λ h. let f = first-told doc 10 (blank ns np na) in (omega (arith, f.depth), λ e. absurd (never-ten e)))
      (λ h. let f = sheet-told doc ns np na in (omega (arith, f.depth), λ e. sym open_is ∙ (sheet-fine doc ns np na).shut e))
