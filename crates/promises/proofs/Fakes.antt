-- Demand 2 is met by the reader, and by none of 01's fakes: each is told from the reader by the sheet of two series, or by the empty document. Assumes nothing.
use Prim.Native.Nat.{ℕ}
use mathlib.Core.Path.{◌≡◌, sym, ap, ◌∙◌}
use mathlib.Core.List.{[]}
use native.Mathlib.Omega.{arith}
use lib.ListN.{get_or}
use Rattle.series.specs.Row.{field_at}
use Rattle.series.specs.declared.Field.TheVariants.{Count}
use Rattle.notes.specs.declared.Shape.TheVariants.{Old}
use Rattle.reader.specs.Reading.{blank, refused_at}
use Rattle.reader.specs.Answer.{Outcome, noted, told, answer_of}
use Rattle.contents.specs.Shown.{Tells}
use Rattle.contents.proofs.Theorems.{accepted-legal, legal-accepted}
use Rattle.promises.specs.Sheet.{sheet}
use Rattle.promises.specs.Fakes.{Reader, Promised, the_reader, refuses_everything, one_answer, does_nothing, first_row_alone, first_series_only, invents_counts}
use Rattle.promises.proofs.Answers.{counts-told}
use Rattle.promises.proofs.Examples.{nothing_read, sheet-read, sheet-content, sheet-short}

pub reader-meets : Promised the_reader
reader-meets =
    record {
      legal = λ doc ns np na shape nb wide small. accepted-legal doc ns np na shape nb wide small;
      tells = λ doc ns np na shape nb wide small. legal-accepted doc ns np na shape nb wide small;
      kinds = λ doc ns np na shape nb. (counts-told doc ns np na shape nb).0;
      series = λ doc ns np na shape nb. (counts-told doc ns np na shape nb).1;
      intervals = λ doc ns np na shape nb. (counts-told doc ns np na shape nb).2;
    }

-- what a reader that meets it answers to the sheet, and leaves
told_of : (r : Reader) → Promised r → Tells sheet (r sheet 25 4 4 Old 16) 2 sheet-content.0
told_of r p = let s = sheet-content in p.tells sheet 25 4 4 Old 16 (omega arith) sheet-short 2 s.0 s.1 s.2 s.3

pub refusing-fails : Promised refuses_everything → ⊥
unfolding noted told answer_of refused_at
refusing-fails p = let e = (told_of refuses_everything p).accepted in omega (arith, e)

-- the empty document would be accepted, and so be legal
pub answering-fails : Promised one_answer → ⊥
answering-fails p =
    let h = p.legal [] 25 4 4 Old 16 (omega arith) (omega arith) (ap (λ (o : Outcome). o.answer.refusal) sheet-read) in
    let e = (legal-accepted [] 25 4 4 Old 16 (omega arith) (omega arith) h.0 h.1 h.2 h.3 h.4).accepted in
    let n = nothing_read in
    omega (arith, e, n)

-- the first position is 1
pub idling-fails : Promised does_nothing → ⊥
unfolding blank
idling-fails p =
    let fake = (told_of does_nothing p).tables.positions 0 in
    let real = (told_of the_reader reader-meets).tables.positions 0 in
    let one = ap (λ (o : Outcome). get_or o.tables.positions 0 0) sheet-read in
    let e : ◌≡◌ {A = ℕ} 0 1 = fake ∙ sym real ∙ one in
    omega (arith, e)

-- the second series has two intervals
pub pretending-fails : Promised first_series_only → ⊥
pretending-fails p =
    let n = ap (λ (o : Outcome). o.answer.series) sheet-read in
    let m = (told_of the_reader reader-meets).series in
    let fake = ((told_of first_series_only p).tables.series 1 (omega (arith, n, m))).count in
    let real = ((told_of the_reader reader-meets).tables.series 1 (omega (arith, n, m))).count in
    let none = ap (λ (o : Outcome). field_at (first_row_alone 25 o.tables).series 1 Count) sheet-read in
    let two = ap (λ (o : Outcome). field_at o.tables.series 1 Count) sheet-read in
    let e : ◌≡◌ {A = ℕ} 0 2 = sym none ∙ fake ∙ sym real ∙ two in
    omega (arith, e)

pub inventing-fails : Promised invents_counts → ⊥
inventing-fails p =
    let fake = p.series [] 25 4 4 Old 16 in
    let real = (counts-told [] 25 4 4 Old 16).1 in
    omega (arith, fake, real)
