-- A document, and one that is the same but for values of readable tags of one name, get the same answer, note, series and positions. Assumes nothing.
use Prim.Native.Nat.{ℕ}
use mathlib.Core.Path.{◌≡◌, refl, sym, ap, ◌∙◌}
use mathlib.Core.List.{List}
use mathlib.Core.Bool.{Bool, true, false, cond}
use mathlib.Core.Logic.{⊎_elim}
use lib.IntN.{ℤ, pos}
use lib.Dec.{eqb, ltb}
use lib.ListN.{length, length-replicate}
use Rattle.std.specs.Prelude.{Ok}
use Rattle.lists.specs.Zeros.{zeros}
use Rattle.lists.proofs.Cases.{bool_cases}
use Rattle.prolog.specs.Prolog.{begin}
use Rattle.tables.specs.Cells.{no_amounts}
use Rattle.states.specs.Moves.{begun}
use Rattle.states.specs.declared.Room.{Room}
use Rattle.states.specs.declared.Entry.{Entry}
use Rattle.states.specs.declared.Entry.TheVariants.{Amount}
use Rattle.notes.specs.declared.Shape.{Shape}
use Rattle.reader.specs.Items.{items_from}
use Rattle.reader.specs.Reading.{tab, Tables, Out, blank, room_of, room_in, read_items, items_read, read_after, read_into, or_blank, read_sheet}
use Rattle.reader.specs.Answer.{Outcome, noted, unnoted, read_of}
use Rattle.digits.specs.Unseen.{Unseen}
use Rattle.blindness.specs.Replaced.{Replaced}
use Rattle.blindness.proofs.Sources.{unsourced, sources_from, source_table}
use Rattle.blindness.proofs.Aligned.{SameItems, aligned}
use Rattle.blindness.proofs.Steps.{BlindKinds}
use Rattle.blindness.proofs.Shown.{Tabled}
use Rattle.blindness.proofs.Runs.{SameOut, run-same}

room-blank : (ns np na : ℕ) → room_in (blank ns np na) ≡ room_of ns np na
unfolding room_in blank
room-blank ns np na = rw (length-replicate {A = ℕ} ns 0, length-replicate {A = ℕ} np 0, length-replicate {A = ℤ} na (pos 0))

module _ (doc : List ℕ) (ns np na : ℕ) where
  -- the items from the place n on, into blank tables
  abbrev pub items_out : ℕ → List ℤ → Out
  items_out n ams = read_items doc (room_of ns np na) (items_from doc n) begun (tab (zeros ns) (zeros np) ams)

  pub items-read : (n : ℕ) → items_read doc (room_in (blank ns np na)) n (blank ns np na) ≡ items_out n (no_amounts na)
  unfolding items_read blank
  items-read n = ap (λ (r : Room). read_items doc r (items_from doc n) begun (blank ns np na)) (room-blank ns np na)

module _ {Kept : Type 0} where
  out-same : {o o' : Out} → o ≡ o' → SameOut Kept o o'
  out-same e =
      record {
        found = ap (λ (o : Out). o.found) e;
        series = ap (λ (o : Out). o.tables.series) e;
        positions = ap (λ (o : Out). o.tables.positions) e;
        amounts = λ k. ap (λ (o : Out). o.tables.amounts) e;
      }

  out-trans : {a b c d : Out} → a ≡ b → SameOut Kept b c → d ≡ c → SameOut Kept a d
  out-trans p q r = rw (p, r) q

  out-under : {More : Type 0} {o o' : Out} → (Kept → More) → SameOut More o o' → SameOut Kept o o'
  out-under f h = record { found = h.found; series = h.series; positions = h.positions; amounts = λ k. h.amounts (f k) }

module _ (ns np na : ℕ) where
  -- a column of the tables or of blank ones
  chosen-same : {A : Type 0} (f : Tables → A) (t : Bool) {a b : Tables} → f a ≡ f b → f (cond t a (blank ns np na)) ≡ f (cond t b (blank ns np na))
  chosen-same f true p = p
  chosen-same f false p = refl

  blank-same : {Kept : Type 0} {o o' : Out} → SameOut Kept o o' → SameOut Kept (or_blank ns np na o) (or_blank ns np na o')
  unfolding or_blank
  blank-same {o = o} {o' = o'} h =
      let t = eqb o'.found.refusal 0 in
      record {
        found = h.found;
        series = rw h.found (chosen-same (λ c. c.series) t h.series);
        positions = rw h.found (chosen-same (λ c. c.positions) t h.positions);
        amounts = λ k. rw h.found (chosen-same (λ c. c.amounts) t (h.amounts k));
      }

-- all but the amounts
pub record SameTold (o o' : Outcome) : Type 0 where
  pub answer : o.answer ≡ o'.answer
  pub note : o.note ≡ o'.note
  pub series : o.tables.series ≡ o'.tables.series
  pub positions : o.tables.positions ≡ o'.tables.positions

told-itself : (o : Outcome) → SameTold o o
told-itself o = record { answer = refl; note = refl; series = refl; positions = refl }

-- two that are told like a third
pub told-join : {o o' p : Outcome} → SameTold o p → SameTold o' p → SameTold o o'
told-join a b =
    record { answer = a.answer ∙ sym b.answer; note = a.note ∙ sym b.note; series = a.series ∙ sym b.series; positions = a.positions ∙ sym b.positions }

noted-same : {Kept : Type 0} (shape : Shape) (nb : ℕ) {o o' : Out} → SameOut Kept o o' → SameTold (noted shape nb o) (noted shape nb o')
unfolding noted
noted-same shape nb h = record { answer = rw h.found; note = rw h.found; series = h.series; positions = h.positions }

module _ (name : List ℕ) (R : List ℕ → List ℕ → Type 0) (brought : Entry) (unseen : Unseen R) (rows : BlindKinds name R brought) (x y : List ℕ) (shown : Tabled R brought x y)
    (d : Replaced name R x y) (ns np na : ℕ) where
  -- the amounts too, where others than these are brought
  abbrev Same : Out → Out → Type 0
  Same = SameOut (brought ≡ Amount → ⊥)

  module _ (h : SameItems name R x y) where
    runs : Same (items_out x ns np na h.from (no_amounts na)) (items_out y ns np na h.from (no_amounts na))
        × (sources_from x ns np na (Ok h.from) ≡ sources_from y ns np na (Ok h.from))
    unfolding sources_from
    runs =
        let r = run-same name R brought rows x y shown (room_of ns np na) d.long h.items begun
        (zeros ns) (zeros np) (no_amounts na) (no_amounts na) (unsourced na) (shown.none ns) in
        (out-under (λ k. (k, refl)) r.0, r.1)

    into-same : Same (read_into x (blank ns np na)) (read_into y (blank ns np na))
    unfolding read_into read_after
    into-same = rw (h.first, h.second) (out-trans (items-read x ns np na h.from) runs.0 (items-read y ns np na h.from))

    items-same : Same (read_sheet x ns np na) (read_sheet y ns np na)
    unfolding read_sheet
    items-same =
        rw d.long
        (⊎_elim
        (λ l. rw l (out-same refl))
        (λ l. rw l (blank-same ns np na into-same))
        (bool_cases (ltb 1048576 (length y))))

    sources-same : sources_from x ns np na (begin x) ≡ sources_from y ns np na (begin y)
    sources-same = rw (h.first, h.second) runs.1

  pub sheets-same : Same (read_sheet x ns np na) (read_sheet y ns np na) × (sources_from x ns np na (begin x) ≡ sources_from y ns np na (begin y))
  sheets-same = ⊎_elim (λ e. rw e (out-same refl, refl)) (λ h. (items-same h, sources-same h)) (aligned name unseen x y d)

  sheets-told : (shape : Shape) (nb : ℕ) → SameTold (read_of x ns np na shape nb) (read_of y ns np na shape nb)
  unfolding read_of
  sheets-told shape nb =
      ⊎_elim
      (λ l. rw l (told-itself (unnoted ns np na nb)))
      (λ l. rw l (noted-same shape nb sheets-same.0))
      (bool_cases (ltb nb 16))

  -- and each amount comes from the same place
  pub replaced-same : (shape : Shape) (nb : ℕ) → SameTold (read_of x ns np na shape nb) (read_of y ns np na shape nb)
      × (source_table x ns np na shape nb ≡ source_table y ns np na shape nb)
  unfolding source_table
  replaced-same shape nb = let t = sheets-told shape nb in (t, rw (t.answer, sheets-same.1))
