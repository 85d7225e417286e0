-- What is promised of the writer, over the definition that its contract cites, `written_of`. Assumes nothing.
--     twelve-exactly     12 exactly where pairs or rows lie past what is lent, or no legal content has what was given
--     thirteen-exactly   13 exactly where the draft is fit and its layout is longer than the output or 1,048,576 bytes
--     refused-zero       on a refusal every byte of the output is 0
--     written-laid       else the output is the document, and 0 past it
--     written_read       which the reader accepts, given room, with the kind, the counts and the tables of the content
--     positions-given, amounts-given   and with the positions and amounts that were given
--     texts-back         and with the texts, which the views show (Texts)
--     written-back       what was read back is written to the same bytes (Back)
--     same-refusal       what of the answer depends on amounts (Amounts)
--     a-written, a-byte-less, a-third-kind, others-fit   drafts that meet the conditions (Witness)
use Prim.Native.Nat.{ℕ, ◌-◌, ◌≤◌, ◌<◌}
use mathlib.Core.Path.{◌≡◌, refl}
use mathlib.Core.List.{◌++◌}
use mathlib.Core.Bool.{true, false, and-eq-true_iff}
use mathlib.Core.Logic.{⊎_elim}
use native.Mathlib.Omega.{arith}
use lib.Dec.{leb}
use lib.IntN.{pos}
use lib.ListN.{length, get_or}
use borrow.Author.Tests.{lt-leb}
use Rattle.lists.specs.Zeros.{zeros}
use Rattle.lists.proofs.Cases.{bool_cases, leb-cases}
use Rattle.notes.specs.declared.Shape.{Shape}
use Rattle.reader.specs.Reading.{room_of}
use Rattle.reader.specs.Answer.{read_of}
use Rattle.trees.specs.Trees.{Trees}
use Rattle.contents.specs.Said.{TagSaid}
use Rattle.contents.specs.Legal.{Legal, HasRoom}
use Rattle.contents.specs.Shown.{Tells}
use Rattle.drafts.specs.Draft.{Draft, draft_content, draft_document, Lent}
use Rattle.drafts.specs.Judged.{draft_legal, positions_of, amounts_of}
use Rattle.drafts.specs.Fit.{is_written, is_lent, draft_fits}
use Rattle.drafts.specs.Written.{longest, room_in, refused_by, laid_in, fit_written, written_of}
use Rattle.drafts.proofs.Promises.{fit-exactly, draft-read, positions-back, amounts-back}
use Rattle.fitting.proofs.Lent.{lent-exactly}
use Rattle.writings.specs.Given.{HasGiven}
use Rattle.writings.proofs.Given.{none_other, has-given}

module _ (d : Draft) where
  written-kind : Lent d → is_written d.kind ≡ true
  unfolding is_written
  written-kind l = l.kind

  fit-given : draft_fits d ≡ true → Lent d × Legal d.kind (draft_content d)
  unfolding draft_fits
  fit-given h =
      let k = (and-eq-true_iff (is_lent d) (draft_legal d)).0 h in
      let l = (lent-exactly d).0 k.0 in
      (l, (fit-exactly d l.kind).0 k.1)

  given-fit : Lent d → (c : Trees TagSaid) → HasGiven d c → Legal d.kind c → draft_fits d ≡ true
  unfolding draft_fits
  given-fit l c h k =
      (and-eq-true_iff (is_lent d) (draft_legal d)).1 ((lent-exactly d).1 l, (fit-exactly d l.kind).1 (none_other d c (written-kind l) h k))

  module _ (n : ℕ) where
    -- ---- 12

    unfit-twelve : draft_fits d ≡ false → (written_of d n).refusal ≡ 12
    unfolding written_of refused_by
    unfit-twelve y = rw y refl

    fit-other : draft_fits d ≡ true → (written_of d n).refusal ≡ 12 → ⊥
    unfolding written_of fit_written refused_by laid_in
    fit-other y h =
        ⊎_elim
        (λ (z : leb (length (draft_document d)) (room_in n) ≡ true). let e : ◌≡◌ {A = ℕ} 0 12 = rw (y, z) at h in omega (arith, e))
        (λ (z : leb (length (draft_document d)) (room_in n) ≡ false). let e : ◌≡◌ {A = ℕ} 13 12 = rw (y, z) at h in omega (arith, e))
        (bool_cases (leb (length (draft_document d)) (room_in n)))

    -- "refuses exactly when no document of these kinds, length and room left aside, would be accepted with the given content": 12, whatever the length
    pub twelve-exactly : ((written_of d n).refusal ≡ 12 → Lent d → (c : Trees TagSaid) → HasGiven d c → Legal d.kind c → ⊥)
        × ((Lent d → (c : Trees TagSaid) → HasGiven d c → Legal d.kind c → ⊥) → (written_of d n).refusal ≡ 12)
    twelve-exactly = (
      λ h l c g k. fit-other (given-fit l c g k) h,
      λ illegal.
          ⊎_elim
          (λ (y : draft_fits d ≡ true). let k = fit-given y in absurd (illegal k.0 (draft_content d) (has-given d) k.1))
          (λ (y : draft_fits d ≡ false). unfit-twelve y)
          (bool_cases (draft_fits d)),
    )

    -- ---- 13

    pub thirteen-exactly : ((written_of d n).refusal ≡ 13 → (draft_fits d ≡ true) × (room_in n < length (draft_document d)))
        × (draft_fits d ≡ true → room_in n < length (draft_document d) → (written_of d n).refusal ≡ 13)
    unfolding written_of fit_written refused_by laid_in
    thirteen-exactly = (
      λ h.
          ⊎_elim
          (λ (y : draft_fits d ≡ true).
          ⊎_elim
          (λ (z : (length (draft_document d) ≤ room_in n) × (leb (length (draft_document d)) (room_in n) ≡ true)). let e : ◌≡◌ {A = ℕ} 0 13 = rw (y, z.1) at h in absurd (omega (arith, e)))
          (λ (z : (room_in n < length (draft_document d)) × (leb (length (draft_document d)) (room_in n) ≡ false)). (y, z.0))
          (leb-cases (length (draft_document d)) (room_in n)))
          (λ (y : draft_fits d ≡ false). let e : ◌≡◌ {A = ℕ} 12 13 = rw y at h in absurd (omega (arith, e)))
          (bool_cases (draft_fits d)),
      λ y l. rw (y, lt-leb _ _ l) refl,
    )

    -- ---- the output

    -- "output is then all 0"
    pub refused-zero : ((written_of d n).refusal ≡ 0 → ⊥) → ((written_of d n).len ≡ 0) × ((written_of d n).output ≡ zeros n)
    unfolding written_of fit_written refused_by laid_in
    refused-zero some =
        ⊎_elim
        (λ (y : draft_fits d ≡ true).
        ⊎_elim
        (λ (z : leb (length (draft_document d)) (room_in n) ≡ true). absurd (some (rw (y, z) refl)))
        (λ (z : leb (length (draft_document d)) (room_in n) ≡ false). (rw (y, z) refl, rw (y, z) refl))
        (bool_cases (leb (length (draft_document d)) (room_in n))))
        (λ (y : draft_fits d ≡ false). (rw y refl, rw y refl))
        (bool_cases (draft_fits d))

    room-low : room_in n ≤ longest
    unfolding room_in
    room-low = omega arith

    -- the document, "bytes past it are 0"
    pub written-laid : (written_of d n).refusal ≡ 0
        → (draft_fits d ≡ true) × ((written_of d n).len ≡ length (draft_document d)) × ((written_of d n).output ≡ draft_document d ++ zeros (n - length (draft_document d)))
        × (length (draft_document d) ≤ 1048576)
    unfolding written_of fit_written refused_by laid_in
    written-laid h =
        ⊎_elim
        (λ (y : draft_fits d ≡ true).
        ⊎_elim
        (λ (z : (length (draft_document d) ≤ room_in n) × (leb (length (draft_document d)) (room_in n) ≡ true)).
        let low = room-low in (y, rw (y, z.1) refl, rw (y, z.1) refl, let l = z.0 in omega (arith, l, low)))
        (λ (z : (room_in n < length (draft_document d)) × (leb (length (draft_document d)) (room_in n) ≡ false)). let e : ◌≡◌ {A = ℕ} 13 0 = rw (y, z.1) at h in absurd (omega (arith, e)))
        (leb-cases (length (draft_document d)) (room_in n)))
        (λ (y : draft_fits d ≡ false). let e : ◌≡◌ {A = ℕ} 12 0 = rw y at h in absurd (omega (arith, e)))
        (bool_cases (draft_fits d))

    -- ---- read back

    module _ (taken : (written_of d n).refusal ≡ 0) (ns np na : ℕ) (shape : Shape) (nb : ℕ) (wide : 16 ≤ nb) (room : HasRoom (room_of ns np na) d.kind (draft_content d)) where
      lent : Lent d
      lent = (fit-given (written-laid taken).0).0

      legal : draft_legal d ≡ true
      legal = (fit-exactly d lent.kind).1 (fit-given (written-laid taken).0).1

      -- "What is written is accepted by the reader given room"
      pub written_read : Tells (draft_document d) (read_of (draft_document d) ns np na shape nb) d.kind (draft_content d)
      written_read = draft-read d lent legal ns np na shape nb wide (written-laid taken).3 room

      -- "and gives back the same positions, amounts"
      pub positions-given : (j : ℕ) → get_or (read_of (draft_document d) ns np na shape nb).tables.positions j 0 ≡ get_or (positions_of d 0 d.count) j 0
      positions-given = positions-back d lent legal ns np na shape nb wide (written-laid taken).3 room

      pub amounts-given : (j : ℕ) → get_or (read_of (draft_document d) ns np na shape nb).tables.amounts j (pos 0) ≡ get_or (amounts_of d 0 d.count) j (pos 0)
      amounts-given = amounts-back d lent legal ns np na shape nb wide (written-laid taken).3 room
