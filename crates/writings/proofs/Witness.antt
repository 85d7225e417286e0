-- Drafts that meet the conditions of the promises: one that is written, too little room for it, one that is unfit, and other amounts. Assumes nothing.
use mathlib.Core.Path.{◌≡◌, refl, sym, ap, ◌∙◌}
use mathlib.Core.List.{List, [], ◌∷◌}
use mathlib.Core.Bool.{true, and-eq-true_iff}
use native.Mathlib.Omega.{arith}
use lib.IntN.{ℤ, pos}
use lib.ListN.{length}
use Rattle.drafts.specs.Draft.{draft_document}
use Rattle.drafts.specs.Judged.{amounts_fit, draft_legal}
use Rattle.drafts.specs.Fit.{is_written, is_lent, draft_fits}
use Rattle.drafts.specs.Written.{room_in, refused_by, laid_in, fit_written, written_of}
use Rattle.drafts.proofs.Examples.{a_draft, a-document, a-draft-fits, a-draft-lent}
use Rattle.fitting.proofs.Lent.{lent-exactly}
use Rattle.writings.specs.Amounts.{with_amounts, in_range}
use Rattle.writings.proofs.Promises.{thirteen-exactly}
use Rattle.writings.proofs.Amounts.{fit-alone}

a-fit : draft_fits a_draft ≡ true
unfolding draft_fits
a-fit = (and-eq-true_iff (is_lent a_draft) (draft_legal a_draft)).1 ((lent-exactly a_draft).1 a-draft-lent, a-draft-fits)

a-length : length (draft_document a_draft) ≡ 904
a-length = ap length a-document

-- it is written where there is room
pub a-written : (written_of a_draft 904).refusal ≡ 0
unfolding written_of fit_written laid_in room_in
a-written = rw (a-fit, a-length) refl

-- and a byte less is too little
pub a-byte-less : (written_of a_draft 903).refusal ≡ 13
unfolding room_in
a-byte-less = let e = a-length in (thirteen-exactly a_draft 903).1 a-fit (omega (arith, e))

-- "kinds other than 1 and 2 are 12"
pub a-third-kind : (written_of (record { kind = 3; text = []; pairs = []; count = 0; series = []; positions = []; amounts = [] }) 2000).refusal ≡ 12
unfolding written_of refused_by draft_fits is_lent is_written
a-third-kind = refl

-- other amounts in range: the draft is as fit as it was
abbrev pub others : List ℤ
others = pos 0 ∷ pos 999999999999999 ∷ []

in-range : (in_range a_draft 0 1 ≡ true) × (in_range (with_amounts a_draft others) 0 1 ≡ true)
unfolding in_range amounts_fit
in-range = (refl, refl)

pub others-fit : draft_fits (with_amounts a_draft others) ≡ true
others-fit = sym (fit-alone a_draft a_draft.amounts others refl in-range.0 in-range.1) ∙ a-fit
