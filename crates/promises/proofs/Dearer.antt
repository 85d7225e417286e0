-- The sheet with another digit in a Qty: demand 3's exception has an instance. Assumes nothing.
use Prim.Native.Nat.{ℕ}
use mathlib.Core.Path.{◌≡◌, refl, sym, ap, ◌∙◌}
use mathlib.Core.List.{List}
use mathlib.Core.Bool.{Bool, true}
use mathlib.Core.Logic.{inl, inr, ⊎_elim}
use native.Mathlib.Omega.{arith}
use lib.Dec.{eqb}
use lib.IntN.{ℤ, pos, negsuc}
use lib.ListN.{get_or}
use borrow.Author.Tests.{eqb-true}
use Rattle.slices.specs.Bytes.{byte}
use Rattle.characters.specs.References.{digit}
use Rattle.notes.specs.declared.Shape.TheVariants.{Old}
use Rattle.reader.specs.Answer.{Outcome, read_of}
use Rattle.blindness.specs.Readable.{QtyDigit, DifferInQty}
use Rattle.blindness.specs.Blind.{OwnDigitsDiffer}
use Rattle.blindness.proofs.Blind.{blind}
use Rattle.promises.specs.Sheet.{sheet, dearer_sheet}
use Rattle.promises.proofs.Digits.{alongside, along, qty-digit}
use Rattle.promises.proofs.Examples.{qty_place, qty-place, sheet-read, dearer-read}

-- the place of the digit is the only one where they differ
abbrev there : ℕ → Bool
there p = eqb p qty_place

alone : alongside there 0 sheet dearer_sheet ≡ true
unfolding alongside
alone = refl

sheet-digit : QtyDigit sheet qty_place
unfolding digit byte
sheet-digit = qty-digit sheet qty_place refl qty-place

dearer-digit : digit (byte dearer_sheet qty_place) ≡ true
unfolding digit byte
dearer-digit = refl

pub sheet-dearer : DifferInQty sheet dearer_sheet
sheet-dearer =
    record {
      long = refl;
      places = λ p.
          ⊎_elim inl
          (λ h. let e : p ≡ qty_place = eqb-true p qty_place h in inr (inl (rw e sheet-digit, rw e dearer-digit)))
          (along there sheet dearer_sheet alone p);
    }

-- the first amount
abbrev first_in : Outcome → ℤ
first_in o = get_or o.tables.amounts 0 (pos 0)

abbrev at_least : ℤ → ℕ
at_least (pos n) = n
at_least (negsuc n) = 0

other-amount : first_in (read_of sheet 25 4 4 Old 16) ≡ first_in (read_of dearer_sheet 25 4 4 Old 16) → ⊥
other-amount e =
    let z : ◌≡◌ {A = ℤ} (pos 1500) (pos 9500) = sym (ap first_in sheet-read) ∙ e ∙ ap first_in dearer-read in
    let n = ap at_least z in
    omega (arith, n)

pub amount-differs : OwnDigitsDiffer 25 4 4 Old 16 sheet dearer_sheet 0
amount-differs = ⊎_elim (λ e. absurd (other-amount e)) (λ d. d) ((blind sheet dearer_sheet 25 4 4 Old 16 sheet-dearer).amounts 0)

pub sheets-differ : sheet ≡ dearer_sheet → ⊥
sheets-differ e = other-amount (ap (λ (d : List ℕ). first_in (read_of d 25 4 4 Old 16)) e)
