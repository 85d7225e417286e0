-- The names of elements are names of tags, each with its own number. Assumes nothing.
use Prim.Native.Nat.{ℕ, suc, ◌+◌, ◌-◌, ◌≤◌, ◌<◌}
use mathlib.Core.Path.{◌≡◌, refl, sym, ap, ◌∙◌}
use mathlib.Core.List.{List, [], ◌∷◌, ◌++◌}
use mathlib.Core.Bool.{Bool, true, false, cond, ◌&&◌, and-eq-true_iff}
use native.Mathlib.Omega.{arith}
use lib.Dec.{eqb, ltb, leb}
use lib.ListN.{length, get_or, get_or-append}
use borrow.Author.Tests.{eqb-true}
use Rattle.lists.proofs.Below.{every, below}
use Rattle.lists.proofs.Cases.{bool_cases, never}
use mathlib.Core.Logic.{⊎_elim}
use Rattle.slices.specs.Bytes.{byte}
use Rattle.slices.specs.Run.{run}
use Rattle.slices.specs.Same.{same}
use Rattle.slices.specs.Text.{text}
use Rattle.slices.proofs.Runs.{run_by}
use Rattle.attributes.specs.Names.{name_start, name_byte}
use Rattle.elements.specs.Names.{names, number_in, element_no}
use Rattle.layouts.specs.Layout.{element_name, HasName}

-- of the element with this number
fine : ℕ → Bool
fine e = name_start (byte (element_name e) 0) && eqb (run name_byte (element_name e)) (length (element_name e)) && eqb (element_no (element_name e)) e

next-fine : ℕ → Bool
next-fine k = fine (suc k)

all-fine : every next-fine 44 ≡ true
unfolding fine next-fine name_start byte element_name names run name_byte element_no number_in same
all-fine = refl

pub record Name (n : List ℕ) : Type 0 where
  pub starts : name_start (byte n 0) ≡ true
  pub runs : run name_byte n ≡ length n

as_said : (e : ℕ) → fine e ≡ true → Name (element_name e) × (element_no (element_name e) ≡ e)
unfolding fine
as_said e t =
    let a = (and-eq-true_iff (name_start (byte (element_name e) 0) && eqb (run name_byte (element_name e)) (length (element_name e))) _).0 t in
    let b = (and-eq-true_iff (name_start (byte (element_name e) 0)) _).0 a.0 in
    (record { starts = b.0; runs = eqb-true _ _ b.1 }, eqb-true _ _ a.1)

pub names-fine : (e : ℕ) → HasName e → Name (element_name e) × (element_no (element_name e) ≡ e)
unfolding next-fine names
names-fine e h =
    let l = h.least in
    let m : e ≤ 44 = h.most in
    let z : suc (e - 1) ≡ e = omega (arith, l) in
    let t : fine (suc (e - 1)) ≡ true = below next-fine 44 all-fine (e - 1) (omega (arith, l, m)) in
    as_said e (rw z at t)

-- a name and a byte behind it that is none of a name
pub run-stops : (p : ℕ → Bool) (n : List ℕ) (b : ℕ) (r : List ℕ) → run p n ≡ length n → p b ≡ false → run p (n ++ (b ∷ r)) ≡ length n
run-stops p [] b r e f = run_by p b r f
run-stops p (c ∷ t) b r e f =
    ⊎_elim
    (λ y.
    let g : suc (run p t) ≡ suc (length t) = sym (run_by p c t y) ∙ e in
    run_by p c (t ++ (b ∷ r)) y ∙ ap suc (run-stops p t b r (omega (arith, g)) f))
    (λ y. let g : ◌≡◌ {A = ℕ} 0 (suc (length t)) = sym (run_by p c t y) ∙ e in absurd (omega (arith, g)))
    (bool_cases (p c))
