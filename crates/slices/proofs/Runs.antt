-- A loop over a run of bytes: its invariant, `Ran`, and how it starts, goes on and ends. Assumes nothing.
use Prim.Native.Nat.{ℕ, zero, suc, ◌+◌, ◌≤◌, ◌<◌}
use mathlib.Core.Path.{◌≡◌, refl, ap, ◌∙◌}
use mathlib.Core.List.{List, [], ◌∷◌}
use mathlib.Core.Bool.{Bool, true, false, cond}
use native.Mathlib.Omega.{arith}
use native.Mathlib.Numerals.{add-one}
use lib.ListN.{length, get_or, drop, drop_of_length-le}
use borrow.Author.Tests.{not-true, not-false}
use lib.Seq.{drop-cons}
use mathlib.Core.Logic.{⊎_elim}
use Rattle.lists.proofs.Cases.{bool_cases}
use Rattle.slices.specs.Bytes.{byte}
use Rattle.slices.specs.Run.{run}

-- i bytes are passed, and with the run from there they are the run
pub record Ran (p : ℕ → Bool) (s : List ℕ) (i : ℕ) : Type 0 where
  pub inside : i ≤ length s
  pub total : i + run p (drop i s) ≡ run p s

run-cons : (p : ℕ → Bool) (b : ℕ) (t : List ℕ) → run p (b ∷ t) ≡ cond (p b) (suc (run p t)) 0
unfolding run
run-cons p b t = refl

-- by what the test of the first byte answers
pub run_by : (p : ℕ → Bool) (b : ℕ) (t : List ℕ) {x : Bool} → p b ≡ x → run p (b ∷ t) ≡ cond x (suc (run p t)) 0
run_by p b t e = run-cons p b t ∙ ap (λ (x : Bool). cond x (suc (run p t)) 0) e

run-nil : (p : ℕ → Bool) → run p [] ≡ 0
unfolding run
run-nil p = refl

-- each byte of a run passes
pub run-each : (p : ℕ → Bool) (s : List ℕ) (i : ℕ) → i < run p s → p (byte s i) ≡ true
unfolding run byte
run-each p [] i h = absurd (omega arith)
run-each p (b ∷ t) zero h = ⊎_elim (λ y. y) (λ y. absurd (let z = rw y at h in omega (arith, z))) (bool_cases (p b))
run-each p (b ∷ t) (suc i) h =
    ⊎_elim (λ y. run-each p t i (let z = rw y at h in omega (arith, z))) (λ y. absurd (let z = rw y at h in omega (arith, z))) (bool_cases (p b))

-- The flag t is what the test of a byte answered: so written, `search` finds it in what the code knows.
module _ (p : ℕ → Bool) (s : List ℕ) where
  pub ran-start : Ran p s 0
  ran-start = record { inside = omega arith; total = omega arith }

  module _ (i : ℕ) (r : Ran p s i) where
    pub ran-end : length s ≤ i → i ≡ run p s
    ran-end h =
        let q : run p (drop i s) ≡ 0 = rw (drop_of_length-le s h, run-nil) in
        omega arith

    module _ (h : i < length s) (t : Bool) (e : t ≡ p (get_or s i 0)) where
      pub ran-more : t ≡ true → Ran p s (i + 1)
      ran-more y =
          let q : run p (drop i s) ≡ suc (run p (drop (suc i) s)) = rw (drop-cons s i 0 h, run-cons, ← e, y) in
          record { inside = omega arith; total = rw (add-one i) (omega arith) }

      pub ran-stop : t ≡ false → i ≡ run p s
      ran-stop n =
          let q : run p (drop i s) ≡ 0 = rw (drop-cons s i 0 h, run-cons, ← e, n) in
          omega arith

pub ruleset runs = (ran-start, ran-end, ran-more, ran-stop, not-true, not-false)
