-- Runs of bytes and places in lists that are put together. Assumes nothing.
use Prim.Native.Nat.{ℕ, suc, ◌+◌, ◌≤◌}
use mathlib.Core.Path.{◌≡◌, refl, sym, ap, ◌∙◌}
use mathlib.Core.List.{List, [], ◌∷◌, ◌++◌}
use mathlib.Core.Bool.{Bool, true, false}
use mathlib.Core.Logic.{⊎_elim}
use native.Mathlib.Omega.{arith}
use lib.ListN.{length, take, drop, length-drop}
use lib.Seq.{drop-append-add, get_or-append-add, drop-append-le, take-append-le}
use Rattle.lists.proofs.Cases.{bool_cases}
use Rattle.slices.specs.Bytes.{byte}
use Rattle.slices.specs.Part.{part_of}
use Rattle.slices.specs.Run.{run}
use Rattle.slices.proofs.Runs.{run_by}

module _ (p : ℕ → Bool) where
  -- of a list that is all a run
  pub all_first : (b : ℕ) (w : List ℕ) → run p (b ∷ w) ≡ suc (length w) → (p b ≡ true) × (run p w ≡ length w)
  all_first b w e =
      ⊎_elim
      (λ (t : p b ≡ true). (t, let f : suc (run p w) ≡ suc (length w) = sym (run_by p b w t) ∙ e in omega arith))
      (λ (t : p b ≡ false). let f : 0 ≡ suc (length w) = sym (run_by p b w t) ∙ e in absurd (omega arith))
      (bool_cases (p b))

  run_none : (r : List ℕ) → p (byte r 0) ≡ false → run p r ≡ 0
  unfolding run byte
  run_none [] e = refl
  run_none (c ∷ r) e = rw e

  -- it ends where the next byte fails the test
  pub run_on : (u r : List ℕ) → run p u ≡ length u → p (byte r 0) ≡ false → run p (u ++ r) ≡ length u
  run_on [] r e f = run_none r f
  run_on (b ∷ u) r e f = let a = all_first b u e in run_by p b (u ++ r) a.0 ∙ ap suc (run_on u r a.1 f)

  -- a run that has all of u
  pub run-part : (u r : List ℕ) → length u ≤ run p (u ++ r) → run p u ≡ length u
  unfolding run
  run-part [] r h = refl
  run-part (b ∷ u) r h =
      ⊎_elim
      (λ (t : p b ≡ true). let g = rw t at h in rw t (ap suc (run-part u r (omega arith))))
      (λ (t : p b ≡ false). let g = rw t at h in absurd (omega arith))
      (bool_cases (p b))

-- what stands n bytes on, behind u
pub behind : (u v : List ℕ) (n k : ℕ) → n ≡ length u + k → drop n (u ++ v) ≡ drop k v
behind u v n k e = ap (λ (j : ℕ). drop j (u ++ v)) e ∙ drop-append-add u v k

pub byte-behind : (u v : List ℕ) (n k : ℕ) → n ≡ length u + k → byte (u ++ v) n ≡ byte v k
unfolding byte
byte-behind u v n k e = ap (λ (j : ℕ). byte (u ++ v) j) e ∙ get_or-append-add u v k 0

-- a part of u, whatever is behind u
pub part-inside : (u v : List ℕ) (at n : ℕ) → at + n ≤ length u → part_of (u ++ v) at n ≡ part_of u at n
unfolding part_of
part-inside u v at n h =
    ap (take n) (drop-append-le at u v (omega arith))
    ∙ take-append-le n (drop at u) v (rw length-drop (omega arith))
