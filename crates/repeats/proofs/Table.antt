-- Stores into a table of which the first cells pass a test. Assumes nothing.
use Prim.Native.Nat.{ℕ, ◌+◌, ◌≤◌, ◌<◌}
use mathlib.Core.Path.{◌≡◌, refl, ◌∙◌}
use mathlib.Core.List.{List}
use mathlib.Core.Bool.{Bool, true}
use mathlib.Core.Logic.{⊎_elim}
use native.Mathlib.Omega.{arith}
use lib.ListN.{length, get_or, set, length-set}
use lib.Seq.{get_or-set_same, get_or-set_other}
use Rattle.lists.proofs.Cases.{eqb-cases}
use Rattle.repeats.specs.Cells.{Cells, Kept, KeptPast, KeptOr}

-- m cells, of which all but the one stored were among the n before
pub stored : (test : ℕ → Bool) (n m i v : ℕ) (t : List ℕ) → i < length t → ((k : ℕ) → k < m → (k ≡ i → ⊥) → k < n)
    → Cells test n t → test v ≡ true → Cells test m (set t i v)
stored test n m i v t h old cells good =
    record {
      each = λ k l.
          ⊎_elim
          (λ e. rw (e.0, get_or-set_same t i v 0 h) good)
          (λ d. rw (get_or-set_other t i k v 0 d.0) (cells.each k (old k l d.0)))
          (eqb-cases k i);
    }

pub swapped : (i j : ℕ) (t : List ℕ) → i < length t → j < length t → KeptPast i j t (set (set t i (get_or t j 0)) j (get_or t i 0))
swapped i j t hi hj n li lj test cells =
    stored test n n j (get_or t i 0) (set t i (get_or t j 0)) (rw length-set hj) (λ k l d. l)
    (stored test n n i (get_or t j 0) t hi (λ k l d. l) cells (cells.each j lj)) (cells.each i li)

-- u is as long as t, and its first n cells hold nothing that those of t do not
pub record Held (n : ℕ) (t u : List ℕ) : Type 0 where
  pub same : length u ≡ length t
  pub kept : Kept n t u

pub held_start : (n : ℕ) (t : List ℕ) → Held n t t
held_start n t = record { same = refl; kept = λ test cells. cells }

pub held-swap : {n i j : ℕ} {t u v : List ℕ} → Held n t u → KeptPast i j u v → length v ≡ length u → i < n → j < n → Held n t v
held-swap {n} w s e hi hj = record { same = e ∙ w.same; kept = λ test cells. s n hi hj test (w.kept test cells) }

-- a place after the n that are there, and one in the first of them
pub added-last : {n p : ℕ} {t u : List ℕ} → n < length t → Kept (n + 1) (set t n p) u → KeptOr n (n + 1) p t u
added-last {n} {p} {t} h kept test cells good = kept test (stored test n (n + 1) n p t h (λ k l d. omega arith) cells good)

pub added-first : {n p : ℕ} {t u : List ℕ} → 0 < n → n ≤ length t → Kept n (set t 0 p) u → KeptOr n n p t u
added-first {n} {p} {t} o h kept test cells good = kept test (stored test n n 0 p t (omega arith) (λ k l d. l) cells good)
