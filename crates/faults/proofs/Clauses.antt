-- Clauses in the order of their numbers: the first that holds is the smallest. Assumes nothing.
use Prim.Native.Nat.{ℕ, ◌≤◌, ◌<◌}
use mathlib.Core.Path.{◌≡◌, refl, sym, ap, ◌∙◌}
use mathlib.Core.List.{List, [], ◌∷◌}
use mathlib.Core.Bool.{Bool, true, false, cond}
use mathlib.Core.Logic.{◌⊎◌, inl, inr, ⊎_elim}
use native.Mathlib.Omega.{arith}
use Rattle.lists.proofs.Cases.{bool_cases, never}
use Rattle.faults.specs.Faults.{Clause, HasFault, Smallest, Faultless}

-- the number of the first that holds, 0 for none
abbrev pub first_held : List Clause → ℕ
first_held [] = 0
first_held (c ∷ cs) = cond c.holds c.number (first_held cs)

-- none is smaller than k, nor than one before it
abbrev pub Rising : ℕ → List Clause → Type 0
Rising k [] = Unit {0}
Rising k (c ∷ cs) = (k ≤ c.number) × Rising c.number cs

-- no fault is smaller than k
rising-most : (k : ℕ) (cs : List Clause) → Rising k cs → (m : ℕ) → HasFault cs m → k ≤ m
unfolding HasFault
rising-most k [] r m h = absurd h
rising-most k (c ∷ cs) r m (inl h) = let e = h.0 in omega (arith, r.0, e)
rising-most k (c ∷ cs) r m (inr h) = let l = rising-most c.number cs r.1 m h in omega (arith, r.0, l)

pub none-held : (k : ℕ) (cs : List Clause) → 0 < k → Rising k cs → first_held cs ≡ 0 → Faultless cs
unfolding HasFault
none-held k [] p r e m h = h
none-held k (c ∷ cs) p r e m h =
    ⊎_elim
    (λ (y : c.holds ≡ true). let z : c.number ≡ 0 = rw y at e in absurd (omega (arith, z, r.0)))
    (λ (y : c.holds ≡ false).
    ⊎_elim (λ g. never (sym y ∙ g.1)) (λ g. none-held c.number cs (omega (arith, r.0)) r.1 (rw y at e) m g) h)
    (bool_cases c.holds)

pub first-smallest : (k : ℕ) (cs : List Clause) → Rising k cs → {n : ℕ} → first_held cs ≡ n → (n ≡ 0 → ⊥) → Smallest cs n
unfolding HasFault
first-smallest k [] r e z = absurd (z (sym e))
first-smallest k (c ∷ cs) r {n} e z =
    ⊎_elim
    (λ (y : c.holds ≡ true).
    let q : c.number ≡ n = rw y at e in
    record {
      has = inl (q, y);
      least = λ m h. ⊎_elim (λ g. omega (arith, g.0, q)) (λ g. let l = rising-most c.number cs r.1 m g in omega (arith, l, q)) h;
    })
    (λ (y : c.holds ≡ false).
    let s = first-smallest c.number cs r.1 (rw y at e) z in
    record { has = inr s.has; least = λ m h. ⊎_elim (λ g. never (sym y ∙ g.1)) (λ g. s.least m g) h })
    (bool_cases c.holds)
