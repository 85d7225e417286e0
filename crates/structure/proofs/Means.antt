-- The engine finds exactly the row that is due, in any table: `start-means` and `start-made`, `end-means` and `end-made`.
-- Assumes nothing.
use mathlib.Core.Path.{◌≡◌, refl, sym, ap, ◌∙◌}
use mathlib.Core.Bool.{Bool, true, false, cond}
use mathlib.Core.List.{List}
use mathlib.Core.Logic.{inl, inr, ⊎_elim}
use Prim.Native.Nat.{ℕ, zero, suc, ◌+◌, ◌-◌, ◌≤◌, ◌<◌}
use native.Mathlib.Omega.{arith}
use lib.ListN.{length, get_or, drop}
use borrow.Author.Tests.{eq-eqb, ne_eqb, lt-ltb}
use Rattle.std.specs.Prelude.{Some, None}
use Rattle.lists.proofs.Cases.{eqb-cases, ltb-cases, bool_cases, zero-not-one}
use Rattle.structure.specs.Rows.{next_in, ends_in, start_of, end_at, end_of, parent_of, name_of, required, repeated}
use Rattle.structure.specs.Means.{NextIn, StartDue, EndDue}
use Rattle.structure.proofs.Laws.{next-end, next_past, next_row, next-stop, next-on, ends-end, ends-past, ends-stop, ends_on}

-- k rows are left at most: the inductions go by it
module _ (t : List ℕ) (r p x : ℕ) where
  -- row j need not come and bears another name, if it stands in p
  abbrev Skipped : ℕ → Type 0
  Skipped j = parent_of (get_or t j 0) ≡ p → (name_of (get_or t j 0) ≡ x → ⊥) × (required (get_or t j 0) ≡ false)

  abbrev Passed : ℕ → Type 0
  Passed i = (j : ℕ) → r < j → j < i → Skipped j

  passed_on : (i : ℕ) → Passed i → Skipped i → Passed (i + 1)
  passed_on i a b j h l =
      ⊎_elim
      (λ y. a j h y.0)
      (λ y. let e : j ≡ i = omega arith in rw e b)
      (ltb-cases j i)

  next-means : (k i q : ℕ) → length t ≤ i + k → r < i → Passed i → next_in (drop i t) i p x ≡ Some q → NextIn t r p x q
  next-means zero i q b l a e = let z : None ≡ Some q = next-end t i p x e (omega arith) in absurd (zero-not-one (cc))
  next-means (suc k) i q b l a e =
      ⊎_elim
      (λ h.
      ⊎_elim
      (λ s.
      ⊎_elim
      (λ n.
      let z : Some i ≡ Some q = next_row t i p x e h.0 refl s.0 refl n.0 in
      let w : q ≡ i = cc in
      rw w (record { after = l; within = h.0; stands = s.0; named = n.0; between = a }))
      (λ n.
      ⊎_elim
      (λ f. let z : None ≡ Some q = next-stop t i p x e h.0 refl s.0 refl n.0 refl f in absurd (zero-not-one (cc)))
      (λ f. next-means k (i + 1) q (omega arith) (omega arith) (passed_on i a (λ _. (n.0, f))) (next-on t i p x e h.0 refl s.0 refl n.0 refl f))
      (bool_cases (required (get_or t i 0))))
      (eqb-cases (name_of (get_or t i 0)) x))
      (λ s. next-means k (i + 1) q (omega arith) (omega arith) (passed_on i a (λ o. absurd (s.0 o))) (next_past t i p x e h.0 refl s.0))
      (eqb-cases (parent_of (get_or t i 0)) p))
      (λ h. let z : None ≡ Some q = next-end t i p x e h.0 in absurd (zero-not-one (cc)))
      (ltb-cases i (length t))

  next-made : (k i q : ℕ) → q ≡ i + k → r < i → NextIn t r p x q → next_in (drop i t) i p x ≡ Some q
  next-made zero i q b l d =
      let e : i ≡ q = omega arith in
      rw e (sym (next_row t q p x refl d.within refl d.stands refl d.named))
  next-made (suc k) i q b l d =
      let h : i < length t = omega (arith, d.within) in
      let ih = next-made k (i + 1) q (omega arith) (omega arith) d in
      ⊎_elim
      (λ s.
      let o = d.between i l (omega arith) s.0 in
      sym (next-on t i p x refl h refl s.0 refl o.0 refl o.1) ∙ ih)
      (λ s. sym (next_past t i p x refl h refl s.0) ∙ ih)
      (eqb-cases (parent_of (get_or t i 0)) p)

module _ (t : List ℕ) (p : ℕ) where
  -- from row i on, none that stands in p has to come
  abbrev Complete : ℕ → Type 0
  Complete i = (j : ℕ) → i ≤ j → j < length t → parent_of (get_or t j 0) ≡ p → required (get_or t j 0) ≡ false

  complete-at : (i : ℕ) → i < length t → ends_in (drop i t) p ≡ true
      → (parent_of (get_or t i 0) ≡ p → required (get_or t i 0) ≡ false) × (ends_in (drop (i + 1) t) p ≡ true)
  complete-at i h e =
      ⊎_elim
      (λ s.
      ⊎_elim
      (λ f. let z : false ≡ true = ends-stop t i p e h refl s.0 refl f in absurd (zero-not-one (cc)))
      (λ f. ((λ _. f), ends_on t i p e h refl s.0 refl f))
      (bool_cases (required (get_or t i 0))))
      (λ s. ((λ o. absurd (s.0 o)), ends-past t i p e h refl s.0))
      (eqb-cases (parent_of (get_or t i 0)) p)

  ends-mean : (k i : ℕ) → length t ≤ i + k → ends_in (drop i t) p ≡ true → Complete i
  ends-mean zero i b e j l h o = absurd (omega arith)
  ends-mean (suc k) i b e j l h o =
      let here = complete-at i (omega arith) e in
      ⊎_elim
      (λ y. rw y.0 (here.0 (rw y.0 at o)))
      (λ y. ends-mean k (i + 1) (omega arith) here.1 j (omega (arith, y.0)) h o)
      (eqb-cases j i)

  ends-made : (k i : ℕ) → length t ≤ i + k → Complete i → ends_in (drop i t) p ≡ true
  ends-made zero i b a = sym (ends-end t i p refl (omega arith))
  ends-made (suc k) i b a =
      ⊎_elim
      (λ h.
      let ih = ends-made k (i + 1) (omega arith) (λ j l. a j (omega arith)) in
      ⊎_elim
      (λ s. sym (ends_on t i p refl h.0 refl s.0 refl (a i (omega arith) h.0 s.0)) ∙ ih)
      (λ s. sym (ends-past t i p refl h.0 refl s.0) ∙ ih)
      (eqb-cases (parent_of (get_or t i 0)) p))
      (λ h. sym (ends-end t i p refl h.0))
      (ltb-cases i (length t))

module _ (t : List ℕ) (r x q : ℕ) where
  -- what is found is due
  pub start-means : (o : Bool) → start_of t r o x ≡ Some q → StartDue t r o x q
  unfolding start_of
  start-means true e =
      ⊎_elim
      (λ h. (h.0, next-means t r r x (length t) (r + 1) q (omega arith) (omega arith) (λ j a b. absurd (omega arith)) (rw h.1 at e)))
      (λ h. let z : None ≡ Some q = rw h.1 at e in absurd (zero-not-one (cc)))
      (ltb-cases r (length t))
  start-means false e =
      let later = next-means t r (parent_of (get_or t r 0)) x (length t) (r + 1) q (omega arith) (omega arith) (λ j a b. absurd (omega arith)) in
      ⊎_elim
      (λ h. (
        h.0,
        ⊎_elim
            (λ a.
            ⊎_elim
            (λ n.
            let z : Some r ≡ Some q = rw (h.1, a, n.1) at e in
            let w : q ≡ r = cc in
            inl (record { itself = w; repeats = a; named = n.0 }))
            (λ n. inr ((λ g. n.0 g.named), later (rw (h.1, a, n.1) at e)))
            (eqb-cases (name_of (get_or t r 0)) x))
            (λ a. inr ((λ g. let z : true ≡ false = sym g.repeats ∙ a in absurd (zero-not-one (cc))), later (rw (h.1, a) at e)))
            (bool_cases (repeated (get_or t r 0))),
      ))
      (λ h. let z : None ≡ Some q = rw h.1 at e in absurd (zero-not-one (cc)))
      (ltb-cases r (length t))

  -- and what is due is found
  pub start-made : (o : Bool) → StartDue t r o x q → start_of t r o x ≡ Some q
  unfolding start_of
  start-made true d = rw (lt-ltb _ _ d.0) (next-made t r r x (q - (r + 1)) (r + 1) q (omega (arith, d.1.after)) (omega arith) d.1)
  start-made false d =
      ⊎_elim
      (λ g. rw (lt-ltb _ _ d.0, g.repeats, eq-eqb _ _ g.named) (ap Some (sym g.itself)))
      (λ g.
      let n = next-made t r (parent_of (get_or t r 0)) x (q - (r + 1)) (r + 1) q (omega (arith, g.1.after)) (omega arith) g.1 in
      ⊎_elim
      (λ a. rw (lt-ltb _ _ d.0, a, ne_eqb (name_of (get_or t r 0)) x (λ b. g.0 (record { itself = refl; repeats = a; named = b }))) n)
      (λ (a : repeated (get_or t r 0) ≡ false). rw (lt-ltb _ _ d.0, a) n)
      (bool_cases (repeated (get_or t r 0))))
      d.1

  at-means : (o : Bool) (p : ℕ) → r < length t → p ≡ cond o r (parent_of (get_or t r 0)) → end_at t r p x ≡ Some q → EndDue t r o x q
  unfolding end_at
  at-means o p l m e =
      ⊎_elim
      (λ h.
      ⊎_elim
      (λ n.
      ⊎_elim
      (λ f.
      let z : Some p ≡ Some q = rw (h.1, n.1, f) at e in
      let w : q ≡ p = cc in
      rw w (record {
        inside = l;
        innermost = m;
        within = h.0;
        named = n.0;
        complete = λ j a. ends-mean t p (length t) (r + 1) (omega arith) f j (omega arith);
      }))
      (λ f. let z : None ≡ Some q = rw (h.1, n.1, f) at e in absurd (zero-not-one (cc)))
      (bool_cases (ends_in (drop (r + 1) t) p)))
      (λ n. let z : None ≡ Some q = rw (h.1, n.1) at e in absurd (zero-not-one (cc)))
      (eqb-cases (name_of (get_or t p 0)) x))
      (λ h. let z : None ≡ Some q = rw h.1 at e in absurd (zero-not-one (cc)))
      (ltb-cases p (length t))

  at-made : (o : Bool) → EndDue t r o x q → end_at t r q x ≡ Some q
  unfolding end_at
  at-made o d =
      rw (lt-ltb _ _ d.within, eq-eqb _ _ d.named, ends-made t q (length t) (r + 1) (omega arith) (λ j a. d.complete j (omega arith)))

  pub end-means : (o : Bool) → end_of t r o x ≡ Some q → EndDue t r o x q
  unfolding end_of
  end-means true e =
      ⊎_elim
      (λ h. at-means true r h.0 refl (rw h.1 at e))
      (λ h. let z : None ≡ Some q = rw h.1 at e in absurd (zero-not-one (cc)))
      (ltb-cases r (length t))
  end-means false e =
      ⊎_elim
      (λ h. at-means false (parent_of (get_or t r 0)) h.0 refl (rw h.1 at e))
      (λ h. let z : None ≡ Some q = rw h.1 at e in absurd (zero-not-one (cc)))
      (ltb-cases r (length t))

  pub end-made : (o : Bool) → EndDue t r o x q → end_of t r o x ≡ Some q
  unfolding end_of
  end-made true d = rw (lt-ltb _ _ d.inside) (ap (λ (p : ℕ). end_at t r p x) (sym d.innermost) ∙ at-made true d)
  end-made false d = rw (lt-ltb _ _ d.inside) (ap (λ (p : ℕ). end_at t r p x) (sym d.innermost) ∙ at-made false d)
