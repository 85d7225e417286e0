-- Two lists that begin with the same bytes: what is read of those is the same. Assumes nothing.
use Prim.Native.Nat.{ℕ, zero, suc, pred, ◌+◌, ◌≤◌, ◌<◌}
use mathlib.Core.Path.{◌≡◌, refl, sym, ap, ◌∙◌}
use mathlib.Core.List.{List, [], ◌∷◌}
use mathlib.Core.Bool.{Bool, true, false, cond}
use mathlib.Core.Logic.{⊎_elim}
use native.Mathlib.Omega.{arith}
use lib.ListN.{length, take, drop, length-drop}
use Rattle.lists.proofs.Cases.{bool_cases}
use Rattle.slices.specs.Bytes.{byte}
use Rattle.slices.specs.Part.{part_of}
use Rattle.slices.specs.Run.{run}
use Rattle.slices.specs.Walk.{walk}
use Rattle.slices.specs.Same.{begins, seek, here, first_at}
use Rattle.slices.proofs.Bytes.{byte-drop}
use Rattle.slices.proofs.Sames.{same_self, same-equal}

-- x and y begin with the same n bytes
abbrev pub Front : List ℕ → List ℕ → ℕ → Type 0
Front x y n = (i : ℕ) → i < n → byte x i ≡ byte y i

pub front-drop : (x y : List ℕ) (k n : ℕ) → Front x y (k + n) → Front (drop k x) (drop k y) n
front-drop x y k n h i l = byte-drop x k i ∙ h (k + i) (omega arith) ∙ sym (byte-drop y k i)

pub long-drop : (x y : List ℕ) (k : ℕ) → length x ≡ length y → length (drop k x) ≡ length (drop k y)
long-drop x y k e = length-drop k x ∙ rw e (sym (length-drop k y))

-- a run, with the byte that ends it
pub run-near : (p : ℕ → Bool) → p 0 ≡ false → (x y : List ℕ) → Front x y (run p x + 1) → run p y ≡ run p x
unfolding run byte
run-near p z [] [] h = refl
run-near p z [] (d ∷ y) h = let e : 0 ≡ d = h 0 (omega arith) in rw (← e, z)
run-near p z (c ∷ x) [] h = let e : c ≡ 0 = h 0 (omega arith) in rw (e, z)
run-near p z (c ∷ x) (d ∷ y) h =
    let e : c ≡ d = h 0 (omega arith) in
    ⊎_elim
    (λ (t : p c ≡ true). rw (← e, t) (ap suc (run-near p z x y (λ i l. h (suc i) (rw t (omega arith))))))
    (λ (t : p c ≡ false). rw (← e, t))
    (bool_cases (p c))

-- parts whose bytes are equal
pub part-near : (x y : List ℕ) (at n : ℕ) → length x ≡ length y → ((i : ℕ) → at ≤ i → i < at + n → byte x i ≡ byte y i) → part_of x at n ≡ part_of y at n
unfolding byte part_of
part-near [] [] zero n e h = refl
part-near [] [] (suc at) n e h = refl
part-near [] (d ∷ y) at n e h = absurd (omega arith)
part-near (c ∷ x) [] at n e h = absurd (omega arith)
part-near (c ∷ x) (d ∷ y) zero zero e h = refl
part-near (c ∷ x) (d ∷ y) zero (suc n) e h =
    let first : c ≡ d = h 0 (omega arith) (omega arith) in
    let rest : take n x ≡ take n y = part-near x y zero n (omega arith) (λ i p q. h (suc i) (omega arith) (omega arith)) in
    rw (first, rest)
part-near (c ∷ x) (d ∷ y) (suc at) n e h = part-near x y at n (omega arith) (λ i p q. h (suc i) (omega arith) (omega arith))

pub take-near : (x y : List ℕ) (n : ℕ) → length x ≡ length y → Front x y n → take n y ≡ take n x
unfolding part_of
take-near x y n e h = sym (part-near x y 0 n e (λ i p q. h i (omega arith)))

-- a text found, and what stands before it
module _ (t : List ℕ) where
  abbrev found : ℕ → List ℕ → ℕ
  found at x = walk (begins t) seek here at 0 x

  found-cons : (at c : ℕ) (x : List ℕ) → found at (c ∷ x) ≡ cond (begins t (c ∷ x)) at (found (at + 1) x)
  unfolding walk seek
  found-cons at c x =
      ⊎_elim
      (λ (b : begins t (c ∷ x) ≡ true). rw (walk, b))
      (λ (b : begins t (c ∷ x) ≡ false). rw (walk, b))
      (bool_cases (begins t (c ∷ x)))

  found_from : (at : ℕ) (x : List ℕ) → at ≤ found at x
  unfolding walk here
  found_from at [] = omega arith
  found_from at (c ∷ x) =
      let more = found_from (at + 1) x in
      rw (found-cons at c x) (elim (begins t (c ∷ x)) as (λ (b : Bool). at ≤ cond b at (found (at + 1) x)) [ true ↦ omega arith | false ↦ omega arith ])

  pub begins-near : (x y : List ℕ) → length x ≡ length y → Front x y (length t) → begins t y ≡ begins t x
  unfolding begins
  begins-near x y e h = rw (take-near x y (length t) e h)

  found-near : (at k : ℕ) (x y : List ℕ) → length x ≡ length y → found at x + length t ≤ at + k → Front x y k → found at y ≡ found at x
  unfolding walk here byte
  found-near at k [] [] e l h = refl
  found-near at k [] (d ∷ y) e l h = absurd (omega arith)
  found-near at k (c ∷ x) [] e l h = absurd (omega arith)
  found-near at k (c ∷ x) (d ∷ y) e l h =
      let few = found_from at (c ∷ x) in
      let b = begins-near (c ∷ x) (d ∷ y) e (λ i g. h i (omega arith)) in
      found-cons at d y ∙ rw b
      (⊎_elim
      (λ z. rw z (sym (found-cons at c x ∙ rw z)))
      (λ z.
      let f : found at (c ∷ x) ≡ found (at + 1) x = found-cons at c x ∙ rw z in
      let low = found_from (at + 1) x in
      rw z (found-near (at + 1) (pred k) x y (omega arith) (omega arith) (λ i g. h (suc i) (omega arith)) ∙ sym f))
      (bool_cases (begins t (c ∷ x))))

  pub first-near : (x y : List ℕ) → length x ≡ length y → Front x y (first_at t x + length t) → first_at t y ≡ first_at t x
  unfolding first_at
  first-near x y e h = found-near 0 (first_at t x + length t) x y e (omega arith) h

-- the same of two lists of any length that are both long enough
pub take-front : (x y : List ℕ) (n : ℕ) → n ≤ length x → n ≤ length y → Front x y n → take n x ≡ take n y
unfolding byte
take-front x y zero l m h = refl
take-front [] y (suc n) l m h = absurd (omega arith)
take-front (c ∷ x) [] (suc n) l m h = absurd (omega arith)
take-front (c ∷ x) (d ∷ y) (suc n) l m h =
    let first : c ≡ d = h 0 (omega arith) in
    let rest = take-front x y n (omega arith) (omega arith) (λ i g. h (suc i) (omega arith)) in
    rw (first, rest)

-- a text at the front
pub begins-take : (t s : List ℕ) → begins t s ≡ true → take (length t) s ≡ t
unfolding begins
begins-take t s e = sym (same-equal t (take (length t) s) e)

pub begins-by : (t s : List ℕ) → take (length t) s ≡ t → begins t s ≡ true
unfolding begins
begins-by t s e = rw e (same_self t)
