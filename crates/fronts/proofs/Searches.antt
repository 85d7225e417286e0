-- A search and a run that end within the bytes that two lists share: they end at the same place. Assumes nothing.
use Prim.Native.Nat.{ℕ, suc, pred, ◌+◌, ◌≤◌, ◌<◌}
use mathlib.Core.Path.{◌≡◌, refl, sym, ap, ◌∙◌}
use mathlib.Core.List.{List, [], ◌∷◌}
use mathlib.Core.Bool.{Bool, true, false, cond}
use mathlib.Core.Logic.{⊎_elim}
use native.Mathlib.Omega.{arith}
use native.Mathlib.Numerals.{add-one}
use lib.Dec.{eqb}
use lib.ListN.{length, drop}
use borrow.Author.Tests.{eq-eqb}
use Rattle.lists.proofs.Cases.{bool_cases, eqb-cases, ltb-cases}
use Rattle.slices.specs.Bytes.{byte}
use Rattle.slices.specs.Run.{run}
use Rattle.slices.specs.Walk.{walk}
use Rattle.slices.specs.Same.{begins, seek, here, first_at}
use Rattle.slices.specs.Text.{text}
use Rattle.slices.proofs.Firsts.{first-nil, first_by}
use Rattle.slices.proofs.Near.{Front, run-near, take-front}
use Rattle.fronts.specs.Front.{TextEnds}

-- ---- a text that is found

-- a search that starts to count one higher
later : (t s : List ℕ) (at : ℕ) → walk (begins t) seek here (suc at) 0 s ≡ suc (walk (begins t) seek here at 0 s)
unfolding walk seek here
later t [] at = refl
later t (b ∷ s) at = by (begins t (b ∷ s)) refl (later t s)
  where
    by : (x : Bool) → begins t (b ∷ s) ≡ x → ((at : ℕ) → walk (begins t) seek here (suc at) 0 s ≡ suc (walk (begins t) seek here at 0 s))
        → walk (begins t) seek here (suc at) 0 (b ∷ s) ≡ suc (walk (begins t) seek here at 0 (b ∷ s))
    by true q ih = rw (walk, q)
    by false q ih = rw (walk, q, add-one at, add-one (suc at)) (ih (suc at))

first-cons : (t : List ℕ) (c : ℕ) (s : List ℕ) (x : Bool) → begins t (c ∷ s) ≡ x → first_at t (c ∷ s) ≡ cond x 0 (suc (first_at t s))
unfolding first_at walk seek here
first-cons t c s true q = rw (walk, q)
first-cons t c s false q = rw (walk, q) (later t s 0)

pub first-front : (t : List ℕ) → 0 < length t → (x y : List ℕ) (k : ℕ) → first_at t x + length t ≤ k → k ≤ length x → k ≤ length y → Front x y k → first_at t y ≡ first_at t x
unfolding byte begins
first-front t some [] y k h lx ly f = absurd (omega arith)
first-front t some (c ∷ x) [] k h lx ly f = absurd (omega arith)
first-front t some (c ∷ x) (d ∷ y) k h lx ly f =
    let b : begins t (d ∷ y) ≡ begins t (c ∷ x) = rw (take-front (c ∷ x) (d ∷ y) (length t) (omega arith) (omega arith) (λ i g. f i (omega arith))) in
    ⊎_elim
    (λ z. first-cons t d y true (b ∙ z) ∙ sym (first-cons t c x true z))
    (λ z.
    let e = first-cons t c x false z in
    first-cons t d y false (b ∙ z) ∙ ap suc (first-front t some x y (pred k) (omega arith) (omega arith) (omega arith) (λ i g. f (suc i) (omega arith))) ∙ sym e)
    (bool_cases (begins t (c ∷ x)))

-- ---- the first `<`

abbrev pub upto : List ℕ → ℕ
upto s = first_at (text "<") s

pub upto-within : (s : List ℕ) → upto s ≤ length s
upto-within [] = rw (first-nil 0x3C) (omega arith)
upto-within (c ∷ s) =
    let m = upto-within s in
    ⊎_elim (λ e. rw (first_by 0x3C c s e.1) (omega arith)) (λ e. rw (first_by 0x3C c s e.1) (omega arith)) (eqb-cases 0x3C c)

-- a text ends there
pub upto-ends : (s : List ℕ) → TextEnds (drop (upto s) s)
unfolding TextEnds
upto-ends [] = rw (first-nil 0x3C) tt
upto-ends (c ∷ s) =
    ⊎_elim (λ e. rw (first_by 0x3C c s e.1) (sym e.0)) (λ e. rw (first_by 0x3C c s e.1) (upto-ends s)) (eqb-cases 0x3C c)

upto-none : (s : List ℕ) → TextEnds s → upto s ≡ 0
unfolding TextEnds
upto-none [] h = first-nil 0x3C
upto-none (c ∷ s) h = first_by 0x3C c s (eq-eqb 0x3C c (sym h))

pub upto-front : (x y : List ℕ) → upto x ≤ length y → Front x y (upto x) → TextEnds (drop (upto x) y) → upto y ≡ upto x
unfolding byte
upto-front [] y l f h = upto-none y (rw (first-nil 0x3C) at h) ∙ sym (first-nil 0x3C)
upto-front (c ∷ x) y l f h =
    ⊎_elim
    (λ (e : (0x3C ≡ c) × (eqb 0x3C c ≡ true)). let z = first_by 0x3C c x e.1 in upto-none y (rw z at h) ∙ sym z)
    (λ (e : (0x3C ≡ c → ⊥) × (eqb 0x3C c ≡ false)).
    let z = first_by 0x3C c x e.1 in by y e.1 (omega arith) (λ i g. f i (omega arith)) (rw z at h) (upto-front x) ∙ sym z)
    (eqb-cases 0x3C c)
  where
    by : (y : List ℕ) → eqb 0x3C c ≡ false → suc (upto x) ≤ length y → Front (c ∷ x) y (suc (upto x)) → TextEnds (drop (suc (upto x)) y)
        → ((y : List ℕ) → upto x ≤ length y → Front x y (upto x) → TextEnds (drop (upto x) y) → upto y ≡ upto x) → upto y ≡ suc (upto x)
    by [] e l f h ih = absurd (omega arith)
    by (d ∷ y) e l f h ih =
        let q : c ≡ d = f 0 (omega arith) in
        first_by 0x3C d y (ap (eqb 0x3C) (sym q) ∙ e) ∙ ap suc (ih y (omega arith) (λ i g. f (suc i) (omega arith)) h)

-- ---- a run that does not pass the bytes that are shared, nor does it in the other list

pub run-front : (p : ℕ → Bool) → p 0 ≡ false → (x y : List ℕ) (k : ℕ) → run p x ≤ k → run p y ≤ k → Front x y k → run p y ≡ run p x
run-front p z x y k lx ly f =
    ⊎_elim
    (λ a. run-near p z x y (λ i g. f i (omega (arith, a.0))))
    (λ a.
    ⊎_elim
    (λ b. sym (run-near p z y x (λ i g. sym (f i (omega (arith, b.0))))))
    (λ b. omega (arith, a.0, b.0))
    (ltb-cases (run p y) k))
    (ltb-cases (run p x) k)
