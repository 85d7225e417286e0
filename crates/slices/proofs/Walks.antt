-- A loop that walks a slice: its invariant, `Walked`, and how it starts, goes on and ends. Assumes nothing.
use Prim.Native.Nat.{ℕ, zero, suc, ◌+◌, ◌-◌, ◌≤◌, ◌<◌}
use mathlib.Core.Path.{◌≡◌, refl, sym, ap, ◌∙◌}
use mathlib.Core.List.{List, [], ◌∷◌}
use native.Mathlib.Omega.{arith}
use lib.ListN.{length, take, drop, drop_of_length-le, length-drop}
use lib.Seq.{drop-drop}
use Rattle.lists.proofs.Loans.{rest_part}
use Rattle.slices.specs.Walk.{WalkStep, go, stop, walk}

module _ {A S R : Type 0} (look : List ℕ → A) (next : S → A → WalkStep S R) (over : S → R) where
  -- what is left of the walk at i in the state st is the whole walk
  pub record Walked (st₀ : S) (s : List ℕ) (st : S) (i : ℕ) : Type 0 where
    pub left : walk look next over st 0 (drop i s) ≡ walk look next over st₀ 0 s

  skip : (st : S) (k : ℕ) (s : List ℕ) → walk look next over st k s ≡ walk look next over st 0 (drop k s)
  unfolding walk
  skip st zero s = refl
  skip st (suc k) [] = refl
  skip st (suc k) (b ∷ t) = skip st k t

  at-stop : (st : S) (l : List ℕ) (r : R) → 0 < length l → next st (look l) ≡ stop r → r ≡ walk look next over st 0 l
  unfolding walk
  at-stop st [] r p q = absurd (omega arith)
  at-stop st (b ∷ t) r p q = rw (walk, q)

  at-go : (st : S) (l : List ℕ) (n : ℕ) (st' : S) → 0 < length l → next st (look l) ≡ go n st' → 0 < n → walk look next over st' 0 (drop n l) ≡ walk look next over st 0 l
  unfolding walk
  at-go st [] n st' p q m = absurd (omega arith)
  at-go st (b ∷ t) zero st' p q m = absurd (omega arith)
  at-go st (b ∷ t) (suc n) st' p q m = sym (skip st' n t) ∙ rw (walk, q)

  seen : (s : List ℕ) (st : S) (i : ℕ) (x : A) → x ≡ look (take (length s - i) (drop i s)) → next st (look (drop i s)) ≡ next st x
  seen s st i x e = ap (next st) (sym (e ∙ ap look (rest_part i s)))

module _ {A S R : Type 0} {look : List ℕ → A} {next : S → A → WalkStep S R} {over : S → R} {st₀ : S} {s : List ℕ} where
  pub walked_start : Walked look next over st₀ s st₀ 0
  walked_start = record { left = refl }

  pub walked_end : {st : S} {i : ℕ} → Walked look next over st₀ s st i → length s ≤ i → over st ≡ walk look next over st₀ 0 s
  unfolding walk
  walked_end w h = (rw (drop_of_length-le s h)) ∙ w.left

  -- x is what the call of `look` on `&s[i..]` answered
  pub walked_stop : {st : S} {i : ℕ} {x : A} {r : R} → Walked look next over st₀ s st i → i < length s → x ≡ look (take (length s - i) (drop i s)) → next st x ≡ stop r → r ≡ walk look next over st₀ 0 s
  walked_stop {st} {i} {x} {r} w h e q =
      at-stop look next over st (drop i s) r (rw length-drop (omega arith)) (seen look next over s st i x e ∙ q) ∙ w.left

  pub walked-go : {st st' : S} {i n : ℕ} {x : A} → Walked look next over st₀ s st i → i < length s → x ≡ look (take (length s - i) (drop i s)) → next st x ≡ go n st' → 0 < n → Walked look next over st₀ s st' (i + n)
  walked-go {st} {st'} {i} {n} {x} w h e q m =
      record { left = rw (← drop-drop n i s) (at-go look next over st (drop i s) n st' (rw length-drop (omega arith)) (seen look next over s st i x e ∙ q) m ∙ w.left) }
