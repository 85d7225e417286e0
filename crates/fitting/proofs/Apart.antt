-- No identification of a draft is used before exactly where no two of them say the same. Assumes nothing.
use Prim.Native.Nat.{ℕ, zero, suc, ◌+◌, ◌≤◌, ◌<◌}
use mathlib.Core.Path.{◌≡◌, refl, sym, ap, ◌∙◌}
use mathlib.Core.List.{List}
use mathlib.Core.Bool.{Bool, true, false, ◌&&◌, not, and-eq-true_iff}
use mathlib.Core.Logic.{⊎_elim}
use native.Mathlib.Omega.{arith}
use lib.Dec.{eqb}
use Rattle.lists.proofs.Cases.{eqb-cases, past-cond}
use Rattle.slices.specs.Same.{same}
use Rattle.slices.proofs.Sames.{same_self, same-equal, same-comm}
use Rattle.characters.specs.Says.{all_chars, says}
use Rattle.contents.specs.Legal.{is_among}
use Rattle.escapes.specs.Escaped.{escaped}
use Rattle.escapes.specs.Spelled.{spelled, unescaped}
use Rattle.escapes.proofs.Promises.{unescaped-escaped}
use Rattle.drafts.specs.Draft.{Draft}
use Rattle.drafts.specs.Judged.{all_apart}
use Rattle.fitting.specs.Told.{id_of, used_before}
use Rattle.fitting.proofs.Ampersands.{true-false, not-true}
use Rattle.fitting.proofs.Covered.{ids_from}

-- two tests that imply each other are one
pub both_ways : (a b : Bool) → (a ≡ true → b ≡ true) → (b ≡ true → a ≡ true) → a ≡ b
both_ways true b f g = sym (f refl)
both_ways false true f g = g refl
both_ways false false f g = refl

-- two texts are the same exactly where they say the same
same-said : (t u : List ℕ) → all_chars t ≡ true → all_chars u ≡ true → same (says (escaped t)) (says (escaped u)) ≡ same t u
unfolding unescaped
same-said t u l m =
    both_ways (same (says (escaped t)) (says (escaped u))) (same t u)
    (λ e.
    let q : t ≡ u = sym (unescaped-escaped t l) ∙ ap spelled (same-equal (says (escaped t)) (says (escaped u)) e) ∙ unescaped-escaped u m in
    ap (same t) (sym q) ∙ same_self t)
    (λ e. ap (λ (x : List ℕ). same (says (escaped t)) (says (escaped x))) (sym (same-equal t u e)) ∙ same_self (says (escaped t)))

module _ (text pairs : List ℕ) where
  abbrev alike : ℕ → ℕ → Bool
  alike a b = same (id_of text pairs a) (id_of text pairs b)

  used-none : (i n : ℕ) → used_before text pairs i n ≡ false → (j : ℕ) → j < n → alike i j ≡ false
  unfolding used_before
  used-none i zero h j l = absurd (omega arith)
  used-none i (suc n) h j l =
      let t = past-cond (alike i n) (λ z. true-false z) h in
      ⊎_elim
      (λ (y : (j ≡ n) × (eqb j n ≡ true)). ap (alike i) y.0 ∙ t.0)
      (λ (y : (j ≡ n → ⊥) × (eqb j n ≡ false)). let g = y.0 in used-none i n t.1 j (omega (arith, g)))
      (eqb-cases j n)

  none-used : (i n : ℕ) → ((j : ℕ) → j < n → alike i j ≡ false) → used_before text pairs i n ≡ false
  unfolding used_before
  none-used i zero h = refl
  none-used i (suc n) h = rw (h n (omega arith)) (none-used i n (λ j l. h j (omega arith)))

  -- of n series from series i on none has one that is used before
  unfoldable pub fresh_from : ℕ → ℕ → Bool
  fresh_from i zero = true
  fresh_from i (suc n) = not (used_before text pairs i i) && fresh_from (suc i) n

  fresh-told : (i n : ℕ) → fresh_from i n ≡ true → (b : ℕ) → i ≤ b → b < i + n → (a : ℕ) → a < b → alike b a ≡ false
  unfolding fresh_from
  fresh-told i zero h b l m a k = absurd (omega arith)
  fresh-told i (suc n) h b l m a k =
      let t = (and-eq-true_iff (not (used_before text pairs i i)) (fresh_from (suc i) n)).0 h in
      ⊎_elim
      (λ (y : (b ≡ i) × (eqb b i ≡ true)). let e = y.0 in ap (λ (x : ℕ). alike x a) e ∙ used-none i i (not-true (used_before text pairs i i) t.0) a (omega (arith, e, k)))
      (λ (y : (b ≡ i → ⊥) × (eqb b i ≡ false)). fresh-told (suc i) n t.1 b (let g = y.0 in omega (arith, g)) (omega arith) a k)
      (eqb-cases b i)

  told_fresh : (i n : ℕ) → ((b : ℕ) → i ≤ b → b < i + n → (a : ℕ) → a < b → alike b a ≡ false) → fresh_from i n ≡ true
  unfolding fresh_from
  told_fresh i zero h = refl
  told_fresh i (suc n) h =
      rw (none-used i i (h i (omega arith) (omega arith))) (told_fresh (suc i) n (λ b l m a k. h b (omega arith) (omega arith) a k))

module _ (d : Draft) (count : ℕ) (legal : (j : ℕ) → j < count → all_chars (id_of d.text d.pairs j) ≡ true) where
  abbrev id : ℕ → List ℕ
  id j = id_of d.text d.pairs j

  among-told : (a i n : ℕ) → a < count → i + n ≤ count → is_among (says (escaped (id a))) (ids_from d i n) ≡ false → (b : ℕ) → i ≤ b → b < i + n → same (id a) (id b) ≡ false
  unfolding is_among ids_from
  among-told a i zero la ln h b l m = absurd (omega arith)
  among-told a i (suc n) la ln h b l m =
      let t = past-cond (same (says (escaped (id a))) (says (escaped (id i)))) (λ z. true-false z) h in
      ⊎_elim
      (λ (y : (b ≡ i) × (eqb b i ≡ true)). ap (λ (x : ℕ). same (id a) (id x)) y.0 ∙ sym (same-said (id a) (id i) (legal a la) (legal i (omega arith))) ∙ t.0)
      (λ (y : (b ≡ i → ⊥) × (eqb b i ≡ false)). among-told a (suc i) n la (omega arith) t.1 b (let g = y.0 in omega (arith, g)) (omega arith))
      (eqb-cases b i)

  told-among : (a i n : ℕ) → a < count → i + n ≤ count → ((b : ℕ) → i ≤ b → b < i + n → same (id a) (id b) ≡ false) → is_among (says (escaped (id a))) (ids_from d i n) ≡ false
  unfolding is_among ids_from
  told-among a i zero la ln h = refl
  told-among a i (suc n) la ln h =
      let e : same (says (escaped (id a))) (says (escaped (id i))) ≡ false = same-said (id a) (id i) (legal a la) (legal i (omega arith)) ∙ h i (omega arith) (omega arith) in
      rw e (told-among a (suc i) n la (omega arith) (λ b l m. h b (omega arith) (omega arith)))

  apart-told : (i n : ℕ) → i + n ≤ count → all_apart (ids_from d i n) ≡ true → (a : ℕ) → i ≤ a → (b : ℕ) → a < b → b < i + n → same (id a) (id b) ≡ false
  unfolding all_apart ids_from
  apart-told i zero ln h a l b k m = absurd (omega arith)
  apart-told i (suc n) ln h a l b k m =
      let t = (and-eq-true_iff (not (is_among (says (escaped (id i))) (ids_from d (suc i) n))) (all_apart (ids_from d (suc i) n))).0 h in
      ⊎_elim
      (λ (y : (a ≡ i) × (eqb a i ≡ true)).
      let e = y.0 in
      ap (λ (x : ℕ). same (id x) (id b)) e ∙ among-told i (suc i) n (omega arith) (omega arith) (not-true (is_among (says (escaped (id i))) (ids_from d (suc i) n)) t.0) b (omega (arith, e, k)) (omega arith))
      (λ (y : (a ≡ i → ⊥) × (eqb a i ≡ false)). apart-told (suc i) n (omega arith) t.1 a (let g = y.0 in omega (arith, g)) b k (omega arith))
      (eqb-cases a i)

  told-apart : (i n : ℕ) → i + n ≤ count → ((a : ℕ) → i ≤ a → (b : ℕ) → a < b → b < i + n → same (id a) (id b) ≡ false) → all_apart (ids_from d i n) ≡ true
  unfolding all_apart ids_from
  told-apart i zero ln h = refl
  told-apart i (suc n) ln h =
      let e = told-among i (suc i) n (omega arith) (omega arith) (λ b l m. h i (omega arith) b (omega arith) (omega arith)) in
      rw e (told-apart (suc i) n (omega arith) (λ a l b k m. h a (omega arith) b k (omega arith)))

  pub fresh-apart : fresh_from d.text d.pairs 0 count ≡ all_apart (ids_from d 0 count)
  fresh-apart =
      both_ways (fresh_from d.text d.pairs 0 count) (all_apart (ids_from d 0 count))
      (λ e. told-apart 0 count (omega arith) (λ a l b k m. same-comm (id a) (id b) ∙ fresh-told d.text d.pairs 0 count e b (omega arith) m a k))
      (λ e. told_fresh d.text d.pairs 0 count (λ b l m a k. same-comm (id b) (id a) ∙ apart-told 0 count (omega arith) e a (omega arith) b k m))
