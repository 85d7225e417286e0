-- Stores into a list.
--     sets-out    stores past the end
--     sets_more   stores after other stores
--     sets-cons   stores behind the first cell
--     Putting     a loop that puts w into a buffer cell by cell, as far as it has room
-- Assumes nothing.
use mathlib.Core.Path.{◌≡◌, refl, sym, ap, ◌∙◌}
use mathlib.Core.List.{List, [], ◌∷◌, ◌++◌}
use mathlib.Core.Logic.{⊎_elim}
use Prim.Native.Nat.{ℕ, suc, ◌+◌, ◌≤◌, min}
use native.Mathlib.Omega.{arith}
use lib.ListN.{length, set, length-set}
use lib.Seq.{sets, set_out}
use Rattle.lists.proofs.Cases.{ltb-cases}

module _ {A : Type 0} where
  -- stores past the end
  pub sets-out : (vs l : List A) (i : ℕ) → length l ≤ i → sets l i vs ≡ l
  sets-out [] l i h = refl
  sets-out (a ∷ vs) l i h = rw (set_out l i a h) (sets-out vs l (suc i) (omega arith))

  pub sets_more : (w l : List A) (i : ℕ) (v : List A) → sets l i (w ++ v) ≡ sets (sets l i w) (i + length w) v
  sets_more [] l i v = let e : i ≡ i + 0 = omega arith in ap (λ (k : ℕ). sets l k v) e
  sets_more (a ∷ w) l i v =
      let e : suc i + length w ≡ i + suc (length w) = omega arith in
      sets_more w (set l i a) (suc i) v ∙ ap (λ (k : ℕ). sets (sets (set l i a) (suc i) w) k v) e

  pub sets-cons : (a : A) (l : List A) (k : ℕ) (vs : List A) → sets (a ∷ l) (suc k) vs ≡ a ∷ sets l k vs
  sets-cons a l k [] = refl
  sets-cons a l k (v ∷ vs) = sets-cons a (set l k v) (suc k) vs

  -- n cells of w are put into the buffer, and `rest` is to come
  pub record Putting (w out₀ out : List A) (n : ℕ) (rest : List A) : Type 0 where
    pub same : length out ≡ length out₀
    pub fit : n ≤ length out₀
    pub count : min (n + length rest) (length out₀) ≡ min (length w) (length out₀)
    pub all : sets out n rest ≡ sets out₀ 0 w

  pub put-start : (w out₀ : List A) → Putting w out₀ out₀ 0 w
  put-start w out₀ = record { same = refl; fit = omega arith; count = omega arith; all = refl }

  -- one cell more; past the end it is dropped
  pub put_next : {w out₀ out rest l : List A} {n m : ℕ} {v : A} → Putting w out₀ out n (v ∷ rest) → m ≡ min (n + 1) (length out) → l ≡ set out n v
      → Putting w out₀ l m rest
  put_next {w} {out₀} {out} {rest} {l} {n} {m} {v} p em el =
      rw el
      (record {
        same = length-set out n v ∙ p.same;
        fit = omega (arith, p.same, p.fit);
        count = omega (arith, p.same, p.fit, p.count);
        all =
            ⊎_elim
            (λ y. let z : m ≡ suc n = omega (arith, y.0) in rw z p.all)
            (λ y.
            let z : length out ≤ m = omega (arith, y.0) in
            let o : set out n v ≡ out = set_out out n v y.0 in
            let b : sets out (suc n) rest ≡ sets out₀ 0 w = rw o at p.all in
            rw o (sets-out rest out m z ∙ sym (sets-out rest out (suc n) (omega (arith, y.0))) ∙ b))
            (ltb-cases n (length out));
      })

  pub put-end : {w out₀ out : List A} {n : ℕ} → Putting w out₀ out n [] → (n ≡ min (length w) (length out₀)) × (out ≡ sets out₀ 0 w) × (n ≤ length out)
  put-end {w} {out₀} {out} {n} p = (omega (arith, p.count, p.fit), p.all, omega (arith, p.fit, p.same))
