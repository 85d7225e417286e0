-- A buffer that holds w and then zeros.
-- Assumes nothing.
use mathlib.Core.Path.{◌≡◌, refl, sym, ap, ◌∙◌}
use mathlib.Core.List.{List, ◌++◌, append_assoc}
use Prim.Native.Nat.{ℕ, ◌+◌, ◌-◌, ◌≤◌}
use native.Mathlib.Omega.{arith}
use lib.ListN.{length, take, drop, length-append, length-replicate, replicate-append-replicate}
use lib.Seq.{take_at, drop_at}
use Rattle.lists.specs.Zeros.{zeros, padded}

pub length-padded : (n : ℕ) (w : List ℕ) → length w ≤ n → length (padded n w) ≡ n
length-padded n w h = simp (length-append, length-replicate) (omega arith)

-- zeros, of which the first k are passed over
pub drop-zeros : (k n : ℕ) → k ≤ n → drop k (zeros n) ≡ zeros (n - k)
drop-zeros k n h =
    ap (λ (m : ℕ). drop k (zeros m)) (let e : n ≡ k + (n - k) = omega arith in e)
    ∙ ap (drop k) (sym (replicate-append-replicate k (n - k) 0))
    ∙ drop_at (zeros k) (zeros (n - k)) k (length-replicate k 0)

-- what was written in front of the zeros
pub take-padded : (n : ℕ) (w : List ℕ) → take (length w) (padded n w) ≡ w
take-padded n w = take_at w (zeros (n - length w)) (length w) refl

-- g written after w into a buffer that holds w and then zeros
pub pad-more : (n : ℕ) (w g : List ℕ) → length w + length g ≤ n
    → take (length w) (padded n w) ++ (g ++ drop (length g) (drop (length w) (padded n w))) ≡ padded n (w ++ g)
pad-more n w g h =
    let r : length g ≤ n - length w = omega arith in
    let e : n - length w - length g ≡ n - length (w ++ g) = omega (arith, length-append w g) in
    rw (take-padded n w, drop_at w (zeros (n - length w)) (length w) refl, drop-zeros (length g) (n - length w) r, e)
    (sym (append_assoc w g _))
