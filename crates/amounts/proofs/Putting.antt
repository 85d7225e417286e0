-- What the writing functions leave in a buffer. Assumes nothing.
use Prim.Native.Nat.{ℕ, ◌+◌}
use mathlib.Core.Path.{◌≡◌, refl, sym, ap, ◌∙◌}
use mathlib.Core.Bool.{true}
use mathlib.Core.List.{List, [], ◌∷◌, ◌++◌}
use native.Mathlib.Nat.{zero-add}
use native.Mathlib.Numerals.{add-one}
use native.Mathlib.Omega.{arith}
use lib.IntN.{ℤ, pos, negsuc, nat_abs}
use lib.Signed.{le_z}
use lib.ListN.{length, set, length-append}
use lib.Seq.{sets}
use Rattle.lists.proofs.Cases.{never}
use Rattle.lists.proofs.Stores.{sets_more}
use Rattle.amounts.specs.Texts.{unsigned_text, amount_text}

-- the text w stands in l, which was b, from `at` on, and k is the place after it
pub record Put (b : List ℕ) (at : ℕ) (w : List ℕ) (k : ℕ) (l : List ℕ) : Type 0 where
  pub end : k ≡ at + length w
  pub buffer : l ≡ sets b at w

module _ (b : List ℕ) (at : ℕ) where
  pub taken : (w l : List ℕ) (k : ℕ) → (k ≡ at + length w) × (l ≡ sets b at w) → Put b at w k l
  taken w l k p = record { end = p.0; buffer = p.1 }

  -- a byte
  pub byte_put : (c x k : ℕ) (l : List ℕ) → k ≡ at + 1 → x ≡ c → l ≡ set b at x → Put b at (c ∷ []) k l
  byte_put c x k l n e q = record { end = n; buffer = q ∙ ap (set b at) e }

-- w by another name
pub told : {b w v l : List ℕ} {at k : ℕ} → w ≡ v → Put b at w k l → (k ≡ at + length v) × (l ≡ sets b at v)
told {b} {at} e p = (p.end ∙ ap (λ (t : List ℕ). at + length t) e, p.buffer ∙ ap (sets b at) e)

-- a text after another
pub more : {b w m v l : List ℕ} {at k j : ℕ} → Put b at w k m → Put m k v j l → Put b at (w ++ v) j l
more {b} {w} {m} {v} {l} {at} {k} {j} p q =
    record {
      end = omega (arith, p.end, q.end, length-append w v);
      buffer = q.buffer ∙ ap (λ (i : ℕ). sets m i v) p.end ∙ ap (λ (t : List ℕ). sets t (at + length w) v) p.buffer ∙ sym (sets_more w b at v);
    }

-- nothing
pub nothing : {w : List ℕ} (b : List ℕ) (at : ℕ) → w ≡ [] → (at ≡ at + length w) × (b ≡ sets b at w)
nothing b at e = rw e (omega arith, refl)

-- from the first byte on
pub told-first : {b w v l : List ℕ} {k : ℕ} → w ≡ v → Put b 0 w k l → (k ≡ length v) × (l ≡ sets b 0 v)
told-first {v} e p = let t = told e p in (t.0 ∙ zero-add (length v), t.1)

-- the sign
pub from_zero_up : (x : ℤ) → le_z (pos 0) x ≡ true → unsigned_text (nat_abs x) ≡ amount_text x
unfolding amount_text
from_zero_up (pos n) e = refl
from_zero_up (negsuc n) e = never e

pub below-zero-minus : {x : ℤ} (n : ℕ) → x ≡ negsuc n → (0x2D ∷ []) ++ unsigned_text (n + 1) ≡ amount_text x
unfolding amount_text
below-zero-minus n e = rw (e, add-one)
