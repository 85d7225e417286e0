-- The loop that copies a text.
-- Assumes nothing.
use mathlib.Core.Path.{◌≡◌}
use mathlib.Core.List.{List, []}
use Prim.Native.Nat.{ℕ, ◌+◌, ◌≤◌, ◌<◌, min}
use native.Mathlib.Numerals.{add-one}
use native.Mathlib.Omega.{arith}
use lib.ListN.{length, drop, set, get_or, drop_of_length-le}
use lib.Seq.{drop-cons}
use Rattle.lists.proofs.Stores.{Putting, put-start, put_next}

-- i bytes are copied
pub record Copied (s out₀ out : List ℕ) (n i : ℕ) : Type 0 where
  pub most : i ≤ length s
  pub put : Putting s out₀ out n (drop i s)

pub copy_start : (s out₀ : List ℕ) → Copied s out₀ out₀ 0 0
copy_start s out₀ = record { most = omega arith; put = put-start s out₀ }

module _ (s out₀ out : List ℕ) (n i : ℕ) (r : Copied s out₀ out n i) where
  pub copy-next : i < length s → (m : ℕ) (l : List ℕ) → m ≡ min (n + 1) (length out) → l ≡ set out n (get_or s i 0) → Copied s out₀ l m (i + 1)
  copy-next h m l em el =
      record { most = omega arith; put = rw add-one (put_next (rw (drop-cons s i 0 h) at r.put) em el) }

  pub copy-end : length s ≤ i → Putting s out₀ out n []
  copy-end h = rw (drop_of_length-le s h) at r.put
