-- The contract of `lumintayag_readable_len` leaves one possible answer. Assumes nothing.
use Prim.Native.Nat.{ℕ}
use mathlib.Core.Path.{◌≡◌}
use mathlib.Core.List.{List}
use Rattle.lists.proofs.Unique.{one}
use Rattle.readable.specs.Readable.{readable}

pub lumintayag-readable-len-one : (doc : List ℕ) {r r' : ℕ} → r ≡ readable doc → r' ≡ readable doc → r ≡ r'
lumintayag-readable-len-one doc = one
