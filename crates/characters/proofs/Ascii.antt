-- A byte below 80 is looked at as it stands: it is a character by itself, or none, and no later byte of one. Assumes nothing.
use Prim.Native.Nat.{ℕ, ◌≤◌, ◌<◌}
use mathlib.Core.Path.{◌≡◌, ◌∙◌}
use mathlib.Core.List.{List}
use native.Mathlib.Omega.{arith}
use lib.Dec.{eqb}
use borrow.Author.Tests.{le-leb}
use Rattle.std.specs.Prelude.{Some}
use Rattle.lists.proofs.Cases.{by_cond}
use Rattle.slices.specs.Bytes.{byte}
use Rattle.characters.specs.Utf8.{seq_len, low, control, single, char_at}

pub char-ascii : (s : List ℕ) → byte s 0 < 0x80 → char_at s ≡ single (byte s 0)
unfolding char_at seq_len
char-ascii s h = simp (le-leb (byte s 0) 0x7F (omega arith))

pub char-printed : (s : List ℕ) → 0x20 ≤ byte s 0 → byte s 0 < 0x80 → char_at s ≡ Some (byte s 0, 1)
unfolding single control
char-printed s p h = char-ascii s h ∙ simp (le-leb 0x20 (byte s 0) p)

pub low-ascii : (a : ℕ) → 0x80 ≤ low a
unfolding low
low-ascii a = by_cond (λ (n : ℕ). 0x80 ≤ n) (eqb a 0xE0) (omega arith) (by_cond (λ (n : ℕ). 0x80 ≤ n) (eqb a 0xF0) (omega arith) (omega arith))
