-- A shortcut of the code. Public contracts do not cite it.
use Rattle.std.specs.Prelude.{ℕ, ◌-◌, List, Bool, false, cond, not, eqb, length}
use Prim.Native.Char.{code}
use Rattle.slices.specs.Bytes.{byte}

-- a byte that neither is a space nor begins or ends a reference
unfoldable pub bare : ℕ → Bool
bare b = cond (eqb b (code " ")) false (cond (eqb b (code "&")) false (not (eqb b (code ";"))))

-- the first byte and the last one are such bytes
unfoldable pub bare_at_ends : List ℕ → Bool
bare_at_ends v = cond (eqb (length v) 0) false (cond (bare (byte v 0)) (bare (byte v (length v - 1))) false)
