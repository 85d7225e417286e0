-- The attribute `v` in its shortest form: one space, no white space around the `=`, double quotes, and a value of common bytes.
use Rattle.std.specs.Prelude.{ℕ, ◌+◌, List, Bool, false, cond, drop, leb, ltb, eqb}
use Rattle.slices.specs.Bytes.{byte}
use Rattle.slices.specs.Run.{run}

-- 28 to 7F but `<`
unfoldable pub common : ℕ → Bool
common b = cond (ltb 0x3C b) (ltb b 0x80) (cond (leb 0x28 b) (ltb b 0x3C) false)

-- ` v="`
unfoldable pub opens_v : List ℕ → Bool
opens_v s = cond (eqb (byte s 3) 0x22) (cond (eqb (byte s 2) 0x3D) (cond (eqb (byte s 1) 0x76) (eqb (byte s 0) 0x20) false) false) false

-- one more than the length of the value, 0 where the form is another
unfoldable pub v_upto : List ℕ → ℕ → ℕ
v_upto s m = cond (eqb (byte s (m + 4)) 0x22) (m + 1) 0

unfoldable pub v_len : List ℕ → ℕ
v_len s = cond (opens_v s) (v_upto s (run common (drop 4 s))) 0
