-- The attribute `v` in its shortest form as the first of a tag: m is one more than the length of its value, and 0 where it is not there.
use Rattle.std.specs.Prelude.{ℕ, ◌+◌, ◌-◌, cond, eqb}
use Rattle.slices.specs.Text.{text}
use Rattle.tags.specs.Known.{none_known, with_attribute}
use Rattle.tags.specs.declared.Known.{Known}

-- how many bytes it takes
unfoldable pub v_use : ℕ → ℕ
v_use m = cond (eqb m 0) 0 (m + 4)

-- what is known after it
unfoldable pub first_known : ℕ → ℕ → Known
first_known from m = cond (eqb m 0) none_known (with_attribute none_known (text "v") (record { start = from + 4; len = m - 1 }))
