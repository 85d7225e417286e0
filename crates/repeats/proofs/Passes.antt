-- The passes over a tag: the names seen so far are different ones, and where they are as many as the attributes none is there twice.
-- Assumes nothing.
use Prim.Native.Nat.{ℕ, ◌+◌, ◌≤◌, ◌<◌}
use mathlib.Core.Path.{◌≡◌, sym, ◌∙◌}
use mathlib.Core.List.{List}
use mathlib.Core.Bool.{true, false}
use native.Mathlib.Omega.{arith}
use lib.ListN.{length, get_or}
use Rattle.tags.specs.Tail.{Ends, closed, torn, ends, named, twice_in}
use Rattle.repeats.specs.Order.{name_at, up_to}
use Rattle.repeats.specs.Bearers.{attributes_of, bears, bears_at}
use Rattle.repeats.specs.Cells.{Cells, Fallen}
use Rattle.repeats.proofs.Bearing.{twice-in}
use Rattle.repeats.proofs.Pigeonhole.{up-all, up-most}

-- a tag that has attributes is not torn
bears-named : (e : Ends) → 0 < length (attributes_of e) → (x : List ℕ) → bears x e ≡ true → named x (attributes_of e) ≡ true
unfolding attributes_of bears
bears-named (closed more empty m) o x b = b
bears-named torn o x b = absurd (omega arith)

-- the names of `seen` attributes are different, and none comes after that at `last`
pub record Passed (s : List ℕ) (from last seen : ℕ) : Type 0 where
  pub names : seen ≤ up_to (name_at s last) (attributes_of (ends s from))

pub passed_start : (s : List ℕ) (from last : ℕ) → Passed s from last 0
passed_start s from last = record { names = omega arith }

module _ {s : List ℕ} {from last seen : ℕ} (w : Passed s from last seen) {n : ℕ} (all : n ≡ length (attributes_of (ends s from))) where
  pub passed-all : n ≤ seen → false ≡ twice_in (ends s from)
  passed-all h = up-all (name_at s last) (attributes_of (ends s from)) (omega (arith, w.names)) ∙ sym (twice-in (ends s from))

  -- one pass more
  module _ (some : 0 < n) {k : ℕ} {t : List ℕ} (c : Cells (bears_at s from) k t) (f : Fallen s last k t) where
    further : seen + k ≤ up_to (name_at s (get_or t 0 0)) (attributes_of (ends s from))
    unfolding bears_at
    further =
        let o : 0 < length (attributes_of (ends s from)) = omega arith in
        omega (
          arith,
          w.names,
          f (attributes_of (ends s from)) (record { each = λ i l. bears-named (ends s from) o (name_at s (get_or t i 0)) (c.each i l) }),
        )

    pub passed-more : Passed s from (get_or t 0 0) (seen + k)
    passed-more = record { names = further }

    pub passed-most : seen + k ≤ n
    passed-most = omega (arith, further, up-most (name_at s (get_or t 0 0)) (attributes_of (ends s from)))
