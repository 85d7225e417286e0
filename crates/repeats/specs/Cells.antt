-- What is known of the first cells of a table of places.
use Rattle.std.specs.Prelude.{ℕ, ◌+◌, ◌≤◌, ◌<◌, ◌≡◌, List, Bool, true, get_or}
use Rattle.tags.specs.Tail.{Attr, named}
use Rattle.repeats.specs.Order.{name_at, up_to}

-- each of the first n cells passes the test
pub record Cells (test : ℕ → Bool) (n : ℕ) (t : List ℕ) : Type 0 where
  pub each : (i : ℕ) → i < n → test (get_or t i 0) ≡ true

-- whatever each of the first n cells of t passes, each of the first n of u passes: so these hold nothing that those do not
abbrev pub Kept : ℕ → List ℕ → List ℕ → Type 0
Kept n t u = (test : ℕ → Bool) → Cells test n t → Cells test n u

-- `Kept`, for each n that is above i and above j; that the cells i and j are exchanged is not said, and not needed
abbrev pub KeptPast : ℕ → ℕ → List ℕ → List ℕ → Type 0
KeptPast i j t u = (n : ℕ) → i < n → j < n → Kept n t u

-- whatever p passes, and each of the first n cells of t, each of the first m of u passes; that p is in one of them is not said, and not needed
abbrev pub KeptOr : ℕ → ℕ → ℕ → List ℕ → List ℕ → Type 0
KeptOr n m p t u = (test : ℕ → Bool) → Cells test n t → test p ≡ true → Cells test m u

-- where the names at the first n cells are names of attributes: at least n different names lie, in order, above that at `last` and not above that
-- at the first cell
abbrev pub Fallen : List ℕ → ℕ → ℕ → List ℕ → Type 0
Fallen s last n t =
    (more : List Attr) → Cells (λ p. named (name_at s p) more) n t
    → up_to (name_at s last) more + n ≤ up_to (name_at s (get_or t 0 0)) more
