-- What "due" means, in words, apart from any way to compute it.
use Rattle.std.specs.Prelude.{◌≡◌, Bool, true, false, cond, List, ◌⊎◌, ℕ, ◌<◌, length, get_or}
use Rattle.structure.specs.Rows.{name_of, parent_of, required, repeated}

-- After row r, row q is the next of those that stand in p: it bears the name x, and each row between r and q that stands in p bears another name
-- and need not come.
pub record NextIn (t : List ℕ) (r p x q : ℕ) : Type 0 where
  pub after : r < q
  pub within : q < length t
  pub stands : parent_of (get_or t q 0) ≡ p
  pub named : name_of (get_or t q 0) ≡ x
  pub between : (j : ℕ) → r < j → j < q → parent_of (get_or t j 0) ≡ p → (name_of (get_or t j 0) ≡ x → ⊥) × (required (get_or t j 0) ≡ false)

-- Row r, which is closed, comes again as row q.
pub record Again (t : List ℕ) (r x q : ℕ) : Type 0 where
  pub itself : q ≡ r
  pub repeats : repeated (get_or t r 0) ≡ true
  pub named : name_of (get_or t r 0) ≡ x

-- A start tag x after row r takes row q. Where r is open, q is the next in r. Where it is closed, r comes again; if it cannot, q is the next in the row
-- where r stands.
abbrev pub StartDue : List ℕ → ℕ → Bool → ℕ → ℕ → Type 0
StartDue t r true x q = (r < length t) × NextIn t r r x q
StartDue t r false x q = (r < length t) × (Again t r x q ⊎ ((Again t r x r → ⊥) × NextIn t r (parent_of (get_or t r 0)) x q))

-- An end tag x after row r closes row q: q is the open element, it bears the name x, and no row after r that stands in it has to come.
pub record EndDue (t : List ℕ) (r : ℕ) (o : Bool) (x q : ℕ) : Type 0 where
  pub inside : r < length t
  pub innermost : q ≡ cond o r (parent_of (get_or t r 0))
  pub within : q < length t
  pub named : name_of (get_or t q 0) ≡ x
  pub complete : (j : ℕ) → r < j → j < length t → parent_of (get_or t j 0) ≡ q → required (get_or t j 0) ≡ false
