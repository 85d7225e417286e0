-- Values of which the item reader does not see that the one stands for the other.
use Rattle.std.specs.Prelude.{ℕ, ◌≡◌, List, ◌∷◌, ◌++◌, true, ◌⊎◌, length, Some}
use Rattle.attributes.specs.Attribute.{quote, value}

-- R joins a value, the bytes between the quotes, to one of as many bytes that is put for it: where a is a whole value between quotes q, so is b
pub record Unseen (R : List ℕ → List ℕ → Type 0) : Type 0 where
  pub whole : {a b : List ℕ} → R a b → (q : ℕ) (rest : List ℕ) → quote q ≡ true → value q (a ++ q ∷ rest) ≡ Some (length a)
      → value q (b ++ q ∷ rest) ≡ Some (length b)

-- the same value, or one that R joins to it
abbrev pub Or : (List ℕ → List ℕ → Type 0) → List ℕ → List ℕ → Type 0
Or R a b = (a ≡ b) ⊎ R a b
