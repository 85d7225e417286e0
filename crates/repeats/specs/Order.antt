-- Names in the order of their bytes.
use Rattle.std.specs.Prelude.{ℕ, suc, List, [], ◌∷◌, Bool, true, false, cond, take, drop, ltb}
use Rattle.slices.specs.Run.{run}
use Rattle.attributes.specs.Names.{name_byte}
use Rattle.tags.specs.Tail.{Attr, named}

-- the name that starts at the place p; past the end it is empty, which comes before every other
unfoldable pub name_at : List ℕ → ℕ → List ℕ
name_at s p = take (run name_byte (drop p s)) (drop p s)

-- x comes before y: at the first place where they differ it has the smaller byte, or ends there
unfoldable pub less : List ℕ → List ℕ → Bool
less x [] = false
less [] (b ∷ y) = true
less (a ∷ x) (b ∷ y) = cond (ltb a b) true (cond (ltb b a) false (less x y))

-- how many different names there are that x does not come before
unfoldable pub up_to : List ℕ → List Attr → ℕ
up_to x [] = 0
up_to x (a ∷ more) =
    let others = up_to x more in
    cond (named a.name more) others (cond (less x a.name) others (suc others))
