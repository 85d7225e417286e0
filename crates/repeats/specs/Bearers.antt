-- The attributes of a tag, counted.
use Rattle.std.specs.Prelude.{ℕ, suc, List, [], ◌∷◌, Bool, true, cond}
use Rattle.slices.specs.Same.{same}
use Rattle.tags.specs.Tail.{Attr, Ends, closed, torn, named, ends}
use Rattle.repeats.specs.Order.{name_at}

-- the attributes of a tag; a torn one has none
unfoldable pub attributes_of : Ends → List Attr
attributes_of (closed more empty n) = more
attributes_of torn = []

-- how many attributes bear the name x
unfoldable pub bearers : List ℕ → List Attr → ℕ
bearers x [] = 0
bearers x (a ∷ more) =
    let others = bearers x more in
    cond (same x a.name) (suc others) others

-- the tag has an attribute of this name; a torn tag passes: `collect` reads up to the tear, and its caller knows that the tag is not torn
unfoldable pub bears : List ℕ → Ends → Bool
bears x (closed more empty n) = named x more
bears x torn = true

-- the name at the place p is one of the tag's
unfoldable pub bears_at : List ℕ → ℕ → ℕ → Bool
bears_at s from p = bears (name_at s p) (ends s from)
