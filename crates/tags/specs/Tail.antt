-- What follows the name in a tag: attributes, and `>` or `/>`.
use Rattle.std.specs.Prelude.{ℕ, zero, suc, pred, ◌+◌, List, [], ◌∷◌, Bool, true, false, cond, drop, Option, Some, None}
use Rattle.slices.specs.Same.{same}
use Rattle.slices.specs.Part.{part_of}
use Rattle.attributes.specs.Attribute.{piece}
use Rattle.tags.specs.Known.{with_attribute}
use Rattle.attributes.specs.declared.Piece.TheVariants.{Attribute, Close, CloseEmpty, Torn}
use Rattle.slices.specs.declared.Span.{Span}
use Rattle.tags.specs.declared.Known.{Known}
use Rattle.tags.specs.declared.Tail.{Tail}

-- an attribute: its name, and where its value stands
pub record Attr : Type 0 where
  pub name : List ℕ
  pub value : Span

-- the attributes, whether the tag is an empty one, and the place after it
pub data Ends : Type 0 where
  closed : List Attr → Bool → ℕ → Ends
  torn : Ends

unfoldable pub onto : Attr → Ends → Ends
onto a (closed more empty n) = closed (a ∷ more) empty n
onto a torn = torn

-- piece by piece from the place `at` on, after k bytes of the last piece; a tag that does not end is torn
unfoldable pub ends_after : ℕ → ℕ → List ℕ → Ends
ends_after k at [] = torn
ends_after (suc k) at (b ∷ t) = ends_after k (suc at) t
ends_after zero at (b ∷ t) =
    elim (piece (b ∷ t)) [
      | Attribute w n v m e ↦ onto (record { name = part_of (b ∷ t) w n; value = record { start = at + v; len = m } }) (ends_after (pred e) (suc at) t)
      | Close n ↦ closed [] false (at + n)
      | CloseEmpty n ↦ closed [] true (at + n)
      | Torn ↦ torn
    ]

-- of a tag with its `<` at the front of s, from the place `at` on
unfoldable pub ends : List ℕ → ℕ → Ends
ends s at = ends_after 0 at (drop at s)

-- what is kept of the attributes, from the first to the last
unfoldable pub kept_of : Known → List Attr → Known
kept_of k [] = k
kept_of k (a ∷ more) = kept_of (with_attribute k a.name a.value) more

-- a tag that ends, with what is kept of its attributes
abbrev pub shut : Known → Bool → ℕ → Option Tail
shut k empty n = Some (record { known = k; empty = empty; end = n })

unfoldable pub tail : Known → Ends → Option Tail
tail k (closed more empty n) = shut (kept_of k more) empty n
tail k torn = None

-- one of the attributes has the name n
unfoldable pub named : List ℕ → List Attr → Bool
named n [] = false
named n (a ∷ more) = cond (same n a.name) true (named n more)

-- "An attribute twice in a tag": its name stands again after it
unfoldable pub twice : List Attr → Bool
twice [] = false
twice (a ∷ more) = cond (named a.name more) true (twice more)

unfoldable pub twice_in : Ends → Bool
twice_in (closed more empty n) = twice more
twice_in torn = false

-- how far a tag reaches
abbrev pub tail_use : Option Tail → ℕ
tail_use (Some t) = t.end
tail_use None = 1

-- where the value of `v` ends
abbrev pub tail_value : Option Tail → ℕ
tail_value (Some t) = t.known.v.start + t.known.v.len
tail_value None = 0
