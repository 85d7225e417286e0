-- What a start tag says besides its name: the attributes that the guideline knows, by their values and not by where or in which order they stand.
use Rattle.std.specs.Prelude.{List, [], Bool, true, false, ℕ}

-- an attribute that is not there, or the bytes between its quotes
pub data AttributeValue : Type 0 where
  Absent : AttributeValue
  Given : List ℕ → AttributeValue

-- those that a root may have: DtdVersion, DtdRelease, DtdBDEWNachrichtenVersion
pub record DtdSaid : Type 0 where
  pub version : AttributeValue
  pub release : AttributeValue
  pub message : AttributeValue

-- `v`, codingScheme, those of a root; whether there are others, and whether all of those may be passed over on a root
pub record TagSaid : Type 0 where
  pub v : AttributeValue
  pub scheme : AttributeValue
  pub dtd : DtdSaid
  pub others : Bool
  pub passable : Bool

unfoldable pub given : AttributeValue → Bool
given Absent = false
given (Given b) = true

unfoldable pub bytes : AttributeValue → List ℕ
bytes Absent = []
bytes (Given b) = b
