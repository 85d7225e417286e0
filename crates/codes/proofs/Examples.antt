-- "Areas, sixteen characters".
use mathlib.Core.Path.{◌≡◌, refl}
use mathlib.Core.List.{map}
use lib.ListN.{length, replicate}
use Rattle.codes.specs.Lists.{area}

pub areas-sixteen : map length area ≡ replicate 5 16
areas-sixteen = refl
