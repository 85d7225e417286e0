-- A quoted text as the list of its characters' numbers, so that codes and names stand in definitions as the papers print them.
use Rattle.std.specs.Prelude.{ℕ, List, [], ◌∷◌}
use Prim.Native.Char.{code}
use Prim.Native.String.{String, [] as none, ◌∷◌ as ◌then◌}

abbrev pub text : String → List ℕ
text none = []
text (c then s) = code c ∷ text s
