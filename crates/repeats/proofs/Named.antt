-- The name of an attribute, told by its place alone. Assumes nothing.
use Prim.Native.Nat.{ℕ, ◌+◌}
use mathlib.Core.Path.{◌≡◌, sym, ap, ◌∙◌}
use mathlib.Core.List.{List}
use lib.ListN.{take, drop}
use lib.Seq.{drop-drop}
use Rattle.slices.specs.Run.{run}
use Rattle.attributes.specs.Names.{name_byte}
use Rattle.slices.specs.Part.{part_of}
use Rattle.attributes.specs.Attribute.{piece}
use Rattle.attributes.specs.declared.Piece.TheVariants.{Attribute}
use Rattle.attributes.proofs.Named.{piece-name}
use Rattle.repeats.specs.Order.{name_at}

-- the name of the attribute that `piece_at` found on the part t from i on
pub name-here : (s : List ℕ) (i : ℕ) (t : List ℕ) → t ≡ drop i s → (a l v m k : ℕ) → piece t ≡ Attribute a l v m k → name_at s (i + a) ≡ part_of t a l
unfolding name_at part_of
name-here s i t et a l v m k q =
    let e : drop (i + a) s ≡ drop a t = sym (drop-drop a i s) ∙ ap (drop a) (sym et) in
    ap (λ (r : List ℕ). take (run name_byte r) r) e ∙ ap (λ (j : ℕ). take j (drop a t)) (sym (piece-name a l v m k t q).1)
