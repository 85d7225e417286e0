use mathlib.Core.Path.{refl}
use borrow.Author.Rules.{rules}
use Rattle.items.specs.Item.{tag_of}
use Rattle.items.proofs.tag_of.Goals as goal

pub returns : goal.returns
unfolding tag_of
returns c = record { tag = refl; size = search rules }
