-- "After an optional byte order mark (EF BB BF), the document is a run of items. .. The rest of the document after each item is read the same way."
use Rattle.std.specs.Prelude.{ℕ, zero, suc, pred, List, [], ◌∷◌, drop}
use Rattle.items.specs.Item.{item, item_end}
use Rattle.items.specs.declared.Item.{Item}

-- an item, its place, and the part of the document that begins with it
pub record Placed : Type 0 where
  pub at : ℕ
  pub item : Item
  pub rest : List ℕ

abbrev pub placed : ℕ → List ℕ → Placed
placed at s = record { at = at; item = item at s; rest = s }

-- the items from the place `at` on; k bytes of the last item are still to pass
unfoldable pub items_after : ℕ → ℕ → List ℕ → List Placed
items_after k at [] = []
items_after (suc k) at (b ∷ t) = items_after k (suc at) t
items_after zero at (b ∷ t) = placed at (b ∷ t) ∷ items_after (pred (item_end (item at (b ∷ t)))) (suc at) t

unfoldable pub items_from : List ℕ → ℕ → List Placed
items_from doc at = items_after 0 at (drop at doc)
