-- A text, white or not.
use Rattle.std.specs.Prelude.{ℕ, List, true, false, cond, take, eqb, ltb}
use Rattle.slices.specs.Run.{run}
use Rattle.slices.specs.Same.{first_at}
use Rattle.slices.specs.Text.{text}
use Rattle.characters.specs.Says.{all_chars}
use Rattle.attributes.specs.Names.{white}
use Rattle.items.specs.declared.Item.{Item}
use Rattle.items.specs.declared.Item.TheVariants.{Text, Unreadable}

-- Of n bytes, at least one: "only space, tab, CR and LF", or other XML characters;
-- "with `&`, `]]>` or bytes that aren't XML characters in UTF-8 the item is unreadable"
unfoldable pub text_to : ℕ → List ℕ → ℕ → Item
text_to before s n =
    cond (eqb n 0) (Unreadable before)
    (cond (eqb (run white s) n) (Text true n)
    (cond (all_chars (take n s))
    (cond (ltb (first_at (text "&") (take n s)) n) (Unreadable before)
    (cond (ltb (first_at (text "]]>") (take n s)) n) (Unreadable before) (Text false n)))
    (Unreadable before)))

-- "Text is a longest run of bytes without `<`."
unfoldable pub text_item : ℕ → List ℕ → Item
text_item before s = text_to before s (first_at (text "<") s)
