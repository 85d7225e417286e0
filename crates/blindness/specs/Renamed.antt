-- "Replace only the TimeSeriesIdentification values in tags before the first unreadable item, by a one-to-one rule over those in the document, each with
-- the same number of bytes and characters, with values that before and after are legal XML characters in UTF-8 and hold no `&`, `<`, quote or control
-- byte."
use Rattle.std.specs.Prelude.{ℕ, ◌≡◌, List, [], ◌∷◌, cond, ◌⊎◌, length, Result, Ok, Err}
use Rattle.slices.specs.Bytes.{byte}
use Rattle.slices.specs.Text.{text}
use Rattle.slices.specs.declared.Span.{Span}
use Rattle.items.specs.Item.{is_readable}
use Rattle.prolog.specs.Prolog.{begin}
use Rattle.reader.specs.Items.{Placed, items_from}
use Rattle.reader.specs.Rows.{quoted}
use Rattle.digits.specs.Items.{InSpan}
use Rattle.digits.specs.Identifications.{PutFor}
use Rattle.blindness.specs.Readable.{tag_named}
use Rattle.blindness.specs.Sources.{value_at}

-- where the values of `v` stand in the start and empty tags of this name, up to the first unreadable item of these; of a tag without `v` it is no bytes,
-- which nothing below asks anything of
unfoldable pub values_named : List ℕ → List Placed → List Span
values_named name [] = []
values_named name (x ∷ xs) =
    let rest = cond (is_readable x.item) (values_named name xs) [] in
    cond (tag_named name x.item x.rest) (value_at x ∷ rest) rest

unfoldable pub values_named_after : List ℕ → List ℕ → Result ℕ ℕ → List Span
values_named_after name doc (Ok n) = values_named name (items_from doc n)
values_named_after name doc (Err p) = []

-- "the TimeSeriesIdentification values in tags before the first unreadable item", due or not
unfoldable pub identifications_in : List ℕ → List Span
identifications_in doc = values_named_after (text "TimeSeriesIdentification") doc (begin doc)

-- v is one of these
abbrev pub OneSpan : Span → List Span → Type 0
OneSpan v [] = ⊥
OneSpan v (w ∷ l) = (v ≡ w) ⊎ OneSpan v l

-- y is x, in which "only the TimeSeriesIdentification values" are replaced, each by one that may be put for it
pub record IdsReplaced (x y : List ℕ) : Type 0 where
  pub long : length x ≡ length y
  pub places : (p : ℕ) → (byte x p ≡ byte y p) ⊎ ((v : Span) × OneSpan v (identifications_in x) × InSpan p v)
  pub values : (v : Span) → OneSpan v (identifications_in x) → PutFor (quoted v x) (quoted v y)

-- "by a one-to-one rule over those in the document": two of them are the same bytes in x exactly when they are in y
pub record Renamed (x y : List ℕ) : Type 0 where
  pub replaced : IdsReplaced x y
  pub one-to-one : (v w : Span) → OneSpan v (identifications_in x) → OneSpan w (identifications_in x)
      → (quoted v x ≡ quoted w x → quoted v y ≡ quoted w y) × (quoted v y ≡ quoted w y → quoted v x ≡ quoted w x)
