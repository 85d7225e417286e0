-- What the views show of a content: the attribute values of its elements, "all of them and in their place".
use Rattle.std.specs.Prelude.{ℕ, ◌+◌, ◌*◌, ◌≤◌, ◌<◌, ◌≡◌, List, [], ◌∷◌, ◌++◌, Bool, true, false, cond, eqb, ltb, length, get_or}
use Rattle.trims.specs.Trim.{trimmed_of}
use Rattle.columns.specs.Columns.{collapsed, role_of, root_role}
use Rattle.guideline.specs.Rows.{rows_of}
use Rattle.states.specs.Attributes.{asks_v, asks_scheme}
use Rattle.trees.specs.Trees.{Trees, none, element}
use Rattle.contents.specs.Said.{AttributeValue, Absent, Given, TagSaid}
use Rattle.views.specs.Layout.{header_pairs, series_pairs, values_of, first_pair, cell_of}
use Rattle.views.specs.Shown.{pair_view, series_at}

-- ---- the elements of a content, each with its row and with how many series there are up to it

pub record Part (A : Type 0) : Type 0 where
  pub row : ℕ
  pub number : ℕ
  pub said : A

abbrev pub part : {A : Type 0} → ℕ → ℕ → A → Part A
part q m x = record { row = q; number = m; said = x }

-- n series before them, so many after them
unfoldable pub counts_of : {A : Type 0} → List ℕ → Trees A → ℕ → ℕ
counts_of rows none n = n
counts_of rows (element q x inner after) n = counts_of rows after (counts_of rows inner (series_at (get_or rows q 0) n))

-- in document order
unfoldable pub parts_of : {A : Type 0} → List ℕ → Trees A → ℕ → List (Part A)
parts_of rows none n = []
parts_of rows (element q x inner after) n =
    let m = series_at (get_or rows q 0) n in part q m x ∷ (parts_of rows inner m ++ parts_of rows after (counts_of rows inner m))

-- an element of the header, or one of series m
abbrev pub stands_in : List ℕ → ℕ → ℕ → {A : Type 0} → Part A → Bool
stands_in rows q m p = cond (eqb p.row q) (cond (ltb (first_pair rows q) header_pairs) true (eqb p.number m)) false

-- what the last of them says that has row q, in the header or in series m, or d
unfoldable pub last_of : {A : Type 0} → List ℕ → ℕ → ℕ → List A → List (Part A) → List A
last_of rows q m d [] = d
last_of rows q m d (p ∷ ps) = last_of rows q m (cond (stands_in rows q m p) (p.said ∷ []) d) ps

-- ---- a value, and the values of an element

-- "spaces dropped where the row is collapsed"
unfoldable pub without_spaces : Bool → AttributeValue → AttributeValue
without_spaces drops Absent = Absent
without_spaces drops (Given b) = Given (cond drops (trimmed_of b) b)

abbrev pub only_if : Bool → AttributeValue → List AttributeValue
only_if true a = a ∷ []
only_if false a = []

-- those of an element of row w, as `values_of` counts them
unfoldable pub values_said : ℕ → TagSaid → List AttributeValue
values_said w s =
    cond (eqb (role_of w) root_role) (s.dtd.version ∷ s.dtd.release ∷ s.dtd.message ∷ [])
    (only_if (asks_v w) (without_spaces (collapsed w) s.v) ++ only_if (asks_scheme w) (without_spaces true s.scheme))

-- "start and length between the quotes ..; 0 and 0 where absent": a value that is there starts behind its quote, and so does an empty one
unfoldable pub PairShows : List ℕ → List ℕ → ℕ → AttributeValue → Type 0
PairShows doc t k Absent = (get_or t (cell_of k) 0 ≡ 0) × (get_or t (cell_of k + 1) 0 ≡ 0)
PairShows doc t k (Given b) = (pair_view doc t k ≡ b) × (1 ≤ get_or t (cell_of k) 0)

-- value j of an element of row w, or of none
abbrev pub value_at : ℕ → List TagSaid → ℕ → AttributeValue
value_at w [] j = Absent
value_at w (s ∷ _) j = get_or (values_said w s) j Absent

-- the pairs from k on show them
abbrev pub RowShows : List ℕ → List ℕ → ℕ → ℕ → List TagSaid → Type 0
RowShows doc t k w l = (j : ℕ) → j < values_of w → PairShows doc t (k + j) (value_at w l j)

-- each row of the header, and each row of each series, of which there are so many
pub record ShowsValues (doc t : List ℕ) (kind series : ℕ) (c : Trees TagSaid) : Type 0 where
  pub header : (q : ℕ) → q < length (rows_of kind) → first_pair (rows_of kind) q < header_pairs
      → RowShows doc t (first_pair (rows_of kind) q) (get_or (rows_of kind) q 0) (last_of (rows_of kind) q 0 [] (parts_of (rows_of kind) c 0))
  pub each : (q : ℕ) → q < length (rows_of kind) → header_pairs ≤ first_pair (rows_of kind) q → (i : ℕ) → i < series
      → RowShows doc t (first_pair (rows_of kind) q + series_pairs * i) (get_or (rows_of kind) q 0) (last_of (rows_of kind) q (i + 1) [] (parts_of (rows_of kind) c 0))
