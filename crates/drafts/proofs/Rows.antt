-- What the writer asks of a table of rows, computed of the two kinds that are written. Assumes nothing.
use Prim.Native.Nat.{ℕ, suc, ◌+◌, ◌≤◌}
use mathlib.Core.Path.{◌≡◌, refl, sym, ◌∙◌}
use mathlib.Core.List.{List, [], ◌∷◌}
use mathlib.Core.Bool.{Bool, true, false, cond, ◌&&◌}
use mathlib.Core.Logic.{⊎_elim}
use native.Mathlib.Omega.{arith}
use lib.Dec.{eqb, leb}
use lib.ListN.{length, drop, get_or}
use Rattle.lists.proofs.Cases.{eqb-cases}
use Rattle.structure.specs.Rows.{name_of}
use Rattle.columns.specs.Columns.{form_of, scheme_of, role_of, series_role, period_role, interval_role}
use Rattle.guideline.specs.Rows.{beschaffungsanforderung, kostenblatt, rows_of}
use Rattle.states.specs.Attributes.{asks_v, asks_scheme}
use Rattle.elements.specs.Names.{names, number_in, element_no}
use Rattle.slices.specs.Same.{same}
use Rattle.views.specs.Layout.{header_pairs, series_pairs, one_if, values_of, pair_after, pairs_after, first_pair}
use Rattle.layouts.specs.Layout.{HasName}
use Rattle.drafts.specs.Draft.{role_row}

-- an element that has a name
unfoldable pub is_named : ℕ → Bool
is_named w = leb 1 (name_of w) && leb (name_of w) 44

-- the rows with a `v` at the front have names, and their pairs, of which the first is k, are below `most`
unfoldable pub in_pairs : ℕ → ℕ → List ℕ → Bool
in_pairs most k [] = true
in_pairs most k (w ∷ ws) =
    cond (asks_v w) (is_named w && eqb (values_of w) (1 + one_if (asks_scheme w)) && leb (k + values_of w) most && in_pairs most (k + values_of w) ws) true

-- an element that holds others
unfoldable pub is_bare : ℕ → Bool
is_bare w = cond (asks_v w) false (is_named w)

pub record Table (rows : List ℕ) : Type 0 where
  pub root : is_bare (get_or rows 1 0) ≡ true
  pub series : is_bare (get_or rows (role_row series_role rows) 0) ≡ true
  pub period : is_bare (get_or rows (role_row period_role rows) 0) ≡ true
  pub interval : is_bare (get_or rows (role_row interval_role rows) 0) ≡ true
  pub position : is_named (get_or rows (suc (role_row interval_role rows)) 0) ≡ true
  pub amount : is_named (get_or rows (suc (suc (role_row interval_role rows))) 0) ≡ true
  pub header-pairs : in_pairs header_pairs (first_pair rows 2) (drop 2 rows) ≡ true
  pub series-pairs : in_pairs (header_pairs + series_pairs) (first_pair rows (suc (role_row series_role rows))) (drop (suc (role_row series_role rows)) rows) ≡ true
  pub period-pairs : in_pairs (header_pairs + series_pairs) (first_pair rows (suc (role_row period_role rows))) (drop (suc (role_row period_role rows)) rows) ≡ true

table-one : Table beschaffungsanforderung
unfolding beschaffungsanforderung element_no names number_in same name_of form_of scheme_of role_of asks_v asks_scheme values_of pair_after pairs_after first_pair is_named in_pairs is_bare role_row
table-one = record { root = refl; series = refl; period = refl; interval = refl; position = refl; amount = refl; header-pairs = refl; series-pairs = refl; period-pairs = refl }

table-two : Table kostenblatt
unfolding kostenblatt element_no names number_in same name_of form_of scheme_of role_of asks_v asks_scheme values_of pair_after pairs_after first_pair is_named in_pairs is_bare role_row
table-two = record { root = refl; series = refl; period = refl; interval = refl; position = refl; amount = refl; header-pairs = refl; series-pairs = refl; period-pairs = refl }

pub table : (kind : ℕ) → cond (eqb kind 1) true (eqb kind 2) ≡ true → Table (rows_of kind)
unfolding rows_of
table kind h =
    ⊎_elim
    (λ (y : (kind ≡ 1) × (eqb kind 1 ≡ true)). rw y.1 table-one)
    (λ (y : (kind ≡ 1 → ⊥) × (eqb kind 1 ≡ false)). let e : eqb kind 2 ≡ true = rw y.1 at h in rw (y.1, e) table-two)
    (eqb-cases kind 1)
