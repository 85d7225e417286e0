-- The loops over the rows of a kind: which row bears a name, and which pair is a row's first. Assumes nothing.
use Prim.Native.Nat.{ℕ, zero, suc, ◌+◌, ◌*◌, ◌≤◌, ◌<◌}
use mathlib.Core.Path.{◌≡◌, refl, sym, ap, ◌∙◌}
use mathlib.Core.List.{List, [], ◌∷◌}
use mathlib.Core.Bool.{Bool, true}
use native.Mathlib.Omega.{arith}
use native.Mathlib.Nat.{add-zero, zero-add}
use native.Mathlib.Numerals.{add-one}
use lib.ListN.{length, take, drop, get_or, drop_of_length-le}
use lib.Seq.{drop-cons}
use lib.Dec.{leb}
use borrow.Author.Tests.{eq-eqb, ne_eqb, leb-true}
use mathlib.Core.Bool.{cond, not}
use mathlib.Core.Logic.{⊎_elim}
use lib.Dec.{eqb, ltb}
use Rattle.std.specs.List.{position_or_len}
use Rattle.std.specs.declared.option.Option.{Option}
use Rattle.std.specs.declared.option.Option.TheVariants.{None, Some}
use Rattle.std.specs.Option.{unwrap_or}
use Rattle.std.proofs.lemmas.List.Recursion.{is_position_or_len}
use Rattle.std.proofs.lemmas.List.Sums.{prefix_len-le-length}
use Rattle.lists.proofs.Cases.{ltb-cases}
use Rattle.structure.specs.Rows.{name_of}
use Rattle.slices.specs.Same.{same}
use Rattle.elements.specs.Names.{names, number_in, element_no}
use Rattle.columns.specs.Columns.{role_of, form_of, scheme_of}
use Rattle.states.specs.Attributes.{asks_v, asks_scheme}
use Rattle.guideline.specs.Rows.{beschaffungsanforderung, kostenblatt, network_constraint_document, rows_of}
use Rattle.guideline.proofs.Each.{each_table, of-table}
use Rattle.views.specs.Layout.{values_of, pair_after, pairs_after, first_pair, row_named}

-- ---- how many rows there are

few : List ℕ → Bool
few rows = leb (length rows) 34

few-all : each_table few ≡ true
unfolding few rows_of beschaffungsanforderung kostenblatt network_constraint_document element_no number_in names same
few-all = refl

pub rows_few : (kind : ℕ) → length (rows_of kind) ≤ 34
unfolding few
rows_few kind = leb-true (length (rows_of kind)) 34 (of-table few few-all kind)

-- ---- the first pair of a row

-- past the rows there is none, and no value
no-values : values_of 0 ≡ 0
unfolding values_of asks_v asks_scheme role_of form_of scheme_of
no-values = refl

no_row : (k : ℕ) → pair_after k 0 ≡ k
unfolding pair_after role_of
no_row k = ap (λ (n : ℕ). k + n) no-values ∙ add-zero k

pairs_next : (rows : List ℕ) (k i : ℕ) → pairs_after k (take (suc i) rows) ≡ pair_after (pairs_after k (take i rows)) (get_or rows i 0)
unfolding pairs_after
pairs_next [] k zero = sym (no_row k)
pairs_next [] k (suc i) = sym (no_row k)
pairs_next (w ∷ ws) k zero = refl
pairs_next (w ∷ ws) k (suc i) = pairs_next ws (pair_after k w) i

pub first-start : (rows : List ℕ) → 0 ≡ first_pair rows 0
unfolding first_pair pairs_after
first-start rows = refl

pub first_next : (rows : List ℕ) (i : ℕ) → first_pair rows (i + 1) ≡ pair_after (first_pair rows i) (get_or rows i 0)
unfolding first_pair
first_next rows i = rw (add-one i) (pairs_next rows 0 i)

-- the loop over the rows before row
pub record Pairing (rows : List ℕ) (row k i : ℕ) : Type 0 where
  pub is : k ≡ first_pair rows i
  pub most : k ≤ 19 * i
  pub low : i ≤ row

pub pairing-next : {rows : List ℕ} {row k i : ℕ} {w m : ℕ} → Pairing rows row k i → i < row → w ≡ get_or rows i 0 → m ≡ pair_after k w → m ≤ k + 19 → Pairing rows row m (i + 1)
pairing-next {rows} {row} {k} {i} p h ew em l =
    let a = p.most in
    record { is = rw (em, ew, p.is) (sym (first_next rows i)); most = omega (arith, a, l); low = omega (arith, h) }

pub pairing-end : {rows : List ℕ} {row k i : ℕ} → Pairing rows row k i → row ≤ i → k ≡ first_pair rows row
pairing-end {rows} p h = let e = p.low in p.is ∙ ap (first_pair rows) (omega (arith, e, h))

-- ---- the row of a name

-- a name's row is the first place of the rows that bears it
first-named : (name : ℕ) (rows : List ℕ) → row_named name rows ≡ position_or_len (λ w. eqb (name_of w) name) rows
unfolding row_named
first-named name rows =
    is_position_or_len (row_named name) (λ w. eqb (name_of w) name) refl
    (λ w ws. let e : suc (row_named name ws) ≡ 1 + row_named name ws = omega arith in rw e refl)
    rows

-- the first place that passes, or the end where there is none
pub first-or-end : (p : ℕ → Bool) (xs : List ℕ) →
    unwrap_or (cond (ltb (position_or_len p xs) (length xs)) (Some (position_or_len p xs)) None) (length xs) ≡ position_or_len p xs
first-or-end p xs =
    let k = position_or_len p xs in
    let h : k ≤ length xs = prefix_len-le-length (λ x. not (p x)) xs in
    ⊎_elim (λ y. rw y.1 refl) (λ y. let z = y.0 in rw y.1 (omega (arith, h, z))) (ltb-cases k (length xs))

pub named-or-end : (name : ℕ) (rows : List ℕ) {o : Option ℕ} {n : ℕ} →
    o ≡ cond (ltb (position_or_len (λ w. eqb (name_of w) name) rows) (length rows)) (Some (position_or_len (λ w. eqb (name_of w) name) rows)) None →
    n ≡ unwrap_or o (length rows) → n ≡ row_named name rows
named-or-end name rows e u = u ∙ ap (λ (x : Option ℕ). unwrap_or x (length rows)) e ∙ first-or-end _ rows ∙ sym (first-named name rows)
