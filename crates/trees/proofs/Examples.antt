-- The definitions say something of the tables: a smallest document of each kind conforms, and with a row missing, or one come again, none does.
-- Assumes nothing.
use Prim.Native.Nat.{ℕ}
use mathlib.Core.Path.{◌≡◌, refl, sym, ◌∙◌}
use mathlib.Core.Bool.{Bool, true, false}
use mathlib.Core.List.{List, [], ◌∷◌}
use Rattle.lists.proofs.Cases.{zero-not-one}
use Rattle.slices.specs.Same.{same}
use Rattle.elements.specs.Names.{names, number_in, element_no}
use Rattle.structure.specs.Rows.{name_of, parent_of, required, repeated, next_in, ends_in, start_of, end_at, end_of, closes_document, over_of}
use Rattle.guideline.specs.Kinds.{is_kind}
use Rattle.guideline.specs.Rows.{beschaffungsanforderung, kostenblatt, network_constraint_document, rows_of}
use Rattle.trees.specs.Trees.{Trees, none, element, spell, Conforms}
use Rattle.trees.specs.Cursor.{on_row, follows}
use Rattle.trees.proofs.Made.{well-made}
use Rattle.trees.proofs.Theorems.{complete, sound}

-- elements with nothing in them, and then these
abbrev leaves : List ℕ → (Trees (Unit {0})) → (Trees (Unit {0}))
leaves [] after = after
leaves (r ∷ rs) after = element r tt none (leaves rs after)

-- a document of either kind with one series: the rows before the series, those in it, its Period, those in the Period, its Interval, those in it
abbrev sheet : List ℕ → List ℕ → ℕ → List ℕ → ℕ → List ℕ → (Trees (Unit {0}))
sheet head series period times interval values =
    let in_period = leaves times (element interval tt (leaves values none) none) in
    element 1 tt (leaves head (element 12 tt (leaves series (element period tt in_period none)) none)) none

abbrev heads : List ℕ
heads = 2 ∷ 3 ∷ 4 ∷ 5 ∷ 6 ∷ 7 ∷ 8 ∷ 9 ∷ 10 ∷ 11 ∷ []

abbrev pub smallest_one : (Trees (Unit {0}))
smallest_one = sheet heads (13 ∷ 14 ∷ 15 ∷ 16 ∷ 17 ∷ 18 ∷ 19 ∷ 20 ∷ []) 26 (27 ∷ 28 ∷ []) 29 (30 ∷ 31 ∷ [])

abbrev pub smallest_two : (Trees (Unit {0}))
smallest_two = sheet heads (13 ∷ 14 ∷ 16 ∷ 18 ∷ 19 ∷ 20 ∷ 21 ∷ []) 28 (29 ∷ 30 ∷ []) 31 (32 ∷ 33 ∷ [])

-- without DocStatus, with DocStatus and no series
abbrev pub smallest_three : (Trees (Unit {0}))
smallest_three =
    let in_period = leaves (29 ∷ 30 ∷ []) (element 31 tt (leaves (32 ∷ 33 ∷ []) none) none) in
    element 1 tt (leaves heads (element 13 tt (leaves (14 ∷ 15 ∷ 16 ∷ 17 ∷ 18 ∷ 22 ∷ []) (element 28 tt in_period none)) none)) none

abbrev pub withdrawn_three : (Trees (Unit {0}))
withdrawn_three = element 1 tt (leaves heads (leaves (12 ∷ []) none)) none

-- without its Resolution
abbrev pub incomplete : (Trees (Unit {0}))
incomplete = sheet heads (13 ∷ 14 ∷ 16 ∷ 18 ∷ 19 ∷ 20 ∷ 21 ∷ []) 28 (29 ∷ []) 31 (32 ∷ 33 ∷ [])

-- with two Resolutions
abbrev pub repeating : (Trees (Unit {0}))
repeating = sheet heads (13 ∷ 14 ∷ 16 ∷ 18 ∷ 19 ∷ 20 ∷ 21 ∷ []) 28 (29 ∷ 30 ∷ 30 ∷ []) 31 (32 ∷ 33 ∷ [])

followed : (k : ℕ) → (Trees (Unit {0})) → Bool
followed k kids = follows (rows_of k) 0 true (spell (rows_of k) kids)

record Judged : Type 0 where
  one : followed 1 smallest_one ≡ true
  two : followed 2 smallest_two ≡ true
  three : followed 3 smallest_three ≡ true
  withdrawn : followed 3 withdrawn_three ≡ true
  missing : followed 2 incomplete ≡ false
  twice : followed 2 repeating ≡ false

judged : Judged
unfolding
    followed
    follows
    on_row
    spell
    start_of
    end_of
    end_at
    next_in
    ends_in
    closes_document
    over_of
    name_of
    parent_of
    required
    repeated
    rows_of
    beschaffungsanforderung
    kostenblatt
    network_constraint_document
    element_no
    number_in
    names
    same
judged = record { one = refl; two = refl; three = refl; withdrawn = refl; missing = refl; twice = refl }

pub one-conforms : (kids : (Trees (Unit {0}))) × Conforms (rows_of 1) 0 kids × (spell (rows_of 1) smallest_one ≡ spell (rows_of 1) kids)
unfolding followed is_kind
one-conforms = sound (Unit {0}) (rows_of 1) (well-made 1 refl) (spell (rows_of 1) smallest_one) judged.one

pub two-conforms : (kids : (Trees (Unit {0}))) × Conforms (rows_of 2) 0 kids × (spell (rows_of 2) smallest_two ≡ spell (rows_of 2) kids)
unfolding followed is_kind
two-conforms = sound (Unit {0}) (rows_of 2) (well-made 2 refl) (spell (rows_of 2) smallest_two) judged.two

pub three-conforms : (kids : (Trees (Unit {0}))) × Conforms (rows_of 3) 0 kids × (spell (rows_of 3) smallest_three ≡ spell (rows_of 3) kids)
unfolding followed is_kind
three-conforms = sound (Unit {0}) (rows_of 3) (well-made 3 refl) (spell (rows_of 3) smallest_three) judged.three

pub withdrawn-conforms : (kids : (Trees (Unit {0}))) × Conforms (rows_of 3) 0 kids × (spell (rows_of 3) withdrawn_three ≡ spell (rows_of 3) kids)
unfolding followed is_kind
withdrawn-conforms = sound (Unit {0}) (rows_of 3) (well-made 3 refl) (spell (rows_of 3) withdrawn_three) judged.withdrawn

refuted : (kids : (Trees (Unit {0}))) → followed 2 kids ≡ false → Conforms (rows_of 2) 0 kids → ⊥
unfolding followed is_kind
refuted kids e c = let z : true ≡ false = sym (complete (Unit {0}) (rows_of 2) (well-made 2 refl) kids c) ∙ e in zero-not-one (cc)

pub incomplete-refused : Conforms (rows_of 2) 0 incomplete → ⊥
incomplete-refused = refuted incomplete judged.missing

pub repeating-refused : Conforms (rows_of 2) 0 repeating → ⊥
repeating-refused = refuted repeating judged.twice
