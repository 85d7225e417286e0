-- The whole of a draft, test by test as the code tells it, is whether the draft is fit. Assumes nothing.
use Prim.Native.Nat.{ℕ, ◌+◌, ◌*◌}
use mathlib.Core.Path.{◌≡◌, refl, sym, ◌∙◌}
use mathlib.Core.List.{List}
use mathlib.Core.Bool.{Bool, true, false}
use lib.Dec.{eqb}
use lib.IntN.{ℤ}
use lib.ListN.{length}
use borrow.Author.Tests.{eq-eqb, ne_eqb}
use Rattle.guideline.specs.Rows.{rows_of}
use Rattle.views.specs.Layout.{header_pairs, series_pairs}
use Rattle.drafts.specs.Fit.{is_written, draft_of, draft_fits}
use Rattle.fitting.specs.Told.{count_lent, texts_told, sheet_told, fit_told}
use Rattle.fitting.proofs.Exactly.{told-exactly}

-- ---- the kind

pub first-written : (kind : ℕ) → kind ≡ 1 → is_written kind ≡ true
unfolding is_written
first-written kind e = rw (eq-eqb kind 1 e) refl

pub second-written : (kind : ℕ) → (kind ≡ 1 → ⊥) → eqb kind 2 ≡ is_written kind
unfolding is_written
second-written kind d = rw (ne_eqb kind 1 d) refl

module _ (kind : ℕ) (text pairs : List ℕ) (count : ℕ) (series positions : List ℕ) (amounts : List ℤ) where
  pub not_written : is_written kind ≡ false → false ≡ draft_fits (draft_of kind text pairs count series positions amounts)
  unfolding fit_told
  not_written w = rw w at (told-exactly kind text pairs count series positions amounts)

  module _ (w : is_written kind ≡ true) {l : Bool} (el : l ≡ count_lent (length pairs) count (length series)) where
    pub not-lent : l ≡ false → false ≡ draft_fits (draft_of kind text pairs count series positions amounts)
    unfolding fit_told
    not-lent tl = rw (w, sym el ∙ tl) at (told-exactly kind text pairs count series positions amounts)

    module _ (tl : l ≡ true) {x : Bool} (ex : x ≡ texts_told text pairs 0 (header_pairs + series_pairs * count)) where
      pub no-texts : x ≡ false → false ≡ draft_fits (draft_of kind text pairs count series positions amounts)
      unfolding fit_told
      no-texts tx = rw (w, sym el ∙ tl, sym ex ∙ tx) at (told-exactly kind text pairs count series positions amounts)

      pub as-sheet : x ≡ true → {rows : List ℕ} {s : Bool} → rows ≡ rows_of kind → s ≡ sheet_told kind rows text pairs count series positions amounts
          → s ≡ draft_fits (draft_of kind text pairs count series positions amounts)
      unfolding fit_told
      as-sheet tx {rows} {s} er es =
          let e : s ≡ sheet_told kind (rows_of kind) text pairs count series positions amounts = rw er at es in
          e ∙ (rw (w, sym el ∙ tl, sym ex ∙ tx) at (told-exactly kind text pairs count series positions amounts))
