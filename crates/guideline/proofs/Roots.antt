-- Before the root, and by any number that is no kind. Assumes nothing.
use Prim.Native.Nat.{ℕ}
use mathlib.Core.Path.{◌≡◌, refl}
use mathlib.Core.Bool.{Bool, false}
use lib.Dec.{leb-suc-zero}
use Rattle.std.specs.Prelude.{None}
use Rattle.structure.specs.Rows.{start_of, end_of, closes_document, over_of}
use Rattle.guideline.specs.Kinds.{is_kind}
use Rattle.guideline.specs.Rows.{rows_of}
use Rattle.guideline.proofs.Each.{no_rows}

-- no start tag is due by its rows, no end tag, and no end of the document
module _ (k : ℕ) (none : is_kind k ≡ false) (r : ℕ) (o : Bool) where
  pub no_start : (x : ℕ) → start_of (rows_of k) r o x ≡ None
  unfolding start_of
  no_start x = rw (no_rows k none, leb-suc-zero r) refl

  pub no_end : (x : ℕ) → end_of (rows_of k) r o x ≡ None
  unfolding end_of
  no_end x = rw (no_rows k none, leb-suc-zero r) refl

  pub not-over : over_of (rows_of k) r o ≡ false
  unfolding over_of closes_document
  not-over = rw (no_end 255) refl
