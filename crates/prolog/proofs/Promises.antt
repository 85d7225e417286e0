-- What holds of every beginning. "2: the item is unreadable", and no other number: what stands before the first item is refused with 2 or not
-- at all. "The place of an item is the index of its first byte": the refusal is at the declaration's first byte, where `<?xml` stands, and that
-- is 0, or 3 after a byte order mark. "An XML declaration may stand before the first item": where none does, nothing is refused, and the first
-- item stands right after the mark, or at 0.
-- Assumes nothing.
use Prim.Native.Nat.{ℕ, ◌+◌}
use mathlib.Core.Path.{◌≡◌, refl, ap}
use mathlib.Core.List.{List, [], ◌∷◌}
use mathlib.Core.Bool.{true, false}
use mathlib.Core.Logic.{◌⊎◌, inl, inr, ⊎_elim}
use lib.ListN.{drop}
use lib.Dec.{eqb}
use Rattle.std.specs.Prelude.{Result, Ok, Err}
use Rattle.lists.proofs.Cases.{bool_cases, by_cond, zero-not-one}
use Rattle.slices.specs.Bytes.{byte}
use Rattle.slices.specs.Run.{run}
use Rattle.slices.specs.Same.{same, begins}
use Rattle.slices.specs.Text.{text}
use Rattle.attributes.specs.Names.{white}
use Rattle.slices.specs.Part.{part_of}
use Rattle.attributes.specs.Attribute.{piece}
use Rattle.attributes.specs.declared.Piece.{Piece}
use Rattle.attributes.specs.declared.Piece.TheVariants.{Attribute, Close, CloseEmpty, Torn}
use Rattle.prolog.specs.Prolog.{utf, declared_by, declared, encoded_by, encoded, declaration_by, declaration, mark_len, behind_mark, begin_after, begin, begin_refusal}

-- "The place of an item is the index of its first byte"
unfoldable pub Placed : ℕ → Result ℕ ℕ → Type 0
Placed before (Ok n) = Unit {0}
Placed before (Err p) = p ≡ before

module _ (before : ℕ) (s : List ℕ) where
  declared-placed : (a : ℕ) → Placed before (declared before s a)
  unfolding declared declared_by Placed
  declared-placed a =
      let e = a + run white (drop a s) in
      by_cond (Placed before) (eqb (byte s e) 0x3F) (by_cond (Placed before) (eqb (byte s (e + 1)) 0x3E) tt refl) refl

  encoded-placed : (a : ℕ) (x : Piece) → Placed before (encoded_by before s a x)
  unfolding encoded_by Placed
  encoded-placed a (Attribute w n v m e) =
      by_cond (Placed before) (same (part_of (drop a s) w n) (text "encoding"))
      (by_cond (Placed before) (utf (part_of (drop a s) v m)) (declared-placed (a + e)) refl)
      refl
  encoded-placed a (Close n) = declared-placed a
  encoded-placed a (CloseEmpty n) = declared-placed a
  encoded-placed a Torn = declared-placed a

  declaration-placed : (x : Piece) → Placed before (declaration_by before s x)
  unfolding declaration_by encoded Placed
  declaration-placed (Attribute w n v m e) =
      by_cond (Placed before) (same (part_of (drop 5 s) w n) (text "version"))
      (by_cond (Placed before) (same (part_of (drop 5 s) v m) (text "1.0")) (encoded-placed (5 + e) (piece (drop (5 + e) s))) refl)
      refl
  declaration-placed (Close n) = refl
  declaration-placed (CloseEmpty n) = refl
  declaration-placed Torn = refl

after-placed : (before m : ℕ) (x : Result ℕ ℕ) → Placed before x → Placed before (behind_mark m x)
unfolding behind_mark Placed
after-placed before m (Ok n) h = tt
after-placed before m (Err p) h = h

-- the refusal's place is that of the declaration, right after the mark
pub begin-placed : (doc : List ℕ) → Placed (mark_len doc) (begin doc)
unfolding begin begin_after declaration Placed
begin-placed doc =
    let m = mark_len doc in
    let s = drop m doc in
    by_cond (Placed m) (begins (text "<?xml") s) (after-placed m m (declaration m s) (declaration-placed m s (piece (drop 5 s)))) tt

pub mark-three : (doc : List ℕ) → (mark_len doc ≡ 0) ⊎ (mark_len doc ≡ 3)
unfolding mark_len
mark-three doc = by_cond (λ n. (n ≡ 0) ⊎ (n ≡ 3)) (begins (0xEF ∷ 0xBB ∷ 0xBF ∷ []) doc) (inr refl) (inl refl)

-- where no declaration stands after the mark, the first item does
pub undeclared : (doc : List ℕ) → begins (text "<?xml") (drop (mark_len doc) doc) ≡ false → begin doc ≡ Ok (mark_len doc)
unfolding begin begin_after
undeclared doc h = rw h refl

module _ (doc : List ℕ) (p : ℕ) (e : begin doc ≡ Err p) where
  pub refused-at : p ≡ mark_len doc
  unfolding Placed
  refused-at = rw e at (begin-placed doc)

  pub refused-place : (p ≡ 0) ⊎ (p ≡ 3)
  refused-place = rw refused-at (mark-three doc)

  pub refused-declaration : begins (text "<?xml") (drop p doc) ≡ true
  refused-declaration =
      rw refused-at (⊎_elim (λ y. y)
      (λ n. let w : Ok (mark_len doc) ≡ Err p = rw (undeclared doc n) at e in absurd (zero-not-one (cc)))
      (bool_cases (begins (text "<?xml") (drop (mark_len doc) doc))))

-- "An XML declaration may stand before the first item .. with anything else in it, it is an unreadable item.": nothing is refused, or it is refused with 2, at the
-- declaration that stands right after the mark
pub first-or-refused : (doc : List ℕ)
    → ((n : ℕ) × (begin doc ≡ Ok n) × (begin_refusal (begin doc) ≡ 0))
    ⊎ ((begin doc ≡ Err (mark_len doc)) × (begin_refusal (begin doc) ≡ 2) × (begins (text "<?xml") (drop (mark_len doc) doc) ≡ true))
first-or-refused doc = go (begin doc) refl
  where
    go : (x : Result ℕ ℕ) → begin doc ≡ x
        → ((n : ℕ) × (x ≡ Ok n) × (begin_refusal x ≡ 0))
        ⊎ ((x ≡ Err (mark_len doc)) × (begin_refusal x ≡ 2) × (begins (text "<?xml") (drop (mark_len doc) doc) ≡ true))
    go (Ok n) e = inl (n, refl, refl)
    go (Err p) e =
        let q = refused-at doc p e in inr (ap (λ (n : ℕ). Err n) q, refl, rw q at (refused-declaration doc p e))
