-- The name of an attribute, told by its place alone: it lies in the tag, and is as long as the run of its bytes. Assumes nothing.
use Prim.Native.Nat.{ℕ, ◌+◌, ◌<◌}
use mathlib.Core.Path.{◌≡◌, sym, ap, ◌∙◌}
use mathlib.Core.List.{List}
use mathlib.Core.Bool.{true}
use mathlib.Core.Logic.{⊎_elim}
use lib.Dec.{eqb}
use lib.ListN.{length, drop, get_or-eq_default}
use Rattle.std.specs.Prelude.{Option, Some, None}
use Rattle.lists.proofs.Cases.{bool_cases, by_cond, past-cond, leb-cases, zero-not-one}
use Rattle.slices.specs.Bytes.{byte}
use Rattle.slices.specs.Run.{run}
use Rattle.attributes.specs.Names.{name_start, name_byte, white}
use Rattle.attributes.specs.Attribute.{quote, opening, value, attribute_end, attribute_quote, attribute_name, attribute, piece_after, piece}
use Rattle.attributes.specs.declared.Piece.{Piece}
use Rattle.attributes.specs.declared.Piece.TheVariants.{Attribute, Close, CloseEmpty, Torn}

module _ (a l v m k : ℕ) where
  not-close : (n : ℕ) → Close n ≡ Attribute a l v m k → ⊥
  not-close n e = zero-not-one (cc)

  not-empty : (n : ℕ) → CloseEmpty n ≡ Attribute a l v m k → ⊥
  not-empty n e = zero-not-one (cc)

  not-torn : Torn ≡ Attribute a l v m k → ⊥
  not-torn e = zero-not-one (cc)

  end-name : (w n o : ℕ) (x : Option ℕ) → attribute_end w n o x ≡ Attribute a l v m k → (w ≡ a) × (n ≡ l)
  unfolding attribute_end
  end-name w n o (Some j) e = ((cc), (cc))
  end-name w n o None e = absurd (not-torn e)

  quote-name : (t : List ℕ) (w n o : ℕ) → attribute_quote t w n o ≡ Attribute a l v m k → (w ≡ a) × (n ≡ l)
  unfolding attribute_quote
  quote-name t w n o e =
      ⊎_elim
      (λ y. end-name w n (o + 1) (value (byte t o) (drop (o + 1) t)) (rw y at e))
      (λ d. absurd (not-torn (rw d at e)))
      (bool_cases (quote (byte t o)))

  -- a name starts with a byte that is there
  start-inside : (t : List ℕ) (w : ℕ) → name_start (byte t w) ≡ true → w < length t
  unfolding byte name_start
  start-inside t w e = ⊎_elim (λ y. let f = rw (get_or-eq_default t 0 y.0) at e in absurd (zero-not-one (cc))) (λ d. d.0) (leb-cases (length t) w)

  attribute-name : (t : List ℕ) (w : ℕ) → attribute t w ≡ Attribute a l v m k → (a < length t) × (l ≡ run name_byte (drop a t))
  unfolding attribute attribute_name
  attribute-name t w e =
      ⊎_elim
      (λ y.
      let q = quote-name t w (run name_byte (drop w t)) (opening t (w + run name_byte (drop w t))) (rw y at e) in
      (rw q.0 at (start-inside t w y), sym q.1 ∙ ap (λ (j : ℕ). run name_byte (drop j t)) q.0))
      (λ d. absurd (not-torn (rw d at e)))
      (bool_cases (name_start (byte t w)))

  pub piece-name : (t : List ℕ) → piece t ≡ Attribute a l v m k → (a < length t) × (l ≡ run name_byte (drop a t))
  unfolding piece piece_after
  piece-name t e =
      let w = run white t in
      let past = (past-cond (eqb (byte t w) 0x3E) (not-close (w + 1)) e).1 in
      let slash =
      (past-cond (eqb (byte t w) 0x2F)
      (by_cond (λ (p : Piece). p ≡ Attribute a l v m k → ⊥) (eqb (byte t (w + 1)) 0x3E) (not-empty (w + 2)) not-torn) past).1 in
      attribute-name t w (past-cond (eqb w 0) not-torn slash).1
