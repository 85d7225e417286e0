-- The sheet with other identifications: by a rule that is one-to-one, so that the promise has an instance; and by one that is not. Assumes nothing.
use Prim.Native.Nat.{ℕ, ◌+◌}
use mathlib.Core.Path.{◌≡◌, refl, sym, ◌∙◌}
use mathlib.Core.List.{List, [], ◌∷◌}
use mathlib.Core.Bool.{Bool, true, false, cond}
use mathlib.Core.Logic.{◌⊎◌, inl, inr, ⊎_elim}
use native.Mathlib.Omega.{arith}
use lib.Dec.{leb, ltb}
use lib.ListN.{length}
use borrow.Author.Tests.{leb-true, ltb-true}
use Rattle.lists.proofs.Cases.{bool_cases, both_true, never}
use Rattle.slices.specs.Bytes.{byte}
use Rattle.slices.specs.Part.{part_of}
use Rattle.slices.specs.Run.{run}
use Rattle.slices.specs.Walk.{walk}
use Rattle.slices.specs.Text.{text}
use Rattle.slices.specs.declared.Span.{Span}
use Rattle.characters.specs.Utf8.{seq_len, control, single, char_at}
use Rattle.characters.specs.Says.{char_next, chars_over, all_chars, said_by, said_at, says_after, says, met, char_of}
use Rattle.attributes.specs.Attribute.{quote}
use Rattle.reader.specs.Rows.{quoted}
use Rattle.notes.specs.declared.Shape.TheVariants.{Old}
use Rattle.reader.specs.Answer.{read_of}
use Rattle.digits.specs.Items.{InSpan}
use Rattle.digits.specs.Identifications.{id_byte, PutFor}
use Rattle.blindness.specs.Renamed.{identifications_in, OneSpan, IdsReplaced, Renamed}
use Rattle.blindness.proofs.Renamed.{renamed-same}
use Rattle.promises.specs.Sheet.{sheet, sheet_outcome, renamed_sheet, twice_sheet}
use Rattle.promises.proofs.Digits.{alongside, along}
use Rattle.promises.proofs.Examples.{first_id, second_id, sheet-read, sheet-ids}

-- ---- a place of one of these values

in_one : List Span → ℕ → Bool
in_one [] p = false
in_one (v ∷ vs) p = cond (cond (leb v.start p) (ltb p (v.start + v.len)) false) true (in_one vs p)

in-one : (vs : List Span) (p : ℕ) → in_one vs p ≡ true → (v : Span) × OneSpan v vs × InSpan p v
unfolding in_one
in-one [] p h = never h
in-one (v ∷ vs) p h =
    ⊎_elim
    (λ (y : cond (leb v.start p) (ltb p (v.start + v.len)) false ≡ true).
    let b = both_true (leb v.start p) y in (v, inl refl, (leb-true v.start p b.0, ltb-true p (v.start + v.len) b.1)))
    (λ (y : cond (leb v.start p) (ltb p (v.start + v.len)) false ≡ false). let r = in-one vs p (rw y at h) in (r.0, inr r.1, r.2))
    (bool_cases (cond (leb v.start p) (ltb p (v.start + v.len)) false))

-- ---- a document with two identifications: a and b, for which c and d are put

module _ (x y : List ℕ) (ids : identifications_in x ≡ first_id ∷ second_id ∷ []) (alone : alongside (in_one (first_id ∷ second_id ∷ [])) 0 x y ≡ true) (long : length x ≡ length y)
    (a b c d : List ℕ) (first : quoted first_id x ≡ a) (second : quoted second_id x ≡ b) (first' : quoted first_id y ≡ c) (second' : quoted second_id y ≡ d) where
  abbrev Two : Span → Type 0
  Two v = (v ≡ first_id) ⊎ ((v ≡ second_id) ⊎ ⊥)

  two : (v : Span) → OneSpan v (identifications_in x) → Two v
  two v m = rw ids at m

  two-replaced : PutFor a c → PutFor b d → IdsReplaced x y
  two-replaced p q =
      record {
        long = long;
        places = λ k. ⊎_elim inl (λ h. let z = in-one (first_id ∷ second_id ∷ []) k h in inr (z.0, rw ids z.1, z.2)) (along (in_one (first_id ∷ second_id ∷ [])) x y alone k);
        values = λ v m. by v (two v m);
      }
    where
      by : (v : Span) → Two v → PutFor (quoted v x) (quoted v y)
      by v (inl e) = rw (e, first, first') p
      by v (inr (inl e)) = rw (e, second, second') q
      by v (inr (inr e)) = absurd e

  two-renamed : PutFor a c → PutFor b d → (a ≡ b → ⊥) → (c ≡ d → ⊥) → Renamed x y
  two-renamed p q ab cd = record { replaced = two-replaced p q; one-to-one = λ v w m n. by v w (two v m) (two w n) }
    where
      Same : Span → Span → Type 0
      Same v w = (quoted v x ≡ quoted w x → quoted v y ≡ quoted w y) × (quoted v y ≡ quoted w y → quoted v x ≡ quoted w x)

      by : (v w : Span) → Two v → Two w → Same v w
      by v w (inl e) (inl f) = rw (e, f) (λ z. refl, λ z. refl)
      by v w (inl e) (inr (inl f)) = rw (e, f, first, second, first', second') (λ z. absurd (ab z), λ z. absurd (cd z))
      by v w (inr (inl e)) (inl f) = rw (e, f, first, second, first', second') (λ z. absurd (ab (sym z)), λ z. absurd (cd (sym z)))
      by v w (inr (inl e)) (inr (inl f)) = rw (e, f) (λ z. refl, λ z. refl)
      by v w (inl e) (inr (inr f)) = absurd f
      by v w (inr (inl e)) (inr (inr f)) = absurd f
      by v w (inr (inr e)) u = absurd e

-- ---- the sheet

put_first : PutFor (text "S1") (text "XX")
unfolding all_chars walk char_next chars_over char_at seq_len single control byte says says_after met char_of said_at said_by run id_byte quote
put_first = record { before = record { legal = refl; bytes = refl }; after = record { legal = refl; bytes = refl }; bytes = refl; characters = refl }

put_second : PutFor (text "S2") (text "XY")
unfolding all_chars walk char_next chars_over char_at seq_len single control byte says says_after met char_of said_at said_by run id_byte quote
put_second = record { before = record { legal = refl; bytes = refl }; after = record { legal = refl; bytes = refl }; bytes = refl; characters = refl }

put_same : PutFor (text "S2") (text "XX")
unfolding all_chars walk char_next chars_over char_at seq_len single control byte says says_after met char_of said_at said_by run id_byte quote
put_same = record { before = record { legal = refl; bytes = refl }; after = record { legal = refl; bytes = refl }; bytes = refl; characters = refl }

other_last : (b c d : ℕ) → ◌≡◌ {A = List ℕ} (b ∷ c ∷ []) (b ∷ d ∷ []) → c ≡ d
other_last b c d e = cc

pub sheet-renamed : Renamed sheet renamed_sheet
unfolding alongside in_one quoted part_of
sheet-renamed =
    two-renamed sheet renamed_sheet sheet-ids refl refl (text "S1") (text "S2") (text "XX") (text "XY") refl refl refl refl put_first put_second
    (λ e. let z = other_last 0x53 0x31 0x32 e in omega (arith, z))
    (λ e. let z = other_last 0x58 0x58 0x59 e in omega (arith, z))

-- so it is accepted as the sheet is
pub renamed-read : read_of renamed_sheet 25 4 4 Old 16 ≡ sheet_outcome
renamed-read = sym (renamed-same sheet renamed_sheet sheet-renamed 25 4 4 Old 16) ∙ sheet-read

pub sheet-twice : IdsReplaced sheet twice_sheet
unfolding alongside in_one quoted part_of
sheet-twice = two-replaced sheet twice_sheet sheet-ids refl refl (text "S1") (text "S2") (text "XX") (text "XX") refl refl refl refl put_first put_same
