-- What is promised of escaped texts and unescaped values. Assumes nothing.
--     says-escaped       an escaped text says its characters, `&` for itself
--     escaped-whole      between double quotes it is read up to its end
--     written-attribute  so that an attribute written ` name="text"` is read as that attribute
--     unescaped-escaped  unescaped again it is the text
--     escaped-one        two texts that are escaped alike are one
--     unescaped-chars    the characters of an unescaped value are those that the value says
--     unescaped-legal    and are XML characters in UTF-8
--     says-again         escaped again, they are said again
--     a-value            every text of XML characters in UTF-8 is a readable value, unescaped
--     values-alone       and no other text is
use Prim.Native.Nat.{ℕ, ◌+◌}
use mathlib.Core.Path.{◌≡◌, refl, sym, ap, ◌∙◌}
use mathlib.Core.List.{List, [], ◌∷◌, ◌++◌}
use mathlib.Core.Bool.{true}
use native.Mathlib.Nat.{zero-add}
use native.Mathlib.Omega.{arith}
use lib.ListN.{length, take}
use lib.Seq.{take-append_seam}
use Rattle.std.specs.Prelude.{Some}
use Rattle.slices.specs.Run.{run}
use Rattle.characters.specs.Says.{all_chars, says}
use Rattle.attributes.specs.Names.{name_start, name_byte}
use Rattle.attributes.specs.Attribute.{quote, value, attribute_end, piece}
use Rattle.attributes.specs.declared.Piece.TheVariants.{Attribute}
use Rattle.attributes.proofs.Values.{quote-range}
use Rattle.escapes.specs.Escaped.{escaped}
use Rattle.escapes.specs.Spelled.{spelled, unescaped, chars_of}
use Rattle.escapes.proofs.Texts.{Xml, spelled-chars, spelled-all, text-xml, text-spelled}
use Rattle.escapes.proofs.Standing.{escaped-says, escaped-value}
use Rattle.escapes.proofs.Values.{value-xml}
use Rattle.escapes.proofs.Attributes.{named-piece}

module _ (t : List ℕ) (legal : all_chars t ≡ true) where
  -- "a lent text of the unescaped header values and identifications": what is written says the characters of the text
  pub says-escaped : says (escaped t) ≡ chars_of t
  says-escaped = ap (λ (s : List ℕ). says (escaped s)) (sym (text-spelled t legal)) ∙ escaped-says (chars_of t) (text-xml t legal)

  -- "double quotes": whatever follows the closing one
  pub escaped-whole : (r : List ℕ) → value 0x22 (escaped t ++ 0x22 ∷ r) ≡ Some (length (escaped t))
  unfolding value
  escaped-whole r =
      ap (λ (s : List ℕ). value 0x22 (escaped s ++ 0x22 ∷ r)) (sym (text-spelled t legal))
      ∙ escaped-value (chars_of t) r 0 (text-xml t legal)
      ∙ ap Some (zero-add (length (escaped (spelled (chars_of t)))))
      ∙ ap (λ (s : List ℕ). Some (length (escaped s))) (text-spelled t legal)

  -- behind b and n, the bytes of a name
  pub written-attribute : (b : ℕ) (n r : List ℕ) → name_start b ≡ true → run name_byte (b ∷ n) ≡ length (b ∷ n)
      → piece (0x20 ∷ b ∷ n ++ 0x3D ∷ 0x22 ∷ (escaped t ++ 0x22 ∷ r))
      ≡ Attribute 1 (length (b ∷ n)) (length (b ∷ n) + 3) (length (escaped t)) (length (b ∷ n) + 3 + length (escaped t) + 1)
  unfolding attribute_end
  written-attribute b n r starts named =
      named-piece b n (escaped t ++ 0x22 ∷ r) starts named ∙ ap (attribute_end 1 (length (b ∷ n)) (length (b ∷ n) + 3)) (escaped-whole r)

  -- and what is written can be read
  pub unescaped-escaped : unescaped (escaped t) ≡ t
  unfolding unescaped
  unescaped-escaped = ap spelled says-escaped ∙ text-spelled t legal

pub escaped-one : (t u : List ℕ) → all_chars t ≡ true → all_chars u ≡ true → escaped t ≡ escaped u → t ≡ u
escaped-one t u l m e = sym (unescaped-escaped t l) ∙ ap unescaped e ∙ unescaped-escaped u m

-- a readable value, of m bytes at the front of x up to the quote q
module _ (q : ℕ) (x : List ℕ) (m : ℕ) (quotes : quote q ≡ true) (whole : value q x ≡ Some m) where
  xml : Xml (says (take m x))
  xml = value-xml q (let r = quote-range q quotes in omega (arith, r.1)) x m whole

  -- an unescaped value has what the value says
  pub unescaped-chars : chars_of (unescaped (take m x)) ≡ says (take m x)
  unfolding unescaped
  unescaped-chars = spelled-chars (says (take m x)) xml

  pub unescaped-legal : all_chars (unescaped (take m x)) ≡ true
  unfolding unescaped
  unescaped-legal = spelled-all (says (take m x)) xml

  -- so that what was read can be written: it "gives back the same .. texts"
  pub says-again : says (escaped (unescaped (take m x))) ≡ says (take m x)
  says-again = says-escaped (unescaped (take m x)) unescaped-legal ∙ unescaped-chars

-- the text t is a readable value, unescaped: of `size` bytes at the front of `from`, up to the quote `mark`
pub record Unescapes (t : List ℕ) : Type 0 where
  pub mark : ℕ
  pub from : List ℕ
  pub size : ℕ
  pub quotes : quote mark ≡ true
  pub whole : value mark from ≡ Some size
  pub text : unescaped (take size from) ≡ t

-- "refuses exactly when no document .. would be accepted": of a text, as far as its characters go
pub a-value : (t : List ℕ) → all_chars t ≡ true → Unescapes t
unfolding quote
a-value t legal =
    record {
      mark = 0x22;
      from = escaped t ++ 0x22 ∷ [];
      size = length (escaped t);
      quotes = refl;
      whole = escaped-whole t legal [];
      text = ap unescaped (take-append_seam (escaped t) (0x22 ∷ [])) ∙ unescaped-escaped t legal;
    }

pub values-alone : {t : List ℕ} → Unescapes t → all_chars t ≡ true
values-alone u = ap all_chars (sym u.text) ∙ unescaped-legal u.mark u.from u.size u.quotes u.whole
