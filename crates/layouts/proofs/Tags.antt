-- A tag as it is laid out is read as that tag. Assumes nothing.
use Prim.Native.Nat.{ℕ, suc, ◌+◌, ◌-◌, ◌≤◌, ◌<◌}
use mathlib.Core.Path.{◌≡◌, refl, sym, ap, ◌∙◌}
use mathlib.Core.List.{List, [], ◌∷◌, ◌++◌, append_assoc, append-nil}
use mathlib.Core.Bool.{Bool, true, false, cond}
use native.Mathlib.Omega.{arith}
use lib.Dec.{eqb}
use lib.ListN.{length, take, drop, get_or, length-append, length-drop}
use lib.Seq.{drop-append-add, drop_at, take_at, drop-drop, take-append_seam}
use Rattle.slices.specs.Bytes.{byte}
use Rattle.slices.specs.Part.{part_of}
use Rattle.slices.specs.Run.{run}
use Rattle.slices.specs.Same.{same}
use Rattle.slices.specs.Text.{text}
use Rattle.slices.specs.declared.Span.{Span}
use Rattle.attributes.specs.Names.{name_start, name_byte, white}
use Rattle.attributes.specs.Attribute.{quote, value, opening, opening_from, attribute_end, attribute_quote, attribute_name, attribute, piece_after, piece}
use Rattle.attributes.specs.declared.Piece.{Piece}
use Rattle.attributes.specs.declared.Piece.TheVariants.{Attribute, Close, CloseEmpty, Torn}
use Rattle.tags.specs.Known.{absent, no_dtd, with_dtd, none_known, up_to_two, with_attribute, dtd_name}
use Rattle.tags.specs.Tail.{Attr, Ends, closed, torn, onto, ends, kept_of, named, twice}
use Rattle.tags.specs.declared.Known.{Known}
use Rattle.tags.specs.declared.Dtd.{Dtd}
use Rattle.tags.proofs.Ends.{ends-attribute, ends_close, ends-empty}
use borrow.Author.Tests.{ne_eqb}
use Rattle.states.specs.Attributes.{there}
use Rattle.contents.specs.Said.{AttributeValue, Absent, Given, DtdSaid, TagSaid}
use Rattle.contents.specs.Spelled.{value_given, dtd_of_tag, said_of_tag}
use Rattle.layouts.specs.Layout.{element_name, attribute_text, attributes_text, tag_text, end_text, Quotable, QuotableIn, TagWritable}

-- ---- what opens a value, of the five names

-- n is the length of the name
pub record Opener (o name : List ℕ) (n : ℕ) : Type 0 where
  pub reads : (u : List ℕ) → piece (o ++ u) ≡ attribute_end 1 n (n + 3) (value 0x22 u)
  pub names : (u : List ℕ) → part_of (o ++ u) 1 n ≡ name
  pub long : length o ≡ n + 3
  pub spaced : (u : List ℕ) → o ++ u ≡ 0x20 ∷ drop 1 (o ++ u)

pub opens-v : Opener (text " v=\"") (text "v") 1
unfolding piece piece_after run white attribute name_start attribute_name name_byte opening opening_from attribute_quote quote byte part_of
opens-v = record { reads = λ u. refl; names = λ u. refl; long = refl; spaced = λ u. refl }

pub opens-scheme : Opener (text " codingScheme=\"") (text "codingScheme") 12
unfolding piece piece_after run white attribute name_start attribute_name name_byte opening opening_from attribute_quote quote byte part_of
opens-scheme = record { reads = λ u. refl; names = λ u. refl; long = refl; spaced = λ u. refl }

pub opens-version : Opener (text " DtdVersion=\"") (text "DtdVersion") 10
unfolding piece piece_after run white attribute name_start attribute_name name_byte opening opening_from attribute_quote quote byte part_of
opens-version = record { reads = λ u. refl; names = λ u. refl; long = refl; spaced = λ u. refl }

pub opens-release : Opener (text " DtdRelease=\"") (text "DtdRelease") 10
unfolding piece piece_after run white attribute name_start attribute_name name_byte opening opening_from attribute_quote quote byte part_of
opens-release = record { reads = λ u. refl; names = λ u. refl; long = refl; spaced = λ u. refl }

pub opens-message : Opener (text " DtdBDEWNachrichtenVersion=\"") (text "DtdBDEWNachrichtenVersion") 25
unfolding piece piece_after run white attribute name_start attribute_name name_byte opening opening_from attribute_quote quote byte part_of
opens-message = record { reads = λ u. refl; names = λ u. refl; long = refl; spaced = λ u. refl }

-- ---- the attributes, one after the other

-- where the value of an attribute stands that begins at i, with a name of n bytes
abbrev pub span_at : ℕ → ℕ → AttributeValue → Span
span_at i n Absent = absent
span_at i n (Given b) = record { start = i + (n + 3); len = length b }

abbrev pub with_given : List ℕ → ℕ → ℕ → AttributeValue → List Attr → List Attr
with_given name i n Absent more = more
with_given name i n (Given b) more = record { name = name; value = record { start = i + (n + 3); len = length b } } ∷ more

abbrev pub onto_given : List ℕ → ℕ → ℕ → AttributeValue → Ends → Ends
onto_given name i n Absent x = x
onto_given name i n (Given b) x = onto (record { name = name; value = record { start = i + (n + 3); len = length b } }) x

quoted-text : (o b r : List ℕ) → (o ++ (b ++ (0x22 ∷ []))) ++ r ≡ o ++ (b ++ (0x22 ∷ r))
quoted-text o b r = append_assoc o (b ++ (0x22 ∷ [])) r ∙ ap (λ (l : List ℕ). o ++ l) (append_assoc b (0x22 ∷ []) r)

-- s goes on with x at i, and with r behind it
pub passes : (s : List ℕ) (i : ℕ) (x r : List ℕ) → drop i s ≡ x ++ r → drop (i + length x) s ≡ r
passes s i x r e = sym (drop-drop (length x) i s) ∙ ap (drop (length x)) e ∙ drop_at x r _ refl

pub some_left : (s : List ℕ) (i n : ℕ) → length (drop i s) ≡ n → 0 < n → i < length s
some_left s i n e h = omega (arith, e, length-drop i s)

module _ {o name : List ℕ} {n : ℕ} (w : Opener o name n) (s : List ℕ) (i : ℕ) where
  given-read : (a : AttributeValue) (r : List ℕ) → QuotableIn a → drop i s ≡ attribute_text o a ++ r → ends s i ≡ onto_given name i n a (ends s (i + length (attribute_text o a)))
  unfolding attribute_text QuotableIn Quotable attribute_end
  given-read Absent r q e = ap (ends s) (omega arith)
  given-read (Given b) r q e =
      ends-attribute s i (drop i s) refl (piece (drop i s)) refl 1 n (n + 3) (length b) (n + 3 + length b + 1) inside seen (omega arith)
      ∙ ap (λ (l : List ℕ). onto (record { name = l; value = record { start = i + (n + 3); len = length b } }) (ends s (i + (n + 3 + length b + 1)))) name-is
      ∙ ap (λ (k : ℕ). onto_given name i n (Given b) (ends s k)) next
    where
      t : List ℕ
      t = b ++ (0x22 ∷ r)

      here : drop i s ≡ o ++ t
      here = e ∙ quoted-text o b r

      inside : i < length s
      inside = some_left s i (length (o ++ t)) (ap length here) (let a = length-append o t in let l = w.long in omega (arith, a, l))

      seen : piece (drop i s) ≡ Attribute 1 n (n + 3) (length b) (n + 3 + length b + 1)
      seen = ap piece here ∙ w.reads t ∙ ap (attribute_end 1 n (n + 3)) (q r)

      name-is : part_of (drop i s) 1 n ≡ name
      name-is = ap (λ (l : List ℕ). part_of l 1 n) here ∙ w.names t

      next : i + (n + 3 + length b + 1) ≡ i + length (o ++ (b ++ (0x22 ∷ [])))
      next = let a = length-append o (b ++ (0x22 ∷ [])) in let c = length-append b (0x22 ∷ []) in let l = w.long in omega (arith, a, c, l)

  pub given-said : (a : AttributeValue) (r : List ℕ) → drop i s ≡ attribute_text o a ++ r → value_given (span_at i n a) s ≡ a
  unfolding attribute_text value_given there absent part_of
  given-said Absent r e = refl
  given-said (Given b) r e =
      let f : drop (i + (n + 3)) s ≡ b ++ (0x22 ∷ r) = ap (λ (k : ℕ). drop (i + k) s) (sym w.long) ∙ passes s i o (b ++ (0x22 ∷ r)) (e ∙ quoted-text o b r) in
      rw (ne_eqb (i + (n + 3)) 0 (λ z. omega (arith, z))) (ap Given (ap (take (length b)) f ∙ take-append_seam b (0x22 ∷ r)))

-- the places of the five, from i on
module _ (a : TagSaid) (i : ℕ) where
  abbrev pub at-release : ℕ
  at-release = i + length (attribute_text (text " DtdVersion=\"") a.dtd.version)

  abbrev pub at-message : ℕ
  at-message = at-release + length (attribute_text (text " DtdRelease=\"") a.dtd.release)

  abbrev pub at-v : ℕ
  at-v = at-message + length (attribute_text (text " DtdBDEWNachrichtenVersion=\"") a.dtd.message)

  abbrev pub at-scheme : ℕ
  at-scheme = at-v + length (attribute_text (text " v=\"") a.v)

  abbrev pub at-close : ℕ
  at-close = at-scheme + length (attribute_text (text " codingScheme=\"") a.scheme)

  abbrev pub attributes_at : List Attr
  attributes_at =
      with_given (text "DtdVersion") i 10 a.dtd.version
      (with_given (text "DtdRelease") at-release 10 a.dtd.release
      (with_given (text "DtdBDEWNachrichtenVersion") at-message 25 a.dtd.message
      (with_given (text "v") at-v 1 a.v
      (with_given (text "codingScheme") at-scheme 12 a.scheme []))))

  pub attributes-long : at-close ≡ i + length (attributes_text a)
  unfolding attributes_text
  attributes-long =
      let x1 = attribute_text (text " DtdVersion=\"") a.dtd.version in
      let x2 = attribute_text (text " DtdRelease=\"") a.dtd.release in
      let x3 = attribute_text (text " DtdBDEWNachrichtenVersion=\"") a.dtd.message in
      let x4 = attribute_text (text " v=\"") a.v in
      let x5 = attribute_text (text " codingScheme=\"") a.scheme in
      let l1 = length-append x1 (x2 ++ (x3 ++ (x4 ++ x5))) in
      let l2 = length-append x2 (x3 ++ (x4 ++ x5)) in
      let l3 = length-append x3 (x4 ++ x5) in
      let l4 = length-append x4 x5 in
      omega (arith, l1, l2, l3, l4)

onto-closed : (name : List ℕ) (i n : ℕ) (a : AttributeValue) (more : List Attr) (empty : Bool) (e : ℕ)
    → onto_given name i n a (closed more empty e) ≡ closed (with_given name i n a more) empty e
unfolding onto
onto-closed name i n Absent more empty e = refl
onto-closed name i n (Given b) more empty e = refl

-- what stands at each of the places: s goes on with the attributes at i, and with r behind them
pub record Stand (a : TagSaid) (s : List ℕ) (i : ℕ) (r : List ℕ) : Type 0 where
  pub release-on : List ℕ
  pub message-on : List ℕ
  pub v-on : List ℕ
  pub scheme-on : List ℕ
  pub version : drop i s ≡ attribute_text (text " DtdVersion=\"") a.dtd.version ++ release-on
  pub release : drop (at-release a i) s ≡ attribute_text (text " DtdRelease=\"") a.dtd.release ++ message-on
  pub message : drop (at-message a i) s ≡ attribute_text (text " DtdBDEWNachrichtenVersion=\"") a.dtd.message ++ v-on
  pub v : drop (at-v a i) s ≡ attribute_text (text " v=\"") a.v ++ scheme-on
  pub scheme : drop (at-scheme a i) s ≡ attribute_text (text " codingScheme=\"") a.scheme ++ r
  pub behind : drop (at-close a i) s ≡ r

pub standing : (a : TagSaid) (s : List ℕ) (i : ℕ) (r : List ℕ) → drop i s ≡ attributes_text a ++ r → Stand a s i r
unfolding attributes_text
standing a s i r e =
    let x1 = attribute_text (text " DtdVersion=\"") a.dtd.version in
    let x2 = attribute_text (text " DtdRelease=\"") a.dtd.release in
    let x3 = attribute_text (text " DtdBDEWNachrichtenVersion=\"") a.dtd.message in
    let x4 = attribute_text (text " v=\"") a.v in
    let x5 = attribute_text (text " codingScheme=\"") a.scheme in
    let e1 = e ∙ append_assoc x1 (x2 ++ (x3 ++ (x4 ++ x5))) r in
    let e2 = passes s i x1 _ e1 ∙ append_assoc x2 (x3 ++ (x4 ++ x5)) r in
    let e3 = passes s (at-release a i) x2 _ e2 ∙ append_assoc x3 (x4 ++ x5) r in
    let e4 = passes s (at-message a i) x3 _ e3 ∙ append_assoc x4 x5 r in
    let e5 = passes s (at-v a i) x4 _ e4 in
    record {
      release-on = (x2 ++ (x3 ++ (x4 ++ x5))) ++ r;
      message-on = (x3 ++ (x4 ++ x5)) ++ r;
      v-on = (x4 ++ x5) ++ r;
      scheme-on = x5 ++ r;
      version = e1;
      release = e2;
      message = e3;
      v = e4;
      scheme = e5;
      behind = passes s (at-scheme a i) x5 r e5;
    }

module _ (a : TagSaid) (s : List ℕ) (i : ℕ) (r : List ℕ) (st : Stand a s i r) where
  pub attributes-read : TagWritable a → {empty : Bool} {e : ℕ} → ends s (at-close a i) ≡ closed [] empty e → ends s i ≡ closed (attributes_at a i) empty e
  attributes-read w {empty = empty} {e = e} z =
      let scheme : List Attr = with_given (text "codingScheme") (at-scheme a i) 12 a.scheme [] in
      let v : List Attr = with_given (text "v") (at-v a i) 1 a.v scheme in
      let message : List Attr = with_given (text "DtdBDEWNachrichtenVersion") (at-message a i) 25 a.dtd.message v in
      let release : List Attr = with_given (text "DtdRelease") (at-release a i) 10 a.dtd.release message in
      let g5 =
      given-read opens-scheme s (at-scheme a i) a.scheme r w.scheme st.scheme
      ∙ ap (onto_given (text "codingScheme") (at-scheme a i) 12 a.scheme) z
      ∙ onto-closed (text "codingScheme") (at-scheme a i) 12 a.scheme [] empty e in
      let g4 =
      given-read opens-v s (at-v a i) a.v _ w.v st.v
      ∙ ap (onto_given (text "v") (at-v a i) 1 a.v) g5
      ∙ onto-closed (text "v") (at-v a i) 1 a.v scheme empty e in
      let g3 =
      given-read opens-message s (at-message a i) a.dtd.message _ w.message st.message
      ∙ ap (onto_given (text "DtdBDEWNachrichtenVersion") (at-message a i) 25 a.dtd.message) g4
      ∙ onto-closed (text "DtdBDEWNachrichtenVersion") (at-message a i) 25 a.dtd.message v empty e in
      let g2 =
      given-read opens-release s (at-release a i) a.dtd.release _ w.release st.release
      ∙ ap (onto_given (text "DtdRelease") (at-release a i) 10 a.dtd.release) g3
      ∙ onto-closed (text "DtdRelease") (at-release a i) 10 a.dtd.release message empty e in
      given-read opens-version s i a.dtd.version _ w.version st.version
      ∙ ap (onto_given (text "DtdVersion") i 10 a.dtd.version) g2
      ∙ onto-closed (text "DtdVersion") i 10 a.dtd.version release empty e

-- ---- none of them stands twice

named_other : (n name : List ℕ) (i k : ℕ) (a : AttributeValue) (more : List Attr) → same n name ≡ false → named n (with_given name i k a more) ≡ named n more
unfolding named
named_other n name i k Absent more e = refl
named_other n name i k (Given b) more e = rw e refl

twice-other : (name : List ℕ) (i k : ℕ) (a : AttributeValue) (more : List Attr) → named name more ≡ false → twice more ≡ false → twice (with_given name i k a more) ≡ false
unfolding twice
twice-other name i k Absent more e t = t
twice-other name i k (Given b) more e t = rw e t

pub none-twice : (a : TagSaid) (i : ℕ) → twice (attributes_at a i) ≡ false
unfolding same named twice
none-twice a i =
    let scheme : List Attr = with_given (text "codingScheme") (at-scheme a i) 12 a.scheme [] in
    let v : List Attr = with_given (text "v") (at-v a i) 1 a.v scheme in
    let message : List Attr = with_given (text "DtdBDEWNachrichtenVersion") (at-message a i) 25 a.dtd.message v in
    let release : List Attr = with_given (text "DtdRelease") (at-release a i) 10 a.dtd.release message in
    let last : (n : List ℕ) → same n (text "codingScheme") ≡ false → named n scheme ≡ false = λ n e. named_other n (text "codingScheme") (at-scheme a i) 12 a.scheme [] e in
    let two : (n : List ℕ) → same n (text "v") ≡ false → same n (text "codingScheme") ≡ false → named n v ≡ false = λ n e f. named_other n (text "v") (at-v a i) 1 a.v scheme e ∙ last n f in
    let three : (n : List ℕ) → same n (text "DtdBDEWNachrichtenVersion") ≡ false → same n (text "v") ≡ false → same n (text "codingScheme") ≡ false → named n message ≡ false =
    λ n d e f. named_other n (text "DtdBDEWNachrichtenVersion") (at-message a i) 25 a.dtd.message v d ∙ two n e f in
    let four : named (text "DtdVersion") release ≡ false =
    named_other (text "DtdVersion") (text "DtdRelease") (at-release a i) 10 a.dtd.release message refl ∙ three (text "DtdVersion") refl refl refl in
    twice-other (text "DtdVersion") i 10 a.dtd.version release four
    (twice-other (text "DtdRelease") (at-release a i) 10 a.dtd.release message (three (text "DtdRelease") refl refl refl)
    (twice-other (text "DtdBDEWNachrichtenVersion") (at-message a i) 25 a.dtd.message v (two (text "DtdBDEWNachrichtenVersion") refl refl)
    (twice-other (text "v") (at-v a i) 1 a.v scheme (last (text "v") refl)
    (twice-other (text "codingScheme") (at-scheme a i) 12 a.scheme [] refl refl))))

-- ---- what is kept of them

abbrev pub known : Span → Span → Span → Span → Span → ℕ → Known
known v coding version release message many =
    record { v = v; coding = coding; dtd = record { version = version; release = release; message = message }; others = false; passable = true; many = many }

abbrev pub counted : AttributeValue → ℕ → ℕ
counted Absent k = k
counted (Given b) k = up_to_two k

module _ (i : ℕ) (v c ver rel mes : Span) (k : ℕ) (more : List Attr) where
  keeps-version : (a : AttributeValue) → kept_of (known v c absent rel mes k) (with_given (text "DtdVersion") i 10 a more) ≡ kept_of (known v c (span_at i 10 a) rel mes (counted a k)) more
  unfolding kept_of with_attribute dtd_name with_dtd same
  keeps-version Absent = refl
  keeps-version (Given b) = refl

  keeps-release : (a : AttributeValue) → kept_of (known v c ver absent mes k) (with_given (text "DtdRelease") i 10 a more) ≡ kept_of (known v c ver (span_at i 10 a) mes (counted a k)) more
  unfolding kept_of with_attribute dtd_name with_dtd same
  keeps-release Absent = refl
  keeps-release (Given b) = refl

  keeps-message : (a : AttributeValue) → kept_of (known v c ver rel absent k) (with_given (text "DtdBDEWNachrichtenVersion") i 25 a more) ≡ kept_of (known v c ver rel (span_at i 25 a) (counted a k)) more
  unfolding kept_of with_attribute dtd_name with_dtd same
  keeps-message Absent = refl
  keeps-message (Given b) = refl

  keeps-v : (a : AttributeValue) → kept_of (known absent c ver rel mes k) (with_given (text "v") i 1 a more) ≡ kept_of (known (span_at i 1 a) c ver rel mes (counted a k)) more
  unfolding kept_of with_attribute dtd_name with_dtd same
  keeps-v Absent = refl
  keeps-v (Given b) = refl

  keeps-scheme : (a : AttributeValue) → kept_of (known v absent ver rel mes k) (with_given (text "codingScheme") i 12 a more) ≡ kept_of (known v (span_at i 12 a) ver rel mes (counted a k)) more
  unfolding kept_of with_attribute dtd_name with_dtd same
  keeps-scheme Absent = refl
  keeps-scheme (Given b) = refl

-- n is how many are counted
pub record Keeps (a : TagSaid) (i : ℕ) (k : Known) : Type 0 where
  pub n : ℕ
  pub kept : k ≡ known (span_at (at-v a i) 1 a.v) (span_at (at-scheme a i) 12 a.scheme) (span_at i 10 a.dtd.version) (span_at (at-release a i) 10 a.dtd.release)
      (span_at (at-message a i) 25 a.dtd.message) n

pub all-kept : (a : TagSaid) (i : ℕ) → Keeps a i (kept_of none_known (attributes_at a i))
unfolding none_known no_dtd kept_of
all-kept a i =
    record {
      n = _;
      kept =
          keeps-version i absent absent absent absent absent 0 _ a.dtd.version
          ∙ keeps-release (at-release a i) absent absent _ absent absent _ _ a.dtd.release
          ∙ keeps-message (at-message a i) absent absent _ _ absent _ _ a.dtd.message
          ∙ keeps-v (at-v a i) absent absent _ _ _ _ _ a.v
          ∙ keeps-scheme (at-scheme a i) _ absent _ _ _ _ _ a.scheme;
    }
