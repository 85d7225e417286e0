-- What is laid out is read tag by tag. Assumes nothing.
use Prim.Native.Nat.{ℕ, suc, ◌+◌, ◌-◌, ◌≤◌, ◌<◌}
use mathlib.Core.Path.{◌≡◌, refl, sym, ap, ◌∙◌, subst}
use mathlib.Core.List.{List, [], ◌∷◌, ◌++◌, append_assoc}
use mathlib.Core.Bool.{Bool, true, false, cond}
use mathlib.Core.Logic.{⊎_elim}
use native.Mathlib.Omega.{arith}
use lib.Dec.{eqb, leb}
use lib.ListN.{length, take, drop, get_or, length-append, get_or-append}
use lib.Seq.{drop_at, take_at}
use borrow.Author.Tests.{ne_eqb}
use Rattle.lists.proofs.Cases.{leb-cases, never}
use Rattle.slices.specs.Bytes.{byte}
use Rattle.slices.specs.Part.{part_of}
use Rattle.slices.specs.Run.{run}
use Rattle.slices.specs.Text.{text}
use Rattle.slices.proofs.Bytes.{byte-drop}
use Rattle.slices.proofs.Runs.{run_by}
use Rattle.attributes.specs.Names.{name_start, name_byte, white}
use Rattle.attributes.specs.Attribute.{piece_after, piece}
use Rattle.attributes.specs.declared.Piece.TheVariants.{Close, CloseEmpty}
use Rattle.tags.specs.Known.{none_known}
use Rattle.tags.specs.Tail.{Attr, Ends, closed, torn, ends, kept_of, twice}
use Rattle.tags.specs.declared.Known.{Known}
use Rattle.tags.proofs.Ends.{ends_close, ends-empty}
use Rattle.items.specs.Item.{tag_of, tag_item, start_tag, end_close, end_name, end_tag, comment_tag, item}
use Rattle.items.specs.declared.Item.{Item}
use Rattle.items.specs.declared.Item.TheVariants.{Start, Empty, End}
use Rattle.elements.specs.Names.{element_no}
use Rattle.contents.specs.Said.{AttributeValue, Absent, Given, DtdSaid, TagSaid}
use Rattle.contents.specs.Spelled.{dtd_of_tag, said_of_tag, element_in}
use Rattle.layouts.specs.Layout.{element_name, attribute_text, attributes_text, tag_text, end_text, TagWritable}
use Rattle.layouts.proofs.Tags.{Opener, opens-v, opens-scheme, opens-version, opens-release, opens-message, some_left, at-release, at-message, at-v, at-scheme, at-close, attributes_at, attributes-long, Stand, standing, attributes-read, given-said, none-twice, all-kept}
use Rattle.layouts.proofs.Names.{Name, run-stops}

-- ---- a name ends where the layout goes on

pub record Stops (x : List ℕ) : Type 0 where
  pub first : ℕ
  pub rest : List ℕ
  pub is : x ≡ first ∷ rest
  pub other : name_byte first ≡ false

stops_as : {x y : List ℕ} → x ≡ y → Stops y → Stops x
stops_as e s = record { first = s.first; rest = s.rest; is = e ∙ s.is; other = s.other }

stops-given : {o name : List ℕ} {n : ℕ} → Opener o name n → (a : AttributeValue) (y : List ℕ) → Stops y → Stops (attribute_text o a ++ y)
unfolding attribute_text name_byte
stops-given w Absent y s = s
stops-given {o} w (Given b) y s =
    record { first = 0x20; rest = drop 1 (o ++ ((b ++ (0x22 ∷ [])) ++ y)); is = append_assoc o (b ++ (0x22 ∷ [])) y ∙ w.spaced ((b ++ (0x22 ∷ [])) ++ y); other = refl }

stops-attributes : (a : TagSaid) (y : List ℕ) → Stops y → Stops (attributes_text a ++ y)
unfolding attributes_text
stops-attributes a y s =
    let x1 = attribute_text (text " DtdVersion=\"") a.dtd.version in
    let x2 = attribute_text (text " DtdRelease=\"") a.dtd.release in
    let x3 = attribute_text (text " DtdBDEWNachrichtenVersion=\"") a.dtd.message in
    let x4 = attribute_text (text " v=\"") a.v in
    let x5 = attribute_text (text " codingScheme=\"") a.scheme in
    stops_as (append_assoc x1 (x2 ++ (x3 ++ (x4 ++ x5))) y)
    (stops-given opens-version a.dtd.version _
    (stops_as (append_assoc x2 (x3 ++ (x4 ++ x5)) y)
    (stops-given opens-release a.dtd.release _
    (stops_as (append_assoc x3 (x4 ++ x5) y)
    (stops-given opens-message a.dtd.message _
    (stops_as (append_assoc x4 x5 y)
    (stops-given opens-v a.v _ (stops-given opens-scheme a.scheme y s))))))))

-- ---- how a tag is closed

pub record Closing (close : List ℕ) (empty : Bool) : Type 0 where
  pub reads : (s : List ℕ) (j : ℕ) (r : List ℕ) → drop j s ≡ close ++ r → ends s j ≡ closed [] empty (j + length close)
  pub stops : (r : List ℕ) → Stops (close ++ r)

pub closes-empty : Closing (text "/>") true
unfolding name_byte piece piece_after run white byte
closes-empty =
    record {
      reads = λ s j r e. ends-empty s j (drop j s) refl (piece (drop j s)) refl 2 (some_left s j _ (ap length e) (omega arith)) (ap piece e);
      stops = λ r. record { first = 0x2F; rest = 0x3E ∷ r; is = refl; other = refl };
    }

pub closes-start : Closing (text ">") false
unfolding name_byte piece piece_after run white byte
closes-start =
    record {
      reads = λ s j r e. ends_close s j (drop j s) refl (piece (drop j s)) refl 1 (some_left s j _ (ap length e) (omega arith)) (ap piece e);
      stops = λ r. record { first = 0x3E; rest = r; is = refl; other = refl };
    }

-- ---- a name at the front

pub start-range : (c : ℕ) → name_start c ≡ true → 0x41 ≤ c
unfolding name_start
start-range c e =
    ⊎_elim
    (λ (y : (0x61 ≤ c) × (leb 0x61 c ≡ true)). omega (arith, y.0))
    (λ (y : (c < 0x61) × (leb 0x61 c ≡ false)).
    ⊎_elim (λ (z : (0x41 ≤ c) × (leb 0x41 c ≡ true)). z.0) (λ (z : (c < 0x41) × (leb 0x41 c ≡ false)). never (rw (y.1, z.1) at e)) (leb-cases 0x41 c))
    (leb-cases 0x61 c)

some-name : (n : List ℕ) → name_start (byte n 0) ≡ true → 0 < length n
unfolding byte name_start
some-name [] e = never e
some-name (c ∷ t) e = omega arith

module _ {n : List ℕ} (w : Name n) (x : List ℕ) where
  first-kept : byte (n ++ x) 0 ≡ byte n 0
  unfolding byte
  first-kept = get_or-append n x 0 0 (some-name n w.starts)

  pub name-starts : name_start (byte (n ++ x) 0) ≡ true
  name-starts = ap name_start first-kept ∙ w.starts

  name-first : 0x41 ≤ byte (n ++ x) 0
  name-first = start-range _ name-starts

  name_runs : Stops x → run name_byte (n ++ x) ≡ length n
  name_runs s = ap (λ (l : List ℕ). run name_byte (n ++ l)) s.is ∙ run-stops name_byte n s.first s.rest w.runs s.other

-- ---- a tag

byte_next : (b : ℕ) (l : List ℕ) → byte (b ∷ l) 1 ≡ byte l 0
unfolding byte
byte_next b l = refl

byte-third : (a b : ℕ) (l : List ℕ) → byte (a ∷ b ∷ l) 2 ≡ byte l 0
unfolding byte
byte-third a b l = refl

byte-front : (b : ℕ) (l : List ℕ) → byte (b ∷ l) 0 ≡ b
unfolding byte
byte-front b l = refl

no_name : name_byte 0x3E ≡ false
unfolding name_byte
no_name = refl

no-white : white 0x3E ≡ false
unfolding white
no-white = refl

opens : (before : ℕ) (l : List ℕ)
    → item before (0x3C ∷ l) ≡ cond (eqb (byte l 0) 0x2F) (end_tag before (0x3C ∷ l)) (cond (eqb (byte l 0) 0x21) (comment_tag before (0x3C ∷ l)) (start_tag before (0x3C ∷ l)))
unfolding item byte
opens before l = refl

module _ {n : List ℕ} (w : Name n) (a : TagSaid) (t : TagWritable a) {close : List ℕ} {empty : Bool} (c : Closing close empty) (r : List ℕ) where
  abbrev pub behind_name : List ℕ
  behind_name = attributes_text a ++ (close ++ r)

  abbrev pub laid_tag : List ℕ
  laid_tag = 0x3C ∷ (n ++ behind_name)

  pub behind-name : drop (1 + length n) laid_tag ≡ behind_name
  behind-name = let z : 1 + length n ≡ suc (length n) = omega arith in rw z (drop_at n behind_name (length n) refl)

  pub stands : Stand a laid_tag (1 + length n) (close ++ r)
  stands = standing a laid_tag (1 + length n) (close ++ r) behind-name

  abbrev pub tag_end : ℕ
  tag_end = at-close a (1 + length n) + length close

  abbrev pub tag_known : Known
  tag_known = kept_of none_known (attributes_at a (1 + length n))

  pub tag_read : (before : ℕ) → item before laid_tag ≡ cond empty (Empty (tag_of (length n) tag_known tag_end)) (Start (tag_of (length n) tag_known tag_end))
  unfolding start_tag tag_item
  tag_read before =
      let f = name-first w behind_name in
      let slash = ne_eqb (byte (n ++ behind_name) 0) 0x2F (λ z. omega (arith, z, f)) in
      let bang = ne_eqb (byte (n ++ behind_name) 0) 0x21 (λ z. omega (arith, z, f)) in
      let start : name_start (byte laid_tag 1) ≡ true = ap name_start (byte_next 0x3C (n ++ behind_name)) ∙ name-starts w behind_name in
      let long : run name_byte (drop 1 laid_tag) ≡ length n = name_runs w behind_name (stops-attributes a (close ++ r) (c.stops r)) in
      let e : ends laid_tag (1 + length n) ≡ closed (attributes_at a (1 + length n)) empty tag_end =
      attributes-read a laid_tag (1 + length n) (close ++ r) stands t (c.reads laid_tag (at-close a (1 + length n)) r stands.behind) in
      opens before (n ++ behind_name) ∙ rw (slash, bang, start, long, e, none-twice a (1 + length n)) refl

  -- ---- what it says

  said-as : (v : AttributeValue) (scheme : AttributeValue) (version release message : AttributeValue) → v ≡ a.v → scheme ≡ a.scheme → version ≡ a.dtd.version
      → release ≡ a.dtd.release → message ≡ a.dtd.message
      → ◌≡◌ {A = TagSaid} (record { v = v; scheme = scheme; dtd = record { version = version; release = release; message = message }; others = false; passable = true }) a
  said-as v scheme version release message e1 e2 e3 e4 e5 = rw (e1, e2, e3, e4, e5, ← t.others, ← t.passable) refl

  pub tag-said : said_of_tag (tag_of (length n) tag_known tag_end) laid_tag ≡ a
  unfolding said_of_tag dtd_of_tag tag_of
  tag-said =
      let i = 1 + length n in
      let k = all-kept a i in
      ap (λ (x : Known). said_of_tag (tag_of (length n) x tag_end) laid_tag) k.kept
      ∙ said-as _ _ _ _ _
      (given-said opens-v laid_tag (at-v a i) a.v _ stands.v)
      (given-said opens-scheme laid_tag (at-scheme a i) a.scheme _ stands.scheme)
      (given-said opens-version laid_tag i a.dtd.version _ stands.version)
      (given-said opens-release laid_tag (at-release a i) a.dtd.release _ stands.release)
      (given-said opens-message laid_tag (at-message a i) a.dtd.message _ stands.message)

  pub tag-named : element_in 1 (length n) laid_tag ≡ element_no n
  unfolding element_in part_of
  tag-named = ap element_no (take_at n behind_name (length n) refl)

  pub tag-long : tag_end ≡ length (0x3C ∷ (n ++ (attributes_text a ++ close)))
  tag-long =
      let l = attributes-long a (1 + length n) in
      let p = length-append n (attributes_text a ++ close) in
      let q = length-append (attributes_text a) close in
      omega (arith, l, p, q)

-- ---- an end tag

module _ {n : List ℕ} (w : Name n) (r : List ℕ) where
  abbrev pub laid_end : List ℕ
  laid_end = 0x3C ∷ 0x2F ∷ (n ++ (0x3E ∷ r))

  behind-end : drop (2 + length n) laid_end ≡ 0x3E ∷ r
  behind-end = let z : 2 + length n ≡ suc (suc (length n)) = omega arith in rw z (drop_at n (0x3E ∷ r) (length n) refl)

  pub end_read : (before : ℕ) → item before laid_end ≡ End (length n) (length n + 3)
  unfolding end_tag end_name end_close
  end_read before =
      let start : name_start (byte laid_end 2) ≡ true = ap name_start (byte-third 0x3C 0x2F (n ++ (0x3E ∷ r))) ∙ name-starts w (0x3E ∷ r) in
      let long : run name_byte (drop 2 laid_end) ≡ length n = run-stops name_byte n 0x3E r w.runs no_name in
      let none : run white (drop (2 + length n) laid_end) ≡ 0 = ap (run white) behind-end ∙ run_by white 0x3E r no-white in
      let at : byte laid_end (2 + length n + 0) ≡ 0x3E =
      ap (byte laid_end) (omega arith) ∙ sym (byte-drop laid_end (2 + length n) 0) ∙ ap (λ (l : List ℕ). byte l 0) behind-end ∙ byte-front 0x3E r in
      let k : 2 + length n + 0 + 1 ≡ length n + 3 = omega arith in
      ends_so before ∙ rw (start, long, none, at) (ap (End (length n)) k)
    where
      ends_so : (before : ℕ) → item before laid_end ≡ end_tag before laid_end
      ends_so before = opens before (0x2F ∷ (n ++ (0x3E ∷ r))) ∙ rw (byte-front 0x2F (n ++ (0x3E ∷ r))) refl

  pub end-named : element_in 2 (length n) laid_end ≡ element_no n
  unfolding element_in part_of
  end-named = ap element_no (take_at n (0x3E ∷ r) (length n) refl)
