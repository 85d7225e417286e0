-- A tag as it is written is read as that tag: its name, and its attributes each with its name and value. Assumes nothing.
use Prim.Native.Nat.{ℕ, suc, ◌+◌, ◌≤◌, ◌<◌}
use mathlib.Core.Path.{◌≡◌, refl, sym, ap, ◌∙◌}
use mathlib.Core.List.{List, [], ◌∷◌, ◌++◌, append_assoc}
use mathlib.Core.Bool.{Bool, true, false}
use mathlib.Core.Logic.{⊎_elim}
use native.Mathlib.Omega.{arith}
use lib.Dec.{ltb, leb}
use lib.ListN.{length, take, drop, length-append}
use lib.Seq.{take-append_seam, drop-drop}
use borrow.Author.Tests.{lt-leb, lt-ltb, ne_eqb, ltb-false}
use Rattle.std.specs.Prelude.{Some}
use Rattle.lists.proofs.Cases.{leb-cases, past-cond, never}
use Rattle.slices.specs.Bytes.{byte}
use Rattle.slices.specs.Part.{part_of}
use Rattle.slices.specs.Run.{run}
use Rattle.slices.proofs.Bytes.{byte-drop}
use Rattle.attributes.specs.Names.{name_start, name_byte, white}
use Rattle.attributes.specs.Attribute.{quote, value, opening_from, opening, attribute_end, attribute_quote, attribute_name, attribute, piece_after, piece}
use Rattle.attributes.specs.declared.Piece.TheVariants.{Attribute, Close, CloseEmpty}
use Rattle.attributes.proofs.Values.{quote-range}
use Rattle.tags.specs.Tail.{Attr, closed, onto, ends}
use Rattle.tags.proofs.Ends.{attr, ends-attribute, ends_close, ends-empty}
use Rattle.items.specs.Item.{tag_item, start_tag, end_tag, end_name, end_close, item}
use Rattle.items.specs.declared.Item.TheVariants.{End}
use Rattle.likeness.specs.Alike.{White, Written, attribute_bytes, attributes_bytes, WrittenTag, close_bytes, tag_bytes, end_bytes, IsName, WellWritten, AllWell, WellTag}
use Rattle.likeness.proofs.Runs.{all_first, run_on, behind, byte-behind}
use Rattle.likeness.proofs.Values.{value_on}

-- ---- bytes

not_white : (b : ℕ) → 0x20 < b → white b ≡ false
unfolding white
not_white b h = rw (lt-ltb 0x20 b h)

white_low : (b : ℕ) → white b ≡ true → b ≤ 0x20
unfolding white
white_low b e = let p = past-cond (ltb 0x20 b) (λ z. never z) e in ltb-false 0x20 b p.0

white-unnamed : (b : ℕ) → white b ≡ true → name_byte b ≡ false
unfolding name_byte
white-unnamed b e =
    let l = white_low b e in
    rw (lt-leb 0x61 b (omega arith), lt-leb 0x41 b (omega arith), lt-leb 0x30 b (omega arith), lt-leb 0x2D b (omega arith))

-- a name begins with a letter or `_`, all behind 40
start-high : (b : ℕ) → name_start b ≡ true → 0x41 ≤ b
unfolding name_start
start-high b e =
    ⊎_elim
    (λ (y : (0x61 ≤ b) × (leb 0x61 b ≡ true)). omega (arith, y.0))
    (λ (y : (b < 0x61) × (leb 0x61 b ≡ false)).
    ⊎_elim
    (λ (z : (0x41 ≤ b) × (leb 0x41 b ≡ true)). z.0)
    (λ (z : (b < 0x41) × (leb 0x41 b ≡ false)). never (rw (y.1, z.1) at e))
    (leb-cases 0x41 b))
    (leb-cases 0x61 b)

-- the first byte of a name, whatever is behind it
pub name-front : (n r : List ℕ) → IsName n → name_start (byte (n ++ r) 0) ≡ true
unfolding byte name_start
name-front [] r h = never h.first
name-front (c ∷ n) r h = h.first

-- white space, and then a byte of no name
white-then : (w r : List ℕ) → White w → name_byte (byte r 0) ≡ false → name_byte (byte (w ++ r) 0) ≡ false
unfolding byte
white-then [] r e f = f
white-then (c ∷ w) r e f = white-unnamed c (all_first white c w e).0

-- ---- a piece by its parts

-- w bytes of white space, a name of n, l, `=`, r, the quote q and a value of m bytes
module _ (s : List ℕ) (w n l r m q : ℕ) where
  piece-by : run white s ≡ w → 0 < w → name_start (byte s w) ≡ true → run name_byte (drop w s) ≡ n → run white (drop (w + n) s) ≡ l
      → byte s (w + n + l) ≡ 0x3D → run white (drop (w + n + l + 1) s) ≡ r → byte s (w + n + l + 1 + r) ≡ q → quote q ≡ true
      → value q (drop (w + n + l + 1 + r + 1) s) ≡ Some m
      → piece s ≡ Attribute w n (w + n + l + 1 + r + 1) m (w + n + l + 1 + r + 1 + m + 1)
  unfolding piece piece_after attribute attribute_name opening opening_from attribute_quote attribute_end
  piece-by ew some start en el ee er eq qq ev =
      let high = start-high (byte s w) start in
      rw (
        ew,
        ne_eqb (byte s w) 0x3E (λ z. omega arith),
        ne_eqb (byte s w) 0x2F (λ z. omega arith),
        ne_eqb w 0 (λ z. omega arith),
        start,
        en,
        el,
        ee,
        er,
        eq,
        qq,
        ev,
      )

piece-closed : (s : List ℕ) (w : ℕ) → run white s ≡ w → byte s w ≡ 0x3E → piece s ≡ Close (w + 1)
unfolding piece piece_after
piece-closed s w ew e = rw (ew, e)

piece-emptied : (s : List ℕ) (w : ℕ) → run white s ≡ w → byte s w ≡ 0x2F → byte s (w + 1) ≡ 0x3E → piece s ≡ CloseEmpty (w + 2)
unfolding piece piece_after
piece-emptied s w ew e f = rw (ew, e, f)

-- ---- an attribute

byte-by : (s : List ℕ) (i : ℕ) {t : List ℕ} → drop i s ≡ t → byte s i ≡ byte t 0
byte-by s i {t} e = let z : i ≡ i + 0 = omega arith in ap (byte s) z ∙ sym (byte-drop s i 0) ∙ ap (λ (l : List ℕ). byte l 0) e

module _ (a : Written) (ok : WellWritten a) (rest : List ℕ) where
  abbrev b : ℕ
  b = length a.before

  abbrev n : ℕ
  n = length a.name

  abbrev l : ℕ
  l = length a.left

  abbrev r : ℕ
  r = length a.right

  abbrev from_mark : List ℕ
  from_mark = a.mark ∷ (a.value ++ (a.mark ∷ rest))

  abbrev from_right : List ℕ
  from_right = a.right ++ from_mark

  abbrev from_left : List ℕ
  from_left = a.left ++ (0x3D ∷ from_right)

  abbrev from_name : List ℕ
  from_name = a.name ++ from_left

  abbrev here : List ℕ
  here = a.before ++ from_name

  spelt : attribute_bytes a ++ rest ≡ here
  unfolding attribute_bytes
  spelt = simp append_assoc

  -- what stands k bytes behind the name
  behind-name : (k : ℕ) → drop (b + n + k) here ≡ drop k from_left
  behind-name k = behind a.before from_name (b + n + k) (n + k) (omega arith) ∙ behind a.name from_left (n + k) k refl

  behind-equals : (k : ℕ) → drop (b + n + l + 1 + k) here ≡ drop k from_right
  behind-equals k =
      let e : b + n + l + 1 + k ≡ b + n + (l + suc k) = omega arith in
      ap (λ (j : ℕ). drop j here) e ∙ behind-name (l + suc k) ∙ behind a.left (0x3D ∷ from_right) (l + suc k) (suc k) refl

  -- where the value starts, and how many bytes the attribute takes
  abbrev starts : ℕ
  starts = b + n + l + 1 + r + 1

  at_value : drop starts here ≡ a.value ++ (a.mark ∷ rest)
  at_value =
      let e : starts ≡ b + n + l + 1 + (r + 1) = omega arith in
      ap (λ (j : ℕ). drop j here) e ∙ behind-equals (r + 1) ∙ behind a.right from_mark (r + 1) 1 refl

  attribute-size : length (attribute_bytes a) ≡ starts + length a.value + 1
  unfolding attribute_bytes
  attribute-size = simp length-append (omega arith)

  attribute-piece : piece here ≡ Attribute b n starts (length a.value) (starts + length a.value + 1)
  unfolding byte white name_byte
  attribute-piece =
      let z : b ≡ b + 0 = omega arith in
      let front = name-front a.name from_left ok.name in
      let d : drop b here ≡ from_name = behind a.before from_name b 0 z in
      let dn : drop (b + n) here ≡ from_left = (let e : b + n ≡ b + n + 0 = omega arith in ap (λ (j : ℕ). drop j here) e) ∙ behind-name 0 in
      let dl : drop (b + n + l) here ≡ 0x3D ∷ from_right = behind-name l ∙ behind a.left (0x3D ∷ from_right) l 0 (omega arith) in
      let de : drop (b + n + l + 1) here ≡ from_right = (let e : b + n + l + 1 ≡ b + n + l + 1 + 0 = omega arith in ap (λ (j : ℕ). drop j here) e) ∙ behind-equals 0 in
      let dr : drop (b + n + l + 1 + r) here ≡ from_mark = behind-equals r ∙ behind a.right from_mark r 0 (omega arith) in
      piece-by here b n l r (length a.value) a.mark
      (run_on white a.before from_name ok.before (not_white (byte from_name 0) (let h = start-high (byte from_name 0) front in omega arith)))
      ok.some
      (ap name_start (byte-by here b d) ∙ front)
      (ap (run name_byte) d ∙ run_on name_byte a.name from_left ok.name.all (white-then a.left (0x3D ∷ from_right) ok.left refl))
      (ap (run white) dn ∙ run_on white a.left (0x3D ∷ from_right) ok.left refl)
      (byte-by here (b + n + l) dl)
      (ap (run white) de ∙ run_on white a.right from_mark ok.right (not_white a.mark (let q = quote-range a.mark ok.mark in omega (arith, q.0))))
      (byte-by here (b + n + l + 1 + r) dr)
      ok.mark
      (ap (value a.mark) at_value ∙ value_on a.mark a.value rest ok.mark ok.value)

  name-part : part_of here b n ≡ a.name
  unfolding part_of
  name-part = ap (take n) (behind a.before from_name b 0 (omega arith)) ∙ take-append_seam a.name from_left

  value-part : part_of here starts (length a.value) ≡ a.value
  unfolding part_of
  value-part = ap (take (length a.value)) at_value ∙ take-append_seam a.value (a.mark ∷ rest)

-- ---- the attributes

-- what was read is what is written
pub record Tells (s : List ℕ) (x : Attr) (a : Written) : Type 0 where
  pub name : x.name ≡ a.name
  pub value : part_of s x.value.start x.value.len ≡ a.value
  pub there : 0 < x.value.start

pub data TellsAll (s : List ℕ) : List Attr → List Written → Type 0 where
  none : TellsAll s [] []
  next : {x : Attr} {a : Written} {xs : List Attr} {more : List Written} → Tells s x a → TellsAll s xs more → TellsAll s (x ∷ xs) (a ∷ more)

-- from the place behind `pre` on
pub record ReadAs (s : List ℕ) (at : ℕ) (more : List Written) (empty : Bool) (end : ℕ) : Type 0 where
  pub attributes : List Attr
  pub closes : ends s at ≡ closed attributes empty end
  pub tells : TellsAll s attributes more

module _ (s : List ℕ) (last : List ℕ) (w : White last) (r : List ℕ) where
  close-read : (empty : Bool) (pre : List ℕ) → s ≡ pre ++ (last ++ (close_bytes empty ++ r)) → ReadAs s (length pre) [] empty (length pre + length (last ++ close_bytes empty))
  unfolding close_bytes byte white
  close-read false pre e =
      let n = length last in
      let t = last ++ (0x3E ∷ r) in
      let et : t ≡ drop (length pre) s = sym (ap (drop (length pre)) e ∙ behind pre t (length pre) 0 (omega arith)) in
      let whole : s ≡ pre ++ (last ++ (0x3E ∷ r)) = e in
      let size : length s ≡ length pre + (n + suc (length r)) = ap length whole ∙ simp length-append in
      let p = piece-closed t n (run_on white last (0x3E ∷ r) w refl) (byte-behind last (0x3E ∷ r) n 0 (omega arith)) in
      let f : length pre + (n + 1) ≡ length pre + length (last ++ (0x3E ∷ [])) = ap (λ (k : ℕ). length pre + k) (sym (length-append last (0x3E ∷ []))) in
      record { attributes = []; closes = ends_close s (length pre) t et (piece t) refl (n + 1) (omega arith) p ∙ ap (closed [] false) f; tells = none }
  close-read true pre e =
      let n = length last in
      let t = last ++ (0x2F ∷ (0x3E ∷ r)) in
      let et : t ≡ drop (length pre) s = sym (ap (drop (length pre)) e ∙ behind pre t (length pre) 0 (omega arith)) in
      let whole : s ≡ pre ++ (last ++ (0x2F ∷ (0x3E ∷ r))) = e in
      let size : length s ≡ length pre + (n + suc (suc (length r))) = ap length whole ∙ simp length-append in
      let p = piece-emptied t n (run_on white last (0x2F ∷ (0x3E ∷ r)) w refl) (byte-behind last (0x2F ∷ (0x3E ∷ r)) n 0 (omega arith)) (byte-behind last (0x2F ∷ (0x3E ∷ r)) (n + 1) 1 refl) in
      let f : length pre + (n + 2) ≡ length pre + length (last ++ (0x2F ∷ (0x3E ∷ []))) = ap (λ (k : ℕ). length pre + k) (sym (length-append last (0x2F ∷ (0x3E ∷ [])))) in
      record { attributes = []; closes = ends-empty s (length pre) t et (piece t) refl (n + 2) (omega arith) p ∙ ap (closed [] true) f; tells = none }

  attributes-read : (empty : Bool) (more : List Written) → AllWell more → (pre : List ℕ) → s ≡ pre ++ (attributes_bytes more ++ (last ++ (close_bytes empty ++ r)))
      → ReadAs s (length pre) more empty (length pre + length (attributes_bytes more ++ (last ++ close_bytes empty)))
  unfolding attributes_bytes AllWell onto part_of
  attributes-read empty [] ok pre e = close-read empty pre e
  attributes-read empty (a ∷ more) ok pre e =
      let i = length pre in
      let m = length a.value in
      let z = attributes_bytes more ++ (last ++ (close_bytes empty ++ r)) in
      let t = here a ok.0 z in
      let v = starts a ok.0 z in
      let x = attr i t (length a.before) (length a.name) v m in
      let es : s ≡ pre ++ (attribute_bytes a ++ z) =
      e ∙ ap (λ (l : List ℕ). pre ++ l) (append_assoc (attribute_bytes a) (attributes_bytes more) (last ++ (close_bytes empty ++ r))) in
      let et : t ≡ drop i s = sym (ap (drop i) es ∙ behind pre (attribute_bytes a ++ z) i 0 (omega arith) ∙ spelt a ok.0 z) in
      let size = attribute-size a ok.0 z in
      let long : length s ≡ i + (length (attribute_bytes a) + length z) = ap length es ∙ simp length-append in
      let rest = attributes-read empty more ok.1 (pre ++ attribute_bytes a) (es ∙ sym (append_assoc pre (attribute_bytes a) z)) in
      let at : i + (v + m + 1) ≡ length (pre ++ attribute_bytes a) = sym (length-append pre (attribute_bytes a) ∙ ap (λ (k : ℕ). i + k) size) in
      let end : length (pre ++ attribute_bytes a) + length (attributes_bytes more ++ (last ++ close_bytes empty))
      ≡ i + length ((attribute_bytes a ++ attributes_bytes more) ++ (last ++ close_bytes empty)) = simp length-append (omega arith) in
      record {
        attributes = x ∷ rest.attributes;
        closes =
            ends-attribute s i t et (piece t) refl (length a.before) (length a.name) v m (v + m + 1) (omega arith) (attribute-piece a ok.0 z) (omega arith)
            ∙ ap (λ (j : ℕ). onto x (ends s j)) at
            ∙ ap (onto x) rest.closes
            ∙ ap (closed (x ∷ rest.attributes) empty) end;
        tells =
            next {x = x}
            (record {
              name = name-part a ok.0 z;
              value = ap (take m) (sym (drop-drop v i s) ∙ ap (drop v) (sym et)) ∙ value-part a ok.0 z;
              there = omega arith;
            })
            rest.tells;
      }

-- ---- the tag

pub record TagRead (t : WrittenTag) (empty : Bool) (r : List ℕ) : Type 0 where
  pub attributes : List Attr
  pub is : item 0 (tag_bytes t empty ++ r) ≡ tag_item 0 (length t.name) (closed attributes empty (length (tag_bytes t empty)))
  pub tells : TellsAll (tag_bytes t empty ++ r) attributes t.attributes

module _ (last : List ℕ) (w : White last) (empty : Bool) (r : List ℕ) where
  close-unnamed : (empty : Bool) → name_byte (byte (close_bytes empty ++ r) 0) ≡ false
  unfolding close_bytes byte name_byte
  close-unnamed true = refl
  close-unnamed false = refl

  -- no byte of a name stands behind the name
  unnamed : (more : List Written) → AllWell more → name_byte (byte (attributes_bytes more ++ (last ++ (close_bytes empty ++ r))) 0) ≡ false
  unfolding attributes_bytes AllWell byte
  unnamed [] ok = white-then last (close_bytes empty ++ r) w (close-unnamed empty)
  unnamed (a ∷ more) ok =
      ap (λ (l : List ℕ). name_byte (byte l 0)) (append_assoc (attribute_bytes a) (attributes_bytes more) (last ++ (close_bytes empty ++ r)))
      ∙ ap (λ (l : List ℕ). name_byte (byte l 0)) (spelt a ok.0 (attributes_bytes more ++ (last ++ (close_bytes empty ++ r))))
      ∙ first a.before _ ok.0.some ok.0.before
    where
      first : (u l : List ℕ) → 0 < length u → White u → name_byte (byte (u ++ l) 0) ≡ false
      first [] l h e = absurd (omega arith)
      first (c ∷ u) l h e = white-unnamed c (all_first white c u e).0

module _ (name z : List ℕ) (ok : IsName name) (behind-it : name_byte (byte z 0) ≡ false) where
  start-item : item 0 (0x3C ∷ (name ++ z)) ≡ tag_item 0 (length name) (ends (0x3C ∷ (name ++ z)) (1 + length name))
  unfolding item start_tag byte
  start-item =
      let f = name-front name z ok in
      let h = start-high (byte (name ++ z) 0) f in
      rw (ne_eqb (byte (name ++ z) 0) 0x2F (λ y. omega arith), ne_eqb (byte (name ++ z) 0) 0x21 (λ y. omega arith), f, run_on name_byte name z ok.all behind-it)

module _ (t : WrittenTag) (ok : WellTag t) (empty : Bool) (r : List ℕ) where
  abbrev pub behind_name : List ℕ
  behind_name = attributes_bytes t.attributes ++ (t.last ++ (close_bytes empty ++ r))

  pub tag-spelt : tag_bytes t empty ++ r ≡ 0x3C ∷ (t.name ++ behind_name)
  unfolding tag_bytes
  tag-spelt = simp append_assoc

  pub tag_read : TagRead t empty r
  unfolding tag_bytes
  tag_read =
      let s : List ℕ = 0x3C ∷ (t.name ++ behind_name) in
      let pre : List ℕ = 0x3C ∷ t.name in
      let a = attributes-read s t.last ok.last r empty t.attributes ok.attributes pre refl in
      let one : 1 + length t.name ≡ length pre = omega arith in
      let all = attributes_bytes t.attributes ++ (t.last ++ close_bytes empty) in
      let end : length pre + length all ≡ suc (length (t.name ++ all)) = simp length-append (omega arith) in
      record {
        attributes = a.attributes;
        is =
            ap (item 0) tag-spelt
            ∙ start-item t.name behind_name ok.name (unnamed t.last ok.last empty r t.attributes ok.attributes)
            ∙ ap (λ (n : ℕ). tag_item 0 (length t.name) (ends s n)) one
            ∙ ap (tag_item 0 (length t.name)) (a.closes ∙ ap (closed a.attributes empty) end);
        tells = rw tag-spelt a.tells;
      }

-- ---- an end tag

module _ (n w r : List ℕ) (name : IsName n) (space : White w) where
  pub end-spelt : end_bytes n w ++ r ≡ 0x3C ∷ (0x2F ∷ (n ++ (w ++ (0x3E ∷ r))))
  unfolding end_bytes
  end-spelt = simp append_assoc

  pub end_read : item 0 (end_bytes n w ++ r) ≡ End (length n) (length (end_bytes n w))
  unfolding item end_tag end_name end_close end_bytes byte white name_byte
  end_read =
      let z : List ℕ = w ++ (0x3E ∷ r) in
      let pre : List ℕ = 0x3C ∷ (0x2F ∷ n) in
      let k = length n in
      let m = length w in
      let run-name = run_on name_byte n z name.all (white-then w (0x3E ∷ r) space refl) in
      let run-white : run white (drop (2 + k) (pre ++ z)) ≡ m = ap (run white) (behind pre z (2 + k) 0 (omega arith)) ∙ run_on white w (0x3E ∷ r) space refl in
      let close : byte (pre ++ z) (2 + k + m) ≡ 0x3E = byte-behind pre z (2 + k + m) m (omega arith) ∙ byte-behind w (0x3E ∷ r) m 0 (omega arith) in
      let size : 2 + k + m + 1 ≡ suc (suc (length (n ++ (w ++ (0x3E ∷ []))))) = simp length-append (omega arith) in
      ap (item 0) end-spelt ∙ rw (name-front n z name, run-name, run-white, close) (ap (End k) size)
