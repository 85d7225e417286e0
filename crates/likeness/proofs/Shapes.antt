-- Every start or empty tag that can be read is a tag as it is written: the definitions leave none out. Assumes nothing.
use Prim.Native.Nat.{ℕ, zero, suc, ◌+◌, ◌≤◌, ◌<◌}
use mathlib.Core.Path.{◌≡◌, refl, sym, ap, subst, ◌∙◌}
use mathlib.Core.List.{List, [], ◌∷◌, ◌++◌, append_assoc}
use mathlib.Core.Bool.{Bool, true, false, cond, not}
use mathlib.Core.Logic.{⊎_elim}
use native.Mathlib.Omega.{arith}
use lib.Dec.{eqb, ltb, leb}
use lib.ListN.{length, take, drop, length-append, length-take, take-append-drop, get_or-append}
use lib.Seq.{length-take-le, drop-drop, get_or_at}
use borrow.Author.Tests.{eqb-true}
use Rattle.std.specs.Prelude.{Some}
use Rattle.lists.proofs.Cases.{bool_cases, ltb-cases, by_cond, never, zero-not-one}
use Rattle.slices.specs.Bytes.{byte}
use Rattle.slices.specs.Run.{run}
use Rattle.slices.specs.Same.{first_at}
use Rattle.slices.specs.Text.{text}
use Rattle.slices.proofs.Bytes.{byte-there, byte-drop, byte-take}
use Rattle.slices.proofs.Runs.{run_by}
use Rattle.characters.specs.Says.{all_chars}
use Rattle.characters.proofs.Low.{by-test}
use Rattle.attributes.specs.Names.{name_start, name_byte, white}
use Rattle.attributes.specs.Attribute.{quote, value, opening_from, opening, attribute, piece_after, piece}
use Rattle.attributes.specs.declared.Piece.{Piece}
use Rattle.attributes.specs.declared.Piece.TheVariants.{Attribute, Close, CloseEmpty, Torn}
use Rattle.attributes.proofs.Values.{quote-range}
use Rattle.tags.specs.Tail.{Attr, Ends, closed, torn, ends_after, ends, twice}
use Rattle.tags.proofs.Ends.{attr}
use Rattle.items.specs.Comment.{comment_to, comment}
use Rattle.items.specs.Text.{text_to, text_item}
use Rattle.items.specs.Item.{tag_item, start_tag, end_tag, end_name, end_close, comment_item, comment_tag, item}
use Rattle.items.specs.declared.Tag.{Tag}
use Rattle.items.specs.declared.Item.{Item}
use Rattle.items.specs.declared.Item.TheVariants.{Start, Empty, End, Text, Comment, Unreadable}
use Rattle.digits.proofs.Near.{value-closes, value-near}
use Rattle.digits.proofs.Spans.{PieceLaid, piece-laid, ends_by, ends-by, onto-closed}
use Rattle.likeness.specs.Alike.{White, Written, attribute_bytes, attributes_bytes, WrittenTag, close_bytes, tag_bytes, Quoted, WellWritten, AllWell, WellTag}
use Rattle.likeness.proofs.Runs.{run-part}

-- ---- the parts of a list

front-is : (s : List ℕ) {b : ℕ} → byte s 0 ≡ b → 0 < b → s ≡ b ∷ drop 1 s
unfolding byte
front-is [] e h = absurd (omega arith)
front-is (c ∷ s) e h = ap (λ (x : ℕ). x ∷ s) e

-- n bytes, and the byte behind them
cut_at : (l : List ℕ) (n : ℕ) {b : ℕ} → byte l n ≡ b → 0 < b → l ≡ take n l ++ (b ∷ drop (n + 1) l)
cut_at l n {b} e h =
    let z : n + 0 ≡ n = omega arith in
    sym (take-append-drop n l)
    ∙ ap (λ (r : List ℕ). take n l ++ r)
    (front-is (drop n l) (byte-drop l n 0 ∙ ap (byte l) z ∙ e) h ∙ ap (λ (r : List ℕ). b ∷ r) (drop-drop 1 n l))

-- a run at the front
all-run : (p : ℕ → Bool) (l : List ℕ) (n : ℕ) → run p l ≡ n → run p (take n l) ≡ length (take n l)
all-run p l n e = run-part p (take n l) (drop n l) (rw (take-append-drop n l) (omega (arith, length-take n l)))

-- a name has a byte
start-named : (b : ℕ) → name_start b ≡ true → name_byte b ≡ true
unfolding name_start name_byte
start-named b e =
    ⊎_elim
    (λ (y : leb 0x61 b ≡ true). rw y (rw y at e))
    (λ (y : leb 0x61 b ≡ false).
    ⊎_elim (λ (z : leb 0x41 b ≡ true). rw (y, z) (rw (y, z) at e)) (λ (z : leb 0x41 b ≡ false). never (rw (y, z) at e)) (bool_cases (leb 0x41 b)))
    (bool_cases (leb 0x61 b))

name-some : (l : List ℕ) → name_start (byte l 0) ≡ true → 0 < run name_byte l
unfolding byte name_start
name-some [] e = never e
name-some (c ∷ l) e = rw (run_by name_byte c l (start-named c e)) (omega arith)

-- a value is whole between its own quotes
quoted-take : (q : ℕ) (x : List ℕ) (m : ℕ) → quote q ≡ true → value q x ≡ Some m → (byte x m ≡ q) × Quoted q (take m x)
unfolding byte
quoted-take q x m t e =
    let r = quote-range q t in
    let small : q < 0x80 = omega (arith, r.1) in
    let c = value-closes q small x m e in
    let l = byte-there x m (sym c) (omega (arith, r.0)) in
    let k = length-take-le m x (omega arith) in
    let y = take m x ++ (q ∷ []) in
    let same : (i : ℕ) → i < m + 1 → byte x i ≡ byte y i =
    λ i g.
    ⊎_elim
    (λ (z : (i < m) × (ltb i m ≡ true)). sym (get_or-append (take m x) (q ∷ []) 0 i (omega (arith, k, z.0)) ∙ byte-take x m i z.0))
    (λ (z : (m ≤ i) × (ltb i m ≡ false)). let u : i ≡ m = omega (arith, z.0) in ap (byte x) u ∙ c ∙ sym (ap (byte y) u ∙ get_or_at (take m x) q [] 0 m k))
    (ltb-cases i m) in
    (c, value-near q small x y m (omega (arith, length-append (take m x) (q ∷ []))) e same ∙ ap Some (sym k))

-- ---- an attribute

-- it is written in front of what is behind it
record WrittenFront (l : List ℕ) (e : ℕ) : Type 0 where
  written : Written
  well : WellWritten written
  bytes : l ≡ attribute_bytes written ++ drop e l

module _ (l : List ℕ) (w n v m e : ℕ) (is : piece l ≡ Attribute w n v m e) where
  -- its name begins as a name
  abbrev Starts : Piece → Type 0
  Starts p = p ≡ Attribute w n v m e → name_start (byte l (run white l)) ≡ true

  starts : Starts (piece l)
  unfolding piece piece_after attribute
  starts =
      by_cond Starts (eqb (byte l (run white l)) 0x3E) (λ q. absurd (zero-not-one (cc)))
      (by_cond Starts (eqb (byte l (run white l)) 0x2F)
      (by_cond Starts (eqb (byte l (run white l + 1)) 0x3E) (λ q. absurd (zero-not-one (cc))) (λ q. absurd (zero-not-one (cc))))
      (by_cond Starts (eqb (run white l) 0) (λ q. absurd (zero-not-one (cc)))
      (by-test Starts (name_start (byte l (run white l))) (λ t q. t) (λ t q. absurd (zero-not-one (cc))))))

  -- and `=` stands before its opening quote
  opened : (a o : ℕ) → opening l a ≡ o → a < o → (byte l (a + run white (drop a l)) ≡ 0x3D) × (o ≡ a + run white (drop a l) + 1 + run white (drop (a + run white (drop a l) + 1) l))
  unfolding opening opening_from
  opened a o q h =
      ⊎_elim
      (λ t. (eqb-true _ _ t, sym (rw t at q)))
      (λ t. let z : 0 ≡ o = rw t at q in absurd (omega arith))
      (bool_cases (eqb (byte l (a + run white (drop a l))) 0x3D))

  attribute-written : WrittenFront l e
  unfolding PieceLaid attribute_bytes
  attribute-written =
      let laid : PieceLaid l (Attribute w n v m e) = rw is at (piece-laid l) in
      let o = laid.0 in
      let a = laid.3 in
      let q = byte l o in
      let big = quote-range q a.quotes in
      let some : 0 < q = omega (arith, big.0) in
      let there = byte-there l o refl some in
      let l1 = drop w l in
      let l2 = drop (w + n) l in
      let k = run white l2 in
      let l4 = drop (w + n + k + 1) l in
      let r = run white l4 in
      let l6 = drop (o + 1) l in
      let equals = opened (w + n) o a.opens a.behind in
      let at : o ≡ w + n + k + 1 + r = equals.1 in
      let whole = quoted-take q l6 m a.quotes a.value in
      let e2 : l1 ≡ take n l1 ++ l2 = sym (take-append-drop n l1) ∙ ap (λ (z : List ℕ). take n l1 ++ z) (drop-drop n w l) in
      let e3 : l2 ≡ take k l2 ++ (0x3D ∷ l4) =
      cut_at l2 k (byte-drop l (w + n) k ∙ equals.0) (omega arith)
      ∙ ap (λ (z : List ℕ). take k l2 ++ (0x3D ∷ z)) (drop-drop (k + 1) (w + n) l ∙ ap (λ (i : ℕ). drop i l) (let z : w + n + (k + 1) ≡ w + n + k + 1 = omega arith in z)) in
      let e4 : l4 ≡ take r l4 ++ (q ∷ l6) =
      cut_at l4 r (byte-drop l (w + n + k + 1) r ∙ ap (byte l) (sym at)) some
      ∙ ap (λ (z : List ℕ). take r l4 ++ (q ∷ z)) (drop-drop (r + 1) (w + n + k + 1) l ∙ ap (λ (i : ℕ). drop i l) (let z : w + n + k + 1 + (r + 1) ≡ o + 1 = omega arith in z)) in
      let e5 : l6 ≡ take m l6 ++ (q ∷ drop e l) =
      cut_at l6 m whole.0 some
      ∙ ap (λ (z : List ℕ). take m l6 ++ (q ∷ z)) (drop-drop (m + 1) (o + 1) l ∙ ap (λ (i : ℕ). drop i l) (let z : o + 1 + (m + 1) ≡ e = omega (arith, laid.1, laid.2) in z)) in
      let z0 : w + 0 ≡ w = omega arith in
      let start : name_start (byte l1 0) ≡ true = ap name_start (byte-drop l w 0 ∙ ap (byte l) z0) ∙ rw a.white at (starts is) in
      let long : 0 < n = rw a.name at (name-some l1 start) in
      let x : Written = record { before = take w l; name = take n l1; left = take k l2; right = take r l4; mark = q; value = take m l6 } in
      record {
        written = x;
        well =
            record {
              some = omega (arith, length-take-le w l (omega (arith, a.behind)), a.some);
              before = all-run white l w a.white;
              name = record { first = ap name_start (byte-take l1 n 0 long) ∙ start; all = all-run name_byte l1 n a.name };
              left = all-run white l2 k refl;
              right = all-run white l4 r refl;
              mark = a.quotes;
              value = whole.1;
            };
        bytes =
            sym (take-append-drop w l)
            ∙ ap (λ (z : List ℕ). take w l ++ z)
            (e2
            ∙ ap (λ (z : List ℕ). take n l1 ++ z)
            (e3 ∙ ap (λ (z : List ℕ). take k l2 ++ (0x3D ∷ z)) (e4 ∙ ap (λ (z : List ℕ). take r l4 ++ (q ∷ z)) e5)))
            ∙ sym (simp append_assoc);
      }

-- ---- the attributes, and `>` or `/>`

record WrittenRest (l : List ℕ) (empty : Bool) : Type 0 where
  attributes : List Written
  well : AllWell attributes
  last : List ℕ
  white : White last
  rest : List ℕ
  bytes : l ≡ attributes_bytes attributes ++ (last ++ (close_bytes empty ++ rest))

closed-rest : (l : List ℕ) → byte l (run white l) ≡ 0x3E → WrittenRest l false
unfolding AllWell attributes_bytes close_bytes
closed-rest l e =
    record { attributes = []; well = tt; last = take (run white l) l; white = all-run white l (run white l) refl; rest = drop (run white l + 1) l; bytes = cut_at l (run white l) e (omega arith) }

emptied-rest : (l : List ℕ) → byte l (run white l) ≡ 0x2F → byte l (run white l + 1) ≡ 0x3E → WrittenRest l true
unfolding AllWell attributes_bytes close_bytes
emptied-rest l e f =
    let w = run white l in
    let z : w + 1 + 0 ≡ w + 1 = omega arith in
    record {
      attributes = [];
      well = tt;
      last = take w l;
      white = all-run white l w refl;
      rest = drop 1 (drop (w + 1) l);
      bytes =
          cut_at l w e (omega arith)
          ∙ ap (λ (r : List ℕ). take w l ++ (0x2F ∷ r)) (front-is (drop (w + 1) l) (byte-drop l (w + 1) 0 ∙ ap (byte l) z ∙ f) (omega arith));
    }

written_from : (l : List ℕ) (k at : ℕ) (more : List Attr) (empty : Bool) (e : ℕ) → ends_after k at l ≡ closed more empty e → WrittenRest (drop k l) empty
unfolding ends_after ends_by PieceLaid AllWell attributes_bytes
written_from [] k at more empty e q = absurd (zero-not-one (cc))
written_from (b ∷ t) (suc k) at more empty e q = written_from t k (suc at) more empty e q
written_from (b ∷ t) zero at more empty e q = by (piece (b ∷ t)) refl (piece-laid (b ∷ t)) (sym (ends-by at b t) ∙ q) (λ k rest. written_from t k (suc at) rest empty e)
  where
    by : (p : Piece) → piece (b ∷ t) ≡ p → PieceLaid (b ∷ t) p → ends_by at (b ∷ t) t p ≡ closed more empty e
        → ((k : ℕ) (rest : List Attr) → ends_after k (suc at) t ≡ closed rest empty e → WrittenRest (drop k t) empty) → WrittenRest (b ∷ t) empty
    by (Attribute w n v m zero) is h z f = absurd (omega (arith, h.2))
    by (Attribute w n v m (suc j)) is h z f =
        let o = onto-closed (attr at (b ∷ t) w n v m) (ends_after j (suc at) t) more empty e z in
        let a = attribute-written (b ∷ t) w n v m (suc j) is in
        let r = f j o.0 o.1 in
        record {
          attributes = a.written ∷ r.attributes;
          well = (a.well, r.well);
          last = r.last;
          white = r.white;
          rest = r.rest;
          bytes =
              a.bytes
              ∙ ap (λ (y : List ℕ). attribute_bytes a.written ++ y) r.bytes
              ∙ sym (append_assoc (attribute_bytes a.written) (attributes_bytes r.attributes) (r.last ++ (close_bytes empty ++ r.rest)));
        }
    by (Close n) is h z f = let y : false ≡ empty = cc in rw (← y) (closed-rest (b ∷ t) h.1)
    by (CloseEmpty n) is h z f = let y : true ≡ empty = cc in rw (← y) (emptied-rest (b ∷ t) h.1 h.2)
    by Torn is h z f = absurd (zero-not-one (cc))

-- ---- the tag

-- the item is a start tag, or an empty one
abbrev is_tag : Bool → Item → Bool
is_tag empty (Start t) = not empty
is_tag empty (Empty t) = empty
is_tag empty (End n e) = false
is_tag empty (Text w e) = false
is_tag empty (Comment e) = false
is_tag empty (Unreadable p) = false

not_so : (t : Bool) → not t ≡ true → t ≡ false
not_so true e = never e
not_so false e = refl

module _ (before : ℕ) (s : List ℕ) (empty : Bool) where
  abbrev Shape : Type 0
  Shape = (t : WrittenTag) × WellTag t × (r : List ℕ) × (s ≡ tag_bytes t empty ++ r)

  abbrev P : Item → Type 0
  P x = is_tag empty x ≡ true → Shape

  from-rest : byte s 0 ≡ 0x3C → name_start (byte s 1) ≡ true → WrittenRest (drop (1 + run name_byte (drop 1 s)) s) empty → Shape
  unfolding tag_bytes
  from-rest b t w =
      let n = run name_byte (drop 1 s) in
      let start : name_start (byte (drop 1 s) 0) ≡ true = ap name_start (byte-drop s 1 0) ∙ t in
      let name = take n (drop 1 s) in (
        record { name = name; attributes = w.attributes; last = w.last },
        record {
          name = record { first = ap name_start (byte-take (drop 1 s) n 0 (name-some (drop 1 s) start)) ∙ start; all = all-run name_byte (drop 1 s) n refl };
          attributes = w.well;
          last = w.white;
        },
        w.rest,
        front-is s b (omega arith)
            ∙ ap (λ (l : List ℕ). 0x3C ∷ l) (sym (take-append-drop n (drop 1 s)) ∙ ap (λ (l : List ℕ). name ++ l) (drop-drop n 1 s ∙ w.bytes))
            ∙ sym (simp append_assoc),
      )

  module _ (b : byte s 0 ≡ 0x3C) (t : name_start (byte s 1) ≡ true) where
    by-close : (e : Bool) (x y : Tag) → WrittenRest (drop (1 + run name_byte (drop 1 s)) s) e → P (cond e (Empty x) (Start y))
    by-close true x y w = λ i. from-rest b t (subst (WrittenRest (drop (1 + run name_byte (drop 1 s)) s)) (sym i) w)
    by-close false x y w = λ i. from-rest b t (subst (WrittenRest (drop (1 + run name_byte (drop 1 s)) s)) (sym (not_so empty i)) w)

    tag-shape : (x : Ends) → ends s (1 + run name_byte (drop 1 s)) ≡ x → P (tag_item before (run name_byte (drop 1 s)) x)
    unfolding tag_item ends
    tag-shape (closed more e m) q =
        let n = 1 + run name_byte (drop 1 s) in by_cond P (twice more) never (by-close e _ _ (written_from (drop n s) 0 n more e m q))
    tag-shape torn q = never

  text-shape : (n : ℕ) → P (text_to before s n)
  unfolding text_to
  text-shape n =
      by_cond P (eqb n 0) never
      (by_cond P (eqb (run white s) n) never
      (by_cond P (all_chars (take n s))
      (by_cond P (ltb (first_at (text "&") (take n s)) n) never (by_cond P (ltb (first_at (text "]]>") (take n s)) n) never never)) never))

  item-shape : P (item before s)
  unfolding item start_tag end_tag end_name end_close comment_tag comment comment_to comment_item text_item
  item-shape =
      let n = run name_byte (drop 2 s) in
      let d = first_at (text "--") (drop 4 s) in
      by-test P (eqb (byte s 0) 0x3C)
      (λ b. by_cond P (eqb (byte s 1) 0x2F)
      (by_cond P (name_start (byte s 2)) (by_cond P (eqb (byte s (2 + n + run white (drop (2 + n) s))) 0x3E) never never) never)
      (by_cond P (eqb (byte s 1) 0x21)
      (by_cond P (eqb (byte s 2) 0x2D)
      (by_cond P (eqb (byte s 3) 0x2D)
      (by_cond (λ x. P (comment_item before x)) (eqb (byte (drop 4 s) (d + 2)) 0x3E)
      (by_cond (λ x. P (comment_item before x)) (all_chars (take d (drop 4 s))) never never) never)
      never) never)
      (by-test P (name_start (byte s 1)) (λ t. tag-shape (eqb-true _ _ b) t (ends s (1 + run name_byte (drop 1 s))) refl) (λ t. never))))
      (λ b. text-shape (first_at (text "<") s))

-- a start tag that can be read, and an empty tag
pub start-written : (before : ℕ) (s : List ℕ) (t : Tag) → item before s ≡ Start t → (w : WrittenTag) × WellTag w × (r : List ℕ) × (s ≡ tag_bytes w false ++ r)
start-written before s t e = item-shape before s false (ap (is_tag false) e)

pub empty-written : (before : ℕ) (s : List ℕ) (t : Tag) → item before s ≡ Empty t → (w : WrittenTag) × WellTag w × (r : List ℕ) × (s ≡ tag_bytes w true ++ r)
empty-written before s t e = item-shape before s true (ap (is_tag true) e)
