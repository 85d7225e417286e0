-- What makes documents alike: other bytes between two places of a document, whose tags say the same. Assumes nothing.
use Prim.Native.Nat.{ℕ, ◌+◌, ◌≤◌, ◌<◌}
use mathlib.Core.Path.{◌≡◌, refl, sym, ap, subst, ◌∙◌}
use mathlib.Core.List.{List, [], ◌∷◌, ◌++◌, append-nil}
use mathlib.Core.Bool.{Bool, true, false}
use mathlib.Core.Logic.{inl}
use native.Mathlib.Omega.{arith}
use lib.ListN.{length, drop, length-append, length-drop, get_or-append}
use lib.Seq.{drop-append-le, drop-append-add, drop-append_seam}
use Rattle.std.specs.Prelude.{Result, Ok}
use Rattle.slices.specs.Bytes.{byte}
use Rattle.attributes.specs.Attribute.{quote}
use Rattle.items.specs.Parts.{passed}
use Rattle.items.specs.Item.{item, is_readable, item_end}
use Rattle.items.specs.declared.Item.{Item}
use Rattle.items.specs.declared.Item.TheVariants.{Comment}
use Rattle.prolog.specs.Prolog.{begin}
use Rattle.fronts.specs.Front.{EndsBefore}
use Rattle.fronts.proofs.Items.{item-whole, item-front}
use Rattle.notes.specs.declared.Shape.{Shape}
use Rattle.states.specs.Moves.{begun}
use Rattle.reader.specs.Items.{placed, items_after, items_from}
use Rattle.reader.specs.Reading.{blank, room_in, items_read, read_after, read_into}
use Rattle.reader.specs.Answer.{read_of}
use Rattle.faults.proofs.First.{refusal_is}
use Rattle.contents.specs.Spelled.{signs_by, signs_of, allowed, SpellAlike}
use Rattle.likeness.specs.Alike.{Between, BetweenItems, White, IsComment, SayAlike, Written, WrittenTag, tag_bytes, end_bytes, Without, WellWritten, AllWell, WellTag, SameAttributes, none, next, exchanged, SameTag, with_attributes, in_quotes}
use Rattle.likeness.proofs.Shifts.{item-like, signs-shift, allowed-shift, signs_in, StandIn, signs-next, next-stands, stands-next}
use Rattle.likeness.proofs.Whites.{whites-more}
use Rattle.likeness.proofs.Replaced.{between-from, Whole, whole_from, whole-stands, kept}
use Rattle.likeness.proofs.Begins.{begin-on}
use Rattle.likeness.proofs.Values.{quoted-other}
use Rattle.likeness.proofs.Refused.{Pairs, right, both, same-number, views-none}
use Rattle.likeness.proofs.Numbers.{moved-pairs, whites-right, next-at, front-pairs}
use Rattle.likeness.proofs.Noted.{same-twice}
use Rattle.likeness.proofs.Tags.{tag-some, stands-once, tag-alike, empty-alike}
use Rattle.likeness.proofs.Otherwise.{tags-together, tag-ends}

-- ---- the law

module _ (a l m : List ℕ) (h : BetweenItems (a ++ l) (length a)) (alike : SayAlike l m) where
  abbrev n : ℕ
  n = h.from

  low : h.from ≤ length a
  unfolding items_from
  low = let b = between-from (drop n (a ++ l)) 0 n (length a) h.between in omega arith

  abbrev s : List ℕ
  s = drop h.from a

  old : drop n (a ++ l) ≡ s ++ l
  old = drop-append-le n a l low

  new : drop n (a ++ m) ≡ s ++ m
  new = drop-append-le n a m low

  stand : StandIn (s ++ l)
  unfolding items_from
  stand = allowed-shift (s ++ l) 0 n 0 (rw old at h.items)

  whole : Whole l s
  unfolding items_from
  whole =
      let p : length a ≡ n + length s = omega (arith, length-drop n a, low) in
      let b : Between (items_after 0 n (s ++ l)) (length a) = rw old at h.between in
      whole_from l s 0 n (rw old at h.items) (omega arith) (inl (subst (Between (items_after 0 n (s ++ l))) p b))

  said : StandIn (s ++ m) × (signs_in (s ++ l) ≡ signs_in (s ++ m))
  said = kept l m alike whole stand

  begins-again : begin (a ++ m) ≡ Ok h.from
  unfolding byte
  begins-again =
      begin-on (a ++ l) (a ++ m) n (omega (arith, low, length-append a l)) (omega (arith, low, length-append a m))
      (λ i g. let k : i < length a = omega (arith, low) in get_or-append a l 0 i k ∙ sym (get_or-append a m 0 i k)) (rw new said.0) h.begins

  -- whatever stands behind a place between the items, other bytes may stand there whose tags say the same
  pub replaced : SpellAlike (a ++ l) (a ++ m)
  unfolding items_from
  replaced =
      record {
        from = n;
        begins = h.begins;
        items = h.items;
        other_from = n;
        other-begins = begins-again;
        other_items = rw new (allowed-shift (s ++ m) 0 0 n said.0);
        tags = rw (old, new) (signs-shift (s ++ l) 0 n 0 ∙ said.1 ∙ signs-shift (s ++ m) 0 0 n);
      }

  -- ---- and where the items behind it go together, refusals have the same number

  abbrev Behind : Type 0
  Behind = Pairs (a ++ l) (a ++ m) (items_after 0 (length a) l) (items_after 0 (length a) m)

  items-pair : Behind → Pairs (a ++ l) (a ++ m) (items_from (a ++ l) h.from) (items_from (a ++ m) h.from)
  unfolding items_from
  items-pair r =
      let p : length a ≡ n + length s = omega (arith, length-drop n a, low) in
      rw (old, new) (front-pairs (a ++ l) (a ++ m) l m alike whole n (sym old) (sym new) (rw old at h.items) (rw p at r))

  pub same-refusal : Behind → (ns np na : ℕ) (shape : Shape) (nb : ℕ) → 16 ≤ nb → length (a ++ l) ≤ 1048576 → length (a ++ m) ≤ 1048576
      → (read_of (a ++ l) ns np na shape nb).answer.refusal ≡ (read_of (a ++ m) ns np na shape nb).answer.refusal
  unfolding read_into read_after items_read blank
  same-refusal r ns np na shape nb wide short short' =
      let t = blank ns np na in
      refusal_is (a ++ l) ns np na shape nb wide short
      ∙ rw (h.begins, begins-again)
      (same-number (a ++ l) (a ++ m) (room_in t) (items-pair r) begun t t (views-none (a ++ l) (a ++ m) ns))
      ∙ sym (refusal_is (a ++ m) ns np na shape nb wide short')

-- ---- likeness goes both ways, and on

pub alike-back : (x y : List ℕ) → SpellAlike x y → SpellAlike y x
alike-back x y h =
    record { from = h.other_from; begins = h.other-begins; items = h.other_items; other_from = h.from; other-begins = h.begins; other_items = h.items; tags = sym h.tags }

pub alike-on : (x y z : List ℕ) → SpellAlike x y → SpellAlike y z → SpellAlike x z
alike-on x y z g h =
    let e : g.other_from ≡ h.from = from_is (sym g.other-begins ∙ h.begins) in
    record {
      from = g.from;
      begins = g.begins;
      items = g.items;
      other_from = h.other_from;
      other-begins = h.other-begins;
      other_items = h.other_items;
      tags = g.tags ∙ ap (λ (n : ℕ). signs_of (items_from y n)) e ∙ h.tags;
    }
  where
    from_is : {m n : ℕ} → ◌≡◌ {A = Result ℕ ℕ} (Ok m) (Ok n) → m ≡ n
    from_is e = cc

-- ---- attributes that stay

well-before : (before old new : List Written) → (AllWell old → AllWell new) → AllWell (before ++ old) → AllWell (before ++ new)
unfolding AllWell
well-before [] old new f k = f k
well-before (a ∷ before) old new f k = (k.0, well-before before old new f k.1)

same_self : (more : List Written) → SameAttributes more more
same_self [] = none
same_self (a ∷ more) = next (record { name = refl; value = refl }) (same_self more)

same-before : (before : List Written) {old new : List Written} → SameAttributes old new → SameAttributes (before ++ old) (before ++ new)
same-before [] r = r
same-before (a ∷ before) r = next (record { name = refl; value = refl }) (same-before before r)

requoted : (q : ℕ) → quote q ≡ true → (w : Written) → Without q w.value → WellWritten w → WellWritten (in_quotes q w)
requoted q t w free k =
    record {
      some = k.some;
      before = k.before;
      name = k.name;
      left = k.left;
      right = k.right;
      mark = t;
      value = quoted-other w.mark q w.value k.mark t k.value free;
    }

-- ---- a comment in front

comment-is : (c r : List ℕ) → IsComment c → (0 < length c) × (item 0 (c ++ r) ≡ Comment (length c))
unfolding EndsBefore
comment-is c r e =
    let i : item 0 (c ++ []) ≡ Comment (length c) = ap (item 0) (append-nil c) ∙ e in
    let ends : EndsBefore (item 0 (c ++ [])) r = rw i tt in
    (rw e at (item-whole 0 c (ap is_readable e)).some, item-front 0 c [] r (ap item_end i) ends ∙ i)

comment-more : (c r : List ℕ) → IsComment c → SayAlike r (c ++ r)
unfolding signs_by allowed
comment-more c r e a =
    let k = comment-is c r e in
    let j = k.1 in
    (stands-next c r k.0 (ap item_end j) (ap allowed j) a, sym (signs-next c r k.0 (ap item_end j) ∙ ap (λ (x : Item). signs_by x (c ++ r) ++ signs_in r) j))

-- ---- between items

module _ (a r : List ℕ) (h : BetweenItems (a ++ r) (length a)) where
  pub white-between : (w : List ℕ) → White w → SpellAlike (a ++ r) (a ++ (w ++ r))
  white-between w e = replaced a r (w ++ r) h (whites-more w r e)

  pub comment-between : (c : List ℕ) → IsComment c → SpellAlike (a ++ r) (a ++ (c ++ r))
  comment-between c e = replaced a r (c ++ r) h (comment-more c r e)

  -- the items behind the place stand in the document
  behind : StandIn r
  behind = whole-stands (whole a r r h (λ st. (st, refl))) (stand a r r h (λ st. (st, refl)))

  -- those behind w are the same
  later : (w : List ℕ) → Pairs (a ++ r) (a ++ (w ++ r)) (items_after 0 (length a) r) (items_after 0 (length a + length w) r)
  later w =
      moved-pairs (a ++ r) (a ++ (w ++ r)) r 0 (length a) (length a + length w) (sym (drop-append_seam a r))
      (sym (drop-append-add a (w ++ r) (length w) ∙ drop-append_seam w r)) (allowed-shift r 0 0 (length a) behind)

  module _ (ns np na : ℕ) (shape : Shape) (nb : ℕ) (wide : 16 ≤ nb) (short : length (a ++ r) ≤ 1048576) where
    pub white-refused : (w : List ℕ) → White w → length (a ++ (w ++ r)) ≤ 1048576
        → (read_of (a ++ r) ns np na shape nb).answer.refusal ≡ (read_of (a ++ (w ++ r)) ns np na shape nb).answer.refusal
    white-refused w e short' =
        same-refusal a r (w ++ r) h (whites-more w r e)
        (whites-right (a ++ r) (a ++ (w ++ r)) w (length a) r e behind (later w))
        ns np na shape nb wide short short'

    pub comment-refused : (c : List ℕ) → IsComment c → length (a ++ (c ++ r)) ≤ 1048576
        → (read_of (a ++ r) ns np na shape nb).answer.refusal ≡ (read_of (a ++ (c ++ r)) ns np na shape nb).answer.refusal
    unfolding passed allowed
    comment-refused c e short' =
        let k = comment-is c r e in
        let i : item (length a) (c ++ r) ≡ Comment (length c) = sym ((item-like 0 (length a) (c ++ r)).same (ap allowed k.1)) ∙ k.1 in
        same-refusal a r (c ++ r) h (comment-more c r e)
        (rw (next-at (a ++ (c ++ r)) (length a) c r (sym (drop-append_seam a (c ++ r))) k.0 (ap item_end i)).0 (right (placed (length a) (c ++ r)) (ap passed i) (later c)))
        ns np na shape nb wide short short'

-- ---- in a tag

module _ (a r : List ℕ) (empty : Bool) where
  pub tag-otherwise : (s t : WrittenTag) → WellTag s → WellTag t → SameTag s t → BetweenItems (a ++ (tag_bytes s empty ++ r)) (length a)
      → SpellAlike (a ++ (tag_bytes s empty ++ r)) (a ++ (tag_bytes t empty ++ r))
  tag-otherwise s t p q same h = replaced a (tag_bytes s empty ++ r) (tag_bytes t empty ++ r) h (tag-alike s t empty r p q same)

  -- and the number of a refusal stays
  pub tag-refused : (s t : WrittenTag) → WellTag s → WellTag t → SameTag s t → BetweenItems (a ++ (tag_bytes s empty ++ r)) (length a)
      → (ns np na : ℕ) (shape : Shape) (nb : ℕ) → 16 ≤ nb → length (a ++ (tag_bytes s empty ++ r)) ≤ 1048576 → length (a ++ (tag_bytes t empty ++ r)) ≤ 1048576
      → (read_of (a ++ (tag_bytes s empty ++ r)) ns np na shape nb).answer.refusal ≡ (read_of (a ++ (tag_bytes t empty ++ r)) ns np na shape nb).answer.refusal
  tag-refused s t p q same h =
      let u = tag_bytes s empty in
      let v = tag_bytes t empty in
      let st = behind a (u ++ r) h in
      let once = stands-once s p empty r st in
      let again = sym (same-twice same.attributes) ∙ once in
      let ends = tag-ends s t r p q same once in
      let some = tag-some s p empty r in
      let x = next-at (a ++ (u ++ r)) (length a) u r (sym (drop-append_seam a (u ++ r))) some (ends s p empty (length a) once) in
      let y = next-at (a ++ (v ++ r)) (length a) v r (sym (drop-append_seam a (v ++ r))) (tag-some t q empty r) (ends t q empty (length a) again) in
      let rest = allowed-shift r 0 0 (length a + length u) (next-stands u r some (ends s p empty 0 once) st).1 in
      same-refusal a (u ++ r) (v ++ r) h (tag-alike s t empty r p q same)
      (rw (x.0, y.0)
      (both (tags-together s t r p q same once empty (a ++ (u ++ r)) (a ++ (v ++ r)) (length a) (sym (drop-append_seam a (u ++ r))) (sym (drop-append_seam a (v ++ r))))
      (moved-pairs (a ++ (u ++ r)) (a ++ (v ++ r)) r 0 (length a + length u) (length a + length v) x.1 y.1 rest)))

  -- attributes behind those of `before`
  module _ (t : WrittenTag) (ok : WellTag t) (h : BetweenItems (a ++ (tag_bytes t empty ++ r)) (length a)) (before : List Written) where
    otherwise : (old new : List Written) → t.attributes ≡ before ++ old → (AllWell old → AllWell new) → SameAttributes old new
        → SpellAlike (a ++ (tag_bytes t empty ++ r)) (a ++ (tag_bytes (with_attributes t (before ++ new)) empty ++ r))
    otherwise old new e well same =
        tag-otherwise t (with_attributes t (before ++ new)) ok
        (record { name = ok.name; attributes = well-before before old new well (rw e at ok.attributes); last = ok.last })
        (record { name = refl; attributes = rw e (same-before before same) }) h

    pub other-quotes : (w : Written) (more : List Written) (q : ℕ) → t.attributes ≡ before ++ (w ∷ more) → quote q ≡ true → Without q w.value
        → SpellAlike (a ++ (tag_bytes t empty ++ r)) (a ++ (tag_bytes (with_attributes t (before ++ (in_quotes q w ∷ more))) empty ++ r))
    unfolding AllWell
    other-quotes w more q e t' free =
        otherwise (w ∷ more) (in_quotes q w ∷ more) e (λ k. (requoted q t' w free k.0, k.1)) (next (record { name = refl; value = refl }) (same_self more))

    pub other-order : (v w : Written) (more : List Written) → t.attributes ≡ before ++ (v ∷ w ∷ more)
        → SpellAlike (a ++ (tag_bytes t empty ++ r)) (a ++ (tag_bytes (with_attributes t (before ++ (w ∷ v ∷ more))) empty ++ r))
    unfolding AllWell
    other-order v w more e =
        otherwise (v ∷ w ∷ more) (w ∷ v ∷ more) e (λ k. (k.1.0, (k.0, k.1.1)))
        (exchanged (record { name = refl; value = refl }) (record { name = refl; value = refl }) (same_self more))

pub empty-or-both : (a r : List ℕ) (t : WrittenTag) (w : List ℕ) → WellTag t → White w → BetweenItems (a ++ (tag_bytes t true ++ r)) (length a)
    → SpellAlike (a ++ (tag_bytes t true ++ r)) (a ++ (tag_bytes t false ++ (end_bytes t.name w ++ r)))
empty-or-both a r t w ok space h =
    replaced a (tag_bytes t true ++ r) (tag_bytes t false ++ (end_bytes t.name w ++ r)) h (empty-alike t w r ok space)
