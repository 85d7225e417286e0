-- A document, and one that is the same but for values of readable tags of one name, have their items aligned, or are equal. Assumes nothing.
use Prim.Native.Nat.{ℕ, zero, suc, pred, ◌+◌, ◌≤◌, ◌<◌}
use mathlib.Core.Path.{◌≡◌, refl, sym, ap, ◌∙◌}
use mathlib.Core.List.{List, [], ◌∷◌}
use mathlib.Core.Bool.{true, false}
use mathlib.Core.Logic.{◌⊎◌, inl, inr, ⊎_elim}
use native.Mathlib.Omega.{arith}
use lib.ListN.{length, drop}
use lib.Seq.{drop-drop, ext_get_or}
use Rattle.std.specs.Prelude.{Result, Ok, Err}
use Rattle.lists.proofs.Cases.{bool_cases, never}
use Rattle.slices.specs.Bytes.{byte}
use Rattle.items.specs.Item.{item, is_readable, item_end}
use Rattle.items.specs.Parts.{span_of}
use Rattle.items.specs.declared.Item.{Item}
use Rattle.items.specs.declared.Item.TheVariants.{Start, Empty, End, Text, Comment, Unreadable}
use Rattle.items.specs.declared.Tag.{Tag}
use Rattle.prolog.specs.Prolog.{begin}
use Rattle.reader.specs.Items.{Placed, items_after, items_from}
use Rattle.slices.proofs.Bytes.{byte-drop}
use Rattle.digits.specs.Unseen.{Unseen}
use Rattle.digits.specs.Items.{InSpan, InV, TagLaid, Laid}
use Rattle.slices.proofs.Near.{long-drop}
use Rattle.digits.proofs.Parts.{item-laid}
use Rattle.digits.proofs.Items.{item-same}
use Rattle.digits.proofs.Begins.{begin-same}
use Rattle.blindness.specs.Readable.{InTag, InTags, InTagsAfter}
use Rattle.blindness.specs.Replaced.{Joins, JoinsAfter, Replaced}
use Rattle.blindness.proofs.Pairs.{Says, Aligned, over, pair, shut, item-says, says-joins}

-- where `v` stands in its item: not in its first bytes, and before its end
tag-inside : (t : Tag) → TagLaid t → (i : ℕ) → InSpan i t.v → (5 ≤ i) × (i < t.len)
tag-inside t l i h =
    ⊎_elim
    (λ e. absurd (omega (arith, e.0, e.1, h.0, h.1)))
    (λ e. (omega (arith, e.0, h.0, l.some), omega (arith, e.1, h.1)))
    l.values.v

pub v-inside : (x : Item) → Laid x → (i : ℕ) → InV x i → (5 ≤ i) × (i < item_end x)
unfolding Laid InV
v-inside (Start t) l i h = tag-inside t l i h
v-inside (Empty t) l i h = tag-inside t l i h
v-inside (End n e) l i h = absurd h
v-inside (Text w e) l i h = absurd h
v-inside (Comment e) l i h = absurd h
v-inside (Unreadable p) l i h = absurd h

-- a place of its value
pub in-v : (x : Item) (i : ℕ) → InSpan i (span_of x) → InV x i
unfolding span_of InV
in-v (Start t) i h = h
in-v (Empty t) i h = h
in-v (End n e) i h = omega (arith, h.1)
in-v (Text w e) i h = omega (arith, h.1)
in-v (Comment e) i h = omega (arith, h.1)
in-v (Unreadable p) i h = omega (arith, h.1)

-- an unreadable item has no `v`
unread-v : (x : Item) (i : ℕ) → is_readable x ≡ false → InV x i → ⊥
unfolding InV
unread-v (Start t) i q h = never (sym q)
unread-v (Empty t) i q h = never (sym q)
unread-v (End n e) i q h = h
unread-v (Text w e) i q h = h
unread-v (Comment e) i q h = h
unread-v (Unreadable p) i q h = h

unreadable : (x : Item) → is_readable x ≡ false → (p : ℕ) × (x ≡ Unreadable p)
unreadable (Start t) q = never (sym q)
unreadable (Empty t) q = never (sym q)
unreadable (End n e) q = never (sym q)
unreadable (Text w e) q = never (sym q)
unreadable (Comment e) q = never (sym q)
unreadable (Unreadable p) q = (p, refl)

-- what is behind the first byte of a part of a document
pub tail_of : (doc : List ℕ) (at b : ℕ) (t : List ℕ) → b ∷ t ≡ drop at doc → t ≡ drop (suc at) doc
tail_of doc at b t e = let z : at + 1 ≡ suc at = omega arith in ap (drop 1) e ∙ drop-drop 1 at doc ∙ ap (λ (n : ℕ). drop n doc) z

module _ (name : List ℕ) where
  -- the place is in no item before these, and not in the first bytes of one
  pub tags-from : (l : List ℕ) (k at p : ℕ) → InTags (InTag name) (items_after k at l) p → at + k + 5 ≤ p
  unfolding items_after InTags
  tags-from [] k at p h = absurd h
  tags-from (b ∷ t) (suc k) at p h = let q = tags-from t k (suc at) p h in omega (arith, q)
  tags-from (b ∷ t) zero at p h =
      ⊎_elim
      (λ z. let v = v-inside (item at (b ∷ t)) (item-laid at (b ∷ t)) z.0 z.2.1 in omega (arith, z.1, v.0))
      (λ z. let q = tags-from t (pred (item_end (item at (b ∷ t)))) (suc at) p z.1 in omega (arith, q))
      h

  module _ {R : List ℕ → List ℕ → Type 0} (u : Unseen R) (x y : List ℕ) where
    -- an unreadable item, whose bytes are the same
    unread-aligned : (at b c : ℕ) (t v : List ℕ) → is_readable (item at (b ∷ t)) ≡ false → c ∷ v ≡ b ∷ t
        → Aligned name R x y (items_after zero at (b ∷ t)) (items_after zero at (c ∷ v))
    unfolding items_after
    unread-aligned at b c t v e same =
        let u = unreadable (item at (b ∷ t)) e in rw (ap (item at) same, u.1) (shut at u.0 (b ∷ t) (c ∷ v))

    -- from a place on, the documents differ in values of these items alone
    abbrev Differ : ℕ → List Placed → Type 0
    Differ from xs = (p : ℕ) → from ≤ p → (byte x p ≡ byte y p) ⊎ InTags (InTag name) xs p

    -- the item at the front of x
    module _ (at b c : ℕ) (t v : List ℕ) (long : length (b ∷ t) ≡ length (c ∷ v)) (ex : b ∷ t ≡ drop at x) (ey : c ∷ v ≡ drop at y)
        (d : Differ (at + 0) (items_after 0 at (b ∷ t))) (j : Joins name R y (items_after 0 at (b ∷ t))) where
      abbrev front : Item
      front = item at (b ∷ t)

      at_front : (i : ℕ) → byte x (at + i) ≡ byte y (at + i) → byte (b ∷ t) i ≡ byte (c ∷ v) i
      at_front i e = ap (λ (l : List ℕ). byte l i) ex ∙ byte-drop x at i ∙ e ∙ sym (ap (λ (l : List ℕ). byte l i) ey ∙ byte-drop y at i)

      -- its bytes, and the one behind it
      here : (i : ℕ) → i ≤ item_end front → (byte (b ∷ t) i ≡ byte (c ∷ v) i) ⊎ InTag name front (b ∷ t) i
      unfolding items_after InTags
      here i l =
          ⊎_elim
          (λ e. inl (at_front i e))
          (⊎_elim
          (λ z. let e : z.0 ≡ i = omega (arith, z.1) in inr (rw e at z.2))
          (λ z. let q = tags-from t (pred (item_end front)) (suc at) (at + i) z.1 in absurd (omega (arith, q, l))))
          (d (at + i) (omega arith))

      says : Says name R front (b ∷ t) (c ∷ v)
      unfolding items_after Joins
      says = item-says name R at (b ∷ t) (c ∷ v) long front refl (λ i l. here i (omega arith)) (λ z. rw (← ey) at (j.0 z))

      -- it is readable
      read_same : is_readable front ≡ true → item at (c ∷ v) ≡ front
      read_same e =
          item-same u at (b ∷ t) (c ∷ v) e
          (record { long = long; inside = λ i l. ⊎_elim inl (λ z. inr z.1) (here i l); joined = says-joins name R front (b ∷ t) (c ∷ v) says })

      behind : is_readable front ≡ true → Differ (suc at + pred (item_end front)) (items_after (pred (item_end front)) (suc at) t)
      unfolding items_after InTags
      behind e p l =
          ⊎_elim inl
          (⊎_elim
          (λ z. let q = v-inside front (item-laid at (b ∷ t)) z.0 z.2.1 in absurd (omega (arith, q.1, l, z.1)))
          (λ z. inr z.1))
          (d p (omega arith))

      -- or not: then nothing is changed
      unread-same : is_readable front ≡ false → c ∷ v ≡ b ∷ t
      unfolding items_after InTags byte
      unread-same e =
          sym (ext_get_or 0 (b ∷ t) (c ∷ v) long
          (λ i l. at_front i
          (⊎_elim (λ q. q)
          (⊎_elim (λ z. absurd (unread-v front z.0 e z.2.1)) (λ z. never (sym e ∙ z.0)))
          (d (at + i) (omega arith)))))

    align : (l m : List ℕ) → length l ≡ length m → (k at : ℕ) → l ≡ drop at x → m ≡ drop at y → Differ (at + k) (items_after k at l) → Joins name R y (items_after k at l)
        → Aligned name R x y (items_after k at l) (items_after k at m)
    unfolding items_after Joins
    align [] [] long k at ex ey d j = over
    align [] (c ∷ v) long k at ex ey d j = absurd (omega arith)
    align (b ∷ t) [] long k at ex ey d j = absurd (omega arith)
    align (b ∷ t) (c ∷ v) long (suc k) at ex ey d j =
        align t v (omega arith) k (suc at) (tail_of x at b t ex) (tail_of y at c v ey) (λ p l. d p (omega arith)) j
    align (b ∷ t) (c ∷ v) long zero at ex ey d j =
        ⊎_elim
        (λ e.
        rw (read_same at b c t v long ex ey d j e)
        (pair at (item at (b ∷ t)) (b ∷ t) (c ∷ v) ex ey (says at b c t v long ex ey d j)
        (align t v (omega arith) (pred (item_end (item at (b ∷ t)))) (suc at) (tail_of x at b t ex) (tail_of y at c v ey) (behind at b c t v long ex ey d j e) (j.1 e))))
        (λ e. unread-aligned at b c t v e (unread-same at b c t v long ex ey d j e))
        (bool_cases (is_readable (item at (b ∷ t))))

pub record SameItems (name : List ℕ) (R : List ℕ → List ℕ → Type 0) (x y : List ℕ) : Type 0 where
  pub from : ℕ
  pub first : begin x ≡ Ok from
  pub second : begin y ≡ Ok from
  pub items : Aligned name R x y (items_from x from) (items_from y from)

pub aligned : (name : List ℕ) {R : List ℕ → List ℕ → Type 0} → Unseen R → (x y : List ℕ) → Replaced name R x y → (x ≡ y) ⊎ SameItems name R x y
unfolding items_from InTagsAfter JoinsAfter byte
aligned name {R} u x y d = by (begin x) refl
  where
    by : (b : Result ℕ ℕ) → begin x ≡ b → (x ≡ y) ⊎ SameItems name R x y
    by (Ok n) e =
        let j : Joins name R y (items_from x n) = rw e at d.values in
        let differ : (p : ℕ) → n + 0 ≤ p → (byte x p ≡ byte y p) ⊎ InTags (InTag name) (items_from x n) p = λ p l. rw e at (d.places p) in
        let same = begin-same x y n d.long
        (λ i l. ⊎_elim (λ q. q) (λ z. let q = tags-from name (drop n x) 0 n i (rw e at z) in absurd (omega (arith, q, l))) (d.places i)) e in
        inr (record { from = n; first = e; second = same; items = align name u x y (drop n x) (drop n y) (long-drop x y n d.long) 0 n refl refl differ j })
    by (Err q) e = inl (ext_get_or 0 x y d.long (λ i l. ⊎_elim (λ z. z) (λ z. absurd (rw e at z)) (d.places i)))
