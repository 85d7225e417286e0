-- Two documents that differ in readable Qty digits of either have a third between them: it is either one with other digits in Qty values, outside
-- references. Assumes nothing.
use Prim.Native.Nat.{ℕ, zero, suc, pred, ◌+◌, ◌-◌, ◌≤◌, ◌<◌}
use mathlib.Core.Path.{◌≡◌, refl, sym, ap, ◌∙◌}
use mathlib.Core.List.{List, [], ◌∷◌}
use mathlib.Core.Bool.{Bool, true, false, cond}
use mathlib.Core.Logic.{◌⊎◌, inl, inr, ⊎_elim}
use native.Mathlib.Omega.{arith}
use lib.ListN.{length, drop, length-take}
use Rattle.std.specs.Prelude.{Result, Ok, Err}
use Rattle.lists.proofs.Cases.{bool_cases, by_cond, leb-cases, ltb-cases, never}
use Rattle.slices.specs.Bytes.{byte}
use Rattle.slices.specs.Part.{part_of}
use Rattle.slices.specs.Text.{text}
use Rattle.slices.specs.declared.Span.{Span}
use Rattle.slices.proofs.Bytes.{byte-drop, byte-take}
use Rattle.slices.proofs.Near.{long-drop}
use Rattle.items.specs.Item.{item, item_end}
use Rattle.items.specs.Parts.{span_of}
use Rattle.items.specs.declared.Item.{Item}
use Rattle.items.specs.declared.Item.TheVariants.{Start, Empty, End, Text, Comment, Unreadable}
use Rattle.items.specs.Item.{is_readable}
use Rattle.prolog.specs.Prolog.{begin}
use Rattle.characters.specs.References.{digit}
use Rattle.reader.specs.Items.{Placed, items_after, items_from}
use Rattle.digits.specs.Items.{InSpan, InV, JoinsV, value_in}
use Rattle.digits.specs.Outside.{open_at, AlikeFrom}
use Rattle.digits.proofs.Parts.{item-laid}
use Rattle.digits.proofs.Places.{alike-by}
use Rattle.blindness.specs.Readable.{tag_named, InTag, InTags, InTagsAfter, InQty, QtyDigit, DifferInQty}
use Rattle.blindness.specs.Replaced.{Joins, JoinsAfter, Replaced}
use Rattle.blindness.proofs.Aligned.{v-inside, in-v, tail_of, tags-from}

-- ---- at the places that pass the test the bytes of the second list, else those of the first

mixed : (ℕ → Bool) → List ℕ → List ℕ → List ℕ
mixed c [] y = []
mixed c (a ∷ x) [] = []
mixed c (a ∷ x) (b ∷ y) = cond (c 0) b a ∷ mixed (λ i. c (suc i)) x y

mixed-long : (c : ℕ → Bool) (x y : List ℕ) → length x ≡ length y → length x ≡ length (mixed c x y)
unfolding mixed
mixed-long c [] y e = refl
mixed-long c (a ∷ x) [] e = absurd (omega arith)
mixed-long c (a ∷ x) (b ∷ y) e = ap suc (mixed-long (λ i. c (suc i)) x y (omega arith))

mixed-byte : (c : ℕ → Bool) (x y : List ℕ) → length x ≡ length y → (i : ℕ) → byte (mixed c x y) i ≡ cond (c i) (byte y i) (byte x i)
unfolding mixed byte
mixed-byte c [] [] e i = by_cond (λ (n : ℕ). 0 ≡ n) (c i) refl refl
mixed-byte c [] (b ∷ y) e i = absurd (omega arith)
mixed-byte c (a ∷ x) [] e i = absurd (omega arith)
mixed-byte c (a ∷ x) (b ∷ y) e zero = refl
mixed-byte c (a ∷ x) (b ∷ y) e (suc i) = mixed-byte (λ j. c (suc j)) x y (omega arith) i

-- ---- whether a place lies in a Qty value, outside references

abbrev Told : Type 0 → Type 0
Told A = A ⊎ (A → ⊥)

both_told : {A B : Type 0} → Told A → Told B → Told (A × B)
both_told (inl a) (inl b) = inl (a, b)
both_told (inl a) (inr b) = inr (λ h. b h.1)
both_told (inr a) b = inr (λ h. a h.0)

bool-told : (t u : Bool) → Told (t ≡ u)
bool-told true true = inl refl
bool-told true false = inr (λ e. never (sym e))
bool-told false true = inr (λ e. never e)
bool-told false false = inl refl

span-told : (x : Span) (i : ℕ) → Told (InSpan i x)
span-told x i =
    both_told
    (⊎_elim (λ a. inl a.0) (λ a. inr (λ h. omega (arith, h, a.0))) (leb-cases x.start i))
    (⊎_elim (λ b. inl b.0) (λ b. inr (λ h. omega (arith, h, b.0))) (ltb-cases i (x.start + x.len)))

v-told : (x : Item) (i : ℕ) → Told (InV x i)
unfolding InV
v-told (Start t) i = span-told t.v i
v-told (Empty t) i = span-told t.v i
v-told (End n e) i = inr (λ h. h)
v-told (Text w e) i = inr (λ h. h)
v-told (Comment e) i = inr (λ h. h)
v-told (Unreadable p) i = inr (λ h. h)

qty-told : (x : Item) (s : List ℕ) (i : ℕ) → Told (InQty x s i)
qty-told x s i =
    both_told (both_told (bool-told (tag_named (text "Qty") x s) true) (v-told x i)) (bool-told (open_at false (value_in s (span_of x)) (i - (span_of x).start)) false)

here-told : (x : Placed) (p : ℕ) → Told ((i : ℕ) × (p ≡ x.at + i) × InQty x.item x.rest i)
here-told x p =
    ⊎_elim
    (λ l.
    ⊎_elim
    (λ v. inl (p - x.at, omega (arith, l.0), v))
    (λ v. inr (λ h. let e : h.0 ≡ p - x.at = omega (arith, h.1) in v (rw e at h.2)))
    (qty-told x.item x.rest (p - x.at)))
    (λ l. inr (λ h. omega (arith, h.1, l.0)))
    (leb-cases x.at p)

tags-told : (xs : List Placed) (p : ℕ) → Told (InTags InQty xs p)
unfolding InTags
tags-told [] p = inr (λ h. h)
tags-told (x ∷ xs) p =
    ⊎_elim
    (λ h. inl (inl h))
    (λ h.
    ⊎_elim
    (λ e. ⊎_elim (λ g. inl (inr (e, g))) (λ g. inr (⊎_elim h (λ z. g z.1))) (tags-told xs p))
    (λ e. inr (⊎_elim h (λ z. never (sym e ∙ z.0))))
    (bool_cases (is_readable x.item)))
    (here-told x p)

after-told : (doc : List ℕ) (b : Result ℕ ℕ) (p : ℕ) → Told (InTagsAfter InQty doc b p)
unfolding InTagsAfter
after-told doc (Ok n) p = tags-told (items_from doc n) p
after-told doc (Err q) p = inr (λ h. h)

told : {A : Type 0} → Told A → Bool
told (inl a) = true
told (inr a) = false

-- ---- a document with other digits there

-- such a place is one of a Qty value
tags-qty : (xs : List Placed) (p : ℕ) → InTags InQty xs p → InTags (InTag (text "Qty")) xs p
unfolding InTags
tags-qty [] p h = h
tags-qty (x ∷ xs) p h = ⊎_elim (λ z. inl (z.0, z.1, z.2.0)) (λ z. inr (z.0, tags-qty xs p z.1)) h

after-qty : (doc : List ℕ) (b : Result ℕ ℕ) (p : ℕ) → InTagsAfter InQty doc b p → InTagsAfter (InTag (text "Qty")) doc b p
unfolding InTagsAfter
after-qty doc (Ok n) p h = tags-qty (items_from doc n) p h
after-qty doc (Err q) p h = h

byte-part : (s : List ℕ) (v : Span) (j : ℕ) → j < v.len → byte (value_in s v) j ≡ byte s (v.start + j)
unfolding part_of
byte-part s v j l = byte-take (drop v.start s) v.len j l ∙ byte-drop s v.start j

long-part : (s s' : List ℕ) (v : Span) → length s ≡ length s' → length (value_in s v) ≡ length (value_in s' v)
unfolding part_of
long-part s s' v e = length-take v.len (drop v.start s) ∙ rw (long-drop s s' v.start e) (sym (length-take v.len (drop v.start s')))

few-part : (s : List ℕ) (v : Span) (j : ℕ) → j < length (value_in s v) → j < v.len
unfolding part_of
few-part s v j l = omega (arith, length-take v.len (drop v.start s))

joins-v : (i : Item) (s s' : List ℕ) → AlikeFrom false (value_in s (span_of i)) (value_in s' (span_of i)) → JoinsV (AlikeFrom false) i s s'
unfolding JoinsV span_of
joins-v (Start t) s s' r = r
joins-v (Empty t) s s' r = r
joins-v (End n e) s s' r = tt
joins-v (Text w e) s s' r = tt
joins-v (Comment e) s s' r = tt
joins-v (Unreadable p) s s' r = tt

module _ (x y : List ℕ) (long : length x ≡ length y) where
  -- the same byte, or two digits in a place of these
  abbrev Apart : Type 0 → ℕ → Type 0
  Apart P p = (byte x p ≡ byte y p) ⊎ (P × (digit (byte x p) ≡ true) × (digit (byte y p) ≡ true))

  -- the item at the front
  module _ (at b : ℕ) (t : List ℕ) (ex : b ∷ t ≡ drop at x) (d : (p : ℕ) → at + 0 ≤ p → Apart (InTags InQty (items_after 0 at (b ∷ t)) p) p) where
    abbrev front : Item
    front = item at (b ∷ t)

    abbrev v : Span
    v = span_of front

    -- a place of its value is in no later item
    outside : (j : ℕ) → j < v.len → InTags InQty (items_after 0 at (b ∷ t)) (at + (v.start + j)) → open_at false (value_in (b ∷ t) v) j ≡ false
    unfolding items_after InTags
    outside j l h =
        ⊎_elim
        (λ z. let e : z.0 - v.start ≡ j = omega (arith, z.1) in rw e at z.2.1)
        (λ z.
        let f = tags-from (text "Qty") t (pred (item_end front)) (suc at) (at + (v.start + j)) (tags-qty (items_after (pred (item_end front)) (suc at) t) (at + (v.start + j)) z.1) in
        let g = v-inside front (item-laid at (b ∷ t)) (v.start + j) (in-v front (v.start + j) (omega arith, omega arith)) in
        absurd (omega (arith, f, g.1)))
        h

    here : AlikeFrom false (value_in (b ∷ t) v) (value_in (drop at y) v)
    here =
        alike-by false (value_in (b ∷ t) v) (value_in (drop at y) v) (long-part (b ∷ t) (drop at y) v (ap length ex ∙ long-drop x y at long))
        (λ j m.
        let l = few-part (b ∷ t) v j m in
        let bx : byte (value_in (b ∷ t) v) j ≡ byte x (at + (v.start + j)) = byte-part (b ∷ t) v j l ∙ ap (λ (s : List ℕ). byte s (v.start + j)) ex ∙ byte-drop x at (v.start + j) in
        let by : byte (value_in (drop at y) v) j ≡ byte y (at + (v.start + j)) = byte-part (drop at y) v j l ∙ byte-drop y at (v.start + j) in
        rw (bx, by) (⊎_elim inl (λ z. inr (outside j l z.0, z.1, z.2)) (d (at + (v.start + j)) (omega arith))))

    behind : (p : ℕ) → suc at + pred (item_end front) ≤ p → Apart (InTags InQty (items_after (pred (item_end front)) (suc at) t) p) p
    unfolding items_after InTags
    behind p l =
        ⊎_elim inl
        (λ z. inr (
          ⊎_elim
              (λ u. let q = v-inside front (item-laid at (b ∷ t)) u.0 u.2.0.1 in absurd (omega (arith, q.1, l, u.1)))
              (λ u. u.1)
              z.0,
          z.1,
          z.2,
        ))
        (d p (omega arith))

  joins : (l : List ℕ) (k at : ℕ) → l ≡ drop at x → ((p : ℕ) → at + k ≤ p → Apart (InTags InQty (items_after k at l) p) p)
      → Joins (text "Qty") (AlikeFrom false) y (items_after k at l)
  unfolding items_after Joins
  joins [] k at e d = tt
  joins (b ∷ t) (suc k) at e d = joins t k (suc at) (tail_of x at b t e) (λ p l. d p (omega arith))
  joins (b ∷ t) zero at e d = (
    λ z. joins-v (item at (b ∷ t)) (b ∷ t) (drop at y) (here at b t e d),
    λ z. joins t (pred (item_end (item at (b ∷ t)))) (suc at) (tail_of x at b t e) (behind at b t e d),
  )

  joins_after : (b : Result ℕ ℕ) → ((p : ℕ) → Apart (InTagsAfter InQty x b p) p) → JoinsAfter (text "Qty") (AlikeFrom false) x y b
  unfolding JoinsAfter InTagsAfter items_from
  joins_after (Ok n) d = joins (drop n x) 0 n refl (λ p l. d p)
  joins_after (Err q) d = tt

  replaced : ((p : ℕ) → Apart (InTagsAfter InQty x (begin x) p) p) → Replaced (text "Qty") (AlikeFrom false) x y
  replaced d =
      record { long = long; places = λ p. ⊎_elim inl (λ z. inr (after-qty x (begin x) p z.0)) (d p); values = joins_after (begin x) d }

-- ---- the third document

module _ (x y : List ℕ) (d : DifferInQty x y) where
  abbrev In : ℕ → Type 0
  In p = InTagsAfter InQty x (begin x) p

  chosen : ℕ → Bool
  chosen p = told (after-told x (begin x) p)

  -- x with the digits of y there
  pub between : List ℕ
  between = mixed chosen x y

  between-byte : (p : ℕ) → (In p × (byte between p ≡ byte y p)) ⊎ ((In p → ⊥) × (byte between p ≡ byte x p))
  unfolding between chosen told
  between-byte p = by (after-told x (begin x) p) refl
    where
      by : (t : Told (In p)) → after-told x (begin x) p ≡ t → (In p × (byte between p ≡ byte y p)) ⊎ ((In p → ⊥) × (byte between p ≡ byte x p))
      by (inl h) e = inl (h, mixed-byte chosen x y d.long p ∙ ap (λ (b : Bool). cond b (byte y p) (byte x p)) (ap told e))
      by (inr h) e = inr (h, mixed-byte chosen x y d.long p ∙ ap (λ (b : Bool). cond b (byte y p) (byte x p)) (ap told e))

  between-long : length x ≡ length between
  unfolding between
  between-long = mixed-long chosen x y d.long

  pub first-replaced : Replaced (text "Qty") (AlikeFrom false) x between
  unfolding QtyDigit
  first-replaced =
      replaced x between between-long
      (λ p.
      ⊎_elim
      (λ z.
      ⊎_elim
      (λ e. inl (e ∙ sym z.1))
      (λ q. let two : (digit (byte x p) ≡ true) × (digit (byte y p) ≡ true) = ⊎_elim (λ u. (u.0.0, u.1)) (λ u. (u.1, u.0.0)) q in inr (z.0, two.0, rw z.1 two.1))
      (d.places p))
      (λ z. inl (sym z.1))
      (between-byte p))

  pub second-replaced : Replaced (text "Qty") (AlikeFrom false) y between
  unfolding QtyDigit
  second-replaced =
      replaced y between (sym d.long ∙ between-long)
      (λ p.
      ⊎_elim
      (λ z. inl (sym z.1))
      (λ z.
      ⊎_elim
      (λ e. inl (sym (z.1 ∙ e)))
      (⊎_elim (λ q. absurd (z.0 q.0.1)) (λ q. inr (q.0.1, q.0.0, rw z.1 q.1)))
      (d.places p))
      (between-byte p))
