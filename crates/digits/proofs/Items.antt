-- The item at the front, where another value stands in its `v` and anything behind it: the same item. Assumes nothing.
use Prim.Native.Nat.{ℕ, suc, ◌+◌, ◌≤◌, ◌<◌}
use mathlib.Core.Path.{◌≡◌, refl, sym, ap, ◌∙◌}
use mathlib.Core.List.{List, [], ◌∷◌}
use mathlib.Core.Bool.{Bool, true, false, cond}
use mathlib.Core.Logic.{◌⊎◌, inl, inr, ⊎_elim}
use native.Mathlib.Omega.{arith}
use lib.Dec.{eqb, ltb}
use lib.ListN.{length, take, drop}
use lib.Seq.{drop-drop}
use Rattle.lists.proofs.Cases.{bool_cases, eqb-cases, ltb-cases, by_cond, never}
use Rattle.slices.specs.Bytes.{byte}
use Rattle.slices.specs.Run.{run}
use Rattle.slices.specs.Same.{same, first_at}
use Rattle.slices.specs.Text.{text}
use Rattle.slices.proofs.Firsts.{first_by}
use Rattle.characters.specs.Says.{all_chars}
use Rattle.attributes.specs.Names.{name_start, name_byte, white}
use Rattle.slices.specs.Part.{part_of}
use Rattle.slices.proofs.Bytes.{byte-drop}
use Rattle.tags.specs.Known.{absent, dtd_name, none_known, with_attribute}
use Rattle.tags.specs.Tail.{Attr, Ends, closed, torn, ends, kept_of, twice}
use Rattle.slices.specs.declared.Span.{Span}
use Rattle.tags.specs.declared.Known.{Known}
use Rattle.items.specs.Comment.{comment_to, comment}
use Rattle.items.specs.Text.{text_to, text_item}
use Rattle.items.specs.Item.{tag_of, tag_item, start_tag, end_tag, end_name, end_close, comment_item, comment_tag, item, is_readable, item_end}
use Rattle.items.specs.declared.Item.{Item}
use Rattle.items.specs.declared.Item.TheVariants.{End, Text, Comment, Unreadable}
use Rattle.digits.specs.Unseen.{Unseen, Or}
use Rattle.digits.specs.Items.{InSpan, InV, JoinsV, SameButV, value_in}
use Rattle.slices.proofs.Near.{Front, front-drop, long-drop, take-near, first-near}
use Rattle.digits.proofs.Spans.{ends-ordered}
use Rattle.digits.proofs.Pieces.{white-near, name-near}
use Rattle.digits.proofs.Ends.{OneOf, one-behind, Left, same_ends}

-- what is the same where a fact holds of what is chosen, is the same in a choice
pub cond_same : {A : Type 0} (P : A → Type 0) (t : Bool) {a b a' b' : A} → (P a → a' ≡ a) → (P b → b' ≡ b) → P (cond t a b) → cond t a' b' ≡ cond t a b
cond_same P true f g h = f h
cond_same P false f g h = g h

-- ---- the values of a tag: `v`, and those that share no place with it

noted-v : (k : Known) (name : List ℕ) (a : Span) → ((with_attribute k name a).v ≡ a) ⊎ ((with_attribute k name a).v ≡ k.v)
unfolding with_attribute
noted-v k name a =
    by_cond P (same name (text "v")) (inl refl)
    (by_cond P (same name (text "codingScheme")) (inr refl) (by_cond P (dtd_name name) (inr refl) (inr refl)))
  where
    P : Known → Type 0
    P x = (x.v ≡ a) ⊎ (x.v ≡ k.v)

-- the value that is kept as that of `v` was there before, or is one of these
kept-v : (more : List Attr) (k : Known) → ((kept_of k more).v ≡ k.v) ⊎ OneOf (kept_of k more).v more
unfolding kept_of OneOf
kept-v [] k = inl refl
kept-v (a ∷ more) k =
    ⊎_elim
    (λ e. ⊎_elim (λ z. inr (inl (sym (e ∙ z)))) (λ z. inl (e ∙ z)) (noted-v k a.name a.value))
    (λ o. inr (inr o))
    (kept-v more (with_attribute k a.name a.value))

none_left : (at : ℕ) → none_known.v.start + none_known.v.len ≤ at
unfolding none_known absent
none_left at = omega arith

none-v : (i : ℕ) → InSpan i none_known.v → ⊥
unfolding none_known absent
none-v i h = omega (arith, h.0, h.1)

-- ---- items

or-unseen : {R : List ℕ → List ℕ → Type 0} → Unseen R → Unseen (Or R)
or-unseen u = record { whole = λ r q rest t v. ⊎_elim (λ e. rw e at v) (λ p. u.whole p q rest t v) r }

part-drop : (s : List ℕ) (at i n : ℕ) → part_of (drop at s) i n ≡ part_of s (at + i) n
unfolding part_of
part-drop s at i n = ap (take n) (drop-drop i at s)

white-tag : (s : List ℕ) → run white (0x3C ∷ s) ≡ 0
unfolding run white
white-tag s = refl

-- white space ends before `<`
pub white-first : (s : List ℕ) → run white s ≤ first_at (text "<") s
unfolding run
white-first [] = omega arith
white-first (b ∷ s) =
    ⊎_elim
    (λ (e : (0x3C ≡ b) × (eqb 0x3C b ≡ true)). rw (← e.0) (rw (white-tag s) (omega arith)))
    (λ (e : (0x3C ≡ b → ⊥) × (eqb 0x3C b ≡ false)).
    let m = white-first s in
    rw (first_by 0x3C b s e.1) (by_cond (λ (n : ℕ). n ≤ suc (first_at (text "<") s)) (white b) (omega arith) (omega arith)))
    (eqb-cases 0x3C b)

module _ {R : List ℕ → List ℕ → Type 0} (u : Unseen R) (before : ℕ) (s s' : List ℕ) (long : length s ≡ length s') where
  abbrev Held : Item → Type 0
  Held x = (is_readable x ≡ true) × SameButV (Or R) x s s'

  torn-held : {A : Type 0} → Held (Unreadable before) → A
  torn-held h = never h.0

  -- an item without `v`
  plain-front : (x : Item) → ((i : ℕ) → InV x i → ⊥) → Held x → Front s s' (item_end x + 1)
  plain-front x none h i l = ⊎_elim (λ e. e) (λ z. absurd (none i z)) (h.1.inside i (omega arith))

  abbrev v_of : List Attr → Span
  v_of more = (kept_of none_known more).v

  tag-held : (n : ℕ) (more : List Attr) (empty : Bool) (e : ℕ) → twice more ≡ false → Held (tag_item before n (closed more empty e))
      → ((i : ℕ) → i ≤ e → (byte s i ≡ byte s' i) ⊎ InSpan i (v_of more)) × Or R (value_in s (v_of more)) (value_in s' (v_of more))
  unfolding tag_item tag_of InV JoinsV
  tag-held n more empty e y h =
      by_cond (λ (x : Item). Held x → ((i : ℕ) → i ≤ e → (byte s i ≡ byte s' i) ⊎ InSpan i (v_of more)) × Or R (value_in s (v_of more)) (value_in s' (v_of more)))
      empty (λ g. (g.1.inside, g.1.joined)) (λ g. (g.1.inside, g.1.joined)) (rw y at h)

  twice-held : {A : Type 0} (n : ℕ) (more : List Attr) (empty : Bool) (e : ℕ) → twice more ≡ true → Held (tag_item before n (closed more empty e)) → A
  unfolding tag_item
  twice-held n more empty e y h = torn-held (rw y at h)

  -- the bytes of a tag up to the one behind its name
  tag-front : (n : ℕ) (x : Ends) → ends s (1 + n) ≡ x → Held (tag_item before n x) → Front s s' (1 + (n + 1))
  unfolding ends tag_item
  tag-front n torn q h = torn-held h
  tag-front n (closed more empty e) q h =
      ⊎_elim
      (λ y. twice-held n more empty e y h)
      (λ y i l.
      let o = ends-ordered (drop (1 + n) s) 0 (1 + n) more empty e q in
      ⊎_elim (λ b. b)
      (λ v.
      absurd
      (⊎_elim
      (λ z. none-v i (rw z at v))
      (λ z. let b = one-behind (1 + n + 0) e (v_of more) more o.values z in omega (arith, b, v.0))
      (kept-v more none_known)))
      ((tag-held n more empty e y h).0 i (omega (arith, o.end))))
      (bool_cases (twice more))

  tag_same : (n : ℕ) (x : Ends) → ends s (1 + n) ≡ x → Held (tag_item before n x) → tag_item before n (ends s' (1 + n)) ≡ tag_item before n x
  unfolding ends tag_item
  tag_same n torn q h = torn-held h
  tag_same n (closed more empty e) q h =
      ⊎_elim (λ y. twice-held n more empty e y h) (λ y. ap (tag_item before n) (same y)) (bool_cases (twice more))
    where
      same : twice more ≡ false → ends s' (1 + n) ≡ closed more empty e
      same y =
          let g = tag-held n more empty e y h in
          let v = v_of more in
          let left : Left v (1 + n + 0) more = ⊎_elim (λ z. inl (rw z (none_left (1 + n + 0)))) inr (kept-v more none_known) in
          same_ends (or-unseen u) v (drop (1 + n) s) (drop (1 + n) s') (long-drop s s' (1 + n) long) 0 (1 + n) more empty e q left
          (λ i j z l k.
          ⊎_elim
          (λ b. inl (byte-drop s (1 + n) i ∙ ap (byte s) (sym z) ∙ b ∙ ap (byte s') z ∙ sym (byte-drop s' (1 + n) i)))
          inr
          (g.0 j (omega arith)))
          (λ i z. rw (part-drop s (1 + n) i v.len, part-drop s' (1 + n) i v.len, ← z) g.1)

  start-front : Held (start_tag before s) → Front s s' (1 + (run name_byte (drop 1 s) + 1))
  unfolding start_tag
  start-front = by_cond (λ (x : Item). Held x → Front s s' (1 + (run name_byte (drop 1 s) + 1))) (name_start (byte s 1)) (tag-front _ _ refl) torn-held

  start-same : Held (start_tag before s) → start_tag before s' ≡ start_tag before s
  unfolding start_tag
  start-same h =
      let f = start-front h in
      rw (← f 1 (omega arith), name-near s s' 1 f) (cond_same Held (name_start (byte s 1)) (tag_same _ _ refl) (λ z. refl) h)

  abbrev end_at : ℕ
  end_at = 2 + run name_byte (drop 2 s) + run white (drop (2 + run name_byte (drop 2 s)) s)

  end-front : Held (end_tag before s) → Front s s' (end_at + 1 + 1)
  unfolding end_tag end_name end_close InV
  end-front =
      by_cond (λ (x : Item). Held x → Front s s' (end_at + 1 + 1)) (name_start (byte s 2))
      (by_cond (λ (x : Item). Held x → Front s s' (end_at + 1 + 1)) (eqb (byte s end_at) 0x3E) (plain-front (End (run name_byte (drop 2 s)) (end_at + 1)) (λ i z. z)) torn-held)
      torn-held

  end_same : Held (end_tag before s) → end_tag before s' ≡ end_tag before s
  unfolding end_tag end_name end_close
  end_same h =
      let f = end-front h in
      let n = run name_byte (drop 2 s) in
      rw (← f 2 (omega arith), name-near s s' 2 (λ i l. f i (omega arith)), white-near s s' (2 + n) (λ i l. f i (omega arith)), ← f end_at (omega arith))

  abbrev dashes : ℕ
  dashes = first_at (text "--") (drop 4 s)

  comment-front : Held (comment_tag before s) → Front s s' (4 + (dashes + 3) + 1)
  unfolding comment_tag comment comment_to comment_item InV
  comment-front =
      by_cond P (eqb (byte s 2) 0x2D)
      (by_cond P (eqb (byte s 3) 0x2D)
      (by_cond (λ x. P (comment_item before x)) (eqb (byte (drop 4 s) (dashes + 2)) 0x3E)
      (by_cond (λ x. P (comment_item before x)) (all_chars (take dashes (drop 4 s))) (plain-front (Comment (4 + (dashes + 3))) (λ i z. z)) torn-held)
      torn-held)
      torn-held)
      torn-held
    where
      P : Item → Type 0
      P x = Held x → Front s s' (4 + (dashes + 3) + 1)

  comment-same : Held (comment_tag before s) → comment_tag before s' ≡ comment_tag before s
  unfolding comment_tag comment comment_to
  comment-same h =
      let f = comment-front h in
      let l = long-drop s s' 4 long in
      let g = front-drop s s' 4 (dashes + 3) (λ i b. f i (omega arith)) in
      rw (
        ← f 2 (omega arith),
        ← f 3 (omega arith),
        first-near (text "--") (drop 4 s) (drop 4 s') l (λ i b. g i (omega arith)),
        ← g (dashes + 2) (omega arith),
        take-near (drop 4 s) (drop 4 s') dashes l (λ i b. g i (omega arith)),
      )

  abbrev upto : ℕ
  upto = first_at (text "<") s

  text-front : Held (text_item before s) → Front s s' (upto + 1) × (0 < upto)
  unfolding text_item text_to InV
  text-front =
      ⊎_elim
      (λ z. rw z.1 torn-held)
      (λ z.
      rw z.1
      (by_cond P (eqb (run white s) upto) (is z true)
      (by_cond P (all_chars (take upto s))
      (by_cond P (ltb (first_at (text "&") (take upto s)) upto) torn-held (by_cond P (ltb (first_at (text "]]>") (take upto s)) upto) torn-held (is z false)))
      torn-held)))
      (eqb-cases upto 0)
    where
      P : Item → Type 0
      P x = Held x → Front s s' (upto + 1) × (0 < upto)

      is : ((upto ≡ 0 → ⊥) × (eqb upto 0 ≡ false)) → (w : Bool) → P (Text w upto)
      is z w h = (plain-front (Text w upto) (λ i y. y) h, ⊎_elim (λ y. y.0) (λ y. absurd (z.0 (omega (arith, y.0)))) (ltb-cases 0 upto))

  text_same : Held (text_item before s) → text_item before s' ≡ text_item before s
  unfolding text_item text_to
  text_same h =
      let f = (text-front h).0 in
      let w = white-first s in
      rw (
        first-near (text "<") s s' long f,
        white-near s s' 0 (λ i l. f i (omega arith)),
        take-near s s' upto long (λ i l. f i (omega arith)),
      )

  item-two : Held (item before s) → Front s s' 2
  unfolding item
  item-two =
      by_cond P (eqb (byte s 0) 0x3C)
      (by_cond P (eqb (byte s 1) 0x2F) (λ h i l. end-front h i (omega arith))
      (by_cond P (eqb (byte s 1) 0x21) (λ h i l. comment-front h i (omega arith)) (λ h i l. start-front h i (omega arith))))
      (λ h i l. let t = text-front h in t.0 i (omega arith))
    where
      P : Item → Type 0
      P x = Held x → Front s s' 2

  held_same : Held (item before s) → item before s' ≡ item before s
  unfolding item
  held_same h =
      let f = item-two h in
      rw (← f 0 (omega arith), ← f 1 (omega arith))
      (cond_same Held (eqb (byte s 0) 0x3C)
      (cond_same Held (eqb (byte s 1) 0x2F) end_same (cond_same Held (eqb (byte s 1) 0x21) comment-same start-same))
      text_same h)

-- the item at the front is readable; another value stands in its `v`, and anything behind the byte behind it
pub item-same : {R : List ℕ → List ℕ → Type 0} → Unseen R → (before : ℕ) (s s' : List ℕ) → is_readable (item before s) ≡ true → SameButV (Or R) (item before s) s s'
    → item before s' ≡ item before s
item-same u before s s' e h = held_same u before s s' h.long (e, h)
