-- The item at the front: it is whole within its list, and what stands behind it does not change it, nor what it says. Assumes nothing.
use Prim.Native.Nat.{ℕ, ◌+◌, ◌≤◌, ◌<◌}
use mathlib.Core.Path.{◌≡◌, refl, sym, ap, ◌∙◌}
use mathlib.Core.List.{List, ◌++◌}
use mathlib.Core.Bool.{Bool, true, false, cond}
use mathlib.Core.Logic.{◌⊎◌, inl, inr, ⊎_elim}
use native.Mathlib.Omega.{arith}
use lib.Dec.{eqb, ltb}
use lib.ListN.{length, take, drop, length-drop}
use lib.Seq.{take_at, drop_at}
use borrow.Author.Tests.{eqb-true}
use Rattle.lists.proofs.Cases.{bool_cases, eqb-cases, ltb-cases, by_cond, never}
use Rattle.slices.specs.Bytes.{byte}
use Rattle.slices.specs.Part.{part_of}
use Rattle.slices.specs.Run.{run}
use Rattle.slices.specs.Same.{first_at}
use Rattle.slices.specs.Text.{text}
use Rattle.slices.specs.declared.Span.{Span}
use Rattle.slices.proofs.Bytes.{byte-there, byte-drop}
use Rattle.slices.proofs.Near.{Front, front-drop, take-front}
use Rattle.characters.specs.Says.{all_chars}
use Rattle.characters.proofs.Low.{by-test}
use Rattle.attributes.specs.Names.{name_start, name_byte, white}
use Rattle.tags.specs.Known.{none_known}
use Rattle.tags.specs.Tail.{Attr, Ends, closed, torn, ends, kept_of, twice}
use Rattle.items.specs.Comment.{comment_to, comment}
use Rattle.items.specs.Text.{text_to, text_item}
use Rattle.items.specs.Item.{tag_of, tag_item, start_tag, end_tag, end_name, end_close, comment_item, comment_tag, item, is_readable, item_end}
use Rattle.items.specs.declared.Tag.{Tag}
use Rattle.items.specs.declared.Item.{Item}
use Rattle.items.specs.declared.Item.TheVariants.{Start, Empty, End, Text, Comment, Unreadable}
use Rattle.digits.specs.Items.{Stands, IsTag, Laid, value_in, PartsSame}
use Rattle.digits.proofs.Spans.{ends-ordered}
use Rattle.digits.proofs.Pieces.{white-near, name-near, part-front}
use Rattle.digits.proofs.Parts.{item-laid, tag-laid}
use Rattle.digits.proofs.Items.{cond_same, white-first}
use Rattle.fronts.specs.Front.{TextEnds, EndsBefore}
use Rattle.fronts.proofs.Shares.{shared-front, shared_long}
use Rattle.fronts.proofs.Searches.{first-front, upto, upto-within, upto-ends, upto-front, run-front}
use Rattle.fronts.proofs.Tags.{ends-inside, ends-front}

-- ---- an item that can be read has a byte, ends within its list, and ends before the rest of it

pub record Whole (x : Item) (s : List ℕ) : Type 0 where
  pub some : 0 < item_end x
  pub inside : item_end x ≤ length s
  pub ends : EndsBefore x (drop (item_end x) s)

module _ (before : ℕ) (s : List ℕ) where
  abbrev Read : Item → Type 0
  Read x = is_readable x ≡ true → Whole x s

  torn-read : Read (Unreadable before)
  torn-read e = never e

  tag_read : (n : ℕ) (x : Ends) → ends s (1 + n) ≡ x → Read (tag_item before n x)
  unfolding ends tag_item tag_of EndsBefore
  tag_read n torn q = torn-read
  tag_read n (closed more empty e) q =
      let o = ends-ordered (drop (1 + n) s) 0 (1 + n) more empty e q in
      let i = ends-inside (drop (1 + n) s) 0 (1 + n) more empty e q in
      let some : 0 < e = omega (arith, o.end) in
      let inside : e ≤ length s = omega (arith, o.end, i, length-drop (1 + n) s) in
      by_cond Read (twice more) torn-read (by_cond Read empty (λ z. record { some = some; inside = inside; ends = tt }) (λ z. record { some = some; inside = inside; ends = tt }))

  start-read : Read (start_tag before s)
  unfolding start_tag
  start-read = by_cond Read (name_start (byte s 1)) (tag_read _ _ refl) torn-read

  end_read : Read (end_tag before s)
  unfolding end_tag end_name end_close EndsBefore
  end_read =
      let n = run name_byte (drop 2 s) in
      let e = 2 + n + run white (drop (2 + n) s) in
      by_cond Read (name_start (byte s 2))
      (by-test Read (eqb (byte s e) 0x3E)
      (λ q z. let there = byte-there s e (sym (eqb-true _ _ q)) (omega arith) in record { some = omega arith; inside = omega arith; ends = tt })
      (λ q. torn-read))
      torn-read

  comment-read : Read (comment_tag before s)
  unfolding comment_tag comment comment_to comment_item EndsBefore
  comment-read =
      let n = first_at (text "--") (drop 4 s) in
      by_cond Read (eqb (byte s 2) 0x2D)
      (by_cond Read (eqb (byte s 3) 0x2D)
      (by-test (λ x. Read (comment_item before x)) (eqb (byte (drop 4 s) (n + 2)) 0x3E)
      (λ q. by_cond (λ x. Read (comment_item before x)) (all_chars (take n (drop 4 s)))
      (λ z.
      let there = byte-there (drop 4 s) (n + 2) (sym (eqb-true _ _ q)) (omega arith) in
      record { some = omega arith; inside = omega (arith, length-drop 4 s); ends = tt })
      torn-read)
      (λ q. torn-read))
      torn-read)
      torn-read

  text-read : Read (text_item before s)
  unfolding text_item text_to EndsBefore
  text-read =
      ⊎_elim
      (λ z. rw z.1 torn-read)
      (λ z.
      rw z.1
      (by_cond Read (eqb (run white s) (upto s)) (is z true)
      (by_cond Read (all_chars (take (upto s) s))
      (by_cond Read (ltb (first_at (text "&") (take (upto s) s)) (upto s)) torn-read
      (by_cond Read (ltb (first_at (text "]]>") (take (upto s) s)) (upto s)) torn-read (is z false)))
      torn-read)))
      (eqb-cases (upto s) 0)
    where
      is : ((upto s ≡ 0 → ⊥) × (eqb (upto s) 0 ≡ false)) → (w : Bool) → Read (Text w (upto s))
      is z w e =
          record {
            some = ⊎_elim (λ y. y.0) (λ y. absurd (z.0 (omega (arith, y.0)))) (ltb-cases 0 (upto s));
            inside = upto-within s;
            ends = upto-ends s;
          }

  pub item-whole : is_readable (item before s) ≡ true → Whole (item before s) s
  unfolding item
  item-whole =
      by_cond Read (eqb (byte s 0) 0x3C)
      (by_cond Read (eqb (byte s 1) 0x2F) end_read (by_cond Read (eqb (byte s 1) 0x21) comment-read start-read))
      text-read

-- ---- its bytes stand at the front of another list too

none-white : white 0 ≡ false
unfolding white
none-white = refl

-- s and s' share the bytes of x, and x ends there in s'
record Held (s s' : List ℕ) (x : Item) : Type 0 where
  left : item_end x ≤ length s
  right : item_end x ≤ length s'
  front : Front s s' (item_end x)
  ends : EndsBefore x (drop (item_end x) s')

pub ends_read : (x : Item) (q : List ℕ) → EndsBefore x q → is_readable x ≡ true
unfolding EndsBefore
ends_read (Start t) q h = refl
ends_read (Empty t) q h = refl
ends_read (End n e) q h = refl
ends_read (Text w e) q h = refl
ends_read (Comment e) q h = refl
ends_read (Unreadable p) q h = absurd h

module _ (before : ℕ) (s s' : List ℕ) where
  abbrev H : Item → Type 0
  H = Held s s'

  torn-held : {A : Type 0} → H (Unreadable before) → A
  unfolding EndsBefore
  torn-held h = absurd h.ends

  -- what is shared of an item of e bytes
  abbrev Bytes : ℕ → Type 0
  Bytes e = (e ≤ length s) × (e ≤ length s') × Front s s' e

  bytes : (x : Item) → H x → Bytes (item_end x)
  bytes x h = (h.left, h.right, h.front)

  twice-held : {A : Type 0} (n : ℕ) (more : List Attr) (empty : Bool) (e : ℕ) → twice more ≡ true → H (tag_item before n (closed more empty e)) → A
  unfolding tag_item
  twice-held n more empty e y h = torn-held (rw y at h)

  tag-held : (n : ℕ) (more : List Attr) (empty : Bool) (e : ℕ) → twice more ≡ false → H (tag_item before n (closed more empty e)) → Bytes e
  unfolding tag_item tag_of
  tag-held n more empty e y h =
      by_cond (λ (x : Item). H x → Bytes e) empty (bytes (Empty (tag_of n (kept_of none_known more) e))) (bytes (Start (tag_of n (kept_of none_known more) e))) (rw y at h)

  -- up to the byte behind its name
  tag-name : (n : ℕ) (x : Ends) → ends s (1 + n) ≡ x → H (tag_item before n x) → Front s s' (1 + (n + 1))
  unfolding ends tag_item
  tag-name n torn q h = torn-held h
  tag-name n (closed more empty e) q h =
      ⊎_elim
      (λ y. twice-held n more empty e y h)
      (λ y i l. let o = ends-ordered (drop (1 + n) s) 0 (1 + n) more empty e q in (tag-held n more empty e y h).2 i (omega (arith, o.end)))
      (bool_cases (twice more))

  tag_same : (n : ℕ) (x : Ends) → ends s (1 + n) ≡ x → H (tag_item before n x) → tag_item before n (ends s' (1 + n)) ≡ tag_item before n x
  unfolding ends tag_item
  tag_same n torn q h = torn-held h
  tag_same n (closed more empty e) q h =
      ⊎_elim
      (λ y. twice-held n more empty e y h)
      (λ y.
      let g = tag-held n more empty e y h in
      ap (tag_item before n)
      (ends-front (drop (1 + n) s) (drop (1 + n) s') 0 (1 + n) more empty e q (omega (arith, g.1, length-drop (1 + n) s'))
      (λ i l. byte-drop s (1 + n) i ∙ g.2 (1 + n + i) l ∙ sym (byte-drop s' (1 + n) i))))
      (bool_cases (twice more))

  start-name : H (start_tag before s) → Front s s' (1 + (run name_byte (drop 1 s) + 1))
  unfolding start_tag
  start-name = by_cond (λ (x : Item). H x → Front s s' (1 + (run name_byte (drop 1 s) + 1))) (name_start (byte s 1)) (tag-name _ _ refl) torn-held

  start-same : H (start_tag before s) → start_tag before s' ≡ start_tag before s
  unfolding start_tag
  start-same h =
      let f = start-name h in
      rw (← f 1 (omega arith), name-near s s' 1 f) (cond_same H (name_start (byte s 1)) (tag_same _ _ refl) (λ z. refl) h)

  abbrev end_at : ℕ
  end_at = 2 + run name_byte (drop 2 s) + run white (drop (2 + run name_byte (drop 2 s)) s)

  end-held : H (end_tag before s) → Bytes (end_at + 1)
  unfolding end_tag end_name end_close
  end-held =
      by_cond (λ (x : Item). H x → Bytes (end_at + 1)) (name_start (byte s 2))
      (by_cond (λ (x : Item). H x → Bytes (end_at + 1)) (eqb (byte s end_at) 0x3E) (bytes (End (run name_byte (drop 2 s)) (end_at + 1))) torn-held)
      torn-held

  end_same : H (end_tag before s) → end_tag before s' ≡ end_tag before s
  unfolding end_tag end_name end_close
  end_same h =
      let f = (end-held h).2 in
      let n = run name_byte (drop 2 s) in
      rw (← f 2 (omega arith), name-near s s' 2 (λ i l. f i (omega arith)), white-near s s' (2 + n) (λ i l. f i (omega arith)), ← f end_at (omega arith))

  abbrev dashes : ℕ
  dashes = first_at (text "--") (drop 4 s)

  comment-held : H (comment_tag before s) → Bytes (4 + (dashes + 3))
  unfolding comment_tag comment comment_to comment_item
  comment-held =
      by_cond P (eqb (byte s 2) 0x2D)
      (by_cond P (eqb (byte s 3) 0x2D)
      (by_cond (λ x. P (comment_item before x)) (eqb (byte (drop 4 s) (dashes + 2)) 0x3E)
      (by_cond (λ x. P (comment_item before x)) (all_chars (take dashes (drop 4 s))) (bytes (Comment (4 + (dashes + 3)))) torn-held)
      torn-held)
      torn-held)
      torn-held
    where
      P : Item → Type 0
      P x = H x → Bytes (4 + (dashes + 3))

  comment-same : H (comment_tag before s) → comment_tag before s' ≡ comment_tag before s
  unfolding comment_tag comment comment_to
  comment-same h =
      let b = comment-held h in
      let l : dashes + 3 ≤ length (drop 4 s) = omega (arith, b.0, length-drop 4 s) in
      let l' : dashes + 3 ≤ length (drop 4 s') = omega (arith, b.1, length-drop 4 s') in
      let g = front-drop s s' 4 (dashes + 3) b.2 in
      rw (
        ← b.2 2 (omega arith),
        ← b.2 3 (omega arith),
        first-front (text "--") (omega arith) (drop 4 s) (drop 4 s') (dashes + 3) (omega arith) l l' g,
        ← g (dashes + 2) (omega arith),
        ← take-front (drop 4 s) (drop 4 s') dashes (omega arith) (omega arith) (λ i z. g i (omega arith)),
      )

  text-held : H (text_item before s) → Bytes (upto s) × TextEnds (drop (upto s) s')
  unfolding text_item text_to EndsBefore
  text-held =
      by_cond P (eqb (upto s) 0) torn-held
      (by_cond P (eqb (run white s) (upto s)) (is true)
      (by_cond P (all_chars (take (upto s) s))
      (by_cond P (ltb (first_at (text "&") (take (upto s) s)) (upto s)) torn-held
      (by_cond P (ltb (first_at (text "]]>") (take (upto s) s)) (upto s)) torn-held (is false)))
      torn-held))
    where
      P : Item → Type 0
      P x = H x → Bytes (upto s) × TextEnds (drop (upto s) s')

      is : (w : Bool) → P (Text w (upto s))
      is w h = (bytes (Text w (upto s)) h, h.ends)

  text_same : H (text_item before s) → text_item before s' ≡ text_item before s
  unfolding text_item text_to
  text_same h =
      let t = text-held h in
      let b = t.0 in
      let e = upto-front s s' b.1 b.2 t.1 in
      rw (
        e,
        run-front white none-white s s' (upto s) (white-first s) (rw e at (white-first s')) b.2,
        ← take-front s s' (upto s) b.0 b.1 b.2,
      )

  -- after `<`
  abbrev tagged : List ℕ → Item
  tagged l = cond (eqb (byte l 1) 0x2F) (end_tag before l) (cond (eqb (byte l 1) 0x21) (comment_tag before l) (start_tag before l))

  tagged-same : H (tagged s) → tagged s' ≡ tagged s
  tagged-same h =
      rw (← second h) (cond_same H (eqb (byte s 1) 0x2F) end_same (cond_same H (eqb (byte s 1) 0x21) comment-same start-same) h)
    where
      P : Item → Type 0
      P x = H x → byte s 1 ≡ byte s' 1

      second : P (tagged s)
      second =
          by_cond P (eqb (byte s 1) 0x2F) (λ h. (end-held h).2 1 (omega arith))
          (by_cond P (eqb (byte s 1) 0x21) (λ h. (comment-held h).2 1 (omega arith)) (λ h. start-name h 1 (omega arith)))

  held_same : 0 < item_end (item before s) → H (item before s) → item before s' ≡ item before s
  unfolding item
  held_same some h = rw (← h.front 0 some) (cond_same H (eqb (byte s 0) 0x3C) tagged-same text_same h)

  -- the same bytes, and behind them anything with which the item ends there: the same item
  pub item-near : take (item_end (item before s)) s' ≡ take (item_end (item before s)) s → EndsBefore (item before s) (drop (item_end (item before s)) s')
      → item before s' ≡ item before s
  item-near q h =
      let w = item-whole before s (ends_read (item before s) _ h) in
      held_same w.some
      (record {
        left = w.inside;
        right = shared_long s s' (item_end (item before s)) q w.inside;
        front = shared-front s s' (item_end (item before s)) q;
        ends = h;
      })

-- what stands behind an item does not change it
pub item-front : (before : ℕ) (u r q : List ℕ) → item_end (item before (u ++ r)) ≡ length u → EndsBefore (item before (u ++ r)) q
    → item before (u ++ q) ≡ item before (u ++ r)
item-front before u r q e h =
    let n = item_end (item before (u ++ r)) in
    item-near before (u ++ r) (u ++ q) (take_at u q n (sym e) ∙ sym (take_at u r n (sym e))) (rw (drop_at u q n (sym e)) h)

-- ---- and what it says

stands-within : (n e : ℕ) (x : Span) → Stands n e x → x.start + x.len ≤ e
stands-within n e x (inl z) = omega (arith, z.0, z.1)
stands-within n e x (inr z) = omega (arith, z.1)

-- an item says the same in s and in s'
unfoldable pub Says : Item → List ℕ → List ℕ → Type 0
Says (Start t) s s' = PartsSame t s s' × (value_in s t.v ≡ value_in s' t.v)
Says (Empty t) s s' = PartsSame t s s' × (value_in s t.v ≡ value_in s' t.v)
Says (End n e) s s' = part_of s 2 n ≡ part_of s' 2 n
Says (Text w e) s s' = Unit {0}
Says (Comment e) s s' = Unit {0}
Says (Unreadable p) s s' = Unit {0}

module _ (before : ℕ) (s s' : List ℕ) where
  -- parts that end where the item does, or before
  part-said : (i : Item) → item before s ≡ i → is_readable i ≡ true → take (item_end i) s' ≡ take (item_end i) s → (at n : ℕ) → at + n ≤ item_end i → part_of s at n ≡ part_of s' at n
  part-said i is r q at n h =
      let w : Whole i s = rw is at (item-whole before s (rw is r)) in
      sym (part-front s s' (item_end i) w.inside (shared_long s s' (item_end i) q w.inside) (shared-front s s' (item_end i) q) at n h)

  tag-says : (t : Tag) → IsTag (item before s) t → ((at n : ℕ) → at + n ≤ t.len → part_of s at n ≡ part_of s' at n) → PartsSame t s s' × (value_in s t.v ≡ value_in s' t.v)
  tag-says t is h =
      let laid = tag-laid before s t is in (
        record {
          name = h 1 t.name (omega (arith, laid.name));
          coding = part t.coding laid.values.coding.stands;
          version = part t.dtd.version laid.values.version.stands;
          release = part t.dtd.release laid.values.release.stands;
          message = part t.dtd.message laid.values.message.stands;
        },
        part t.v laid.values.v,
      )
    where
      part : (x : Span) → Stands t.name t.len x → value_in s x ≡ value_in s' x
      part x stands = h x.start x.len (stands-within t.name t.len x stands)

  says-by : (i : Item) → item before s ≡ i → take (item_end i) s' ≡ take (item_end i) s → Says i s s'
  unfolding Says Laid
  says-by (Start t) is q = tag-says t (inl is) (part-said (Start t) is refl q)
  says-by (Empty t) is q = tag-says t (inr is) (part-said (Empty t) is refl q)
  says-by (End n e) is q = let h : 2 + n < e = rw is at (item-laid before s) in part-said (End n e) is refl q 2 n (omega arith)
  says-by (Text w e) is q = tt
  says-by (Comment e) is q = tt
  says-by (Unreadable p) is q = tt

  -- where its bytes are the same
  pub item-says : take (item_end (item before s)) s' ≡ take (item_end (item before s)) s → Says (item before s) s s'
  item-says q = says-by (item before s) refl q
