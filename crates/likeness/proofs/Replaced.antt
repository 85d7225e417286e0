-- Whole items of a part of a document, and other bytes behind them whose tags say the same. Assumes nothing.
use Prim.Native.Nat.{ℕ, zero, suc, pred, ◌+◌, ◌≤◌, ◌<◌}
use mathlib.Core.Path.{◌≡◌, refl, sym, ap, subst, ◌∙◌}
use mathlib.Core.List.{List, [], ◌∷◌, ◌++◌, append_assoc}
use mathlib.Core.Bool.{true, false}
use mathlib.Core.Logic.{◌⊎◌, inl, inr, ⊎_elim}
use native.Mathlib.Omega.{arith}
use lib.Dec.{eqb, ltb}
use lib.ListN.{length, take, drop, take-append-drop}
use lib.Seq.{length-take-le}
use Rattle.lists.proofs.Cases.{by_cond, eqb-cases, never}
use Rattle.slices.specs.Bytes.{byte}
use Rattle.slices.specs.Run.{run}
use Rattle.slices.specs.Same.{first_at}
use Rattle.slices.specs.Text.{text}
use Rattle.slices.specs.declared.Span.{Span}
use Rattle.characters.specs.Says.{all_chars}
use Rattle.attributes.specs.Names.{name_start, name_byte, white}
use Rattle.elements.specs.Names.{element_no}
use Rattle.tags.specs.Tail.{Ends, closed, torn, ends, twice}
use Rattle.items.specs.Comment.{comment_to, comment}
use Rattle.items.specs.Text.{text_to, text_item}
use Rattle.items.specs.Item.{tag_item, start_tag, end_tag, end_name, end_close, comment_item, comment_tag, item, is_readable, item_end}
use Rattle.items.specs.declared.Tag.{Tag}
use Rattle.items.specs.declared.Item.{Item}
use Rattle.items.specs.declared.Item.TheVariants.{Start, Empty, End, Text, Comment, Unreadable}
use Rattle.digits.specs.Items.{Stands, TagLaid, Laid}
use Rattle.digits.proofs.Parts.{item-laid}
use Rattle.fronts.specs.Front.{EndsBefore}
use Rattle.fronts.proofs.Items.{item-whole, item-front}
use Rattle.reader.specs.Items.{items_after}
use Rattle.trees.specs.Trees.{Sign, Closes}
use Rattle.contents.specs.Said.{TagSaid}
use Rattle.contents.specs.Spelled.{value_given, dtd_of_tag, said_of_tag, element_in, signs_by, allowed, AllAllowed}
use Rattle.likeness.specs.Alike.{Between, SayAlike}
use Rattle.likeness.proofs.Runs.{part-inside, run-part}
use Rattle.likeness.proofs.Shifts.{item-like, signs_in, StandIn, signs-next, next-stands, stands-next}
use Rattle.likeness.proofs.Whites.{whites-more}

-- ---- what an item says stands in its own bytes

module _ (u r : List ℕ) where
  value-own : (x : Span) → x.start + x.len ≤ length u → value_given x (u ++ r) ≡ value_given x u
  unfolding value_given
  value-own x h = rw (part-inside u r x.start x.len h)

  stands-own : (n : ℕ) (x : Span) → Stands n (length u) x → value_given x (u ++ r) ≡ value_given x u
  stands-own n x s = value-own x (⊎_elim (λ e. omega (arith, e.0, e.1)) (λ e. omega (arith, e.1)) s)

  element-own : (from n : ℕ) → from + n ≤ length u → element_in from n (u ++ r) ≡ element_in from n u
  unfolding element_in
  element-own from n h = ap element_no (part-inside u r from n h)

  module _ (t : Tag) (laid : TagLaid t) (len : t.len ≡ length u) where
    own : (x : Span) → Stands t.name t.len x → value_given x (u ++ r) ≡ value_given x u
    own x s = stands-own t.name x (rw len at s)

    said-own : said_of_tag t (u ++ r) ≡ said_of_tag t u
    unfolding said_of_tag dtd_of_tag
    said-own =
        let v = laid.values in
        rw (own t.v v.v, own t.coding v.coding.stands, own t.dtd.version v.version.stands, own t.dtd.release v.release.stands, own t.dtd.message v.message.stands)

    name-own : element_in 1 t.name (u ++ r) ≡ element_in 1 t.name u
    name-own = element-own 1 t.name (omega (arith, laid.name))

  says-own : (i : Item) → Laid i → item_end i ≡ length u → signs_by i (u ++ r) ≡ signs_by i u
  unfolding Laid signs_by
  says-own (Start t) l e = rw (said-own t l e, name-own t l e)
  says-own (Empty t) l e = rw (said-own t l e, name-own t l e)
  says-own (End n m) l e = ap (λ (k : ℕ). Closes k ∷ []) (element-own 2 n (omega arith))
  says-own (Text w m) l e = refl
  says-own (Comment m) l e = refl
  says-own (Unreadable p) l e = refl

  pub signs-own : item_end (item 0 (u ++ r)) ≡ length u → signs_by (item 0 (u ++ r)) (u ++ r) ≡ signs_by (item 0 (u ++ r)) u
  signs-own e = says-own (item 0 (u ++ r)) (item-laid 0 (u ++ r)) e

-- ---- a white text is white

-- how far a text reaches
abbrev pub text_end : Item → ℕ
text_end (Start t) = 0
text_end (Empty t) = 0
text_end (End n e) = 0
text_end (Text w e) = e
text_end (Comment e) = 0
text_end (Unreadable p) = 0

module _ (s : List ℕ) where
  abbrev pub Pale : Item → Type 0
  Pale x = allowed x ≡ true → text_end x ≤ run white s

  tag-pale : (n : ℕ) (x : Ends) → Pale (tag_item 0 n x)
  unfolding tag_item
  tag-pale n (closed more empty e) = by_cond Pale (twice more) (λ a. omega arith) (by_cond Pale empty (λ a. omega arith) (λ a. omega arith))
  tag-pale n torn = λ a. omega arith

  text-pale : (n : ℕ) → Pale (text_to 0 s n)
  unfolding text_to allowed
  text-pale n =
      by_cond Pale (eqb n 0) (λ a. omega arith)
      (⊎_elim
      (λ (z : (run white s ≡ n) × (eqb (run white s) n ≡ true)). rw z.1 (λ a. omega (arith, z.0)))
      (λ (z : (run white s ≡ n → ⊥) × (eqb (run white s) n ≡ false)).
      rw z.1
      (by_cond Pale (all_chars (take n s))
      (by_cond Pale (ltb (first_at (text "&") (take n s)) n) (λ a. omega arith) (by_cond Pale (ltb (first_at (text "]]>") (take n s)) n) (λ a. omega arith) (λ a. never a)))
      (λ a. omega arith)))
      (eqb-cases (run white s) n))

  pub item-pale : Pale (item 0 s)
  unfolding item start_tag end_tag end_name end_close comment_tag comment comment_to comment_item text_item
  item-pale =
      let n = run name_byte (drop 2 s) in
      let d = first_at (text "--") (drop 4 s) in
      by_cond Pale (eqb (byte s 0) 0x3C)
      (by_cond Pale (eqb (byte s 1) 0x2F)
      (by_cond Pale (name_start (byte s 2)) (by_cond Pale (eqb (byte s (2 + n + run white (drop (2 + n) s))) 0x3E) (λ a. omega arith) (λ a. omega arith)) (λ a. omega arith))
      (by_cond Pale (eqb (byte s 1) 0x21)
      (by_cond Pale (eqb (byte s 2) 0x2D)
      (by_cond Pale (eqb (byte s 3) 0x2D)
      (by_cond (λ x. Pale (comment_item 0 x)) (eqb (byte (drop 4 s) (d + 2)) 0x3E)
      (by_cond (λ x. Pale (comment_item 0 x)) (all_chars (take d (drop 4 s))) (λ a. omega arith) (λ a. omega arith)) (λ a. omega arith))
      (λ a. omega arith)) (λ a. omega arith))
      (by_cond Pale (name_start (byte s 1)) (tag-pale (run name_byte (drop 1 s)) (ends s (1 + run name_byte (drop 1 s)))) (λ a. omega arith))))
      (text-pale (first_at (text "<") s))

-- a text, or an item that ends by its own last byte
pub text-or : (i : Item) → allowed i ≡ true → (text_end i ≡ item_end i) ⊎ ((q : List ℕ) → EndsBefore i q)
unfolding allowed EndsBefore
text-or (Start t) a = inr (λ q. tt)
text-or (Empty t) a = inr (λ q. tt)
text-or (End n e) a = inr (λ q. tt)
text-or (Text w e) a = inl refl
text-or (Comment e) a = inr (λ q. tt)
text-or (Unreadable p) a = never a

pub readable : (i : Item) → allowed i ≡ true → is_readable i ≡ true
unfolding allowed
readable (Start t) a = refl
readable (Empty t) a = refl
readable (End n e) a = refl
readable (Text w e) a = refl
readable (Comment e) a = refl
readable (Unreadable p) a = never a

-- ---- whole items in front

-- s is made of whole items, in front of l
pub data Whole (l : List ℕ) : List ℕ → Type 0 where
  none : Whole l []
  next : (u : List ℕ) {s : List ℕ} → 0 < length u → item_end (item 0 (u ++ (s ++ l))) ≡ length u → Whole l s → Whole l (u ++ s)

pub between-from : (l : List ℕ) (k at p : ℕ) → Between (items_after k at l) p → at + k ≤ p
unfolding items_after Between
between-from [] k at p b = absurd b
between-from (c ∷ t) (suc k) at p b = let h = between-from t k (suc at) p b in omega (arith, h)
between-from (c ∷ t) zero at p b =
    ⊎_elim (λ e. omega (arith, e))
    (⊎_elim (λ e. omega (arith, e)) (λ z. let h = between-from t (pred (item_end (item at (c ∷ t)))) (suc at) p z in omega (arith, h)))
    b

-- from the items up to a place between them; k bytes of the last item are still to pass
pub whole_from : (l s : List ℕ) (k at : ℕ) → AllAllowed (items_after k at (s ++ l)) → k ≤ length s → Between (items_after k at (s ++ l)) (at + length s) ⊎ (k ≡ length s) → Whole l (drop k s)
unfolding items_after AllAllowed Between
whole_from l [] zero at a h b = none
whole_from l [] (suc k) at a h b = none
whole_from l (c ∷ s) (suc k) at a h b =
    let e : at + suc (length s) ≡ suc at + length s = omega arith in
    whole_from l s k (suc at) a (omega arith) (⊎_elim (λ z. inl (rw e at z)) (λ z. inr (omega arith)) b)
whole_from l (c ∷ s) zero at a h b = by (pred (item_end (item at ((c ∷ s) ++ l)))) refl (λ k. whole_from l s k (suc at))
  where
    by : (n : ℕ) → pred (item_end (item at ((c ∷ s) ++ l))) ≡ n
        → ((k : ℕ) → AllAllowed (items_after k (suc at) (s ++ l)) → k ≤ length s → Between (items_after k (suc at) (s ++ l)) (suc at + length s) ⊎ (k ≡ length s) → Whole l (drop k s))
        → Whole l (c ∷ s)
    by n e f =
        let some = (item-whole at ((c ∷ s) ++ l) (readable (item at ((c ∷ s) ++ l)) a.0)).some in
        let is : item_end (item at ((c ∷ s) ++ l)) ≡ suc n = omega arith in
        let p : at + suc (length s) ≡ suc at + length s = omega arith in
        let rest : Between (items_after n (suc at) (s ++ l)) (suc at + length s) ⊎ (n ≡ length s) =
        ⊎_elim
        (⊎_elim (λ z. absurd (omega (arith, z))) (⊎_elim (λ z. inr (omega (arith, z, is))) (λ z. inl (rw (e, p) at z))))
        (λ z. absurd (omega (arith, z)))
        b in
        let inside : n ≤ length s = ⊎_elim (λ z. omega (arith, between-from (s ++ l) n (suc at) (suc at + length s) z)) (λ z. omega (arith, z)) rest in
        let same : (c ∷ take n s) ++ drop n s ≡ c ∷ s = ap (λ (t : List ℕ). c ∷ t) (take-append-drop n s) in
        let all : (c ∷ take n s) ++ (drop n s ++ l) ≡ (c ∷ s) ++ l = sym (append_assoc (c ∷ take n s) (drop n s) l) ∙ ap (λ (t : List ℕ). t ++ l) same in
        let long : item_end (item 0 ((c ∷ take n s) ++ (drop n s ++ l))) ≡ suc (length (take n s)) =
        ap (λ (t : List ℕ). item_end (item 0 t)) all ∙ (item-like 0 at ((c ∷ s) ++ l)).end ∙ is ∙ ap suc (sym (length-take-le n s inside)) in
        subst (Whole l) same (next (c ∷ take n s) (omega arith) long (f n (rw e at a.1) inside rest))

pub whole-stands : {l s : List ℕ} → Whole l s → StandIn (s ++ l) → StandIn l
whole-stands none a = a
whole-stands {l} (next u {s} some end w) a = whole-stands w (next-stands u (s ++ l) some end (rw (append_assoc u s l) at a)).1

-- ---- other bytes behind whole items

module _ (l m : List ℕ) (alike : SayAlike l m) where
  module _ (u s : List ℕ) (some : 0 < length u) (end : item_end (item 0 (u ++ (s ++ l))) ≡ length u) (a : StandIn (u ++ (s ++ l)))
      (stands : StandIn (s ++ m)) (signs : signs_in (s ++ l) ≡ signs_in (s ++ m)) where
    -- a white text, which may be a longer one now
    after_text : text_end (item 0 (u ++ (s ++ l))) ≡ item_end (item 0 (u ++ (s ++ l))) → StandIn (u ++ (s ++ m)) × (signs_in (u ++ (s ++ l)) ≡ signs_in (u ++ (s ++ m)))
    after_text e =
        let b = next-stands u (s ++ l) some end a in
        let w = run-part white u (s ++ l) (omega (arith, item-pale (u ++ (s ++ l)) b.0)) in
        let old = whites-more u (s ++ l) w b.1 in
        let new = whites-more u (s ++ m) w stands in
        (new.0, sym old.1 ∙ signs ∙ new.1)

    after-other : ((q : List ℕ) → EndsBefore (item 0 (u ++ (s ++ l))) q) → StandIn (u ++ (s ++ m)) × (signs_in (u ++ (s ++ l)) ≡ signs_in (u ++ (s ++ m)))
    after-other before =
        let b = next-stands u (s ++ l) some end a in
        let same = item-front 0 u (s ++ l) (s ++ m) end (before (s ++ m)) in
        let end' : item_end (item 0 (u ++ (s ++ m))) ≡ length u = ap item_end same ∙ end in (
          stands-next u (s ++ m) some end' (ap allowed same ∙ b.0) stands,
          signs-next u (s ++ l) some end
              ∙ ap (λ (g : List (Sign TagSaid)). signs_by (item 0 (u ++ (s ++ l))) (u ++ (s ++ l)) ++ g) signs
              ∙ ap (λ (g : List (Sign TagSaid)). g ++ signs_in (s ++ m))
              (signs-own u (s ++ l) end ∙ ap (λ (i : Item). signs_by i u) (sym same) ∙ sym (signs-own u (s ++ m) end'))
              ∙ sym (signs-next u (s ++ m) some end'),
        )

    after-item : StandIn (u ++ (s ++ m)) × (signs_in (u ++ (s ++ l)) ≡ signs_in (u ++ (s ++ m)))
    after-item = ⊎_elim after_text after-other (text-or (item 0 (u ++ (s ++ l))) (next-stands u (s ++ l) some end a).0)

  pub kept : {s : List ℕ} → Whole l s → SayAlike (s ++ l) (s ++ m)
  kept none a = alike a
  kept (next u {s} some end w) a =
      let b : StandIn (u ++ (s ++ l)) = rw (append_assoc u s l) at a in
      let r = kept w (next-stands u (s ++ l) some end b).1 in
      rw (append_assoc u s l, append_assoc u s m) (after-item u s some end b r.0 r.1)
