-- What the items of a part of a document say does not depend on the place where it stands. Assumes nothing.
use Prim.Native.Nat.{ℕ, zero, suc, pred, ◌+◌, ◌<◌}
use mathlib.Core.Path.{◌≡◌, refl, sym, ap, ◌∙◌}
use mathlib.Core.List.{List, [], ◌∷◌, ◌++◌}
use mathlib.Core.Bool.{Bool, true, false, cond}
use native.Mathlib.Omega.{arith}
use lib.Dec.{eqb, ltb}
use lib.ListN.{length, take, drop, length-append}
use lib.Seq.{drop-append_seam}
use Rattle.lists.proofs.Cases.{never}
use Rattle.slices.specs.Bytes.{byte}
use Rattle.slices.specs.Run.{run}
use Rattle.slices.specs.Same.{first_at}
use Rattle.slices.specs.Text.{text}
use Rattle.characters.specs.Says.{all_chars}
use Rattle.attributes.specs.Names.{name_start, name_byte, white}
use Rattle.tags.specs.Tail.{Ends, closed, torn, twice}
use Rattle.items.specs.Comment.{comment_to, comment}
use Rattle.items.specs.Text.{text_to, text_item}
use Rattle.items.specs.Item.{tag_item, start_tag, end_tag, end_name, end_close, comment_item, comment_tag, item, item_end}
use Rattle.items.specs.declared.Item.{Item}
use Rattle.items.specs.declared.Item.TheVariants.{Unreadable}
use Rattle.reader.specs.Items.{placed, items_after, items_from}
use Rattle.reader.proofs.Ran.{items-next}
use Rattle.trees.specs.Trees.{Sign}
use Rattle.contents.specs.Said.{TagSaid}
use Rattle.contents.specs.Spelled.{signs_by, signs_of, allowed, AllAllowed}

-- what joins both cases joins their choice
pub both_cond : {A B : Type 0} (R : A → B → Type 0) (t : Bool) {a b : A} {c d : B} → R a c → R b d → R (cond t a b) (cond t c d)
both_cond R true p q = p
both_cond R false p q = q

-- two items that are the same but for the place that an unreadable one names
pub record Like (x y : Item) : Type 0 where
  pub end : item_end x ≡ item_end y
  pub stands : allowed x ≡ allowed y
  pub says : (s : List ℕ) → signs_by x s ≡ signs_by y s
  pub same : allowed x ≡ true → x ≡ y

like-self : (x : Item) → Like x x
like-self x = record { end = refl; stands = refl; says = λ s. refl; same = λ a. refl }

module _ (b c : ℕ) where
  unread : Like (Unreadable b) (Unreadable c)
  unfolding allowed signs_by
  unread = record { end = refl; stands = refl; says = λ s. refl; same = λ a. never a }

  tag-like : (n : ℕ) (x : Ends) → Like (tag_item b n x) (tag_item c n x)
  unfolding tag_item
  tag-like n (closed more empty e) = both_cond Like (twice more) unread (both_cond Like empty (like-self _) (like-self _))
  tag-like n torn = unread

  module _ (s : List ℕ) where
    start-like : Like (start_tag b s) (start_tag c s)
    unfolding start_tag
    start-like = both_cond Like (name_start (byte s 1)) (tag-like _ _) unread

    end-like : Like (end_tag b s) (end_tag c s)
    unfolding end_tag end_name end_close
    end-like =
        both_cond Like (name_start (byte s 2))
        (both_cond Like (eqb (byte s (2 + run name_byte (drop 2 s) + run white (drop (2 + run name_byte (drop 2 s)) s))) 0x3E) (like-self _) unread) unread

    comment-like : Like (comment_tag b s) (comment_tag c s)
    unfolding comment_tag comment comment_to comment_item
    comment-like =
        let n = first_at (text "--") (drop 4 s) in
        both_cond Like (eqb (byte s 2) 0x2D)
        (both_cond Like (eqb (byte s 3) 0x2D)
        (both_cond (λ x y. Like (comment_item b x) (comment_item c y)) (eqb (byte (drop 4 s) (n + 2)) 0x3E)
        (both_cond (λ x y. Like (comment_item b x) (comment_item c y)) (all_chars (take n (drop 4 s))) (like-self _) unread) unread)
        unread) unread

    text-like : (n : ℕ) → Like (text_to b s n) (text_to c s n)
    unfolding text_to
    text-like n =
        both_cond Like (eqb n 0) unread
        (both_cond Like (eqb (run white s) n) (like-self _)
        (both_cond Like (all_chars (take n s))
        (both_cond Like (ltb (first_at (text "&") (take n s)) n) unread (both_cond Like (ltb (first_at (text "]]>") (take n s)) n) unread (like-self _)))
        unread))

    pub item-like : Like (item b s) (item c s)
    unfolding item text_item
    item-like =
        both_cond Like (eqb (byte s 0) 0x3C)
        (both_cond Like (eqb (byte s 1) 0x2F) end-like (both_cond Like (eqb (byte s 1) 0x21) comment-like start-like))
        (text-like (first_at (text "<") s))

-- ---- the items of a part

pub signs-shift : (l : List ℕ) (k at at' : ℕ) → signs_of (items_after k at l) ≡ signs_of (items_after k at' l)
unfolding items_after signs_of
signs-shift [] k at at' = refl
signs-shift (b ∷ t) (suc k) at at' = signs-shift t k (suc at) (suc at')
signs-shift (b ∷ t) zero at at' =
    let h = item-like at at' (b ∷ t) in
    ap (λ (n : ℕ). signs_by (item at (b ∷ t)) (b ∷ t) ++ signs_of (items_after (pred n) (suc at) t)) h.end
    ∙ ap (λ (g : List (Sign TagSaid)). g ++ signs_of (items_after (pred (item_end (item at' (b ∷ t)))) (suc at) t)) (h.says (b ∷ t))
    ∙ ap (λ (g : List (Sign TagSaid)). signs_by (item at' (b ∷ t)) (b ∷ t) ++ g) (signs-shift t (pred (item_end (item at' (b ∷ t)))) (suc at) (suc at'))

pub allowed-shift : (l : List ℕ) (k at at' : ℕ) → AllAllowed (items_after k at l) → AllAllowed (items_after k at' l)
unfolding items_after AllAllowed
allowed-shift [] k at at' a = tt
allowed-shift (b ∷ t) (suc k) at at' a = allowed-shift t k (suc at) (suc at') a
allowed-shift (b ∷ t) zero at at' a =
    let h = item-like at at' (b ∷ t) in
    (sym h.stands ∙ a.0, allowed-shift t (pred (item_end (item at' (b ∷ t)))) (suc at) (suc at') (rw h.end at a.1))

-- the tags of a part say these signs, and its items may stand in a document
abbrev pub signs_in : List ℕ → List (Sign TagSaid)
signs_in l = signs_of (items_after 0 0 l)

abbrev pub StandIn : List ℕ → Type 0
StandIn l = AllAllowed (items_after 0 0 l)

-- ---- one item in front

module _ (u l : List ℕ) (some : 0 < length u) (end : item_end (item 0 (u ++ l)) ≡ length u) where
  next-is : items_after 0 0 (u ++ l) ≡ placed 0 (u ++ l) ∷ items_after 0 (length u) l
  unfolding items_from
  next-is =
      let z : 0 + length u ≡ length u = omega arith in
      items-next (u ++ l) 0 (length u) (rw length-append (omega arith)) end some
      ∙ ap (λ (n : ℕ). placed 0 (u ++ l) ∷ items_after 0 n (drop n (u ++ l))) z
      ∙ ap (λ (m : List ℕ). placed 0 (u ++ l) ∷ items_after 0 (length u) m) (drop-append_seam u l)

  pub signs-next : signs_in (u ++ l) ≡ signs_by (item 0 (u ++ l)) (u ++ l) ++ signs_in l
  unfolding signs_of
  signs-next = ap signs_of next-is ∙ ap (λ (g : List (Sign TagSaid)). signs_by (item 0 (u ++ l)) (u ++ l) ++ g) (signs-shift l 0 (length u) 0)

  pub next-stands : StandIn (u ++ l) → (allowed (item 0 (u ++ l)) ≡ true) × StandIn l
  unfolding AllAllowed
  next-stands a =
      let b : AllAllowed (placed 0 (u ++ l) ∷ items_after 0 (length u) l) = rw next-is at a in
      (b.0, allowed-shift l 0 (length u) 0 b.1)

  pub stands-next : allowed (item 0 (u ++ l)) ≡ true → StandIn l → StandIn (u ++ l)
  unfolding AllAllowed
  stands-next e a = rw next-is (e, allowed-shift l 0 0 (length u) a)
