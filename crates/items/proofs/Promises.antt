-- What holds of the item at the front of a part: it is one of the five kinds, or refused with 2 at its own place; a text reaches to the next `<`, and is refused with 3 where
-- it is not all white space. Assumes nothing.
use Prim.Native.Nat.{ℕ, ◌+◌}
use mathlib.Core.Path.{◌≡◌, refl, sym, ap}
use mathlib.Core.List.{List}
use mathlib.Core.Logic.{◌⊎◌, inl, inr, ⊎_elim}
use mathlib.Core.Bool.{true, false}
use native.Mathlib.Omega.{arith}
use lib.ListN.{drop, take}
use lib.Dec.{eqb, ltb}
use Rattle.std.specs.Prelude.{Option, Some, None}
use Rattle.lists.proofs.Cases.{bool_cases, by_cond}
use Rattle.slices.specs.Bytes.{byte}
use Rattle.slices.specs.Run.{run}
use Rattle.slices.specs.Same.{first_at}
use Rattle.slices.specs.Text.{text}
use Rattle.characters.specs.Says.{all_chars}
use Rattle.attributes.specs.Names.{name_start, name_byte, white}
use Rattle.tags.specs.Tail.{Ends, closed, torn, twice}
use Rattle.items.specs.Comment.{comment}
use Rattle.items.specs.Text.{text_to, text_item}
use Rattle.items.specs.Item.{tag_item, start_tag, end_tag, end_name, end_close, comment_item, comment_tag, item, is_readable, item_refusal}
use Rattle.items.specs.declared.Item.{Item}
use Rattle.items.specs.declared.Item.TheVariants.{Start, Empty, End, Text, Comment, Unreadable}

-- "The place of an item is the index of its first byte"; "Text is a longest run of bytes without `<`. Only space, tab, CR and LF are allowed in it"
unfoldable pub Placed : ℕ → List ℕ → Item → Type 0
Placed before s (Start t) = Unit {0}
Placed before s (Empty t) = Unit {0}
Placed before s (End n e) = Unit {0}
Placed before s (Text w e) = (e ≡ first_at (text "<") s) × (w ≡ eqb (run white s) e)
Placed before s (Comment e) = Unit {0}
Placed before s (Unreadable p) = p ≡ before

module _ (before : ℕ) (s : List ℕ) where
  tag-placed : (n : ℕ) (x : Ends) → Placed before s (tag_item before n x)
  unfolding tag_item Placed
  tag-placed n (closed more empty e) = by_cond (Placed before s) (twice more) refl (by_cond (Placed before s) empty tt tt)
  tag-placed n torn = refl

  start-placed : Placed before s (start_tag before s)
  unfolding start_tag Placed
  start-placed = by_cond (Placed before s) (name_start (byte s 1)) (tag-placed _ _) refl

  end-placed : Placed before s (end_tag before s)
  unfolding end_tag end_name end_close Placed
  end-placed =
      let n = run name_byte (drop 2 s) in
      by_cond (Placed before s) (name_start (byte s 2)) (by_cond (Placed before s) (eqb (byte s (2 + n + run white (drop (2 + n) s))) 0x3E) tt refl) refl

  reach-placed : (x : Option ℕ) → Placed before s (comment_item before x)
  unfolding comment_item Placed
  reach-placed (Some e) = tt
  reach-placed None = refl

  comment-placed : Placed before s (comment_tag before s)
  unfolding comment_tag Placed
  comment-placed =
      by_cond (Placed before s) (eqb (byte s 2) 0x2D) (by_cond (Placed before s) (eqb (byte s 3) 0x2D) (reach-placed (comment (drop 4 s))) refl) refl

  text-placed : (n : ℕ) → n ≡ first_at (text "<") s → Placed before s (text_to before s n)
  unfolding text_to Placed
  text-placed n q =
      by_cond (Placed before s) (eqb n 0) refl
      (⊎_elim
      (λ w. rw w (q, sym w))
      (λ w.
      rw w
      (by_cond (Placed before s) (all_chars (take n s))
      (by_cond (Placed before s) (ltb (first_at (text "&") (take n s)) n) refl
      (by_cond (Placed before s) (ltb (first_at (text "]]>") (take n s)) n) refl (q, sym w)))
      refl))
      (bool_cases (eqb (run white s) n)))

  pub item-placed : Placed before s (item before s)
  unfolding item text_item
  item-placed =
      by_cond (Placed before s) (eqb (byte s 0) 0x3C)
      (by_cond (Placed before s) (eqb (byte s 1) 0x2F) end-placed
      (by_cond (Placed before s) (eqb (byte s 1) 0x21) comment-placed start-placed))
      (text-placed (first_at (text "<") s) refl)

-- "An item is either one of five kinds or a refusal with its place": it is readable and not refused with 2, or it is refused with "2: the item is unreadable", at the index of its
-- first byte
pub kind-or-refused : (before : ℕ) (s : List ℕ)
    → ((is_readable (item before s) ≡ true) × (item_refusal (item before s) ≡ 2 → ⊥))
    ⊎ ((is_readable (item before s) ≡ false) × (item before s ≡ Unreadable before) × (item_refusal (item before s) ≡ 2))
unfolding Placed
kind-or-refused before s = go (item before s) (item-placed before s)
  where
    go : (x : Item) → Placed before s x
        → ((is_readable x ≡ true) × (item_refusal x ≡ 2 → ⊥)) ⊎ ((is_readable x ≡ false) × (x ≡ Unreadable before) × (item_refusal x ≡ 2))
    go (Start t) h = inl (refl, λ e. omega (arith, e))
    go (Empty t) h = inl (refl, λ e. omega (arith, e))
    go (End n l) h = inl (refl, λ e. omega (arith, e))
    go (Text true l) h = inl (refl, λ e. omega (arith, e))
    go (Text false l) h = inl (refl, λ e. omega (arith, e))
    go (Comment l) h = inl (refl, λ e. omega (arith, e))
    go (Unreadable p) h = inr (refl, ap (λ (q : ℕ). Unreadable q) h, refl)

-- "text with other XML characters is refusal 3": what is refused with 3 by itself is a text up to the next `<`, and not all of its bytes are white space
pub other-text-refused : (before : ℕ) (s : List ℕ) → item_refusal (item before s) ≡ 3
    → (item before s ≡ Text false (first_at (text "<") s)) × (eqb (run white s) (first_at (text "<") s) ≡ false)
unfolding Placed
other-text-refused before s = go (item before s) (item-placed before s)
  where
    go : (x : Item) → Placed before s x → item_refusal x ≡ 3 → (x ≡ Text false (first_at (text "<") s)) × (eqb (run white s) (first_at (text "<") s) ≡ false)
    go (Start t) h e = absurd (omega (arith, e))
    go (Empty t) h e = absurd (omega (arith, e))
    go (End n l) h e = absurd (omega (arith, e))
    go (Text true l) h e = absurd (omega (arith, e))
    go (Text false l) h e = (ap (λ (n : ℕ). Text false n) h.0, rw h.0 at (sym h.1))
    go (Comment l) h e = absurd (omega (arith, e))
    go (Unreadable p) h e = absurd (omega (arith, e))
