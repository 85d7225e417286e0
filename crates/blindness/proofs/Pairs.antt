-- Two lists of items that are pairwise the same at the same places, up to the first that cannot be read, and say the same but for the `v` of tags of one
-- name. Assumes nothing.
use Prim.Native.Nat.{ℕ, ◌<◌}
use mathlib.Core.Path.{◌≡◌, refl, sym, ◌∙◌}
use mathlib.Core.List.{List, [], ◌∷◌}
use mathlib.Core.Bool.{true}
use mathlib.Core.Logic.{◌⊎◌, inl, inr, ⊎_elim}
use lib.ListN.{length, drop}
use Rattle.lists.proofs.Cases.{bool_cases, eqb-cases, never, zero-not-one}
use Rattle.slices.specs.Bytes.{byte}
use Rattle.slices.specs.Same.{same}
use Rattle.slices.proofs.Sames.{same_self, same-equal}
use Rattle.slices.specs.Part.{part_of}
use Rattle.items.specs.Item.{item, item_end}
use Rattle.items.specs.declared.Tag.{Tag}
use Rattle.items.specs.declared.Item.{Item}
use Rattle.items.specs.declared.Item.TheVariants.{Start, Empty, End, Text, Comment, Unreadable}
use Rattle.reader.specs.Items.{Placed}
use Rattle.digits.specs.Unseen.{Or}
use Rattle.digits.specs.Items.{InV, JoinsV, IsTag, value_in, PartsSame}
use Rattle.digits.proofs.Parts.{tag-parts, tag-v, end-name}
use Rattle.blindness.specs.Readable.{tag_named, InTag}

-- two lists are the same, or not
pub list_cases : (a b : List ℕ) → (a ≡ b) ⊎ (a ≡ b → ⊥)
list_cases [] [] = inl refl
list_cases [] (d ∷ b) = inr (λ e. zero-not-one (cc))
list_cases (c ∷ a) [] = inr (λ e. zero-not-one (cc))
list_cases (c ∷ a) (d ∷ b) =
    ⊎_elim
    (λ q. ⊎_elim (λ e. inl (rw (q.0, e))) (λ e. inr (λ z. e (cc))) (list_cases a b))
    (λ q. inr (λ z. q.0 (cc)))
    (eqb-cases c d)

module _ (name : List ℕ) (R : List ℕ → List ℕ → Type 0) where
  -- a tag says the same in s and in s', but for its `v` if it bears the name
  pub record TagSays (t : Tag) (s s' : List ℕ) : Type 0 where
    pub parts : PartsSame t s s'
    pub v : ((part_of s 1 t.name ≡ name) × R (value_in s t.v) (value_in s' t.v))
        ⊎ ((part_of s 1 t.name ≡ name → ⊥) × (value_in s t.v ≡ value_in s' t.v))

  unfoldable pub Says : Item → List ℕ → List ℕ → Type 0
  Says (Start t) s s' = TagSays t s s'
  Says (Empty t) s s' = TagSays t s s'
  Says (End n e) s s' = part_of s 2 n ≡ part_of s' 2 n
  Says (Text w e) s s' = Unit {0}
  Says (Comment e) s s' = Unit {0}
  Says (Unreadable p) s s' = Unit {0}

  -- of the documents x and y
  pub data Aligned (x y : List ℕ) : List Placed → List Placed → Type 0 where
    over : Aligned x y [] []
    pair : {xs ys : List Placed} (at : ℕ) (i : Item) (s s' : List ℕ) → s ≡ drop at x → s' ≡ drop at y → Says i s s' → Aligned x y xs ys
        → Aligned x y (record { at = at; item = i; rest = s } ∷ xs) (record { at = at; item = i; rest = s' } ∷ ys)
    -- one that cannot be read, and whatever is behind it
    shut : {xs ys : List Placed} (at p : ℕ) (s s' : List ℕ)
        → Aligned x y (record { at = at; item = Unreadable p; rest = s } ∷ xs) (record { at = at; item = Unreadable p; rest = s' } ∷ ys)

  -- s is the part that begins with the item
  module _ (before : ℕ) (s s' : List ℕ) (long : length s ≡ length s') where
    tag-says : (t : Tag) → IsTag (item before s) t → ((i : ℕ) → i < t.len → (byte s i ≡ byte s' i) ⊎ ((same (part_of s 1 t.name) name ≡ true) × InV (Start t) i))
        → (same (part_of s 1 t.name) name ≡ true → R (value_in s t.v) (value_in s' t.v)) → TagSays t s s'
    unfolding InV
    tag-says t is h r =
        record {
          parts = tag-parts before s t is s' long (λ i l. ⊎_elim inl (λ z. inr z.1) (h i l));
          v =
              ⊎_elim
              (λ e. inl (same-equal (part_of s 1 t.name) name e, r e))
              (λ e. inr (λ z. never (sym e ∙ rw z (same_self name)), tag-v before s t is s' long (λ i l. ⊎_elim (λ b. b) (λ z. never (sym e ∙ z.0)) (h i l))))
              (bool_cases (same (part_of s 1 t.name) name));
        }

    pub item-says : (x : Item) → item before s ≡ x → ((i : ℕ) → i < item_end x → (byte s i ≡ byte s' i) ⊎ InTag name x s i)
        → (tag_named name x s ≡ true → JoinsV R x s s') → Says x s s'
    unfolding Says tag_named InV JoinsV
    item-says (Start t) e h r = tag-says t (inl e) h r
    item-says (Empty t) e h r = tag-says t (inr e) h r
    item-says (End n m) e h r = end-name before s s' n m e long (λ i l. ⊎_elim (λ b. b) (λ z. absurd z.1) (h i l))
    item-says (Text w m) e h r = tt
    item-says (Comment m) e h r = tt
    item-says (Unreadable p) e h r = tt

  tag-joins : (t : Tag) (s s' : List ℕ) → TagSays t s s' → Or R (value_in s t.v) (value_in s' t.v)
  tag-joins t s s' p = ⊎_elim (λ z. inr z.1) (λ z. inl z.1) p.v

  pub says-joins : (x : Item) (s s' : List ℕ) → Says x s s' → JoinsV (Or R) x s s'
  unfolding Says JoinsV
  says-joins (Start t) s s' p = tag-joins t s s' p
  says-joins (Empty t) s s' p = tag-joins t s s' p
  says-joins (End n e) s s' p = tt
  says-joins (Text w e) s s' p = tt
  says-joins (Comment e) s s' p = tt
  says-joins (Unreadable q) s s' p = tt
