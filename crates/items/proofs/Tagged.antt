-- The item of a tag, from how it ends and from what is kept of its attributes. Assumes nothing.
use Prim.Native.Nat.{ℕ, ◌+◌}
use mathlib.Core.Path.{◌≡◌, refl, sym, ap, ◌∙◌}
use mathlib.Core.List.{List}
use mathlib.Core.Bool.{Bool, true, false, cond}
use mathlib.Core.Logic.{⊎_elim}
use native.Mathlib.Omega.{arith}
use lib.Dec.{ltb}
use lib.ListN.{drop}
use Rattle.std.specs.Prelude.{None}
use Rattle.lists.proofs.Cases.{ltb-cases}
use Rattle.slices.specs.Bytes.{byte}
use Rattle.slices.specs.Run.{run}
use Rattle.attributes.specs.Names.{name_start, name_byte}
use Rattle.std.proofs.lemmas.Option.{same_Some}
use Rattle.tags.specs.Known.{none_known}
use Rattle.tags.specs.Tail.{Attr, Ends, closed, torn, ends, kept_of, tail, twice, twice_in, shut}
use Rattle.tags.specs.declared.Known.{Known}
use Rattle.tags.specs.declared.Tail.{Tail}
use Rattle.tags.proofs.Many.{few}
use Rattle.items.specs.Item.{tag_of, tag_item, start_tag}
use Rattle.items.specs.declared.Item.TheVariants.{Start, Empty, Unreadable}

-- the short way to "none twice" is right
short : (more : List Attr) → twice more ≡ cond (ltb (kept_of none_known more).many 2) false (twice more)
short more =
    ⊎_elim (λ y. rw (y.1, few more y.0)) (λ y. rw y.1) (ltb-cases (kept_of none_known more).many 2)

-- r is what was answered to whether an attribute stands twice
pub tagged : (before n : ℕ) (x : Ends) (k : Known) (empty : Bool) (e : ℕ) (r : Bool)
    → shut k empty e ≡ tail none_known x → r ≡ cond (ltb k.many 2) false (twice_in x)
    → tag_item before n x ≡ cond r (Unreadable before) (cond empty (Empty (tag_of n k e)) (Start (tag_of n k e)))
unfolding tail tag_item twice_in
tagged before n (closed more closing m) k empty e r q h =
    let t = same_Some _ _ q in
    let ek : k ≡ kept_of none_known more = ap (λ (y : Tail). y.known) t in
    let ee : e ≡ m = ap (λ (y : Tail). y.end) t in
    let es : empty ≡ closing = ap (λ (y : Tail). y.empty) t in
    rw (ek, ee, es) (rw (rw ek at h, ← short more))
tagged before n torn k empty e r q h = let z : ◌≡◌ {A = ℕ} 0 1 = cc in absurd (omega arith)

pub broken : (before n : ℕ) (x : Ends) → None ≡ tail none_known x → tag_item before n x ≡ Unreadable before
unfolding tail tag_item
broken before n (closed more closing m) q = let z : ◌≡◌ {A = ℕ} 0 1 = cc in absurd (omega arith)
broken before n torn q = refl

-- b, t, l and n are what the function's calls found on its way to the tag's name
module _ (before : ℕ) (s : List ℕ) {b : ℕ} {t : Bool} {l : List ℕ} {n : ℕ} where
  pub start-name : b ≡ byte s 1 → t ≡ name_start b → t ≡ true → l ≡ drop 1 s → n ≡ run name_byte l
      → start_tag before s ≡ tag_item before n (ends s (1 + n))
  unfolding start_tag
  start-name eb et y el en =
      let q : name_start (byte s 1) ≡ true = ap name_start (sym eb) ∙ sym et ∙ y in
      let m : n ≡ run name_byte (drop 1 s) = en ∙ ap (run name_byte) el in
      rw (q, ← m)
