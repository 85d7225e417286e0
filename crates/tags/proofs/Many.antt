-- A tag of at most one attribute has none twice. Assumes nothing.
use Prim.Native.Nat.{ℕ, ◌<◌, ◌≤◌}
use mathlib.Core.Path.{◌≡◌, refl, ◌∙◌}
use mathlib.Core.List.{List, [], ◌∷◌}
use mathlib.Core.Bool.{false}
use mathlib.Core.Logic.{⊎_elim}
use native.Mathlib.Omega.{arith}
use Rattle.lists.proofs.Cases.{by_cond, ltb-cases}
use Rattle.slices.specs.Same.{same}
use Rattle.slices.specs.Text.{text}
use Rattle.tags.specs.Known.{dtd_name, none_known, with_attribute, up_to_two}
use Rattle.tags.specs.Tail.{Attr, kept_of, named, twice}
use Rattle.slices.specs.declared.Span.{Span}
use Rattle.tags.specs.declared.Known.{Known}

noted-many : (k : Known) (n : List ℕ) (v : Span) → (with_attribute k n v).many ≡ up_to_two k.many
unfolding with_attribute
noted-many k n v =
    by_cond P (same n (text "v")) refl (by_cond P (same n (text "codingScheme")) refl (by_cond P (dtd_name n) refl refl))
  where
    P : Known → Type 0
    P x = x.many ≡ up_to_two k.many

-- two stay two
stays : (k : Known) (more : List Attr) → 2 ≤ k.many → 2 ≤ (kept_of k more).many
unfolding kept_of up_to_two
stays k [] h = h
stays k (a ∷ more) h =
    stays (with_attribute k a.name a.value) more
    (rw (noted-many k a.name a.value) (⊎_elim (λ y. absurd (omega arith)) (λ y. rw y.1 h) (ltb-cases k.many 2)))

pub few : (more : List Attr) → (kept_of none_known more).many < 2 → twice more ≡ false
unfolding kept_of none_known named twice up_to_two
few [] h = refl
few (a ∷ []) h = refl
few (a ∷ (b ∷ more)) h =
    let first = with_attribute none_known a.name a.value in
    let e : first.many ≡ 1 = noted-many none_known a.name a.value in
    let f : (with_attribute first b.name b.value).many ≡ 2 = noted-many first b.name b.value ∙ rw e in
    let g = stays (with_attribute first b.name b.value) more (omega arith) in
    absurd (omega arith)
