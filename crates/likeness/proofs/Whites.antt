-- White space in front of a part of a document changes nothing of what its tags say; where a white text stands there, they are one text. Assumes nothing.
use Prim.Native.Nat.{ℕ, zero, suc, ◌+◌}
use mathlib.Core.Path.{◌≡◌, refl, sym, ap, ◌∙◌}
use mathlib.Core.List.{List, [], ◌∷◌, ◌++◌}
use mathlib.Core.Bool.{true, false}
use mathlib.Core.Logic.{⊎_elim}
use native.Mathlib.Omega.{arith}
use lib.Dec.{eqb, ltb}
use lib.ListN.{take}
use borrow.Author.Tests.{eq-eqb, ne_eqb}
use Rattle.lists.proofs.Cases.{eqb-cases, by_cond, never, zero-not-one}
use Rattle.slices.specs.Bytes.{byte}
use Rattle.slices.specs.Run.{run}
use Rattle.slices.specs.Same.{first_at}
use Rattle.slices.specs.Text.{text}
use Rattle.slices.proofs.Runs.{run_by, run-each}
use Rattle.slices.proofs.Firsts.{first-nil, first_by}
use Rattle.characters.specs.Says.{all_chars}
use Rattle.attributes.specs.Names.{white}
use Rattle.items.specs.Text.{text_to, text_item}
use Rattle.items.specs.Item.{item}
use Rattle.items.specs.declared.Item.{Item}
use Rattle.items.specs.declared.Item.TheVariants.{Text}
use Rattle.fronts.proofs.Searches.{upto}
use Rattle.reader.specs.Items.{items_after}
use Rattle.contents.specs.Spelled.{signs_by, signs_of, allowed, AllAllowed}
use Rattle.likeness.specs.Alike.{White}
use Rattle.likeness.proofs.Runs.{all_first}
use Rattle.likeness.proofs.Shifts.{signs-shift, allowed-shift, signs_in, StandIn}

-- `<` is not white space
pub not-tag : (b : ℕ) → white b ≡ true → b ≡ 0x3C → ⊥
unfolding white
not-tag b w e = let z : white 0x3C ≡ true = rw e at w in zero-not-one (cc)

-- white space up to `<` or the end is a white text
pub text-is : (l : List ℕ) (n : ℕ) → run white l ≡ suc n → upto l ≡ suc n → item 0 l ≡ Text true (suc n)
unfolding item text_item text_to
text-is l n e f =
    rw (ne_eqb (byte l 0) 0x3C (not-tag (byte l 0) (run-each white l 0 (omega arith))), f, e, ne_eqb (suc n) 0 (λ z. omega arith), eq-eqb (suc n) (suc n) refl)

-- a text that may stand in a document is white
text-white : (l : List ℕ) (n : ℕ) → allowed (text_to 0 l n) ≡ true → run white l ≡ n
unfolding text_to allowed
text-white l n =
    by_cond P (eqb n 0) never
    (⊎_elim
    (λ (y : (run white l ≡ n) × (eqb (run white l) n ≡ true)) a. y.0)
    (λ (y : (run white l ≡ n → ⊥) × (eqb (run white l) n ≡ false)).
    rw y.1
    (by_cond P (all_chars (take n l))
    (by_cond P (ltb (first_at (text "&") (take n l)) n) never (by_cond P (ltb (first_at (text "]]>") (take n l)) n) never never)) never))
    (eqb-cases (run white l) n))
  where
    P : Item → Type 0
    P x = allowed x ≡ true → run white l ≡ n

pub front-white : (l : List ℕ) → StandIn l → run white l ≡ upto l
unfolding items_after AllAllowed item text_item byte run white
front-white [] a = sym (first-nil 0x3C)
front-white (c ∷ t) a =
    ⊎_elim
    (λ (e : (0x3C ≡ c) × (eqb 0x3C c ≡ true)). rw (← e.0) (sym (first_by 0x3C 0x3C t refl)))
    (λ (e : (0x3C ≡ c → ⊥) × (eqb 0x3C c ≡ false)). text-white (c ∷ t) (upto (c ∷ t)) (rw (ne_eqb c 0x3C (λ z. e.0 (sym z))) at a.0))
    (eqb-cases 0x3C c)

-- past the white space in front
skipped : (l : List ℕ) (n at : ℕ) → run white l ≡ n → upto l ≡ n → StandIn l
    → AllAllowed (items_after n at l) × (signs_of (items_after n at l) ≡ signs_in l)
unfolding items_after AllAllowed signs_of signs_by
skipped [] n at e f a = (tt, refl)
skipped (c ∷ t) zero at e f a = (allowed-shift (c ∷ t) zero 0 at a, signs-shift (c ∷ t) zero at 0)
skipped (c ∷ t) (suc n) at e f a =
    let i = text-is (c ∷ t) n e f in
    (allowed-shift t n 1 (suc at) (rw i at a.1), rw i (signs-shift t n (suc at) 1))

-- one byte more
pub more-is : (b : ℕ) (l : List ℕ) → white b ≡ true → StandIn l → item 0 (b ∷ l) ≡ Text true (suc (upto l))
more-is b l w a =
    text-is (b ∷ l) (upto l) (run_by white b l w ∙ ap suc (front-white l a)) (first_by 0x3C b l (ne_eqb 0x3C b (λ z. not-tag b w (sym z))))

one-more : (b : ℕ) (l : List ℕ) → white b ≡ true → StandIn l → StandIn (b ∷ l) × (signs_in l ≡ signs_in (b ∷ l))
unfolding items_after AllAllowed signs_of signs_by allowed
one-more b l w a =
    let s = skipped l (upto l) 1 (front-white l a) refl a in
    let i = more-is b l w a in
    (rw i (refl, s.0), rw i (sym s.1))

pub whites-more : (w l : List ℕ) → White w → StandIn l → StandIn (w ++ l) × (signs_in l ≡ signs_in (w ++ l))
whites-more [] l e a = (a, refl)
whites-more (b ∷ w) l e a =
    let h = all_first white b w e in
    let more = whites-more w l h.1 a in
    let one = one-more b (w ++ l) h.0 more.0 in
    (one.0, more.1 ∙ one.1)
