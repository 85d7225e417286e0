-- A loop that puts w into a lent buffer, a byte or a piece at a time, as far as it has room. Assumes nothing.
use mathlib.Core.Path.{◌≡◌, refl, sym, ap, ◌∙◌}
use mathlib.Core.List.{List, [], ◌∷◌, ◌++◌}
use mathlib.Core.Logic.{⊎_elim}
use Prim.Native.Nat.{ℕ, zero, suc, ◌+◌, ◌-◌, ◌≤◌, ◌<◌, min}
use native.Mathlib.Nat.{zero-add}
use native.Mathlib.Numerals.{add-one}
use native.Mathlib.Omega.{arith}
use lib.ListN.{length, take, drop, get_or, set, length-set, length-append}
use lib.Seq.{sets, length-sets, drop-cons}
use borrow.Rule.Slice.PartMut.{mid_of, put_mid}
use Rattle.lists.proofs.Cases.{ltb-cases}
use Rattle.lists.proofs.Loans.{lent-tail, back-tail}
use Rattle.lists.proofs.Stores.{sets-out, sets_more, sets-cons}

-- at bytes of w are put, or had no room, and `rest` is to come
pub record Put (w b₀ b : List ℕ) (at : ℕ) (rest : List ℕ) : Type 0 where
  pub same : length b ≡ length b₀
  pub long : at + length rest ≡ length w
  pub all : sets b at rest ≡ sets b₀ 0 w

-- stores into the part from `at` on, and into the whole
tail-sets : (at : ℕ) (b g : List ℕ) → take at b ++ sets (drop at b) 0 g ≡ sets b at g
tail-sets zero b g = refl
tail-sets (suc k) [] g = sets-out g [] 0 (omega arith) ∙ sym (sets-out g [] (suc k) (omega arith))
tail-sets (suc k) (a ∷ b) g = ap (λ (t : List ℕ). a ∷ t) (tail-sets k b g) ∙ sym (sets-cons a b k g)

-- what a callee leaves that is lent the part from the first free byte on, which may be the end
lent-sets : (b g l : List ℕ) (at from : ℕ) → from ≡ min at (length b) → l ≡ sets (mid_of from (length b - from) b) 0 g
    → put_mid from (length b - from) b l ≡ sets b at g
lent-sets b g l at from e el =
    back-tail b from l
    ∙ ap (λ (t : List ℕ). take from b ++ t) (el ∙ ap (λ (t : List ℕ). sets t 0 g) (lent-tail b from))
    ∙ tail-sets from b g
    ∙ ⊎_elim
    (λ y. let z : from ≡ at = omega (arith, y.0) in ap (λ (k : ℕ). sets b k g) z)
    (λ y. sets-out g b from (omega (arith, y.0)) ∙ sym (sets-out g b at y.0))
    (ltb-cases at (length b))

pub put-start : (w b₀ : List ℕ) → Put w b₀ b₀ 0 w
put-start w b₀ = record { same = refl; long = zero-add (length w); all = refl }

-- the bytes to come, the first of them by itself
pub next-byte : (t : List ℕ) (i : ℕ) → i < length t → drop i t ≡ get_or t i 0 ∷ drop (i + 1) t
next-byte t i h = rw add-one (drop-cons t i 0 h)

module _ {w b₀ b : List ℕ} {at : ℕ} {rest : List ℕ} (p : Put w b₀ b at rest) where
  pub put-most : at ≤ length w
  put-most = omega (arith, p.long)

  -- one byte more
  pub put_byte : {l t : List ℕ} {v : ℕ} → rest ≡ v ∷ t → l ≡ set b at v → Put w b₀ l (at + 1) t
  put_byte {l} {t} {v} er el =
      rw el
      (record {
        same = length-set b at v ∙ p.same;
        long = omega (arith, p.long, ap length er);
        all = rw add-one (sym (ap (sets b at) er) ∙ p.all);
      })

  -- a piece more, put into the part that is still free
  pub put-piece : (g : List ℕ) {l t : List ℕ} {from k : ℕ} → rest ≡ g ++ t → from ≡ min at (length b) → k ≡ length g → l ≡ sets (mid_of from (length b - from) b) 0 g
      → Put w b₀ (put_mid from (length b - from) b l) (at + k) t
  put-piece g {l} {t} {from} {k} er ef ek el =
      rw (lent-sets b g l at from ef el, ek)
      (record {
        same = length-sets b at g ∙ p.same;
        long = omega (arith, p.long, ap length er, length-append g t);
        all = sym (sets_more g b at t) ∙ sym (ap (sets b at) er) ∙ p.all;
      })

  pub put-end : rest ≡ [] → (at ≡ length w) × (b ≡ sets b₀ 0 w)
  put-end e = (omega (arith, p.long, ap length e), sym (ap (sets b at) e) ∙ p.all)

  -- told as one more than there is room for, where it is more
  pub put_full : length b < at → (length b + 1 ≡ min (length w) (length b₀ + 1)) × (b ≡ sets b₀ 0 w)
  put_full h = (omega (arith, p.same, p.long), sym (sets-out rest b at (omega arith)) ∙ p.all)

  pub put-whole : rest ≡ [] → at ≤ length b → (at ≡ min (length w) (length b₀ + 1)) × (b ≡ sets b₀ 0 w)
  put-whole e h = let r = put-end e in (omega (arith, r.0, p.same), r.1)
