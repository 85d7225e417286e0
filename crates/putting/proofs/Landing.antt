-- Texts put into lent bytes one after the other: a text that begins past the last byte sets nothing.
-- Assumes nothing.
use mathlib.Core.Path.{◌≡◌, refl, sym, ap, ◌∙◌}
use mathlib.Core.List.{List, [], ◌++◌}
use mathlib.Core.Logic.{⊎_elim}
use Prim.Native.Nat.{ℕ, ◌+◌, ◌≤◌}
use native.Mathlib.Omega.{arith}
use lib.ListN.{length, length-append}
use lib.Seq.{sets, length-sets}
use Rattle.lists.proofs.Cases.{leb-cases}
use Rattle.lists.proofs.Stores.{sets-out, sets_more}
use Rattle.putting.specs.Sheet.{landed}

pub landed-low : (out : List ℕ) (at : ℕ) (x : List ℕ) → landed out at x ≤ length out + 1
unfolding landed
landed-low out at x = omega arith

pub landed_then : (out : List ℕ) (at : ℕ) (x y : List ℕ) → landed (sets out at x) (landed out at x) y ≡ landed out at (x ++ y)
unfolding landed
landed_then out at x y = omega (arith, length-sets out at x, length-append x y)

pub sets_then : (out : List ℕ) (at : ℕ) (x y : List ℕ) → sets (sets out at x) (landed out at x) y ≡ sets out at (x ++ y)
unfolding landed
sets_then out at x y =
    let o = length-sets out at x in
    ⊎_elim
    (λ h. let z : landed out at x ≡ at + length x = omega (arith, h.0) in ap (λ (k : ℕ). sets (sets out at x) k y) z)
    (λ h. sets-out y (sets out at x) (landed out at x) (omega (arith, h.0, o)) ∙ sym (sets-out y (sets out at x) (at + length x) (omega (arith, h.0, o))))
    (leb-cases (at + length x) (length out + 1))
    ∙ sym (sets_more x out at y)

-- x is put into `out` from `at` on, as far as there are bytes: r is the place after it, and o is left
pub record Put (out : List ℕ) (at : ℕ) (x : List ℕ) (r : ℕ) (o : List ℕ) : Type 0 where
  pub answer : r ≡ landed out at x
  pub buffer : o ≡ sets out at x

-- from what a function ensures, and to it, where the text has another name
pub took : {out o : List ℕ} {at r : ℕ} (x : List ℕ) → (r ≡ landed out at x) × (o ≡ sets out at x) → Put out at x r o
took x p = record { answer = p.0; buffer = p.1 }

pub told : {out o x y : List ℕ} {at r : ℕ} → x ≡ y → Put out at x r o → (r ≡ landed out at y) × (o ≡ sets out at y)
told {out} {o} {x} {y} {at} e p = (p.answer ∙ ap (landed out at) e, p.buffer ∙ ap (sets out at) e)

module _ {out o x : List ℕ} {at r : ℕ} (p : Put out at x r o) where
  landed-after : (y : List ℕ) → landed o r y ≡ landed out at (x ++ y)
  landed-after y = ap (λ (k : ℕ). landed o k y) p.answer ∙ ap (λ (t : List ℕ). landed t (landed out at x) y) p.buffer ∙ landed_then out at x y

  sets-after : (y : List ℕ) → sets o r y ≡ sets out at (x ++ y)
  sets-after y = ap (λ (k : ℕ). sets o k y) p.answer ∙ ap (λ (t : List ℕ). sets t (landed out at x) y) p.buffer ∙ sets_then out at x y

  pub put_then : {y l : List ℕ} {n : ℕ} → Put o r y n l → Put out at (x ++ y) n l
  put_then {y} q = record { answer = q.answer ∙ landed-after y; buffer = q.buffer ∙ sets-after y }

  -- the place after a text is one that the next may begin at, and the bytes are as many as they were
  pub put-long : length o ≡ length out
  put-long = ap length p.buffer ∙ length-sets out at x

  pub put_low : r ≤ length o + 1
  put_low = omega (arith, p.answer, landed-low out at x, put-long)

pub put-none : (out : List ℕ) (at : ℕ) → at ≤ length out + 1 → Put out at [] at out
unfolding landed
put-none out at h = record { answer = omega (arith, h); buffer = refl }

-- of w, which is put into out₀ from `at` on, all is put but `rest`
pub record Left (out₀ : List ℕ) (at : ℕ) (w out : List ℕ) (end : ℕ) (rest : List ℕ) : Type 0 where
  pub same : length out ≡ length out₀
  pub low : end ≤ length out + 1
  pub answer : landed out end rest ≡ landed out₀ at w
  pub buffer : sets out end rest ≡ sets out₀ at w

pub left-start : (out : List ℕ) (at : ℕ) (w : List ℕ) → at ≤ length out + 1 → Left out at w out at w
left-start out at w h = record { same = refl; low = h; answer = refl; buffer = refl }

module _ {out₀ w out rest : List ℕ} {at end : ℕ} (l : Left out₀ at w out end rest) where
  pub left-more : {x y o : List ℕ} {r : ℕ} → rest ≡ x ++ y → Put out end x r o → Left out₀ at w o r y
  left-more {x} {y} e p =
      record {
        same = put-long p ∙ l.same;
        low = put_low p;
        answer = landed-after p y ∙ sym (ap (landed out end) e) ∙ l.answer;
        buffer = sets-after p y ∙ sym (ap (sets out end) e) ∙ l.buffer;
      }

  pub left_end : rest ≡ [] → (end ≡ landed out₀ at w) × (out ≡ sets out₀ at w)
  left_end e =
      let p = put-none out end l.low in
      (p.answer ∙ sym (ap (landed out end) e) ∙ l.answer, sym (ap (sets out end) e) ∙ l.buffer)
