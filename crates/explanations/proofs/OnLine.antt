-- The note on a line: what is read from it and printed again, and the three answers.
-- Assumes nothing.
use mathlib.Core.Path.{◌≡◌, sym, ap, ◌∙◌}
use mathlib.Core.List.{List, [], ◌∷◌}
use mathlib.Core.Bool.{Bool, true, false}
use Prim.Native.Nat.{ℕ, suc, ◌+◌, ◌≤◌, ◌<◌, min}
use native.Mathlib.Omega.{arith}
use lib.Dec.{ltb}
use lib.ListN.{length, take, drop}
use lib.Seq.{sets, sets-eq, take_at}
use borrow.Author.Tests.{lt-ltb, le-ltb}
use Rattle.std.specs.Prelude.{None}
use Rattle.lists.proofs.Cases.{by_cond}
use Rattle.slices.specs.Same.{same}
use Rattle.lines.specs.Text.{digit_of, hex_bytes, hex_text}
use Rattle.notes.specs.Reader.{note_in}
use Rattle.explanations.specs.Explanation.{note_on}

-- w put into a buffer that has room for it, and taken from there
pub whole : (w out₀ out part : List ℕ) (n : ℕ) → length w ≤ length out₀ → n ≡ min (length w) (length out₀) → out ≡ sets out₀ 0 w → part ≡ take n out → part ≡ w
whole w out₀ out part n h en eo ep =
    let k : n ≡ length w = omega arith in
    let g : 0 + length w ≤ length out₀ = omega arith in
    ep ∙ ap (take n) (eo ∙ sets-eq w out₀ 0 g) ∙ take_at w (drop (0 + length w) out₀) n (sym k)

pub bytes-size : (h : ℕ) (s : List ℕ) → length (hex_bytes h s) ≤ length s
unfolding hex_bytes
bytes-size h [] = omega arith
bytes-size h (c ∷ s) =
    let Short : List ℕ → Type 0 = λ l. length l ≤ suc (length s) in
    by_cond Short (ltb (digit_of c) 16)
    (by_cond Short (ltb h 16) (omega (arith, bytes-size 16 s)) (omega (arith, bytes-size (digit_of c) s)))
    (omega (arith, bytes-size h s))

pub on-long : (line : List ℕ) → 56 < length line → None ≡ note_on line
unfolding note_on
on-long line h = simp (lt-ltb 56 (length line) h)

-- t is what is printed for the bytes, and f whether it is the line
module _ (line : List ℕ) (h : length line ≤ 56) (t : List ℕ) (e : t ≡ hex_text (hex_bytes 16 line)) (f : Bool) (q : f ≡ same t line) where
  pub on_same : f ≡ true → note_in (hex_bytes 16 line) ≡ note_on line
  unfolding note_on
  on_same y = simp (le-ltb 56 (length line) h, ← e, ← q, y)

  pub on-other : f ≡ false → None ≡ note_on line
  unfolding note_on
  on-other y = simp (le-ltb 56 (length line) h, ← e, ← q, y)
