-- What a callee sees that is lent the part of a list from `at` on, and what the whole list is afterwards.
-- Assumes nothing.
use mathlib.Core.Path.{◌≡◌, ap, sym, ◌∙◌}
use mathlib.Core.List.{List, ◌++◌, append-nil}
use Prim.Native.Nat.{ℕ, ◌-◌, ◌≤◌, ◌<◌}
use native.Mathlib.Nat.{le_refl, le_of_lt}
use native.Mathlib.Omega.{arith}
use lib.ListN.{length, take, drop, length-drop, drop_of_length-le}
use lib.Seq.{take_all}
use borrow.Rule.Slice.PartMut.{mid_of, put_mid}

module _ {X : Type 0} where
  -- `&b[at..]`
  pub rest_part : (at : ℕ) (b : List X) → take (length b - at) (drop at b) ≡ drop at b
  rest_part at b = take_all (length b - at) (drop at b) (rw length-drop (le_refl _))

  -- `&b[b.len()..]`, for a place past the end
  pub rest-none : (at : ℕ) (b : List X) → length b < at → take (length b - length b) (drop (length b) b) ≡ drop at b
  rest-none at b h = rest_part (length b) b ∙ drop_of_length-le b (le_refl _) ∙ sym (drop_of_length-le b (le_of_lt h))

  -- `&mut b[at..]`: what the callee sees
  pub lent-tail : (b : List X) (at : ℕ) → mid_of at (length b - at) b ≡ drop at b
  lent-tail b at = rest_part at b

  -- and, l being what it leaves there, what the whole is afterwards
  pub back-tail : (b : List X) (at : ℕ) (l : List X) → put_mid at (length b - at) b l ≡ take at b ++ l
  back-tail b at l =
      let h : length (drop at b) ≤ length b - at = rw length-drop (omega arith) in
      ap (λ (r : List X). take at b ++ (l ++ r)) (drop_of_length-le (drop at b) h) ∙ ap (λ (r : List X). take at b ++ r) (append-nil l)
