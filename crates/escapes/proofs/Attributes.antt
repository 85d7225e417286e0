-- An attribute as it is written, `name="value"` behind a space, is read as that attribute. Assumes nothing.
use Prim.Native.Nat.{ℕ, suc, ◌+◌, ◌≤◌}
use mathlib.Core.Path.{◌≡◌, refl, sym, ap, ◌∙◌}
use mathlib.Core.List.{List, [], ◌∷◌, ◌++◌}
use mathlib.Core.Bool.{Bool, true, false}
use mathlib.Core.Logic.{⊎_elim}
use native.Mathlib.Omega.{arith}
use lib.ListN.{length, drop}
use lib.Seq.{drop_at, drop-drop}
use borrow.Author.Tests.{lt-ltb, eq-eqb, ne_eqb}
use Rattle.lists.proofs.Cases.{bool_cases, leb-cases, never}
use Rattle.slices.specs.Bytes.{byte}
use Rattle.slices.specs.Run.{run}
use Rattle.slices.proofs.Bytes.{byte-drop}
use Rattle.slices.proofs.Runs.{run_by}
use Rattle.attributes.specs.Names.{name_start, name_byte, white}
use Rattle.attributes.specs.Attribute.{quote, value, opening_from, opening, attribute_end, attribute_quote, attribute_name, attribute, piece_after, piece}

-- what a name begins with is past white space, `>` and `/`
start-least : (b : ℕ) → name_start b ≡ true → 0x41 ≤ b
unfolding name_start
start-least b e =
    ⊎_elim (λ y. omega (arith, y.0))
    (λ y. ⊎_elim (λ z. z.0) (λ z. never (simp (y.1, z.1) at e)) (leb-cases 0x41 b))
    (leb-cases 0x61 b)

-- a run up to a byte that does not pass
run-to : (p : ℕ → Bool) (x : List ℕ) (b : ℕ) (y : List ℕ) → run p x ≡ length x → p b ≡ false → run p (x ++ b ∷ y) ≡ length x
run-to p [] b y h n = run_by p b y n
run-to p (a ∷ x) b y h n =
    ⊎_elim
    (λ (t : p a ≡ true).
    let f : suc (run p x) ≡ suc (length x) = sym (run_by p a x t) ∙ h in
    run_by p a (x ++ b ∷ y) t ∙ ap suc (run-to p x b y (omega (arith, f)) n))
    (λ (t : p a ≡ false). let f : 0 ≡ suc (length x) = sym (run_by p a x t) ∙ h in absurd (omega (arith, f)))
    (bool_cases (p a))

module _ (b : ℕ) (n u : List ℕ) (starts : name_start b ≡ true) (named : run name_byte (b ∷ n) ≡ length (b ∷ n)) where
  -- the length of the name, and the whole
  abbrev l : ℕ
  l = length (b ∷ n)

  abbrev s : List ℕ
  s = 0x20 ∷ b ∷ n ++ 0x3D ∷ 0x22 ∷ u

  at_mark : drop (1 + l) s ≡ 0x3D ∷ 0x22 ∷ u
  at_mark = drop_at (0x20 ∷ b ∷ n) (0x3D ∷ 0x22 ∷ u) (1 + l) (omega arith)

  at-quote : drop (1 + l + 1) s ≡ 0x22 ∷ u
  at-quote = sym (drop-drop 1 (1 + l) s) ∙ ap (drop 1) at_mark

  at_value : drop (1 + l + 1 + 1) s ≡ u
  at_value = sym (drop-drop 1 (1 + l + 1) s) ∙ ap (drop 1) at-quote

  first_of : (k : ℕ) → byte s k ≡ byte (drop k s) 0
  first_of k = ap (byte s) (let e : k ≡ k + 0 = omega arith in e) ∙ sym (byte-drop s k 0)

  is-mark : byte s (1 + l) ≡ 0x3D
  unfolding byte
  is-mark = first_of (1 + l) ∙ ap (λ (t : List ℕ). byte t 0) at_mark

  is-quote : byte s (1 + l + 1) ≡ 0x22
  unfolding byte
  is-quote = first_of (1 + l + 1) ∙ ap (λ (t : List ℕ). byte t 0) at-quote

  none-white : (run white (0x3D ∷ 0x22 ∷ u) ≡ 0) × (run white (0x22 ∷ u) ≡ 0)
  unfolding run white
  none-white = (refl, refl)

  opens : opening s (1 + l) ≡ 1 + l + 1
  unfolding opening opening_from
  opens =
      let w : 1 + l + run white (drop (1 + l) s) ≡ 1 + l = omega (arith, ap (run white) at_mark, none-white.0) in
      let v : 1 + l + 1 + run white (drop (1 + l + 1) s) ≡ 1 + l + 1 = omega (arith, ap (run white) at-quote, none-white.1) in
      ap (opening_from s) w ∙ rw (eq-eqb (byte s (1 + l)) 0x3D is-mark) v

  name-run : run name_byte (drop 1 s) ≡ l
  unfolding name_byte
  name-run = run-to name_byte (b ∷ n) 0x3D (0x22 ∷ u) named refl

  behind-space : run white s ≡ 1
  unfolding white
  behind-space =
      let least = start-least b starts in
      let w : white b ≡ false = rw (lt-ltb 0x20 b (omega arith)) in
      run_by white 0x20 (b ∷ n ++ 0x3D ∷ 0x22 ∷ u) refl ∙ ap suc (run_by white b (n ++ 0x3D ∷ 0x22 ∷ u) w)

  quoted : attribute_quote s 1 l (1 + l + 1) ≡ attribute_end 1 l (1 + l + 1 + 1) (value 0x22 u)
  unfolding attribute_quote quote
  quoted = rw (is-quote, at_value)

  read_named : attribute s 1 ≡ attribute_end 1 l (1 + l + 1 + 1) (value 0x22 u)
  unfolding attribute attribute_name byte
  read_named = rw (starts, name-run, opens) quoted

  pub named-piece : piece s ≡ attribute_end 1 l (l + 3) (value 0x22 u)
  unfolding piece piece_after byte
  named-piece =
      let least = start-least b starts in
      let e : 1 + l + 1 + 1 ≡ l + 3 = omega arith in
      rw (behind-space, ne_eqb b 0x3E (λ z. omega arith), ne_eqb b 0x2F (λ z. omega arith)) (read_named ∙ ap (λ (k : ℕ). attribute_end 1 l k (value 0x22 u)) e)
