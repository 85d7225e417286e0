-- The invariants of the two writing loops.
--     Cut     the number writer: what is left of the number, stored from i on, gives what was to be stored
--     Wr      the note writer: the numbers before i are written, and zeros follow
-- Assumes nothing.
use mathlib.Core.Path.{◌≡◌, refl, sym, ap, ◌∙◌}
use mathlib.Core.List.{List, [], ◌∷◌, ◌++◌, append_assoc, append-nil}
use mathlib.Core.Logic.{⊎_elim}
use Prim.Native.Nat.{ℕ, zero, suc, ◌+◌, ◌-◌, ◌*◌, ◌/◌, ◌%◌, ◌^◌, ◌≤◌, ◌<◌, min}
use native.Mathlib.Nat.{zero-add}
use native.Mathlib.Numerals.{add-one}
use native.Mathlib.Omega.{arith}
use lib.ListN.{length, take, drop, set, get_or, length-set, length-append, length-take, length-replicate}
use lib.Seq.{sets, length-sets, take-suc, take_all}
use borrow.Rule.Slice.PartMut.{mid_of, put_mid}
use Rattle.lists.specs.Zeros.{zeros}
use Rattle.lists.proofs.Cases.{ltb-cases}
use Rattle.lists.proofs.Loans.{lent-tail, back-tail}
use Rattle.lists.proofs.Stores.{sets-out, sets_more, sets-cons}
use Rattle.notes.specs.Note.{groups_in, groups, flat, left}
use Rattle.notes.proofs.Groups.{on, last, less, groups-le}

-- ---- the number writer's loop
pub record Cut (b₀ : List ℕ) (n : ℕ) (b : List ℕ) (i rest : ℕ) : Type 0 where
  pub k : ℕ
  pub few : i + k ≡ 4
  pub small : rest < 128 ^ suc k
  pub same : length b ≡ length b₀
  pub long : i + length (groups_in k rest) ≡ length (groups n)
  pub all : sets b i (groups_in k rest) ≡ sets b₀ 0 (groups n)

module _ (b₀ b : List ℕ) (n i rest : ℕ) (s : Cut b₀ n b i rest) where
  pub cut-next : (l : List ℕ) → l ≡ set b i (128 + rest % 128) → 128 ≤ rest → Cut b₀ n l (i + 1) (rest / 128)
  cut-next l q h = rw q (go s.k s.few s.small s.long s.all)
    where
      go : (k : ℕ) → i + k ≡ 4 → rest < 128 ^ suc k → i + length (groups_in k rest) ≡ length (groups n) → sets b i (groups_in k rest) ≡ sets b₀ 0 (groups n)
          → Cut b₀ n (set b i (128 + rest % 128)) (i + 1) (rest / 128)
      go zero f sm ro re = absurd (omega arith)
      go (suc k) f sm ro re =
          record {
            k = k;
            few = omega arith;
            small = less k rest sm;
            same = length-set b i _ ∙ s.same;
            long = let l : length (groups_in (suc k) rest) ≡ suc (length (groups_in k (rest / 128))) = ap length (on k rest h) in omega arith;
            all = rw add-one (sym (ap (λ (w : List ℕ). sets b i w) (on k rest h)) ∙ re);
          }

  -- with the last group
  pub cut-long : rest < 128 → i + 1 ≡ length (groups n)
  cut-long h = let l : length (groups_in s.k rest) ≡ 1 = ap length (last s.k rest h) in omega (arith, s.long)

  pub cut-end : (l : List ℕ) → l ≡ set b i rest → rest < 128 → l ≡ sets b₀ 0 (groups n)
  cut-end l q h = q ∙ sym (ap (λ (w : List ℕ). sets b i w) (last s.k rest h)) ∙ s.all

-- ---- the note writer's loop
pub record Wr (room : ℕ) (ns note : List ℕ) (at i : ℕ) : Type 0 where
  pub most : i ≤ length ns
  pub place : at ≡ length (flat (take i ns))
  pub buf : note ≡ left (flat (take i ns)) room

left-long : (w : List ℕ) (room : ℕ) → length (left w room) ≡ length (zeros room)
unfolding left
left-long w room = length-sets (zeros room) 0 w

pub wr-start : (room : ℕ) (ns note : List ℕ) → note ≡ zeros room → Wr room ns note 0 0
unfolding left flat
wr-start room ns note e = record { most = omega arith; place = refl; buf = e }

flat-more : (ns ms : List ℕ) → flat (ns ++ ms) ≡ flat ns ++ flat ms
unfolding flat
flat-more [] ms = refl
flat-more (n ∷ ns) ms = ap (λ (l : List ℕ). groups n ++ l) (flat-more ns ms) ∙ sym (append_assoc (groups n) (flat ns) (flat ms))

flat-one : (n : ℕ) → flat (n ∷ []) ≡ groups n
unfolding flat
flat-one n = append-nil (groups n)

flat-le : (ns : List ℕ) → length (flat ns) ≤ 5 * length ns
unfolding flat
flat-le [] = omega arith
flat-le (n ∷ ns) = omega (arith, length-append (groups n) (flat ns), groups-le 4 n, flat-le ns)

left-more : (p g : List ℕ) (room : ℕ) → sets (left p room) (length p) g ≡ left (p ++ g) room
unfolding left
left-more p g room = ap (λ (k : ℕ). sets (sets (zeros room) 0 p) k g) (sym (zero-add (length p))) ∙ sym (sets_more p (zeros room) 0 g)

-- stores into a part from a cell on
pub sets-tail : (at : ℕ) (l s : List ℕ) → sets l at s ≡ take at l ++ sets (drop at l) 0 s
sets-tail zero l s = refl
sets-tail (suc k) [] s = sets-out s [] (suc k) (omega arith) ∙ sym (sets-out s [] 0 (omega arith))
sets-tail (suc k) (a ∷ l) s = sets-cons a l k s ∙ ap (λ (t : List ℕ). a ∷ t) (sets-tail k l s)

-- stores from the first free byte on, which may be the end
free-sets : (l g : List ℕ) (at free : ℕ) → free ≡ min at (length l) → sets l free g ≡ sets l at g
free-sets l g at free e =
    ⊎_elim
    (λ y. let z : free ≡ at = omega (arith, y.0) in ap (λ (k : ℕ). sets l k g) z)
    (λ y. sets-out g l free (omega (arith, y.0)) ∙ sym (sets-out g l at y.0))
    (ltb-cases at (length l))

module _ (room : ℕ) (ns note : List ℕ) (at i : ℕ) (w : Wr room ns note at i) where
  pub wr-length : length note ≡ room
  wr-length = ap length w.buf ∙ left-long (flat (take i ns)) room ∙ length-replicate {A = ℕ} room 0

  turn_is : i < length ns → flat (take (i + 1) ns) ≡ flat (take i ns) ++ groups (get_or ns i 0)
  turn_is h = rw add-one (ap flat (take-suc ns i 0 h) ∙ flat-more (take i ns) (get_or ns i 0 ∷ []) ∙ ap (λ (l : List ℕ). flat (take i ns) ++ l) (flat-one (get_or ns i 0)))

  -- what the number writer leaves where it is lent the part that is still free
  pub wr-next : i < length ns → (free k : ℕ) (l : List ℕ) → free ≡ min at (length note) → k ≡ length (groups (get_or ns i 0))
      → l ≡ sets (mid_of free (length note - free) note) 0 (groups (get_or ns i 0)) → Wr room ns (put_mid free (length note - free) note l) (at + k) (i + 1)
  wr-next h free k l ef ek el =
      let g = groups (get_or ns i 0) in
      let p = flat (take i ns) in
      let t = turn_is h in
      record {
        most = omega arith;
        place = ap (λ (j : ℕ). j + k) w.place ∙ ap (λ (j : ℕ). length p + j) ek ∙ sym (ap length t ∙ length-append p g);
        buf = back-tail note free l
            ∙ ap (λ (m : List ℕ). take free note ++ m) (el ∙ ap (λ (m : List ℕ). sets m 0 g) (lent-tail note free))
            ∙ sym (sets-tail free note g)
            ∙ free-sets note g at free ef
            ∙ ap (λ (j : ℕ). sets note j g) w.place
            ∙ ap (λ (m : List ℕ). sets m (length p) g) w.buf
            ∙ left-more p g room
            ∙ ap (λ (m : List ℕ). left m room) (sym t);
      }

  pub wr-few : at ≤ 5 * i
  wr-few = let f = flat-le (take i ns) in omega (arith, w.place, w.most, taken-long)
    where
      taken-long : length (take i ns) ≤ i
      taken-long = simp length-take (omega arith)

  pub wr-end : length ns ≤ i → (at ≡ length (flat ns)) × (note ≡ left (flat ns) room)
  wr-end h = let e = take_all i ns h in (w.place ∙ ap (λ (l : List ℕ). length (flat l)) e, w.buf ∙ ap (λ (l : List ℕ). left (flat l) room) e)
