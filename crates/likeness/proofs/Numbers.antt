-- White text and comments between items leave the number of a refusal as it is. Assumes nothing.
use Prim.Native.Nat.{ℕ, zero, suc, pred, ◌+◌, ◌-◌, ◌<◌}
use mathlib.Core.Path.{◌≡◌, refl, sym, ap, subst, ◌∙◌}
use mathlib.Core.List.{List, [], ◌∷◌, ◌++◌, append_assoc}
use mathlib.Core.Bool.{true}
use mathlib.Core.Logic.{⊎_elim}
use native.Mathlib.Omega.{arith}
use lib.ListN.{length, drop, length-append, length-drop}
use lib.Seq.{drop-drop, drop-append_seam, take_at}
use Rattle.lists.proofs.Cases.{never}
use Rattle.slices.specs.Run.{run}
use Rattle.attributes.specs.Names.{white}
use Rattle.items.specs.Parts.{span_of, passed}
use Rattle.items.specs.Item.{item, item_end}
use Rattle.items.specs.declared.Item.{Item}
use Rattle.items.specs.declared.Item.TheVariants.{Start, Empty, End, Text, Comment, Unreadable}
use Rattle.fronts.specs.Front.{EndsBefore}
use Rattle.fronts.proofs.Searches.{upto}
use Rattle.fronts.proofs.Items.{item-front, Says, item-says}
use Rattle.blindness.proofs.Aligned.{tail_of}
use Rattle.faults.proofs.Shared.{step_same, quoted-same}
use Rattle.states.specs.Moves.{step}
use Rattle.reader.specs.Items.{Placed, placed, items_after, items_from}
use Rattle.reader.specs.Rows.{quoted}
use Rattle.reader.proofs.Ran.{items-next}
use Rattle.contents.specs.Spelled.{allowed, AllAllowed}
use Rattle.likeness.specs.Alike.{White, SayAlike}
use Rattle.likeness.proofs.Runs.{all_first, run-part}
use Rattle.likeness.proofs.Shifts.{item-like, StandIn, allowed-shift}
use Rattle.likeness.proofs.Whites.{text-is, more-is, front-white, whites-more}
use Rattle.likeness.proofs.Replaced.{text_end, item-pale, text-or, Whole, none, next, kept}
use Rattle.likeness.proofs.Refused.{Together, Pairs, over, left, right, both, without}

module _ (x y : List ℕ) where
  -- one item with the same bytes
  together : (at at' : ℕ) (s s' : List ℕ) → s ≡ drop at x → s' ≡ drop at' y → item at s ≡ item at' s' → Says (item at s) s s'
      → Together x y (placed at s) (placed at' s')
  together at at' s s' ex ey e p =
      record {
        moves = λ st room. step_same s s' st room (item at s) p ∙ ap (λ (i : Item). step st i s' room) e;
        value = quoted-same s s' (item at s) p ∙ ap (λ (i : Item). quoted (span_of i) s') e;
        passes = ap passed e;
        here = ex;
        there = ey;
      }

  -- the same bytes, at two places
  pub moved-pairs : (l : List ℕ) (k at at' : ℕ) → l ≡ drop at x → l ≡ drop at' y → AllAllowed (items_after k at l) → Pairs x y (items_after k at l) (items_after k at' l)
  unfolding items_after AllAllowed
  moved-pairs [] k at at' ex ey a = over
  moved-pairs (b ∷ t) (suc k) at at' ex ey a = moved-pairs t k (suc at) (suc at') (tail_of x at b t ex) (tail_of y at' b t ey) a
  moved-pairs (b ∷ t) zero at at' ex ey a =
      let h = item-like at at' (b ∷ t) in
      both (together at at' (b ∷ t) (b ∷ t) ex ey (h.same a.0) (item-says at (b ∷ t) (b ∷ t) refl))
      (subst (λ (n : ℕ). Pairs x y (items_after (pred (item_end (item at (b ∷ t)))) (suc at) t) (items_after (pred n) (suc at') t)) h.end
      (moved-pairs t (pred (item_end (item at (b ∷ t)))) (suc at) (suc at') (tail_of x at b t ex) (tail_of y at' b t ey) a.1))

  -- ---- white space in front

  white-item : (at : ℕ) (l : List ℕ) (n : ℕ) → run white l ≡ suc n → upto l ≡ suc n → item at l ≡ Text true (suc n)
  unfolding allowed
  white-item at l n e f = let i = text-is l n e f in sym ((item-like 0 at l).same (ap allowed i)) ∙ i

  skip-right : (l : List ℕ) (n at : ℕ) → run white l ≡ n → upto l ≡ n → {ps : List Placed} → Pairs x y ps (items_after 0 at l) → Pairs x y ps (items_after n at l)
  unfolding items_after passed
  skip-right [] n at e f r = r
  skip-right (c ∷ t) zero at e f r = r
  skip-right (c ∷ t) (suc n) at e f {ps} r =
      let i = white-item at (c ∷ t) n e f in
      subst (λ (j : Item). Pairs x y ps (items_after (pred (item_end j)) (suc at) t)) i
      (without x y r (placed at (c ∷ t)) (items_after (pred (item_end (item at (c ∷ t)))) (suc at) t) refl (ap passed i))

  one_right : (b : ℕ) (l : List ℕ) (at : ℕ) → white b ≡ true → StandIn l → {ps : List Placed} → Pairs x y ps (items_after 0 (suc at) l) → Pairs x y ps (items_after 0 at (b ∷ l))
  unfolding items_after passed allowed
  one_right b l at w a {ps} r =
      let i = more-is b l w a in
      let j : item at (b ∷ l) ≡ Text true (suc (upto l)) = sym ((item-like 0 at (b ∷ l)).same (ap allowed i)) ∙ i in
      right (placed at (b ∷ l)) (ap passed j)
      (subst (λ (k : Item). Pairs x y ps (items_after (pred (item_end k)) (suc at) l)) (sym j) (skip-right l (upto l) (suc at) (front-white l a) refl r))

  pub whites-right : (u : List ℕ) (at : ℕ) (l : List ℕ) → White u → StandIn l → {ps : List Placed} → Pairs x y ps (items_after 0 (at + length u) l) → Pairs x y ps (items_after 0 at (u ++ l))
  whites-right [] at l e a r = let z : at + 0 ≡ at = omega arith in rw z at r
  whites-right (b ∷ u) at l e a r =
      let h = all_first white b u e in
      let z : at + suc (length u) ≡ suc at + length u = omega arith in
      one_right b (u ++ l) at h.0 (whites-more u l h.1 a).0 (whites-right u (suc at) l h.1 a (rw z at r))

-- ---- whole items in front

-- an item that is all text and may stand is passed over
text-passed : (i : Item) → allowed i ≡ true → text_end i ≡ item_end i → 0 < item_end i → passed i ≡ true
unfolding allowed passed
text-passed (Start t) a e h = absurd (omega arith)
text-passed (Empty t) a e h = absurd (omega arith)
text-passed (End n k) a e h = absurd (omega arith)
text-passed (Text w k) a e h = a
text-passed (Comment k) a e h = refl
text-passed (Unreadable p) a e h = never a

-- one item, from its place on
pub next-at : (doc : List ℕ) (at : ℕ) (u l : List ℕ) → u ++ l ≡ drop at doc → 0 < length u → item_end (item at (u ++ l)) ≡ length u
    → (items_after 0 at (u ++ l) ≡ placed at (u ++ l) ∷ items_after 0 (at + length u) l) × (l ≡ drop (at + length u) doc)
unfolding items_from
next-at doc at u l e some end =
    let long : length u + length l ≡ length doc - at = sym (length-append u l) ∙ ap length e ∙ length-drop at doc in
    let rest : l ≡ drop (at + length u) doc = sym (drop-append_seam u l) ∙ ap (drop (length u)) e ∙ drop-drop (length u) at doc in (
      ap (items_after 0 at) e
          ∙ items-next doc at (length u) (omega arith) (ap (λ (s : List ℕ). item_end (item at s)) (sym e) ∙ end) some
          ∙ ap (λ (s : List ℕ). placed at s ∷ items_after 0 (at + length u) (drop (at + length u) doc)) (sym e)
          ∙ ap (λ (s : List ℕ). placed at (u ++ l) ∷ items_after 0 (at + length u) s) (sym rest),
      rest,
    )

module _ (x y l m : List ℕ) (alike : SayAlike l m) where
  behind-first : (u s : List ℕ) → 0 < length u → (at : ℕ) → item_end (item at (u ++ (s ++ l))) ≡ length u → u ++ (s ++ l) ≡ drop at x
      → AllAllowed (items_after 0 at (u ++ (s ++ l))) → AllAllowed (items_after 0 (at + length u) (s ++ l))
  unfolding AllAllowed
  behind-first u s some at end ex a =
      let b : AllAllowed (placed at (u ++ (s ++ l)) ∷ items_after 0 (at + length u) (s ++ l)) = rw (next-at x at u (s ++ l) ex some end).0 at a in b.1

  module _ (u s : List ℕ) (some : 0 < length u) (w : Whole l s) (at : ℕ) (end : item_end (item at (u ++ (s ++ l))) ≡ length u)
      (ex : u ++ (s ++ l) ≡ drop at x) (ey : u ++ (s ++ m) ≡ drop at y) (a : AllAllowed (items_after 0 at (u ++ (s ++ l))))
      (rest : Pairs x y (items_after 0 (at + length u) (s ++ l)) (items_after 0 (at + length u) (s ++ m))) where
    front : (allowed (item at (u ++ (s ++ l))) ≡ true) × AllAllowed (items_after 0 (at + length u) (s ++ l))
    unfolding AllAllowed
    front = rw (next-at x at u (s ++ l) ex some end).0 at a

    stands : StandIn (s ++ m)
    stands = (kept l m alike w (allowed-shift (s ++ l) 0 (at + length u) 0 front.1)).0

    first-pairs : Pairs x y (items_after 0 at (u ++ (s ++ l))) (items_after 0 at (u ++ (s ++ m)))
    first-pairs = rw (next-at x at u (s ++ l) ex some end).0 (⊎_elim as-text as-other (text-or (item at (u ++ (s ++ l))) front.0))
      where
        as-text : text_end (item at (u ++ (s ++ l))) ≡ item_end (item at (u ++ (s ++ l)))
            → Pairs x y (placed at (u ++ (s ++ l)) ∷ items_after 0 (at + length u) (s ++ l)) (items_after 0 at (u ++ (s ++ m)))
        as-text e =
            let z = u ++ (s ++ l) in
            let i : item at z ≡ item 0 z = (item-like at 0 z).same front.0 in
            let pale = item-pale z (ap allowed (sym i) ∙ front.0) in
            let white-u = run-part white u (s ++ l) (omega (arith, ap text_end i)) in
            left (placed at z) (text-passed (item at z) front.0 e (omega arith)) (whites-right x y u at (s ++ m) white-u stands rest)

        as-other : ((q : List ℕ) → EndsBefore (item at (u ++ (s ++ l))) q)
            → Pairs x y (placed at (u ++ (s ++ l)) ∷ items_after 0 (at + length u) (s ++ l)) (items_after 0 at (u ++ (s ++ m)))
        as-other before =
            let same = item-front at u (s ++ l) (s ++ m) end (before (s ++ m)) in
            let n = item_end (item at (u ++ (s ++ l))) in
            let q = next-at y at u (s ++ m) ey some (ap item_end same ∙ end) in
            rw q.0
            (both
            (together x y at at (u ++ (s ++ l)) (u ++ (s ++ m)) ex ey (sym same)
            (item-says at (u ++ (s ++ l)) (u ++ (s ++ m)) (take_at u (s ++ m) n (sym end) ∙ sym (take_at u (s ++ l) n (sym end)))))
            rest)

  -- all of them
  pub front-pairs : {s : List ℕ} → Whole l s → (at : ℕ) → s ++ l ≡ drop at x → s ++ m ≡ drop at y → AllAllowed (items_after 0 at (s ++ l))
      → Pairs x y (items_after 0 (at + length s) l) (items_after 0 (at + length s) m) → Pairs x y (items_after 0 at (s ++ l)) (items_after 0 at (s ++ m))
  front-pairs none at ex ey a r = let z : at + 0 ≡ at = omega arith in rw z at r
  front-pairs (next u {s} some end w) at ex ey a r =
      let el = append_assoc u s l in
      let em = append_assoc u s m in
      let ex' : u ++ (s ++ l) ≡ drop at x = sym el ∙ ex in
      let ey' : u ++ (s ++ m) ≡ drop at y = sym em ∙ ey in
      let end' : item_end (item at (u ++ (s ++ l))) ≡ length u = (item-like at 0 (u ++ (s ++ l))).end ∙ end in
      let a' : AllAllowed (items_after 0 at (u ++ (s ++ l))) = rw el at a in
      let ey'' : s ++ m ≡ drop (at + length u) y = sym (drop-append_seam u (s ++ m)) ∙ ap (drop (length u)) ey' ∙ drop-drop (length u) at y in
      let place : at + length (u ++ s) ≡ at + length u + length s = rw (length-append u s) (omega arith) in
      let inner : Pairs x y (items_after 0 (at + length u + length s) l) (items_after 0 (at + length u + length s) m) = rw place at r in
      let rest = front-pairs w (at + length u) (next-at x at u (s ++ l) ex' some end').1 ey'' (behind-first u s some at end' ex' a') inner in
      rw (el, em) (first-pairs u s some w at end' ex' ey' a' rest)
