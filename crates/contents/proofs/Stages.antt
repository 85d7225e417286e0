-- Series of a constraint one after the other, by the codes of each: what is kept of them allows each and is enough at the end exactly where they agree.
-- Assumes nothing.
use Prim.Native.Nat.{ℕ, ◌+◌}
use mathlib.Core.Path.{◌≡◌, refl, sym, ap, subst, ◌∙◌}
use mathlib.Core.List.{List, [], ◌∷◌}
use mathlib.Core.Logic.{⊎_elim}
use mathlib.Core.Bool.{Bool, true, false, cond, not, ◌&&◌}
use native.Mathlib.Omega.{arith}
use lib.Dec.{eqb, leb, ltb}
use lib.ListN.{length}
use borrow.Author.Tests.{ne_eqb, lt-leb, not-true}
use Rattle.lists.proofs.Cases.{bool_cases, by_cond, eqb-cases, never}
use Rattle.states.specs.Constraints.{none_seen, withdrawing, changing, unchanging, directed_to, typed, directed, lacking}
use Rattle.states.specs.declared.Seen.{Seen}
use Rattle.trees.specs.Trees.{Trees}
use Rattle.trees.proofs.Made.{both}
use Rattle.contents.specs.Said.{TagSaid}
use Rattle.contents.specs.Legal.{business_in, direction_in, change_directions, one_or_two, some_bearing, series_agree}
use Rattle.contents.proofs.Tests.{chosen, other, parts-and}

-- a series of these codes is not against those before it, of which there are n
pub record Fine (z : Seen) (n b d : ℕ) : Type 0 where
  pub lone : cond z.withdrawn (ltb 0 n) false ≡ false
  pub few : cond z.second (eqb b 1) false ≡ false
  pub apart : cond (typed z b).here (cond (typed z b).second (eqb d (typed z b).direction) false) false ≡ false

-- and what is kept after it
abbrev pub after_series : Seen → ℕ → ℕ → Seen
after_series z b d = directed (typed z b) d

unfoldable pub AllFine : List ℕ → Seen → ℕ → List (Trees TagSaid) → Type 0
AllFine rows z n [] = Unit {0}
AllFine rows z n (s ∷ ss) =
    Fine z n (business_in rows s) (direction_in rows s) × AllFine rows (after_series z (business_in rows s) (direction_in rows s)) (n + 1) ss

unfoldable pub seen_after : List ℕ → Seen → List (Trees TagSaid) → Seen
seen_after rows z [] = z
seen_after rows z (s ∷ ss) = seen_after rows (after_series z (business_in rows s) (direction_in rows s)) ss

-- ---- with a DocStatus

withdrawn-kept : (z : Seen) (b d : ℕ) → (after_series z b d).withdrawn ≡ z.withdrawn
unfolding typed changing unchanging directed directed_to
withdrawn-kept z b d = after (typed z b) ∙ by_cond (λ (x : Seen). x.withdrawn ≡ z.withdrawn) (eqb b 1) refl refl
  where
    after : (x : Seen) → (cond x.here (cond x.second x (directed_to x d)) x).withdrawn ≡ x.withdrawn
    after x = by_cond (λ (v : Seen). v.withdrawn ≡ x.withdrawn) x.here (by_cond (λ (v : Seen). v.withdrawn ≡ x.withdrawn) x.second refl refl) refl

withdrawn-after : (rows : List ℕ) (z : Seen) (ss : List (Trees TagSaid)) → (seen_after rows z ss).withdrawn ≡ z.withdrawn
unfolding seen_after
withdrawn-after rows z [] = refl
withdrawn-after rows z (s ∷ ss) =
    withdrawn-after rows (after_series z (business_in rows s) (direction_in rows s)) ss ∙ withdrawn-kept z (business_in rows s) (direction_in rows s)

abbrev gone : Seen
gone = withdrawing none_seen

-- the first series is allowed
first_fine : (b d : ℕ) → Fine gone 0 b d
unfolding withdrawing none_seen typed changing unchanging
first_fine b d =
    record {
      lone = refl;
      few = refl;
      apart =
          by_cond (λ (x : Seen). cond x.here (cond x.second (eqb d x.direction) false) false ≡ false) (eqb b 1)
          {a = changing gone} {b = unchanging gone (cond (eqb b 2) true gone.bearing)} refl refl;
    }

pub gone-forth : (rows : List ℕ) (ss : List (Trees TagSaid)) → AllFine rows gone 0 ss → leb (length ss) 1 ≡ true
unfolding AllFine withdrawing none_seen
gone-forth rows [] a = refl
gone-forth rows (s ∷ []) a = refl
gone-forth rows (s ∷ t ∷ ss) a =
    let z = after_series gone (business_in rows s) (direction_in rows s) in
    let e : z.withdrawn ≡ true = withdrawn-kept gone (business_in rows s) (direction_in rows s) in
    let f : true ≡ false = ap (λ (w : Bool). cond w (ltb 0 1) false) (sym e) ∙ a.1.0.lone in
    never (sym f)

pub gone-back : (rows : List ℕ) (ss : List (Trees TagSaid)) → leb (length ss) 1 ≡ true → AllFine rows gone 0 ss
unfolding AllFine
gone-back rows [] h = tt
gone-back rows (s ∷ []) h = (first_fine (business_in rows s) (direction_in rows s), tt)
gone-back rows (s ∷ t ∷ ss) h = never (sym (lt-leb (length (s ∷ t ∷ ss)) 1 (omega arith)) ∙ h)

pub gone-complete : (rows : List ℕ) (ss : List (Trees TagSaid)) → lacking (seen_after rows gone ss) (length ss) ≡ false
unfolding lacking withdrawing none_seen
gone-complete rows ss = ap (λ (w : Bool). cond w false (cond (eqb (length ss) 0) false (cond (seen_after rows gone ss).change (not (seen_after rows gone ss).bearing) true))) (withdrawn-after rows gone ss)

-- ---- without one

-- what is kept: whether an A77 came, a second one, whether this series is one, the first one's Direction, whether a B59 came
abbrev stage : Bool → Bool → Bool → ℕ → Bool → Seen
stage c t h k e = record { withdrawn = false; change = c; second = t; here = h; direction = k; bearing = e }

-- which Directions of A77 may come after that
ok_after : Bool → Bool → ℕ → List ℕ → Bool
ok_after c t k [] = true
ok_after c true k (d ∷ l) = false
ok_after false false k (d ∷ l) = ok_after true false d l
ok_after true false k (d ∷ l) = not (eqb d k) && ok_after true true k l

-- one came, or comes
changed : Bool → List ℕ → Bool
changed c [] = c
changed c (d ∷ l) = true

another-series : (c t h : Bool) (k : ℕ) (e : Bool) (b d : ℕ) → eqb b 1 ≡ false → after_series (stage c t h k e) b d ≡ stage c t false k (cond (eqb b 2) true e)
unfolding typed unchanging directed
another-series c t h k e b d f = rw f refl

module _ (rows : List ℕ) where
  abbrev C : List (Trees TagSaid) → List ℕ
  C ss = change_directions rows ss

  abbrev Forth : List (Trees TagSaid) → Type 0
  Forth ss = (c t h : Bool) (k : ℕ) (e : Bool) (n : ℕ) → AllFine rows (stage c t h k e) n ss → ok_after c t k (C ss) ≡ true

  abbrev Back : List (Trees TagSaid) → Type 0
  Back ss = (c t h : Bool) (k : ℕ) (e : Bool) (n : ℕ) → ok_after c t k (C ss) ≡ true → AllFine rows (stage c t h k e) n ss

  -- a series of A77
  change-forth : (ss : List (Trees TagSaid)) → Forth ss → (c t h : Bool) (k : ℕ) (e : Bool) (n d : ℕ) → Fine (stage c t h k e) n 1 d
      → AllFine rows (after_series (stage c t h k e) 1 d) (n + 1) ss → ok_after c t k (d ∷ C ss) ≡ true
  unfolding ok_after typed changing directed directed_to
  change-forth ss ih c true h k e n d f a = never (sym f.few)
  change-forth ss ih false false h k e n d f a = ih true false true d e (n + 1) a
  change-forth ss ih true false h k e n d f a =
      let g : eqb d k ≡ false = f.apart in rw g (ih true true true k e (n + 1) a)

  change-back : (ss : List (Trees TagSaid)) → Back ss → (c t h : Bool) (k : ℕ) (e : Bool) (n d : ℕ) → ok_after c t k (d ∷ C ss) ≡ true
      → Fine (stage c t h k e) n 1 d × AllFine rows (after_series (stage c t h k e) 1 d) (n + 1) ss
  unfolding ok_after typed changing directed directed_to
  change-back ss ih c true h k e n d g = never g
  change-back ss ih false false h k e n d g = (record { lone = refl; few = refl; apart = refl }, ih true false true d e (n + 1) g)
  change-back ss ih true false h k e n d g =
      let m = both (not (eqb d k)) (ok_after true true k (C ss)) g in
      (record { lone = refl; few = refl; apart = not-true (eqb d k) m.0 }, ih true true true k e (n + 1) m.1)

  -- a series of another type
  other-fine : (c t h : Bool) (k : ℕ) (e : Bool) (n b d : ℕ) → eqb b 1 ≡ false → Fine (stage c t h k e) n b d
  unfolding typed unchanging
  other-fine c t h k e n b d f = record { lone = refl; few = rw f (by_cond (λ (x : Bool). x ≡ false) t refl refl); apart = rw f refl }

  fine-forth : (ss : List (Trees TagSaid)) → Forth ss
  unfolding ok_after AllFine change_directions
  fine-forth [] c t h k e n a = refl
  fine-forth (s ∷ ss) c t h k e n a =
      let b = business_in rows s in
      let d = direction_in rows s in
      let z = stage c t h k e in
      ⊎_elim
      (λ (y : (b ≡ 1) × (eqb b 1 ≡ true)).
      ap (ok_after c t k) (chosen (d ∷ C ss) (C ss) y.1)
      ∙ change-forth ss (fine-forth ss) c t h k e n d (subst (λ (i : ℕ). Fine z n i d) y.0 a.0)
      (subst (λ (i : ℕ). AllFine rows (after_series z i d) (n + 1) ss) y.0 a.1))
      (λ (y : (b ≡ 1 → ⊥) × (eqb b 1 ≡ false)).
      ap (ok_after c t k) (other (d ∷ C ss) (C ss) y.1)
      ∙ fine-forth ss c t false k (cond (eqb b 2) true e) (n + 1)
      (subst (λ (x : Seen). AllFine rows x (n + 1) ss) (another-series c t h k e b d y.1) a.1))
      (eqb-cases b 1)

  fine_back : (ss : List (Trees TagSaid)) → Back ss
  unfolding AllFine change_directions
  fine_back [] c t h k e n a = tt
  fine_back (s ∷ ss) c t h k e n a =
      let b = business_in rows s in
      let d = direction_in rows s in
      let z = stage c t h k e in
      ⊎_elim
      (λ (y : (b ≡ 1) × (eqb b 1 ≡ true)).
      let m = change-back ss (fine_back ss) c t h k e n d (ap (ok_after c t k) (sym (chosen (d ∷ C ss) (C ss) y.1)) ∙ a) in (
        subst (λ (i : ℕ). Fine z n i d) (sym y.0) m.0,
        subst (λ (i : ℕ). AllFine rows (after_series z i d) (n + 1) ss) (sym y.0) m.1,
      ))
      (λ (y : (b ≡ 1 → ⊥) × (eqb b 1 ≡ false)).
      let m = fine_back ss c t false k (cond (eqb b 2) true e) (n + 1) (ap (ok_after c t k) (sym (other (d ∷ C ss) (C ss) y.1)) ∙ a) in (
        other-fine c t h k e n b d y.1,
        subst (λ (x : Seen). AllFine rows x (n + 1) ss) (sym (another-series c t h k e b d y.1)) m,
      ))
      (eqb-cases b 1)

  -- ---- at the end

  changed-on : (l : List ℕ) → changed true l ≡ true
  unfolding changed
  changed-on [] = refl
  changed-on (d ∷ l) = refl

  either : (a b e : Bool) → cond b true (cond a true e) ≡ cond (cond a true b) true e
  either true true e = refl
  either true false e = refl
  either false b e = refl

  abbrev Final : Bool → Bool → List (Trees TagSaid) → Seen → Type 0
  Final c e ss x = (t : Bool) × (h : Bool) × (k : ℕ) × (x ≡ stage (changed c (C ss)) t h k (cond (some_bearing rows ss) true e))

  abbrev FinalOf : List (Trees TagSaid) → Type 0
  FinalOf ss = (c t h : Bool) (k : ℕ) (e : Bool) → Final c e ss (seen_after rows (stage c t h k e) ss)

  change-final : (s : Trees TagSaid) (ss : List (Trees TagSaid)) → FinalOf ss → (c t h : Bool) (k : ℕ) (e : Bool) (d : ℕ) → business_in rows s ≡ 1
      → (t' : Bool) × (h' : Bool) × (k' : ℕ)
      × (seen_after rows (after_series (stage c t h k e) 1 d) ss
      ≡ stage true t' h' k' (cond (cond (eqb (business_in rows s) 2) true (some_bearing rows ss)) true e))
  unfolding typed changing directed directed_to
  change-final s ss ih true t h k e d g =
      let f = ih true true true k e in
      (f.0, f.1, f.2, f.3 ∙ rw (changed-on (C ss), ne_eqb (business_in rows s) 2 (λ z. omega (arith, z, g))) refl)
  change-final s ss ih false t h k e d g =
      let f = ih true false true d e in
      (f.0, f.1, f.2, f.3 ∙ rw (changed-on (C ss), ne_eqb (business_in rows s) 2 (λ z. omega (arith, z, g))) refl)

  final : (ss : List (Trees TagSaid)) → FinalOf ss
  unfolding seen_after change_directions some_bearing changed
  final [] c t h k e = (t, h, k, refl)
  final (s ∷ ss) c t h k e =
      let b = business_in rows s in
      let d = direction_in rows s in
      let z = stage c t h k e in
      ⊎_elim
      (λ (y : (b ≡ 1) × (eqb b 1 ≡ true)).
      let f = change-final s ss (final ss) c t h k e d y.0 in (
        f.0,
        f.1,
        f.2,
        ap (λ (i : ℕ). seen_after rows (after_series z i d) ss) y.0
            ∙ f.3
            ∙ ap (λ (l : List ℕ). stage (changed c l) f.0 f.1 f.2 (cond (cond (eqb b 2) true (some_bearing rows ss)) true e))
            (sym (chosen (d ∷ C ss) (C ss) y.1)),
      ))
      (λ (y : (b ≡ 1 → ⊥) × (eqb b 1 ≡ false)).
      let f = final ss c t false k (cond (eqb b 2) true e) in (
        f.0,
        f.1,
        f.2,
        ap (λ (x : Seen). seen_after rows x ss) (another-series c t h k e b d y.1)
            ∙ f.3
            ∙ ap (λ (v : Bool). stage (changed c (C ss)) f.0 f.1 f.2 v) (either (eqb b 2) (some_bearing rows ss) e)
            ∙ ap (λ (l : List ℕ). stage (changed c l) f.0 f.1 f.2 (cond (cond (eqb b 2) true (some_bearing rows ss)) true e))
            (sym (other (d ∷ C ss) (C ss) y.1)),
      ))
      (eqb-cases b 1)

  two-forth : (l : List ℕ) → changed false l ≡ true → ok_after false false 0 l ≡ true → one_or_two l ≡ true
  unfolding changed ok_after one_or_two
  two-forth [] a b = never a
  two-forth (d ∷ []) a b = refl
  two-forth (d ∷ e ∷ []) a b = (both (not (eqb e d)) true b).0
  two-forth (d ∷ e ∷ f ∷ l) a b = never (both (not (eqb e d)) false b).1

  two_back : (l : List ℕ) → one_or_two l ≡ true → (changed false l ≡ true) × (ok_after false false 0 l ≡ true)
  unfolding changed ok_after one_or_two
  two_back [] a = never a
  two_back (d ∷ []) a = (refl, refl)
  two_back (d ∷ e ∷ []) a = (refl, parts-and (not (eqb e d)) true a refl)
  two_back (d ∷ e ∷ f ∷ l) a = never a

  whole-forth : (c e : Bool) → cond c (not e) true ≡ false → (c ≡ true) × (e ≡ true)
  whole-forth true true h = (refl, refl)
  whole-forth true false h = never (sym h)
  whole-forth false e h = never (sym h)

  bearing-none : (b : Bool) → cond b true false ≡ b
  bearing-none true = refl
  bearing-none false = refl

  -- what lacks at the end
  lacks : (ss : List (Trees TagSaid)) (n : ℕ) → eqb n 0 ≡ false
      → lacking (seen_after rows none_seen ss) n ≡ cond (changed false (C ss)) (not (some_bearing rows ss)) true
  unfolding lacking none_seen
  lacks ss n f =
      let g = final ss false false false 0 false in
      ap (λ (x : Seen). lacking x n) g.3 ∙ rw (f, bearing-none (some_bearing rows ss)) refl

  pub agree-forth : (ss : List (Trees TagSaid)) → AllFine rows none_seen 0 ss → lacking (seen_after rows none_seen ss) (length ss) ≡ false
      → series_agree rows false ss ≡ true
  unfolding series_agree none_seen
  agree-forth [] a l = refl
  agree-forth (s ∷ ss) a l =
      let f = ne_eqb (length (s ∷ ss)) 0 (λ z. omega (arith, z)) in
      let w = whole-forth (changed false (C (s ∷ ss))) (some_bearing rows (s ∷ ss)) (sym (lacks (s ∷ ss) (length (s ∷ ss)) f) ∙ l) in
      let o = two-forth (C (s ∷ ss)) w.0 (fine-forth (s ∷ ss) false false false 0 false 0 a) in
      rw f (parts-and (one_or_two (C (s ∷ ss))) (some_bearing rows (s ∷ ss)) o w.1)

  pub agree-back : (ss : List (Trees TagSaid)) → series_agree rows false ss ≡ true
      → AllFine rows none_seen 0 ss × (lacking (seen_after rows none_seen ss) (length ss) ≡ false)
  unfolding series_agree AllFine seen_after lacking none_seen
  agree-back [] h = (tt, refl)
  agree-back (s ∷ ss) h =
      let f = ne_eqb (length (s ∷ ss)) 0 (λ z. omega (arith, z)) in
      let g : (one_or_two (C (s ∷ ss)) && some_bearing rows (s ∷ ss)) ≡ true = rw f at h in
      let m = both (one_or_two (C (s ∷ ss))) (some_bearing rows (s ∷ ss)) g in
      let w = two_back (C (s ∷ ss)) m.0 in
      (fine_back (s ∷ ss) false false false 0 false 0 w.1, lacks (s ∷ ss) (length (s ∷ ss)) f ∙ rw (w.0, m.1) refl)
