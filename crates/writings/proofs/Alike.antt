-- What makes a content legal is what its tags say: one whose tags fit where those of a legal one fit, and say the same period, positions and identifications, is legal.
-- Assumes nothing.
use Prim.Native.Nat.{ℕ}
use mathlib.Core.Path.{◌≡◌, refl, sym, ap, ◌∙◌, subst}
use mathlib.Core.List.{List, [], ◌∷◌, ◌++◌, map, map-append}
use mathlib.Core.Bool.{Bool, true, false}
use mathlib.Core.Logic.{◌⊎◌, ⊎_elim}
use lib.ListN.{length, get_or, length-map}
use Rattle.lists.proofs.Cases.{bool_cases}
use Rattle.characters.specs.Says.{says}
use Rattle.times.specs.Times.{interval}
use Rattle.columns.specs.Columns.{period_form, series_role, interval_role, original_role, series_id_role, pos_role}
use Rattle.guideline.specs.Kinds.{kind_at}
use Rattle.guideline.specs.Rows.{rows_of}
use Rattle.trees.specs.Trees.{Trees, none, element, rows_taken, Fits, EachConforms}
use Rattle.contents.specs.Said.{TagSaid, bytes}
use Rattle.contents.proofs.Lists.{all_join, all_split}
use Rattle.contents.specs.Legal.{has_role, has_form, those, in_each, Period, period_by, period_in, period_of, quarters_of, position_of, element_fits, Each, in_turn, count_fits, SeriesFits, All, Apart, identifications, Legal}

pub record TagAlike (kind w : ℕ) (s t : TagSaid) : Type 0 where
  pub fits : (p : Period) → element_fits kind p w s ≡ true → element_fits kind p w t ≡ true
  pub period : has_form period_form w ≡ true → says (bytes s.v) ≡ says (bytes t.v)
  pub position : has_role pos_role w ≡ true → position_of s ≡ position_of t
  pub identification : has_role series_id_role w ≡ true → says (bytes s.v) ≡ says (bytes t.v)

unfoldable pub TreesAlike : ℕ → List ℕ → Trees TagSaid → Trees TagSaid → Type 0
TreesAlike kind rows none none = Unit {0}
TreesAlike kind rows none (element q t j b) = ⊥
TreesAlike kind rows (element r s i a) none = ⊥
TreesAlike kind rows (element r s i a) (element q t j b) = (r ≡ q) × TagAlike kind (get_or rows r 0) s t × TreesAlike kind rows i j × TreesAlike kind rows a b

-- the bytes of `v` say
abbrev said : TagSaid → List ℕ
said s = says (bytes s.v)

module _ (kind : ℕ) (rows : List ℕ) where
  -- ---- their order

  taken-alike : (c e : Trees TagSaid) → TreesAlike kind rows c e → rows_taken c ≡ rows_taken e
  unfolding TreesAlike rows_taken
  taken-alike none none h = refl
  taken-alike none (element q t j b) h = absurd h
  taken-alike (element r s i a) none h = absurd h
  taken-alike (element r s i a) (element q t j b) h = rw (h.0, taken-alike a b h.3) refl

  each-alike : (c e : Trees TagSaid) → TreesAlike kind rows c e → EachConforms rows c → EachConforms rows e
  unfolding TreesAlike EachConforms
  each-alike none none h k = tt
  each-alike none (element q t j b) h k = absurd h
  each-alike (element r s i a) none h k = absurd h
  each-alike (element r s i a) (element q t j b) h k =
      (subst (λ (n : ℕ). Fits rows n (rows_taken j)) h.0 (subst (Fits rows r) (taken-alike i j h.2) k.0), each-alike i j h.2 k.1, each-alike a b h.3 k.2)

  -- ---- those of a row

  module _ {A : Type 0} (test : ℕ → Bool) (f : TagSaid → A) (same : (w : ℕ) (s t : TagSaid) → test w ≡ true → TagAlike kind w s t → f s ≡ f t) where
    joined : (a b c d : List TagSaid) → map f a ≡ map f c → map f b ≡ map f d → map f (a ++ b) ≡ map f (c ++ d)
    joined a b c d x y = map-append f a b ∙ rw (x, y) (sym (map-append f c d))

    pub those-alike : (c e : Trees TagSaid) → TreesAlike kind rows c e → map f (those test rows c) ≡ map f (those test rows e)
    unfolding TreesAlike those
    those-alike none none h = refl
    those-alike none (element q t j b) h = absurd h
    those-alike (element r s i a) none h = absurd h
    those-alike (element r s i a) (element q t j b) h =
        let rest = joined (those test rows i) (those test rows a) (those test rows j) (those test rows b) (those-alike i j h.2) (those-alike a b h.3) in
        ⊎_elim
        (λ (y : test (get_or rows r 0) ≡ true).
        rw (sym h.0, y) (ap (λ (x : A). x ∷ map f (those test rows i ++ those test rows a)) (same (get_or rows r 0) s t y h.1) ∙ ap (λ (l : List A). f t ∷ l) rest))
        (λ (y : test (get_or rows r 0) ≡ false). rw (sym h.0, y) rest)
        (bool_cases (test (get_or rows r 0)))

  -- as many
  many-alike : (test : ℕ → Bool) (c e : Trees TagSaid) → TreesAlike kind rows c e → length (those test rows c) ≡ length (those test rows e)
  many-alike test c e h =
      let f : TagSaid → ℕ = λ s. 0 in
      sym (length-map (those test rows c) f) ∙ ap length (those-alike test f (λ w s t y k. refl) c e h) ∙ length-map (those test rows e) f

  -- what stands in each of them
  all_in : (P : Trees TagSaid → Type 0) (test : ℕ → Bool) → ((x y : Trees TagSaid) → TreesAlike kind rows x y → P x → P y)
      → (c e : Trees TagSaid) → TreesAlike kind rows c e → All P (in_each test rows c) → All P (in_each test rows e)
  unfolding TreesAlike in_each All
  all_in P test keep none none h k = tt
  all_in P test keep none (element q t j b) h k = absurd h
  all_in P test keep (element r s i a) none h k = absurd h
  all_in P test keep (element r s i a) (element q t j b) h k =
      let both : All P (in_each test rows i ++ in_each test rows a) → All P (in_each test rows j ++ in_each test rows b) =
      λ m. let n = all_split P (in_each test rows i) (in_each test rows a) m in
      all_join P (in_each test rows j) (in_each test rows b) (all_in P test keep i j h.2 n.0) (all_in P test keep a b h.3 n.1)
      in
      ⊎_elim
      (λ (y : test (get_or rows r 0) ≡ true). let m : P i × All P (in_each test rows i ++ in_each test rows a) = rw y at k in rw (sym h.0, y) (keep i j h.2 m.0, both m.1))
      (λ (y : test (get_or rows r 0) ≡ false). let m : All P (in_each test rows i ++ in_each test rows a) = rw y at k in rw (sym h.0, y) (both m))
      (bool_cases (test (get_or rows r 0)))

  -- ---- the period, and each tag

  -- the period by what TimePeriodCovered says
  unfoldable period_said : Period → List (List ℕ) → Period
  period_said p [] = p
  period_said p (x ∷ xs) = period_said (period_by (interval x)) xs

  period-told : (p : Period) (l : List TagSaid) → period_in p l ≡ period_said p (map said l)
  unfolding period_in period_said
  period-told p [] = refl
  period-told p (s ∷ l) = period-told (period_by (interval (said s))) l

  period-alike : (c e : Trees TagSaid) → TreesAlike kind rows c e → period_of rows c ≡ period_of rows e
  unfolding period_of
  period-alike c e h =
      let none : Period = record { start = 0; end = 0 } in
      period-told none (those (has_form period_form) rows c)
      ∙ ap (period_said none) (those-alike (has_form period_form) said (λ w s t y k. k.period y) c e h)
      ∙ sym (period-told none (those (has_form period_form) rows e))

  tags-alike : (p : Period) (c e : Trees TagSaid) → TreesAlike kind rows c e → Each (element_fits kind p) rows c → Each (element_fits kind p) rows e
  unfolding TreesAlike Each
  tags-alike p none none h k = tt
  tags-alike p none (element q t j b) h k = absurd h
  tags-alike p (element r s i a) none h k = absurd h
  tags-alike p (element r s i a) (element q t j b) h k =
      (subst (λ (n : ℕ). element_fits kind p (get_or rows n 0) t ≡ true) h.0 (h.1.fits p k.0), tags-alike p i j h.2 k.1, tags-alike p a b h.3 k.2)

  series-alike : (quarters : ℕ) (x y : Trees TagSaid) → TreesAlike kind rows x y → SeriesFits kind quarters rows x → SeriesFits kind quarters rows y
  series-alike quarters x y h k =
      let n = many-alike (has_role original_role) x y h in
      record {
        positions = subst (λ (l : List ℕ). in_turn kind quarters 0 l ≡ true) (those-alike (has_role pos_role) position_of (λ w s t z m. m.position z) x y h) k.positions;
        intervals = subst (λ (m : ℕ). count_fits kind quarters m ≡ true) (many-alike (has_role interval_role) x y h) k.intervals;
        originals = subst (λ (m : ℕ). (m ≡ 0) ⊎ (m ≡ 5)) n k.originals;
      }

-- of a kind whose series are not held against each other
pub legal-alike : (kind : ℕ) (c e : Trees TagSaid) → (kind_at kind).constrained ≡ false → TreesAlike kind (rows_of kind) c e → Legal kind c → Legal kind e
unfolding identifications
legal-alike kind c e free h k =
    let rows = rows_of kind in
    let p = period-alike kind rows c e h in
    record {
      known = k.known;
      conforms =
          record {
            fits = subst (Fits rows 0) (taken-alike kind rows c e h) k.conforms.fits;
            each = each-alike kind rows c e h k.conforms.each;
          };
      elements = subst (λ (x : Period). Each (element_fits kind x) rows e) p (tags-alike kind rows (period_of rows c) c e h k.elements);
      series =
          subst (λ (x : Period). All (SeriesFits kind (quarters_of x) rows) (in_each (has_role series_role) rows e)) p
          (all_in kind rows (SeriesFits kind (quarters_of (period_of rows c)) rows) (has_role series_role) (series-alike kind rows (quarters_of (period_of rows c))) c e h k.series);
      constraint = rw free refl;
      apart = subst Apart (those-alike kind rows (has_role series_id_role) said (λ w s t y m. m.identification y) c e h) k.apart;
    }
