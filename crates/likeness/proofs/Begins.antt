-- Where the items begin, if other items stand there: the same place. Assumes nothing.
use Prim.Native.Nat.{ℕ, ◌+◌, ◌≤◌, ◌<◌}
use mathlib.Core.Path.{◌≡◌, refl, sym, ap, subst, ◌∙◌}
use mathlib.Core.List.{List, [], ◌∷◌, ◌++◌}
use mathlib.Core.Bool.{true, false}
use mathlib.Core.Logic.{◌⊎◌, inl, inr, ⊎_elim}
use native.Mathlib.Omega.{arith}
use lib.ListN.{length, drop, length-drop, take-append-drop}
use Rattle.std.specs.Prelude.{Result, Ok, Err}
use Rattle.lists.proofs.Cases.{bool_cases, never, zero-not-one}
use Rattle.slices.specs.Bytes.{byte}
use Rattle.slices.specs.Run.{run}
use Rattle.slices.specs.Same.{same, begins}
use Rattle.slices.specs.Text.{text}
use Rattle.slices.proofs.Bytes.{byte-drop}
use Rattle.slices.proofs.Firsts.{first_by}
use Rattle.slices.proofs.Near.{Front, front-drop, take-front, begins-take}
use Rattle.attributes.specs.Names.{name_start, white}
use Rattle.items.specs.Item.{start_tag, item}
use Rattle.prolog.specs.Prolog.{declaration, mark_len, behind_mark, begin_after, begin}
use Rattle.digits.proofs.Begins.{declaration-same}
use Rattle.fronts.proofs.Searches.{upto}
use Rattle.reader.specs.Items.{items_after}
use Rattle.contents.specs.Spelled.{allowed, AllAllowed}
use Rattle.likeness.proofs.Shifts.{StandIn}
use Rattle.likeness.proofs.Whites.{front-white}

abbrev mark : List ℕ
mark = 0xEF ∷ 0xBB ∷ 0xBF ∷ []

-- neither an XML declaration nor a byte order mark is an item that may stand
declaration-falls : (s : List ℕ) → StandIn (text "<?xml" ++ s) → ⊥
unfolding items_after AllAllowed item start_tag byte name_start allowed
declaration-falls s a = never a.0

mark-falls : (s : List ℕ) → StandIn (mark ++ s) → ⊥
unfolding run white
mark-falls s a =
    let e : 0 ≡ upto (mark ++ s) = front-white (mark ++ s) a in
    let f = first_by 0x3C 0xEF (0xBB ∷ 0xBF ∷ s) refl in
    omega (arith, f)

-- so no items begin with it
not-begun : (t s : List ℕ) → ((r : List ℕ) → StandIn (t ++ r) → ⊥) → StandIn s → begins t s ≡ false
not-begun t s falls a =
    ⊎_elim
    (λ e.
    let z : s ≡ t ++ drop (length t) s = sym (take-append-drop (length t) s) ∙ ap (λ (u : List ℕ). u ++ drop (length t) s) (begins-take t s e) in
    absurd (falls (drop (length t) s) (subst StandIn z a)))
    (λ e. e)
    (bool_cases (begins t s))

-- x and y begin with the same n bytes, and items that may stand in a document follow them in y
module _ (x y : List ℕ) (n : ℕ) (lx : n ≤ length x) (ly : n ≤ length y) (f : Front x y n) (stands : StandIn (drop n y)) where
  begins-on : (m : ℕ) (t : List ℕ) → m + length t ≤ n → begins t (drop m y) ≡ begins t (drop m x)
  unfolding begins
  begins-on m t h =
      ap (same t)
      (take-front (drop m y) (drop m x) (length t) (rw length-drop (omega arith)) (rw length-drop (omega arith))
      (λ i g. byte-drop y m i ∙ sym (f (m + i) (omega arith)) ∙ sym (byte-drop x m i)))

  -- behind a mark of m bytes: no declaration, or one
  record After (m : ℕ) : Type 0 where
    from : begin_after y m ≡ Ok n
    way : (n ≡ m) ⊎ (m + 5 ≤ n)

  declared-on : (m : ℕ) → begins (text "<?xml") (drop m x) ≡ true → (b : Result ℕ ℕ) → declaration m (drop m x) ≡ b → behind_mark m b ≡ Ok n → After m
  unfolding behind_mark begin_after
  declared-on m t (Ok k) e q =
      let z : m + k ≡ n = cc in
      let d = declaration-same m (drop m x) (drop m y) k (λ g. rw length-drop (omega arith)) (front-drop x y m k (λ i g. f i (omega arith))) e in
      let l : m + 5 ≤ n = omega (arith, d.2) in
      record { from = rw (begins-on m (text "<?xml") l, t, d.0) q; way = inr l }
  declared-on m t (Err p) e q = absurd (zero-not-one (cc))

  after_on : (m : ℕ) → begin_after x m ≡ Ok n → After m
  unfolding begin_after
  after_on m q =
      ⊎_elim
      (λ (t : begins (text "<?xml") (drop m x) ≡ true). declared-on m t (declaration m (drop m x)) refl (rw t at q))
      (λ (t : begins (text "<?xml") (drop m x) ≡ false).
      let z : ◌≡◌ {A = Result ℕ ℕ} (Ok m) (Ok n) = rw t at q in
      let e : n ≡ m = cc in
      let none = not-begun (text "<?xml") (drop m y) declaration-falls (subst (λ (k : ℕ). StandIn (drop k y)) e stands) in
      record { from = rw none z; way = inl e })
      (bool_cases (begins (text "<?xml") (drop m x)))

  pub begin-on : begin x ≡ Ok n → begin y ≡ Ok n
  unfolding begin mark_len
  begin-on q =
      ⊎_elim
      (λ (t : begins mark x ≡ true).
      let a = after_on 3 (rw t at q) in
      let l : 3 ≤ n = ⊎_elim (λ z. omega (arith, z)) (λ z. omega (arith, z)) a.way in
      rw (begins-on 0 mark l, t) a.from)
      (λ (t : begins mark x ≡ false).
      let a = after_on 0 (rw t at q) in
      let s : begins mark y ≡ false =
      ⊎_elim
      (λ z. not-begun mark y mark-falls (subst (λ (k : ℕ). StandIn (drop k y)) z stands))
      (λ z. begins-on 0 mark (omega (arith, z)) ∙ t)
      a.way in
      rw s a.from)
      (bool_cases (begins mark x))
