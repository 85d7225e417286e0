-- Which tag of the content of a draft comes last in a row, of the header or of a series. Assumes nothing.
use Prim.Native.Nat.{ℕ, suc, ◌+◌, ◌≤◌, ◌<◌}
use mathlib.Core.Path.{◌≡◌, refl, sym, ap, ◌∙◌}
use mathlib.Core.List.{List, [], ◌∷◌, ◌++◌}
use mathlib.Core.Bool.{Bool, true, false, cond}
use mathlib.Core.Logic.{⊎_elim}
use native.Mathlib.Omega.{arith}
use lib.Dec.{eqb, ltb}
use lib.ListN.{length, get_or, drop, length-drop}
use borrow.Author.Tests.{ne_eqb}
use Rattle.lists.proofs.Cases.{eqb-cases, ltb-cases, never}
use Rattle.columns.specs.Columns.{role_of, series_role}
use Rattle.states.specs.Attributes.{asks_v}
use Rattle.views.specs.Layout.{header_pairs, values_of, first_pair}
use Rattle.views.specs.Shown.{series_at}
use Rattle.trees.specs.Trees.{Trees, none, element}
use Rattle.contents.specs.Said.{TagSaid}
use Rattle.sights.specs.Values.{Part, counts_of, parts_of, last_of, stands_in}
use Rattle.drafts.specs.Draft.{Draft, single_tag, is_said, singles}
use Rattle.drafts.proofs.Writing.{row-there}
use Rattle.writings.proofs.Places.{first_next, Single}

-- ---- the elements of a content, one by one

-- each element stands in a row that has P
unfoldable pub RowsHave : (ℕ → Type 0) → Trees TagSaid → Type 0
RowsHave P none = Unit {0}
RowsHave P (element r s i a) = P r × RowsHave P i × RowsHave P a

last-append : (rows : List ℕ) (q m : ℕ) (x : List TagSaid) (ps qs : List (Part TagSaid)) → last_of rows q m x (ps ++ qs) ≡ last_of rows q m (last_of rows q m x ps) qs
unfolding last_of
last-append rows q m x [] qs = refl
last-append rows q m x (p ∷ ps) qs = last-append rows q m (cond (stands_in rows q m p) (p.said ∷ []) x) ps qs

module _ (rows : List ℕ) where
  -- no series is opened in row r
  abbrev pub NoSeries : ℕ → Type 0
  NoSeries r = eqb (role_of (get_or rows r 0)) series_role ≡ false

  pub counts-plain : (c : Trees TagSaid) (n : ℕ) → RowsHave NoSeries c → counts_of rows c n ≡ n
  unfolding RowsHave counts_of series_at
  counts-plain none n h = refl
  counts-plain (element r s i a) n h = rw (h.0, counts-plain i n h.1) (counts-plain a n h.2)

  module _ (q m : ℕ) where
    abbrev pub Elsewhere : ℕ → Type 0
    Elsewhere r = eqb r q ≡ false

    abbrev pub last_in : List TagSaid → Trees TagSaid → ℕ → List TagSaid
    last_in x c n = last_of rows q m x (parts_of rows c n)

    -- whether an element of row q counts for m where n series are opened
    abbrev pub counts : ℕ → Bool
    counts n = cond (ltb (first_pair rows q) header_pairs) true (eqb n m)

    -- with an element of row r that says s
    abbrev pub taken : ℕ → ℕ → TagSaid → List TagSaid → List TagSaid
    taken r k s x = cond (cond (eqb r q) (counts k) false) (s ∷ []) x

    pub last-element : (x : List TagSaid) (r : ℕ) (s : TagSaid) (i a : Trees TagSaid) (n : ℕ)
        → last_in x (element r s i a) n
        ≡ last_in (last_in (taken r (series_at (get_or rows r 0) n) s x) i (series_at (get_or rows r 0) n)) a (counts_of rows i (series_at (get_or rows r 0) n))
    unfolding parts_of last_of
    last-element x r s i a n = last-append rows q m _ (parts_of rows i (series_at (get_or rows r 0) n)) _

    -- one that holds no others and opens no series
    pub last-single : (x : List TagSaid) (r : ℕ) (s : TagSaid) (a : Trees TagSaid) (n : ℕ) → NoSeries r → last_in x (element r s none a) n ≡ last_in (taken r n s x) a n
    unfolding parts_of counts_of last_of series_at
    last-single x r s a n p = last-element x r s none a n ∙ rw p refl

    pub last-lacks : (x : List TagSaid) (c : Trees TagSaid) (n : ℕ) → RowsHave Elsewhere c → last_in x c n ≡ x
    unfolding RowsHave parts_of last_of
    last-lacks x none n h = refl
    last-lacks x (element r s i a) n h =
        let k = series_at (get_or rows r 0) n in
        last-element x r s i a n
        ∙ rw h.0 (ap (λ (y : List TagSaid). last_in y a (counts_of rows i k)) (last-lacks x i k h.1) ∙ last-lacks x a (counts_of rows i k) h.2)

    neither : (a b : Bool) → b ≡ false → (x y : List TagSaid) → cond (cond a b false) x y ≡ y
    neither true b e x y = rw e refl
    neither false b e x y = refl

    pub last-other : (x : List TagSaid) (c : Trees TagSaid) (n : ℕ) → RowsHave NoSeries c → counts n ≡ false → last_in x c n ≡ x
    unfolding RowsHave parts_of last_of series_at
    last-other x none n h e = refl
    last-other x (element r s i a) n h e =
        last-element x r s i a n
        ∙ rw h.0
        (ap (λ (y : List TagSaid). last_in (last_in y i n) a (counts_of rows i n)) (neither (eqb r q) (counts n) e (s ∷ []) x)
        ∙ ap (λ (y : List TagSaid). last_in y a (counts_of rows i n)) (last-other x i n h.1 e)
        ∙ ap (last_in x a) (counts-plain i n h.1)
        ∙ last-other x a n h.2 e)

-- ---- single values, from row s up to row e, which has none

module _ (d : Draft) (rows : List ℕ) (s e : ℕ) (stop : asks_v (get_or rows e 0) ≡ false) (low : e < length rows)
    (ones : (r : ℕ) → s ≤ r → r < e → Single rows r) where
  -- a row up to e that has a `v` is before it
  pub before : (r w : ℕ) → get_or rows r 0 ≡ w → asks_v w ≡ true → r ≤ e → r < e
  before r w t y l =
      ⊎_elim
      (λ (z : (r < e) × (ltb r e ≡ true)). z.0)
      (λ (z : (e ≤ r) × (ltb r e ≡ false)). let same : r ≡ e = omega (arith, z.0, l) in never (sym stop ∙ rw (← same, t) y))
      (ltb-cases r e)

  pub singles-have : (P : ℕ → Type 0) → ((r : ℕ) → s ≤ r → r < e → P r) → (behind : Trees TagSaid) → RowsHave P behind
      → (ws : List ℕ) (r k : ℕ) → ws ≡ drop r rows → s ≤ r → r ≤ e → RowsHave P (singles d r k ws behind)
  unfolding singles RowsHave
  singles-have P h behind b [] r k t l u = b
  singles-have P h behind b (w ∷ ws) r k t l u =
      by (asks_v w) (is_said (single_tag d w k)) refl refl
      (λ (y : asks_v w ≡ true). let z = before r w there.0 y u in singles-have P h behind b ws (suc r) (k + values_of w) there.1 (omega (arith, l)) (omega (arith, z)))
    where
      there : (get_or rows r 0 ≡ w) × (ws ≡ drop (suc r) rows)
      there = row-there rows r w ws t

      rest : Trees TagSaid
      rest = singles d (suc r) (k + values_of w) ws behind

      by : (x y : Bool) → asks_v w ≡ x → is_said (single_tag d w k) ≡ y → (asks_v w ≡ true → RowsHave P rest)
          → RowsHave P (cond (asks_v w) (cond (is_said (single_tag d w k)) (element r (single_tag d w k) none rest) rest) behind)
      by false y f g ih = rw f b
      by true false f g ih = rw (f, g) (ih f)
      by true true f g ih = rw (f, g) (h r l (before r w there.0 f u), tt, ih f)

  -- ---- the last of them in a row

  module _ (q m : ℕ) (behind : Trees TagSaid) where
    abbrev tag_at : ℕ → TagSaid
    tag_at k = single_tag d (get_or rows q 0) k

    -- a row that is not among them
    pub singles-miss : (x : List TagSaid) (n : ℕ) (ws : List ℕ) (r k : ℕ) → ws ≡ drop r rows → s ≤ r → r ≤ e → ((j : ℕ) → r ≤ j → j < e → eqb j q ≡ false)
        → last_in rows q m x (singles d r k ws behind) n ≡ last_in rows q m x behind n
    unfolding singles
    singles-miss x n [] r k t l u h = refl
    singles-miss x n (w ∷ ws) r k t l u h =
        by (asks_v w) (is_said (single_tag d w k)) refl refl
        (λ (y : asks_v w ≡ true).
        let z = before r w there.0 y u in
        singles-miss x n ws (suc r) (k + values_of w) there.1 (omega (arith, l)) (omega (arith, z)) (λ j a b. h j (omega (arith, a)) b))
      where
        there : (get_or rows r 0 ≡ w) × (ws ≡ drop (suc r) rows)
        there = row-there rows r w ws t

        rest : Trees TagSaid
        rest = singles d (suc r) (k + values_of w) ws behind

        by : (y z : Bool) → asks_v w ≡ y → is_said (single_tag d w k) ≡ z → (asks_v w ≡ true → last_in rows q m x rest n ≡ last_in rows q m x behind n)
            → last_in rows q m x (cond (asks_v w) (cond (is_said (single_tag d w k)) (element r (single_tag d w k) none rest) rest) behind) n ≡ last_in rows q m x behind n
        by false z f g ih = rw f refl
        by true false f g ih = rw (f, g) (ih f)
        by true true f g ih =
            let b = before r w there.0 f u in
            rw (f, g) (last-single rows q m x r (single_tag d w k) rest n (ones r l b).no-series ∙ rw (h r (omega arith) b) (ih f))

    -- row q is among them, z pairs after its first
    pub singles-hit : (z : ℕ) (x : List TagSaid) (n : ℕ) → counts rows q m n ≡ true → q < e → (ws : List ℕ) (r k : ℕ) → ws ≡ drop r rows → s ≤ r → r ≤ q → k ≡ first_pair rows r + z
        → last_in rows q m x (singles d r k ws behind) n
        ≡ last_in rows q m (cond (is_said (tag_at (first_pair rows q + z))) (tag_at (first_pair rows q + z) ∷ []) x) behind n
    unfolding singles
    singles-hit z x n c u [] r k t l a p = absurd (let y = ap length t in let v = length-drop r rows in omega (arith, y, v, u, a, low))
    singles-hit z x n c u (w ∷ ws) r k t l a p =
        ⊎_elim
        (λ (y : (r ≡ q) × (eqb r q ≡ true)).
        at_row (is_said (single_tag d w k)) refl y.0 y.1
        (λ (v : List TagSaid). singles-miss v n ws (suc r) (k + values_of w) there.1 (omega (arith, l)) (omega (arith, u, a)) (λ j b f. ne_eqb j q (λ g. let o = y.0 in omega (arith, b, g, o)))))
        (λ (y : (r ≡ q → ⊥) × (eqb r q ≡ false)).
        at_other (is_said (single_tag d w k)) refl y.1 (singles-hit z x n c u ws (suc r) (k + values_of w) there.1 (omega (arith, l)) (less y.0) next))
        (eqb-cases r q)
      where
        there : (get_or rows r 0 ≡ w) × (ws ≡ drop (suc r) rows)
        there = row-there rows r w ws t

        rest : Trees TagSaid
        rest = singles d (suc r) (k + values_of w) ws behind

        here : Single rows r
        here = ones r l (omega (arith, u, a))

        asks : asks_v w ≡ true
        asks = ap asks_v (sym there.0) ∙ here.asks

        less : (r ≡ q → ⊥) → suc r ≤ q
        less o = ⊎_elim (λ (y : (r < q) × (ltb r q ≡ true)). y.0) (λ (y : (q ≤ r) × (ltb r q ≡ false)). absurd (o (omega (arith, y.0, a)))) (ltb-cases r q)

        next : k + values_of w ≡ first_pair rows (suc r) + z
        next =
            let f = first_next rows r (omega (arith, u, a, low)) here.no-series in
            let g = ap values_of there.0 in
            omega (arith, f, g, p)

        found : List TagSaid
        found = cond (is_said (tag_at (first_pair rows q + z))) (tag_at (first_pair rows q + z) ∷ []) x

        same_tag : r ≡ q → tag_at (first_pair rows q + z) ≡ single_tag d w k
        same_tag o = rw (← o, there.0, p) refl

        at_row : (b : Bool) → is_said (single_tag d w k) ≡ b → r ≡ q → eqb r q ≡ true → ((v : List TagSaid) → last_in rows q m v rest n ≡ last_in rows q m v behind n)
            → last_in rows q m x (cond (asks_v w) (cond (is_said (single_tag d w k)) (element r (single_tag d w k) none rest) rest) behind) n ≡ last_in rows q m found behind n
        at_row true g o y ih = rw (asks, same_tag o, g) (last-single rows q m x r (single_tag d w k) rest n here.no-series ∙ rw (y, c) (ih (single_tag d w k ∷ [])))
        at_row false g o y ih = rw (asks, same_tag o, g) (ih x)

        at_other : (b : Bool) → is_said (single_tag d w k) ≡ b → eqb r q ≡ false → last_in rows q m x rest n ≡ last_in rows q m found behind n
            → last_in rows q m x (cond (asks_v w) (cond (is_said (single_tag d w k)) (element r (single_tag d w k) none rest) rest) behind) n ≡ last_in rows q m found behind n
        at_other true g y ih = rw (asks, g) (last-single rows q m x r (single_tag d w k) rest n here.no-series ∙ rw y ih)
        at_other false g y ih = rw (asks, g) ih
