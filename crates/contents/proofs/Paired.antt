-- In a conforming content each Interval holds one Pos and one Qty, and there is none outside an Interval: so what Interval j says is in row j of the tables.
-- Assumes nothing.
use Prim.Native.Nat.{ℕ, zero, suc, ◌+◌, ◌<◌}
use mathlib.Core.Path.{◌≡◌, refl, sym, ap, ◌∙◌}
use mathlib.Core.List.{List, [], ◌∷◌, ◌++◌, map, map-append}
use mathlib.Core.Logic.{⊎_elim}
use native.Mathlib.Omega.{arith}
use lib.Dec.{eqb}
use lib.IntN.{pos}
use lib.ListN.{length, get_or, length-append}
use borrow.Author.Tests.{ne_eqb}
use Rattle.lists.proofs.Cases.{eqb-cases}
use Rattle.columns.specs.Columns.{role_of}
use Rattle.guideline.specs.Rows.{rows_of}
use Rattle.reader.specs.Answer.{Outcome}
use Rattle.trees.specs.Trees.{Trees, none, element, rows_taken, Stand, EachConforms}
use Rattle.contents.specs.Said.{TagSaid}
use Rattle.contents.specs.Legal.{has_role, those, in_each, position_of, Legal}
use Rattle.contents.specs.Shown.{amount_in, each_interval, IntervalShown, Tells}
use Rattle.contents.proofs.Laid.{Layout, laid}
use Rattle.contents.proofs.Elements.{those-of, in-of}
use Rattle.contents.proofs.Shape.{in-interval-row, holds-two}

-- a Pos and a Qty
pub record Two : Type 0 where
  pub pos : TagSaid
  pub qty : TagSaid

module _ (rows : List ℕ) (p : ℕ) (L : Layout rows p) where
  -- as they stand in an Interval
  abbrev holding : Two → Trees TagSaid
  holding e = element (p + 4) e.pos none (element (p + 5) e.qty none none)

  -- the Intervals of a content, by what they hold
  record Paired (c : Trees TagSaid) : Type 0 where
    pub each : List Two
    pub many : length (those (has_role 4) rows c) ≡ length each
    pub intervals : in_each (has_role 4) rows c ≡ map holding each
    pub positions : those (has_role 9) rows c ≡ map (λ (e : Two). e.pos) each
    pub amounts : those (has_role 10) rows c ≡ map (λ (e : Two). e.qty) each

  held-pos : (e : Two) → those (has_role 9) rows (holding e) ≡ e.pos ∷ []
  unfolding those
  held-pos e = simp (L.pos, L.qty) refl

  held-qty : (e : Two) → those (has_role 10) rows (holding e) ≡ e.qty ∷ []
  unfolding those
  held-qty e = simp (L.pos, L.qty) refl

  held_none : (e : Two) → (those (has_role 4) rows (holding e) ≡ []) × (in_each (has_role 4) rows (holding e) ≡ [])
  unfolding those in_each
  held_none e = (simp (L.pos, L.qty) refl, simp (L.pos, L.qty) refl)

  interval-paired : (q : ℕ) (x : TagSaid) (inner after : Trees TagSaid) (e : Two) → role_of (get_or rows q 0) ≡ 4 → inner ≡ holding e → Paired after
      → Paired (element q x inner after)
  interval-paired q x inner after e r f a =
      let m = a.many in
      record {
        each = e ∷ a.each;
        many = ap length (those-of rows (has_role 4) q x inner after (ap (λ (n : ℕ). eqb n 4) r) (ap (those (has_role 4) rows) f ∙ (held_none e).0)) ∙ ap suc m;
        intervals =
            in-of rows (has_role 4) q x inner after (ap (λ (n : ℕ). eqb n 4) r) (ap (in_each (has_role 4) rows) f ∙ (held_none e).1)
            ∙ rw (f, a.intervals) refl;
        positions =
            those-of rows (has_role 9) q x inner after (ap (λ (n : ℕ). eqb n 9) r) (ap (those (has_role 9) rows) f ∙ held-pos e) ∙ ap (λ (l : List TagSaid). e.pos ∷ l) a.positions;
        amounts =
            those-of rows (has_role 10) q x inner after (ap (λ (n : ℕ). eqb n 10) r) (ap (those (has_role 10) rows) f ∙ held-qty e) ∙ ap (λ (l : List TagSaid). e.qty ∷ l) a.amounts;
      }

  paired : (c : Trees TagSaid) (h : ℕ) → (h ≡ p + 3 → ⊥) → Stand rows h (rows_taken c) → EachConforms rows c → Paired c
  unfolding those in_each Stand rows_taken EachConforms
  paired none h n s each = record { each = []; many = refl; intervals = refl; positions = refl; amounts = refl }
  paired (element q x inner after) h n s each =
      let w = get_or rows q 0 in
      let a = paired after h n s.2 each.2 in
      ⊎_elim
      (λ (y : (q ≡ p + 3) × _).
      let t = holds-two rows p L inner (rw y.0 at each.0) each.1 in
      interval-paired q x inner after (record { pos = t.0; qty = t.1 }) (rw y.0 L.interval) t.2 a)
      (λ (y : (q ≡ p + 3 → ⊥) × _).
      let b = paired inner q y.0 each.0.stand each.1 in
      let within : p + 3 < q → ⊥ = λ g. n (sym s.1 ∙ in-interval-row rows p L q g s.0) in
      let o₄ = ne_eqb (role_of w) 4 (λ r. y.0 (L.only-interval q s.0 r)) in
      let o₉ = ne_eqb (role_of w) 9 (λ r. let f = L.only-pos q s.0 r in within (omega (arith, f))) in
      let o₁₀ = ne_eqb (role_of w) 10 (λ r. let f = L.only-qty q s.0 r in within (omega (arith, f))) in
      record {
        each = b.each ++ a.each;
        many =
            let m = a.many in
            let k = b.many in
            rw (o₄, length-append (those (has_role 4) rows inner) (those (has_role 4) rows after), length-append b.each a.each) (omega (arith, m, k));
        intervals = rw (o₄, b.intervals, a.intervals) (sym (map-append holding b.each a.each));
        positions = rw (o₉, b.positions, a.positions) (sym (map-append (λ (e : Two). e.pos) b.each a.each));
        amounts = rw (o₁₀, b.amounts, a.amounts) (sym (map-append (λ (e : Two). e.qty) b.each a.each));
      })
      (eqb-cases q (p + 3))

  -- at one index stand what the Interval holds, its Pos and its Qty
  record At (l : List Two) (j : ℕ) : Type 0 where
    pub held : Two
    pub interval : get_or (map holding l) j none ≡ holding held
    pub position : get_or (map position_of (map (λ (e : Two). e.pos) l)) j 0 ≡ position_of held.pos
    pub amount : get_or (map amount_in (map (λ (e : Two). e.qty) l)) j (pos 0) ≡ amount_in held.qty

  at : (l : List Two) (j : ℕ) → j < length l → At l j
  at [] j h = absurd (omega arith)
  at (e ∷ l) zero h = record { held = e; interval = refl; position = refl; amount = refl }
  at (e ∷ l) (suc j) h = let a = at l j (omega arith) in record { held = a.held; interval = a.interval; position = a.position; amount = a.amount }

-- row j has the Pos and the Qty of Interval j
pub interval-shown : (doc : List ℕ) (o : Outcome) (kind : ℕ) (c : Trees TagSaid) → Legal kind c → Tells doc o kind c → (j : ℕ) → j < o.answer.intervals
    → IntervalShown o.tables (rows_of kind) j (get_or (each_interval (rows_of kind) c) j none)
unfolding each_interval
interval-shown doc o kind c legal t j h =
    let l = laid kind legal.known in
    let rows = rows_of kind in
    let p = l.period in
    let L = l.layout in
    let u = legal.conforms in
    let b = paired rows p L c 0 (λ e. omega (arith, e)) u.fits.stand u.each in
    let m = b.many in
    let i = t.intervals in
    let a = at rows p L b.each j (omega (arith, h, m, i)) in
    let v = ap (λ (x : List (Trees TagSaid)). get_or x j none) b.intervals ∙ a.interval in
    record {
      its-pos = a.held.pos;
      its-qty = a.held.qty;
      one-pos = ap (those (has_role 9) rows) v ∙ held-pos rows p L a.held;
      one-qty = ap (those (has_role 10) rows) v ∙ held-qty rows p L a.held;
      position = t.tables.positions j ∙ ap (λ (x : List TagSaid). get_or (map position_of x) j 0) b.positions ∙ a.position;
      amount = t.tables.amounts j ∙ ap (λ (x : List TagSaid). get_or (map amount_in x) j (pos 0)) b.amounts ∙ a.amount;
    }
