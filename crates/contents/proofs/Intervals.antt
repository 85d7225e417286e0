-- What the elements of a conforming content put into the positions and the amounts: those of their intervals, one after the other.
-- Assumes nothing.
use Prim.Native.Nat.{ℕ, ◌+◌, ◌-◌, ◌<◌}
use mathlib.Core.Path.{◌≡◌, refl, sym, ap, ◌∙◌}
use mathlib.Core.List.{List, [], ◌++◌, map, append_assoc}
use mathlib.Core.Bool.{Bool, true, false}
use mathlib.Core.Logic.{⊎_elim}
use native.Mathlib.Omega.{arith}
use lib.Dec.{eqb}
use lib.IntN.{ℤ}
use lib.ListN.{length, get_or, set, length-append}
use lib.Seq.{sets}
use borrow.Author.Tests.{ne_eqb, eqb-false}
use Rattle.items.specs.Parts.{span_of}
use Rattle.lists.proofs.Cases.{eqb-cases}
use Rattle.characters.specs.Says.{says}
use Rattle.trims.specs.Trim.{dropped}
use Rattle.slices.specs.declared.Span.{Span}
use Rattle.numbers.specs.Amount.{amount_of}
use Rattle.structure.specs.Rows.{parent_of}
use Rattle.columns.specs.Columns.{role_of}
use Rattle.states.specs.Attributes.{there}
use Rattle.states.specs.Moves.{entry_of}
use Rattle.states.specs.declared.State.{State}
use Rattle.reader.specs.Items.{Placed}
use Rattle.reader.specs.Rows.{brought_by, quoted, thousandths_of, positions_with, amounts_with, positions_after, amounts_after}
use Rattle.reader.specs.Reading.{Tables, tables_after}
use Rattle.trees.specs.Trees.{Trees, none, element, rows_taken, Stand, Fits, EachConforms}
use Rattle.lists.proofs.Stores.{sets_more}
use Rattle.contents.specs.Said.{TagSaid}
use Rattle.contents.specs.Legal.{has_role, those, position_of}
use Rattle.contents.specs.Shown.{amount_in}
use Rattle.contents.proofs.Laid.{Layout, Valued}
use Rattle.contents.proofs.Elements.{own, those-parts, mapped-parts}
use Rattle.contents.proofs.Shape.{in-interval-row, holds-two}
use Rattle.contents.proofs.Walk.{Tally, opened, walked}
use Rattle.contents.proofs.Fill.{said_of, saying, state_of, tables_with, filled}
use Rattle.contents.proofs.Values.{said-bytes, HasValues}
use Rattle.contents.proofs.Roles.{by-entry}

-- between two places of the walk these intervals start, and these positions and amounts are put, from the next interval's row on
pub record Puts (y : Tally) (t : Tables) (y' : Tally) (t' : Tables) (starts : List TagSaid) (ps : List ℕ) (ams : List ℤ) : Type 0 where
  pub intervals : y'.intervals ≡ y.intervals + length starts
  pub positions-many : length ps ≡ length starts
  pub amounts-many : length ams ≡ length starts
  pub positions : t'.positions ≡ sets t.positions y.intervals ps
  pub amounts : t'.amounts ≡ sets t.amounts y.intervals ams

puts-on : {y y₁ y₂ : Tally} {t t₁ t₂ : Tables} {starts starts₁ : List TagSaid} {ps ps₁ : List ℕ} {ams ams₁ : List ℤ}
    → Puts y t y₁ t₁ starts ps ams → Puts y₁ t₁ y₂ t₂ starts₁ ps₁ ams₁ → Puts y t y₂ t₂ (starts ++ starts₁) (ps ++ ps₁) (ams ++ ams₁)
puts-on {y} {y₁} {y₂} {t} {t₁} {t₂} {starts} {starts₁} {ps} {ps₁} {ams} {ams₁} f g =
    let a = f.intervals in
    let b = g.intervals in
    let c = f.positions-many in
    let d = f.amounts-many in
    let e = g.positions-many in
    let h = g.amounts-many in
    let k : y₁.intervals ≡ y.intervals + length ps = omega (arith, a, c) in
    let m : y₁.intervals ≡ y.intervals + length ams = omega (arith, a, d) in
    record {
      intervals = rw (length-append starts starts₁) (omega (arith, a, b));
      positions-many = rw (length-append starts starts₁, length-append ps ps₁) (omega (arith, c, e));
      amounts-many = rw (length-append starts starts₁, length-append ams ams₁) (omega (arith, d, h));
      positions =
          g.positions ∙ ap (λ (l : List ℕ). sets l y₁.intervals ps₁) f.positions
          ∙ ap (λ (n : ℕ). sets (sets t.positions y.intervals ps) n ps₁) k
          ∙ sym (sets_more ps t.positions y.intervals ps₁);
      amounts =
          g.amounts ∙ ap (λ (l : List ℤ). sets l y₁.intervals ams₁) f.amounts
          ∙ ap (λ (n : ℕ). sets (sets t.amounts y.intervals ams) n ams₁) m
          ∙ sym (sets_more ams t.amounts y.intervals ams₁);
    }

puts_none : {y y' : Tally} {t t' : Tables} → y'.intervals ≡ y.intervals → t'.positions ≡ t.positions → t'.amounts ≡ t.amounts → Puts y t y' t' [] [] []
puts_none e f g = record { intervals = omega (arith, e); positions-many = refl; amounts-many = refl; positions = f; amounts = g }

puts-lists : {y y' : Tally} {t t' : Tables} {starts starts₁ : List TagSaid} {ps ps₁ : List ℕ} {ams ams₁ : List ℤ}
    → starts ≡ starts₁ → ps ≡ ps₁ → ams ≡ ams₁ → Puts y t y' t' starts ps ams → Puts y t y' t' starts₁ ps₁ ams₁
puts-lists e f g k = rw (e, f, g) at k

-- ---- a row that is no interval, Pos or Qty

positions-kept : (r n : ℕ) (st : State) (l : List ℕ) → eqb r 9 ≡ false → positions_after st (entry_of r n) l ≡ l
unfolding positions_after positions_with brought_by
positions-kept r n st l k =
    by-entry (λ e. positions_after st e l ≡ l) r n refl (λ e. refl) (λ e. refl) (λ e. refl) (λ e. refl) (λ e. refl) (λ e. absurd (eqb-false r 9 k e)) (λ e. refl)
    (λ e. refl) (λ e. refl)

amounts-kept : (r n : ℕ) (v : Span) (s : List ℕ) (st : State) (l : List ℤ) → eqb r 10 ≡ false → amounts_after v s st (entry_of r n) l ≡ l
unfolding amounts_after amounts_with brought_by
amounts-kept r n v s st l k =
    by-entry (λ e. amounts_after v s st e l ≡ l) r n refl (λ e. refl) (λ e. refl) (λ e. refl) (λ e. refl) (λ e. refl) (λ e. refl) (λ e. absurd (eqb-false r 10 k e))
    (λ e. refl) (λ e. refl)

module _ (kind : ℕ) (rows : List ℕ) (p : ℕ) (L : Layout rows p) (W : Valued rows) where
  step-puts : (q : ℕ) (x : Placed) (y : Tally) (t : Tables) → eqb (role_of (get_or rows q 0)) 4 ≡ false → eqb (role_of (get_or rows q 0)) 9 ≡ false
      → eqb (role_of (get_or rows q 0)) 10 ≡ false → Puts y t (opened (get_or rows q 0) (said_of x) y) (tables_with kind rows q x (opened (get_or rows q 0) (said_of x) y) t) [] [] []
  unfolding tables_after
  step-puts q x y t a b c =
      let w = get_or rows q 0 in
      let st = state_of kind q true (opened w (said_of x) y) in
      puts_none (rw a) (positions-kept (role_of w) (position_of (said_of x)) st t.positions b)
      (amounts-kept (role_of w) (position_of (said_of x)) (span_of x.item) x.rest st t.amounts c)

  -- ---- an interval

  abbrev two : Placed → Placed → Trees Placed
  two a b = element (p + 4) a none (element (p + 5) b none none)

  amount-said : (x : Placed) → there (span_of x.item) ≡ true → thousandths_of (amount_of (dropped (says (quoted (span_of x.item) x.rest)))) ≡ amount_in (said_of x)
  unfolding amount_in
  amount-said x g = rw (said-bytes x g)

  interval-made : (x a b : Placed) (y : Tally) (t : Tables) → there (span_of b.item) ≡ true
      → Puts y t (walked rows (saying (two a b)) (opened (get_or rows (p + 3) 0) (said_of x) y))
      (filled kind rows (two a b) (opened (get_or rows (p + 3) 0) (said_of x) y) (tables_with kind rows (p + 3) x (opened (get_or rows (p + 3) 0) (said_of x) y) t))
      (own (has_role 4 (get_or rows (p + 3) 0)) (said_of x) ++ those (has_role 4) rows (saying (two a b)))
      (map position_of (own (has_role 9 (get_or rows (p + 3) 0)) (said_of x)) ++ map position_of (those (has_role 9) rows (saying (two a b))))
      (map amount_in (own (has_role 10 (get_or rows (p + 3) 0)) (said_of x)) ++ map amount_in (those (has_role 10) rows (saying (two a b))))
  unfolding walked filled saying those tables_after entry_of positions_after positions_with amounts_after amounts_with brought_by state_of
  interval-made x a b y t g =
      let e : y.intervals + 1 - 1 ≡ y.intervals = omega arith in
      simp (L.interval, L.pos, L.qty)
      (record {
        intervals = refl;
        positions-many = refl;
        amounts-many = refl;
        positions = ap (λ (n : ℕ). set t.positions n (position_of (said_of a))) e;
        amounts =
            ap (λ (n : ℕ). set t.amounts n (thousandths_of (amount_of (dropped (says (quoted (span_of b.item) b.rest)))))) e
            ∙ ap (set t.amounts y.intervals) (amount-said b g);
      })

  interval-puts : (q : ℕ) (x : Placed) (inner : Trees Placed) (y : Tally) (t : Tables) → q ≡ p + 3 → Fits rows q (rows_taken inner) → EachConforms rows inner
      → HasValues rows inner
      → Puts y t (walked rows (saying inner) (opened (get_or rows q 0) (said_of x) y))
      (filled kind rows inner (opened (get_or rows q 0) (said_of x) y) (tables_with kind rows q x (opened (get_or rows q 0) (said_of x) y) t))
      (own (has_role 4 (get_or rows q 0)) (said_of x) ++ those (has_role 4) rows (saying inner))
      (map position_of (own (has_role 9 (get_or rows q 0)) (said_of x)) ++ map position_of (those (has_role 9) rows (saying inner)))
      (map amount_in (own (has_role 10 (get_or rows q 0)) (said_of x)) ++ map amount_in (those (has_role 10) rows (saying inner)))
  unfolding HasValues
  interval-puts q x inner y t e f c g =
      let h = holds-two rows p L inner (rw e at f) c in
      let k : HasValues rows (two h.0 h.1) = rw h.2 at g in
      let s = L.size in
      let r = L.qty in
      let v = k.2.0 (W (p + 5) (omega (arith, s)) (omega (arith, r))) in
      rw (e, h.2) (interval-made x h.0 h.1 y t v)

  -- ---- any other element

  other-puts : (h q : ℕ) (x : Placed) (inner : Trees Placed) (y : Tally) (t : Tables) → h < length rows → (h ≡ p + 3 → ⊥) → q < length rows
      → parent_of (get_or rows q 0) ≡ h → (q ≡ p + 3 → ⊥)
      → Puts (opened (get_or rows q 0) (said_of x) y) (tables_with kind rows q x (opened (get_or rows q 0) (said_of x) y) t)
      (walked rows (saying inner) (opened (get_or rows q 0) (said_of x) y))
      (filled kind rows inner (opened (get_or rows q 0) (said_of x) y) (tables_with kind rows q x (opened (get_or rows q 0) (said_of x) y) t))
      (those (has_role 4) rows (saying inner)) (map position_of (those (has_role 9) rows (saying inner))) (map amount_in (those (has_role 10) rows (saying inner)))
      → Puts y t (walked rows (saying inner) (opened (get_or rows q 0) (said_of x) y))
      (filled kind rows inner (opened (get_or rows q 0) (said_of x) y) (tables_with kind rows q x (opened (get_or rows q 0) (said_of x) y) t))
      (own (has_role 4 (get_or rows q 0)) (said_of x) ++ those (has_role 4) rows (saying inner))
      (map position_of (own (has_role 9 (get_or rows q 0)) (said_of x)) ++ map position_of (those (has_role 9) rows (saying inner)))
      (map amount_in (own (has_role 10 (get_or rows q 0)) (said_of x)) ++ map amount_in (those (has_role 10) rows (saying inner)))
  other-puts h q x inner y t l n m e d k =
      let w = get_or rows q 0 in
      let within : p + 3 < q → ⊥ = λ g. n (sym e ∙ in-interval-row rows p L q g m) in
      let a : eqb (role_of w) 4 ≡ false = ne_eqb (role_of w) 4 (λ r. d (L.only-interval q m r)) in
      let b : eqb (role_of w) 9 ≡ false = ne_eqb (role_of w) 9 (λ r. let f = L.only-pos q m r in within (omega (arith, f))) in
      let c : eqb (role_of w) 10 ≡ false = ne_eqb (role_of w) 10 (λ r. let f = L.only-qty q m r in within (omega (arith, f))) in
      puts-lists
      (ap (λ (u : Bool). own u (said_of x) ++ those (has_role 4) rows (saying inner)) (sym a))
      (ap (λ (u : Bool). map position_of (own u (said_of x)) ++ map position_of (those (has_role 9) rows (saying inner))) (sym b))
      (ap (λ (u : Bool). map amount_in (own u (said_of x)) ++ map amount_in (those (has_role 10) rows (saying inner))) (sym c))
      (puts-on (step-puts q x y t a b c) k)

  pub puts : (kids : Trees Placed) (h : ℕ) (y : Tally) (t : Tables) → h < length rows → (h ≡ p + 3 → ⊥) → Stand rows h (rows_taken kids)
      → EachConforms rows kids → HasValues rows kids
      → Puts y t (walked rows (saying kids) y) (filled kind rows kids y t) (those (has_role 4) rows (saying kids))
      (map position_of (those (has_role 9) rows (saying kids))) (map amount_in (those (has_role 10) rows (saying kids)))
  unfolding walked filled saying rows_taken Stand EachConforms HasValues those
  puts none h y t l n s c g = puts_none refl refl refl
  puts (element q x inner after) h y t l n s c g =
      let w = get_or rows q 0 in
      let a = saying inner in
      let b = saying after in
      puts-lists
      (append_assoc (own (has_role 4 w) (said_of x)) (those (has_role 4) rows a) (those (has_role 4) rows b) ∙ sym (those-parts rows (has_role 4) q (said_of x) a b))
      (append_assoc (map position_of (own (has_role 9 w) (said_of x))) (map position_of (those (has_role 9) rows a)) (map position_of (those (has_role 9) rows b))
      ∙ sym (mapped-parts rows position_of (has_role 9) q (said_of x) a b))
      (append_assoc (map amount_in (own (has_role 10 w) (said_of x))) (map amount_in (those (has_role 10) rows a)) (map amount_in (those (has_role 10) rows b))
      ∙ sym (mapped-parts rows amount_in (has_role 10) q (said_of x) a b))
      (puts-on
      (⊎_elim
      (λ d. interval-puts q x inner y t d.0 c.0 c.1 g.1)
      (λ d.
      other-puts h q x inner y t l n s.0 s.1 d.0
      (puts inner q (opened w (said_of x) y) (tables_with kind rows q x (opened w (said_of x) y) t) s.0 d.0 c.0.stand c.1 g.1))
      (eqb-cases q (p + 3)))
      (puts after h (walked rows a (opened w (said_of x) y)) (filled kind rows inner (opened w (said_of x) y) (tables_with kind rows q x (opened w (said_of x) y) t)) l n s.2 c.2 g.2))
