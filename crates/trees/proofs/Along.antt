-- The cursor beside a tree: `Along` says of elements side by side what the cursor asks of them, one after the other, and that is the
-- same as to conform. Here are the steps; what they come to is in Theorems.
-- Assumes nothing.
use mathlib.Core.Path.{◌≡◌, refl, sym, ap, subst, ◌∙◌}
use mathlib.Core.Bool.{Bool, true, false, cond}
use mathlib.Core.List.{List, [], ◌∷◌, ◌++◌, append_assoc}
use mathlib.Core.Logic.{inl, inr, ⊎_elim}
use Prim.Native.Nat.{ℕ, ◌≤◌, ◌<◌}
use native.Mathlib.Omega.{arith}
use lib.Dec.{ltb}
use lib.ListN.{length, get_or}
use borrow.Author.Tests.{eq-eqb, eqb-true}
use Rattle.std.specs.Prelude.{Option, Some, None}
use Rattle.lists.proofs.Cases.{bool_cases, eqb-cases, ltb-cases, zero-not-one}
use Rattle.structure.specs.Rows.{start_of, end_of, over_of, closes_document, parent_of, name_of, required}
use Rattle.structure.specs.Means.{NextIn, StartDue, EndDue}
use Rattle.structure.proofs.Means.{start-made, end-means, end-made}
use Rattle.trees.specs.Trees.{Sign, Opens, Closes, Trees, none, element, rows_taken, spell, Stand, ComesAfter, InOrder, Among}
use Rattle.trees.specs.Trees.{Fits, EachConforms, Conforms}
use Rattle.trees.specs.Cursor.{on_row, follows, row_after, open_after, Place, visited, places_of}
use Rattle.trees.proofs.Made.{Made, always-apart, child-after}

-- the row of the element that is open
abbrev pub enclosing : List ℕ → ℕ → Bool → ℕ
enclosing t r o = cond o r (parent_of (get_or t r 0))

-- each start tag is due where the cursor is, and at the end nothing that has to come is missing
abbrev pub Along : {A : Type 0} → List ℕ → ℕ → Bool → Trees A → Type 0
Along t r o none = (j : ℕ) → r < j → j < length t → parent_of (get_or t j 0) ≡ enclosing t r o → required (get_or t j 0) ≡ false
Along t r o (element q tag inner after) = StartDue t r o (name_of (get_or t q 0)) q × Along t q true inner × Along t q false after

on-row : (d : Option ℕ) (go : ℕ → Bool) → on_row d go ≡ true → (q : ℕ) × (d ≡ Some q) × (go q ≡ true)
unfolding on_row
on-row (Some q) go e = (q, refl, e)
on-row None go e = absurd (zero-not-one (cc))

closes-row : (d : Option ℕ) → closes_document d ≡ true → d ≡ Some 0
unfolding closes_document
closes-row (Some p) e = ap Some (eqb-true p 0 e)
closes-row None e = absurd (zero-not-one (cc))

-- ---- the cursor's steps, and how they are spelled

module _ (A : Type 0) (t : List ℕ) where
  pub opens-on : (r : ℕ) (o : Bool) (tag : A) (x q : ℕ) (s : List (Sign A)) → start_of t r o x ≡ Some q → follows t r o (Opens tag x ∷ s) ≡ follows t q true s
  unfolding follows on_row
  opens-on r o tag x q s e = ap (λ (d : Option ℕ). on_row d (λ p. follows t p true s)) e

  pub closes-on : (r : ℕ) (o : Bool) (x q : ℕ) (s : List (Sign A)) → end_of t r o x ≡ Some q → follows t r o (Closes x ∷ s) ≡ follows t q false s
  unfolding follows on_row
  closes-on r o x q s e = ap (λ (d : Option ℕ). on_row d (λ p. follows t p false s)) e

  pub opened : (r : ℕ) (o : Bool) (tag : A) (x : ℕ) (s : List (Sign A)) → follows t r o (Opens tag x ∷ s) ≡ true
      → (q : ℕ) × (start_of t r o x ≡ Some q) × (follows t q true s ≡ true)
  unfolding follows
  opened r o tag x s e = on-row (start_of t r o x) (λ p. follows t p true s) e

  pub closed : (r : ℕ) (o : Bool) (x : ℕ) (s : List (Sign A)) → follows t r o (Closes x ∷ s) ≡ true
      → (q : ℕ) × (end_of t r o x ≡ Some q) × (follows t q false s ≡ true)
  unfolding follows
  closed r o x s e = on-row (end_of t r o x) (λ p. follows t p false s) e

  pub over-means : (r : ℕ) (o : Bool) → follows {A = A} t r o [] ≡ true → EndDue t r o 255 0
  unfolding follows over_of
  over-means r o e = end-means t r 255 0 o (closes-row (end_of t r o 255) e)

  pub over-made : (r : ℕ) (o : Bool) → end_of t r o 255 ≡ Some 0 → follows {A = A} t r o [] ≡ true
  unfolding follows over_of closes_document
  over-made r o e = ap closes_document e ∙ eq-eqb 0 0 refl

  pub spell-on : (q : ℕ) (tag : A) (inner after : Trees A) (rest : List (Sign A))
      → spell t (element q tag inner after) ++ rest
      ≡ Opens tag (name_of (get_or t q 0)) ∷ (spell t inner ++ (Closes (name_of (get_or t q 0)) ∷ (spell t after ++ rest)))
  unfolding spell
  spell-on q tag inner after rest =
      let x = name_of (get_or t q 0) in
      ap (λ (l : List (Sign A)). Opens tag x ∷ l) (append_assoc (spell t inner) (Closes x ∷ spell t after) rest)

module _ (t : List ℕ) where
  -- ---- what is told by a start tag that is due

  pub due-within : (r : ℕ) (o : Bool) (x q : ℕ) → StartDue t r o x q → q < length t
  due-within r true x q d = d.1.within
  due-within r false x q d = ⊎_elim (λ g. rw g.itself d.0) (λ g. g.1.within) d.1

  pub due-stands : (r : ℕ) (o : Bool) (x q : ℕ) → StartDue t r o x q → parent_of (get_or t q 0) ≡ enclosing t r o
  due-stands r true x q d = d.1.stands
  due-stands r false x q d = ⊎_elim (λ g. ap (λ (i : ℕ). parent_of (get_or t i 0)) g.itself) (λ g. g.1.stands) d.1

  pub due-named : (r : ℕ) (o : Bool) (x q : ℕ) → StartDue t r o x q → name_of (get_or t q 0) ≡ x
  due-named r true x q d = d.1.named
  due-named r false x q d =
      ⊎_elim (λ g. ap (λ (i : ℕ). name_of (get_or t i 0)) g.itself ∙ g.named) (λ g. g.1.named) d.1

  due-skips : (r : ℕ) (o : Bool) (x q : ℕ) → StartDue t r o x q
      → (j : ℕ) → r < j → j < q → parent_of (get_or t j 0) ≡ enclosing t r o → required (get_or t j 0) ≡ false
  due-skips r true x q d j a b c = (d.1.between j a b c).1
  due-skips r false x q d j a b c = ⊎_elim (λ g. absurd (omega (arith, g.itself))) (λ g. (g.1.between j a b c).1) d.1

module _ (A : Type 0) (t : List ℕ) where
  -- where the elements that stand in p are all there, p may be closed
  pub closes-after : (kids : Trees A) (r : ℕ) (o : Bool) (p : ℕ) → p ≡ enclosing t r o → p < length t → r < length t → Along t r o kids
      → end_of t (row_after r kids) (open_after o kids) (name_of (get_or t p 0)) ≡ Some p
  unfolding row_after open_after
  closes-after none r o p e w l a =
      end-made t r (name_of (get_or t p 0)) p o
      (record { inside = l; innermost = e; within = w; named = refl; complete = λ j b c d. a j b c (d ∙ e) })
  closes-after (element q tag inner after) r o p e w l a =
      closes-after after q false p (e ∙ sym (due-stands t r o (name_of (get_or t q 0)) q a.0)) w (due-within t r o (name_of (get_or t q 0)) q a.0) a.2

  -- the cursor goes over them
  pub run_along : (kids : Trees A) (r : ℕ) (o : Bool) → Along t r o kids → (rest : List (Sign A))
      → follows t r o (spell t kids ++ rest) ≡ follows t (row_after r kids) (open_after o kids) rest
  unfolding spell row_after open_after
  run_along none r o a rest = refl
  run_along (element q tag inner after) r o a rest =
      let x = name_of (get_or t q 0) in
      let l = due-within t r o x q a.0 in
      ap (λ (s : List (Sign A)). follows t r o s) (spell-on A t q tag inner after rest)
      ∙ opens-on A t r o tag x q (spell t inner ++ (Closes x ∷ (spell t after ++ rest))) (start-made t r x q o a.0)
      ∙ run_along inner q true a.1 (Closes x ∷ (spell t after ++ rest))
      ∙ closes-on A t (row_after q inner) (open_after true inner) x q (spell t after ++ rest) (closes-after inner q true q refl l l a.1)
      ∙ run_along after q false a.2 rest

  visits-open : (r : ℕ) (o : Bool) (tag : A) (x q : ℕ) (s : List (Sign A)) → start_of t r o x ≡ Some q
      → visited t r o (Opens tag x ∷ s) ≡ record { row = q; inside = true } ∷ visited t q true s
  unfolding visited
  visits-open r o tag x q s e = rw (e, visited) refl

  visits-closed : (r : ℕ) (o : Bool) (x q : ℕ) (s : List (Sign A)) → end_of t r o x ≡ Some q
      → visited t r o (Closes x ∷ s) ≡ record { row = q; inside = false } ∷ visited t q false s
  unfolding visited
  visits-closed r o x q s e = rw (e, visited) refl

  places-on : (q : ℕ) (tag : A) (inner after : Trees A) (rest : List Place)
      → places_of (element q tag inner after) ++ rest
      ≡ record { row = q; inside = true } ∷ (places_of inner ++ (record { row = q; inside = false } ∷ (places_of after ++ rest)))
  unfolding places_of
  places-on q tag inner after rest =
      ap (λ (l : List Place). record { row = q; inside = true } ∷ l)
      (append_assoc (places_of inner) (record { row = q; inside = false } ∷ places_of after) rest)

  -- and it is at their rows, one after the other
  pub visits-along : (kids : Trees A) (r : ℕ) (o : Bool) → Along t r o kids → (rest : List (Sign A))
      → visited t r o (spell t kids ++ rest) ≡ places_of kids ++ visited t (row_after r kids) (open_after o kids) rest
  unfolding spell row_after open_after places_of
  visits-along none r o a rest = refl
  visits-along (element q tag inner after) r o a rest =
      let x = name_of (get_or t q 0) in
      let l = due-within t r o x q a.0 in
      let opening : List Place → List Place = λ k. record { row = q; inside = true } ∷ k in
      let closing : List Place → List Place = λ k. record { row = q; inside = false } ∷ k in
      ap (λ (s : List (Sign A)). visited t r o s) (spell-on A t q tag inner after rest)
      ∙ visits-open r o tag x q (spell t inner ++ (Closes x ∷ (spell t after ++ rest))) (start-made t r x q o a.0)
      ∙ ap opening
      (visits-along inner q true a.1 (Closes x ∷ (spell t after ++ rest))
      ∙ ap (λ (k : List Place). places_of inner ++ k)
      (visits-closed (row_after q inner) (open_after true inner) x q (spell t after ++ rest) (closes-after inner q true q refl l l a.1)
      ∙ ap closing (visits-along after q false a.2 rest)))
      ∙ sym (places-on q tag inner after (visited t (row_after q after) (open_after false after) rest))

  heads-tails : (f g : A) (x y : ℕ) (l k : List (Sign A)) → Opens f x ∷ l ≡ Opens g y ∷ k → (x ≡ y) × (l ≡ k) × (f ≡ g)
  heads-tails f g x y l k e = (cc, cc, cc)

  one-start : (q p : ℕ) (tag mark : A) (inner after within later : Trees A) (u v : List (Sign A))
      → spell t (element q tag inner after) ++ u ≡ spell t (element p mark within later) ++ v
      → (name_of (get_or t q 0) ≡ name_of (get_or t p 0))
      × (spell t inner ++ (Closes (name_of (get_or t q 0)) ∷ (spell t after ++ u)) ≡ spell t within ++ (Closes (name_of (get_or t p 0)) ∷ (spell t later ++ v)))
      × (tag ≡ mark)
  one-start q p tag mark inner after within later u v e =
      heads-tails tag mark (name_of (get_or t q 0)) (name_of (get_or t p 0)) _ _ (sym (spell-on A t q tag inner after u) ∙ e ∙ spell-on A t p mark within later v)

  one-row : (r : ℕ) (o : Bool) (q p : ℕ) → name_of (get_or t q 0) ≡ name_of (get_or t p 0) → StartDue t r o (name_of (get_or t q 0)) q
      → StartDue t r o (name_of (get_or t p 0)) p → p ≡ q
  one-row r o q p e c d =
      let a = start-made t r (name_of (get_or t q 0)) q o c in
      let b = start-made t r (name_of (get_or t p 0)) p o d in
      let z : Some q ≡ Some p = sym a ∙ ap (λ (i : ℕ). start_of t r o i) e ∙ b in
      cc

  one-element : (q p : ℕ) (f g : A) (i k a l : Trees A) → p ≡ q → f ≡ g → i ≡ k → a ≡ l → element q f i a ≡ element p g k l
  one-element q p f g i k a l e d h j = cc

  -- two lists of elements that the cursor goes over from one place, spelled alike up to an end tag, are one
  pub one_along : (ks ls : Trees A) (r : ℕ) (o : Bool) (x y : ℕ) (u v : List (Sign A)) → Along t r o ks → Along t r o ls
      → spell t ks ++ (Closes x ∷ u) ≡ spell t ls ++ (Closes y ∷ v) → (ks ≡ ls) × (u ≡ v)
  unfolding spell
  one_along none none r o x y u v a b e = (refl, let z : u ≡ v = cc in z)
  one_along none (element q tag inner after) r o x y u v a b e = absurd (zero-not-one (cc))
  one_along (element q tag inner after) none r o x y u v a b e = absurd (zero-not-one (cc))
  one_along (element q tag inner after) (element p mark within later) r o x y u v a b e =
      let f = one-start q p tag mark inner after within later (Closes x ∷ u) (Closes y ∷ v) e in
      let one = one-row r o q p f.0 a.0 b.0 in
      let behind = spell t after ++ (Closes x ∷ u) in
      let beyond = spell t later ++ (Closes y ∷ v) in
      let inside = subst (λ (i : ℕ). Along t i true within) one b.1 in
      let beside = subst (λ (i : ℕ). Along t i false later) one b.2 in
      let first = one_along inner within q true (name_of (get_or t q 0)) (name_of (get_or t p 0)) behind beyond a.1 inside f.1 in
      let second = one_along after later q false x y u v a.2 beside first.1 in
      (one-element q p tag mark inner within after later one f.2 first.0 second.0, second.1)

-- ---- to conform is the same

module _ (t : List ℕ) where
  -- the first of these may come where the cursor is
  abbrev Starts : ℕ → Bool → List ℕ → Type 0
  Starts r true [] = Unit {0}
  Starts r true (q ∷ qs) = r < q
  Starts r false qs = ComesAfter t r qs

  -- the rows qs are what stands in p after the cursor
  record Suited (r : ℕ) (o : Bool) (p : ℕ) (qs : List ℕ) : Type 0 where
    stand : Stand t p qs
    starts : Starts r o qs
    ordered : InOrder t qs
    complete : (j : ℕ) → r < j → j < length t → parent_of (get_or t j 0) ≡ p → required (get_or t j 0) ≡ true → Among j qs

  not_late : (r : ℕ) (o : Bool) (q : ℕ) (qs : List ℕ) → Starts r o (q ∷ qs) → r ≤ q
  unfolding ComesAfter
  not_late r true q qs s = omega arith
  not_late r false q qs s = ⊎_elim (λ h. omega (arith, h)) (λ h. omega (arith, h.0)) s

  at_least : (q : ℕ) (qs : List ℕ) → ComesAfter t q qs → InOrder t qs → (j : ℕ) → Among j qs → q ≤ j
  unfolding ComesAfter InOrder Among
  at_least q [] a b j m = absurd m
  at_least q (n ∷ ns) a b j m =
      let l : q ≤ n = ⊎_elim (λ h. omega (arith, h)) (λ h. omega (arith, h.0)) a in
      ⊎_elim (λ (e : j ≡ n). omega (arith, l, e)) (λ k. omega (arith, l, at_least n ns b.0 b.1 j k)) m

  none-starts : (r : ℕ) (o : Bool) → Starts r o []
  unfolding ComesAfter
  none-starts r true = tt
  none-starts r false = tt

  due-starts : (r : ℕ) (o : Bool) (x q : ℕ) (qs : List ℕ) → StartDue t r o x q → Starts r o (q ∷ qs)
  unfolding ComesAfter
  due-starts r true x q qs d = d.1.after
  due-starts r false x q qs d = ⊎_elim (λ g. inr (g.itself, g.repeats)) (λ g. inl (omega (arith, g.1.after))) d.1

module _ (t : List ℕ) (m : Made t) where
  next_fits : (r p q : ℕ) → r < q → q < length t → parent_of (get_or t q 0) ≡ p
      → ((j : ℕ) → r < j → j < q → parent_of (get_or t j 0) ≡ p → required (get_or t j 0) ≡ false)
      → NextIn t r p (name_of (get_or t q 0)) q
  next_fits r p q l h s skips =
      record {
        after = l;
        within = h;
        stands = s;
        named = refl;
        between = λ j a b c. ((λ n. always-apart t m j q b h (s ∙ sym c) (sym n)), skips j a b c);
      }

  start_fits : (r : ℕ) (o : Bool) (p q : ℕ) (qs : List ℕ) → p ≡ enclosing t r o → r < length t → q < length t → parent_of (get_or t q 0) ≡ p
      → Starts t r o (q ∷ qs) → ((j : ℕ) → r < j → j < q → parent_of (get_or t j 0) ≡ p → required (get_or t j 0) ≡ false)
      → StartDue t r o (name_of (get_or t q 0)) q
  unfolding ComesAfter
  start_fits r true p q qs e l h s f skips = (l, subst (λ (i : ℕ). NextIn t r i (name_of (get_or t q 0)) q) e (next_fits r p q f h s skips))
  start_fits r false p q qs e l h s f skips = (
    l,
    ⊎_elim
        (λ g. inr (
          (λ a. always-apart t m r q g h (s ∙ e) (sym a.named)),
          subst (λ (i : ℕ). NextIn t r i (name_of (get_or t q 0)) q) e (next_fits r p q g h s skips),
        ))
        (λ g. inl (record { itself = g.0; repeats = g.1; named = ap (λ (i : ℕ). name_of (get_or t i 0)) (sym g.0) }))
        f,
  )

  suited-inside : (q : ℕ) (qs : List ℕ) → q < length t → Fits t q qs → Suited t q true q qs
  unfolding Stand
  suited-inside q [] l f = record { stand = f.stand; starts = tt; ordered = f.ordered; complete = λ j _. f.complete j }
  suited-inside q (n ∷ ns) l f =
      record {
        stand = f.stand;
        starts = child-after t m q n l f.stand.0 f.stand.1;
        ordered = f.ordered;
        complete = λ j _. f.complete j;
      }

  fits-inside : (q : ℕ) (qs : List ℕ) → q < length t → Suited t q true q qs → Fits t q qs
  fits-inside q qs l s =
      record { stand = s.stand; ordered = s.ordered; complete = λ j b c. s.complete j (child-after t m q j l b c) b c }

  passes : (r : ℕ) (o : Bool) (p q : ℕ) (qs : List ℕ) → q < length t → Suited t r o p (q ∷ qs)
      → (j : ℕ) → r < j → j < q → parent_of (get_or t j 0) ≡ p → required (get_or t j 0) ≡ false
  unfolding InOrder Among
  passes r o p q qs h s j a b c =
      let later = at_least t q qs s.ordered.0 s.ordered.1 j in
      ⊎_elim
      (λ y. absurd (⊎_elim (λ i. omega (arith, b, i)) (λ k. omega (arith, b, later k)) (s.complete j a (omega (arith, b, h)) c y)))
      (λ y. y)
      (bool_cases (required (get_or t j 0)))

module _ (A : Type 0) (t : List ℕ) (m : Made t) where
  to-along : (kids : Trees A) (r : ℕ) (o : Bool) (p : ℕ) → p ≡ enclosing t r o → r < length t → Suited t r o p (rows_taken kids)
      → EachConforms t kids → Along t r o kids
  unfolding rows_taken Stand InOrder Among EachConforms
  to-along none r o p e l s each =
      λ j a b c. ⊎_elim (λ h. absurd (s.complete j a b (c ∙ sym e) h)) (λ h. h) (bool_cases (required (get_or t j 0)))
  to-along (element q tag inner after) r o p e l s each =
      let h = s.stand.0 in
      let late = not_late t r o q (rows_taken after) s.starts in (
        start_fits t m r o p q (rows_taken after) e l h s.stand.1 s.starts (passes t m r o p q (rows_taken after) h s),
        to-along inner q true q refl h (suited-inside t m q (rows_taken inner) h each.0) each.1,
        to-along after q false p (sym s.stand.1) h
            (record {
              stand = s.stand.2;
              starts = s.ordered.0;
              ordered = s.ordered.1;
              complete = λ j a b c y. ⊎_elim (λ (i : j ≡ q). absurd (omega (arith, a, i))) (λ k. k) (s.complete j (omega (arith, late, a)) b c y);
            })
            each.2,
      )

  from-along : (kids : Trees A) (r : ℕ) (o : Bool) (p : ℕ) → p ≡ enclosing t r o → Along t r o kids
      → Suited t r o p (rows_taken kids) × EachConforms t kids
  unfolding rows_taken Stand InOrder Among EachConforms
  from-along none r o p e a = (
    record {
      stand = tt;
      starts = none-starts t r o;
      ordered = tt;
      complete = λ j b c d y. let z : true ≡ false = sym y ∙ a j b c (d ∙ e) in absurd (zero-not-one (cc));
    },
    tt,
  )
  from-along (element q tag inner after) r o p e a =
      let x = name_of (get_or t q 0) in
      let h = due-within t r o x q a.0 in
      let stands = due-stands t r o x q a.0 in
      let i = from-along inner q true q refl a.1 in
      let f = from-along after q false p (e ∙ sym stands) a.2 in (
        record {
          stand = (h, stands ∙ sym e, f.0.stand);
          starts = due-starts t r o x q (rows_taken after) a.0;
          ordered = (f.0.starts, f.0.ordered);
          complete = λ j b c d y.
              ⊎_elim
              (λ g. inl g.0)
              (λ g.
              ⊎_elim
              (λ (k : (j < q) × (ltb j q ≡ true)).
              let z : true ≡ false = sym y ∙ due-skips t r o x q a.0 j b k.0 (d ∙ e) in
              absurd (zero-not-one (cc)))
              (λ k. inr (f.0.complete j (past q j k.0 g.0) c d y))
              (ltb-cases j q))
              (eqb-cases j q);
        },
        (fits-inside t m q (rows_taken inner) h i.0, i.1, f.1),
      )
    where
      past : (a b : ℕ) → a ≤ b → (b ≡ a → ⊥) → a < b
      past a b l n = ⊎_elim (λ (y : (a < b) × (ltb a b ≡ true)). y.0) (λ y. absurd (n (omega (arith, l, y.0)))) (ltb-cases a b)

  pub conforms-along : (p : ℕ) (kids : Trees A) → p < length t → Conforms t p kids → Along t p true kids
  conforms-along p kids l c = to-along kids p true p refl l (suited-inside t m p (rows_taken kids) l c.fits) c.each

  pub along-conforms : (p : ℕ) (kids : Trees A) → p < length t → Along t p true kids → Conforms t p kids
  along-conforms p kids l a =
      let f = from-along kids p true p refl a in
      record { fits = fits-inside t m p (rows_taken kids) l f.0; each = f.1 }
