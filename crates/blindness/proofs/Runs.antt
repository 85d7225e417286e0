-- Aligned items come to the same answer, the same series and positions, and the same sources of amounts; and each amount is the one at its source.
-- Assumes nothing.
use Prim.Native.Nat.{ℕ, zero, suc, pred, ◌+◌, ◌-◌}
use mathlib.Core.Path.{◌≡◌, refl, sym, ap, ◌∙◌}
use mathlib.Core.List.{List, [], ◌∷◌, map}
use lib.IntN.{ℤ}
use lib.ListN.{length, drop, set}
use Rattle.lists.proofs.Cases.{past-cond, zero-not-one}
use Rattle.slices.specs.declared.Span.{Span}
use Rattle.items.specs.Parts.{span_of}
use Rattle.items.specs.Item.{item, item_end}
use Rattle.items.specs.declared.Item.{Item}
use Rattle.items.specs.declared.Item.TheVariants.{Unreadable}
use Rattle.states.specs.Moves.{moved, step}
use Rattle.states.specs.declared.State.{State}
use Rattle.states.specs.declared.Room.{Room}
use Rattle.states.specs.declared.Entry.{Entry}
use Rattle.states.specs.declared.Entry.TheVariants.{Nothing, Series, Identification, Object, BusinessType, Direction, Area, Interval, Position, Amount}
use Rattle.states.specs.Step.{Step, Next, Refused}
use Rattle.reader.specs.Items.{Placed, items_after}
use Rattle.reader.specs.Rows.{brought_by, quoted, amounts_with, series_after, positions_after, amounts_after, used_before}
use Rattle.reader.specs.Reading.{tab, Out, without_used, step_of, tables_after, read_items}
use Rattle.reader.proofs.Ran.{read_next, read-stop}
use Rattle.blindness.specs.Sources.{amount_at}
use Rattle.blindness.proofs.Sources.{sources_after, sources_in}
use Rattle.blindness.proofs.Aligned.{tail_of}
use Rattle.blindness.proofs.Pairs.{Says, Aligned, over, pair, shut}
use Rattle.blindness.proofs.Steps.{Values, same-value, BlindKinds, step_same, step-brings}
use Rattle.blindness.proofs.Shown.{Tabled, value-part}

abbrev at_item : ℕ → Item → List ℕ → Placed
at_item at i s = record { at = at; item = i; rest = s }

-- an item that is not refused moved the state so before it was asked for a used identification
pub unrefused : (doc t : List ℕ) (i : Item) (s : List ℕ) (q : Step) (st : State) (e : Entry) → without_used doc t i s q ≡ Next st e → q ≡ Next st e
unfolding without_used
unrefused doc t i s (Next st' e') st e h =
    (past-cond (used_before doc t (span_of i) s st'.series e') (λ z. zero-not-one (cc)) h).1
unrefused doc t i s (Refused n) st e h = absurd (zero-not-one (cc))

module _ (doc : List ℕ) (room : Room) (p : Placed) (xs : List Placed) (st : State) (series : List ℕ) (t : List Span) where
  pub sources_next : (st' : State) (e : Entry) → step_of doc series room p st ≡ Next st' e
      → sources_in doc room (p ∷ xs) st series t
      ≡ sources_in doc room xs st' (series_after p.at (span_of p.item) p.rest st' e series) (sources_after p.at (span_of p.item) st' e t)
  unfolding sources_in
  sources_next st' e q = rw (sources_in, q)

  pub sources-stop : (n : ℕ) → step_of doc series room p st ≡ Refused n → sources_in doc room (p ∷ xs) st series t ≡ t
  unfolding sources_in
  sources-stop n q = rw (sources_in, q)

-- two runs that differ in their amounts alone, and not in these either where that holds
pub record SameOut (Kept : Type 0) (o o' : Out) : Type 0 where
  pub found : o.found ≡ o'.found
  pub series : o.tables.series ≡ o'.tables.series
  pub positions : o.tables.positions ≡ o'.tables.positions
  pub amounts : Kept → o.tables.amounts ≡ o'.tables.amounts

-- an unreadable item stops the reading
unread-stop : (doc series : List ℕ) (room : Room) (at p : ℕ) (s : List ℕ) (st : State) → step_of doc series room (at_item at (Unreadable p) s) st ≡ Refused 2
unfolding step_of without_used step moved
unread-stop doc series room at p s st = refl

-- an amount is brought by the same value
pub amounts-same : (v : Span) (s s' : List ℕ) (st : State) (e : Entry) (t : List ℤ) → (e ≡ Amount → quoted v s ≡ quoted v s')
    → amounts_after v s st e t ≡ amounts_after v s' st e t
unfolding amounts_after amounts_with brought_by
amounts-same v s s' st Nothing t q = refl
amounts-same v s s' st Series t q = refl
amounts-same v s s' st Identification t q = refl
amounts-same v s s' st Object t q = refl
amounts-same v s s' st BusinessType t q = refl
amounts-same v s s' st Direction t q = refl
amounts-same v s s' st Area t q = refl
amounts-same v s s' st Interval t q = refl
amounts-same v s s' st (Position p) t q = refl
amounts-same v s s' st Amount t q = rw (q refl)

module _ (name : List ℕ) (R : List ℕ → List ℕ → Type 0) (brought : Entry) (rows : BlindKinds name R brought) (x y : List ℕ) (shown : Tabled R brought x y) where
  -- a pair of items
  module _ (at : ℕ) (i : Item) (s s' : List ℕ) (ex : s ≡ drop at x) (ey : s' ≡ drop at y) (p : Says name R i s s')
      (room : Room) (st : State) (ser : List ℕ) (h : shown.Shows ser) where
    pair_step : step_of x ser room (at_item at i s) st ≡ step_of y ser room (at_item at i s') st
    unfolding step_of without_used
    pair_step =
        by (step st i s room) refl ∙ ap (without_used y ser i s') (step_same name R brought rows st s s' room i p)
      where
        by : (q : Step) → step st i s room ≡ q → without_used x ser i s q ≡ without_used y ser i s' q
        by (Next st' e) z = rw (shown.used (span_of i) s s' ser h st'.series e (step-brings name R brought rows st s s' room i p st' e z))
        by (Refused n) z = refl

    pair-brings : (st' : State) (e : Entry) → step_of x ser room (at_item at i s) st ≡ Next st' e → Values R brought e (quoted (span_of i) s) (quoted (span_of i) s')
    unfolding step_of
    pair-brings st' e z =
        step-brings name R brought rows st s s' room i p st' e (unrefused x ser i s (step st i s room) st' e z)

    pair-shown : (st' : State) (e : Entry) → step_of x ser room (at_item at i s) st ≡ Next st' e → shown.Shows (series_after at (span_of i) s st' e ser)
    pair-shown st' e z = shown.next at (span_of i) s s' st' e ser ex ey h (pair-brings st' e z)

    pair-amounts : (st' : State) (e : Entry) → step_of x ser room (at_item at i s) st ≡ Next st' e → (brought ≡ Amount → ⊥)
        → {ax ay : List ℤ} → ax ≡ ay → amounts_after (span_of i) s st' e ax ≡ amounts_after (span_of i) s' st' e ay
    pair-amounts st' e z other {ax} {ay} same =
        rw same (amounts-same (span_of i) s s' st' e ay (λ am. same-value (λ b. other (sym b ∙ am)) (pair-brings st' e z)))

  module _ (room : Room) where
    -- where the amounts were the same, and others than these are brought, they still are
    abbrev Runs : List Placed → List Placed → State → List ℕ → List ℕ → List ℤ → List ℤ → List Span → Type 0
    Runs xs ys st ser pos ax ay so =
        SameOut ((brought ≡ Amount → ⊥) × (ax ≡ ay)) (read_items x room xs st (tab ser pos ax)) (read_items y room ys st (tab ser pos ay))
        × (sources_in x room xs st ser so ≡ sources_in y room ys st ser so)

    -- both stop
    run-stop : (xs ys : List Placed) (p q : Placed) → p.at ≡ q.at → (st : State) (ser pos : List ℕ) (ax ay : List ℤ) (so : List Span) (n : ℕ)
        → step_of x ser room p st ≡ Refused n → step_of y ser room q st ≡ Refused n → Runs (p ∷ xs) (q ∷ ys) st ser pos ax ay so
    run-stop xs ys p q at st ser pos ax ay so n z z' =
        rw (
          read-stop x room p xs st (tab ser pos ax) n z,
          read-stop y room q ys st (tab ser pos ay) n z',
          sources-stop x room p xs st ser so n z,
          sources-stop y room q ys st ser so n z',
          at,
        )
        (record { found = refl; series = refl; positions = refl; amounts = λ k. k.1 }, refl)

    module _ (xs ys : List Placed) (at : ℕ) (i : Item) (s s' : List ℕ) (ex : s ≡ drop at x) (ey : s' ≡ drop at y) (p : Says name R i s s')
        (st : State) (ser pos : List ℕ) (ax ay : List ℤ) (so : List Span) (h : shown.Shows ser)
        (ih : (st' : State) (ser' pos' : List ℕ) (ax' ay' : List ℤ) (so' : List Span) → shown.Shows ser' → Runs xs ys st' ser' pos' ax' ay' so') where
      run-pair : (q : Step) → step_of x ser room (at_item at i s) st ≡ q → Runs (at_item at i s ∷ xs) (at_item at i s' ∷ ys) st ser pos ax ay so
      unfolding tables_after
      run-pair (Next st' e) z =
          let z' = sym (pair_step at i s s' ex ey p room st ser h) ∙ z in
          rw (
            read_next x room (at_item at i s) xs st (tab ser pos ax) st' e z,
            read_next y room (at_item at i s') ys st (tab ser pos ay) st' e z',
            sources_next x room (at_item at i s) xs st ser so st' e z,
            sources_next y room (at_item at i s') ys st ser so st' e z',
            ← shown.after at (span_of i) s s' st' e ser (pair-brings at i s s' ex ey p room st ser h st' e z),
          )
          (let r = ih st' (series_after at (span_of i) s st' e ser) (positions_after st' e pos) (amounts_after (span_of i) s st' e ax) (amounts_after (span_of i) s' st' e ay)
          (sources_after at (span_of i) st' e so) (pair-shown at i s s' ex ey p room st ser h st' e z) in (
            record {
              found = r.0.found;
              series = r.0.series;
              positions = r.0.positions;
              amounts = λ k. r.0.amounts (k.0, pair-amounts at i s s' ex ey p room st ser h st' e z k.0 k.1);
            },
            r.1,
          ))
      run-pair (Refused n) z =
          run-stop xs ys (at_item at i s) (at_item at i s') refl st ser pos ax ay so n z (sym (pair_step at i s s' ex ey p room st ser h) ∙ z)

    pub run-same : length x ≡ length y → {xs ys : List Placed} → Aligned name R x y xs ys
        → (st : State) (ser pos : List ℕ) (ax ay : List ℤ) (so : List Span) → shown.Shows ser → Runs xs ys st ser pos ax ay so
    unfolding read_items sources_in
    run-same long over st ser pos ax ay so h = (record { found = rw long; series = refl; positions = refl; amounts = λ k. k.1 }, refl)
    run-same long (shut {xs} {ys} at p s s') st ser pos ax ay so h =
        run-stop xs ys (at_item at (Unreadable p) s) (at_item at (Unreadable p) s') refl st ser pos ax ay so 2
        (unread-stop x ser room at p s st) (unread-stop y ser room at p s' st)
    run-same long (pair {xs} {ys} at i s s' ex ey p r) st ser pos ax ay so h =
        run-pair xs ys at i s s' ex ey p st ser pos ax ay so h (λ st' ser' pos' ax' ay' so' h'. run-same long r st' ser' pos' ax' ay' so' h')
        (step_of x ser room (at_item at i s) st) refl

-- ---- of one document: the amounts are those at the sources

map-set : {A B : Type 0} (f : A → B) (l : List A) (i : ℕ) (a : A) → map f (set l i a) ≡ set (map f l) i (f a)
map-set f [] i a = refl
map-set f (b ∷ l) zero a = refl
map-set f (b ∷ l) (suc i) a = ap (λ (t : List _). f b ∷ t) (map-set f l i a)

amounts-after : (doc : List ℕ) (at : ℕ) (s : List ℕ) → s ≡ drop at doc → (v : Span) (st : State) (e : Entry) (so : List Span)
    → amounts_after v s st e (map (amount_at doc) so) ≡ map (amount_at doc) (sources_after at v st e so)
unfolding amounts_after amounts_with brought_by sources_after amount_at quoted
amounts-after doc at s q v st Nothing so = refl
amounts-after doc at s q v st Series so = refl
amounts-after doc at s q v st Identification so = refl
amounts-after doc at s q v st Object so = refl
amounts-after doc at s q v st BusinessType so = refl
amounts-after doc at s q v st Direction so = refl
amounts-after doc at s q v st Area so = refl
amounts-after doc at s q v st Interval so = refl
amounts-after doc at s q v st (Position p) so = refl
amounts-after doc at s q v st Amount so =
    rw (value-part doc at s v q) (sym (map-set (amount_at doc) so (st.intervals - 1) (record { start = at + v.start; len = v.len })))

-- each item is read from its place on
unfoldable pub Parts : List ℕ → List Placed → Type 0
Parts doc [] = Unit {0}
Parts doc (p ∷ xs) = (p.rest ≡ drop p.at doc) × Parts doc xs

pub parts-after : (doc l : List ℕ) (k at : ℕ) → l ≡ drop at doc → Parts doc (items_after k at l)
unfolding items_after Parts
parts-after doc [] k at e = tt
parts-after doc (b ∷ t) (suc k) at e = parts-after doc t k (suc at) (tail_of doc at b t e)
parts-after doc (b ∷ t) zero at e = (e, parts-after doc t (pred (item_end (item at (b ∷ t)))) (suc at) (tail_of doc at b t e))

module _ (doc : List ℕ) (room : Room) where
  said-next : (p : Placed) (xs : List Placed) (st : State) (ser pos : List ℕ) (so : List Span) → p.rest ≡ drop p.at doc
      → ((st' : State) (ser' pos' : List ℕ) (so' : List Span)
      → (read_items doc room xs st' (tab ser' pos' (map (amount_at doc) so'))).tables.amounts ≡ map (amount_at doc) (sources_in doc room xs st' ser' so'))
      → (q : Step) → step_of doc ser room p st ≡ q
      → (read_items doc room (p ∷ xs) st (tab ser pos (map (amount_at doc) so))).tables.amounts ≡ map (amount_at doc) (sources_in doc room (p ∷ xs) st ser so)
  unfolding tables_after
  said-next p xs st ser pos so e ih (Next st' en) z =
      rw (
        read_next doc room p xs st (tab ser pos (map (amount_at doc) so)) st' en z,
        sources_next doc room p xs st ser so st' en z,
        amounts-after doc p.at p.rest e (span_of p.item) st' en so,
      )
      (ih st' (series_after p.at (span_of p.item) p.rest st' en ser) (positions_after st' en pos) (sources_after p.at (span_of p.item) st' en so))
  said-next p xs st ser pos so e ih (Refused n) z =
      rw (read-stop doc room p xs st (tab ser pos (map (amount_at doc) so)) n z, sources-stop doc room p xs st ser so n z)

  pub run-said : (xs : List Placed) → Parts doc xs → (st : State) (ser pos : List ℕ) (so : List Span)
      → (read_items doc room xs st (tab ser pos (map (amount_at doc) so))).tables.amounts ≡ map (amount_at doc) (sources_in doc room xs st ser so)
  unfolding Parts read_items sources_in
  run-said [] h st ser pos so = refl
  run-said (p ∷ xs) h st ser pos so =
      said-next p xs st ser pos so h.0 (λ st' ser' pos' so'. run-said xs h.1 st' ser' pos' so') (step_of doc ser room p st) refl
