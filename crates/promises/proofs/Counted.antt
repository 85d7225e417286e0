-- The counts of series and intervals are those of the start tags before the place, and the depth is that of start tags less end tags, by induction over the items. Assumes nothing.
use Prim.Native.Nat.{ℕ, zero, suc, pred, ◌+◌, ◌-◌, ◌≤◌, ◌<◌}
use mathlib.Core.Path.{◌≡◌, refl, sym, ap, subst, ◌∙◌}
use mathlib.Core.List.{List, [], ◌∷◌}
use mathlib.Core.Bool.{Bool, true, false, cond}
use mathlib.Core.Logic.{⊎_elim}
use native.Mathlib.Omega.{arith}
use native.Mathlib.Nat.{le_refl, le_of_lt, add-zero, zero-add}
use lib.Dec.{leb, eqb}
use lib.ListN.{length, drop, length-drop}
use borrow.Author.Tests.{lt-ltb, le-ltb, ne_eqb}
use Rattle.std.specs.Prelude.{Result, Ok, Err}
use Rattle.lists.proofs.Cases.{by_cond, bool_cases, leb-cases, ltb-cases, eqb-cases}
use Rattle.items.specs.Parts.{span_of}
use Rattle.items.specs.Item.{item, item_end}
use Rattle.prolog.specs.Prolog.{begin}
use Rattle.structure.specs.Rows.{over_of}
use Rattle.guideline.specs.Kinds.{kind_of, series_element}
use Rattle.guideline.specs.Rows.{rows_of}
use Rattle.states.specs.Moves.{one_more, begun, step}
use Rattle.states.specs.declared.State.{State}
use Rattle.states.specs.declared.Room.{Room}
use Rattle.states.specs.declared.Entry.{Entry}
use Rattle.states.specs.Step.{Step, Next, Refused}
use Rattle.reader.specs.Items.{Placed, placed, items_after, items_from}
use Rattle.reader.specs.Rows.{used_before}
use Rattle.reader.specs.Reading.{Tables, Out, blank, room_in, refused_at, accepted_at, ended_at, without_used, step_of, tables_after, read_items, items_read, read_after, read_into, or_blank, read_sheet}
use Rattle.reader.proofs.Ran.{read_next, read-stop, items-over}
use Rattle.states.proofs.Judgements.{one-more}
use Rattle.promises.specs.Rows.{ZeroPast, Sized}
use Rattle.promises.specs.Items.{started_in, before, starts, kind_in, interval_element, items_by, items_in, opens_in, shuts_in, start_tags, end_tags}
use Rattle.promises.proofs.Steps.{Sound, Stepped, Rises}
use Rattle.promises.proofs.Cells.{blank-past, blank-sized}
use Rattle.promises.proofs.Readings.{Held, stepped, turned, passed, begun-held}
use Rattle.promises.proofs.Starts.{raised, kind_after, Raised, Raises, step-raises}
use Rattle.promises.proofs.Opens.{depth_at, Deepens, first-none, over-shut, step-deepens}

-- none of the items from a place on stands before it
none-before : (place k at : ℕ) (l : List ℕ) → place ≤ at → before place (items_after k at l) ≡ []
unfolding before items_after
none-before place k at [] h = refl
none-before place (suc k) at (c ∷ l) h = none-before place k (suc at) l (omega arith)
none-before place zero at (c ∷ l) h =
    rw (le-ltb at place h) (none-before place (pred (item_end (item at (c ∷ l)))) (suc at) l (omega arith))

none_here : (p : Placed) (xs : List Placed) → before p.at xs ≡ [] → before p.at (p ∷ xs) ≡ []
unfolding before
none_here p xs z = rw (le-ltb p.at p.at (le_refl p.at)) z

none_first : (xs : List Placed) → before 0 xs ≡ []
unfolding before
none_first [] = refl
none_first (p ∷ xs) = rw (le-ltb p.at 0 (omega arith)) (none_first xs)

one-before : (place : ℕ) (p : Placed) (xs : List Placed) → p.at < place → before place (p ∷ xs) ≡ p ∷ before place xs
unfolding before
one-before place p xs h = rw (lt-ltb p.at place h) refl

none_left : (place : ℕ) → before place [] ≡ []
unfolding before
none_left place = refl

-- one item more
starts-one : (element n m : ℕ) (p : Placed) (xs : List Placed) → n < 4294967295 → m ≡ raised (started_in p.item p.rest) element n
    → m + starts element xs ≡ n + starts element (p ∷ xs)
unfolding starts
starts-one element n m p xs b e =
    ⊎_elim
    (λ (y : eqb (started_in p.item p.rest) element ≡ true).
    let z : m ≡ one_more n = rw y at e in
    rw y (omega (arith, z, one-more n b)))
    (λ (y : eqb (started_in p.item p.rest) element ≡ false).
    let z : m ≡ n = rw y at e in
    rw y (omega (arith, z)))
    (bool_cases (eqb (started_in p.item p.rest) element))

-- the kind of a state, or that of the first root start after it
abbrev kind_from : ℕ → List Placed → ℕ
kind_from kind xs = cond (eqb kind 0) (kind_in xs) kind

kind-none : (kind : ℕ) → kind ≡ kind_from kind []
unfolding kind_in
kind-none kind = ⊎_elim (λ y. rw y.1 y.0) (λ y. rw y.1 refl) (eqb-cases kind 0)

kind-one : (kind later : ℕ) (p : Placed) (xs : List Placed) → later ≡ kind_after (started_in p.item p.rest) kind
    → kind_from later xs ≡ kind_from kind (p ∷ xs)
unfolding kind_in
kind-one kind later p xs e =
    ⊎_elim
    (λ (y : (kind ≡ 0) × (eqb kind 0 ≡ true)).
    let z : later ≡ kind_of (started_in p.item p.rest) = rw y.1 at e in
    rw (z, y.1) refl)
    (λ (y : (kind ≡ 0 → ⊥) × (eqb kind 0 ≡ false)).
    let z : later ≡ kind = rw y.1 at e in
    rw (z, y.1) refl)
    (eqb-cases kind 0)

-- a kind that is told stays
kind-kept : (kind : ℕ) (xs : List Placed) → (kind ≡ 0 → ⊥) → kind_from kind xs ≡ kind
kind-kept kind xs f = rw (ne_eqb kind 0 f) refl

used-raises : (doc t : List ℕ) (x : State) (name : ℕ) (p : Placed) (q : Step) → Raises name x q → Raises name x (without_used doc t p.item p.rest q)
unfolding without_used
used-raises doc t x name p (Next y e) h = by_cond (Raises name x) (used_before doc t (span_of p.item) p.rest y.series e) tt h
used-raises doc t x name p (Refused n) h = tt

step-raised : (doc t : List ℕ) (room : Room) (p : Placed) (x : State) → Raises (started_in p.item p.rest) x (step_of doc t room p x)
unfolding step_of
step-raised doc t room p x =
    used-raises doc t x (started_in p.item p.rest) p (step x p.item p.rest room)
    (step-raises x p.item p.rest room)

used-deepens : (doc t : List ℕ) (x : State) (p : Placed) (q : Step) → Deepens p.item x q → Deepens p.item x (without_used doc t p.item p.rest q)
unfolding without_used
used-deepens doc t x p (Next y e) h = by_cond (Deepens p.item x) (used_before doc t (span_of p.item) p.rest y.series e) tt h
used-deepens doc t x p (Refused n) h = tt

step-deepened : (doc t : List ℕ) (room : Room) (p : Placed) (x : State) → Sound x → Deepens p.item x (step_of doc t room p x)
unfolding step_of
step-deepened doc t room p x b = used-deepens doc t x p (step x p.item p.rest room) (step-deepens x b p.item p.rest room)

-- from the place `at` on, where the state was st
pub record Counted (at : ℕ) (xs : List Placed) (st : State) (o : Out) : Type 0 where
  pub later : at ≤ o.found.place
  pub kind : o.found.kind ≡ kind_from st.kind (before o.found.place xs)
  pub series : o.found.series ≡ st.series + starts (series_element o.found.kind) (before o.found.place xs)
  pub intervals : o.found.intervals ≡ st.intervals + starts interval_element (before o.found.place xs)
  pub depth : o.found.depth + end_tags (before o.found.place xs) ≡ depth_at st + start_tags (before o.found.place xs)

no-starts : (element n : ℕ) (xs : List Placed) → xs ≡ [] → n ≡ n + starts element xs
unfolding starts
no-starts element n xs e = rw e (sym (add-zero n))

no-tags : (n : ℕ) (xs : List Placed) → xs ≡ [] → n + end_tags xs ≡ n + start_tags xs
unfolding start_tags end_tags
no-tags n xs e = rw e refl

-- one item more
tags-one : (d n m : ℕ) (p : Placed) (xs : List Placed) → m + shuts_in p.item ≡ n + opens_in p.item → d + end_tags xs ≡ m + start_tags xs
    → d + end_tags (p ∷ xs) ≡ n + start_tags (p ∷ xs)
unfolding start_tags end_tags
tags-one d n m p xs e h = omega arith

module _ (doc : List ℕ) (small : length doc ≤ 1048576) (room : Room) (ns np na : ℕ) where
  refused-counted : (n at : ℕ) (xs : List Placed) (st : State) (t : Tables) → before at xs ≡ []
      → Counted at xs st (record { found = refused_at n at st; tables = t })
  unfolding refused_at
  refused-counted n at xs st t z =
      record {
        later = le_refl at;
        kind = rw z (kind-none st.kind);
        series = no-starts (series_element st.kind) st.series (before at xs) z;
        intervals = no-starts interval_element st.intervals (before at xs) z;
        depth = no-tags (depth_at st) (before at xs) z;
      }

  accepted-counted : (st : State) (t : Tables) → depth_at st ≡ 0 → Counted (length doc) [] st (record { found = accepted_at (length doc) st; tables = t })
  unfolding accepted_at
  accepted-counted st t e =
      let z = none_left (length doc) in
      record {
        later = le_refl (length doc);
        kind = rw z (kind-none st.kind);
        series = no-starts (series_element st.kind) st.series (before (length doc) []) z;
        intervals = no-starts interval_element st.intervals (before (length doc) []) z;
        depth = rw e (no-tags 0 (before (length doc) []) z);
      }

  ended_by : (st : State) (t : Tables) (b : Bool) → (b ≡ true → depth_at st ≡ 0)
      → Counted (length doc) [] st (record {
        found =
            cond b (accepted_at (length doc) st) (refused_at 3 (length doc) st);
        tables = t;
      })
  ended_by st t true f = accepted-counted st t (f refl)
  ended_by st t false f = refused-counted 3 (length doc) [] st t (none_left (length doc))

  ended-counted : (at : ℕ) (st : State) (t : Tables) → at ≤ length doc
      → Counted at [] st (record { found = ended_at (rows_of st.kind) (length doc) st; tables = t })
  unfolding ended_at
  ended-counted at st t h =
      let c = ended_by st t (over_of (rows_of st.kind) st.row st.inside) (over-shut st.kind st.row st.inside) in
      record { later = omega (arith, c.later); kind = c.kind; series = c.series; intervals = c.intervals; depth = c.depth }

  -- an item that moved the state, and what is read after it
  next-counted : (p : Placed) (xs : List Placed) (st y : State) (o : Out) → st.series < 4294967295 → st.intervals < 4294967295
      → Raised (started_in p.item p.rest) st y → depth_at y + shuts_in p.item ≡ depth_at st + opens_in p.item → Counted (suc p.at) xs y o
      → Counted p.at (p ∷ xs) st o
  next-counted p xs st y o a b r d c =
      let l = before o.found.place xs in
      let e = one-before o.found.place p xs c.later in
      record {
        later = omega (arith, c.later);
        kind = rw e (c.kind ∙ kind-one st.kind y.kind p l r.kind);
        series =
            rw e
            (c.series
            ∙ starts-one (series_element o.found.kind) st.series y.series p l a
            (r.series o.found.kind (λ f. c.kind ∙ kind-kept y.kind l f)));
        intervals = rw e (c.intervals ∙ starts-one interval_element st.intervals y.intervals p l b r.intervals);
        depth = rw e (tags-one o.found.depth (depth_at st) (depth_at y) p l d c.depth);
      }

  turn-counted : (p : Placed) (xs : List Placed) (st : State) (t : Tables) → st.series < 4294967295 → st.intervals < 4294967295
      → before p.at xs ≡ []
      → ((y : State) (e : Entry) → Stepped room st y e → Counted (suc p.at) xs y (read_items doc room xs y (tables_after p y e t)))
      → (q : Step) → step_of doc t.series room p st ≡ q → Rises room st q → Raises (started_in p.item p.rest) st q
      → Deepens p.item st q → Counted p.at (p ∷ xs) st (read_items doc room (p ∷ xs) st t)
  turn-counted p xs st t a b none more (Next y e) w s r d =
      rw (read_next doc room p xs st t y e w) (next-counted p xs st y (read_items doc room xs y (tables_after p y e t)) a b r d (more y e s))
  turn-counted p xs st t a b none more (Refused m) w s r d =
      rw (read-stop doc room p xs st t m w) (refused-counted m p.at (p ∷ xs) st t (none_here p xs none))

  items-counted : (k at : ℕ) (l : List ℕ) (st : State) (t : Tables) → at + length l ≤ length doc → Held doc room ns np na (length l) st t
      → Counted at (items_after k at l) st (read_items doc room (items_after k at l) st t)
  unfolding items_after read_items
  items-counted k at [] st t a h = ended-counted at st t (omega arith)
  items-counted (suc k) at (c ∷ l) st t a h =
      let i = items-counted k (suc at) l st t (omega arith) (passed doc room ns np na (suc (length l)) st t h (length l) (omega arith)) in
      record { later = omega (arith, i.later); kind = i.kind; series = i.series; intervals = i.intervals; depth = i.depth }
  items-counted zero at (c ∷ l) st t a h =
      let p = placed at (c ∷ l) in
      let n = pred (item_end (item at (c ∷ l))) in
      turn-counted p (items_after n (suc at) l) st t (omega (arith, h.series)) (omega (arith, h.intervals))
      (none-before at n (suc at) l (omega arith))
      (λ y e r.
      items-counted n (suc at) l y (tables_after p y e t) (omega arith)
      (turned doc room ns np na (suc (length l)) st t h p (length l) (le_refl (suc (length l))) y e r))
      (step_of doc t.series room p st) refl (stepped doc t.series room p st h.sound) (step-raised doc t.series room p st)
      (step-deepened doc t.series room p st h.sound)

-- of the whole document
pub record Told (doc : List ℕ) (o : Out) : Type 0 where
  pub kind : o.found.kind ≡ kind_in (before o.found.place (items_in doc))
  pub series : o.found.series ≡ starts (series_element o.found.kind) (before o.found.place (items_in doc))
  pub intervals : o.found.intervals ≡ starts interval_element (before o.found.place (items_in doc))
  pub depth : o.found.depth + end_tags (before o.found.place (items_in doc)) ≡ start_tags (before o.found.place (items_in doc))

module _ (doc : List ℕ) (ns np na : ℕ) (t : Tables) (z : ZeroPast 0 0 t) (m : Sized ns np na t) (small : length doc ≤ 1048576) where
  -- at the start nothing is counted
  begun-counted : (at : ℕ) (xs : List Placed) (o : Out) → items_in doc ≡ xs → Counted at xs begun o → Told doc o
  unfolding begun
  begun-counted at xs o e c =
      record {
        kind = rw e c.kind;
        series = rw e (c.series ∙ zero-add _);
        intervals = rw e (c.intervals ∙ zero-add _);
        depth = rw e (c.depth ∙ ap (λ (n : ℕ). n + start_tags (before o.found.place xs)) (first-none true) ∙ zero-add _);
      }

  after-told : (b : Result ℕ ℕ) → begin doc ≡ b → Told doc (read_after doc t b)
  unfolding read_after items_read items_from read_items items_in items_by
  after-told (Ok n) e =
      ⊎_elim
      (λ (y : (n ≤ length doc) × (leb n (length doc) ≡ true)).
      let l : length (drop n doc) ≡ length doc - n = length-drop n doc in
      begun-counted n (items_after 0 n (drop n doc)) _ (rw e refl)
      (items-counted doc small (room_in t) ns np na 0 n (drop n doc) begun t (omega (arith, y.0))
      (begun-held doc ns np na t z m (length (drop n doc)) (omega arith))))
      (λ y.
      let l : items_from doc n ≡ [] = items-over doc n (le_of_lt y.0) in
      subst (λ (xs : List Placed). Told doc (read_items doc (room_in t) xs begun t)) (sym l)
      (begun-counted 0 [] _ (rw e l) (ended-counted doc small (room_in t) ns np na 0 begun t (omega arith))))
      (leb-cases n (length doc))
  after-told (Err p) e = begun-counted p [] _ (rw e refl) (refused-counted doc small (room_in t) ns np na 2 p [] begun t (none_left p))

  into-told : Told doc (read_into doc t)
  unfolding read_into
  into-told = after-told (begin doc) refl

-- a refusal at 0 before any item
pub first-told : (doc : List ℕ) (n : ℕ) (t : Tables) → Told doc (record { found = refused_at n 0 begun; tables = t })
unfolding refused_at begun starts kind_in start_tags end_tags
first-told doc n t =
    let z = none_first (items_in doc) in
    record { kind = rw z refl; series = rw z refl; intervals = rw z refl; depth = rw z (ap (λ (n : ℕ). n + 0) (first-none true)) }

blank-told : (doc : List ℕ) (ns np na : ℕ) (o : Out) → Told doc o → Told doc (or_blank ns np na o)
unfolding or_blank
blank-told doc ns np na o h = record { kind = h.kind; series = h.series; intervals = h.intervals; depth = h.depth }

pub sheet-told : (doc : List ℕ) (ns np na : ℕ) → Told doc (read_sheet doc ns np na)
unfolding read_sheet
sheet-told doc ns np na =
    ⊎_elim
    (λ y. rw y.1 (blank-told doc ns np na (record { found = refused_at 1 0 begun; tables = blank ns np na }) (first-told doc 1 (blank ns np na))))
    (λ y.
    rw y.1
    (blank-told doc ns np na (read_into doc (blank ns np na))
    (into-told doc ns np na (blank ns np na) (blank-past ns np na 0 0) (blank-sized ns np na) y.0)))
    (ltb-cases 1048576 (length doc))
