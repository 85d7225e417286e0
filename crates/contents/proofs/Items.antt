-- The items of a document are read to their end exactly where all may stand in a document and their signs are due and taken, one after the other.
-- Assumes nothing.
use Prim.Native.Nat.{ℕ, suc, ◌<◌}
use mathlib.Core.Path.{◌≡◌, refl, sym, ap, subst, ◌∙◌}
use mathlib.Core.List.{List, [], ◌∷◌, ◌++◌}
use mathlib.Core.Bool.{Bool, true, false, cond, not}
use mathlib.Core.Logic.{⊎_elim}
use native.Mathlib.Omega.{arith}
use lib.ListN.{length, get_or}
use Rattle.std.specs.Prelude.{Option}
use Rattle.lists.proofs.Cases.{zero-not-one}
use Rattle.items.specs.Parts.{passed}
use Rattle.items.specs.declared.Tag.{Tag}
use Rattle.items.specs.declared.Item.{Item}
use Rattle.items.specs.declared.Item.TheVariants.{Start, Empty, End, Text, Comment, Unreadable}
use Rattle.structure.specs.Rows.{start_of, end_of, over_of, ends_at_once}
use Rattle.guideline.specs.Kinds.{is_kind, kind_of}
use Rattle.guideline.proofs.Each.{kind-told}
use Rattle.guideline.proofs.Roots.{no_start, no_end as none-ends, not-over as none_over}
use Rattle.guideline.specs.Rows.{rows_of}
use Rattle.states.specs.Moves.{cut_short, started_at, started, after_end_at, after_end, moved, root_kind, kind_told, step}
use Rattle.states.specs.declared.State.{State}
use Rattle.states.specs.declared.Room.{Room}
use Rattle.states.specs.declared.Entry.{Entry}
use Rattle.states.specs.declared.Entry.TheVariants.{Nothing}
use Rattle.states.specs.Step.{Step, Next, Refused}
use Rattle.reader.specs.Items.{Placed}
use Rattle.reader.specs.Rows.{brought_by, used_with, used_before}
use Rattle.reader.specs.Reading.{Tables, Out, refused_at, accepted_at, without_used, step_of, tables_after, read_items}
use Rattle.reader.specs.Reading.{ended_at as over_at}
use Rattle.reader.proofs.Ran.{read_next, read-stop, still, unreadable}
use Rattle.trees.specs.Trees.{Sign, Opens, Closes}
use Rattle.contents.specs.Spelled.{said_of_tag, element_in, allowed, AllAllowed}
use Rattle.contents.proofs.Laid.{Layout, Known, laid}
use Rattle.contents.proofs.Walk.{Tally, nothing, Shuts}
use Rattle.contents.proofs.Fill.{tables_with, said_by_item, said_of, placed_by, placed_signs, state_of}
use Rattle.contents.proofs.Signs.{on-row, row_on, Goal, after, bringing, Runs, Opening, Closing, respelled}
use Rattle.contents.proofs.Rooted.{first-row, no_end, not-over, row_within, row-named, short-ends, ends-row, row_ends}
use Rattle.contents.proofs.Moved.{Low, low-opened, low-less, tables-inside, tables-still, dark-text, step-told, step_in, Went, Goes, Closed, started-goes, went-starts, ended-goes, went-ends}

-- ---- the kinds of items

said-start : (x : Placed) (tag : Tag) → x.item ≡ Start tag → said_of_tag tag x.rest ≡ said_of x
unfolding said_by_item
said-start x tag e = rw e refl

said-empty : (x : Placed) (tag : Tag) → x.item ≡ Empty tag → said_of_tag tag x.rest ≡ said_of x
unfolding said_by_item
said-empty x tag e = rw e refl

module _ (st : State) (kind : ℕ) (rows : List ℕ) (x : Placed) (room : Room) where
  moved-start : (tag : Tag) → x.item ≡ Start tag
      → moved st kind rows x.item x.rest room ≡ started st kind rows (element_in 1 tag.name x.rest) tag x.rest false room
  unfolding moved element_in
  moved-start tag e = rw e refl

  moved-empty : (tag : Tag) → x.item ≡ Empty tag
      → moved st kind rows x.item x.rest room ≡ started st kind rows (element_in 1 tag.name x.rest) tag x.rest true room
  unfolding moved element_in
  moved-empty tag e = rw e refl

  moved-end : (n m : ℕ) → x.item ≡ End n m → moved st kind rows x.item x.rest room ≡ after_end st rows (element_in 2 n x.rest)
  unfolding moved element_in
  moved-end n m e = rw e refl

-- an item that is passed over says nothing
passed-signs : (x : Placed) (i : Item) → passed i ≡ true → (placed_by x i ≡ []) × (allowed i ≡ true)
unfolding passed placed_by allowed
passed-signs x (Start t) e = absurd (zero-not-one (cc))
passed-signs x (Empty t) e = absurd (zero-not-one (cc))
passed-signs x (End n m) e = absurd (zero-not-one (cc))
passed-signs x (Text true m) e = (refl, refl)
passed-signs x (Text false m) e = absurd (zero-not-one (cc))
passed-signs x (Comment m) e = (refl, refl)
passed-signs x (Unreadable p) e = absurd (zero-not-one (cc))

module _ (x : Placed) (xs : List Placed) where
  signs-start : (tag : Tag) → x.item ≡ Start tag → placed_signs (x ∷ xs) ≡ Opens x (element_in 1 tag.name x.rest) ∷ placed_signs xs
  unfolding placed_signs placed_by
  signs-start tag e = ap (λ (i : Item). placed_by x i ++ placed_signs xs) e

  signs-empty : (tag : Tag) → x.item ≡ Empty tag
      → placed_signs (x ∷ xs) ≡ Opens x (element_in 1 tag.name x.rest) ∷ (Closes (element_in 1 tag.name x.rest) ∷ placed_signs xs)
  unfolding placed_signs placed_by
  signs-empty tag e = ap (λ (i : Item). placed_by x i ++ placed_signs xs) e

  signs-end : (n m : ℕ) → x.item ≡ End n m → placed_signs (x ∷ xs) ≡ Closes (element_in 2 n x.rest) ∷ placed_signs xs
  unfolding placed_signs placed_by
  signs-end n m e = ap (λ (i : Item). placed_by x i ++ placed_signs xs) e

  signs-passed : passed x.item ≡ true → placed_signs (x ∷ xs) ≡ placed_signs xs
  unfolding placed_signs
  signs-passed e = ap (λ (l : List (Sign Placed)). l ++ placed_signs xs) (passed-signs x x.item e).0

  may-stand : allowed x.item ≡ true → AllAllowed xs → AllAllowed (x ∷ xs)
  unfolding AllAllowed
  may-stand e a = (e, a)

  stands-may : AllAllowed (x ∷ xs) → (allowed x.item ≡ true) × AllAllowed xs
  unfolding AllAllowed
  stands-may a = a

  allowed-by : (i : Item) → x.item ≡ i → allowed i ≡ true → allowed x.item ≡ true
  allowed-by i e a = ap allowed e ∙ a

-- ---- one item of a reading

module _ (doc : List ℕ) (room : Room) (x : Placed) (xs : List Placed) (st : State) (t : Tables) where
  step-by : (s : Step) → step st x.item x.rest room ≡ s
      → step_of doc t.series room x st ≡ without_used doc t.series x.item x.rest s
  unfolding step_of
  step-by s e = ap (λ (v : Step). without_used doc t.series x.item x.rest v) e

  step-refused : (n : ℕ) → step st x.item x.rest room ≡ Refused n → step_of doc t.series room x st ≡ Refused n
  unfolding without_used
  step-refused n e = step-by (Refused n) e

  stops : (n : ℕ) → step_of doc t.series room x st ≡ Refused n → (n ≡ 0 → ⊥) → (read_items doc room (x ∷ xs) st t).found.refusal ≡ 0 → ⊥
  unfolding refused_at
  stops n z h ok = h (sym (ap (λ (o : Out). o.found.refusal) (read-stop doc room x xs st t n z)) ∙ ok)

  goes_on : (st' : State) (e : Entry) → step_of doc t.series room x st ≡ Next st' e → (read_items doc room (x ∷ xs) st t).found.refusal ≡ 0
      → (read_items doc room xs st' (tables_after x st' e t)).found.refusal ≡ 0
  goes_on st' e z ok = sym (ap (λ (o : Out). o.found.refusal) (read_next doc room x xs st t st' e z)) ∙ ok

  read-pass : passed x.item ≡ true → read_items doc room (x ∷ xs) st t ≡ read_items doc room xs st t
  unfolding without_used used_before used_with brought_by
  read-pass e =
      read_next doc room x xs st t st Nothing (step-by (Next st Nothing) (still st x.item e x.rest room))
      ∙ ap (λ (m : Tables). read_items doc room xs st m) (tables-still x st t)

  not-dark : (m : ℕ) → x.item ≡ Text false m → (read_items doc room (x ∷ xs) st t).found.refusal ≡ 0 → ⊥
  not-dark m e =
      stops 3
      (step-refused 3
      (ap (λ (i : Item). step st i x.rest room) e ∙ dark-text st m x.rest room))
      (λ z. omega (arith, z))

  not-unread : (p : ℕ) → x.item ≡ Unreadable p → (read_items doc room (x ∷ xs) st t).found.refusal ≡ 0 → ⊥
  not-unread p e =
      stops 2
      (step-refused 2
      (ap (λ (i : Item). step st i x.rest room) e ∙ unreadable st p x.rest room))
      (λ z. omega (arith, z))

-- ---- where the kind is told

-- the document may be over
abbrev pub Over : ℕ → Goal
Over kind r o y t = over_of (rows_of kind) r o ≡ true

-- and what was found, with the tables, is `out`
abbrev pub Ends : List ℕ → ℕ → Out → Goal
Ends doc kind out r o y t =
    (over_of (rows_of kind) r o ≡ true) × (record { found = accepted_at (length doc) (state_of kind r o y); tables = t } ≡ out)

module _ (doc : List ℕ) (room : Room) (kind : ℕ) (known : Known kind) where
  abbrev rows : List ℕ
  rows = rows_of kind

  abbrev p : ℕ
  p = (laid kind known).period

  abbrev L : Layout (rows_of kind) (laid kind known).period
  L = (laid kind known).layout

  abbrev Reads : List Placed → ℕ → Bool → Tally → Tables → Type 0
  Reads xs r o y t = AllAllowed xs × Runs doc room kind rows (Over kind) (placed_signs xs) r o y t

  -- the row of an empty tag is no Period's and no root's
  ended-once : (q : ℕ) (y : Tally) → q < length rows → ends_at_once rows q ≡ true → Shuts kind (get_or rows q 0) y
  ended-once q y l e =
      let gone : (i : ℕ) → q ≡ i → ends_at_once rows i ≡ false → ⊥ =
      λ i h f. let z : ◌≡◌ {A = Bool} true false = sym e ∙ ap (ends_at_once rows) h ∙ f in zero-not-one (cc) in
      (λ h. absurd (gone p (L.only-period q l h) (laid kind known).filled), λ h. absurd (gone 1 (L.only-root q l h) (laid kind known).rooted))

  -- ---- a reading that is accepted

  module _ (x : Placed) (xs : List Placed)
      (ih : (r : ℕ) (o : Bool) (y : Tally) (t : Tables) → Low (length xs) y → (read_items doc room xs (state_of kind r o y) t).found.refusal ≡ 0
      → Reads xs r o y t) where
    module _ (k₀ r : ℕ) (o : Bool) (y : Tally) (t : Tables) (low : Low (suc (length xs)) y)
        (ok : (read_items doc room (x ∷ xs) (state_of k₀ r o y) t).found.refusal ≡ 0) where
      tag-forth : (tag : Tag) (name : ℕ) (empty : Bool) → said_of_tag tag x.rest ≡ said_of x
          → step (state_of k₀ r o y) x.item x.rest room ≡ started (state_of k₀ r o y) kind rows name tag x.rest empty room
          → (q : ℕ) × Went doc room kind rows r o y t x name empty q
          × Reads xs q (not empty) (after rows q x y) (tables_with kind rows q x (after rows q x y) t)
      tag-forth tag name empty says e =
          by (step_of doc t.series room x (state_of k₀ r o y)) refl
          (subst (Goes doc room kind rows r o y t x name empty)
          (sym (step-by doc room x xs (state_of k₀ r o y) t (started (state_of k₀ r o y) kind rows name tag x.rest empty room) e))
          (started-goes doc room kind rows p L k₀ r o y t x tag name empty says (length xs) low))
        where
          by : (s : Step) → step_of doc t.series room x (state_of k₀ r o y) ≡ s → Goes doc room kind rows r o y t x name empty s
              → (q : ℕ) × Went doc room kind rows r o y t x name empty q
              × Reads xs q (not empty) (after rows q x y) (tables_with kind rows q x (after rows q x y) t)
          by (Next st e) z g =
              let q = g.0 in
              let y' = after rows q x y in
              let st' = state_of kind q (not empty) y' in
              let ok' =
              ap (λ (m : Tables). (read_items doc room xs st' m).found.refusal) (sym (tables-inside x kind q (not empty) true y' (bringing rows q x) t))
              ∙ ap (λ (m : Entry). (read_items doc room xs st' (tables_after x st' m t)).found.refusal) (sym g.3)
              ∙ ap (λ (m : State). (read_items doc room xs m (tables_after x m e t)).found.refusal) (sym g.2)
              ∙ goes_on doc room x xs (state_of k₀ r o y) t st e z ok in
              (q, g.1, ih q (not empty) y' (tables_with kind rows q x y' t) (low-opened (length xs) (get_or rows q 0) x y low) ok')
          by (Refused n) z g = absurd (stops doc room x xs (state_of k₀ r o y) t n z g ok)

      start-forth : (tag : Tag) → x.item ≡ Start tag
          → step (state_of k₀ r o y) x.item x.rest room ≡ moved (state_of k₀ r o y) kind rows x.item x.rest room
          → Reads (x ∷ xs) r o y t
      unfolding Runs allowed
      start-forth tag i e =
          let name = element_in 1 tag.name x.rest in
          let k = tag-forth tag name false (said-start x tag i) (e ∙ moved-start (state_of k₀ r o y) kind rows x room tag i) in
          let w = k.1 in (
            may-stand x xs (allowed-by x xs (Start tag) i refl) k.2.0,
            respelled doc room kind rows (Over kind) r o y t (sym (signs-start x xs tag i))
                (row_on (start_of rows r o name) (Opening doc room kind rows (Over kind) x (placed_signs xs) y t) k.0 w.due (w.taken, w.new, k.2.1)),
          )

      empty-forth : (tag : Tag) → x.item ≡ Empty tag
          → step (state_of k₀ r o y) x.item x.rest room ≡ moved (state_of k₀ r o y) kind rows x.item x.rest room
          → Reads (x ∷ xs) r o y t
      unfolding Runs allowed
      empty-forth tag i e =
          let name = element_in 1 tag.name x.rest in
          let k = tag-forth tag name true (said-empty x tag i) (e ∙ moved-empty (state_of k₀ r o y) kind rows x room tag i) in
          let q = k.0 in
          let w = k.1 in
          let y' = after rows q x y in
          let t' = tables_with kind rows q x y' t in
          let l = row_within rows p L r o name q w.due in
          let once = short-ends rows p L q w.whole in
          let closes : Runs doc room kind rows (Over kind) (Closes name ∷ placed_signs xs) q true y' t' =
          row_on (end_of rows q true name) (Closing doc room kind rows (Over kind) (placed_signs xs) y' t') q
          (ends-row rows p L q name l (row-named rows p L r o name q w.due) once)
          (ended-once q y' l once, k.2.1) in (
            may-stand x xs (allowed-by x xs (Empty tag) i refl) k.2.0,
            respelled doc room kind rows (Over kind) r o y t (sym (signs-empty x xs tag i))
                (row_on (start_of rows r o name) (Opening doc room kind rows (Over kind) x (Closes name ∷ placed_signs xs) y t) q w.due
                (w.taken, w.new, closes)),
          )

    module _ (r : ℕ) (o : Bool) (y : Tally) (t : Tables) (low : Low (suc (length xs)) y)
        (ok : (read_items doc room (x ∷ xs) (state_of kind r o y) t).found.refusal ≡ 0) where
      end-forth : (n m : ℕ) → x.item ≡ End n m → Reads (x ∷ xs) r o y t
      unfolding Runs allowed
      end-forth n m i =
          by (step_of doc t.series room x (state_of kind r o y)) refl
          (subst (Closed kind rows r o y name)
          (sym
          (step-by doc room x xs (state_of kind r o y) t (after_end (state_of kind r o y) rows name)
          (step_in kind known r o y x.item x.rest room ∙ moved-end (state_of kind r o y) kind rows x room n m i)))
          (ended-goes doc kind rows r o y t.series x.item x.rest name))
        where
          name : ℕ
          name = element_in 2 n x.rest

          by : (s : Step) → step_of doc t.series room x (state_of kind r o y) ≡ s → Closed kind rows r o y (element_in 2 n x.rest) s → Reads (x ∷ xs) r o y t
          by (Next st e) z g =
              let q = g.0 in
              let st' = state_of kind q false y in
              let ok' =
              ap (λ (m : Tables). (read_items doc room xs st' m).found.refusal) (sym (tables-still x st' t))
              ∙ ap (λ (m : Entry). (read_items doc room xs st' (tables_after x st' m t)).found.refusal) (sym g.4)
              ∙ ap (λ (m : State). (read_items doc room xs m (tables_after x m e t)).found.refusal) (sym g.3)
              ∙ goes_on doc room x xs (state_of kind r o y) t st e z ok in
              let k = ih q false y t (low-less (length xs) y low) ok' in (
                may-stand x xs (allowed-by x xs (End n m) i refl) k.0,
                respelled doc room kind rows (Over kind) r o y t (sym (signs-end x xs n m i))
                    (row_on (end_of rows r o (element_in 2 n x.rest)) (Closing doc room kind rows (Over kind) (placed_signs xs) y t) q g.1 (g.2, k.1)),
              )
          by (Refused n) z g = absurd (stops doc room x xs (state_of kind r o y) t n z g ok)

      pass-forth : passed x.item ≡ true → Reads (x ∷ xs) r o y t
      pass-forth e =
          let k = ih r o y t (low-less (length xs) y low)
          (sym (ap (λ (u : Out). u.found.refusal) (read-pass doc room x xs (state_of kind r o y) t e)) ∙ ok) in (
            may-stand x xs (passed-signs x x.item e).1 k.0,
            respelled doc room kind rows (Over kind) r o y t (sym (signs-passed x xs e)) k.1,
          )

      item-forth : (i : Item) → x.item ≡ i → Reads (x ∷ xs) r o y t
      unfolding passed
      item-forth (Start tag) i = start-forth kind r o y t low ok tag i (step_in kind known r o y x.item x.rest room)
      item-forth (Empty tag) i = empty-forth kind r o y t low ok tag i (step_in kind known r o y x.item x.rest room)
      item-forth (End n m) i = end-forth n m i
      item-forth (Text true m) i = pass-forth (ap passed i)
      item-forth (Text false m) i = absurd (not-dark doc room x xs (state_of kind r o y) t m i ok)
      item-forth (Comment m) i = pass-forth (ap passed i)
      item-forth (Unreadable u) i = absurd (not-unread doc room x xs (state_of kind r o y) t u i ok)

  over-forth : (r : ℕ) (o : Bool) (y : Tally) → (over_at rows (length doc) (state_of kind r o y)).refusal ≡ 0 → over_of rows r o ≡ true
  unfolding over_at state_of refused_at accepted_at
  over-forth r o y ok = by (over_of rows r o) ok
    where
      by : (b : Bool) → (cond b (accepted_at (length doc) (state_of kind r o y)) (refused_at 3 (length doc) (state_of kind r o y))).refusal ≡ 0 → b ≡ true
      by true e = refl
      by false e = absurd (omega (arith, e))

  items-forth : (xs : List Placed) (r : ℕ) (o : Bool) (y : Tally) (t : Tables) → Low (length xs) y
      → (read_items doc room xs (state_of kind r o y) t).found.refusal ≡ 0 → Reads xs r o y t
  unfolding read_items state_of placed_signs AllAllowed Runs
  items-forth [] r o y t low ok = (tt, over-forth r o y ok)
  items-forth (x ∷ xs) r o y t low ok =
      item-forth x xs (λ r o y t low ok. items-forth xs r o y t low ok) r o y t low ok x.item refl

  -- ---- signs that are due and taken

  module _ (out : Out) (x : Placed) (xs : List Placed)
      (ih : (r : ℕ) (o : Bool) (y : Tally) (t : Tables) → Low (length xs) y → AllAllowed xs
      → Runs doc room kind rows (Ends doc kind out) (placed_signs xs) r o y t → read_items doc room xs (state_of kind r o y) t ≡ out)
      (may : AllAllowed (x ∷ xs)) where
    module _ (k₀ r : ℕ) (o : Bool) (y : Tally) (t : Tables) (low : Low (suc (length xs)) y) where
      tag_back : (tag : Tag) (name : ℕ) (empty : Bool) → said_of_tag tag x.rest ≡ said_of x
          → step (state_of k₀ r o y) x.item x.rest room ≡ started (state_of k₀ r o y) kind rows name tag x.rest empty room
          → (q : ℕ) → Went doc room kind rows r o y t x name empty q
          → Runs doc room kind rows (Ends doc kind out) (placed_signs xs) q (not empty) (after rows q x y) (tables_with kind rows q x (after rows q x y) t)
          → read_items doc room (x ∷ xs) (state_of k₀ r o y) t ≡ out
      tag_back tag name empty says e q w runs =
          let y' = after rows q x y in
          let st' = state_of kind q (not empty) y' in
          read_next doc room x xs (state_of k₀ r o y) t st' (bringing rows q x)
          (step-by doc room x xs (state_of k₀ r o y) t (started (state_of k₀ r o y) kind rows name tag x.rest empty room) e
          ∙ went-starts doc room kind rows p L k₀ r o y t x tag name empty says (length xs) low q w)
          ∙ ap (λ (m : Tables). read_items doc room xs st' m) (tables-inside x kind q (not empty) true y' (bringing rows q x) t)
          ∙ ih q (not empty) y' (tables_with kind rows q x y' t) (low-opened (length xs) (get_or rows q 0) x y low) (stands-may x xs may).1 runs

      start_back : (tag : Tag) → x.item ≡ Start tag
          → step (state_of k₀ r o y) x.item x.rest room ≡ moved (state_of k₀ r o y) kind rows x.item x.rest room
          → Runs doc room kind rows (Ends doc kind out) (Opens x (element_in 1 tag.name x.rest) ∷ placed_signs xs) r o y t
          → read_items doc room (x ∷ xs) (state_of k₀ r o y) t ≡ out
      unfolding Runs cut_short
      start_back tag i e runs =
          let name = element_in 1 tag.name x.rest in
          let k = on-row (start_of rows r o name) (Opening doc room kind rows (Ends doc kind out) x (placed_signs xs) y t) runs in
          tag_back tag name false (said-start x tag i) (e ∙ moved-start (state_of k₀ r o y) kind rows x room tag i) k.0
          (record { due = k.1; taken = k.2.0; whole = refl; new = k.2.1 })
          k.2.2

      empty_back : (tag : Tag) → x.item ≡ Empty tag
          → step (state_of k₀ r o y) x.item x.rest room ≡ moved (state_of k₀ r o y) kind rows x.item x.rest room
          → Runs doc room kind rows (Ends doc kind out)
          (Opens x (element_in 1 tag.name x.rest) ∷ (Closes (element_in 1 tag.name x.rest) ∷ placed_signs xs)) r o y t
          → read_items doc room (x ∷ xs) (state_of k₀ r o y) t ≡ out
      unfolding Runs
      empty_back tag i e runs =
          let name = element_in 1 tag.name x.rest in
          let k = on-row (start_of rows r o name) (Opening doc room kind rows (Ends doc kind out) x (Closes name ∷ placed_signs xs) y t) runs in
          let q = k.0 in
          let y' = after rows q x y in
          let t' = tables_with kind rows q x y' t in
          let c = on-row (end_of rows q true name) (Closing doc room kind rows (Ends doc kind out) (placed_signs xs) y' t') k.2.2 in
          let once = row_ends rows p L q name c.0 (row_within rows p L r o name q k.1) c.1 in
          tag_back tag name true (said-empty x tag i) (e ∙ moved-empty (state_of k₀ r o y) kind rows x room tag i) q
          (record { due = k.1; taken = k.2.0; whole = once.1; new = k.2.1 })
          (subst (λ (j : ℕ). Runs doc room kind rows (Ends doc kind out) (placed_signs xs) j false y' t') once.0 c.2.1)

    module _ (r : ℕ) (o : Bool) (y : Tally) (t : Tables) (low : Low (suc (length xs)) y) where
      end_back : (n m : ℕ) → x.item ≡ End n m
          → Runs doc room kind rows (Ends doc kind out) (Closes (element_in 2 n x.rest) ∷ placed_signs xs) r o y t
          → read_items doc room (x ∷ xs) (state_of kind r o y) t ≡ out
      unfolding Runs
      end_back n m i runs =
          let name = element_in 2 n x.rest in
          let k = on-row (end_of rows r o name) (Closing doc room kind rows (Ends doc kind out) (placed_signs xs) y t) runs in
          let q = k.0 in
          read_next doc room x xs (state_of kind r o y) t (state_of kind q false y) Nothing
          (step-by doc room x xs (state_of kind r o y) t (after_end (state_of kind r o y) rows name)
          (step_in kind known r o y x.item x.rest room ∙ moved-end (state_of kind r o y) kind rows x room n m i)
          ∙ went-ends doc kind rows r o y t.series x.item x.rest name q k.1 k.2.0)
          ∙ ap (λ (m : Tables). read_items doc room xs (state_of kind q false y) m) (tables-still x (state_of kind q false y) t)
          ∙ ih q false y t (low-less (length xs) y low) (stands-may x xs may).1 k.2.1

      pass-back : passed x.item ≡ true → Runs doc room kind rows (Ends doc kind out) (placed_signs (x ∷ xs)) r o y t
          → read_items doc room (x ∷ xs) (state_of kind r o y) t ≡ out
      pass-back e runs =
          read-pass doc room x xs (state_of kind r o y) t e
          ∙ ih r o y t (low-less (length xs) y low) (stands-may x xs may).1
          (respelled doc room kind rows (Ends doc kind out) r o y t (signs-passed x xs e) runs)

      item_back : (i : Item) → x.item ≡ i → Runs doc room kind rows (Ends doc kind out) (placed_signs (x ∷ xs)) r o y t
          → read_items doc room (x ∷ xs) (state_of kind r o y) t ≡ out
      unfolding passed allowed
      item_back (Start tag) i runs =
          start_back kind r o y t low tag i (step_in kind known r o y x.item x.rest room)
          (respelled doc room kind rows (Ends doc kind out) r o y t (signs-start x xs tag i) runs)
      item_back (Empty tag) i runs =
          empty_back kind r o y t low tag i (step_in kind known r o y x.item x.rest room)
          (respelled doc room kind rows (Ends doc kind out) r o y t (signs-empty x xs tag i) runs)
      item_back (End n m) i runs =
          end_back n m i (respelled doc room kind rows (Ends doc kind out) r o y t (signs-end x xs n m i) runs)
      item_back (Text white m) i runs = pass-back (ap passed i ∙ sym (ap allowed i) ∙ (stands-may x xs may).0) runs
      item_back (Comment m) i runs = pass-back (ap passed i) runs
      item_back (Unreadable u) i runs =
          let z : ◌≡◌ {A = Bool} false true = sym (ap allowed i) ∙ (stands-may x xs may).0 in absurd (zero-not-one (cc))

  over-back : (out : Out) (r : ℕ) (o : Bool) (y : Tally) (t : Tables) → Ends doc kind out r o y t → read_items doc room [] (state_of kind r o y) t ≡ out
  unfolding read_items over_at state_of
  over-back out r o y t e = rw e.0 e.1

  items_back : (out : Out) (xs : List Placed) (r : ℕ) (o : Bool) (y : Tally) (t : Tables) → Low (length xs) y → AllAllowed xs
      → Runs doc room kind rows (Ends doc kind out) (placed_signs xs) r o y t → read_items doc room xs (state_of kind r o y) t ≡ out
  unfolding placed_signs Runs
  items_back out [] r o y t low may runs = over-back out r o y t runs
  items_back out (x ∷ xs) r o y t low may runs =
      item_back out x xs (λ r o y t low may runs. items_back out xs r o y t low may runs) may r o y t low x.item refl runs

-- ---- before the root

module _ (y : Tally) (x : Placed) where
  told-start : (tag : Tag) → x.item ≡ Start tag → kind_told (state_of 0 0 true y) x.item x.rest ≡ kind_of (element_in 1 tag.name x.rest)
  unfolding kind_told state_of root_kind element_in
  told-start tag e = rw e refl

  told-empty : (tag : Tag) → x.item ≡ Empty tag → kind_told (state_of 0 0 true y) x.item x.rest ≡ kind_of (element_in 1 tag.name x.rest)
  unfolding kind_told state_of root_kind element_in
  told-empty tag e = rw e refl

  told-end : (n m : ℕ) → x.item ≡ End n m → kind_told (state_of 0 0 true y) x.item x.rest ≡ 0
  unfolding kind_told state_of root_kind
  told-end n m e = rw e refl

module _ (doc : List ℕ) (room : Room) where
  -- a kind is told, and by its rows the items are read
  abbrev Begins : List Placed → Tables → Type 0
  Begins xs t = (kind : ℕ) × Known kind × AllAllowed xs × Runs doc room kind (rows_of kind) (Over kind) (placed_signs xs) 0 true nothing t

  module _ (x : Placed) (xs : List Placed) (t : Tables) (low : Low (suc (length xs)) nothing)
      (ok : (read_items doc room (x ∷ xs) (state_of 0 0 true nothing) t).found.refusal ≡ 0) where
    abbrev blank : State
    blank = state_of 0 0 true nothing

    -- a tag that tells no kind is refused
    untold : (tag : Tag) (name : ℕ) (empty : Bool)
        → step blank x.item x.rest room ≡ started blank 0 (rows_of 0) name tag x.rest empty room → ⊥
    unfolding started started_at state_of is_kind
    untold tag name empty e =
        stops doc room x xs blank t 3
        (step-refused doc room x xs blank t 3 (e ∙ ap (λ (d : Option ℕ). started_at blank 0 (rows_of 0) tag x.rest empty room d) (no_start 0 refl 0 true name)))
        (λ z. omega (arith, z)) ok

    unended : (n m : ℕ) → x.item ≡ End n m → ⊥
    unfolding after_end after_end_at state_of is_kind
    unended n m i =
        stops doc room x xs blank t 3
        (step-refused doc room x xs blank t 3
        (step-told blank 0 x.item x.rest room (told-end nothing x n m i)
        ∙ moved-end blank 0 (rows_of 0) x room n m i
        ∙ ap (λ (d : Option ℕ). after_end_at blank (rows_of 0) d) (none-ends 0 refl 0 true (element_in 2 n x.rest))))
        (λ z. omega (arith, z)) ok

    begin-start : (tag : Tag) → x.item ≡ Start tag → Begins (x ∷ xs) t
    begin-start tag i =
        let name = element_in 1 tag.name x.rest in
        let told = told-start nothing x tag i in
        ⊎_elim
        (λ (k : kind_of name ≡ 0).
        absurd
        (untold tag name false (step-told blank 0 x.item x.rest room (told ∙ k) ∙ moved-start blank 0 (rows_of 0) x room tag i)))
        (λ (k : Known (kind_of name)).
        let f = start-forth doc room (kind_of name) k x xs (items-forth doc room (kind_of name) k xs) 0 0 true nothing t low ok tag i
        (step-told blank (kind_of name) x.item x.rest room told) in
        (kind_of name, k, f.0, f.1))
        (kind-told name)

    begin-empty : (tag : Tag) → x.item ≡ Empty tag → Begins (x ∷ xs) t
    begin-empty tag i =
        let name = element_in 1 tag.name x.rest in
        let told = told-empty nothing x tag i in
        ⊎_elim
        (λ (k : kind_of name ≡ 0).
        absurd
        (untold tag name true (step-told blank 0 x.item x.rest room (told ∙ k) ∙ moved-empty blank 0 (rows_of 0) x room tag i)))
        (λ (k : Known (kind_of name)).
        let f = empty-forth doc room (kind_of name) k x xs (items-forth doc room (kind_of name) k xs) 0 0 true nothing t low ok tag i
        (step-told blank (kind_of name) x.item x.rest room told) in
        (kind_of name, k, f.0, f.1))
        (kind-told name)

    module _ (ih : Low (length xs) nothing → (read_items doc room xs (state_of 0 0 true nothing) t).found.refusal ≡ 0 → Begins xs t) where
      begin-pass : passed x.item ≡ true → Begins (x ∷ xs) t
      begin-pass e =
          let k = ih (low-less (length xs) nothing low) (sym (ap (λ (u : Out). u.found.refusal) (read-pass doc room x xs blank t e)) ∙ ok) in (
            k.0,
            k.1,
            may-stand x xs (passed-signs x x.item e).1 k.2,
            respelled doc room k.0 (rows_of k.0) (Over k.0) 0 true nothing t (sym (signs-passed x xs e)) k.3,
          )

      begin-item : (i : Item) → x.item ≡ i → Begins (x ∷ xs) t
      unfolding passed
      begin-item (Start tag) i = begin-start tag i
      begin-item (Empty tag) i = begin-empty tag i
      begin-item (End n m) i = absurd (unended n m i)
      begin-item (Text true m) i = begin-pass (ap passed i)
      begin-item (Text false m) i = absurd (not-dark doc room x xs blank t m i ok)
      begin-item (Comment m) i = begin-pass (ap passed i)
      begin-item (Unreadable u) i = absurd (not-unread doc room x xs blank t u i ok)

  over-begun : (r : ℕ) (o : Bool) (y : Tally) → (over_at (rows_of 0) (length doc) (state_of 0 r o y)).refusal ≡ 0 → ⊥
  unfolding over_at state_of refused_at accepted_at is_kind
  over-begun r o y ok = let z : ◌≡◌ {A = ℕ} 3 0 = rw (none_over 0 refl r o) at ok in omega (arith, z)

  pub begin-forth : (xs : List Placed) (t : Tables) → Low (length xs) nothing → (read_items doc room xs (state_of 0 0 true nothing) t).found.refusal ≡ 0
      → Begins xs t
  unfolding read_items state_of
  begin-forth [] t low ok = absurd (over-begun 0 true nothing ok)
  begin-forth (x ∷ xs) t low ok = begin-item x xs t low ok (λ low ok. begin-forth xs t low ok) x.item refl

  -- ---- and back

  module _ (kind : ℕ) (known : Known kind) (out : Out) where
    abbrev Running : List (Sign Placed) → Tables → Type 0
    Running s t = Runs doc room kind (rows_of kind) (Ends doc kind out) s 0 true nothing t

    -- the first tag tells the kind
    first_kind : (x : Placed) (name : ℕ) (s : List (Sign Placed)) (t : Tables) → Running (Opens x name ∷ s) t → kind_of name ≡ kind
    unfolding Runs
    first_kind x name s t runs =
        let l = laid kind known in
        let k = on-row (start_of (rows_of kind) 0 true name) (Opening doc room kind (rows_of kind) (Ends doc kind out) x s nothing t) runs in
        ap kind_of (sym (first-row (rows_of kind) l.period l.layout name k.0 k.1)) ∙ l.told

    module _ (x : Placed) (xs : List Placed) (t : Tables) (low : Low (suc (length xs)) nothing) (may : AllAllowed (x ∷ xs))
        (ih : Low (length xs) nothing → AllAllowed xs → Running (placed_signs xs) t → read_items doc room xs (state_of 0 0 true nothing) t ≡ out) where
      begun-pass : passed x.item ≡ true → Running (placed_signs (x ∷ xs)) t → read_items doc room (x ∷ xs) (state_of 0 0 true nothing) t ≡ out
      begun-pass e runs =
          read-pass doc room x xs (state_of 0 0 true nothing) t e
          ∙ ih (low-less (length xs) nothing low) (stands-may x xs may).1
          (respelled doc room kind (rows_of kind) (Ends doc kind out) 0 true nothing t (signs-passed x xs e) runs)

      begun-item : (i : Item) → x.item ≡ i → Running (placed_signs (x ∷ xs)) t → read_items doc room (x ∷ xs) (state_of 0 0 true nothing) t ≡ out
      unfolding passed allowed Runs
      begun-item (Start tag) i runs =
          let h = respelled doc room kind (rows_of kind) (Ends doc kind out) 0 true nothing t (signs-start x xs tag i) runs in
          let told = told-start nothing x tag i ∙ first_kind x (element_in 1 tag.name x.rest) (placed_signs xs) t h in
          start_back doc room kind known out x xs (items_back doc room kind known out xs) may 0 0 true nothing t low tag i
          (step-told (state_of 0 0 true nothing) kind x.item x.rest room told) h
      begun-item (Empty tag) i runs =
          let name = element_in 1 tag.name x.rest in
          let h = respelled doc room kind (rows_of kind) (Ends doc kind out) 0 true nothing t (signs-empty x xs tag i) runs in
          let told = told-empty nothing x tag i ∙ first_kind x name (Closes name ∷ placed_signs xs) t h in
          empty_back doc room kind known out x xs (items_back doc room kind known out xs) may 0 0 true nothing t low tag i
          (step-told (state_of 0 0 true nothing) kind x.item x.rest room told) h
      begun-item (End n m) i runs =
          let name = element_in 2 n x.rest in
          let l = laid kind known in
          let h = respelled doc room kind (rows_of kind) (Ends doc kind out) 0 true nothing t (signs-end x xs n m i) runs in
          let k = on-row (end_of (rows_of kind) 0 true name) (Closing doc room kind (rows_of kind) (Ends doc kind out) (placed_signs xs) nothing t) h in
          absurd (no_end (rows_of kind) l.period l.layout name k.0 k.1)
      begun-item (Text white m) i runs = begun-pass (ap passed i ∙ sym (ap allowed i) ∙ (stands-may x xs may).0) runs
      begun-item (Comment m) i runs = begun-pass (ap passed i) runs
      begun-item (Unreadable u) i runs =
          let z : ◌≡◌ {A = Bool} false true = sym (ap allowed i) ∙ (stands-may x xs may).0 in absurd (zero-not-one (cc))

    pub begun-back : (xs : List Placed) (t : Tables) → Low (length xs) nothing → AllAllowed xs → Running (placed_signs xs) t
        → read_items doc room xs (state_of 0 0 true nothing) t ≡ out
    unfolding placed_signs Runs
    begun-back [] t low may runs = let l = laid kind known in absurd (not-over (rows_of kind) l.period l.layout runs.0)
    begun-back (x ∷ xs) t low may runs = begun-item x xs t low may (λ low may runs. begun-back xs t low may runs) x.item refl runs
