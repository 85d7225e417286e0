-- What stands behind the faulty item changes nothing, and a document cut before it has no fault but that it ends. Assumes nothing.
use Prim.Native.Nat.{ℕ, zero, suc, pred, ◌+◌, ◌-◌, ◌≤◌, ◌<◌}
use mathlib.Core.Path.{◌≡◌, refl, sym, ap, ◌∙◌}
use mathlib.Core.Bool.{true, false}
use mathlib.Core.List.{List, [], ◌∷◌, ◌++◌}
use mathlib.Core.Logic.{◌⊎◌, inl, inr, ⊎_elim}
use native.Mathlib.Omega.{arith}
use lib.ListN.{length, take, drop, length-drop, length-take, drop_of_length-le, take-append-drop}
use lib.Seq.{drop-cons, drop-drop, length-take-le, take-take, take-append-le, drop-append-le}
use borrow.Author.Tests.{le-ltb}
use Rattle.std.specs.Prelude.{Result, Ok, Err}
use Rattle.lists.proofs.Cases.{bool_cases, ltb-cases, by_cond, never}
use Rattle.slices.specs.Bytes.{byte}
use Rattle.slices.specs.Walk.{walk}
use Rattle.slices.specs.Same.{here, first_at}
use Rattle.structure.specs.Rows.{over_of}
use Rattle.guideline.specs.Rows.{rows_of}
use Rattle.prolog.specs.Prolog.{begin}
use Rattle.prolog.proofs.Promises.{refused-declaration}
use Rattle.items.specs.Text.{text_to, text_item}
use Rattle.items.specs.Item.{item, is_readable, item_end}
use Rattle.items.specs.declared.Item.{Item}
use Rattle.items.specs.declared.Item.TheVariants.{Start, Empty, End, Text, Comment, Unreadable}
use Rattle.notes.specs.declared.Shape.{Shape}
use Rattle.states.specs.Moves.{begun}
use Rattle.states.specs.declared.State.{State}
use Rattle.states.specs.declared.Room.{Room}
use Rattle.states.specs.declared.Entry.{Entry}
use Rattle.states.specs.Step.{Step, Next, Refused}
use Rattle.reader.specs.Items.{Placed, placed, items_after, items_from}
use Rattle.reader.specs.Reading.{Tables, Out, blank, refused_at, accepted_at, ended_at, step_of, tables_after, read_items, items_read, read_after, read_into, read_sheet, room_in}
use Rattle.reader.specs.Answer.{Outcome, read_of}
use Rattle.reader.specs.declared.Found.{Found}
use Rattle.reader.proofs.Ran.{read_next, read-stop}
use Rattle.reader.proofs.Sheets.{read-unnoted, read-noted}
use Rattle.blindness.proofs.Aligned.{tail_of}
use Rattle.blindness.proofs.Shown.{shown-none}
use Rattle.fronts.specs.Front.{TextEnds, EndsBefore}
use Rattle.fronts.proofs.Shares.{shared-front, shared_long, shared-less, shared-behind}
use Rattle.fronts.proofs.Items.{Whole, Says, item-whole, item-near, item-says, ends_read}
use Rattle.fronts.proofs.Begins.{begin-told, begin-front, begin-cut, misdeclared-cut, xml-unread}
use Rattle.faults.proofs.First.{refusal_is, place_is}
use Rattle.faults.proofs.Shared.{SameRows, moved-read, same_step, same_tables, same_rows}

one_less : (n : ℕ) → 0 < n → suc (pred n) ≡ n
one_less zero h = absurd (omega arith)
one_less (suc n) h = refl

-- ---- the place of what is found among items lies where they do

ended-place : (rows : List ℕ) (n : ℕ) (st : State) → (ended_at rows n st).place ≡ n
unfolding ended_at accepted_at refused_at
ended-place rows n st = by_cond (λ (f : Found). f.place ≡ n) (over_of rows st.row st.inside) refl refl

-- accepted, or refused with 3 at n
abbrev pub EndedAt : ℕ → Found → Type 0
EndedAt n f = (f.refusal ≡ 0) ⊎ ((f.refusal ≡ 3) × (f.place ≡ n))

ended_by : (rows : List ℕ) (n : ℕ) (st : State) → EndedAt n (ended_at rows n st)
unfolding ended_at accepted_at refused_at
ended_by rows n st = by_cond (EndedAt n) (over_of rows st.row st.inside) (inl refl) (inr (refl, refl))

module _ (doc : List ℕ) (room : Room) where
  -- from `low` on, and within the document
  abbrev Lies : ℕ → Out → Type 0
  Lies low o = (low ≤ o.found.place) × (o.found.place ≤ length doc)

  lies : (l : List ℕ) (k at : ℕ) → at + length l ≡ length doc → k ≤ length l → (st : State) (t : Tables) → Lies (at + k) (read_items doc room (items_after k at l) st t)
  unfolding items_after read_items refused_at
  lies [] k at e h st t = let z = ended-place (rows_of st.kind) (length doc) st in (omega arith, omega arith)
  lies (b ∷ l) (suc k) at e h st t = let r = lies l k (suc at) (omega arith) (omega arith) st t in (omega (arith, r.0), r.1)
  lies (b ∷ l) zero at e h st t =
      by (step_of doc t.series room (placed at (b ∷ l)) st) refl (λ k z st' t'. lies l k (suc at) (omega arith) z st' t')
    where
      rest : List Placed
      rest = items_after (pred (item_end (item at (b ∷ l)))) (suc at) l

      by : (q : Step) → step_of doc t.series room (placed at (b ∷ l)) st ≡ q
          → ((k : ℕ) → k ≤ length l → (st' : State) (t' : Tables) → Lies (suc at + k) (read_items doc room (items_after k (suc at) l) st' t'))
          → Lies (at + 0) (read_items doc room (placed at (b ∷ l) ∷ rest) st t)
      by (Next st' e') z ih =
          let w = item-whole at (b ∷ l) (moved-read doc t.series room (placed at (b ∷ l)) st st' e' z) in
          let r = ih (pred (item_end (item at (b ∷ l)))) (omega (arith, w.inside)) st' (tables_after (placed at (b ∷ l)) st' e' t) in
          rw (read_next doc room (placed at (b ∷ l)) rest st t st' e' z) (omega (arith, r.0), r.1)
      by (Refused n) z ih = rw (read-stop doc room (placed at (b ∷ l)) rest st t n z) (omega arith, omega arith)

-- an item that moved the state can be read, and what is found is not before its end
moved-behind : (doc : List ℕ) (room : Room) (at b : ℕ) (l : List ℕ) (st : State) (t : Tables) (st' : State) (e : Entry) → at + length (b ∷ l) ≡ length doc
    → step_of doc t.series room (placed at (b ∷ l)) st ≡ Next st' e
    → Whole (item at (b ∷ l)) (b ∷ l) × (at + item_end (item at (b ∷ l)) ≤ (read_items doc room (items_after 0 at (b ∷ l)) st t).found.place)
unfolding items_after
moved-behind doc room at b l st t st' e long o =
    let n = pred (item_end (item at (b ∷ l))) in
    let whole = item-whole at (b ∷ l) (moved-read doc t.series room (placed at (b ∷ l)) st st' e o) in
    let size = one_less (item_end (item at (b ∷ l))) whole.some in
    let low = lies doc room l n (suc at) (omega arith) (omega (arith, size, whole.inside)) st' (tables_after (placed at (b ∷ l)) st' e t) in
    (whole, rw (read_next doc room (placed at (b ∷ l)) (items_after n (suc at) l) st t st' e o) (omega (arith, size, low.0)))

-- ---- x and y begin with the same bytes, and go on with r and with q; a text that ends before r ends before q

ends-other : (i : Item) (v r q : List ℕ) → (TextEnds r → TextEnds q) → EndsBefore i (v ++ r) → EndsBefore i (v ++ q)
unfolding EndsBefore TextEnds
ends-other (Start t) v r q f h = tt
ends-other (Empty t) v r q f h = tt
ends-other (End n e) v r q f h = tt
ends-other (Text w e) [] r q f h = f h
ends-other (Text w e) (b ∷ v) r q f h = h
ends-other (Comment e) v r q f h = tt
ends-other (Unreadable p) v r q f h = h

module _ (x y : List ℕ) (room : Room) (r q : List ℕ) (stop : TextEnds r → TextEnds q) where
  -- both readings come to the place p in one state and with one content of the tables
  record Reached (p : ℕ) (xs ys : List Placed) (st : State) (t : Tables) : Type 0 where
    state : State
    tables : Tables
    left : read_items x room xs st t ≡ read_items x room (items_after 0 p r) state tables
    right : read_items y room ys st t ≡ read_items y room (items_after 0 p q) state tables
    rows : SameRows x y tables.series

  onward : {p : ℕ} {xs xs' ys ys' : List Placed} {st st' : State} {t t' : Tables} → read_items x room xs st t ≡ read_items x room xs' st' t'
      → read_items y room ys st t ≡ read_items y room ys' st' t' → Reached p xs' ys' st' t' → Reached p xs ys st t
  onward l m h = record { state = h.state; tables = h.tables; left = l ∙ h.left; right = m ∙ h.right; rows = h.rows }

  -- an item that moved the state, and ends where b ∷ w does, or before
  module _ (at b : ℕ) (w : List ℕ) (ex : b ∷ w ++ r ≡ drop at x) (ey : b ∷ w ++ q ≡ drop at y) (st : State) (t : Tables) (rows : SameRows x y t.series)
      (st' : State) (e' : Entry) (o : step_of x t.series room (placed at (b ∷ w ++ r)) st ≡ Next st' e') (fits : item_end (item at (b ∷ w ++ r)) ≤ suc (length w)) where
    abbrev front : Item
    front = item at (b ∷ w ++ r)

    abbrev end : ℕ
    end = item_end front

    bytes : take end (b ∷ w ++ q) ≡ take end (b ∷ w ++ r)
    bytes = take-append-le end (b ∷ w) q fits ∙ sym (take-append-le end (b ∷ w) r fits)

    again : item at (b ∷ w ++ q) ≡ front
    again =
        let whole = item-whole at (b ∷ w ++ r) (moved-read x t.series room (placed at (b ∷ w ++ r)) st st' e' o) in
        item-near at (b ∷ w ++ r) (b ∷ w ++ q) bytes
        (rw (drop-append-le end (b ∷ w) q fits) (ends-other front (drop end (b ∷ w)) r q stop (rw (drop-append-le end (b ∷ w) r fits) at whole.ends)))

    says : Says front (b ∷ w ++ r) (b ∷ w ++ q)
    says = item-says at (b ∷ w ++ r) (b ∷ w ++ q) bytes

    passed : read_items y room (items_after 0 at (b ∷ w ++ q)) st t
        ≡ read_items y room (items_after (pred end) (suc at) (w ++ q)) st' (tables_after (placed at (b ∷ w ++ r)) st' e' t)
    unfolding items_after
    passed =
        rw again
        (read_next y room (record { at = at; item = front; rest = b ∷ w ++ q }) (items_after (pred end) (suc at) (w ++ q)) st t st' e'
        (sym (same_step x y room at front (b ∷ w ++ r) (b ∷ w ++ q) says st t rows) ∙ o)
        ∙ ap (read_items y room (items_after (pred end) (suc at) (w ++ q)) st') (sym (same_tables x y room at front (b ∷ w ++ r) (b ∷ w ++ q) says st t rows st' e')))

    pub rows_next : SameRows x y (tables_after (placed at (b ∷ w ++ r)) st' e' t).series
    rows_next = same_rows x y room at front (b ∷ w ++ r) (b ∷ w ++ q) says st t rows ex ey st' e'

  -- w is what x and y share from the place `at` on, and x is read up to p, the end of it
  reach : (w : List ℕ) (k at p : ℕ) → p ≡ at + length w → w ++ r ≡ drop at x → w ++ q ≡ drop at y → at + length (w ++ r) ≡ length x → k ≤ length w
      → (st : State) (t : Tables) → SameRows x y t.series → (read_items x room (items_after k at (w ++ r)) st t).found.place ≡ p
      → Reached p (items_after k at (w ++ r)) (items_after k at (w ++ q)) st t
  unfolding items_after refused_at
  reach [] zero at p e ex ey long h st t rows z =
      let same : p ≡ at = omega arith in
      record { state = st; tables = t; left = rw same; right = rw same; rows = rows }
  reach [] (suc k) at p e ex ey long h st t rows z = absurd (omega arith)
  reach (b ∷ w) (suc k) at p e ex ey long h st t rows z =
      reach w k (suc at) p (omega arith) (tail_of x at b (w ++ r) ex) (tail_of y at b (w ++ q) ey) (omega arith) (omega arith) st t rows z
  reach (b ∷ w) zero at p e ex ey long h st t rows z =
      by (step_of x t.series room (placed at (b ∷ w ++ r)) st) refl
      (λ k l st' t' rows'. reach w k (suc at) p (omega arith) (tail_of x at b (w ++ r) ex) (tail_of y at b (w ++ q) ey) (omega arith) l st' t' rows')
    where
      here : Placed
      here = placed at (b ∷ w ++ r)

      n : ℕ
      n = pred (item_end (item at (b ∷ w ++ r)))

      by : (o : Step) → step_of x t.series room (placed at (b ∷ w ++ r)) st ≡ o
          → ((k : ℕ) → k ≤ length w → (st' : State) (t' : Tables) → SameRows x y t'.series → (read_items x room (items_after k (suc at) (w ++ r)) st' t').found.place ≡ p
          → Reached p (items_after k (suc at) (w ++ r)) (items_after k (suc at) (w ++ q)) st' t')
          → Reached p (items_after 0 at (b ∷ w ++ r)) (items_after 0 at (b ∷ w ++ q)) st t
      by (Refused m) o ih =
          let f : at ≡ p = sym (ap (λ (u : Out). u.found.place) (read-stop x room here (items_after n (suc at) (w ++ r)) st t m o)) ∙ z in absurd (omega arith)
      by (Next st' e') o ih =
          let t' = tables_after here st' e' t in
          let next = read_next x room here (items_after n (suc at) (w ++ r)) st t st' e' o in
          let z' : (read_items x room (items_after n (suc at) (w ++ r)) st' t').found.place ≡ p = sym (ap (λ (u : Out). u.found.place) next) ∙ z in
          let low = moved-behind x room at b (w ++ r) st t st' e' long o in
          let size : suc n ≡ item_end (item at (b ∷ w ++ r)) = one_less (item_end (item at (b ∷ w ++ r))) low.0.some in
          let fits : item_end (item at (b ∷ w ++ r)) ≤ suc (length w) = omega (arith, low.1, z) in
          onward next (passed at b w ex ey st t rows st' e' o fits) (ih n (omega (arith, size, fits)) st' t' (rows_next at b w ex ey st t rows st' e' o fits) z')

-- ---- a document x, read from its first item on, at k, up to the place p

into : (doc : List ℕ) (t : Tables) (k : ℕ) → begin doc ≡ Ok k → read_into doc t ≡ read_items doc (room_in t) (items_after 0 k (drop k doc)) begun t
unfolding read_into read_after items_read items_from
into doc t k e = rw e

module _ (x : List ℕ) (t : Tables) (k p : ℕ) (bx : begin x ≡ Ok k) (place : (read_items x (room_in t) (items_after 0 k (drop k x)) begun t).found.place ≡ p) where
  long : k + length (drop k x) ≡ length x
  long = let b = begin-told x k bx in omega (arith, b.inside, length-drop k x)

  within : (k ≤ p) × (p ≤ length x)
  within = let l = lies x (room_in t) (drop k x) 0 k long (omega arith) begun t in (omega (arith, l.0, place), omega (arith, l.1, place))

  -- the first item, where p is behind it
  passed-by : (l : List ℕ) → k + length l ≡ length x → k < p → (read_items x (room_in t) (items_after 0 k l) begun t).found.place ≡ p
      → (is_readable (item k l) ≡ true) × (k + item_end (item k l) ≤ p)
  unfolding items_after read_items refused_at
  passed-by [] e low z = absurd (omega (arith, z, ended-place (rows_of begun.kind) (length x) begun))
  passed-by (b ∷ l) e low z = by (step_of x t.series (room_in t) (placed k (b ∷ l)) begun) refl
    where
      rest : List Placed
      rest = items_after (pred (item_end (item k (b ∷ l)))) (suc k) l

      by : (o : Step) → step_of x t.series (room_in t) (placed k (b ∷ l)) begun ≡ o → (is_readable (item k (b ∷ l)) ≡ true) × (k + item_end (item k (b ∷ l)) ≤ p)
      by (Refused n) o =
          let f : k ≡ p = sym (ap (λ (u : Out). u.found.place) (read-stop x (room_in t) (placed k (b ∷ l)) rest begun t n o)) ∙ z in absurd (omega arith)
      by (Next st' e') o =
          let low = moved-behind x (room_in t) k b l begun t st' e' e o in
          (moved-read x t.series (room_in t) (placed k (b ∷ l)) begun st' e' o, omega (arith, low.1, z))

  first-passed : k < p → (is_readable (item k (drop k x)) ≡ true) × (k + item_end (item k (drop k x)) ≤ p)
  first-passed low = passed-by (drop k x) long low place

  -- y shares the p bytes before it
  module _ (y : List ℕ) (shared : take p y ≡ take p x) (stop : TextEnds (drop p x) → TextEnds (drop p y)) (rows : SameRows x y t.series) where
    come : Reached x y (room_in t) (drop p x) (drop p y) stop p (items_after 0 k (drop k x)) (items_after 0 k (drop k y)) begun t
    come =
        let low = within in
        let w = take (p - k) (drop k x) in
        let sum : k + (p - k) ≡ p = omega (arith, low.0) in
        let wy : take (p - k) (drop k y) ≡ w = shared-behind x y k (p - k) (rw sum shared) (omega (arith, low.1, sum)) in
        let sx : w ++ drop p x ≡ drop k x =
        ap (λ (n : ℕ). w ++ drop n x) (sym sum) ∙ ap (λ (l : List ℕ). w ++ l) (sym (drop-drop (p - k) k x)) ∙ take-append-drop (p - k) (drop k x) in
        let sy : w ++ drop p y ≡ drop k y =
        ap (λ (n : ℕ). w ++ drop n y) (sym sum) ∙ ap (λ (l : List ℕ). w ++ l) (sym (drop-drop (p - k) k y)) ∙ ap (λ (l : List ℕ). l ++ drop (p - k) (drop k y)) (sym wy)
        ∙ take-append-drop (p - k) (drop k y) in
        let size : length w ≡ p - k = length-take-le (p - k) (drop k x) (omega (arith, low.1, length-drop k x)) in
        rw (sx, sy) at
        (reach x y (room_in t) (drop p x) (drop p y) stop w 0 k p (omega (arith, size, sum)) sx sy (ap (λ (l : List ℕ). k + length l) sx ∙ long) (omega arith) begun t rows
        (ap (λ (l : List ℕ). (read_items x (room_in t) (items_after 0 k l) begun t).found.place) sx ∙ place))

-- ---- the same fault

-- the item at p stands in both, and refuses x
module _ (x y : List ℕ) (room : Room) (p : ℕ) (st : State) (t : Tables) (rows : SameRows x y t.series) where
  stopped : (l m : List ℕ) → p + length l ≡ length x → 0 < length l → 0 < length m → item p m ≡ item p l → take (item_end (item p l)) m ≡ take (item_end (item p l)) l
      → (read_items x room (items_after 0 p l) st t).found.place ≡ p → read_items y room (items_after 0 p m) st t ≡ read_items x room (items_after 0 p l) st t
  unfolding items_after
  stopped [] m e l l' same bytes z = absurd (omega arith)
  stopped (b ∷ l) [] e k k' same bytes z = absurd (omega arith)
  stopped (b ∷ l) (c ∷ m) e k k' same bytes z = by (step_of x t.series room (placed p (b ∷ l)) st) refl
    where
      i : Item
      i = item p (b ∷ l)

      xs : List Placed
      xs = items_after (pred (item_end (item p (b ∷ l)))) (suc p) l

      by : (o : Step) → step_of x t.series room (placed p (b ∷ l)) st ≡ o → read_items y room (items_after 0 p (c ∷ m)) st t ≡ read_items x room (items_after 0 p (b ∷ l)) st t
      by (Next st' e') o = let low = moved-behind x room p b l st t st' e' e o in absurd (omega (arith, low.0.some, low.1, z))
      by (Refused n) o =
          let says = item-says p (b ∷ l) (c ∷ m) bytes in
          rw same
          (read-stop y room (record { at = p; item = i; rest = c ∷ m }) (items_after (pred (item_end i)) (suc p) m) st t n
          (sym (same_step x y room p i (b ∷ l) (c ∷ m) says st t rows) ∙ o)
          ∙ sym (read-stop x room (placed p (b ∷ l)) xs st t n o))

-- every item has a byte, and none goes on behind the end
sized : (before : ℕ) (s : List ℕ) → 0 < length s → (0 < item_end (item before s)) × (item_end (item before s) ≤ length s)
sized before s some =
    ⊎_elim (λ r. let w = item-whole before s r in (w.some, w.inside)) (λ r. by (item before s) r) (bool_cases (is_readable (item before s)))
  where
    by : (i : Item) → is_readable i ≡ false → (0 < item_end i) × (item_end i ≤ length s)
    by (Start t) r = never (sym r)
    by (Empty t) r = never (sym r)
    by (End n e) r = never (sym r)
    by (Text w e) r = never (sym r)
    by (Comment e) r = never (sym r)
    by (Unreadable p) r = (omega arith, omega arith)

none_read : (before : ℕ) → is_readable (item before []) ≡ false
unfolding item byte text_item text_to first_at walk here
none_read before = refl

module _ (x : List ℕ) (ns np na : ℕ) where
  abbrev t : Tables
  t = blank ns np na

  none-shown : (y : List ℕ) → SameRows x y t.series
  unfolding blank
  none-shown y = shown-none x y ◌≡◌ refl ns

  module _ (p : ℕ) (place : (read_into x t).found.place ≡ p) where
    at_place : (k : ℕ) → begin x ≡ Ok k → (read_items x (room_in t) (items_after 0 k (drop k x)) begun t).found.place ≡ p
    at_place k e = sym (ap (λ (o : Out). o.found.place) (into x t k e)) ∙ place

    misdeclared-place : (q : ℕ) → begin x ≡ Err q → q ≡ p
    unfolding read_into read_after refused_at
    misdeclared-place q e = rw e at place

    -- p is the place of an item, and x and y share its bytes
    module _ (y : List ℕ) (before : p < length x) (bytes : take (p + item_end (item p (drop p x))) y ≡ take (p + item_end (item p (drop p x))) x) where
      size : (0 < item_end (item p (drop p x))) × (p + item_end (item p (drop p x)) ≤ length x)
      size = let z = sized p (drop p x) (omega (arith, length-drop p x)) in (z.0, omega (arith, z.1, length-drop p x))

      fewer : (n : ℕ) → n ≤ p + item_end (item p (drop p x)) → take n y ≡ take n x
      fewer n l = shared-less x y n (p + item_end (item p (drop p x))) l bytes

      there : p < length y
      there = let z = size in shared_long x y (suc p) (fewer (suc p) (omega (arith, z.0))) before

      ends-too : TextEnds (drop p x) → TextEnds (drop p y)
      unfolding TextEnds byte
      ends-too h =
          let z = size in
          let same = shared-front x y (p + item_end (item p (drop p x))) bytes p (omega (arith, z.0)) in
          rw (drop-cons y p 0 there) (sym same ∙ rw (drop-cons x p 0 before) at h)

      behind : take (item_end (item p (drop p x))) (drop p y) ≡ take (item_end (item p (drop p x))) (drop p x)
      behind = shared-behind x y p (item_end (item p (drop p x))) bytes size.1

      from-same : (k : ℕ) → begin x ≡ Ok k → begin y ≡ Ok k → item p (drop p y) ≡ item p (drop p x) → read_into y t ≡ read_into x t
      from-same k ex ey same =
          let z = at_place k ex in
          let c = come x t k p ex z y (fewer p (omega arith)) ends-too (none-shown y) in
          into y t k ey
          ∙ c.right
          ∙ stopped x y (room_in t) p c.state c.tables c.rows (drop p x) (drop p y) (omega (arith, before, length-drop p x)) (omega (arith, before, length-drop p x))
          (let l = there in omega (arith, l, length-drop p y)) same behind (sym (ap (λ (o : Out). o.found.place) c.left) ∙ z)
          ∙ sym c.left
          ∙ sym (into x t k ex)

      -- the items of y begin where those of x do, and the one at p is the same
      into-same : begin y ≡ begin x → item p (drop p y) ≡ item p (drop p x) → read_into y t ≡ read_into x t
      unfolding read_into read_after
      into-same eb same = by (begin x) refl
        where
          by : (b : Result ℕ ℕ) → begin x ≡ b → read_into y t ≡ read_into x t
          by (Ok k) e = from-same k e (eb ∙ e) same
          by (Err q) e = rw (eb ∙ e, e)

      module _ (read : is_readable (item p (drop p x)) ≡ true) where
        begin-here : (k : ℕ) → begin x ≡ Ok k → k ≡ p → begin y ≡ Ok k
        begin-here k e z = rw z (begin-front x y p (rw z at e) read bytes)

        begin-again : (k : ℕ) → begin x ≡ Ok k → begin y ≡ Ok k
        begin-again k e =
            let z = at_place k e in
            let low = within x t k p e z in
            ⊎_elim
            (λ l. let f = first-passed x t k p e z l.0 in begin-front x y k e f.0 (fewer (k + item_end (item k (drop k x))) (omega (arith, f.1))))
            (λ l. begin-here k e (omega (arith, l.0, low.0)))
            (ltb-cases k p)

      -- or that one ends where the shared bytes do
      into-readable : EndsBefore (item p (drop p x)) (drop (p + item_end (item p (drop p x))) y) → read_into y t ≡ read_into x t
      into-readable h =
          let read = ends_read (item p (drop p x)) _ h in
          let same = item-near p (drop p x) (drop p y) behind (rw (drop-drop (item_end (item p (drop p x))) p y) h) in
          by (begin x) refl read same
        where
          by : (b : Result ℕ ℕ) → begin x ≡ b → is_readable (item p (drop p x)) ≡ true → item p (drop p y) ≡ item p (drop p x) → read_into y t ≡ read_into x t
          by (Ok k) e read same = from-same k e (begin-again read k e) same
          by (Err q) e read same =
              let d = rw (misdeclared-place q e) at (refused-declaration x q e) in never (sym (xml-unread p (drop p x) d) ∙ read)

    -- ---- x cut at p

    over : drop p (take p x) ≡ []
    over = drop_of_length-le (take p x) {i = p} (omega (arith, length-take p x))

    nothing_ends : TextEnds (drop p x) → TextEnds (drop p (take p x))
    unfolding TextEnds
    nothing_ends h = rw over tt

    ended-cut : p ≤ length x → (st : State) (t' : Tables) → read_into (take p x) t ≡ read_items (take p x) (room_in t) (items_after 0 p (drop p (take p x))) st t'
        → EndedAt p (read_into (take p x) t).found
    unfolding items_after read_items
    ended-cut l st t' e =
        rw (e, over) (rw (length-take-le p x l) (ended_by (rows_of st.kind) p st))

    pub cut-into : EndedAt p (read_into (take p x) t).found
    cut-into = by (begin x) refl
      where
        by : (b : Result ℕ ℕ) → begin x ≡ b → EndedAt p (read_into (take p x) t).found
        by (Ok k) e =
            let z = at_place k e in
            let low = within x t k p e z in
            let c = come x t k p e z (take p x) (take-take p p x (omega arith)) nothing_ends (none-shown (take p x)) in
            let again : begin (take p x) ≡ Ok k =
            ⊎_elim
            (λ l. let f = first-passed x t k p e z l.0 in begin-front x (take p x) k e f.0 (take-take (k + item_end (item k (drop k x))) p x f.1))
            (λ l. let same : k ≡ p = omega (arith, l.0, low.0) in rw same (begin-cut x p (rw same at e)))
            (ltb-cases k p) in
            ended-cut low.1 c.state c.tables (into (take p x) t k again ∙ c.right)
        by (Err q) e =
            let same = misdeclared-place q e in
            let c : (begin (take p x) ≡ Ok p) × (p ≤ length x) = rw same at (misdeclared-cut x q e) in
            ended-cut c.1 begun t (into (take p x) t p c.0)

-- ---- what is answered

-- of x the place p is told
module _ (x : List ℕ) (ns np na : ℕ) (shape : Shape) (nb : ℕ) (lx : length x ≤ 1048576) (p : ℕ) (at : (read_of x ns np na shape nb).answer.place ≡ p) where
  abbrev outcome : List ℕ → Outcome
  outcome doc = read_of doc ns np na shape nb

  place-into : 16 ≤ nb → (read_into x (blank ns np na)).found.place ≡ p
  place-into wide = sym (place_is x ns np na shape nb wide lx) ∙ at

  -- the document that ends there is accepted, or refused with 3 at its end
  pub cut-ended : 16 ≤ nb → ((outcome (take p x)).answer.refusal ≡ 0) ⊎ (((outcome (take p x)).answer.refusal ≡ 3) × ((outcome (take p x)).answer.place ≡ p))
  cut-ended wide =
      let short : length (take p x) ≤ 1048576 = omega (arith, lx, length-take p x) in
      rw (refusal_is (take p x) ns np na shape nb wide short, place_is (take p x) ns np na shape nb wide short) (cut-into x ns np na p (place-into wide))

  abbrev faulty : Item
  faulty = item p (drop p x)

  module _ (y : List ℕ) (ly : length y ≤ 1048576) where
    lifted : (16 ≤ nb → read_into y (blank ns np na) ≡ read_into x (blank ns np na)) → outcome y ≡ outcome x
    unfolding read_sheet
    lifted e =
        ⊎_elim
        (λ l. sym (read-unnoted y ns np na shape nb l.0) ∙ read-unnoted x ns np na shape nb l.0)
        (λ l.
        sym (read-noted y ns np na shape nb l.0)
        ∙ rw (le-ltb 1048576 (length y) ly, le-ltb 1048576 (length x) lx, e l.0) refl
        ∙ read-noted x ns np na shape nb l.0)
        (ltb-cases nb 16)

    -- y shares the bytes up to the end of the item there, and in y too that is its end
    pub nothing-behind : take (p + item_end faulty) y ≡ take (p + item_end faulty) x → EndsBefore faulty (drop (p + item_end faulty) y) → outcome y ≡ outcome x
    nothing-behind bytes h = lifted (λ wide. into-readable x ns np na p (place-into wide) y before bytes h)
      where
        before : p < length x
        before =
            ⊎_elim (λ l. l.0)
            (λ l.
            let none : is_readable faulty ≡ false = rw (drop_of_length-le x {i = p} l.0) (none_read p) in
            never (sym none ∙ ends_read faulty _ h))
            (ltb-cases p (length x))

    -- or the same item stands there, and the items of both begin at one place
    pub same-fault : p < length x → begin y ≡ begin x → take (p + item_end faulty) y ≡ take (p + item_end faulty) x → item p (drop p y) ≡ faulty → outcome y ≡ outcome x
    same-fault before eb bytes same = lifted (λ wide. into-same x ns np na p (place-into wide) y before bytes eb same)
