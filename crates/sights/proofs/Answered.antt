-- "The answer is the reader's": what is found with the room of a table of views is what the reader finds with as much room for series, and room for every
-- interval. Assumes nothing.
use Prim.Native.Nat.{ℕ, zero, suc, pred, ◌+◌, ◌-◌, ◌≤◌, ◌<◌}
use mathlib.Core.Path.{◌≡◌, refl, sym, ap, ◌∙◌}
use mathlib.Core.List.{List, [], ◌∷◌}
use mathlib.Core.Bool.{Bool, true, false, cond}
use mathlib.Core.Logic.{⊎_elim}
use native.Mathlib.Omega.{arith}
use native.Mathlib.Nat.{le_refl}
use lib.Dec.{eqb}
use lib.ListN.{length, get_or, set, length-set}
use lib.Seq.{get_or-set_same, get_or-set_other}
use borrow.Author.Tests.{lt-leb}
use Rattle.std.specs.Prelude.{Option, Some, None}
use Rattle.lists.proofs.Cases.{eqb-cases, zero-not-one}
use Rattle.trims.specs.Trim.{lead_of, trimmed_of}
use Rattle.characters.specs.Says.{says}
use Rattle.slices.specs.declared.Span.{Span}
use Rattle.items.specs.Parts.{span_of}
use Rattle.items.specs.Item.{item, item_end}
use Rattle.items.specs.declared.Tag.{Tag}
use Rattle.items.specs.declared.Item.{Item}
use Rattle.items.specs.declared.Item.TheVariants.{Start, Empty, End, Text, Comment, Unreadable}
use Rattle.series.specs.Row.{is_view, drops_spaces, cells_of, cell_at, with_field, with_view, view}
use Rattle.series.specs.declared.Field.{Field}
use Rattle.series.specs.declared.Field.TheVariants.{Identification, Object, BusinessType, Direction, Area, FirstRow, Count}
use Rattle.states.specs.Moves.{no_room, judged_at, start_judged, started_at, started, moved, step}
use Rattle.states.specs.declared.State.{State}
use Rattle.states.specs.declared.Room.{Room}
use Rattle.states.specs.declared.Entry.{Entry}
use Rattle.states.specs.declared.Entry.TheVariants.{Nothing, Series, Interval, Position, Amount}
use Rattle.states.specs.declared.Entry.TheVariants.{Identification as BringsIdentification, Object as BringsObject, BusinessType as BringsBusinessType, Direction as BringsDirection, Area as BringsArea}
use Rattle.states.specs.Step.{Step, Next, Refused}
use Rattle.reader.specs.Items.{Placed, placed, items_after}
use Rattle.reader.specs.Rows.{brought_by, quoted, count_for, view_after, field_after, series_with, series_after, used, used_in, used_with, used_before}
use Rattle.reader.specs.Reading.{Tables, Out, without_used, step_of, tables_after, read_items}
use Rattle.reader.proofs.Ran.{read_next, read-stop}
use Rattle.promises.specs.Rows.{Sized}
use Rattle.promises.proofs.Steps.{Rises, step-rises}
use Rattle.promises.proofs.Cells.{step-sized}
use Rattle.promises.proofs.Readings.{Held, turned, passed, stepped}

module _ (room other : Room) (rooms : room.series ≡ other.series) where
  -- ---- the state

  module _ (st : State) (a : st.intervals < room.intervals) (b : st.intervals < other.intervals) where
    room-same : (role : ℕ) → no_room st role room ≡ no_room st role other
    unfolding no_room
    room-same role = rw (rooms, lt-leb _ _ a, lt-leb _ _ b) refl

    judged-same : (kind : ℕ) (rows : List ℕ) (r : ℕ) (t : Tag) (s : List ℕ) (empty : Bool)
        → start_judged st kind rows r t s empty room ≡ start_judged st kind rows r t s empty other
    unfolding start_judged judged_at
    judged-same kind rows r t s empty = rw (room-same) refl

    at_same : (kind : ℕ) (rows : List ℕ) (t : Tag) (s : List ℕ) (empty : Bool) (d : Option ℕ)
        → started_at st kind rows t s empty room d ≡ started_at st kind rows t s empty other d
    unfolding started_at
    at_same kind rows t s empty (Some r) = rw (judged-same kind rows r t s empty) refl
    at_same kind rows t s empty None = refl

    moved_same : (kind : ℕ) (rows : List ℕ) (i : Item) (s : List ℕ) → moved st kind rows i s room ≡ moved st kind rows i s other
    unfolding moved started
    moved_same kind rows (Start t) s = at_same kind rows t s false _
    moved_same kind rows (Empty t) s = at_same kind rows t s true _
    moved_same kind rows (End n e) s = refl
    moved_same kind rows (Text white e) s = refl
    moved_same kind rows (Comment e) s = refl
    moved_same kind rows (Unreadable p) s = refl

    step_same : (i : Item) (s : List ℕ) → step st i s room ≡ step st i s other
    unfolding step
    step_same i s = moved_same _ _ i s

  -- ---- the rows of series that there is room for

  abbrev most : ℕ
  most = cells_of room.series

  abbrev Agree : List ℕ → List ℕ → Type 0
  Agree t u = (j : ℕ) → j < most → get_or t j 0 ≡ get_or u j 0

  set-agree : (t u : List ℕ) → most ≤ length t → most ≤ length u → Agree t u → (i v : ℕ) → Agree (set t i v) (set u i v)
  set-agree t u lt lu g i v j h =
      ⊎_elim
      (λ (y : (i ≡ j) × (eqb i j ≡ true)).
      rw y.0 (get_or-set_same t j v 0 (omega (arith, h, lt)) ∙ sym (get_or-set_same u j v 0 (omega (arith, h, lu)))))
      (λ (y : (i ≡ j → ⊥) × (eqb i j ≡ false)).
      get_or-set_other t i j v 0 (λ e. y.0 (sym e)) ∙ g j h ∙ sym (get_or-set_other u i j v 0 (λ e. y.0 (sym e))))
      (eqb-cases i j)

  module _ (t u : List ℕ) (lt : most ≤ length t) (lu : most ≤ length u) (g : Agree t u) where
    view-same : (doc : List ℕ) (i : ℕ) → i < room.series → view doc t i Identification ≡ view doc u i Identification
    unfolding view
    view-same doc i h = rw (g (cell_at i Identification) (omega (arith, h)), g (cell_at i Identification + 1) (omega (arith, h))) refl

    used-same : (doc : List ℕ) (n : ℕ) (id : List ℕ) → n ≤ room.series → used doc t n id ≡ used doc u n id
    unfolding used
    used-same doc zero id h = refl
    used-same doc (suc n) id h = rw (view-same doc n (omega (arith, h)), used-same doc n id (omega (arith, h))) refl

    field-same : (doc : List ℕ) (v : Span) (s : List ℕ) (n : ℕ) (f : Field) → n ≤ room.series → used_in doc t v s n f ≡ used_in doc u v s n f
    unfolding used_in
    field-same doc v s n Identification h = used-same doc (n - 1) (says (quoted v s)) (omega (arith, h))
    field-same doc v s n Object h = refl
    field-same doc v s n BusinessType h = refl
    field-same doc v s n Direction h = refl
    field-same doc v s n Area h = refl
    field-same doc v s n FirstRow h = refl
    field-same doc v s n Count h = refl

    before_same : (doc : List ℕ) (v : Span) (s : List ℕ) (n : ℕ) (e : Entry) → n ≤ room.series → used_before doc t v s n e ≡ used_before doc u v s n e
    unfolding used_before used_with brought_by
    before_same doc v s n Nothing h = refl
    before_same doc v s n Series h = field-same doc v s n FirstRow h
    before_same doc v s n BringsIdentification h = field-same doc v s n Identification h
    before_same doc v s n BringsObject h = field-same doc v s n Object h
    before_same doc v s n BringsBusinessType h = field-same doc v s n BusinessType h
    before_same doc v s n BringsDirection h = field-same doc v s n Direction h
    before_same doc v s n BringsArea h = field-same doc v s n Area h
    before_same doc v s n Interval h = field-same doc v s n Count h
    before_same doc v s n (Position p) h = refl
    before_same doc v s n Amount h = refl

    view-agree : (i : ℕ) (f : Field) (a n : ℕ) → Agree (with_view t i f a n) (with_view u i f a n)
    unfolding with_view
    view-agree i f a n =
        let c = cell_at i f in
        set-agree (set t c a) (set u c a) (rw (length-set t c a) lt) (rw (length-set u c a) lu) (set-agree t u lt lu g c a) (c + 1) n

    views-agree : (at : ℕ) (v : Span) (s : List ℕ) (i : ℕ) (f : Field) → Agree (view_after at v s i f t) (view_after at v s i f u)
    views-agree at v s i f =
        by (drops_spaces f)
      where
        by : (b : Bool)
            → Agree (cond b (with_view t i f (at + v.start + lead_of (quoted v s)) (length (trimmed_of (quoted v s)))) (with_view t i f (at + v.start) v.len))
            (cond b (with_view u i f (at + v.start + lead_of (quoted v s)) (length (trimmed_of (quoted v s)))) (with_view u i f (at + v.start) v.len))
        by true = view-agree i f _ _
        by false = view-agree i f _ _

    field-agree : (at : ℕ) (v : Span) (s : List ℕ) (st : State) (f : Field) → Agree (field_after at v s st f t) (field_after at v s st f u)
    unfolding field_after
    field-agree at v s st f = by (is_view f)
      where
        by : (b : Bool)
            → Agree (cond b (view_after at v s (st.series - 1) f t) (with_field t (st.series - 1) f (count_for st f)))
            (cond b (view_after at v s (st.series - 1) f u) (with_field u (st.series - 1) f (count_for st f)))
        by true = views-agree at v s (st.series - 1) f
        by false = set-agree t u lt lu g (cell_at (st.series - 1) f) (count_for st f)

    after-agree : (at : ℕ) (v : Span) (s : List ℕ) (st : State) (e : Entry) → Agree (series_after at v s st e t) (series_after at v s st e u)
    unfolding series_after series_with brought_by
    after-agree at v s st Nothing = g
    after-agree at v s st Series = field-agree at v s st FirstRow
    after-agree at v s st BringsIdentification = field-agree at v s st Identification
    after-agree at v s st BringsObject = field-agree at v s st Object
    after-agree at v s st BringsBusinessType = field-agree at v s st BusinessType
    after-agree at v s st BringsDirection = field-agree at v s st Direction
    after-agree at v s st BringsArea = field-agree at v s st Area
    after-agree at v s st Interval = field-agree at v s st Count
    after-agree at v s st (Position p) = g
    after-agree at v s st Amount = g

  -- ---- the items

  module _ (doc : List ℕ) (wide : length doc ≤ room.intervals) (broad : length doc ≤ other.intervals) (ns np na ms mp ma : ℕ) (first : most ≤ ns) (second : most ≤ ms) where
    module _ (p : Placed) (st : State) (t u : Tables) (zt : Sized ns np na t) (zu : Sized ms mp ma u) (g : Agree t.series u.series)
        (a : st.intervals < room.intervals) (b : st.intervals < other.intervals) where
      long-t : most ≤ length t.series
      long-t = rw zt.series first

      long-u : most ≤ length u.series
      long-u = rw zu.series second

      turn-same : ((y : State) (e : Entry) → step st p.item p.rest room ≡ Next y e → y.series ≤ room.series)
          → step_of doc t.series room p st ≡ step_of doc u.series other p st
      unfolding step_of without_used
      turn-same low = by (step st p.item p.rest room) refl ∙ ap (without_used doc u.series p.item p.rest) (step_same st a b p.item p.rest)
        where
          by : (q : Step) → step st p.item p.rest room ≡ q
              → without_used doc t.series p.item p.rest q ≡ without_used doc u.series p.item p.rest q
          by (Next y e) z = rw (before_same t.series u.series long-t long-u g doc (span_of p.item) p.rest y.series e (low y e z)) refl
          by (Refused n) z = refl

      series-agree : (y : State) (e : Entry) → Agree (tables_after p y e t).series (tables_after p y e u).series
      unfolding tables_after
      series-agree y e = after-agree t.series u.series long-t long-u g p.at (span_of p.item) p.rest y e

    -- an item, and what is read after it
    module _ (p : Placed) (xs : List Placed) (less : ℕ) (st : State) (t u : Tables) (h : Held doc room ns np na (suc less) st t) (z : Sized ms mp ma u)
        (g : Agree t.series u.series) where
      small : st.intervals < length doc
      small = let i = h.intervals in omega (arith, i)

      low : (q : Step) → step st p.item p.rest room ≡ q → Rises room st q → (y : State) (e : Entry) → q ≡ Next y e → y.series ≤ room.series
      low (Next y' e') w s y e d = let f : y' ≡ y = cc in rw f at (s.housed h.housed).series
      low (Refused n) w s y e d = absurd (zero-not-one (cc))

      turn : step_of doc t.series room p st ≡ step_of doc u.series other p st
      turn =
          let s = small in
          turn-same p st t u h.sized z g (omega (arith, s, wide)) (omega (arith, s, broad))
          (λ y e d. low (step st p.item p.rest room) refl (step-rises st h.sound p.item p.rest room) y e d)

      item-same : ((y : State) (e : Entry) → Held doc room ns np na less y (tables_after p y e t)
          → (read_items doc room xs y (tables_after p y e t)).found ≡ (read_items doc other xs y (tables_after p y e u)).found)
          → (q : Step) → step_of doc t.series room p st ≡ q → Rises room st q → (read_items doc room (p ∷ xs) st t).found ≡ (read_items doc other (p ∷ xs) st u).found
      item-same ih (Next y e) w s =
          ap (λ (o : Out). o.found) (read_next doc room p xs st t y e w)
          ∙ ih y e (turned doc room ns np na (suc less) st t h p less (le_refl (suc less)) y e s)
          ∙ sym (ap (λ (o : Out). o.found) (read_next doc other p xs st u y e (sym turn ∙ w)))
      item-same ih (Refused n) w s =
          ap (λ (o : Out). o.found) (read-stop doc room p xs st t n w) ∙ sym (ap (λ (o : Out). o.found) (read-stop doc other p xs st u n (sym turn ∙ w)))

    pub found-same : (k at : ℕ) (l : List ℕ) (st : State) (t u : Tables) → Held doc room ns np na (length l) st t → Sized ms mp ma u → Agree t.series u.series
        → (read_items doc room (items_after k at l) st t).found ≡ (read_items doc other (items_after k at l) st u).found
    unfolding items_after read_items
    found-same k at [] st t u h z g = refl
    found-same (suc k) at (c ∷ l) st t u h z g =
        found-same k (suc at) l st t u (passed doc room ns np na (suc (length l)) st t h (length l) (omega arith)) z g
    found-same zero at (c ∷ l) st t u h z g =
        let p = placed at (c ∷ l) in
        let n = pred (item_end (item at (c ∷ l))) in
        let s = small p (items_after n (suc at) l) (length l) st t u h z g in
        item-same p (items_after n (suc at) l) (length l) st t u h z g
        (λ y e k.
        found-same n (suc at) l y (tables_after p y e t) (tables_after p y e u) k (step-sized ms mp ma p y e u z)
        (series-agree p st t u h.sized z g (omega (arith, s, wide)) (omega (arith, s, broad)) y e))
        (step_of doc t.series room p st) refl (stepped doc t.series room p st h.sound)
