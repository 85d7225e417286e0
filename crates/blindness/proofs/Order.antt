-- In a document that is accepted, row k has its amount from Qty number k. Assumes nothing.
use Prim.Native.Nat.{ℕ, zero, suc, ◌+◌, ◌-◌, ◌<◌, ◌≤◌}
use mathlib.Core.Path.{◌≡◌, refl, ap, ◌∙◌}
use mathlib.Core.List.{List, [], ◌∷◌}
use mathlib.Core.Bool.{Bool, true, false, cond}
use mathlib.Core.Logic.{⊎_elim}
use native.Mathlib.Omega.{arith}
use native.Mathlib.Nat.{add-zero}
use lib.IntN.{ℤ}
use lib.ListN.{length, get_or, set, length-set}
use lib.Seq.{get_or-set_same, get_or-set_other}
use Rattle.lists.proofs.Cases.{bool_cases, zero-not-one}
use Rattle.tags.specs.Known.{absent}
use Rattle.slices.specs.declared.Span.{Span}
use Rattle.items.specs.Parts.{span_of}
use Rattle.items.specs.Item.{item}
use Rattle.items.specs.declared.Item.{Item}
use Rattle.structure.specs.Rows.{over_of}
use Rattle.guideline.specs.Rows.{rows_of}
use Rattle.states.specs.Moves.{step}
use Rattle.states.specs.declared.State.{State}
use Rattle.states.specs.declared.Room.{Room}
use Rattle.states.specs.declared.Entry.{Entry}
use Rattle.states.specs.declared.Entry.TheVariants.{Nothing, Series, Identification, Object, BusinessType, Direction, Area, Interval, Position, Amount}
use Rattle.states.specs.Step.{Step, Next, Refused}
use Rattle.reader.specs.Items.{Placed}
use Rattle.reader.specs.Rows.{series_after, positions_after, amounts_after, used_before}
use Rattle.reader.specs.Reading.{tab, refused_at, accepted_at, ended_at, without_used, step_of, tables_after, read_items}
use Rattle.reader.proofs.Ran.{read_next, read-stop}
use Rattle.blindness.specs.Readable.{named_qty}
use Rattle.blindness.specs.Sources.{value_at, qty_values}
use Rattle.blindness.proofs.Sources.{sources_after, sources_in}
use Rattle.blindness.proofs.Runs.{unrefused, sources_next}
use Rattle.blindness.proofs.Counts.{Counted, Passed, Good, step-good, over-waits}

-- at the end of the document
ended-over : (rows : List ℕ) (place : ℕ) (x : State) → (ended_at rows place x).refusal ≡ 0 → over_of rows x.row x.inside ≡ true
unfolding ended_at refused_at accepted_at
ended-over rows place x h = over (over_of rows x.row x.inside) h
  where
    over : (t : Bool) → (cond t (accepted_at place x) (refused_at 3 place x)).refusal ≡ 0 → t ≡ true
    over true e = refl
    over false e = absurd (omega (arith, e))

ended-intervals : (rows : List ℕ) (place : ℕ) (x : State) → (ended_at rows place x).intervals ≡ x.intervals
unfolding ended_at refused_at accepted_at
ended-intervals rows place x = ⊎_elim (λ u. rw u) (λ u. rw u) (bool_cases (over_of rows x.row x.inside))

-- an item that is refused has a number
refused-number : (doc t : List ℕ) (i : Item) (s : List ℕ) (c : ℕ) (room : Room) (m : ℕ) (b : Bool) (q : Step) (n : ℕ)
    → Good c room m b q → without_used doc t i s q ≡ Refused n → n ≡ 0 → ⊥
unfolding without_used Good
refused-number doc t i s c room m b (Next x e) n g h z = used (used_before doc t (span_of i) s x.series e) h
  where
    used : (u : Bool) → cond u (Refused 9) (Next x e) ≡ Refused n → ⊥
    used true h = let k : 9 ≡ n = cc in omega (arith, k, z)
    used false h = zero-not-one (cc)
refused-number doc t i s c room m b (Refused k) n g h z = let e : k ≡ n = cc in g (e ∙ z)

passed-good : (c : ℕ) (room : Room) (m : ℕ) (b : Bool) (q : Step) (x : State) (e : Entry) → q ≡ Next x e → Good c room m b q → Passed c room m b x e
unfolding Good
passed-good c room m b q x e z g = rw z at g

source-kept : (at : ℕ) (v : Span) (st : State) (e : Entry) (t : List Span) → (e ≡ Amount → ⊥) → sources_after at v st e t ≡ t
unfolding sources_after
source-kept at v st Nothing t h = refl
source-kept at v st Series t h = refl
source-kept at v st Identification t h = refl
source-kept at v st Object t h = refl
source-kept at v st BusinessType t h = refl
source-kept at v st Direction t h = refl
source-kept at v st Area t h = refl
source-kept at v st Interval t h = refl
source-kept at v st (Position p) t h = refl
source-kept at v st Amount t h = absurd (h refl)

source-set : (p : Placed) (st : State) (e : Entry) (t : List Span) (c : ℕ) → e ≡ Amount → st.intervals ≡ suc c
    → sources_after p.at (span_of p.item) st e t ≡ set t c (value_at p)
unfolding sources_after value_at
source-set p st e t c h n = let k : st.intervals - 1 ≡ c = omega (arith, n) in rw (h, k)

-- the cells before c are as they were, and from c on they have these values
abbrev pub Ordered : ℕ → List Span → List Span → List Span → Type 0
Ordered c so r vs = ((j : ℕ) → j < c → get_or r j absent ≡ get_or so j absent) × ((j : ℕ) → get_or r (c + j) absent ≡ get_or vs j absent)

ordered-set : (c : ℕ) (so r vs : List Span) (v : Span) → c < length so → Ordered (c + 1) (set so c v) r vs → Ordered c so r (v ∷ vs)
ordered-set c so r vs v l h = (before, from)
  where
    before : (j : ℕ) → j < c → get_or r j absent ≡ get_or so j absent
    before j g = h.0 j (omega arith) ∙ get_or-set_other so c j v absent (λ z. omega (arith, z, g))

    from : (j : ℕ) → get_or r (c + j) absent ≡ get_or (v ∷ vs) j absent
    from zero = ap (λ (n : ℕ). get_or r n absent) (add-zero c) ∙ h.0 c (omega arith) ∙ get_or-set_same so c v absent l
    from (suc j) = let e : c + suc j ≡ c + 1 + j = omega arith in ap (λ (n : ℕ). get_or r n absent) e ∙ h.1 j

module _ (doc : List ℕ) (room : Room) where
  -- what the items are read to, c Qty having been passed before them
  abbrev pub Read : List Placed → State → List ℕ → List ℕ → List ℤ → List Span → ℕ → Type 0
  Read xs x ser pos ams so c =
      Ordered c so (sources_in doc room xs x ser so) (qty_values xs) × ((read_items doc room xs x (tab ser pos ams)).found.intervals ≡ c + length (qty_values xs))

  -- what is known before them
  pub record Before (xs : List Placed) (x : State) (so : List Span) (c : ℕ) : Type 0 where
    pub counted : Counted c room x
    pub low : x.intervals + length xs ≤ 4294967295
    pub wide : room.intervals ≤ length so
    pub empty : (j : ℕ) → c ≤ j → get_or so j absent ≡ absent

  module _ (p : Placed) (xs : List Placed) (x : State) (ser pos : List ℕ) (ams : List ℤ) (so : List Span) (c : ℕ) (h : Before (p ∷ xs) x so c)
      (ok : (read_items doc room (p ∷ xs) x (tab ser pos ams)).found.refusal ≡ 0)
      (ih : (x' : State) (ser' pos' : List ℕ) (ams' : List ℤ) (so' : List Span) (c' : ℕ) → Before xs x' so' c'
      → (read_items doc room xs x' (tab ser' pos' ams')).found.refusal ≡ 0 → Read xs x' ser' pos' ams' so' c') where
    good : Good c room x.intervals (named_qty p.item p.rest) (step x p.item p.rest room)
    good = step-good x room c h.counted (let l = h.low in omega (arith, l)) p.rest p.item

    -- after an item that came to x' with the entry e
    module _ (x' : State) (e : Entry) (z : step_of doc ser room p x ≡ Next x' e)
        (g : Passed c room x.intervals (named_qty p.item p.rest) x' e) where
      abbrev ser' : List ℕ
      ser' = series_after p.at (span_of p.item) p.rest x' e ser

      abbrev pos' : List ℕ
      pos' = positions_after x' e pos

      abbrev ams' : List ℤ
      ams' = amounts_after (span_of p.item) p.rest x' e ams

      ok' : (read_items doc room xs x' (tab ser' pos' ams')).found.refusal ≡ 0
      unfolding tables_after
      ok' = rw (read_next doc room p xs x (tab ser pos ams) x' e z) at ok

      lower : x'.intervals + length xs ≤ 4294967295
      lower = let a = g.small in let b = h.low in omega (arith, a, b)

      by-qty : named_qty p.item p.rest ≡ true → Read (p ∷ xs) x ser pos ams so c
      unfolding qty_values tables_after
      by-qty t =
          let a = g.amount t in
          let k : Counted (c + 1) room x' = rw t at g.counted in
          let f = k.fits in
          let w = h.wide in
          let l : c < length so = omega (arith, f, w, a.1) in
          let r = ih x' ser' pos' ams' (set so c (value_at p)) (c + 1)
          (record {
            counted = k;
            low = lower;
            wide = rw (length-set so c (value_at p)) w;
            empty = λ j q. get_or-set_other so c j (value_at p) absent (λ u. omega (arith, u, q)) ∙ h.empty j (omega arith);
          }) ok' in
          rw (t, sources_next doc room p xs x ser so x' e z, read_next doc room p xs x (tab ser pos ams) x' e z, source-set p x' e so c a.0 a.1)
          (ordered-set c so (sources_in doc room xs x' ser' (set so c (value_at p))) (qty_values xs) (value_at p) l r.0, let u = r.1 in omega (arith, u))

      by-other : named_qty p.item p.rest ≡ false → Read (p ∷ xs) x ser pos ams so c
      unfolding qty_values tables_after
      by-other t =
          let k : Counted (c + 0) room x' = rw t at g.counted in
          rw (
            t,
            sources_next doc room p xs x ser so x' e z,
            read_next doc room p xs x (tab ser pos ams) x' e z,
            source-kept p.at (span_of p.item) x' e so (g.other t),
          )
          (ih x' ser' pos' ams' so c (record { counted = rw (add-zero c) at k; low = lower; wide = h.wide; empty = h.empty }) ok')

    by-step : (q : Step) → step_of doc ser room p x ≡ q → Read (p ∷ xs) x ser pos ams so c
    unfolding step_of refused_at
    by-step (Next x' e) z =
        let y = unrefused doc ser p.item p.rest (step x p.item p.rest room) x' e z in
        let g = passed-good c room x.intervals (named_qty p.item p.rest) (step x p.item p.rest room) x' e y good in
        ⊎_elim (λ t. by-qty x' e z g t) (λ t. by-other x' e z g t) (bool_cases (named_qty p.item p.rest))
    by-step (Refused n) z =
        absurd
        (refused-number doc ser p.item p.rest c room x.intervals (named_qty p.item p.rest) (step x p.item p.rest room) n good z
        (rw (read-stop doc room p xs x (tab ser pos ams) n z) at ok))

  pub order : (xs : List Placed) (x : State) (ser pos : List ℕ) (ams : List ℤ) (so : List Span) (c : ℕ) → Before xs x so c
      → (read_items doc room xs x (tab ser pos ams)).found.refusal ≡ 0 → Read xs x ser pos ams so c
  unfolding read_items sources_in qty_values
  order [] x ser pos ams so c h ok =
      let w = over-waits x (ended-over (rows_of x.kind) (length doc) x ok) in
      let n : x.intervals ≡ c + 0 = rw w at h.counted.count in
      ((λ j l. refl, λ j. h.empty (c + j) (omega arith)), ended-intervals (rows_of x.kind) (length doc) x ∙ n)
  order (p ∷ xs) x ser pos ams so c h ok =
      by-step p xs x ser pos ams so c h ok (λ x' ser' pos' ams' so' c' h' ok'. order xs x' ser' pos' ams' so' c' h' ok') (step_of doc ser room p x) refl
