-- Where each amount comes from, followed along the items as they are read. Assumes nothing.
use Prim.Native.Nat.{ℕ, ◌+◌, ◌-◌}
use mathlib.Core.List.{List, [], ◌∷◌}
use mathlib.Core.Bool.{cond}
use lib.ListN.{set, replicate}
use lib.Dec.{eqb}
use Rattle.std.specs.Prelude.{Result, Ok, Err}
use Rattle.items.specs.Parts.{span_of}
use Rattle.lists.specs.Zeros.{zeros}
use Rattle.tags.specs.Known.{absent}
use Rattle.slices.specs.declared.Span.{Span}
use Rattle.prolog.specs.Prolog.{begin}
use Rattle.states.specs.Moves.{begun}
use Rattle.states.specs.declared.State.{State}
use Rattle.states.specs.declared.Room.{Room}
use Rattle.states.specs.declared.Entry.{Entry}
use Rattle.states.specs.declared.Entry.TheVariants.{Nothing, Series, Identification, Object, BusinessType, Direction, Area, Interval, Position, Amount}
use Rattle.states.specs.Step.{Next, Refused}
use Rattle.notes.specs.declared.Shape.{Shape}
use Rattle.reader.specs.Items.{Placed, items_from}
use Rattle.reader.specs.Rows.{series_after}
use Rattle.reader.specs.Reading.{step_of, room_of}
use Rattle.reader.specs.Answer.{read_of}

-- an item at the place `at`, whose `v` is in v, brings an amount: the row of the last interval takes it from there
unfoldable pub sources_after : ℕ → Span → State → Entry → List Span → List Span
sources_after at v st Nothing t = t
sources_after at v st Series t = t
sources_after at v st Identification t = t
sources_after at v st Object t = t
sources_after at v st BusinessType t = t
sources_after at v st Direction t = t
sources_after at v st Area t = t
sources_after at v st Interval t = t
sources_after at v st (Position p) t = t
sources_after at v st Amount t = set t (st.intervals - 1) (record { start = at + v.start; len = v.len })

-- along the items, as they are read: `series` is the series table so far
unfoldable pub sources_in : List ℕ → Room → List Placed → State → List ℕ → List Span → List Span
sources_in doc room [] st series t = t
sources_in doc room (x ∷ xs) st series t =
    elim (step_of doc series room x st) [
      | Next st' e ↦ sources_in doc room xs st' (series_after x.at (span_of x.item) x.rest st' e series) (sources_after x.at (span_of x.item) st' e t)
      | Refused n ↦ t
    ]

unfoldable pub unsourced : ℕ → List Span
unsourced na = replicate na absent

unfoldable pub sources_from : List ℕ → ℕ → ℕ → ℕ → Result ℕ ℕ → List Span
sources_from doc ns np na (Ok n) = sources_in doc (room_of ns np na) (items_from doc n) begun (zeros ns) (unsourced na)
sources_from doc ns np na (Err p) = unsourced na

-- for tables of these lengths; on every refusal no cell has a source
unfoldable pub source_table : List ℕ → ℕ → ℕ → ℕ → Shape → ℕ → List Span
source_table doc ns np na shape nb = cond (eqb (read_of doc ns np na shape nb).answer.refusal 0) (sources_from doc ns np na (begin doc)) (unsourced na)
