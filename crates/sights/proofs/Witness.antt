-- Every legal document whose series have room is viewed; and there is one. Assumes nothing.
use Prim.Native.Nat.{ℕ, ◌+◌, ◌≤◌}
use mathlib.Core.List.{List}
use mathlib.Core.Path.{◌≡◌, ◌∙◌}
use native.Mathlib.Omega.{arith}
use native.Mathlib.Nat.{le_refl}
use lib.ListN.{length}
use Rattle.columns.specs.Columns.{series_role, interval_role}
use Rattle.notes.specs.declared.Shape.TheVariants.{Old}
use Rattle.series.specs.Row.{cells_of, room_for}
use Rattle.guideline.specs.Rows.{rows_of}
use Rattle.reader.specs.Reading.{room_of}
use Rattle.trees.specs.Trees.{Trees}
use Rattle.contents.specs.Said.{TagSaid}
use Rattle.contents.specs.Spelled.{Spells}
use Rattle.contents.specs.Legal.{has_role, those, Legal, HasRoom}
use Rattle.contents.proofs.Theorems.{legal-accepted}
use Rattle.promises.specs.Sheet.{sheet}
use Rattle.promises.proofs.Examples.{sheet-short, sheet-content}
use Rattle.views.specs.Layout.{header_pairs, cell_of, view_room}
use Rattle.views.specs.Views.{sheet_viewed}
use Rattle.sights.specs.Values.{ShowsValues}
use Rattle.sights.proofs.Promises.{readers-answer, room-series, room-intervals, shows-values}

pub legal-answer : (doc : List ℕ) (n : ℕ) → cell_of header_pairs ≤ n → length doc ≤ 1048576 → (kind : ℕ) (c : Trees TagSaid) → Spells doc kind c → Legal kind c
    → length (those (has_role series_role) (rows_of kind) c) ≤ (view_room n).series
    → ((sheet_viewed doc n).told.refusal ≡ 0) × ((sheet_viewed doc n).told.series ≡ length (those (has_role series_role) (rows_of kind) c))
legal-answer doc n wide short kind c spells legal few =
    let most = (view_room n).series in
    let k = length (those (has_role interval_role) (rows_of kind) c) in
    let np = length doc + k in
    let same : room_for (cells_of most) ≡ most = omega arith in
    let s = room-series (cells_of most) np np in
    let room : HasRoom (room_of (cells_of most) np np) kind c =
    record { series = omega (arith, few, s, same); intervals = room-intervals (cells_of most) np np k (omega arith) (omega arith) } in
    let a = readers-answer doc n (cells_of most) np np same (omega arith) (omega arith) wide Old 16 (le_refl 16) in
    let b = legal-accepted doc (cells_of most) np np Old 16 (le_refl 16) short kind c spells legal room in (a.0 ∙ b.accepted, a.3 ∙ b.series)

pub legal-viewed : (doc : List ℕ) (n : ℕ) → cell_of header_pairs ≤ n → length doc ≤ 1048576 → (kind : ℕ) (c : Trees TagSaid) → Spells doc kind c → Legal kind c
    → length (those (has_role series_role) (rows_of kind) c) ≤ (view_room n).series → (sheet_viewed doc n).told.refusal ≡ 0
legal-viewed doc n wide short kind c spells legal few = (legal-answer doc n wide short kind c spells legal few).0

-- the sheet, which has two series: 16 pairs and twice 22
pub sheet-viewed : (sheet_viewed sheet 120).told.refusal ≡ 0
unfolding view_room
sheet-viewed =
    let s = sheet-content in
    let e = room-series 25 4 4 in
    let h = s.3.series in
    legal-viewed sheet 120 (omega arith) sheet-short 2 s.0 s.1 s.2 (omega (arith, e, h))

pub sheet-values : ShowsValues sheet (sheet_viewed sheet 120).table 2 (sheet_viewed sheet 120).told.series sheet-content.0
sheet-values = let s = sheet-content in shows-values sheet 120 (omega arith) sheet-viewed 2 s.0 s.1 s.2
