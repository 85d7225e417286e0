-- What is found in a document with room that is told, and a series table of its own: for a caller whose tables have another layout.
use Rattle.std.specs.Prelude.{ℕ, List, cond, ltb, length, Result, Ok, Err}
use Rattle.refusals.specs.Refusals.{too_long, unreadable_item}
use Rattle.lists.specs.Zeros.{zeros}
use Rattle.tables.specs.Cells.{no_amounts}
use Rattle.prolog.specs.Prolog.{begin}
use Rattle.states.specs.Moves.{begun}
use Rattle.states.specs.declared.Room.{Room}
use Rattle.reader.specs.Reading.{tab, refused_at, items_read}
use Rattle.reader.specs.declared.Found.{Found}

unfoldable pub judged_after : Room → List ℕ → List ℕ → Result ℕ ℕ → Found
judged_after room doc t (Ok n) = (items_read doc room n (tab t (zeros 1) (no_amounts 1))).found
judged_after room doc t (Err p) = refused_at unreadable_item p begun

-- with this series table
unfoldable pub judged_into : Room → List ℕ → List ℕ → Found
judged_into room doc t = judged_after room doc t (begin doc)

-- "1: the document is longer than 1,048,576 bytes"; the series table has n cells
unfoldable pub judged : Room → List ℕ → ℕ → Found
judged room doc n = cond (ltb 1048576 (length doc)) (refused_at too_long 0 begun) (judged_into room doc (zeros n))
