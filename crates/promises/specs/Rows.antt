-- What the tables hold besides the rows of the series and of the intervals.
use Rattle.std.specs.Prelude.{ℕ, ◌≤◌, ◌≡◌, List, pos, length, get_or}
use Rattle.series.specs.Row.{cells_of}
use Rattle.reader.specs.Reading.{Tables}

-- 0 from cell n on
abbrev pub ZeroFrom : {A : Type 0} → ℕ → A → List A → Type 0
ZeroFrom n zero l = (j : ℕ) → n ≤ j → get_or l j zero ≡ zero

-- "Cells past the last row are 0.": "A series row grows from eight numbers to twelve"; "Intervals take one position and one amount at the same index."
pub record ZeroPast (series intervals : ℕ) (t : Tables) : Type 0 where
  pub series-cells : ZeroFrom (cells_of series) 0 t.series
  pub positions : ZeroFrom intervals 0 t.positions
  pub amounts : ZeroFrom intervals (pos 0) t.amounts

-- "Room becomes the table length divided by 12.", "room is the shorter length": as many rows have room in tables of these lengths
pub record InRoom (ns np na series intervals : ℕ) : Type 0 where
  pub series-rows : cells_of series ≤ ns
  pub position-rows : intervals ≤ np
  pub amount-rows : intervals ≤ na

-- the lengths of the tables
pub record Sized (ns np na : ℕ) (t : Tables) : Type 0 where
  pub series : length t.series ≡ ns
  pub positions : length t.positions ≡ np
  pub amounts : length t.amounts ≡ na
