-- "The clock goes forward on the last Sunday of March and back on the last Sunday of October": "The days of the change come from a table of 200 day
-- numbers, and one rule covers the whole table: each is a Sunday from the 25th to the 31st of its month."
use Rattle.std.specs.Prelude.{ℕ, ◌+◌, ◌*◌, ◌/◌, ◌%◌, List, [], ◌∷◌, Bool, cond, ◌&&◌, get_or, leb, eqb}
use Rattle.times.specs.Calendar.{day_number}

-- March and October of each year from 2000 to 2099, in days since 2000-01-01
unfoldable pub changes : List ℕ
changes =
    85 ∷ 302 ∷
    449 ∷ 666 ∷
    820 ∷ 1030 ∷
    1184 ∷ 1394 ∷
    1548 ∷ 1765 ∷
    1912 ∷ 2129 ∷
    2276 ∷ 2493 ∷
    2640 ∷ 2857 ∷
    3011 ∷ 3221 ∷
    3375 ∷ 3585 ∷
    3739 ∷ 3956 ∷
    4103 ∷ 4320 ∷
    4467 ∷ 4684 ∷
    4838 ∷ 5048 ∷
    5202 ∷ 5412 ∷
    5566 ∷ 5776 ∷
    5930 ∷ 6147 ∷
    6294 ∷ 6511 ∷
    6658 ∷ 6875 ∷
    7029 ∷ 7239 ∷
    7393 ∷ 7603 ∷
    7757 ∷ 7974 ∷
    8121 ∷ 8338 ∷
    8485 ∷ 8702 ∷
    8856 ∷ 9066 ∷
    9220 ∷ 9430 ∷
    9584 ∷ 9794 ∷
    9948 ∷ 10165 ∷
    10312 ∷ 10529 ∷
    10676 ∷ 10893 ∷
    11047 ∷ 11257 ∷
    11411 ∷ 11621 ∷
    11775 ∷ 11992 ∷
    12139 ∷ 12356 ∷
    12503 ∷ 12720 ∷
    12867 ∷ 13084 ∷
    13238 ∷ 13448 ∷
    13602 ∷ 13812 ∷
    13966 ∷ 14183 ∷
    14330 ∷ 14547 ∷
    14694 ∷ 14911 ∷
    15065 ∷ 15275 ∷
    15429 ∷ 15639 ∷
    15793 ∷ 16003 ∷
    16157 ∷ 16374 ∷
    16521 ∷ 16738 ∷
    16885 ∷ 17102 ∷
    17256 ∷ 17466 ∷
    17620 ∷ 17830 ∷
    17984 ∷ 18201 ∷
    18348 ∷ 18565 ∷
    18712 ∷ 18929 ∷
    19083 ∷ 19293 ∷
    19447 ∷ 19657 ∷
    19811 ∷ 20021 ∷
    20175 ∷ 20392 ∷
    20539 ∷ 20756 ∷
    20903 ∷ 21120 ∷
    21274 ∷ 21484 ∷
    21638 ∷ 21848 ∷
    22002 ∷ 22219 ∷
    22366 ∷ 22583 ∷
    22730 ∷ 22947 ∷
    23094 ∷ 23311 ∷
    23465 ∷ 23675 ∷
    23829 ∷ 24039 ∷
    24193 ∷ 24410 ∷
    24557 ∷ 24774 ∷
    24921 ∷ 25138 ∷
    25292 ∷ 25502 ∷
    25656 ∷ 25866 ∷
    26020 ∷ 26230 ∷
    26384 ∷ 26601 ∷
    26748 ∷ 26965 ∷
    27112 ∷ 27329 ∷
    27483 ∷ 27693 ∷
    27847 ∷ 28057 ∷
    28211 ∷ 28428 ∷
    28575 ∷ 28792 ∷
    28939 ∷ 29156 ∷
    29310 ∷ 29520 ∷
    29674 ∷ 29884 ∷
    30038 ∷ 30248 ∷
    30402 ∷ 30619 ∷
    30766 ∷ 30983 ∷
    31130 ∷ 31347 ∷
    31501 ∷ 31711 ∷
    31865 ∷ 32075 ∷
    32229 ∷ 32446 ∷
    32593 ∷ 32810 ∷
    32957 ∷ 33174 ∷
    33321 ∷ 33538 ∷
    33692 ∷ 33902 ∷
    34056 ∷ 34266 ∷
    34420 ∷ 34637 ∷
    34784 ∷ 35001 ∷
    35148 ∷ 35365 ∷
    35519 ∷ 35729 ∷
    35883 ∷ 36093 ∷
    36247 ∷ 36457 ∷
    []

-- entries 2i and 2i + 1 are March and October of the year 2000 + i
unfoldable pub march_sunday : ℕ → ℕ
march_sunday i = get_or changes (2 * i) 0

unfoldable pub october_sunday : ℕ → ℕ
october_sunday i = get_or changes (2 * i + 1) 0

-- the year and the month of entry k
unfoldable pub change_year : ℕ → ℕ
change_year k = 2000 + k / 2

unfoldable pub change_month : ℕ → ℕ
change_month k = cond (eqb (k % 2) 0) 3 10

-- 2 January 2000 was a Sunday, and every seventh day before and after it is one
unfoldable pub sunday : ℕ → Bool
sunday n = eqb (n % 7) (day_number 2000 1 2 % 7)

-- the rule, of the day n in entry k: "each is a Sunday from the 25th to the 31st of its month"
unfoldable pub ruled : ℕ → ℕ → Bool
ruled k n =
    sunday n
    && (leb (day_number (change_year k) (change_month k) 25) n && leb n (day_number (change_year k) (change_month k) 31))
