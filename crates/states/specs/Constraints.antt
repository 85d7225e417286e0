-- The rules between the series of one constraint (kind 3), and what is kept for them. K2: "Without DocStatus, a document with series has one or two of
-- BusinessType A77, two only with different Direction, and at least one B59. With DocStatus (A13) there is at most one series and the last rule isn't applied."
use Rattle.std.specs.Prelude.{ℕ, ◌+◌, Bool, true, false, cond, not, ltb, eqb}
use Rattle.columns.specs.Columns.{form_of, role_of, in_list, doc_status_list, series_role, business_role, direction_role}
use Rattle.rules.specs.Rules.{change_type, bearing_type}
use Rattle.states.specs.declared.Seen.{Seen}

unfoldable pub none_seen : Seen
none_seen = record { withdrawn = false; change = false; second = false; here = false; direction = 0; bearing = false }

-- ---- what is kept

unfoldable pub withdrawing : Seen → Seen
withdrawing z =
    record { withdrawn = true; change = z.change; second = z.second; here = z.here; direction = z.direction; bearing = z.bearing }

-- a series of BusinessType A77 comes, or one of another, B59 or not
unfoldable pub changing : Seen → Seen
changing z =
    record { withdrawn = z.withdrawn; change = true; second = z.change; here = true; direction = z.direction; bearing = z.bearing }

unfoldable pub unchanging : Seen → Bool → Seen
unchanging z bearing =
    record { withdrawn = z.withdrawn; change = z.change; second = z.second; here = false; direction = z.direction; bearing = bearing }

-- and the Direction of the first A77
unfoldable pub directed_to : Seen → ℕ → Seen
directed_to z code =
    record { withdrawn = z.withdrawn; change = z.change; second = z.second; here = z.here; direction = code; bearing = z.bearing }

unfoldable pub typed : Seen → ℕ → Seen
typed z code = cond (eqb code change_type) (changing z) (unchanging z (cond (eqb code bearing_type) true z.bearing))

unfoldable pub directed : Seen → ℕ → Seen
directed z code = cond z.here (cond z.second z (directed_to z code)) z

-- after the start of row w, whose value is this code
unfoldable pub noticed : Seen → ℕ → ℕ → Seen
noticed z w code =
    cond (eqb (form_of w) (in_list + doc_status_list)) (withdrawing z)
    (cond (eqb (role_of w) business_role) (typed z code)
    (cond (eqb (role_of w) direction_role) (directed z code) z))

-- ---- what is refused

-- "8 at a third A77's BusinessType, at a second A77's equal Direction, at the second series after a DocStatus"; so many series came before
unfoldable pub against : Seen → ℕ → ℕ → ℕ → Bool
against z series role code =
    cond (eqb role series_role) (cond z.withdrawn (ltb 0 series) false)
    (cond (eqb role business_role) (cond z.second (eqb code change_type) false)
    (cond (eqb role direction_role) (cond z.here (cond z.second (eqb code z.direction) false) false) false))

-- "and at the root's end for a missing A77 or B59"
unfoldable pub lacking : Seen → ℕ → Bool
lacking z series = cond z.withdrawn false (cond (eqb series 0) false (cond z.change (not z.bearing) true))
