-- 01's table of refusals, clause by clause and in no order of tests: which faults an item has. "The first item with a fault decides; where it has several, the
-- smallest number." What stands before the item is told by the state that the items before it leave, and by the series table.
use Rattle.std.specs.Prelude.{ℕ, ◌-◌, ◌≤◌, ◌≡◌, List, [], ◌∷◌, Bool, true, false, cond, ◌&&◌, not, ◌⊎◌, eqb, get_or, length, Option, Some, None, Result, Ok, Err}
use Rattle.refusals.specs.Refusals.{unreadable_item, not_due, table_full, wrong_attribute, against_form, outside_list, against_value, used_again}
use Rattle.slices.specs.Part.{part_of}
use Rattle.slices.specs.declared.Span.{Span}
use Rattle.elements.specs.Names.{element_no}
use Rattle.columns.specs.Columns.{form_of, role_of, no_form, root_role, period_role}
use Rattle.structure.specs.Rows.{start_of, end_of, over_of}
use Rattle.guideline.specs.Kinds.{kind_at, has_enough}
use Rattle.guideline.specs.Rows.{rows_of}
use Rattle.prolog.specs.Prolog.{begin}
use Rattle.items.specs.declared.Tag.{Tag}
use Rattle.items.specs.declared.Item.{Item}
use Rattle.items.specs.declared.Item.TheVariants.{Start, Empty, End, Text, Comment, Unreadable}
use Rattle.rules.specs.Rules.{judge}
use Rattle.states.specs.Attributes.{there, attributes_fit, said_in, scheme_refusal, dtd_fixed}
use Rattle.states.specs.Constraints.{lacking}
use Rattle.states.specs.Moves.{held_of, cut_short, too_many, no_room, half_originals, against_others, entry_of, kind_told, begun}
use Rattle.states.specs.declared.State.{State}
use Rattle.states.specs.declared.Room.{Room}
use Rattle.states.specs.declared.Entry.{Entry}
use Rattle.states.specs.Step.{Step, Next, Refused}
use Rattle.reader.specs.Rows.{used_before}
use Rattle.reader.specs.Items.{Placed, items_from}
use Rattle.reader.specs.Reading.{Tables, blank, step_of, tables_after, room_in}

-- a clause of the table: its number, and whether it holds of the item
pub record Clause : Type 0 where
  pub number : ℕ
  pub holds : Bool

abbrev pub when : ℕ → Bool → Clause
when n b = record { number = n; holds = b }

-- the item has fault n: one of the clauses has this number, and holds
unfoldable pub HasFault : List Clause → ℕ → Type 0
HasFault [] n = ⊥
HasFault (c ∷ cs) n = ((c.number ≡ n) × (c.holds ≡ true)) ⊎ HasFault cs n

-- ---- the start of an element whose row w, at r in the rows of the kind, is due

-- a row with a `v`, and the attribute is there
unfoldable pub has_value : ℕ → Tag → Bool
has_value w t = not (eqb (role_of w) root_role) && (not (eqb (form_of w) no_form) && there t.v)

-- what `v` is refused with by its form, its code list or the values before it, 0 for nothing; and which code it is
unfoldable pub value_number : State → ℕ → ℕ → Tag → List ℕ → ℕ
value_number x kind w t s = cond (has_value w t) (judge (form_of w) (held_of x kind) (said_in w t.v s)).number 0

unfoldable pub value_code : State → ℕ → ℕ → Tag → List ℕ → ℕ
value_code x kind w t s = cond (has_value w t) (judge (form_of w) (held_of x kind) (said_in w t.v s)).first 0

unfoldable pub scheme_outside : ℕ → Tag → List ℕ → Bool
scheme_outside w t s = has_value w t && (there t.coding && eqb (scheme_refusal w t.coding s) outside_list)

unfoldable pub start_clauses : List ℕ → List ℕ → Room → State → ℕ → List ℕ → ℕ → ℕ → Span → Tag → List ℕ → Bool → List Clause
start_clauses doc table room x kind rows r w span t s empty =
    -- "3: element .. too many, .. over too early"
    when not_due (cut_short empty rows r) ∷
    when not_due (too_many x (role_of w) kind) ∷
    -- "4: a due series or Interval start finds its table full"
    when table_full (no_room x (role_of w) room) ∷
    -- "5: attribute missing or unknown"
    when wrong_attribute (not (attributes_fit kind w t)) ∷
    -- "6: value against its form or fixed value"
    when against_form (eqb (role_of w) root_role && not (dtd_fixed kind t.dtd s)) ∷
    when against_form (eqb (value_number x kind w t s) against_form) ∷
    -- "7: value outside its code list"
    when outside_list (eqb (value_number x kind w t s) outside_list) ∷
    when outside_list (scheme_outside w t s) ∷
    -- "8: value or count against another value"
    when against_value (eqb (value_number x kind w t s) against_value) ∷
    when against_value (half_originals x (role_of w)) ∷
    when against_value (against_others x kind (role_of w) (value_code x kind w t s)) ∷
    -- "9: TimeSeriesIdentification used before in this document"
    when used_again (used_before doc table span s x.series (entry_of (role_of w) 0)) ∷ []

-- ---- any item

-- "3: element not due"
unfoldable pub start_faults : List ℕ → List ℕ → Room → State → ℕ → List ℕ → Span → Tag → List ℕ → Bool → Option ℕ → List Clause
start_faults doc table room x kind rows span t s empty (Some r) = start_clauses doc table room x kind rows r (get_or rows r 0) span t s empty
start_faults doc table room x kind rows span t s empty None = when not_due true ∷ []

-- "3: .. wrong end tag"; "too few", and "8: .. count against another value", at the end of Period; and what a constraint lacks, at the root's
unfoldable pub end_clauses : State → ℕ → List Clause
end_clauses x w =
    when not_due (eqb (role_of w) period_role && not (has_enough x.kind (x.intervals - x.first))) ∷
    when against_value (eqb (role_of w) period_role && ((kind_at x.kind).full && not (eqb (x.intervals - x.first) x.quarters))) ∷
    when against_value (eqb (role_of w) root_role && ((kind_at x.kind).constrained && lacking x.seen x.series)) ∷ []

unfoldable pub end_faults : State → List ℕ → Option ℕ → List Clause
end_faults x rows (Some r) = end_clauses x (get_or rows r 0)
end_faults x rows None = when not_due true ∷ []

unfoldable pub faults_by : List ℕ → List ℕ → Room → State → ℕ → List ℕ → Item → List ℕ → List Clause
faults_by doc table room x kind rows (Start t) s =
    start_faults doc table room x kind rows t.v t s false (start_of rows x.row x.inside (element_no (part_of s 1 t.name)))
faults_by doc table room x kind rows (Empty t) s =
    start_faults doc table room x kind rows t.v t s true (start_of rows x.row x.inside (element_no (part_of s 1 t.name)))
faults_by doc table room x kind rows (End n e) s = end_faults x rows (end_of rows x.row x.inside (element_no (part_of s 2 n)))
-- "3: .. other text"
faults_by doc table room x kind rows (Text white e) s = when not_due (not white) ∷ []
faults_by doc table room x kind rows (Comment e) s = []
-- "2: the item is unreadable"
faults_by doc table room x kind rows (Unreadable p) s = when unreadable_item true ∷ []

-- the faults of an item, after items that leave the state x and this series table
unfoldable pub faults_of : List ℕ → List ℕ → Room → Placed → State → List Clause
faults_of doc table room p x =
    faults_by doc table room x (kind_told x p.item p.rest) (rows_of (kind_told x p.item p.rest)) p.item p.rest

-- n is the smallest of the faults
pub record Smallest (cs : List Clause) (n : ℕ) : Type 0 where
  pub has : HasFault cs n
  pub least : (m : ℕ) → HasFault cs m → n ≤ m

abbrev pub Faultless : List Clause → Type 0
Faultless cs = (m : ℕ) → HasFault cs m → ⊥

-- ---- the first item with a fault

-- what holds of the state that a step leaves, and of what it brings
abbrev pub after : Step → (State → Entry → Type 0) → Type 0
after (Next x e) P = P x e
after (Refused m) P = ⊥

-- xs are the items that are left; those before them had no fault, and leave the state x and the tables t. "The first item with a fault decides; where it
-- has several, the smallest number": n, at the place p
unfoldable pub FirstFault : List ℕ → Room → List Placed → State → Tables → ℕ → ℕ → Type 0
-- "Missing elements show .. at the end of the document."
FirstFault doc room [] x t n p = (over_of (rows_of x.kind) x.row x.inside ≡ false) × ((n ≡ not_due) × (p ≡ length doc))
FirstFault doc room (i ∷ xs) x t n p =
    (Smallest (faults_of doc t.series room i x) n × (p ≡ i.at))
    ⊎ (Faultless (faults_of doc t.series room i x)
    × after (step_of doc t.series room i x) (λ x' e. FirstFault doc room xs x' (tables_after i x' e t) n p))

-- and none of them has one, nor is anything missing at the end
unfoldable pub NoFault : List ℕ → Room → List Placed → State → Tables → Type 0
NoFault doc room [] x t = over_of (rows_of x.kind) x.row x.inside ≡ true
NoFault doc room (i ∷ xs) x t =
    Faultless (faults_of doc t.series room i x)
    × after (step_of doc t.series room i x) (λ x' e. NoFault doc room xs x' (tables_after i x' e t))

-- of a whole document, read into blank tables t: what stands before the first item is the XML declaration, "2" where it is unreadable
unfoldable pub FirstFaultAfter : List ℕ → Tables → Result ℕ ℕ → ℕ → ℕ → Type 0
FirstFaultAfter doc t (Ok k) n p = FirstFault doc (room_in t) (items_from doc k) begun t n p
FirstFaultAfter doc t (Err q) n p = (n ≡ unreadable_item) × (p ≡ q)

unfoldable pub NoFaultAfter : List ℕ → Tables → Result ℕ ℕ → Type 0
NoFaultAfter doc t (Ok k) = NoFault doc (room_in t) (items_from doc k) begun t
NoFaultAfter doc t (Err q) = ⊥

-- n is the first fault of the document, at p, and the document has none: read into tables of these lengths
unfoldable pub FirstIn : List ℕ → ℕ → ℕ → ℕ → ℕ → ℕ → Type 0
FirstIn doc ns np na = FirstFaultAfter doc (blank ns np na) (begin doc)

unfoldable pub NoneIn : List ℕ → ℕ → ℕ → ℕ → Type 0
NoneIn doc ns np na = NoFaultAfter doc (blank ns np na) (begin doc)
