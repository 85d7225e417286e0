-- The table of examples and the accepted documents, by computation: every definition on the way is unfolded. Assumes nothing.
use Prim.Native.Nat.{ℕ, ◌+◌, ◌≤◌}
use mathlib.Core.List.{List, [], ◌∷◌, ◌++◌}
use mathlib.Core.Path.{◌≡◌, refl, sym, ap, subst, ◌∙◌}
use mathlib.Core.Logic.{inl, inr}
use native.Mathlib.Omega.{arith}
use lib.ListN.{length, take, drop}
use Rattle.slices.specs.Text.{text}
use Rattle.slices.specs.Bytes.{byte}
use Rattle.slices.specs.Run.{run}
use Rattle.slices.specs.Same.{same, begins, seek, here, first_at}
use Rattle.slices.specs.Walk.{walk}
use Rattle.characters.specs.Utf8.{seq_len, control, single, char_at}
use Rattle.characters.specs.Says.{char_next, chars_over, all_chars, met, char_of, said_by, said_at, says_after, says}
use Rattle.attributes.specs.Names.{name_start, name_byte, white}
use Rattle.slices.specs.Part.{part_of}
use Rattle.attributes.specs.Attribute.{quote, fit, standing_next, value_next, value_over, value, opening_from, opening, attribute_end, attribute_quote, attribute_name, attribute, piece_after, piece}
use Rattle.tags.specs.Known.{absent, passed_over, dtd_name, no_dtd, with_dtd, none_known, up_to_two as another_known, with_attribute as noted_known}
use Rattle.tags.specs.Tail.{onto, ends_after, ends, kept_of, named, twice}
use Rattle.items.specs.Parts.{span_of}
use Rattle.items.specs.Text.{text_to, text_item}
use Rattle.items.specs.Item.{end_close, end_name, end_tag, tag_of, tag_item, start_tag, item, item_end}
use Rattle.prolog.specs.Prolog.{mark_len, begin_after, begin}
use Rattle.characters.specs.References.{digit}
use Rattle.pictures.specs.Picture.{capital, capital_or_digit, party_char, first_three, takes, held, fits_of}
use Rattle.pictures.specs.Number.{shown_number, number_at}
use Rattle.trims.specs.Trim.{space, drop_lead, kept_before as keep_end, drop_trail, dropped, lead_after, lead_of, kept_from, kept_after, kept_bytes, cut_trail, trimmed_of}
use Rattle.numbers.specs.Digits.{digits, number_from, nothing_left as nothing_after, only_digits}
use Rattle.numbers.specs.Amount.{minus, unsigned, fraction_form, unsigned_form, written_amount, filled, thousandths, signed, amount_of}
use Rattle.numbers.specs.Number.{number_form, at_most_nine, number_within, number_of as count_of}
use Rattle.codes.specs.Lists.{lists, codes_of, listed}
use Rattle.forms.specs.Forms.{identification, grid_element, market_partner, resource_object, party, quarter_hour}
use Rattle.times.specs.Calendar.{leap, month_days, real_date, days_before, leap_day, day_number, day_of}
use Rattle.times.specs.Times.{minute_on, minute_at, date_time, between, interval}
use Rattle.times.specs.Sundays.{changes, march_sunday, october_sunday}
use Rattle.times.specs.Midnight.{year_of, in_summer, start_of_day}
use Rattle.times.specs.Periods.{cost_period, quarter_hours, delivery_day, day_period}
use Rattle.rules.specs.Rules.{is_version, amount, judge_interval_by, judge_interval, position_fits, judge_position_by, judge_position, judge, unless, form_refusal, type_no, direction_no, code_no, period_fits, judge_period_by, judge_period}
use Rattle.elements.specs.Names.{names, number_in, element_no}
use Rattle.structure.specs.Rows.{name_of, parent_of, required, repeated, next_in, ends_in, start_of, end_at, end_of, ends_at_once, closes_document, over_of}
use Rattle.structure.specs.Depth.{height_in, depth_of}
use Rattle.columns.specs.Columns.{collapsed, form_of, scheme_of, role_of}
use Rattle.guideline.specs.Kinds.{no_demands, message_alone, version_and_release, no_kind, kind_one, kind_two, kind_three, kind_at, fixed_one, fixed_two, fixed_three, fixed_for, within_most, takes_another, kind_of, has_enough}
use Rattle.guideline.specs.Rows.{beschaffungsanforderung, kostenblatt, network_constraint_document, rows_of}
use Rattle.states.specs.Attributes.{said_in, scheme_refusal, least, also_scheme, there, agree, asks_v, asks_scheme, demands_at, meets, dtd_fits, no_others, attributes_fit, value_fixed, dtd_fixed, judge_tag}
use Rattle.states.specs.Constraints.{none_seen, withdrawing, changing, unchanging, directed_to, typed, directed, noticed, against, lacking}
use Rattle.states.specs.Moves.{one_more, one_series, one_interval, one_original, last_pos, covering, closed_at, lack_refusal, end_refusal, after_end_at as tag_ended, after_end, begun, held_of, cut_short, too_many, no_room, half_originals, against_others, beside_others, values_judged, judged_at, start_judged, at_row, kept, entered, entry_of, started_by, started_at, started, count_refusal, moved, root_kind, kind_told, step}
use Rattle.notes.specs.Note.{groups_in, flat, left}
use Rattle.notes.specs.declared.Shape.TheVariants.{Old}
use Rattle.reader.specs.Items.{placed, items_after, items_from}
use Rattle.series.specs.Row.{with_view, view}
use Rattle.reader.specs.Rows.{quoted, thousandths_of, used, used_in, used_with, brought_by, field_after, series_with, positions_with, amounts_with, series_after, positions_after, amounts_after, used_before}
use Rattle.reader.specs.Reading.{accepted_at, blank, room_of, refused_at, ended_at, without_used, step_of, tables_after, read_items, room_in, items_read, read_after, read_into, or_blank, read_sheet}
use Rattle.reader.specs.Answer.{Outcome, note_for, answer_of, told, noted, read_of}
use mathlib.Core.Bool.{true}
use Rattle.promises.specs.Examples.{examples, all_pass}
use Rattle.promises.specs.Day.{two_digits, interval_texts, short_day, counted_from, day_outcome}
use Rattle.promises.specs.Sheet.{sheet, sheet_outcome, dearer_sheet, dearer_outcome, twice_sheet, twice_answer, broken_sheet, longer_sheet, number_and_place, constraint_sheet, constraint_outcome, withdrawn_sheet, withdrawn_outcome}
use Rattle.slices.specs.declared.Span.{Span}
use Rattle.blindness.specs.Readable.{tag_named}
use Rattle.blindness.specs.Sources.{value_at}
use Rattle.blindness.specs.Renamed.{values_named, values_named_after, identifications_in}
use Rattle.reader.specs.declared.Answer.{Answer}
use Rattle.fronts.specs.Front.{TextEnds, EndsBefore}
use Rattle.faults.specs.Faults.{Clause, HasFault, has_value, value_number, value_code, scheme_outside, start_clauses, start_faults, faults_by, faults_of, FirstIn, NoneIn}
use Rattle.faults.proofs.First.{first-named, accepted-faultless}
use Rattle.faults.proofs.After.{nothing-behind}
use Rattle.trees.specs.Trees.{Trees}
use Rattle.contents.specs.Said.{TagSaid}
use Rattle.contents.specs.Spelled.{Spells}
use Rattle.contents.specs.Legal.{Legal, HasRoom}
use Rattle.contents.proofs.Theorems.{accepted-legal, legal-accepted}
use Rattle.digits.specs.Outside.{opened, open_at}
use Rattle.promises.proofs.Digits.{in_qty, qty_at, qty_after}
use Rattle.likeness.proofs.Examples.{empty_root, closed_root}
use Rattle.promises.proofs.Answers.{accepted-whole}

-- where the two identifications of the sheet stand
abbrev pub first_id : Span
first_id = record { start = 460; len = 2 }

abbrev pub second_id : Span
second_id = record { start = 955; len = 2 }

-- where the first digit of its first amount stands
abbrev pub qty_place : ℕ
qty_place = 867

-- a root's empty tag: "over too early", "attribute .. unknown", "value against its .. fixed value"
abbrev three_faults : List ℕ
three_faults = text "<Kostenblatt DtdBDEWNachrichtenVersion='2' x=''/>"

abbrev pub threefold : List Clause
threefold = faults_of three_faults [] (room_of 0 0 0) (placed 0 three_faults) begun

computed : (all_pass examples ≡ true) × (read_of sheet 25 4 4 Old 16 ≡ sheet_outcome)
    × ((read_of twice_sheet 25 4 4 Old 16).answer ≡ twice_answer) × (identifications_in sheet ≡ first_id ∷ second_id ∷ [])
    × (read_of constraint_sheet 25 4 4 Old 16 ≡ constraint_outcome) × (read_of withdrawn_sheet 0 0 0 Old 16 ≡ withdrawn_outcome)
    × (HasFault threefold 3 × HasFault threefold 5 × HasFault threefold 6) × (length twice_sheet ≡ 1387)
    × (read_of dearer_sheet 25 4 4 Old 16 ≡ dearer_outcome) × (qty_after sheet (begin sheet) qty_place ≡ true)
    × (read_of short_day 12 92 92 Old 16 ≡ day_outcome) × ((read_of [] 25 4 4 Old 16).answer.refusal ≡ 3)
    × ((length broken_sheet ≡ 961) × (item_end (item 926 (drop 926 twice_sheet)) ≡ 34) × (take 960 broken_sheet ≡ take 960 twice_sheet)
    × EndsBefore (item 926 (drop 926 twice_sheet)) (text "&"))
    × ((number_and_place (read_of (take 926 twice_sheet) 25 4 4 Old 16) ≡ (3, 926)) × (number_and_place (read_of longer_sheet 25 4 4 Old 16) ≡ (3, 1387)))
    × ((number_and_place (read_of (text "<a") 0 0 0 Old 16) ≡ (2, 0)) × (number_and_place (read_of (text "<a>") 0 0 0 Old 16) ≡ (3, 0)))
    × ((number_and_place (read_of (text "a") 0 0 0 Old 16) ≡ (3, 0)) × (number_and_place (read_of (text "a&") 0 0 0 Old 16) ≡ (2, 0)))
    × ((number_and_place (read_of empty_root 0 0 0 Old 16) ≡ (3, 0)) × (number_and_place (read_of closed_root 0 0 0 Old 16) ≡ (5, 0)))
unfolding byte run same begins walk seq_len control single char_at met char_of said_by said_at says_after says name_start name_byte white quote fit standing_next value_next value_over
    value opening_from opening attribute_end attribute_quote attribute_name attribute piece_after piece part_of absent passed_over dtd_name no_dtd with_dtd none_known another_known
    noted_known onto ends_after ends kept_of named twice end_close end_name end_tag tag_of tag_item start_tag item mark_len begin_after begin capital
    capital_or_digit first_three digit takes fits_of shown_number number_at space drop_lead keep_end drop_trail dropped lead_after lead_of kept_from kept_after kept_bytes cut_trail trimmed_of digits number_from nothing_after
    only_digits minus unsigned fraction_form unsigned_form written_amount filled thousandths signed amount_of number_form at_most_nine number_within count_of
    lists codes_of listed held identification grid_element market_partner resource_object quarter_hour leap month_days real_date days_before leap_day
    day_number day_of minute_on minute_at date_time between interval cost_period quarter_hours changes march_sunday
    october_sunday year_of in_summer start_of_day delivery_day day_period is_version
    amount judge_interval_by judge_interval position_fits judge_position_by judge_position judge unless form_refusal type_no direction_no code_no period_fits judge_period_by
    judge_period names number_in element_no name_of parent_of required repeated next_in ends_in start_of end_at end_of ends_at_once closes_document over_of
    collapsed form_of scheme_of role_of no_demands message_alone version_and_release no_kind kind_one kind_two kind_three kind_at fixed_one fixed_two fixed_three fixed_for within_most takes_another kind_of has_enough beschaffungsanforderung kostenblatt network_constraint_document rows_of said_in scheme_refusal least
    also_scheme there agree asks_v asks_scheme demands_at meets dtd_fits no_others attributes_fit value_fixed dtd_fixed judge_tag none_seen withdrawing changing unchanging directed_to typed directed noticed against lacking one_more one_series one_interval one_original last_pos covering closed_at
    lack_refusal end_refusal tag_ended after_end begun held_of cut_short too_many no_room half_originals against_others beside_others values_judged judged_at start_judged at_row kept entered entry_of
    started_by started_at started count_refusal moved root_kind kind_told step groups_in flat left items_after items_from quoted
    with_view view thousandths_of used used_in used_with span_of brought_by field_after series_with positions_with
    amounts_with series_after positions_after amounts_after used_before accepted_at blank room_of refused_at
    depth_of height_in ended_at without_used step_of tables_after read_items room_in items_read read_after read_into or_blank read_sheet note_for answer_of told noted read_of
    identifications_in values_named_after values_named tag_named value_at faults_of faults_by start_faults start_clauses has_value value_number value_code scheme_outside HasFault
    two_digits interval_texts counted_from party party_char qty_after qty_at in_qty open_at opened
    first_at seek here text_item text_to char_next chars_over all_chars TextEnds EndsBefore
computed = (
  refl,
  refl,
  refl,
  refl,
  refl,
  refl,
  (inl (refl, refl), inr (inr (inr (inl (refl, refl)))), inr (inr (inr (inr (inl (refl, refl)))))),
  refl,
  refl,
  refl,
  refl,
  refl,
  (refl, refl, refl, tt),
  (refl, refl),
  (refl, refl),
  (refl, refl),
  (refl, refl),
)

-- "P1 to P12 form a single table with a single proved statement."
pub examples-pass : all_pass examples ≡ true
examples-pass = computed.0

pub sheet-read : read_of sheet 25 4 4 Old 16 ≡ sheet_outcome
sheet-read = computed.1

-- by a rule that is not one-to-one the answer is another
pub twice-read : (read_of twice_sheet 25 4 4 Old 16).answer ≡ twice_answer
twice-read = computed.2

pub sheet-ids : identifications_in sheet ≡ first_id ∷ second_id ∷ []
sheet-ids = computed.3

pub constraint-read : read_of constraint_sheet 25 4 4 Old 16 ≡ constraint_outcome
constraint-read = computed.4

pub withdrawn-read : read_of withdrawn_sheet 0 0 0 Old 16 ≡ withdrawn_outcome
withdrawn-read = computed.5

pub dearer-read : read_of dearer_sheet 25 4 4 Old 16 ≡ dearer_outcome
dearer-read = computed.8

pub qty-place : qty_after sheet (begin sheet) qty_place ≡ true
qty-place = computed.9

-- of kind 1, a day of 92 Intervals
pub day-read : read_of short_day 12 92 92 Old 16 ≡ day_outcome
day-read = computed.10

-- P1 again, with these tables
pub nothing_read : (read_of [] 25 4 4 Old 16).answer.refusal ≡ 3
nothing_read = computed.11

-- an item with several faults
pub three-at-once : HasFault threefold 3 × HasFault threefold 5 × HasFault threefold 6
three-at-once = computed.6

-- an empty tag, and a start tag with its end
pub roots-refused : (number_and_place (read_of empty_root 0 0 0 Old 16) ≡ (3, 0)) × (number_and_place (read_of closed_root 0 0 0 Old 16) ≡ (5, 0))
roots-refused = computed.16

-- a document with a first fault, and one without any
pub twice-first : FirstIn twice_sheet 25 4 4 9 926
twice-first =
    let r = ap (λ (a : Answer). a.refusal) twice-read in
    let p = ap (λ (a : Answer). a.place) twice-read in
    let l = computed.7 in
    let h = first-named twice_sheet 25 4 4 Old 16 (omega arith) (omega (arith, l)) (λ z. omega (arith, r, z)) in
    subst (λ (n : ℕ). FirstIn twice_sheet 25 4 4 n 926) r (subst (FirstIn twice_sheet 25 4 4 (read_of twice_sheet 25 4 4 Old 16).answer.refusal) p h)

-- a document that shares all up to the end of the faulty item has the same outcome
pub broken-read : read_of broken_sheet 25 4 4 Old 16 ≡ read_of twice_sheet 25 4 4 Old 16
broken-read =
    let c = computed.12 in
    let size : 926 + item_end (item 926 (drop 926 twice_sheet)) ≡ 960 = omega (arith, c.1) in
    nothing-behind twice_sheet 25 4 4 Old 16 (omega (arith, computed.7)) 926 (ap (λ (a : Answer). a.place) twice-read) broken_sheet (omega (arith, c.0))
    (rw size c.2) (rw size c.3)

-- cut before its fault a document is refused at its end; or accepted, where the fault stands behind the root's end
pub cut-read : (number_and_place (read_of (take 926 twice_sheet) 25 4 4 Old 16) ≡ (3, 926))
    × ((number_and_place (read_of longer_sheet 25 4 4 Old 16) ≡ (3, 1387)) × (read_of (take 1387 longer_sheet) 25 4 4 Old 16 ≡ sheet_outcome))
cut-read = (computed.13.0, (computed.13.1, sheet-read))

-- what follows may make an unreadable item readable, and a text unreadable
pub ends-needed : (number_and_place (read_of (text "<a") 0 0 0 Old 16) ≡ (2, 0)) × (number_and_place (read_of (text "<a>") 0 0 0 Old 16) ≡ (3, 0))
    × (number_and_place (read_of (text "a") 0 0 0 Old 16) ≡ (3, 0)) × (number_and_place (read_of (text "a&") 0 0 0 Old 16) ≡ (2, 0))
ends-needed = (computed.14.0, computed.14.1, computed.15.0, computed.15.1)

-- a document that is accepted, and is told to be no longer than a document may be, spells a legal content of the kind that is told
content-of : (doc : List ℕ) (ns np na kind : ℕ) → (read_of doc ns np na Old 16).answer.refusal ≡ 0 → (read_of doc ns np na Old 16).answer.place ≤ 1048576
    → (read_of doc ns np na Old 16).answer.kind ≡ kind → (c : Trees TagSaid) × Spells doc kind c × Legal kind c × HasRoom (room_of ns np na) kind c
content-of doc ns np na kind ok short own =
    let l = accepted-whole doc ns np na Old 16 ok in
    let few : length doc ≤ 1048576 = omega (arith, short, l) in
    let h = accepted-legal doc ns np na Old 16 (omega arith) few ok in
    let e = sym (legal-accepted doc ns np na Old 16 (omega arith) few h.0 h.1 h.2 h.3 h.4).kinds ∙ own in
    let r : Spells doc h.0 h.1 × Legal h.0 h.1 × HasRoom (room_of ns np na) h.0 h.1 = (h.2, h.3, h.4) in
    let v = rw e at r in
    (h.1, v.0, v.1, v.2)

abbrev refusal_in : Outcome → ℕ
refusal_in o = o.answer.refusal

abbrev place_in : Outcome → ℕ
place_in o = o.answer.place

abbrev kind_in : Outcome → ℕ
kind_in o = o.answer.kind

pub sheet-accepted : (read_of sheet 25 4 4 Old 16).answer.refusal ≡ 0
sheet-accepted = ap (λ (o : Outcome). o.answer.refusal) sheet-read

pub sheet-short : length sheet ≤ 1048576
sheet-short =
    let p : (read_of sheet 25 4 4 Old 16).answer.place ≡ 1387 = ap (λ (o : Outcome). o.answer.place) sheet-read in
    let l = accepted-whole sheet 25 4 4 Old 16 sheet-accepted in
    omega (arith, p, l)

pub sheet-content : (c : Trees TagSaid) × Spells sheet 2 c × Legal 2 c × HasRoom (room_of 25 4 4) 2 c
sheet-content = let p = ap place_in sheet-read in content-of sheet 25 4 4 2 (ap refusal_in sheet-read) (omega (arith, p)) (ap kind_in sheet-read)

-- of kind 1
pub day-content : (c : Trees TagSaid) × Spells short_day 1 c × Legal 1 c × HasRoom (room_of 12 92 92) 1 c
day-content = let p = ap place_in day-read in content-of short_day 12 92 92 1 (ap refusal_in day-read) (omega (arith, p)) (ap kind_in day-read)

-- of kind 3 with series and with none
pub constraint-content : (c : Trees TagSaid) × Spells constraint_sheet 3 c × Legal 3 c × HasRoom (room_of 25 4 4) 3 c
constraint-content = let p = ap place_in constraint-read in content-of constraint_sheet 25 4 4 3 (ap refusal_in constraint-read) (omega (arith, p)) (ap kind_in constraint-read)

pub withdrawn-content : (c : Trees TagSaid) × Spells withdrawn_sheet 3 c × Legal 3 c × HasRoom (room_of 0 0 0) 3 c
withdrawn-content = let p = ap place_in withdrawn-read in content-of withdrawn_sheet 0 0 0 3 (ap refusal_in withdrawn-read) (omega (arith, p)) (ap kind_in withdrawn-read)

pub sheet-faultless : NoneIn sheet 25 4 4
sheet-faultless = accepted-faultless sheet 25 4 4 Old 16 (omega arith) sheet-short sheet-accepted
