-- A draft, its document, and that it is judged fit: by computation. Assumes nothing.
use Prim.Native.Nat.{ℕ, zero, suc, ◌+◌, ◌*◌, ◌≤◌, ◌<◌}
use mathlib.Core.Path.{◌≡◌, refl, subst, sym}
use mathlib.Core.List.{List, [], ◌∷◌, ◌++◌, map}
use mathlib.Core.Bool.{Bool, true, false, cond, ◌&&◌, not}
use native.Mathlib.Omega.{arith}
use lib.IntN.{ℤ, pos, negsuc}
use lib.ListN.{length, get_or}
use Rattle.lists.proofs.Below.{every, below}
use Rattle.slices.specs.Text.{text}
use Rattle.slices.specs.Bytes.{byte}
use Rattle.slices.specs.Part.{part_of}
use Rattle.slices.specs.Run.{run}
use Rattle.slices.specs.Same.{same, begins}
use Rattle.slices.specs.Walk.{walk}
use Rattle.characters.specs.Utf8.{seq_len, control, single, char_at}
use Rattle.characters.specs.References.{digit, reference_at, named_at, numbered_at}
use Rattle.characters.specs.Says.{char_next, chars_over, all_chars, met, char_of, said_by, said_at, says_after, says}
use Rattle.pictures.specs.Picture.{capital, capital_or_digit, first_three, takes, held, fits_of}
use Rattle.pictures.specs.Number.{shown_number, number_at}
use Rattle.trims.specs.Trim.{space, drop_lead, kept_before, drop_trail, dropped}
use Rattle.numbers.specs.Digits.{digits, number_from, nothing_left, only_digits}
use Rattle.numbers.specs.Number.{number_form, at_most_nine, number_within, number_of}
use Rattle.codes.specs.Lists.{lists, codes_of, listed}
use Rattle.forms.specs.Forms.{identification, market_partner, resource_object, quarter_hour}
use Rattle.times.specs.Calendar.{leap, month_days, real_date, days_before, leap_day, day_number, day_of}
use Rattle.times.specs.Times.{minute_on, minute_at, date_time, between, interval}
use Rattle.times.specs.Periods.{cost_period, quarter_hours}
use Rattle.rules.specs.Rules.{is_version, judge_interval_by, judge_interval, position_fits, judge, unless, form_refusal, period_fits, judge_period_by, judge_period}
use Rattle.elements.specs.Names.{names, number_in, element_no}
use Rattle.structure.specs.Rows.{name_of, parent_of, required, repeated}
use Rattle.columns.specs.Columns.{collapsed, form_of, scheme_of, role_of}
use Rattle.guideline.specs.Kinds.{no_demands, message_alone, kind_two, kind_at, fixed_two, fixed_for, within_most, has_enough}
use Rattle.guideline.specs.Rows.{kostenblatt, rows_of}
use Rattle.states.specs.Attributes.{agree, asks_v, asks_scheme, demands_at, meets, no_others}
use Rattle.views.specs.Layout.{header_pairs, series_pairs, values_of, pair_after, pairs_after, first_pair, cell_of}
use Rattle.views.specs.Shown.{pair_view}
use Rattle.contents.specs.Said.{given, bytes}
use Rattle.contents.specs.Legal.{those, sayings, period_by, period_in, period_of, quarters_of, dtd_agrees, attributes_agree, scheme_fits, value_fits, fixed_fits, root_fits, element_fits, in_turn, count_fits, is_among, identifications}
use Rattle.wholes.specs.Whole.{whole_in}
use Rattle.amounts.specs.Texts.{decimals, pointed, fraction_text, unsigned_text, amount_text}
use Rattle.escapes.specs.Escaped.{escaped_byte, escaped}
use Rattle.layouts.specs.Layout.{element_name, attribute_text, attributes_text, tag_text, end_text, layout_of}
use Rattle.drafts.specs.Draft.{Draft, is_no_pair, pair_value, no_dtd_said, single_tag, is_said, root_tag, bare_tag, number_tag, singles, intervals_from, role_row, pair_for, singles_in, period_tree, series_from, draft_content, draft_document, pair_fits, RowsLent, Lent}
use Rattle.drafts.specs.Judged.{singles_fit, originals_said, positions_in, all_written, amounts_fit, series_fits, every_series, all_apart, draft_legal}

-- a Kostenblatt of one series and two Intervals; two values have bytes that need a reference, one has a space that is dropped where it is judged
abbrev pub a_draft : Draft
a_draft =
    record {
      kind = 2;
      text = text "1.0K & B1Z05A149900000000001A10A189900000000002A392024-01-01T00:00:00Z2024-01-01T00:00Z/2024-01-01T00:30ZS<1> A018716867000016A1234567890NDE9900000000003A03Z01PT15M";
      pairs =
          0 ∷ 0 ∷ 0 ∷ 0 ∷ 0 ∷ 3 ∷ 3 ∷ 5 ∷ 8 ∷ 1 ∷ 9 ∷ 3 ∷ 12 ∷ 3 ∷ 15 ∷ 13 ∷ 28 ∷ 3 ∷ 31 ∷ 3 ∷ 34 ∷ 13 ∷ 28 ∷ 3 ∷
          47 ∷ 3 ∷ 50 ∷ 20 ∷ 70 ∷ 35 ∷ 0 ∷ 0 ∷ 105 ∷ 4 ∷ 109 ∷ 4 ∷ 0 ∷ 0 ∷ 113 ∷ 13 ∷ 0 ∷ 0 ∷ 0 ∷ 0 ∷ 126 ∷ 11 ∷ 137 ∷ 3 ∷
          140 ∷ 13 ∷ 28 ∷ 3 ∷ 153 ∷ 3 ∷ 156 ∷ 3 ∷ 0 ∷ 0 ∷ 0 ∷ 0 ∷ 0 ∷ 0 ∷ 0 ∷ 0 ∷ 0 ∷ 0 ∷ 0 ∷ 0 ∷ 0 ∷ 0 ∷ 70 ∷ 35 ∷
          159 ∷ 5 ∷ 0 ∷ 0 ∷
          [];
      count = 1;
      series = 0 ∷ 0 ∷ 0 ∷ 0 ∷ 0 ∷ 0 ∷ 0 ∷ 0 ∷ 0 ∷ 0 ∷ 0 ∷ 2 ∷ [];
      positions = 1 ∷ 2 ∷ [];
      amounts = pos 20000 ∷ negsuc 499 ∷ [];
    }

-- to the byte
pub a-document : draft_document a_draft ≡
    text "<Kostenblatt DtdBDEWNachrichtenVersion=\"1.0\"><DocumentIdentification v=\"K &amp; B\"/><DocumentVersion v=\"1\"/><DocumentTyp" ++
    text "e v=\"Z05\"/><ProcessType v=\"A14\"/><SenderIdentification v=\"9900000000001\" codingScheme=\"A10\"/><SenderRole v=\"A18\"/><Recei" ++
    text "verIdentification v=\"9900000000002\" codingScheme=\"A10\"/><ReceiverRole v=\"A39\"/><DocumentDateTime v=\"2024-01-01T00:00:00Z" ++
    text "\"/><TimePeriodCovered v=\"2024-01-01T00:00Z/2024-01-01T00:30Z\"/><CostTimeSeries><TimeSeriesIdentification v=\"S&lt;1>\"/><B" ++
    text "usinessType v=\" A01\"/><Product v=\"8716867000016\"/><ResourceObject v=\"A1234567890\" codingScheme=\"NDE\"/><ResourceProvider " ++
    text "v=\"9900000000003\" codingScheme=\"A10\"/><CurveType v=\"A03\"/><MeasurementUnit v=\"Z01\"/><Period><TimeInterval v=\"2024-01-01T" ++
    text "00:00Z/2024-01-01T00:30Z\"/><Resolution v=\"PT15M\"/><Interval><Pos v=\"1\"/><Qty v=\"20\"/></Interval><Interval><Pos v=\"2\"/><Q" ++
    text "ty v=\"-0.5\"/></Interval></Period></CostTimeSeries></Kostenblatt>"
unfolding draft_document layout_of tag_text end_text element_name names attributes_text attribute_text draft_content root_tag bare_tag number_tag no_dtd_said singles_in singles single_tag is_said given pair_value
    is_no_pair pair_view part_of intervals_from period_tree series_from role_row pair_for first_pair pairs_after pair_after values_of asks_v asks_scheme form_of scheme_of role_of name_of rows_of kostenblatt
    element_no number_in same escaped escaped_byte whole_in amount_text unsigned_text fraction_text decimals pointed
a-document = refl

pub a-draft-fits : draft_legal a_draft ≡ true
unfolding draft_legal singles_fit originals_said positions_in all_written amounts_fit series_fits every_series all_apart draft_content root_tag bare_tag number_tag no_dtd_said singles_in singles single_tag is_said given bytes pair_value
    is_no_pair pair_view part_of intervals_from period_tree series_from role_row pair_for first_pair pairs_after pair_after values_of asks_v asks_scheme form_of scheme_of role_of collapsed name_of required repeated rows_of kostenblatt
    element_no names number_in same escaped escaped_byte whole_in amount_text unsigned_text fraction_text decimals pointed
    those sayings period_by period_in period_of quarters_of dtd_agrees attributes_agree scheme_fits value_fits fixed_fits root_fits element_fits in_turn count_fits is_among identifications
    agree demands_at meets no_others no_demands message_alone kind_two kind_at fixed_two fixed_for within_most has_enough
    byte run begins walk seq_len control single char_at met char_of said_by said_at says_after says digit reference_at named_at numbered_at capital capital_or_digit first_three takes held fits_of shown_number number_at
    space drop_lead kept_before drop_trail dropped digits number_from nothing_left only_digits number_form at_most_nine number_within number_of lists codes_of listed identification market_partner resource_object quarter_hour
    leap month_days real_date days_before leap_day day_number day_of minute_on minute_at date_time between interval cost_period quarter_hours
    is_version judge_interval_by judge_interval position_fits judge unless form_refusal period_fits judge_period_by judge_period
a-draft-fits = refl

all-fit : every (pair_fits a_draft) 38 ≡ true
unfolding pair_fits pair_view part_of all_chars char_next chars_over walk char_at seq_len single control byte
all-fit = refl

pub a-draft-lent : Lent a_draft
a-draft-lent =
    record {
      kind = refl;
      pairs = omega arith;
      values = λ k h. below (pair_fits a_draft) 38 all-fit k (omega arith);
      series = omega arith;
      rows = λ i h. let z : i ≡ 0 = omega arith in subst (RowsLent a_draft) (sym z) (record { positions = omega arith; amounts = omega arith });
    }
