-- "Refusal numbers": 01's table, a name for each number. Definitions give refusals by these names; what is promised of them tells 01's numbers themselves.
use Rattle.std.specs.Prelude.{ℕ, Result, Ok, Err}
use Rattle.refusals.specs.declared.Refusal.{Refusal}
use Rattle.refusals.specs.declared.Refusal.TheVariants.{TooLong, UnreadableItem, NotDue, TableFull, WrongAttribute, AgainstForm, OutsideList, AgainstValue, UsedAgain, BufferShort, NotOneNote, ContentUnfit, NoRoomToWrite}

-- "Acceptance is number 0": nothing is refused, as yet or by this rule alone
abbrev pub no_refusal : ℕ
no_refusal = 0

-- "the document is longer than 1,048,576 bytes"
abbrev pub too_long : ℕ
too_long = 1

-- "the item is unreadable"
abbrev pub unreadable_item : ℕ
unreadable_item = 2

-- "element not due, too many, too few, wrong end tag, other text, second root, document over too early"
abbrev pub not_due : ℕ
not_due = 3

-- "a due series or Interval start finds its table full"
abbrev pub table_full : ℕ
table_full = 4

-- "attribute missing or unknown"
abbrev pub wrong_attribute : ℕ
wrong_attribute = 5

-- "value against its form or fixed value"
abbrev pub against_form : ℕ
against_form = 6

-- "value outside its code list"
abbrev pub outside_list : ℕ
outside_list = 7

-- "value or count against another value"
abbrev pub against_value : ℕ
against_value = 8

-- "TimeSeriesIdentification used before in this document"
abbrev pub used_again : ℕ
used_again = 9

-- "the note buffer has fewer than 16 bytes"; K9: "converting into fewer than 24 bytes is 10"
abbrev pub buffer_short : ℕ
buffer_short = 10

-- "note reader only: the bytes aren't one note"; K9: "then 11 for bytes that are neither"
abbrev pub not_one_note : ℕ
not_one_note = 11

-- writer only: "12 content (pairs or rows past what is lent too)"
abbrev pub content_unfit : ℕ
content_unfit = 12

-- "then 13 length"
abbrev pub no_room_to_write : ℕ
no_room_to_write = 13

-- the refusals that the code tells
abbrev pub number : Refusal → ℕ
number TooLong = too_long
number UnreadableItem = unreadable_item
number NotDue = not_due
number TableFull = table_full
number WrongAttribute = wrong_attribute
number AgainstForm = against_form
number OutsideList = outside_list
number AgainstValue = against_value
number UsedAgain = used_again
number BufferShort = buffer_short
number NotOneNote = not_one_note
number ContentUnfit = content_unfit
number NoRoomToWrite = no_room_to_write

-- what comes to no value, or to a refusal
abbrev pub refusal_told : Result Unit Refusal → ℕ
refusal_told (Ok _) = no_refusal
refusal_told (Err r) = number r
