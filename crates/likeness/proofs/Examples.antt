-- The definitions say something: a document, places between its items, a tag as it is written and written otherwise. Assumes nothing.
use Prim.Native.Nat.{ℕ}
use mathlib.Core.Path.{◌≡◌, refl, ap}
use mathlib.Core.List.{List, [], ◌∷◌, ◌++◌}
use mathlib.Core.Bool.{true, false}
use mathlib.Core.Logic.{inl, inr}
use native.Mathlib.Omega.{arith}
use Rattle.slices.specs.Bytes.{byte}
use Rattle.slices.specs.Run.{run}
use Rattle.slices.specs.Same.{same, begins, seek, here, first_at}
use Rattle.slices.specs.Walk.{walk}
use Rattle.slices.specs.Part.{part_of}
use Rattle.slices.specs.Text.{text}
use Rattle.characters.specs.Utf8.{seq_len, control, single, char_at}
use Rattle.characters.specs.Says.{char_next, chars_over, all_chars, met}
use Rattle.attributes.specs.Names.{name_start, name_byte, white}
use Rattle.attributes.specs.Attribute.{quote, fit, standing_next, value_next, value_over, value, value_end, opening_from, opening, attribute_end, attribute_quote, attribute_name, attribute, piece_after, piece}
use Rattle.tags.specs.Known.{absent, dtd_name, no_dtd, with_dtd, none_known, up_to_two, with_attribute}
use Rattle.tags.specs.Tail.{onto, ends_after, ends, kept_of, named, twice}
use Rattle.items.specs.Comment.{comment_to, comment}
use Rattle.items.specs.Text.{text_to, text_item}
use Rattle.items.specs.Item.{end_close, end_name, end_tag, comment_item, comment_tag, tag_of, tag_item, start_tag, item}
use Rattle.prolog.specs.Prolog.{mark_len, begin_after, begin}
use Rattle.reader.specs.Items.{items_after, items_from}
use Rattle.contents.specs.Spelled.{allowed, AllAllowed, SpellAlike}
use Rattle.likeness.specs.Alike.{Between, BetweenItems, White, IsComment, Written, attribute_bytes, attributes_bytes, WrittenTag, close_bytes, tag_bytes, end_bytes, Quoted, Without, WellWritten, AllWell, WellTag, none, exchanged, SameTag, in_quotes}
use Rattle.likeness.proofs.Theorems.{empty-or-both}

-- ` v="1"` and ` codingScheme = 'A10'`
abbrev pub v_written : Written
v_written = record { before = text " "; name = text "v"; left = []; right = []; mark = 0x22; value = text "1" }

abbrev pub scheme_written : Written
scheme_written = record { before = text " "; name = text "codingScheme"; left = text " "; right = text " "; mark = 0x27; value = text "A10" }

abbrev pub sender_tag : WrittenTag
sender_tag = record { name = text "SenderIdentification"; attributes = v_written ∷ scheme_written ∷ []; last = [] }

abbrev pub sender_otherwise : WrittenTag
sender_otherwise = record { name = text "SenderIdentification"; attributes = in_quotes 0x22 scheme_written ∷ in_quotes 0x27 v_written ∷ []; last = text " " }

-- what they spell
pub tags-spelt : (tag_bytes sender_tag true ≡ text "<SenderIdentification v=\"1\" codingScheme = 'A10'/>")
    × (tag_bytes sender_otherwise true ≡ text "<SenderIdentification codingScheme = \"A10\" v='1' />")
    × (tag_bytes sender_tag false ++ end_bytes sender_tag.name [] ≡ text "<SenderIdentification v=\"1\" codingScheme = 'A10'></SenderIdentification>")
unfolding tag_bytes attributes_bytes attribute_bytes close_bytes end_bytes
tags-spelt = (refl, refl, refl)

-- the tag stands between the start and the end of a Kostenblatt
pub sender-between : BetweenItems (text "<Kostenblatt>" ++ (tag_bytes sender_tag true ++ text "</Kostenblatt>")) 13
unfolding tag_bytes attributes_bytes attribute_bytes close_bytes Between
    byte run same begins seek here first_at walk seq_len control single char_at char_next chars_over all_chars met name_start name_byte white quote fit standing_next value_next value_over value
    opening_from opening attribute_end attribute_quote attribute_name attribute piece_after piece part_of absent dtd_name no_dtd with_dtd none_known up_to_two with_attribute onto ends_after
    ends kept_of named twice comment_to comment text_to text_item end_close end_name end_tag comment_item comment_tag tag_of tag_item start_tag item
    mark_len begin_after begin items_after items_from allowed AllAllowed
sender-between = record { from = 0; begins = refl; items = (refl, (refl, (refl, tt))); between = inr (inl refl) }

pub some-white : White (text " \n\t")
unfolding run white
some-white = refl

pub a-comment : IsComment (text "<!-- sent by -->")
unfolding byte run same begins seek here first_at walk seq_len control single char_at char_next chars_over all_chars white comment_to comment comment_item comment_tag item
a-comment = refl

pub tags-well : WellTag sender_tag × WellTag sender_otherwise
unfolding AllWell byte run first_at walk seek here begins same seq_len control single char_at met name_start name_byte white quote fit standing_next value_next value_over value
tags-well = (
  record { name = record { first = refl; all = refl }; attributes = (one, (two, tt)); last = refl },
  record { name = record { first = refl; all = refl }; attributes = (three, (four, tt)); last = refl },
)
  where
    one : WellWritten v_written
    one = record { some = omega arith; before = refl; name = record { first = refl; all = refl }; left = refl; right = refl; mark = refl; value = refl }

    two : WellWritten scheme_written
    two = record { some = omega arith; before = refl; name = record { first = refl; all = refl }; left = refl; right = refl; mark = refl; value = refl }

    three : WellWritten (in_quotes 0x22 scheme_written)
    three = record { some = omega arith; before = refl; name = record { first = refl; all = refl }; left = refl; right = refl; mark = refl; value = refl }

    four : WellWritten (in_quotes 0x27 v_written)
    four = record { some = omega arith; before = refl; name = record { first = refl; all = refl }; left = refl; right = refl; mark = refl; value = refl }

pub same-sender : SameTag sender_tag sender_otherwise
same-sender = record { name = refl; attributes = exchanged (record { name = refl; value = refl }) (record { name = refl; value = refl }) none }

-- a value that may change its quotes, and one that holds the other quote
pub quotes-free : Without 0x22 (text "A10") × (Quoted 0x22 (text "A'0")) × (Quoted 0x27 (text "A'0") → ⊥)
unfolding byte run first_at walk seek here begins same seq_len control single char_at met fit standing_next value_next value_over value
quotes-free = (refl, refl, λ e. let z : ◌≡◌ {A = ℕ} 1 3 = ap value_end e in omega arith)

-- ---- two documents that are alike, and neither of which is accepted

abbrev pub empty_root : List ℕ
empty_root = text "<Kostenblatt/>"

abbrev pub closed_root : List ℕ
closed_root = text "<Kostenblatt></Kostenblatt>"

abbrev root : WrittenTag
root = record { name = text "Kostenblatt"; attributes = []; last = [] }

root-well : WellTag root
unfolding AllWell byte run name_start name_byte white
root-well = record { name = record { first = refl; all = refl }; attributes = tt; last = refl }

root-between : BetweenItems empty_root 0
unfolding Between byte run same begins name_start name_byte white piece_after piece absent no_dtd none_known ends_after ends kept_of twice tag_of tag_item start_tag item mark_len begin_after begin
    items_after items_from allowed AllAllowed
root-between = record { from = 0; begins = refl; items = (refl, tt); between = inl refl }

pub roots-alike : SpellAlike empty_root closed_root
unfolding tag_bytes attributes_bytes close_bytes end_bytes run white
roots-alike = empty-or-both [] [] root [] root-well refl root-between
