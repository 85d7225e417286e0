-- The definitions say something: two documents that look different and whose tags say the same. Assumes nothing.
use Prim.Native.Nat.{ℕ}
use mathlib.Core.Path.{refl}
use mathlib.Core.List.{List, ◌++◌}
use Rattle.slices.specs.Bytes.{byte}
use Rattle.slices.specs.Run.{run}
use Rattle.slices.specs.Same.{same, begins, seek, here, first_at}
use Rattle.slices.specs.Walk.{walk}
use Rattle.slices.specs.Text.{text}
use Rattle.characters.specs.Utf8.{seq_len, control, single, char_at}
use Rattle.characters.specs.Says.{char_next, chars_over, all_chars, met}
use Rattle.attributes.specs.Names.{name_start, name_byte, white}
use Rattle.slices.specs.Part.{part_of}
use Rattle.attributes.specs.Attribute.{quote, fit, standing_next, value_next, value_over, value, opening_from, opening, attribute_end, attribute_quote, attribute_name, attribute, piece_after, piece}
use Rattle.tags.specs.Known.{absent, dtd_name, no_dtd, with_dtd, none_known, up_to_two, with_attribute}
use Rattle.tags.specs.Tail.{onto, ends_after, ends, kept_of, named, twice}
use Rattle.items.specs.Comment.{comment_to, comment}
use Rattle.items.specs.Text.{text_to, text_item}
use Rattle.items.specs.Item.{end_close, end_name, end_tag, comment_item, comment_tag, tag_of, tag_item, start_tag, item}
use Rattle.prolog.specs.Prolog.{declared_by, declared, encoded_by, encoded, declaration_by, declaration, mark_len, behind_mark, begin_after, begin}
use Rattle.elements.specs.Names.{names, number_in, element_no}
use Rattle.states.specs.Attributes.{there}
use Rattle.reader.specs.Items.{items_after, items_from}
use Rattle.contents.specs.Spelled.{value_given, dtd_of_tag, said_of_tag, element_in, signs_by, signs_of, allowed, AllAllowed, SpellAlike}

abbrev pub plain : List ℕ
plain =
    text "<Kostenblatt DtdBDEWNachrichtenVersion=\"1.0\"><SenderIdentification v=\"9900000000001\" codingScheme=\"A10\"/>" ++
    text "<Period></Period></Kostenblatt>"

abbrev pub pretty : List ℕ
pretty =
    text "<?xml version=\"1.0\"?> <Kostenblatt DtdBDEWNachrichtenVersion='1.0' > <!-- sent by --><SenderIdentification codingScheme='A10'" ++
    text " v='9900000000001' ></SenderIdentification > <Period/> </Kostenblatt>"

pub plain-pretty : SpellAlike plain pretty
unfolding byte run same begins seek here first_at walk seq_len control single char_at char_next chars_over all_chars met name_start name_byte white quote fit standing_next value_next value_over value
    opening_from opening attribute_end attribute_quote attribute_name attribute piece_after piece part_of absent dtd_name no_dtd with_dtd none_known up_to_two with_attribute onto ends_after
    ends kept_of named twice comment_to comment text_to text_item end_close end_name end_tag comment_item comment_tag tag_of tag_item start_tag item
    declared_by declared encoded_by encoded declaration_by declaration mark_len behind_mark begin_after begin names number_in element_no there items_after items_from
    value_given dtd_of_tag said_of_tag element_in signs_by signs_of allowed AllAllowed
plain-pretty =
    record {
      from = 0;
      begins = refl;
      items = (refl, (refl, (refl, (refl, (refl, tt)))));
      other_from = 21;
      other-begins = refl;
      other_items = (refl, (refl, (refl, (refl, (refl, (refl, (refl, (refl, (refl, (refl, tt))))))))));
      tags = refl;
    }
