-- Readable Qty digits of two short documents: the definition has instances, and asks for the name. Assumes nothing.
use Prim.Native.Nat.{◌-◌}
use mathlib.Core.Path.{◌≡◌, refl, sym}
use mathlib.Core.List.{[], ◌∷◌}
use mathlib.Core.Logic.{inl, ⊎_elim}
use mathlib.Core.Bool.{Bool, true, false}
use native.Mathlib.Omega.{arith}
use Rattle.lists.proofs.Cases.{zero-not-one, never}
use Rattle.slices.specs.Bytes.{byte}
use Rattle.slices.specs.Run.{run}
use Rattle.slices.specs.Walk.{walk}
use Rattle.slices.specs.Same.{same, begins}
use Rattle.slices.specs.Text.{text}
use Rattle.characters.specs.Utf8.{seq_len, control, single, char_at}
use Rattle.characters.specs.References.{within, xml_char, digit, ref_digit, base, digit_value, number_by, char_by, numbered_to, numbered_at, reference_at}
use Rattle.characters.specs.Says.{met}
use Rattle.attributes.specs.Names.{name_start, name_byte, white}
use Rattle.slices.specs.Part.{part_of}
use Rattle.attributes.specs.Attribute.{quote, fit, standing_next, referred_next, value_next, value_over, value, opening_from, opening, attribute_end, attribute_quote, attribute_name, attribute, piece_after, piece}
use Rattle.tags.specs.Known.{absent, none_known, up_to_two, with_attribute}
use Rattle.tags.specs.Tail.{onto, ends_after, ends, kept_of, named, twice}
use Rattle.items.specs.Item.{tag_of, tag_item, start_tag, item}
use Rattle.prolog.specs.Prolog.{mark_len, begin_after, begin}
use Rattle.reader.specs.Items.{Placed, placed, items_after, items_from}
use Rattle.items.specs.Parts.{span_of}
use Rattle.digits.specs.Items.{InV, value_in}
use Rattle.digits.specs.Outside.{opened, open_at}
use Rattle.blindness.specs.Readable.{tag_named, InTags, InTagsAfter, InQty, QtyDigit}

-- the 5 in a Qty, due or not
pub qty-digit : QtyDigit (text "<Qty v=\"5\"/>") 8
unfolding QtyDigit InTagsAfter InTags InV tag_named span_of open_at opened digit byte begin begin_after mark_len begins same items_from items_after item start_tag tag_item tag_of ends ends_after onto kept_of named twice with_attribute up_to_two none_known absent piece piece_after attribute attribute_name attribute_quote attribute_end opening opening_from value value_next standing_next value_over walk met char_at seq_len control single quote fit name_start name_byte white run part_of
qty-digit = (refl, inl (8, refl, ((refl, (omega arith, omega arith)), refl)))

-- and the one in a Pos
pub pos-digit : QtyDigit (text "<Pos v=\"5\"/>") 8 → ⊥
unfolding QtyDigit InTagsAfter InTags InV tag_named span_of open_at opened digit byte begin begin_after mark_len begins same items_from items_after item start_tag tag_item tag_of ends ends_after onto kept_of named twice with_attribute up_to_two none_known absent piece piece_after attribute attribute_name attribute_quote attribute_end opening opening_from value value_next standing_next value_over walk met char_at seq_len control single quote fit name_start name_byte white run part_of
pos-digit h = ⊎_elim (λ z. let e : ◌≡◌ {A = Bool} false true = z.2.0.0 in zero-not-one (cc)) (λ z. z.1) h.1

-- of `1&#50;3` the 1 and the 3, and not the 5 of the reference, which stands for 2
pub beside-reference : QtyDigit (text "<Qty v=\"1&#50;3\"/>") 8 × QtyDigit (text "<Qty v=\"1&#50;3\"/>") 14
unfolding QtyDigit InTagsAfter InTags InV tag_named span_of open_at opened digit byte begin begin_after mark_len begins same items_from items_after item start_tag tag_item tag_of ends ends_after onto kept_of named twice with_attribute up_to_two none_known absent piece piece_after attribute attribute_name attribute_quote attribute_end opening opening_from value value_next standing_next value_over walk met char_at seq_len control single quote fit name_start name_byte white run part_of referred_next reference_at numbered_at numbered_to ref_digit number_by base digit_value char_by xml_char within
beside-reference = (
  (refl, inl (8, refl, ((refl, (omega arith, omega arith)), refl))),
  (refl, inl (14, refl, ((refl, (omega arith, omega arith)), refl))),
)

-- of a tag alone at the front, whose value it is
in-reference : (x : Placed) → x.at ≡ 0 → (span_of x.item).start ≡ 8 → value_in x.rest (span_of x.item) ≡ text "1&#50;3" → InTags InQty (x ∷ []) 11 → ⊥
unfolding InTags open_at opened
in-reference x a s v h =
    ⊎_elim
    (λ z. let e : z.0 - (span_of x.item).start ≡ 3 = omega (arith, z.1) in never (sym (rw (v, e) at z.2.1)))
    (λ z. z.1)
    h

pub reference-digit : QtyDigit (text "<Qty v=\"1&#50;3\"/>") 11 → ⊥
unfolding QtyDigit InTagsAfter InTags InV tag_named span_of open_at opened digit byte begin begin_after mark_len begins same items_from items_after item start_tag tag_item tag_of ends ends_after onto kept_of named twice with_attribute up_to_two none_known absent piece piece_after attribute attribute_name attribute_quote attribute_end opening opening_from value value_next standing_next value_over walk met char_at seq_len control single quote fit name_start name_byte white run part_of referred_next reference_at numbered_at numbered_to ref_digit number_by base digit_value char_by xml_char within
reference-digit h = in-reference (placed 0 (text "<Qty v=\"1&#50;3\"/>")) refl refl refl h.1
