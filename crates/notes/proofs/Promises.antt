-- What is promised of the note, over the definitions of the contracts (`left`, `note_in`, `converted`, `converted_out`).
--     three-hundred, first-notes   the papers' examples
--     fits-fifteen, fits-most      numbers below 2^21 take at most 15 bytes in the old shape and 19 in the new, so 24 are room for every note
--     fits-reader                  those that the document reader writes take at most 11 and 13
--     left-padded                  what has room is written whole
--     round_trip, written_back     a note is read back, and so is what the writer left in the buffer
--     accepts-exactly              of all lists of bytes the reader takes the notes of both shapes and nothing else
--     refuses-rest                 and answers 11 and six zeros on anything else
--     hundred-first, hundred-twice, other-first, other-count
--                                  five numbers that begin with 100, seven whose second is 100 or whose first is another, and any other count are no note
--     turned                       a note of either shape is converted into the note of the shape that is asked for
--     own-shape                    one that has the shape already, into its own bytes
--     old-new-old, new-old-new     there and back: the same bytes; and from the new shape exactly when the depth is 0
--     a-note                       there are such notes
-- Assumes nothing.
use mathlib.Core.Path.{◌≡◌, refl, sym, ap, ◌∙◌}
use mathlib.Core.List.{List, [], ◌∷◌, ◌++◌}
use Prim.Native.Nat.{ℕ, ◌+◌, ◌*◌, ◌^◌, ◌≤◌, ◌<◌}
use native.Mathlib.Omega.{arith}
use mathlib.Core.Logic.{⊎_elim}
use native.Mathlib.Nat.{zero-add}
use lib.ListN.{length, take, drop, get_or, length-append, length-replicate}
use lib.Seq.{sets-eq}
use borrow.Author.Tests.{eq-eqb, ne_eqb}
use Rattle.std.specs.Prelude.{Option, Some, None, Ok}
use Rattle.lists.specs.Zeros.{zeros, padded}
use Rattle.lists.proofs.Cases.{eqb-cases, zero-not-one}
use Rattle.lists.proofs.Zeros.{drop-zeros, take-padded}
use Rattle.notes.specs.Note.{groups_in, groups, flat, new_mark, numbers_for, note_of, tells_in, left, AllBelow, IsNote}
use Rattle.notes.specs.Reader.{numbers_in, old_note, new_note, note_answer, note_in, read_refusal, six_of}
use Rattle.notes.specs.Converter.{in_shape, converted, converted_out}
use Rattle.notes.specs.declared.Note.{Note}
use Rattle.notes.specs.declared.Shape.{Shape}
use Rattle.notes.specs.declared.Shape.TheVariants.{Old, New}
use Rattle.notes.proofs.Groups.{last, groups-three, groups-le}
use Rattle.notes.proofs.Numbers.{numbers-back, numbers-other, numbers-are}
use Rattle.notes.proofs.Converting.{conv-turned}

-- "(300 is `Ac 02`.)"
pub three-hundred : groups 300 ≡ 0xAC ∷ 0x02 ∷ []
unfolding groups_in
three-hundred = refl

-- the note `03 00 00 00 00` of the empty input; `03 2D 02 00 00` of P4, whose root is open, and the new note of it
pub first-notes : (note_of Old (record { refusal = 3; place = 0; kind = 0; series = 0; intervals = 0; depth = 0 }) ≡ 0x03 ∷ 0x00 ∷ 0x00 ∷ 0x00 ∷ 0x00 ∷ [])
    × (note_of Old (record { refusal = 3; place = 45; kind = 2; series = 0; intervals = 0; depth = 1 }) ≡ 0x03 ∷ 0x2D ∷ 0x02 ∷ 0x00 ∷ 0x00 ∷ [])
    × (note_of New (record { refusal = 3; place = 45; kind = 2; series = 0; intervals = 0; depth = 1 })
    ≡ 0x64 ∷ 0x03 ∷ 0x2D ∷ 0x02 ∷ 0x00 ∷ 0x00 ∷ 0x01 ∷ [])
unfolding groups_in flat
first-notes = (refl, refl, refl)

-- ---- how long a note is
flat-le : (ns : List ℕ) → AllBelow (2 ^ 21) ns → length (flat ns) ≤ 3 * length ns
unfolding flat AllBelow
flat-le [] h = omega arith
flat-le (n ∷ ns) h = omega (arith, length-append (groups n) (flat ns), ap length (groups-three n h.0), groups-le 2 n, flat-le ns h.1)

pub fits-fifteen : (n : Note) → AllBelow (2 ^ 21) (numbers_for Old n) → length (note_of Old n) ≤ 15
fits-fifteen n h = flat-le (numbers_for Old n) h

one_byte : (n : ℕ) → n < 128 → length (groups n) ≤ 1
one_byte n h = rw (last 4 n h) (omega arith)

three-bytes : (n : ℕ) → n < 2 ^ 21 → length (groups n) ≤ 3
three-bytes n h = omega (arith, ap length (groups-three n h), groups-le 2 n)

-- a number in front of others
front-le : (n a b : ℕ) (ns : List ℕ) → length (groups n) ≤ a → length (flat ns) ≤ b → length (flat (n ∷ ns)) ≤ a + b
unfolding flat
front-le n a b ns h k = omega (arith, length-append (groups n) (flat ns))

-- 100 takes one
pub fits-most : (shape : Shape) (n : Note) → AllBelow (2 ^ 21) (numbers_for shape n) → length (note_of shape n) ≤ 19
unfolding AllBelow
fits-most Old n h = let f = fits-fifteen n h in omega arith
fits-most New n h = front-le new_mark 1 18 _ (one_byte new_mark (omega arith)) (flat-le _ h.1)

none-le : length (flat []) ≤ 0
unfolding flat
none-le = omega arith

-- refusal, kind and depth in one byte each, and 100 too
module _ (n : Note) (r : n.refusal < 128) (p : n.place < 2 ^ 21) (k : n.kind < 128) (s : n.series < 2 ^ 21) (i : n.intervals < 2 ^ 21) where
  five-le : (d : List ℕ) (m : ℕ) → length (flat d) ≤ m → length (flat (n.refusal ∷ n.place ∷ n.kind ∷ n.series ∷ n.intervals ∷ d)) ≤ 11 + m
  five-le d m h =
      let e = front-le _ 3 m d (three-bytes n.intervals i) h in
      let f = front-le _ 3 _ _ (three-bytes n.series s) e in
      let g = front-le _ 1 _ _ (one_byte n.kind k) f in
      let j = front-le _ 3 _ _ (three-bytes n.place p) g in
      let l = front-le _ 1 _ _ (one_byte n.refusal r) j in
      omega arith

  pub fits-reader : n.depth < 128 → (length (note_of Old n) ≤ 11) × (length (note_of New n) ≤ 13)
  fits-reader d =
      let e = five-le (n.depth ∷ []) 1 (front-le _ 1 0 [] (one_byte n.depth d) none-le) in
      let f = front-le new_mark 1 _ _ (one_byte new_mark (omega arith)) e in
      (five-le [] 0 none-le, omega arith)

-- what has room is in the buffer, "and the bytes after it are 0"
pub left-padded : (w : List ℕ) (room : ℕ) → length w ≤ room → left w room ≡ padded room w
unfolding left
left-padded w room h =
    let z : length (zeros room) ≡ room = length-replicate room 0 in
    sets-eq w (zeros room) 0 (omega arith) ∙ ap (λ (k : ℕ). w ++ drop k (zeros room)) (zero-add (length w))
    ∙ ap (λ (l : List ℕ). w ++ l) (drop-zeros (length w) room h)

-- ---- reading
-- five numbers are the list of the five, and seven that of the seven
five-are : (l : List ℕ) → length l ≡ 5 → get_or l 0 0 ∷ get_or l 1 0 ∷ get_or l 2 0 ∷ get_or l 3 0 ∷ get_or l 4 0 ∷ [] ≡ l
five-are [] h = absurd (omega arith)
five-are (a ∷ []) h = absurd (omega arith)
five-are (a ∷ b ∷ []) h = absurd (omega arith)
five-are (a ∷ b ∷ c ∷ []) h = absurd (omega arith)
five-are (a ∷ b ∷ c ∷ d ∷ []) h = absurd (omega arith)
five-are (a ∷ b ∷ c ∷ d ∷ e ∷ []) h = refl
five-are (a ∷ b ∷ c ∷ d ∷ e ∷ f ∷ l) h = absurd (omega arith)

seven-are : (l : List ℕ) → length l ≡ 7
    → get_or l 0 0 ∷ get_or l 1 0 ∷ get_or l 2 0 ∷ get_or l 3 0 ∷ get_or l 4 0 ∷ get_or l 5 0 ∷ get_or l 6 0 ∷ [] ≡ l
seven-are [] h = absurd (omega arith)
seven-are (a ∷ []) h = absurd (omega arith)
seven-are (a ∷ b ∷ l) h =
    let q = five-are l (omega arith) in
    ap (λ (m : List ℕ). a ∷ b ∷ m) q

module _ (ns : List ℕ) (h : AllBelow (2 ^ 21) ns) where
  pub of-five : length ns ≡ 5 → note_in (flat ns) ≡ old_note ns
  unfolding note_in
  of-five e = let q : numbers_in 5 (flat ns) ≡ Some ns = rw e at (numbers-back ns h) in rw q refl

  pub of-seven : length ns ≡ 7 → note_in (flat ns) ≡ new_note ns
  unfolding note_in
  of-seven e =
      let q : numbers_in 7 (flat ns) ≡ Some ns = rw e at (numbers-back ns h) in
      let p : numbers_in 5 (flat ns) ≡ None = numbers-other 5 ns h (λ z. omega (arith, z, e)) in
      rw (p, q) refl

  -- "From now on five numbers beginning with 100 are no note, nor are seven whose second is 100."
  pub hundred-first : length ns ≡ 5 → get_or ns 0 0 ≡ 100 → note_in (flat ns) ≡ None
  hundred-first e z = of-five e ∙ rw (eq-eqb (get_or ns 0 0) 100 z) refl

  pub hundred-twice : length ns ≡ 7 → get_or ns 0 0 ≡ 100 → get_or ns 1 0 ≡ 100 → note_in (flat ns) ≡ None
  hundred-twice e z y = of-seven e ∙ rw (eq-eqb (get_or ns 0 0) 100 z, eq-eqb (get_or ns 1 0) 100 y) refl

  pub other-first : length ns ≡ 7 → (get_or ns 0 0 ≡ 100 → ⊥) → note_in (flat ns) ≡ None
  other-first e f = of-seven e ∙ rw (ne_eqb (get_or ns 0 0) 100 f) refl

  pub other-count : (length ns ≡ 5 → ⊥) → (length ns ≡ 7 → ⊥) → note_in (flat ns) ≡ None
  unfolding note_in
  other-count f g =
      let p : numbers_in 5 (flat ns) ≡ None = numbers-other 5 ns h (λ z. f (sym z)) in
      let q : numbers_in 7 (flat ns) ≡ None = numbers-other 7 ns h (λ z. g (sym z)) in
      rw (p, q) refl

pub round_trip : (shape : Shape) (n : Note) → AllBelow (2 ^ 21) (numbers_for shape n) → (n.refusal ≡ new_mark → ⊥)
    → note_in (note_of shape n) ≡ Some (tells_in shape n)
round_trip Old n h f = of-five (numbers_for Old n) h refl ∙ rw (ne_eqb n.refusal 100 f) refl
round_trip New n h f = of-seven (numbers_for New n) h refl ∙ rw (ne_eqb n.refusal 100 f) refl

pub written_back : (shape : Shape) (n : Note) (room : ℕ) → AllBelow (2 ^ 21) (numbers_for shape n) → (n.refusal ≡ new_mark → ⊥)
    → length (note_of shape n) ≤ room → note_in (take (length (note_of shape n)) (left (note_of shape n) room)) ≡ Some (tells_in shape n)
written_back shape n room h f r = rw (left-padded (note_of shape n) room r, take-padded room (note_of shape n)) (round_trip shape n h f)

not_taken : {n : Note} → None ≡ Some n → ⊥
not_taken e = zero-not-one (cc)

module _ (s : List ℕ) (n : Note) where
  old-is : (l : List ℕ) → length l ≡ 5 → AllBelow (2 ^ 21) l → s ≡ flat l → old_note l ≡ Some n → IsNote s Old n
  old-is l m h b e =
      ⊎_elim
      (λ y. absurd (not_taken (rw y.1 at e)))
      (λ y.
      let z : Some (record { refusal = get_or l 0 0; place = get_or l 1 0; kind = get_or l 2 0; series = get_or l 3 0; intervals = get_or l 4 0; depth = 0 }) ≡ Some n = rw y.1 at e in
      let q : record { refusal = get_or l 0 0; place = get_or l 1 0; kind = get_or l 2 0; series = get_or l 3 0; intervals = get_or l 4 0; depth = 0 } ≡ n = cc in
      let a = five-are l m in
      rw (← q) (record { small = rw a h; other = y.0; tells = refl; bytes = b ∙ ap flat (sym a) }))
      (eqb-cases (get_or l 0 0) 100)

  new_is : (l : List ℕ) → length l ≡ 7 → AllBelow (2 ^ 21) l → s ≡ flat l → new_note l ≡ Some n → IsNote s New n
  new_is l m h b e =
      ⊎_elim
      (λ x.
      ⊎_elim
      (λ y. absurd (not_taken (rw (x.1, y.1) at e)))
      (λ y.
      let z : Some (record { refusal = get_or l 1 0; place = get_or l 2 0; kind = get_or l 3 0; series = get_or l 4 0; intervals = get_or l 5 0; depth = get_or l 6 0 }) ≡ Some n = rw (x.1, y.1) at e in
      let q : record { refusal = get_or l 1 0; place = get_or l 2 0; kind = get_or l 3 0; series = get_or l 4 0; intervals = get_or l 5 0; depth = get_or l 6 0 } ≡ n = cc in
      let a : new_mark ∷ get_or l 1 0 ∷ get_or l 2 0 ∷ get_or l 3 0 ∷ get_or l 4 0 ∷ get_or l 5 0 ∷ get_or l 6 0 ∷ [] ≡ l =
      ap (λ (v : ℕ). v ∷ get_or l 1 0 ∷ get_or l 2 0 ∷ get_or l 3 0 ∷ get_or l 4 0 ∷ get_or l 5 0 ∷ get_or l 6 0 ∷ []) (sym x.0) ∙ seven-are l m in
      rw (← q) (record { small = rw a h; other = y.0; tells = refl; bytes = b ∙ ap flat (sym a) }))
      (eqb-cases (get_or l 1 0) 100))
      (λ x. absurd (not_taken (rw x.1 at e)))
      (eqb-cases (get_or l 0 0) 100)

  accepted : AllBelow 256 s → (o p : Option (List ℕ)) → numbers_in 5 s ≡ o → numbers_in 7 s ≡ p → note_answer o p ≡ Some n → (shape : Shape) × IsNote s shape n
  accepted a (Some l) p eo ep e = let r = numbers-are 5 s l a eo in (Old, old-is l r.many r.small r.bytes e)
  accepted a None (Some l) eo ep e = let r = numbers-are 7 s l a ep in (New, new_is l r.many r.small r.bytes e)
  accepted a None None eo ep e = absurd (not_taken e)

  -- a note of either shape is taken, with what it tells
  pub taken : (shape : Shape) → IsNote s shape n → note_in s ≡ Some n
  taken shape i = ap note_in i.bytes ∙ round_trip shape n i.small i.other ∙ ap Some i.tells

  pub accepts-exactly : AllBelow 256 s → (note_in s ≡ Some n → (shape : Shape) × IsNote s shape n) × ((shape : Shape) → IsNote s shape n → note_in s ≡ Some n)
  unfolding note_in
  accepts-exactly a = (λ e. accepted a (numbers_in 5 s) (numbers_in 7 s) refl refl e, taken)

pub refuses-rest : (s : List ℕ) → AllBelow 256 s → ((shape : Shape) (n : Note) → IsNote s shape n → ⊥)
    → (read_refusal (note_in s) ≡ 11) × (six_of (note_in s) ≡ zeros 6)
refuses-rest s a f = go (note_in s) refl
  where
    go : (r : Option Note) → note_in s ≡ r → (read_refusal r ≡ 11) × (six_of r ≡ zeros 6)
    go (Some n) e = let i = (accepts-exactly s n a).0 e in absurd (f i.0 n i.1)
    go None e = (refl, refl)

-- ---- converting
-- its numbers are small in the other shape too
pub small-in : (s : List ℕ) (shape to : Shape) (n : Note) → IsNote s shape n → AllBelow (2 ^ 21) (numbers_for to n)
unfolding AllBelow
small-in s Old Old n i = i.small
small-in s New New n i = i.small
small-in s Old New n i =
    let h = i.small in
    let d : 0 ≡ n.depth = ap (λ (m : Note). m.depth) i.tells in
    (omega arith, (h.0, (h.1.0, (h.1.1.0, (h.1.1.1.0, (h.1.1.1.1.0, (omega arith, tt)))))))
small-in s New Old n i =
    let h = i.small.1 in
    (h.0, (h.1.0, (h.1.1.0, (h.1.1.1.0, (h.1.1.1.1.0, tt)))))

module _ (s : List ℕ) (shape : Shape) (n : Note) (i : IsNote s shape n) where
  -- the bytes that the converter writes
  pub in-shape : (to : Shape) → in_shape to s ≡ note_of to n
  unfolding in_shape
  in-shape to = rw (taken s n shape i) refl

  pub turned : (to : Shape) (room : ℕ) → 24 ≤ room
      → (converted s to room ≡ Ok (length (note_of to n))) × (converted_out s to room ≡ padded room (note_of to n))
  turned to room h =
      let c = conv-turned s to room n h (taken s n shape i) in
      let f = fits-most to n (small-in s shape to n i) in
      (sym c.0, sym c.1 ∙ left-padded (note_of to n) room (omega arith))

  -- a note that has the shape already is written as it is
  pub own-shape : in_shape shape s ≡ s
  own-shape = in-shape shape ∙ sym i.bytes

  -- the note in the other shape, read
  there : (to : Shape) → note_in (in_shape to s) ≡ Some (tells_in to n)
  there to = ap note_in (in-shape to) ∙ round_trip to n (small-in s shape to n i) i.other

  back : (to : Shape) → in_shape shape (in_shape to s) ≡ note_of shape (tells_in to n)
  unfolding in_shape
  back to = rw (there to) refl

-- "Old to new to old gives the same bytes"
pub old-new-old : (s : List ℕ) (n : Note) → IsNote s Old n → in_shape Old (in_shape New s) ≡ s
old-new-old s n i = back s Old n i New ∙ sym i.bytes

module _ (s : List ℕ) (n : Note) (i : IsNote s New n) where
  gone : in_shape New (in_shape Old s) ≡ note_of New (tells_in Old n)
  gone = back s New n i Old

  no-depth : AllBelow (2 ^ 21) (numbers_for New (tells_in Old n))
  unfolding AllBelow
  no-depth = let h = i.small in (h.0, (h.1.0, (h.1.1.0, (h.1.1.1.0, (h.1.1.1.1.0, (h.1.1.1.1.1.0, (omega arith, tt)))))))

  only_none : in_shape New (in_shape Old s) ≡ s → n.depth ≡ 0
  only_none e =
      let z : Some (tells_in Old n) ≡ Some n = sym (round_trip New (tells_in Old n) no-depth i.other) ∙ ap note_in (sym gone ∙ e) ∙ taken s n New i in
      let q : tells_in Old n ≡ n = cc in
      sym (ap (λ (m : Note). m.depth) q)

  none-enough : n.depth ≡ 0 → in_shape New (in_shape Old s) ≡ s
  none-enough e = gone ∙ ap (λ (d : ℕ). flat (new_mark ∷ n.refusal ∷ n.place ∷ n.kind ∷ n.series ∷ n.intervals ∷ d ∷ [])) (sym e) ∙ sym i.bytes

  -- "new to old to new does exactly when the depth is 0"
  pub new-old-new : (in_shape New (in_shape Old s) ≡ s → n.depth ≡ 0) × (n.depth ≡ 0 → in_shape New (in_shape Old s) ≡ s)
  new-old-new = (only_none, none-enough)

-- P4, in either shape
abbrev fourth : ℕ → Note
fourth d = record { refusal = 3; place = 45; kind = 2; series = 0; intervals = 0; depth = d }

pub a-note : IsNote (0x03 ∷ 0x2D ∷ 0x02 ∷ 0x00 ∷ 0x00 ∷ []) Old (fourth 0) × IsNote (0x64 ∷ 0x03 ∷ 0x2D ∷ 0x02 ∷ 0x00 ∷ 0x00 ∷ 0x01 ∷ []) New (fourth 1)
unfolding AllBelow flat groups_in
a-note = (
  record { small = (omega arith, (omega arith, (omega arith, (omega arith, (omega arith, tt))))); other = λ e. absurd (omega arith); tells = refl; bytes = refl },
  record {
    small = (omega arith, (omega arith, (omega arith, (omega arith, (omega arith, (omega arith, (omega arith, tt)))))));
    other = λ e. absurd (omega arith);
    tells = refl;
    bytes = refl;
  },
)
