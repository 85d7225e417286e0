-- What the parts of the document that two cells tell are: the value between the quotes, with or without the spaces at its ends.
-- Assumes nothing.
use Prim.Native.Nat.{ℕ, zero, suc, ◌+◌, ◌≤◌, ◌<◌}
use mathlib.Core.Path.{◌≡◌, refl, sym, ap, ◌∙◌}
use mathlib.Core.List.{List, [], ◌∷◌}
use mathlib.Core.Bool.{Bool, true, false, cond}
use native.Mathlib.Omega.{arith}
use lib.ListN.{length, take, drop}
use lib.Seq.{take-take, drop-drop}
use Rattle.items.specs.Parts.{span_of}
use Rattle.slices.specs.Part.{part_of}
use Rattle.trims.specs.Trim.{lead_of, trimmed_of}
use Rattle.trims.proofs.Trimming.{trimmed-length, part-place}
use Rattle.slices.specs.declared.Span.{Span}
use Rattle.states.specs.Attributes.{there}
use Rattle.reader.specs.Items.{Placed}
use Rattle.series.specs.Row.{cell_at, with_view, view}
use Rattle.series.specs.declared.Field.{Field}
use Rattle.series.proofs.Rows.{view-shown}
use Rattle.reader.specs.Rows.{quoted}
use Rattle.reader.proofs.Spans.{quoted-le}
use Rattle.contents.specs.Said.{bytes}
use Rattle.contents.proofs.Fill.{said_of}
use Rattle.contents.proofs.Values.{as-quoted, said-bytes}

-- ---- parts

pub part_in : (doc rest : List ℕ) (at a n : ℕ) → rest ≡ drop at doc → part_of doc (at + a) n ≡ part_of rest a n
unfolding part_of
part_in doc rest at a n e = rw e (ap (take n) (sym (drop-drop a at doc)))

front-part : (n r len : ℕ) (l : List ℕ) → r + n ≤ len → take n (drop r (take len l)) ≡ take n (drop r l)
front-part n zero len l h = take-take n len l (omega (arith, h))
front-part n (suc r) zero l h = absurd (omega (arith, h))
front-part n (suc r) (suc len) [] h = refl
front-part n (suc r) (suc len) (b ∷ l) h = front-part n r len l (omega (arith, h))

-- the value without the spaces, where it stands in the item
pub trimmed-part : (v : Span) (s : List ℕ) → part_of s (v.start + lead_of (quoted v s)) (length (trimmed_of (quoted v s))) ≡ trimmed_of (quoted v s)
unfolding part_of quoted
trimmed-part v s =
    let q = quoted v s in
    let h : lead_of q + length (trimmed_of q) ≤ v.len = omega (arith, trimmed-length q, quoted-le v s) in
    ap (take (length (trimmed_of q))) (sym (drop-drop (lead_of q) v.start s))
    ∙ sym (front-part (length (trimmed_of q)) (lead_of q) v.len (drop v.start s) h)
    ∙ part-place q

-- ---- what two cells tell

module _ (doc : List ℕ) where
  module _ (x : Placed) (stands : x.rest ≡ drop x.at doc) (given : there (span_of x.item) ≡ true) (t : List ℕ) (i : ℕ) (f : Field) (h : cell_at i f + 1 < length t) where
    pub whole-view : view doc (with_view t i f (x.at + (span_of x.item).start) (span_of x.item).len) i f ≡ bytes (said_of x).v
    whole-view =
        let v = span_of x.item in
        view-shown doc t i f (x.at + v.start) v.len h ∙ part_in doc x.rest x.at v.start v.len stands ∙ as-quoted v x.rest ∙ sym (said-bytes x given)

    pub trimmed-view : view doc
        (with_view t i f (x.at + (span_of x.item).start + lead_of (quoted (span_of x.item) x.rest)) (length (trimmed_of (quoted (span_of x.item) x.rest)))) i f
        ≡ trimmed_of (bytes (said_of x).v)
    trimmed-view =
        let v = span_of x.item in
        let q = quoted v x.rest in
        let e : x.at + v.start + lead_of q ≡ x.at + (v.start + lead_of q) = omega arith in
        view-shown doc t i f (x.at + v.start + lead_of q) (length (trimmed_of q)) h
        ∙ ap (λ (n : ℕ). part_of doc n (length (trimmed_of q))) e
        ∙ part_in doc x.rest x.at (v.start + lead_of q) (length (trimmed_of q)) stands
        ∙ trimmed-part v x.rest
        ∙ ap trimmed_of (sym (said-bytes x given))
