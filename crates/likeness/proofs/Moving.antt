-- Two tags that say the same move a state alike. Assumes nothing.
use Prim.Native.Nat.{ℕ}
use mathlib.Core.Path.{◌≡◌, refl, sym, ap, ◌∙◌}
use mathlib.Core.List.{List, []}
use mathlib.Core.Bool.{Bool, true, false}
use mathlib.Core.Logic.{⊎_elim}
use native.Mathlib.Omega.{arith}
use lib.Dec.{eqb}
use lib.ListN.{get_or}
use Rattle.std.specs.Prelude.{Option, Some, None}
use Rattle.lists.proofs.Cases.{bool_cases, eqb-cases, never, zero-not-one}
use Rattle.slices.specs.Part.{part_of}
use Rattle.slices.specs.declared.Span.{Span}
use Rattle.elements.specs.Names.{element_no}
use Rattle.structure.specs.Rows.{start_of}
use Rattle.guideline.specs.Rows.{rows_of}
use Rattle.items.specs.declared.Tag.{Tag}
use Rattle.items.specs.declared.Item.TheVariants.{Start, Empty}
use Rattle.digits.specs.Items.{Stands, TagLaid}
use Rattle.rules.specs.declared.Held.{Held}
use Rattle.states.specs.Attributes.{there, dtd_fits, attributes_fit, said_in, scheme_refusal, value_fixed, dtd_fixed, judge_tag}
use Rattle.states.specs.Moves.{held_of, values_judged, judged_at, start_judged, started_at, started, moved, root_kind, kind_told, step}
use Rattle.states.specs.declared.State.{State}
use Rattle.states.specs.declared.Room.{Room}
use Rattle.contents.specs.Said.{Absent, Given, TagSaid}
use Rattle.contents.specs.Spelled.{value_given, dtd_of_tag, said_of_tag}

-- an attribute of two tags
pub record SameValue (a : Span) (s : List ℕ) (b : Span) (u : List ℕ) : Type 0 where
  pub is-there : there a ≡ there b
  pub bytes : part_of s a.start a.len ≡ part_of u b.start b.len

-- one that is not there has no bytes
absent-part : (n e : ℕ) (a : Span) (s : List ℕ) → Stands n e a → there a ≡ false → part_of s a.start a.len ≡ []
unfolding there part_of
absent-part n e a s h t =
    ⊎_elim
    (λ z. rw (z.0, z.1))
    (λ z. ⊎_elim (λ (q : (a.start ≡ 0) × (eqb a.start 0 ≡ true)). absurd (omega (arith, z.0, q.0))) (λ (q : (a.start ≡ 0 → ⊥) × (eqb a.start 0 ≡ false)). never (sym (rw q.1 at t))) (eqb-cases a.start 0))
    h

same-value : (n e : ℕ) (a : Span) (s : List ℕ) (m f : ℕ) (b : Span) (u : List ℕ) → Stands n e a → Stands m f b → value_given a s ≡ value_given b u → SameValue a s b u
unfolding value_given
same-value n e a s m f b u h k q =
    ⊎_elim
    (λ (t : there a ≡ true).
    ⊎_elim
    (λ (v : there b ≡ true). let z : Given (part_of s a.start a.len) ≡ Given (part_of u b.start b.len) = rw (t, v) at q in record { is-there = t ∙ sym v; bytes = (cc) })
    (λ (v : there b ≡ false). let z : Given (part_of s a.start a.len) ≡ Absent = rw (t, v) at q in absurd (zero-not-one (cc)))
    (bool_cases (there b)))
    (λ (t : there a ≡ false).
    ⊎_elim
    (λ (v : there b ≡ true). let z : Absent ≡ Given (part_of u b.start b.len) = rw (t, v) at q in absurd (zero-not-one (cc)))
    (λ (v : there b ≡ false). record { is-there = t ∙ sym v; bytes = absent-part n e a s h t ∙ sym (absent-part m f b u k v) })
    (bool_cases (there b)))
    (bool_cases (there a))

module _ (t : Tag) (s : List ℕ) (t' : Tag) (s' : List ℕ) (laid : TagLaid t) (laid' : TagLaid t') (said : said_of_tag t s ≡ said_of_tag t' s')
    (name : part_of s 1 t.name ≡ part_of s' 1 t'.name) where
  one : (a b : Span) → Stands t.name t.len a → Stands t'.name t'.len b → value_given a s ≡ value_given b s' → SameValue a s b s'
  one a b h k q = same-value t.name t.len a s t'.name t'.len b s' h k q

  pub v-same : SameValue t.v s t'.v s'
  unfolding said_of_tag
  v-same = one t.v t'.v laid.values.v laid'.values.v (ap (λ (z : TagSaid). z.v) said)

  coding : SameValue t.coding s t'.coding s'
  unfolding said_of_tag
  coding = one t.coding t'.coding laid.values.coding.stands laid'.values.coding.stands (ap (λ (z : TagSaid). z.scheme) said)

  version : SameValue t.dtd.version s t'.dtd.version s'
  unfolding said_of_tag dtd_of_tag
  version = one t.dtd.version t'.dtd.version laid.values.version.stands laid'.values.version.stands (ap (λ (z : TagSaid). z.dtd.version) said)

  release : SameValue t.dtd.release s t'.dtd.release s'
  unfolding said_of_tag dtd_of_tag
  release = one t.dtd.release t'.dtd.release laid.values.release.stands laid'.values.release.stands (ap (λ (z : TagSaid). z.dtd.release) said)

  message : SameValue t.dtd.message s t'.dtd.message s'
  unfolding said_of_tag dtd_of_tag
  message = one t.dtd.message t'.dtd.message laid.values.message.stands laid'.values.message.stands (ap (λ (z : TagSaid). z.dtd.message) said)

  other-ones : (t.others ≡ t'.others) × (t.passable ≡ t'.passable)
  unfolding said_of_tag
  other-ones = (ap (λ (z : TagSaid). z.others) said, ap (λ (z : TagSaid). z.passable) said)

  fit_same : (kind w : ℕ) → attributes_fit kind w t ≡ attributes_fit kind w t'
  unfolding attributes_fit dtd_fits
  fit_same kind w = rw (v-same.is-there, coding.is-there, version.is-there, release.is-there, message.is-there, other-ones.0, other-ones.1)

  judge-same : (w : ℕ) (h : Held) → judge_tag w t h s ≡ judge_tag w t' h s'
  unfolding judge_tag dtd_fixed value_fixed scheme_refusal said_in
  judge-same w h =
      rw (version.is-there, version.bytes, release.is-there, release.bytes, message.is-there, message.bytes, coding.bytes, v-same.bytes)

  start-same : (x : State) (kind : ℕ) (rows : List ℕ) (empty : Bool) (room : Room)
      → started x kind rows (element_no (part_of s 1 t.name)) t s empty room ≡ started x kind rows (element_no (part_of s' 1 t'.name)) t' s' empty room
  unfolding started started_at start_judged judged_at values_judged
  start-same x kind rows empty room =
      by (start_of rows x.row x.inside (element_no (part_of s 1 t.name))) ∙ ap (λ (n : List ℕ). started x kind rows (element_no n) t' s' empty room) name
    where
      by : (d : Option ℕ) → started_at x kind rows t s empty room d ≡ started_at x kind rows t' s' empty room d
      by (Some r) = rw (fit_same kind (get_or rows r 0), judge-same (get_or rows r 0) (held_of x kind))
      by None = refl

  pub start-moves : (x : State) (room : Room) → step x (Start t) s room ≡ step x (Start t') s' room
  unfolding step kind_told root_kind moved
  start-moves x room = start-same x (kind_told x (Start t) s) (rows_of (kind_told x (Start t) s)) false room ∙ rw name

  pub empty-moves : (x : State) (room : Room) → step x (Empty t) s room ≡ step x (Empty t') s' room
  unfolding step kind_told root_kind moved
  empty-moves x room = start-same x (kind_told x (Empty t) s) (rows_of (kind_told x (Empty t) s)) true room ∙ rw name
