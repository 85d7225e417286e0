-- The numbers with which a tag is refused: of those up to 9, and never 1, which is given to a document that is too long. Assumes nothing.
use Prim.Native.Nat.{ℕ, ◌≤◌, ◌-◌}
use mathlib.Core.Path.{◌≡◌, refl}
use mathlib.Core.List.{List}
use mathlib.Core.Bool.{Bool, true, false, cond}
use mathlib.Core.Logic.{⊎_elim}
use lib.Dec.{leb, eqb}
use lib.ListN.{get_or}
use Rattle.lists.proofs.Cases.{by_cond, leb-cases, zero-not-one}
use Rattle.characters.specs.Says.{says}
use Rattle.slices.specs.Part.{part_of}
use Rattle.trims.specs.Trim.{dropped}
use Rattle.codes.specs.Lists.{listed, codes_of}
use Rattle.forms.specs.Forms.{quarter_hour}
use Rattle.times.specs.Times.{interval}
use Rattle.std.specs.Prelude.{Option, Some, None}
use Rattle.numbers.specs.Number.{number_of}
use Rattle.columns.specs.Columns.{form_of, scheme_of, role_of}
use Rattle.guideline.specs.Kinds.{kind_at, has_enough}
use Rattle.rules.specs.Rules.{unless, form_refusal, period_fits, judge_period_by, judge_period, judge_interval_by, judge_interval, position_fits, judge_position_by, judge_position, judge}
use Rattle.rules.specs.declared.Held.{Held}
use Rattle.rules.specs.Judged.{Judged}
use Rattle.items.specs.Item.{item_refusal}
use Rattle.items.specs.declared.Item.{Item}
use Rattle.items.specs.declared.Item.TheVariants.{Start, Empty, End, Text, Comment, Unreadable}
use Rattle.items.specs.declared.Tag.{Tag}
use Rattle.slices.specs.declared.Span.{Span}
use Rattle.states.specs.Attributes.{attributes_fit, said_in, scheme_refusal, least, also_scheme, dtd_fixed, judge_tag}
use Rattle.states.specs.Moves.{held_of, cut_short, too_many, no_room, half_originals, against_others, beside_others, values_judged, judged_at, start_judged, count_refusal, lack_refusal, end_refusal, moved, step}
use Rattle.states.specs.Constraints.{lacking}
use Rattle.states.specs.declared.State.{State}
use Rattle.states.specs.declared.Room.{Room}
use Rattle.states.specs.Step.{Refused}

-- 0, which is none, or 2 to 9
abbrev pub given : ℕ → Bool
given n = cond (leb n 9) (cond (eqb n 1) false true) false

abbrev pub Given : ℕ → Type 0
Given n = given n ≡ true

pub given-small : (n : ℕ) → Given n → n ≤ 9
given-small n g =
    ⊎_elim (λ y. y.0) (λ y. let z : false ≡ true = rw y.1 at g in absurd (zero-not-one (cc))) (leb-cases n 9)

pub given-not-one : (n : ℕ) → Given n → n ≡ 1 → ⊥
given-not-one n g e = let z : false ≡ true = rw e at g in zero-not-one (cc)

abbrev GivenBy : Judged → Type 0
GivenBy j = Given j.number

unless-given : (n : ℕ) (t : Bool) → Given n → Given (unless n t)
unfolding unless
unless-given n t h = by_cond Given t refl h

form-given : (form : ℕ) (cs : List ℕ) → Given (form_refusal form cs)
unfolding form_refusal
form-given form cs =
    by_cond Given (eqb form 1) (unless-given 6 _ refl)
    (by_cond Given (eqb form 2) (unless-given 6 _ refl)
    (by_cond Given (eqb form 3) (unless-given 6 _ refl)
    (by_cond Given (eqb form 4) (unless-given 6 _ refl)
    (by_cond Given (eqb form 5) (unless-given 6 _ refl)
    (by_cond Given (eqb form 10) (unless-given 6 _ refl)
    (by_cond Given (eqb form 11) (unless-given 6 _ refl)
    (by_cond Given (eqb form 12) (unless-given 6 _ refl)
    (by_cond Given (eqb form 13) (unless-given 6 _ refl)
    (by_cond Given (leb 32 form) (unless-given 7 _ refl) refl)))))))))

period-given : (kind : ℕ) (i : Option (ℕ × ℕ)) → GivenBy (judge_period_by kind i)
unfolding judge_period_by
period-given kind (Some (from, to)) = by_cond GivenBy (period_fits kind from to) refl refl
period-given kind None = refl

interval-given : (from to : ℕ) (i : Option (ℕ × ℕ)) → GivenBy (judge_interval_by from to i)
unfolding judge_interval_by
interval-given from to (Some (a, b)) = by_cond GivenBy (eqb a from) (by_cond GivenBy (eqb b to) refl refl) refl
interval-given from to None = refl

position-given : (kind quarters last : ℕ) (n : Option ℕ) → GivenBy (judge_position_by kind quarters last n)
unfolding judge_position_by
position-given kind quarters last (Some p) = by_cond GivenBy (position_fits kind quarters last p) refl refl
position-given kind quarters last None = refl

judge-given : (form : ℕ) (h : Held) (cs : List ℕ) → GivenBy (judge form h cs)
unfolding judge judge_period judge_interval judge_position
judge-given form h cs =
    by_cond GivenBy (eqb form 6) (period-given h.kind (interval cs))
    (by_cond GivenBy (eqb form 7) (interval-given h.from h.to (interval cs))
    (by_cond GivenBy (eqb form 8) (unless-given 8 (quarter_hour cs) refl)
    (by_cond GivenBy (eqb form 9) (position-given h.kind h.quarters h.last (number_of cs 5))
    (form-given form cs))))

scheme-given : (w : ℕ) (x : Span) (s : List ℕ) → Given (scheme_refusal w x s)
unfolding scheme_refusal
scheme-given w x s =
    by_cond Given (eqb (scheme_of w) 0) refl
    (by_cond Given (listed (codes_of (scheme_of w - 1)) (dropped (says (part_of s x.start x.len)))) refl refl)

least-given : (a b : ℕ) → Given a → Given b → Given (least a b)
unfolding least
least-given a b g h = by_cond Given (eqb a 0) h (by_cond Given (eqb b 0) g (by_cond Given (leb a b) g h))

tag-given : (w : ℕ) (t : Tag) (h : Held) (s : List ℕ) → GivenBy (judge_tag w t h s)
unfolding judge_tag also_scheme
tag-given w t h s =
    by_cond GivenBy (eqb (role_of w) 1)
    (by_cond GivenBy (dtd_fixed h.kind t.dtd s) refl refl)
    (by_cond GivenBy (eqb (form_of w) 0) refl
    (least-given (judge (form_of w) h (said_in w t.v s)).number (scheme_refusal w t.coding s)
    (judge-given (form_of w) h (said_in w t.v s)) (scheme-given w t.coding s)))

beside-given : (x : State) (kind role : ℕ) (j : Judged) → GivenBy j → GivenBy (beside_others x kind role j)
unfolding beside_others
beside-given x kind role j g = by_cond GivenBy (eqb j.number 0) (by_cond GivenBy (against_others x kind role j.first) refl g) g

module _ (x : State) (kind : ℕ) (rows : List ℕ) (r : ℕ) (t : Tag) (s : List ℕ) (empty : Bool) (room : Room) where
  pub start-given : Given (start_judged x kind rows r t s empty room).number
  unfolding start_judged judged_at values_judged
  start-given =
      let w = get_or rows r 0 in
      by_cond GivenBy (cut_short empty rows r) refl
      (by_cond GivenBy (too_many x (role_of w) kind) refl
      (by_cond GivenBy (no_room x (role_of w) room) refl
      (by_cond GivenBy (attributes_fit kind w t) (by_cond GivenBy (half_originals x (role_of w)) refl (beside-given x kind (role_of w) _ (tag-given w t (held_of x kind) s))) refl)))

pub end-given : (x : State) (rows : List ℕ) (r : ℕ) → Given (end_refusal x rows r)
unfolding end_refusal count_refusal lack_refusal
end-given x rows r =
    let n = x.intervals - x.first in
    by_cond Given (eqb (role_of (get_or rows r 0)) 3)
    (by_cond Given (has_enough x.kind n) (by_cond Given (kind_at x.kind).full (by_cond Given (eqb n x.quarters) refl refl) refl) refl)
    (by_cond Given (eqb (role_of (get_or rows r 0)) 1)
    (by_cond Given (kind_at x.kind).constrained (by_cond Given (lacking x.seen x.series) refl refl) refl) refl)

-- ---- an item that is refused by itself: other text, and what is unreadable

pub refused-anywhere : (x : State) (i : Item) (s : List ℕ) (room : Room) → (item_refusal i ≡ 0 → ⊥) → step x i s room ≡ Refused (item_refusal i)
unfolding step moved
refused-anywhere x (Start t) s room h = absurd (h refl)
refused-anywhere x (Empty t) s room h = absurd (h refl)
refused-anywhere x (End n e) s room h = absurd (h refl)
refused-anywhere x (Text true e) s room h = absurd (h refl)
refused-anywhere x (Text false e) s room h = refl
refused-anywhere x (Comment e) s room h = absurd (h refl)
refused-anywhere x (Unreadable p) s room h = refl
