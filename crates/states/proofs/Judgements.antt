-- What a start tag that is not refused has passed. Assumes nothing.
use Prim.Native.Nat.{ℕ, ◌+◌, ◌<◌}
use mathlib.Core.Path.{◌≡◌, refl, sym, ap}
use mathlib.Core.List.{List}
use mathlib.Core.Bool.{Bool, true, false, cond}
use native.Mathlib.Omega.{arith}
use mathlib.Core.Logic.{⊎_elim}
use lib.Dec.{eqb}
use lib.ListN.{get_or}
use borrow.Author.Tests.{leb-false, lt-ltb}
use Rattle.lists.proofs.Cases.{by_cond, eqb-cases}
use Rattle.items.specs.declared.Tag.{Tag}
use Rattle.columns.specs.Columns.{role_of}
use Rattle.refusals.specs.Refusals.{number}
use Rattle.refusals.specs.declared.Refusal.{Refusal}
use Rattle.refusals.proofs.Numbers.{refuses}
use Rattle.rules.specs.Rules.{refused}
use Rattle.rules.specs.Judged.{Judged}
use Rattle.states.specs.Attributes.{attributes_fit, least, also_scheme, judge_tag}
use Rattle.states.specs.Moves.{one_more, cut_short, too_many, no_room, half_originals, against_others, beside_others, held_of, values_judged, judged_at, start_judged}
use Rattle.states.specs.declared.State.{State}
use Rattle.states.specs.declared.Room.{Room}

untold : (t : Bool) (n : ℕ) (b : Judged) → (n ≡ 0 → ⊥) → (cond t (refused n) b).number ≡ 0 → (t ≡ false) × (b.number ≡ 0)
untold true n b h e = absurd (h e)
untold false n b h e = (refl, e)

-- every test that comes before the values
pub record Passed (x : State) (kind : ℕ) (rows : List ℕ) (q : ℕ) (t : Tag) (empty : Bool) (room : Room) : Type 0 where
  pub whole : cut_short empty rows q ≡ false
  pub few : too_many x (role_of (get_or rows q 0)) kind ≡ false
  pub free : no_room x (role_of (get_or rows q 0)) room ≡ false
  pub attributes : attributes_fit kind (get_or rows q 0) t ≡ true
  pub originals : half_originals x (role_of (get_or rows q 0)) ≡ false

module _ (x : State) (kind : ℕ) (rows : List ℕ) (q : ℕ) (t : Tag) (s : List ℕ) (empty : Bool) (room : Room) where
  pub passed-judged : Passed x kind rows q t empty room
      → start_judged x kind rows q t s empty room ≡ beside_others x kind (role_of (get_or rows q 0)) (judge_tag (get_or rows q 0) t (held_of x kind) s)
  unfolding start_judged judged_at values_judged
  passed-judged c = rw (c.whole, c.few, c.free, c.attributes, c.originals)

  pub judged-passed : (start_judged x kind rows q t s empty room).number ≡ 0 → Passed x kind rows q t empty room
  unfolding start_judged judged_at values_judged
  judged-passed h =
      let w = get_or rows q 0 in
      let values = values_judged x kind w t s in
      let last = cond (attributes_fit kind w t) values (refused 5) in
      let roomy = cond (no_room x (role_of w) room) (refused 4) last in
      let a = untold (cut_short empty rows q) 3 (cond (too_many x (role_of w) kind) (refused 3) roomy) (λ z. omega (arith, z)) h in
      let b = untold (too_many x (role_of w) kind) 3 roomy (λ z. omega (arith, z)) a.1 in
      let c = untold (no_room x (role_of w) room) 4 last (λ z. omega (arith, z)) b.1 in
      let d : (attributes_fit kind w t ≡ true) × (values.number ≡ 0) = fitting (attributes_fit kind w t) values c.1 in
      let e = untold (half_originals x (role_of w)) 8 (beside_others x kind (role_of w) (judge_tag w t (held_of x kind) s)) (λ z. omega (arith, z)) d.1 in
      record { whole = a.0; few = b.0; free = c.0; attributes = d.0; originals = e.0 }
    where
      fitting : (f : Bool) (j : Judged) → (cond f j (refused 5)).number ≡ 0 → (f ≡ true) × (j.number ≡ 0)
      fitting true j e = (refl, e)
      fitting false j e = absurd (omega (arith, e))

-- no refusal of the codingScheme leaves what is said
least-none : (a : ℕ) → least a 0 ≡ a
unfolding least
least-none a = ⊎_elim (λ (y : (a ≡ 0) × (eqb a 0 ≡ true)). rw y.1 (sym y.0)) (λ (y : (a ≡ 0 → ⊥) × (eqb a 0 ≡ false)). rw y.1) (eqb-cases a 0)

pub also-none : (j : Judged) → also_scheme 0 j ≡ j
unfolding also_scheme
also-none j = ap (λ (n : ℕ). record { number = n; first = j.first; second = j.second }) (least-none j.number)

-- a value that is taken is not against the series before it
module _ (x : State) (kind role : ℕ) (j : Judged) where
  pub beside_same : against_others x kind role j.first ≡ false → beside_others x kind role j ≡ j
  unfolding beside_others
  beside_same f = rw f (by_cond (λ (k : Judged). k ≡ j) (eqb j.number 0) refl refl)

  pub beside-taken : (beside_others x kind role j).number ≡ 0 → (j.number ≡ 0) × (against_others x kind role j.first ≡ false)
  unfolding beside_others
  beside-taken h =
      ⊎_elim
      (λ (y : (j.number ≡ 0) × (eqb j.number 0 ≡ true)).
      let u : (cond (against_others x kind role j.first) (refused 8) j).number ≡ 0 = rw y.1 at h in
      (y.0, (untold (against_others x kind role j.first) 8 j (λ z. omega (arith, z)) u).0))
      (λ (y : (j.number ≡ 0 → ⊥) × (eqb j.number 0 ≡ false)). let u : j.number ≡ 0 = rw y.1 at h in absurd (y.0 u))
      (eqb-cases j.number 0)

-- nor is one that is refused: the refusal stays
pub beside-refused : (x : State) (kind role : ℕ) (j : Judged) (r : Refusal) → j.number ≡ number r → (beside_others x kind role j).number ≡ number r
unfolding beside_others
beside-refused x kind role j r e = rw (e, refuses r)

module _ (x : State) (role : ℕ) (room : Room) (h : no_room x role room ≡ false) where
  pub series-room : role ≡ 2 → x.series < room.series
  unfolding no_room
  series-room e = leb-false room.series x.series (rw e at h)

  pub interval-room : role ≡ 4 → x.intervals < room.intervals
  unfolding no_room
  interval-room e = leb-false room.intervals x.intervals (rw e at h)

-- a count that has not come to its end
pub one-more : (n : ℕ) → n < 4294967295 → one_more n ≡ n + 1
unfolding one_more
one-more n h = rw (lt-ltb n 4294967295 h)
