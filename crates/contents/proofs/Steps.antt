-- One tag: the reading state that goes with a tally takes a start tag where the walk takes it and an end tag where the walk ends it, and goes on to the state
-- of the tally after it.
-- Assumes nothing.
use Prim.Native.Nat.{ℕ, ◌+◌, ◌-◌, ◌≤◌, ◌<◌}
use mathlib.Core.Path.{◌≡◌, refl, sym, ap, ◌∙◌}
use mathlib.Core.List.{List}
use mathlib.Core.Logic.{◌⊎◌, inl, inr, ⊎_elim}
use mathlib.Core.Bool.{Bool, true, false, cond, ◌&&◌}
use native.Mathlib.Omega.{arith}
use lib.ListN.{length, get_or}
use lib.Dec.{leb, ltb, eqb}
use borrow.Author.Tests.{eq-eqb, ne_eqb, le-ltb, lt-leb, eqb-true}
use Rattle.lists.proofs.Cases.{bool_cases, by_cond, eqb-cases, never, zero-not-one, both_true}
use Rattle.characters.specs.Says.{says}
use Rattle.trims.specs.Trim.{dropped}
use Rattle.numbers.specs.Number.{number_of}
use Rattle.std.specs.Prelude.{Option, Some, None}
use Rattle.times.specs.Times.{interval}
use Rattle.slices.specs.Part.{part_of}
use Rattle.slices.specs.Same.{same}
use Rattle.slices.specs.declared.Span.{Span}
use Rattle.tags.specs.declared.Dtd.{Dtd}
use Rattle.items.specs.declared.Tag.{Tag}
use Rattle.columns.specs.Columns.{form_of, collapsed, scheme_of, role_of}
use Rattle.guideline.specs.Kinds.{dtd_version, dtd_release, dtd_message, kind_at, fixed_for, takes_another}
use Rattle.guideline.specs.declared.Demands.{Demands}
use Rattle.rules.specs.Rules.{refused, code_no, period_fits, judge_period_by, judge_period, position_fits, judge_position_by, judge_position, judge}
use Rattle.rules.specs.declared.Held.{Held}
use Rattle.rules.specs.Judged.{Judged}
use Rattle.states.specs.Attributes.{attributes_fit, there, agree, asks_v, asks_scheme, demands_at, meets, dtd_fits, no_others, said_in, scheme_refusal, least, also_scheme, value_fixed, dtd_fixed, judge_tag}
use Rattle.states.specs.Moves.{held_of, cut_short, too_many, no_room, half_originals, against_others, beside_others, start_judged, at_row, one_series, one_interval, one_original, last_pos, covering, kept, entered, entry_of, closed_at, lack_refusal, end_refusal}
use Rattle.states.specs.Constraints.{noticed, against, lacking}
use Rattle.states.specs.declared.State.{State}
use Rattle.states.specs.declared.Seen.{Seen}
use Rattle.states.specs.declared.Room.{Room}
use Rattle.states.proofs.Judgements.{Passed, passed-judged, judged-passed, beside_same, beside-taken, series-room, interval-room}
use Rattle.states.proofs.Judgements.{one-more}
use Rattle.trees.proofs.Made.{both}
use Rattle.contents.specs.Said.{Absent, Given, TagSaid, bytes}
use Rattle.contents.specs.Spelled.{value_given, dtd_of_tag, said_of_tag}
use Rattle.contents.specs.Legal.{period_by, quarters_of, position_by, position_of, sayings, dtd_agrees, attributes_agree, fixed_fits, root_fits, scheme_fits, value_fits, element_fits}
use Rattle.contents.proofs.Laid.{Layout, coded_role}
use Rattle.contents.proofs.Walk.{Tally, quarters_in, opened, Taken, Allowed, Takes, Shuts}
use Rattle.contents.proofs.Fill.{state_of}
use Rattle.contents.proofs.Values.{asked-there, given-there, there-bytes}

-- ---- tests

chained : (a b c d : Bool) → cond a (cond b (cond c d false) false) false ≡ (a && b && c && d)
chained true true true d = refl
chained true true false d = refl
chained true false c d = refl
chained false b c d = refl

chained-three : (a b c : Bool) → cond a (cond b c false) false ≡ (a && b && c)
chained-three true true c = refl
chained-three true false c = refl
chained-three false b c = refl

opposite : (t : Bool) → cond t false true ≡ false → t ≡ true
opposite true e = refl
opposite false e = absurd (zero-not-one (cc))

-- ---- the attributes of a tag, by where they stand and by what they are

dtd-same : (demands : Demands) (d : Dtd) (s : List ℕ) → dtd_fits demands d ≡ dtd_agrees demands (dtd_of_tag d s)
unfolding dtd_fits dtd_agrees dtd_of_tag
dtd-same demands d s =
    rw (given-there d.version s, given-there d.release s, given-there d.message s)
    (chained-three (meets demands.version (there d.version)) (meets demands.release (there d.release)) (meets demands.message (there d.message)))

attributes-same : (kind w : ℕ) (t : Tag) (s : List ℕ) → attributes_fit kind w t ≡ attributes_agree kind w (said_of_tag t s)
unfolding attributes_fit attributes_agree said_of_tag
attributes-same kind w t s =
    rw (given-there t.v s, given-there t.coding s, ← dtd-same (demands_at kind w) t.dtd s)
    (chained (agree (asks_v w) (there t.v)) (agree (asks_scheme w) (there t.coding)) (dtd_fits (demands_at kind w) t.dtd)
    (no_others w t.others t.passable))

-- ---- what the reader judges of a tag's values, by what the tag says

unfoldable judged_said : ℕ → Held → TagSaid → Judged
judged_said w h u =
    cond (eqb (role_of w) 1) (cond (root_fits h.kind u.dtd) (refused 0) (refused 6))
    (cond (eqb (form_of w) 0) (refused 0)
    (also_scheme (cond (scheme_fits w u) 0 7) (judge (form_of w) h (sayings w u))))

scheme-same : (w : ℕ) (t : Tag) (s : List ℕ) → agree (asks_scheme w) (there t.coding) ≡ true
    → scheme_refusal w t.coding s ≡ cond (scheme_fits w (said_of_tag t s)) 0 7
unfolding scheme_refusal scheme_fits said_of_tag asks_scheme
scheme-same w t s h =
    ⊎_elim
    (λ y. rw y.1)
    (λ y. rw (y.1, there-bytes t.coding s (asked-there (asks_scheme w) (there t.coding) h (rw y.1))))
    (eqb-cases (scheme_of w) 0)

value_same : (w : ℕ) (t : Tag) (s : List ℕ) → agree (asks_v w) (there t.v) ≡ true → eqb (form_of w) 0 ≡ false
    → said_in w t.v s ≡ sayings w (said_of_tag t s)
unfolding said_in sayings said_of_tag asks_v
value_same w t s h e = rw (there-bytes t.v s (asked-there (asks_v w) (there t.v) h (rw e)))

fixed_same : (kind attribute : ℕ) (x : Span) (s : List ℕ) → value_fixed kind attribute x s ≡ fixed_fits kind attribute (value_given x s)
unfolding value_fixed fixed_fits value_given
fixed_same kind attribute x s = by (there x)
  where
    by : (t : Bool)
        → cond t (same (fixed_for kind attribute) (says (part_of s x.start x.len))) true ≡ fixed_fits kind attribute (cond t (Given (part_of s x.start x.len)) Absent)
    by true = refl
    by false = refl

root-same : (kind : ℕ) (d : Dtd) (s : List ℕ) → dtd_fixed kind d s ≡ root_fits kind (dtd_of_tag d s)
unfolding dtd_fixed root_fits dtd_of_tag
root-same kind d s =
    rw (fixed_same kind dtd_version d.version s, fixed_same kind dtd_release d.release s, fixed_same kind dtd_message d.message s)
    (chained-three (fixed_fits kind dtd_version (value_given d.version s)) (fixed_fits kind dtd_release (value_given d.release s)) (fixed_fits kind dtd_message (value_given d.message s)))

tag-judged : (kind w : ℕ) (t : Tag) (h : Held) (s : List ℕ) → attributes_fit kind w t ≡ true → judge_tag w t h s ≡ judged_said w h (said_of_tag t s)
unfolding judge_tag judged_said attributes_fit said_of_tag
tag-judged kind w t h s f =
    let a = both_true (agree (asks_v w) (there t.v)) f in
    let b = both_true (agree (asks_scheme w) (there t.coding)) a.1 in
    ⊎_elim
    (λ y. rw (y.1, root-same h.kind t.dtd s))
    (λ y.
    rw y.1
    (⊎_elim
    (λ z. rw z.1)
    (λ z. rw (z.1, scheme-same w t s b.0, value_same w t s a.0 z.1))
    (eqb-cases (form_of w) 0)))
    (eqb-cases (role_of w) 1)

least-none : (n : ℕ) → least n 0 ≡ n
unfolding least
least-none n = ⊎_elim (λ y. rw y.1 (sym y.0)) (λ y. rw y.1) (eqb-cases n 0)

least-some : (n : ℕ) → eqb (least n 7) 0 ≡ false
unfolding least
least-some n =
    ⊎_elim
    (λ y. rw y.1)
    (λ y. rw y.1 (by_cond (λ (m : ℕ). eqb m 0 ≡ false) (leb n 7) y.1 refl))
    (eqb-cases n 0)

-- the values fit, v telling it of the value `v`
abbrev values_fit : ℕ → ℕ → TagSaid → Bool → Bool
values_fit kind w u v = cond (eqb (role_of w) 1) (root_fits kind u.dtd) (cond (eqb (form_of w) 0) true (scheme_fits w u && v))

judged-values : (w : ℕ) (h : Held) (u : TagSaid)
    → eqb (judged_said w h u).number 0 ≡ values_fit h.kind w u (eqb (judge (form_of w) h (sayings w u)).number 0)
unfolding judged_said also_scheme
judged-values w h u =
    by (eqb (role_of w) 1) (root_fits h.kind u.dtd) (eqb (form_of w) 0) (scheme_fits w u) (judge (form_of w) h (sayings w u))
  where
    by : (r v f c : Bool) (j : Judged)
        → eqb (cond r (cond v (refused 0) (refused 6)) (cond f (refused 0) (also_scheme (cond c 0 7) j))).number 0 ≡ cond r v (cond f true (c && eqb j.number 0))
    by true true f c j = refl
    by true false f c j = refl
    by false v true c j = refl
    by false v false true j = rw (least-none j.number)
    by false v false false j = least-some j.number

-- ---- Pos, and what is no Pos

no-position : (kind quarters last : ℕ) → position_fits kind quarters last 0 ≡ false
unfolding position_fits
no-position kind quarters last =
    let never : (n : ℕ) → eqb 0 (n + 1) ≡ false = λ n. ne_eqb 0 (n + 1) (λ e. omega (arith, e)) in
    by_cond (λ (t : Bool). t ≡ false) (ltb quarters 0) refl
    (by_cond (λ (t : Bool). t ≡ false) (kind_at kind).counted (never last) (by_cond (λ (t : Bool). t ≡ false) (eqb last 0) refl (le-ltb last 0 (omega arith))))

position-judged : (kind quarters last : ℕ) (n : Option ℕ) → eqb (judge_position_by kind quarters last n).number 0 ≡ position_fits kind quarters last (position_by n)
unfolding judge_position_by position_by
position-judged kind quarters last (Some p) =
    ⊎_elim (λ y. rw y) (λ y. rw y) (bool_cases (position_fits kind quarters last p))
position-judged kind quarters last None = sym (no-position kind quarters last)

position_first : (kind quarters last : ℕ) (n : Option ℕ) → position_fits kind quarters last (position_by n) ≡ true
    → (judge_position_by kind quarters last n).first ≡ position_by n
unfolding judge_position_by position_by
position_first kind quarters last (Some p) e = rw e
position_first kind quarters last None e = refl

period-kept : (kind : ℕ) (i : Option (ℕ × ℕ)) → (judge_period_by kind i).number ≡ 0
    → ((judge_period_by kind i).first ≡ (period_by i).start) × ((judge_period_by kind i).second ≡ (period_by i).end)
unfolding judge_period_by period_by
period-kept kind (Some (from, to)) e =
    ⊎_elim
    (λ y. (rw y, rw y))
    (λ y. let z : ◌≡◌ {A = ℕ} 8 0 = rw y at e in absurd (omega (arith, z)))
    (bool_cases (period_fits kind from to))
period-kept kind None e = absurd (omega (arith, e))

-- only a Pos is held against the one before it
judge-last : (form : ℕ) (h : Held) (l : ℕ) (cs : List ℕ) → (form ≡ 9 → ⊥)
    → judge form h cs ≡ judge form (record { kind = h.kind; from = h.from; to = h.to; quarters = h.quarters; last = l }) cs
unfolding judge
judge-last form h l cs e = rw (ne_eqb form 9 e)

-- ---- which code a value is

judge-coded : (form : ℕ) (h : Held) (cs : List ℕ) → 32 ≤ form → (judge form h cs).first ≡ code_no form cs
unfolding judge
judge-coded form h cs l =
    rw (
      ne_eqb form 6 (λ e. omega (arith, e, l)),
      ne_eqb form 7 (λ e. omega (arith, e, l)),
      ne_eqb form 8 (λ e. omega (arith, e, l)),
      ne_eqb form 9 (λ e. omega (arith, e, l)),
    ) refl

uncoded : (role : ℕ) → coded_role role ≡ false → (eqb role 7 ≡ false) × (eqb role 11 ≡ false)
uncoded role f = by (eqb role 7) (eqb role 11) f
  where
    by : (a b : Bool) → cond a true b ≡ false → (a ≡ false) × (b ≡ false)
    by true b e = never (sym e)
    by false b e = (refl, e)

-- of no other row it matters
against-any : (z : Seen) (n role a b : ℕ) → coded_role role ≡ false → against z n role a ≡ against z n role b
unfolding against
against-any z n role a b f = let g = uncoded role f in rw (g.0, g.1) refl

noticed-any : (z : Seen) (w a b : ℕ) → coded_role (role_of w) ≡ false → noticed z w a ≡ noticed z w b
unfolding noticed
noticed-any z w a b f = let g = uncoded (role_of w) f in rw (g.0, g.1) refl

-- ---- the tests before the values

taken-many : (x : State) (role kind : ℕ) → too_many x role kind ≡ false → role ≡ 4 → takes_another kind (x.intervals - x.first) ≡ true
unfolding too_many
taken-many x role kind h e = opposite (takes_another kind (x.intervals - x.first)) (rw e at h)

not-many : (x : State) (role kind : ℕ) → (role ≡ 4 → takes_another kind (x.intervals - x.first) ≡ true) → too_many x role kind ≡ false
unfolding too_many
not-many x role kind f = ⊎_elim (λ y. rw (y.1, f y.0)) (λ y. rw y.1) (eqb-cases role 4)

has_room : (x : State) (role : ℕ) (room : Room) → (role ≡ 2 → x.series < room.series) → (role ≡ 4 → x.intervals < room.intervals)
    → no_room x role room ≡ false
unfolding no_room
has_room x role room f g =
    ⊎_elim
    (λ y. rw y.1 (lt-leb room.series x.series (f y.0)))
    (λ y.
    rw y.1
    (⊎_elim
    (λ z. rw z.1 (lt-leb room.intervals x.intervals (g z.0)))
    (λ z. rw z.1)
    (eqb-cases role 4)))
    (eqb-cases role 2)

none-or-five : (x : State) (role : ℕ) → half_originals x role ≡ false → role ≡ 3 → (x.originals ≡ 0) ⊎ (x.originals ≡ 5)
unfolding half_originals
none-or-five x role h e =
    ⊎_elim
    (λ y. inl y.0)
    (λ y.
    ⊎_elim
    (λ z. inr z.0)
    (λ z. let v : ◌≡◌ {A = Bool} true false = rw (e, y.1, z.1) at h in absurd (zero-not-one (cc)))
    (eqb-cases x.originals 5))
    (eqb-cases x.originals 0)

whole-originals : (x : State) (role : ℕ) → (role ≡ 3 → (x.originals ≡ 0) ⊎ (x.originals ≡ 5)) → half_originals x role ≡ false
unfolding half_originals
whole-originals x role f =
    ⊎_elim
    (λ y. rw y.1 (⊎_elim (λ z. rw z) (λ z. rw z) (f y.0)))
    (λ y. rw y.1)
    (eqb-cases role 3)

-- ---- the values beside a tally

module _ (kind k₀ r : ℕ) (o : Bool) (y : Tally) (w : ℕ) (u : TagSaid) where
  -- what the value `v` is held against
  abbrev held : Held
  held = held_of (state_of k₀ r o y) kind

  abbrev value_judged : Judged
  value_judged = judge (form_of w) held (sayings w u)

  other_fits : (form_of w ≡ 9 → ⊥) → value_fits kind y.period w u ≡ eqb value_judged.number 0
  unfolding value_fits held_of state_of quarters_of
  other_fits e = rw (ne_eqb (form_of w) 9 e) (ap (λ (j : Judged). eqb j.number 0) (sym (judge-last (form_of w) held 0 (sayings w u) e)))

  pos-fits : form_of w ≡ 9 → value_fits kind y.period w u ≡ true
  unfolding value_fits
  pos-fits e = rw (eq-eqb (form_of w) 9 e)

  pos-judged : form_of w ≡ 9 → collapsed w ≡ true
      → value_judged ≡ judge_position_by kind (quarters_in y) y.last (number_of (dropped (says (bytes u.v))) 5)
  unfolding judge judge_position held_of state_of sayings
  pos-judged e c = rw (e, c)

  period-judged : form_of w ≡ 6 → collapsed w ≡ false → value_judged ≡ judge_period_by kind (interval (says (bytes u.v)))
  unfolding judge judge_period held_of state_of sayings
  period-judged e c = rw (e, c)

  pos-turn : form_of w ≡ 9 → collapsed w ≡ true → eqb value_judged.number 0 ≡ position_fits kind (quarters_in y) y.last (position_of u)
  unfolding position_of
  pos-turn e c =
      rw (pos-judged e c) (position-judged kind (quarters_in y) y.last (number_of (dropped (says (bytes u.v))) 5))

  -- a row with a `v` that is no root's
  value-alone : (v : Bool) → (role_of w ≡ 1 → ⊥) → (form_of w ≡ 0 → ⊥) → values_fit kind w u v ≡ (scheme_fits w u && v)
  value-alone v a b = rw (ne_eqb (role_of w) 1 a, ne_eqb (form_of w) 0 b)

  value-kept : (role_of w ≡ 1 → ⊥) → (form_of w ≡ 0 → ⊥)
      → ((judged_said w held u).first ≡ value_judged.first) × ((judged_said w held u).second ≡ value_judged.second)
  unfolding judged_said also_scheme
  value-kept a b = rw (ne_eqb (role_of w) 1 a, ne_eqb (form_of w) 0 b) (refl, refl)

  -- the code that is told is the one that the value says
  module _ (coded : coded_role (role_of w) ≡ true → 32 ≤ form_of w) where
    code-first : coded_role (role_of w) ≡ true → (judged_said w held u).first ≡ code_no (form_of w) (sayings w u)
    code-first e =
        let l = coded e in
        (value-kept (λ z. let f : false ≡ true = rw z at e in never f) (λ z. omega (arith, z, l))).0 ∙ judge-coded (form_of w) held (sayings w u) l

    noticed-first : noticed y.seen w (judged_said w held u).first ≡ noticed y.seen w (code_no (form_of w) (sayings w u))
    noticed-first =
        ⊎_elim
        (λ e. ap (λ (c : ℕ). noticed y.seen w c) (code-first e))
        (λ e. noticed-any y.seen w (judged_said w held u).first (code_no (form_of w) (sayings w u)) e)
        (bool_cases (coded_role (role_of w)))

    against-first : against y.seen y.series (role_of w) (judged_said w held u).first
        ≡ against y.seen y.series (role_of w) (code_no (form_of w) (sayings w u))
    against-first =
        ⊎_elim
        (λ e. ap (λ (c : ℕ). against y.seen y.series (role_of w) c) (code-first e))
        (λ e. against-any y.seen y.series (role_of w) (judged_said w held u).first (code_no (form_of w) (sayings w u)) e)
        (bool_cases (coded_role (role_of w)))

    allowed_same : against_others (state_of k₀ r o y) kind (role_of w) (judged_said w held u).first
        ≡ cond (kind_at kind).constrained (against y.seen y.series (role_of w) (code_no (form_of w) (sayings w u))) false
    unfolding against_others state_of
    allowed_same = ap (λ (t : Bool). cond (kind_at kind).constrained t false) against-first

  module _ (pos-row : form_of w ≡ 9 → (collapsed w ≡ true) × (role_of w ≡ 1 → ⊥)) where
    values-fit : values_fit kind w u (eqb value_judged.number 0) ≡ true
        → (values_fit kind w u (value_fits kind y.period w u) ≡ true)
        × (form_of w ≡ 9 → position_fits kind (quarters_in y) y.last (position_of u) ≡ true)
    values-fit h =
        ⊎_elim
        (λ (e : (form_of w ≡ 9) × (eqb (form_of w) 9 ≡ true)).
        let g = pos-row e.0 in
        let f : form_of w ≡ 0 → ⊥ = λ z. omega (arith, z, e.0) in
        let a = both (scheme_fits w u) (eqb value_judged.number 0) (sym (value-alone (eqb value_judged.number 0) g.1 f) ∙ h) in
        (value-alone (value_fits kind y.period w u) g.1 f ∙ rw (a.0, pos-fits e.0), λ z. sym (pos-turn e.0 g.0) ∙ a.1))
        (λ (e : (form_of w ≡ 9 → ⊥) × (eqb (form_of w) 9 ≡ false)). (rw (other_fits e.0) h, λ z. absurd (e.0 z)))
        (eqb-cases (form_of w) 9)

    fit-values : values_fit kind w u (value_fits kind y.period w u) ≡ true
        → (form_of w ≡ 9 → position_fits kind (quarters_in y) y.last (position_of u) ≡ true)
        → values_fit kind w u (eqb value_judged.number 0) ≡ true
    fit-values h turn =
        ⊎_elim
        (λ (e : (form_of w ≡ 9) × (eqb (form_of w) 9 ≡ true)).
        let g = pos-row e.0 in
        let f : form_of w ≡ 0 → ⊥ = λ z. omega (arith, z, e.0) in
        let a = both (scheme_fits w u) (value_fits kind y.period w u) (sym (value-alone (value_fits kind y.period w u) g.1 f) ∙ h) in
        value-alone (eqb value_judged.number 0) g.1 f ∙ rw (a.0, pos-turn e.0 g.0) (turn e.0))
        (λ (e : (form_of w ≡ 9 → ⊥) × (eqb (form_of w) 9 ≡ false)). rw (← other_fits e.0) h)
        (eqb-cases (form_of w) 9)

-- ---- the state after a start tag

-- TimePeriodCovered is nothing else to the reader
record Alone (role : ℕ) : Type 0 where
  root : role ≡ 1 → ⊥
  series : role ≡ 2 → ⊥
  period : role ≡ 3 → ⊥
  interval : role ≡ 4 → ⊥
  original : role ≡ 5 → ⊥
  pos : role ≡ 9 → ⊥

module _ (kind k₀ r : ℕ) (o : Bool) (y : Tally) (q w : ℕ) (u : TagSaid) (j : Judged) (within : Bool)
    (marks : noticed y.seen w j.first ≡ noticed y.seen w (code_no (form_of w) (sayings w u))) where
  abbrev after : State
  after = entered (state_of k₀ r o y) kind q w j within

  after-series : role_of w ≡ 2 → (form_of w ≡ 6 → ⊥) → y.series < 4294967295 → after ≡ state_of kind q within (opened w u y)
  unfolding entered at_row kept one_series state_of
  after-series e f l = rw (marks, e, ne_eqb (form_of w) 6 f, one-more y.series l)

  after-period : role_of w ≡ 3 → (form_of w ≡ 6 → ⊥) → after ≡ state_of kind q within (opened w u y)
  unfolding entered at_row kept last_pos state_of
  after-period e f = rw (marks, e, ne_eqb (form_of w) 6 f)

  after-interval : role_of w ≡ 4 → (form_of w ≡ 6 → ⊥) → y.intervals < 4294967295 → after ≡ state_of kind q within (opened w u y)
  unfolding entered at_row kept one_interval state_of
  after-interval e f l = rw (marks, e, ne_eqb (form_of w) 6 f, one-more y.intervals l)

  after-original : role_of w ≡ 5 → (form_of w ≡ 6 → ⊥) → y.originals < 4294967295 → after ≡ state_of kind q within (opened w u y)
  unfolding entered at_row kept one_original state_of
  after-original e f l = rw (marks, e, ne_eqb (form_of w) 6 f, one-more y.originals l)

  after-pos : role_of w ≡ 9 → (form_of w ≡ 6 → ⊥) → j.first ≡ position_of u → after ≡ state_of kind q within (opened w u y)
  unfolding entered at_row kept last_pos state_of
  after-pos e f l = rw (marks, e, ne_eqb (form_of w) 6 f, l)

  after-covered : form_of w ≡ 6 → Alone (role_of w)
      → (j.first ≡ (period_by (interval (says (bytes u.v)))).start) × (j.second ≡ (period_by (interval (says (bytes u.v)))).end)
      → after ≡ state_of kind q within (opened w u y)
  unfolding entered at_row kept covering state_of
  after-covered e a l =
      rw (
        marks,
        ne_eqb (role_of w) 2 a.series,
        ne_eqb (role_of w) 3 a.period,
        ne_eqb (role_of w) 4 a.interval,
        ne_eqb (role_of w) 5 a.original,
        ne_eqb (role_of w) 9 a.pos,
        eq-eqb (form_of w) 6 e,
        l.0,
        l.1,
      )

  after-other : eqb (role_of w) 2 ≡ false → eqb (role_of w) 3 ≡ false → eqb (role_of w) 4 ≡ false → eqb (role_of w) 5 ≡ false → eqb (role_of w) 9 ≡ false
      → eqb (form_of w) 6 ≡ false → after ≡ state_of kind q within (opened w u y)
  unfolding entered at_row kept state_of
  after-other a b c d e f = rw (marks, a, b, c, d, e, f)

  after-opened : (form_of w ≡ 6 → Alone (role_of w)) → (role_of w ≡ 9 → j.first ≡ position_of u)
      → (form_of w ≡ 6 → (j.first ≡ (period_by (interval (says (bytes u.v)))).start) × (j.second ≡ (period_by (interval (says (bytes u.v)))).end))
      → y.series < 4294967295 → y.intervals < 4294967295 → y.originals < 4294967295
      → after ≡ state_of kind q within (opened w u y)
  after-opened alone first covered ls li lo =
      ⊎_elim
      (λ (e : (form_of w ≡ 6) × (eqb (form_of w) 6 ≡ true)). after-covered e.0 (alone e.0) (covered e.0))
      (λ (f : (form_of w ≡ 6 → ⊥) × (eqb (form_of w) 6 ≡ false)).
      ⊎_elim
      (λ a. after-series a.0 f.0 ls)
      (λ (a : (role_of w ≡ 2 → ⊥) × (eqb (role_of w) 2 ≡ false)).
      ⊎_elim
      (λ b. after-period b.0 f.0)
      (λ (b : (role_of w ≡ 3 → ⊥) × (eqb (role_of w) 3 ≡ false)).
      ⊎_elim
      (λ c. after-interval c.0 f.0 li)
      (λ (c : (role_of w ≡ 4 → ⊥) × (eqb (role_of w) 4 ≡ false)).
      ⊎_elim
      (λ d. after-original d.0 f.0 lo)
      (λ (d : (role_of w ≡ 5 → ⊥) × (eqb (role_of w) 5 ≡ false)).
      ⊎_elim
      (λ e. after-pos e.0 f.0 (first e.0))
      (λ (e : (role_of w ≡ 9 → ⊥) × (eqb (role_of w) 9 ≡ false)). after-other a.1 b.1 c.1 d.1 e.1 f.1)
      (eqb-cases (role_of w) 9))
      (eqb-cases (role_of w) 5))
      (eqb-cases (role_of w) 4))
      (eqb-cases (role_of w) 3))
      (eqb-cases (role_of w) 2))
      (eqb-cases (form_of w) 6)

-- ---- a start tag

module _ (kind : ℕ) (rows : List ℕ) (p : ℕ) (L : Layout rows p) (room : Room) where
  pos-row : (q : ℕ) → q < length rows → form_of (get_or rows q 0) ≡ 9 → (collapsed (get_or rows q 0) ≡ true) × (role_of (get_or rows q 0) ≡ 1 → ⊥)
  pos-row q inside e =
      let a = L.only-pos-form q inside e in
      (rw a L.pos-collapsed, λ z. let b = L.only-root q inside z in let c = L.wide in omega (arith, a, b, c))

  pos-role-form : (q : ℕ) → q < length rows → role_of (get_or rows q 0) ≡ 9 → form_of (get_or rows q 0) ≡ 9
  pos-role-form q inside e = let a = L.only-pos q inside e in rw a L.pos-form

  covered-row : (q : ℕ) → q < length rows → form_of (get_or rows q 0) ≡ 6 → (collapsed (get_or rows q 0) ≡ false) × Alone (role_of (get_or rows q 0))
  covered-row q inside e =
      let a = L.covered-form q inside e in
      let wide = L.wide in (
        rw a L.covered-kept,
        record {
          root = λ z. let b = L.only-root q inside z in omega (arith, a, b);
          series = λ z. let b = L.only-series q inside z in omega (arith, a, b);
          period = λ z. let b = L.only-period q inside z in omega (arith, a, b, wide);
          interval = λ z. let b = L.only-interval q inside z in omega (arith, a, b, wide);
          original = λ z. let b = (L.only-originals q inside z).0 in omega (arith, a, b);
          pos = λ z. let b = L.only-pos q inside z in omega (arith, a, b, wide);
        },
      )

  module _ (k₀ r : ℕ) (o : Bool) (y : Tally) (q : ℕ) (inside : q < length rows) (tag : Tag) (s : List ℕ) (empty : Bool) where
    abbrev row : ℕ
    row = get_or rows q 0

    abbrev said : TagSaid
    said = said_of_tag tag s

    abbrev verdict : Judged
    verdict = start_judged (state_of k₀ r o y) kind rows q tag s empty room

    abbrev values : Judged
    values = judged_said row (held_of (state_of k₀ r o y) kind) said

    passed-values : Passed (state_of k₀ r o y) kind rows q tag empty room → verdict ≡ beside_others (state_of k₀ r o y) kind (role_of row) values
    passed-values c =
        passed-judged (state_of k₀ r o y) kind rows q tag s empty room c ∙
        ap (beside_others (state_of k₀ r o y) kind (role_of row)) (tag-judged kind row tag (held_of (state_of k₀ r o y) kind) s c.attributes)

    -- what the rules between series make of it
    allowed-there : against_others (state_of k₀ r o y) kind (role_of row) values.first
        ≡ cond (kind_at kind).constrained (against y.seen y.series (role_of row) (code_no (form_of row) (sayings row said))) false
    allowed-there = allowed_same kind k₀ r o y row said (L.coded q inside)

    pub judged-taken : verdict.number ≡ 0 → Takes kind room row said y × (cut_short empty rows q ≡ false)
    unfolding element_fits state_of held_of
    judged-taken h =
        let x = state_of k₀ r o y in
        let c = judged-passed x kind rows q tag s empty room h in
        let b = beside-taken x kind (role_of row) values (ap (λ (j : Judged). j.number) (sym (passed-values c)) ∙ h) in
        let n : values.number ≡ 0 = b.0 in
        let v = values-fit kind k₀ r o y row said (pos-row q inside) (sym (judged-values row (held_of x kind) said) ∙ eq-eqb values.number 0 n) in
        let a : attributes_agree kind row said ≡ true = sym (attributes-same kind row tag s) ∙ c.attributes in
        let t : Taken kind room row said y =
        record {
          fits = rw (a, v.0);
          turn = v.1;
          series = series-room x (role_of row) room c.free;
          another = λ e. (taken-many x (role_of row) kind c.few e, interval-room x (role_of row) room c.free e);
          originals = none-or-five x (role_of row) c.originals;
        } in
        ((t, sym allowed-there ∙ b.1), c.whole)

    module _ (t : Taken kind room row said y) (ok : Allowed kind row said y) (whole : cut_short empty rows q ≡ false) where
      taken-fits : (attributes_agree kind row said ≡ true) × (values_fit kind row said (value_fits kind y.period row said) ≡ true)
      unfolding element_fits
      taken-fits = both (attributes_agree kind row said) (values_fit kind row said (value_fits kind y.period row said)) t.fits

      taken-values : verdict ≡ values
      unfolding state_of
      taken-values =
          let x = state_of k₀ r o y in
          passed-values
          (record {
            whole = whole;
            few = not-many x (role_of row) kind (λ e. (t.another e).0);
            free = has_room x (role_of row) room t.series (λ e. (t.another e).1);
            attributes = attributes-same kind row tag s ∙ taken-fits.0;
            originals = whole-originals x (role_of row) t.originals;
          })
          ∙ beside_same x kind (role_of row) values (allowed-there ∙ ok)

      taken-value : values_fit kind row said (eqb (value_judged kind k₀ r o y row said).number 0) ≡ true
      taken-value = fit-values kind k₀ r o y row said (pos-row q inside) taken-fits.1 t.turn

      taken-first : form_of row ≡ 9 → verdict.first ≡ position_of said
      unfolding position_of
      taken-first e =
          let g = pos-row q inside e in
          ap (λ (j : Judged). j.first) taken-values ∙ (value-kept kind k₀ r o y row said g.1 (λ z. omega (arith, z, e))).0 ∙
          ap (λ (j : Judged). j.first) (pos-judged kind k₀ r o y row said e g.0) ∙
          position_first kind (quarters_in y) y.last (number_of (dropped (says (bytes said.v))) 5) (t.turn e)

      taken-period : form_of row ≡ 6
          → (verdict.first ≡ (period_by (interval (says (bytes said.v)))).start) × (verdict.second ≡ (period_by (interval (says (bytes said.v)))).end)
      taken-period e =
          let g = covered-row q inside e in
          let f : form_of row ≡ 0 → ⊥ = λ z. omega (arith, z, e) in
          let v = value_judged kind k₀ r o y row said in
          let d = period-judged kind k₀ r o y row said e g.0 in
          let a = both (scheme_fits row said) (eqb v.number 0) (sym (value-alone kind k₀ r o y row said (eqb v.number 0) g.1.root f) ∙ taken-value) in
          let k = value-kept kind k₀ r o y row said g.1.root f in
          let l = period-kept kind (interval (says (bytes said.v))) (ap (λ (j : Judged). j.number) (sym d) ∙ eqb-true v.number 0 a.1) in (
            ap (λ (j : Judged). j.first) taken-values ∙ k.0 ∙ ap (λ (j : Judged). j.first) d ∙ l.0,
            ap (λ (j : Judged). j.second) taken-values ∙ k.1 ∙ ap (λ (j : Judged). j.second) d ∙ l.1,
          )

      pub taken-judged : (verdict.number ≡ 0)
          × (form_of row ≡ 9 → verdict.first ≡ position_of said)
          × (form_of row ≡ 6 → (verdict.first ≡ (period_by (interval (says (bytes said.v)))).start)
          × (verdict.second ≡ (period_by (interval (says (bytes said.v)))).end))
      unfolding held_of
      taken-judged =
          let n : values.number ≡ 0 = eqb-true values.number 0 (judged-values row (held_of (state_of k₀ r o y) kind) said ∙ taken-value) in
          (ap (λ (j : Judged). j.number) taken-values ∙ n, taken-first, taken-period)

      pub entered-opened : y.series < 4294967295 → y.intervals < 4294967295 → y.originals < 4294967295 → (within : Bool)
          → entered (state_of k₀ r o y) kind q row verdict within ≡ state_of kind q within (opened row said y)
      entered-opened ls li lo within =
          after-opened kind k₀ r o y q row said verdict within
          (ap (λ (j : Judged). noticed y.seen row j.first) taken-values ∙ noticed-first kind k₀ r o y row said (L.coded q inside))
          (λ e. (covered-row q inside e).1) (λ e. taken-first (pos-role-form q inside e)) taken-period
          ls li lo

      pub entry-same : entry_of (role_of row) verdict.first ≡ entry_of (role_of row) (position_of said)
      unfolding entry_of
      entry-same =
          ⊎_elim
          (λ (e : (role_of row ≡ 9) × (eqb (role_of row) 9 ≡ true)). rw (taken-first (pos-role-form q inside e.0)))
          (λ (e : (role_of row ≡ 9 → ⊥) × (eqb (role_of row) 9 ≡ false)). rw e.1)
          (eqb-cases (role_of row) 9)

-- ---- an end tag

lack-back : (a b : Bool) → ◌≡◌ {A = ℕ} (cond a (cond b 8 0) 0) 0 → cond a b false ≡ false
lack-back true true e = absurd (omega (arith, e))
lack-back true false e = refl
lack-back false b e = refl

lack-none : (a b : Bool) → cond a b false ≡ false → ◌≡◌ {A = ℕ} (cond a (cond b 8 0) 0) 0
lack-none true true e = never (sym e)
lack-none true false e = refl
lack-none false b e = refl

module _ (kind : ℕ) (rows : List ℕ) (r : ℕ) (o : Bool) (y : Tally) (q : ℕ) where
  pub ended-taken : end_refusal (state_of kind r o y) rows q ≡ 0 → Shuts kind (get_or rows q 0) y
  unfolding end_refusal lack_refusal state_of
  ended-taken h = ((λ e. rw e at h), (λ e. lack-back (kind_at kind).constrained (lacking y.seen y.series) (rw e at h)))

  pub taken-ended : Shuts kind (get_or rows q 0) y → end_refusal (state_of kind r o y) rows q ≡ 0
  unfolding end_refusal lack_refusal state_of
  taken-ended f =
      ⊎_elim
      (λ e. rw e.1 (f.0 e.0))
      (λ e.
      rw e.1
      (⊎_elim
      (λ d. rw d.1 (lack-none (kind_at kind).constrained (lacking y.seen y.series) (f.1 d.0)))
      (λ d. rw d.1)
      (eqb-cases (role_of (get_or rows q 0)) 1)))
      (eqb-cases (role_of (get_or rows q 0)) 3)

  pub closed_same : closed_at (state_of kind r o y) q ≡ state_of kind q false y
  unfolding closed_at state_of
  closed_same = refl
