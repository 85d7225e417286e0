-- How many Qty were passed follows from the state: as many as intervals were started, but for one that is still to come. Assumes nothing.
use Prim.Native.Nat.{ℕ, suc, ◌+◌, ◌<◌, ◌≤◌}
use mathlib.Core.Path.{◌≡◌, refl, sym, ap, ◌∙◌}
use mathlib.Core.List.{List}
use mathlib.Core.Bool.{Bool, true, false, cond, not}
use mathlib.Core.Logic.{⊎_elim}
use native.Mathlib.Omega.{arith}
use lib.Dec.{eqb}
use lib.ListN.{length, get_or}
use borrow.Author.Tests.{eq-eqb, ne_eqb, eqb-true, not-true}
use Rattle.std.specs.Prelude.{Option, Some, None}
use Rattle.lists.proofs.Cases.{bool_cases, by_cond, eqb-cases, zero-not-one}
use Rattle.slices.specs.Same.{same}
use Rattle.slices.proofs.Sames.{same_self, same-equal}
use Rattle.slices.specs.Text.{text}
use Rattle.slices.specs.Part.{part_of}
use Rattle.elements.specs.Names.{names, number_in, element_no}
use Rattle.items.specs.declared.Tag.{Tag}
use Rattle.items.specs.declared.Item.{Item}
use Rattle.items.specs.declared.Item.TheVariants.{Start, Empty, End, Text, Comment, Unreadable}
use Rattle.structure.specs.Rows.{name_of, ends_at_once, start_of, end_of, closes_document, over_of}
use Rattle.structure.proofs.Means.{start-means}
use Rattle.columns.specs.Columns.{form_of, role_of}
use Rattle.guideline.specs.Kinds.{is_kind}
use Rattle.guideline.specs.Rows.{beschaffungsanforderung, kostenblatt, network_constraint_document, rows_of}
use Rattle.guideline.proofs.Each.{of-table}
use Rattle.guideline.proofs.Roots.{no_start, no_end}
use Rattle.rules.specs.Judged.{Judged}
use Rattle.states.specs.Moves.{begun, cut_short, start_judged, at_row, one_series, one_interval, one_original, last_pos, covering, kept, entered, entry_of, started_by, started_at, started, closed_at, end_refusal, after_end_at, after_end, moved, root_kind, kind_told, step}
use Rattle.states.specs.Constraints.{noticed}
use Rattle.states.specs.declared.State.{State}
use Rattle.states.specs.declared.Seen.{Seen}
use Rattle.states.specs.declared.Room.{Room}
use Rattle.states.specs.declared.Entry.{Entry}
use Rattle.states.specs.declared.Entry.TheVariants.{Nothing, Amount}
use Rattle.states.specs.Step.{Step, Next, Refused}
use Rattle.states.proofs.Judgements.{judged-passed, interval-room, one-more}
use Rattle.blindness.specs.Readable.{tag_named, named_qty}
use Rattle.blindness.proofs.Names.{name-one}
use Rattle.blindness.proofs.Steps.{brought-role, row-named, qty-row, qty-name, qty-known}
use Rattle.blindness.proofs.Tables.{waits, due, all_tested, waits-other, start-due, row-facts, end-waits}

-- the document as a whole waits for no Qty
root-waits : (kind : ℕ) (o : Bool) → waits (get_or (rows_of kind) 0 0) o ≡ false
unfolding waits role_of rows_of beschaffungsanforderung kostenblatt network_constraint_document element_no number_in names same
root-waits kind o = not-true (waits (get_or (rows_of kind) 0 0) o) (of-table (λ l. not (waits (get_or l 0 0) o)) refl kind)

abbrev pub waiting : State → Bool
waiting x = waits (get_or (rows_of x.kind) x.row 0) x.inside

abbrev pub to_come : Bool → ℕ
to_come true = 1
to_come false = 0

-- c Qty were passed
pub record Counted (c : ℕ) (room : Room) (x : State) : Type 0 where
  pub count : x.intervals ≡ c + to_come (waiting x)
  pub root : x.kind ≡ 0 → x.row ≡ 0
  pub fits : x.intervals ≤ room.intervals

-- an item came to the state x after one with n intervals; b tells whether it was a tag named Qty
pub record Passed (c : ℕ) (room : Room) (n : ℕ) (b : Bool) (x : State) (e : Entry) : Type 0 where
  pub counted : Counted (c + to_come b) room x
  pub small : x.intervals ≤ suc n
  pub amount : b ≡ true → (e ≡ Amount) × (x.intervals ≡ suc c)
  pub other : b ≡ false → e ≡ Amount → ⊥

unfoldable pub Good : ℕ → Room → ℕ → Bool → Step → Type 0
Good c room n b (Next x e) = Passed c room n b x e
Good c room n b (Refused k) = k ≡ 0 → ⊥

due-count : (role : ℕ) (w : Bool) → due role w ≡ true → to_come w ≡ to_come (eqb role 10) + to_come (eqb role 9)
unfolding due
due-count role w h =
    ⊎_elim
    (λ y. let z : w ≡ true = rw y.0 at h in rw (y.0, z))
    (λ y.
    ⊎_elim
    (λ u. let z : w ≡ true = rw u.0 at h in rw (u.0, z))
    (λ u. let z : not w ≡ true = rw (y.1, u.1) at h in rw (not-true w z, y.1, u.1))
    (eqb-cases role 10))
    (eqb-cases role 9)

due-interval : (w : Bool) → due 4 w ≡ true → w ≡ false
unfolding due
due-interval w h = not-true w h

-- ---- what a start tag makes of the state

abbrev Still : State → State → Type 0
Still p x = (x.kind ≡ p.kind) × (x.row ≡ p.row) × (x.inside ≡ p.inside) × (x.intervals ≡ p.intervals)

kept-still : (p : State) (w : ℕ) (j : Judged) → (role_of w ≡ 4 → ⊥) → Still p (kept p w j)
unfolding kept one_series last_pos one_interval one_original covering
kept-still p w j h =
    rw (ne_eqb (role_of w) 4 h)
    (by_cond (Still p) (eqb (role_of w) 2) (refl, refl, refl, refl)
    (by_cond (Still p) (eqb (role_of w) 3) (refl, refl, refl, refl)
    (by_cond (Still p) (eqb (role_of w) 5) (refl, refl, refl, refl)
    (by_cond (Still p) (eqb (role_of w) 9) (refl, refl, refl, refl)
    (by_cond (Still p) (eqb (form_of w) 6) (refl, refl, refl, refl) (refl, refl, refl, refl))))))

kept-interval : (p : State) (w : ℕ) (j : Judged) → role_of w ≡ 4 → kept p w j ≡ one_interval p
unfolding kept
kept-interval p w j h = rw h

not-amount : (role p : ℕ) → (role ≡ 10 → ⊥) → entry_of role p ≡ Amount → ⊥
not-amount role p h z = h (brought-role role p Amount (λ q. zero-not-one (cc)) z)

is-amount : (role p : ℕ) → role ≡ 10 → entry_of role p ≡ Amount
unfolding entry_of
is-amount role p h = rw h

not_short : (empty : Bool) (rows : List ℕ) (r : ℕ) → ends_at_once rows r ≡ false → cut_short empty rows r ≡ false → not empty ≡ true
unfolding cut_short
not_short true rows r e h = let z : ◌≡◌ {A = Bool} true false = rw e at h in absurd (zero-not-one (cc))
not_short false rows r e h = refl

-- whether a tag is named Qty is told by the row that it takes
role-told : (kind : ℕ) (n : List ℕ) (r : ℕ) → name_of (get_or (rows_of kind) r 0) ≡ element_no n → same n (text "Qty") ≡ eqb (role_of (get_or (rows_of kind) r 0)) 10
role-told kind n r e =
    let w = get_or (rows_of kind) r 0 in
    ⊎_elim
    (λ y. y ∙ sym (eq-eqb (role_of w) 10 (qty-row kind r (e ∙ ap element_no (same-equal n (text "Qty") y))).role-is))
    (λ y.
    ⊎_elim
    (λ u.
    let q = name-one n (text "Qty") (sym e ∙ qty-name kind r u.0) qty-known in
    let z : ◌≡◌ {A = Bool} false true = sym y ∙ ap (λ (m : List ℕ). same m (text "Qty")) q ∙ same_self (text "Qty") in
    absurd (zero-not-one (cc)))
    (λ u. y ∙ sym u.1)
    (eqb-cases (role_of w) 10))
    (bool_cases (same n (text "Qty")))

-- ---- a start tag, or the start in an empty one

-- the row that it takes is one of the table's
row_inside : (rows : List ℕ) (r : ℕ) (o : Bool) (name q : ℕ) → start_of rows r o name ≡ Some q → q < length rows
row_inside rows r true name q e = (start-means rows r name q true e).1.within
row_inside rows r false name q e =
    let d = start-means rows r name q false e in ⊎_elim (λ g. rw g.itself d.0) (λ g. g.1.within) d.1

module _ (x : State) (kind : ℕ) (room : Room) (c : ℕ)
    (count : x.intervals ≡ c + to_come (waits (get_or (rows_of kind) x.row 0) x.inside))
    (fits : x.intervals ≤ room.intervals) (low : x.intervals < 4294967295) where
  module _ (q : ℕ) (root : kind ≡ 0 → ⊥) (fact : due (role_of (get_or (rows_of kind) q 0)) (waits (get_or (rows_of kind) x.row 0) x.inside) ≡ true)
      (b : Bool) (told : b ≡ eqb (role_of (get_or (rows_of kind) q 0)) 10) (j : Judged) where
    abbrev taken : ℕ
    taken = get_or (rows_of kind) q 0

    -- any row but an Interval's
    still-passed : (within : Bool) (seen : Seen) → (role_of taken ≡ 4 → ⊥) → (y : State) → Still (at_row x kind q within seen) y
        → Passed c room x.intervals b y (entry_of (role_of taken) j.first)
    unfolding at_row
    still-passed within seen h y s =
        let z = due-count (role_of taken) (waits (get_or (rows_of kind) x.row 0) x.inside) fact in
        let n : x.intervals ≡ c + to_come b + to_come (eqb (role_of taken) 9) = rw told (omega (arith, count, z)) in
        record {
          counted =
              record {
                count = rw (s.0, s.1, s.2, s.3, waits-other taken within h) n;
                root = λ e. absurd (root (sym s.0 ∙ e));
                fits = rw s.3 fits;
              };
          small = rw s.3 (omega arith);
          amount = λ e. (is-amount (role_of taken) j.first (role e), s.3 ∙ count-qty e);
          other = λ e. not-amount (role_of taken) j.first (λ r. not-role e r);
        }
      where
        role : b ≡ true → role_of taken ≡ 10
        role e = eqb-true (role_of taken) 10 (sym told ∙ e)

        not-role : b ≡ false → role_of taken ≡ 10 → ⊥
        not-role e r = let z : ◌≡◌ {A = Bool} true false = sym (eq-eqb (role_of taken) 10 r) ∙ sym told ∙ e in zero-not-one (cc)

        count-qty : b ≡ true → x.intervals ≡ suc c
        count-qty e =
            let z = due-count (role_of taken) (waits (get_or (rows_of kind) x.row 0) x.inside) fact in
            let u : to_come (eqb (role_of taken) 10) + to_come (eqb (role_of taken) 9) ≡ 1 = rw (role e) in
            omega (arith, count, z, u)

    interval-passed : (seen : Seen) → role_of taken ≡ 4 → x.intervals < room.intervals → Passed c room x.intervals b (one_interval (at_row x kind q true seen)) (entry_of (role_of taken) j.first)
    unfolding one_interval at_row waits
    interval-passed seen h free =
        let z : waits (get_or (rows_of kind) x.row 0) x.inside ≡ false = due-interval (waits (get_or (rows_of kind) x.row 0) x.inside) (rw h at fact) in
        let n : x.intervals ≡ c + 0 = rw z at count in
        let f : b ≡ false = told ∙ rw h in
        let m = one-more x.intervals low in
        record {
          counted = record { count = rw (f, h, m) (omega (arith, n)); root = λ e. absurd (root e); fits = rw m (omega (arith, free)) };
          small = rw m (omega arith);
          amount = λ e. let u : ◌≡◌ {A = Bool} false true = sym f ∙ e in absurd (zero-not-one (cc));
          other = λ e. not-amount (role_of taken) j.first (λ r. omega (arith, h, r));
        }

  start-good : (t : Tag) (s : List ℕ) (empty : Bool) (b : Bool) → b ≡ same (part_of s 1 t.name) (text "Qty")
      → ((q : ℕ) → start_of (rows_of kind) x.row x.inside (element_no (part_of s 1 t.name)) ≡ Some q → kind ≡ 0 → ⊥)
      → Good c room x.intervals b (started x kind (rows_of kind) (element_no (part_of s 1 t.name)) t s empty room)
  unfolding started started_at started_by Good entered
  start-good t s empty b eb root = by (start_of (rows_of kind) x.row x.inside name) refl
    where
      name : ℕ
      name = element_no (part_of s 1 t.name)

      by : (d : Option ℕ) → start_of (rows_of kind) x.row x.inside (element_no (part_of s 1 t.name)) ≡ d
          → Good c room x.intervals b (started_at x kind (rows_of kind) t s empty room d)
      by None z = λ e. omega (arith, e)
      by (Some q) z =
          let rows = rows_of kind in
          let w = get_or rows q 0 in
          let l = row_inside rows x.row x.inside (element_no (part_of s 1 t.name)) q z in
          let fact = start-due rows (all_tested kind) x.row x.inside (element_no (part_of s 1 t.name)) q z in
          let told = eb ∙ role-told kind (part_of s 1 t.name) q (row-named rows x.row x.inside (element_no (part_of s 1 t.name)) q z) in
          let j = start_judged x kind rows q t s empty room in
          let seen = noticed x.seen w j.first in
          let p₀ = at_row x kind q (not empty) seen in
          ⊎_elim
          (λ y.
          let g = judged-passed x kind rows q t s empty room y.0 in
          rw y.1
          (⊎_elim
          (λ h.
          let p = interval-passed q (root q z) fact b told j seen h.0 (interval-room x (role_of w) room g.free h.0) in
          rw (kept-interval p₀ w j h.0, not_short empty rows q ((row-facts rows (all_tested kind) q l).whole h.0) g.whole) p)
          (λ h.
          still-passed q (root q z) fact b told j (not empty) seen h.0 (kept p₀ w j) (kept-still p₀ w j h.0))
          (eqb-cases (role_of w) 4)))
          (λ y. rw y.1 y.0)
          (eqb-cases j.number 0)

-- ---- an end tag

end-good : (x : State) (room : Room) (c : ℕ) → Counted c room x → (name : ℕ) → Good c room x.intervals false (after_end x (rows_of x.kind) name)
unfolding after_end after_end_at closed_at Good is_kind
end-good x room c k name = by (end_of (rows_of x.kind) x.row x.inside name) refl
  where
    rooted : (q : ℕ) → end_of (rows_of x.kind) x.row x.inside name ≡ Some q → x.kind ≡ 0 → q ≡ 0
    rooted q z e = let u : None ≡ Some q = sym (no_end 0 refl x.row x.inside name) ∙ rw e at z in absurd (zero-not-one (cc))

    by : (d : Option ℕ) → end_of (rows_of x.kind) x.row x.inside name ≡ d → Good c room x.intervals false (after_end_at x (rows_of x.kind) d)
    by None z = λ e. omega (arith, e)
    by (Some q) z =
        ⊎_elim
        (λ y. rw y.1
        (record {
          counted =
              record {
                count = rw (end-waits (rows_of x.kind) (all_tested x.kind) x.row x.inside name q z) (let u = k.count in omega (arith, u));
                root = rooted q z;
                fits = k.fits;
              };
          small = omega arith;
          amount = λ e. absurd (zero-not-one (cc));
          other = λ e f. zero-not-one (cc);
        }))
        (λ y. rw y.1 y.0)
        (eqb-cases (end_refusal x (rows_of x.kind) q) 0)

-- ---- an item

same-waits : (x : State) → (x.kind ≡ 0 → x.row ≡ 0) → (k : ℕ) → ((x.kind ≡ 0 → ⊥) → k ≡ x.kind) → waits (get_or (rows_of k) x.row 0) x.inside ≡ waiting x
same-waits x root k h =
    ⊎_elim
    (λ y. rw (root y.0) (root-waits k x.inside ∙ sym (root-waits x.kind x.inside)))
    (λ y. rw (h y.0))
    (eqb-cases x.kind 0)

kind-same : (x : State) (i : Item) (s : List ℕ) → (x.kind ≡ 0 → ⊥) → kind_told x i s ≡ x.kind
unfolding kind_told
kind-same x i s h = rw (ne_eqb x.kind 0 h)

module _ (x : State) (room : Room) (c : ℕ) (k : Counted c room x) (low : x.intervals < 4294967295) (s : List ℕ) where
  tag-good : (i : Item) (t : Tag) (empty : Bool)
      → Good c room x.intervals (same (part_of s 1 t.name) (text "Qty"))
      (started x (kind_told x i s) (rows_of (kind_told x i s)) (element_no (part_of s 1 t.name)) t s empty room)
  unfolding is_kind
  tag-good i t empty =
      start-good x (kind_told x i s) room c
      (k.count ∙ ap (λ (b : Bool). c + to_come b) (sym (same-waits x k.root (kind_told x i s) (kind-same x i s))))
      k.fits low t s empty (same (part_of s 1 t.name) (text "Qty")) refl none
    where
      none : (q : ℕ) → start_of (rows_of (kind_told x i s)) x.row x.inside (element_no (part_of s 1 t.name)) ≡ Some q → kind_told x i s ≡ 0 → ⊥
      none q z e =
          let u : None ≡ Some q = sym (no_start 0 refl x.row x.inside (element_no (part_of s 1 t.name))) ∙ rw e at z in
          zero-not-one (cc)

  kind-end : (i : Item) → root_kind i s ≡ 0 → kind_told x i s ≡ x.kind
  unfolding kind_told
  kind-end i e = ⊎_elim (λ y. rw (y.1, e) (sym y.0)) (λ y. rw y.1) (eqb-cases x.kind 0)

  unmoved : Good c room x.intervals false (Next x Nothing)
  unfolding Good
  unmoved =
      record {
        counted = record { count = let u = k.count in omega (arith, u); root = k.root; fits = k.fits };
        small = omega arith;
        amount = λ e. absurd (zero-not-one (cc));
        other = λ e f. zero-not-one (cc);
      }

  refusal : (n : ℕ) → (n ≡ 0 → ⊥) → Good c room x.intervals false (Refused n)
  unfolding Good
  refusal n h = h

  text-good : (w : Bool) → Good c room x.intervals false (cond w (Next x Nothing) (Refused 3))
  text-good w = by_cond (Good c room x.intervals false) w unmoved (refusal 3 (λ e. omega (arith, e)))

  pub step-good : (i : Item) → Good c room x.intervals (named_qty i s) (step x i s room)
  unfolding step moved root_kind tag_named
  step-good (Start t) = tag-good (Start t) t false
  step-good (Empty t) = tag-good (Empty t) t true
  step-good (End n e) = rw (kind-end (End n e) refl) (end-good x room c k (element_no (part_of s 2 n)))
  step-good (Text w e) = text-good w
  step-good (Comment e) = unmoved
  step-good (Unreadable p) = refusal 2 (λ e. omega (arith, e))

pub begun-counted : (room : Room) → Counted 0 room begun
unfolding begun
begun-counted room = record { count = rw (root-waits 0 true); root = λ e. refl; fits = omega arith }

-- where the document may be over, no Qty is waited for
pub over-waits : (x : State) → over_of (rows_of x.kind) x.row x.inside ≡ true → waiting x ≡ false
unfolding over_of closes_document
over-waits x h = by (end_of (rows_of x.kind) x.row x.inside 255) refl h
  where
    by : (d : Option ℕ) → end_of (rows_of x.kind) x.row x.inside 255 ≡ d → closes_document d ≡ true → waiting x ≡ false
    by (Some q) z t =
        let e : q ≡ 0 = eqb-true q 0 t in
        let w = end-waits (rows_of x.kind) (all_tested x.kind) x.row x.inside 255 q z in
        sym (rw e at w) ∙ root-waits x.kind false
    by None z t = absurd (zero-not-one (cc))
