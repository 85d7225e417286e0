-- A pair of items moves the state alike, where no row of the name tells the values of its tags apart. Assumes nothing.
use Prim.Native.Nat.{ℕ, zero, suc}
use mathlib.Core.Path.{◌≡◌, refl, sym, ap, ◌∙◌}
use mathlib.Core.List.{List, [], ◌∷◌}
use mathlib.Core.Bool.{Bool, true, false, cond, not}
use mathlib.Core.Logic.{◌⊎◌, inl, inr, ⊎_elim}
use native.Mathlib.Omega.{arith}
use lib.Dec.{eqb}
use lib.ListN.{get_or}
use borrow.Author.Tests.{eq-eqb, eqb-true, not-true}
use Rattle.std.specs.Prelude.{Option, Some, None}
use Rattle.lists.proofs.Cases.{by_cond, both_true, eqb-cases, never, zero-not-one}
use Rattle.slices.specs.Same.{same}
use Rattle.slices.specs.Text.{text}
use Rattle.slices.specs.Part.{part_of}
use Rattle.elements.specs.Names.{names, number_in, element_no}
use Rattle.items.specs.Parts.{span_of}
use Rattle.items.specs.declared.Tag.{Tag}
use Rattle.items.specs.declared.Item.{Item}
use Rattle.items.specs.declared.Item.TheVariants.{Start, Empty, End, Text, Comment, Unreadable}
use Rattle.structure.specs.Rows.{name_of, start_of, end_of}
use Rattle.structure.proofs.Means.{start-means}
use Rattle.columns.specs.Columns.{form_of, collapsed, role_of}
use Rattle.guideline.specs.Rows.{beschaffungsanforderung, kostenblatt, network_constraint_document, rows_of}
use Rattle.guideline.proofs.Each.{of-table}
use Rattle.rules.specs.declared.Held.{Held}
use Rattle.states.specs.Attributes.{said_in, scheme_refusal, value_fixed, dtd_fixed, judge_tag}
use Rattle.states.specs.Moves.{held_of, values_judged, judged_at, start_judged, entry_of, started_by, started_at, started, end_refusal, after_end_at, after_end, moved, root_kind, kind_told, step}
use Rattle.states.specs.declared.State.{State}
use Rattle.states.specs.declared.Room.{Room}
use Rattle.states.specs.declared.Entry.{Entry}
use Rattle.states.specs.declared.Entry.TheVariants.{Nothing, Series, Identification, Object, BusinessType, Direction, Area, Interval, Position, Amount}
use Rattle.states.specs.Step.{Step, Next, Refused}
use Rattle.reader.specs.Rows.{quoted}
use Rattle.characters.specs.Says.{says}
use Rattle.trims.specs.Trim.{dropped}
use Rattle.rules.specs.Rules.{judge}
use Rattle.digits.specs.Items.{value_in}
use Rattle.digits.specs.Outside.{AlikeFrom}
use Rattle.characters.proofs.Low.{by-test}
use Rattle.digits.proofs.Values.{alike_read}
use Rattle.blindness.proofs.Names.{name-one}
use Rattle.blindness.proofs.Pairs.{TagSays, Says}

-- the row that a start tag takes bears its name
pub row-named : (rows : List ℕ) (r : ℕ) (o : Bool) (name q : ℕ) → start_of rows r o name ≡ Some q → name_of (get_or rows q 0) ≡ name
row-named rows r true name q e = (start-means rows r name q true e).1.named
row-named rows r false name q e =
    ⊎_elim (λ g. rw g.itself g.named) (λ g. g.1.named) (start-means rows r name q false e).1

-- the role of the rows that bring an entry
abbrev pub role_in : Entry → ℕ
role_in Nothing = 0
role_in Series = 2
role_in Interval = 4
role_in Object = 6
role_in BusinessType = 7
role_in Identification = 8
role_in (Position p) = 9
role_in Amount = 10
role_in Direction = 11
role_in Area = 12

pub brought-role : (role p : ℕ) (e : Entry) → (Nothing ≡ e → ⊥) → entry_of role p ≡ e → role ≡ role_in e
unfolding entry_of
brought-role role p e some q = ⊎_elim (λ z. absurd (some (sym z ∙ q))) (λ z. sym z ∙ ap role_in q) told
  where
    P : Entry → Type 0
    P f = (f ≡ Nothing) ⊎ (role_in f ≡ role)

    told : P (entry_of role p)
    told =
        by-test P (eqb role 2) (λ t. inr (sym (eqb-true role 2 t)))
        (λ n₂. by-test P (eqb role 4) (λ t. inr (sym (eqb-true role 4 t)))
        (λ n₄. by-test P (eqb role 6) (λ t. inr (sym (eqb-true role 6 t)))
        (λ n₆. by-test P (eqb role 7) (λ t. inr (sym (eqb-true role 7 t)))
        (λ n₇. by-test P (eqb role 8) (λ t. inr (sym (eqb-true role 8 t)))
        (λ n₈. by-test P (eqb role 9) (λ t. inr (sym (eqb-true role 9 t)))
        (λ n₉. by-test P (eqb role 10) (λ t. inr (sym (eqb-true role 10 t)))
        (λ n₁₀. by-test P (eqb role 11) (λ t. inr (sym (eqb-true role 11 t)))
        (λ n₁₁. by-test P (eqb role 12) (λ t. inr (sym (eqb-true role 12 t))) (λ n₁₂. inl refl)))))))))

-- of an item that brings e: a value that R joins, where that is brought, and else the same
abbrev pub Values : (List ℕ → List ℕ → Type 0) → Entry → Entry → List ℕ → List ℕ → Type 0
Values R brought e a b = ((e ≡ brought) × R a b) ⊎ ((e ≡ brought → ⊥) × (a ≡ b))

pub same-value : {brought e : Entry} {Joined Same : Type 0} → (e ≡ brought → ⊥) → ((e ≡ brought) × Joined) ⊎ ((e ≡ brought → ⊥) × Same) → Same
same-value other (inl z) = absurd (other z.0)
same-value other (inr z) = z.1

module _ (name : List ℕ) (R : List ℕ → List ℕ → Type 0) (brought : Entry) where
  -- a row that bears the name judges two values alike that R joins, and is that of what the tag brings
  pub record BlindRow (w : ℕ) : Type 0 where
    pub judged : (h : Held) {a b : List ℕ} → R a b → judge (form_of w) h (cond (collapsed w) (dropped (says a)) (says a)) ≡ judge (form_of w) h (cond (collapsed w) (dropped (says b)) (says b))
    pub brings : (p : ℕ) → entry_of (role_of w) p ≡ brought

  -- and no other row is
  pub record BlindRows (rows : List ℕ) : Type 0 where
    pub each : (r : ℕ) → name_of (get_or rows r 0) ≡ element_no name → BlindRow (get_or rows r 0)
    pub alone : (r p : ℕ) → entry_of (role_of (get_or rows r 0)) p ≡ brought → name_of (get_or rows r 0) ≡ element_no name

  pub record BlindKinds : Type 0 where
    pub rows : (kind : ℕ) → BlindRows (rows_of kind)
    pub known : element_no name ≡ 0 → ⊥
    pub some : Nothing ≡ brought → ⊥

  -- what a step brings is that
  unfoldable Brings : Step → Type 0
  Brings (Next x e) = e ≡ brought
  Brings (Refused n) = Unit {0}

  -- or anything else
  unfoldable Others : Step → Type 0
  Others (Next x e) = e ≡ brought → ⊥
  Others (Refused n) = Unit {0}

  -- a tag in s and in s', and the rows of a kind
  module _ (rows : List ℕ) (blind : BlindRows rows) (t : Tag) (s s' : List ℕ) (p : TagSays name R t s s') where
    judge-tag : (w : ℕ) (h : Held) → ((part_of s 1 t.name ≡ name) → BlindRow w) → judge_tag w t h s ≡ judge_tag w t h s'
    unfolding judge_tag dtd_fixed value_fixed scheme_refusal said_in
    judge-tag w h row =
        let q : judge (form_of w) h (said_in w t.v s) ≡ judge (form_of w) h (said_in w t.v s') =
        ⊎_elim
        (λ z. (row z.0).judged h z.1)
        (λ z. ap (λ (l : List ℕ). judge (form_of w) h (cond (collapsed w) (dropped (says l)) (says l))) z.1)
        p.v in
        rw (p.parts.version, p.parts.release, p.parts.message, p.parts.coding, q)

    module _ (x : State) (kind : ℕ) (empty : Bool) (room : Room) where
      -- the row that a tag of the name takes
      row-blind : (r : ℕ) → start_of rows x.row x.inside (element_no (part_of s 1 t.name)) ≡ Some r → part_of s 1 t.name ≡ name → BlindRow (get_or rows r 0)
      row-blind r q e = blind.each r (row-named rows x.row x.inside (element_no (part_of s 1 t.name)) r q ∙ ap element_no e)

      start-same : started x kind rows (element_no (part_of s 1 t.name)) t s empty room ≡ started x kind rows (element_no (part_of s' 1 t.name)) t s' empty room
      unfolding started started_at start_judged judged_at values_judged
      start-same =
          by (start_of rows x.row x.inside (element_no (part_of s 1 t.name))) refl
          ∙ ap (λ (n : List ℕ). started x kind rows (element_no n) t s' empty room) p.parts.name
        where
          by : (d : Option ℕ) → start_of rows x.row x.inside (element_no (part_of s 1 t.name)) ≡ d
              → started_at x kind rows t s empty room d ≡ started_at x kind rows t s' empty room d
          by (Some r) q = rw (judge-tag (get_or rows r 0) (held_of x kind) (row-blind r q))
          by None q = refl

      start-brings : part_of s 1 t.name ≡ name → Brings (started x kind rows (element_no (part_of s 1 t.name)) t s empty room)
      unfolding started started_at started_by Brings
      start-brings e = by (start_of rows x.row x.inside (element_no (part_of s 1 t.name))) refl
        where
          by : (d : Option ℕ) → start_of rows x.row x.inside (element_no (part_of s 1 t.name)) ≡ d → Brings (started_at x kind rows t s empty room d)
          by (Some r) q =
              let j = start_judged x kind rows r t s empty room in by_cond Brings (eqb j.number 0) ((row-blind r q e).brings j.first) tt
          by None q = tt

      -- the name of any other tag is not that of such a row
      start-other : (element_no name ≡ 0 → ⊥) → (part_of s 1 t.name ≡ name → ⊥)
          → Others (started x kind rows (element_no (part_of s 1 t.name)) t s empty room)
      unfolding started started_at started_by Others
      start-other known h = by (start_of rows x.row x.inside (element_no (part_of s 1 t.name))) refl
        where
          by : (d : Option ℕ) → start_of rows x.row x.inside (element_no (part_of s 1 t.name)) ≡ d → Others (started_at x kind rows t s empty room d)
          by (Some r) q =
              let j = start_judged x kind rows r t s empty room in
              by_cond Others (eqb j.number 0)
              (λ z.
              let e = row-named rows x.row x.inside (element_no (part_of s 1 t.name)) r q in
              h (name-one (part_of s 1 t.name) name (sym e ∙ blind.alone r j.first z) known))
              tt
          by None q = tt

  -- an end tag brings nothing
  end-other : (Nothing ≡ brought → ⊥) → (x : State) (rows : List ℕ) (n : ℕ) → Others (after_end x rows n)
  unfolding after_end after_end_at Others
  end-other some x rows n = by (end_of rows x.row x.inside n)
    where
      by : (d : Option ℕ) → Others (after_end_at x rows d)
      by (Some r) = by_cond Others (eqb (end_refusal x rows r) 0) some tt
      by None = tt

  module _ (kinds : BlindKinds) (x : State) (s s' : List ℕ) (room : Room) where
    abbrev stepped : Item → List ℕ → Step
    stepped i l = step x i l room

    -- a tag, by the rows of a kind
    tag_same : (t : Tag) → TagSays name R t s s' → (empty : Bool) (kind : ℕ)
        → started x kind (rows_of kind) (element_no (part_of s 1 t.name)) t s empty room ≡ started x kind (rows_of kind) (element_no (part_of s' 1 t.name)) t s' empty room
    tag_same t p empty kind = start-same (rows_of kind) (kinds.rows kind) t s s' p x kind empty room

    pub step_same : (i : Item) → Says name R i s s' → stepped i s ≡ stepped i s'
    unfolding step kind_told root_kind moved Says
    step_same (Start t) p = tag_same t p false (kind_told x (Start t) s) ∙ rw p.parts.name
    step_same (Empty t) p = tag_same t p true (kind_told x (Empty t) s) ∙ rw p.parts.name
    step_same (End n e) p = rw p
    step_same (Text w e) p = refl
    step_same (Comment e) p = refl
    step_same (Unreadable q) p = refl

    brings-entry : (y : Step) (x' : State) (e : Entry) → y ≡ Next x' e → Brings y → e ≡ brought
    unfolding Brings
    brings-entry y x' e q b = rw q at b

    other-entry : (y : Step) (x' : State) (e : Entry) → y ≡ Next x' e → Others y → e ≡ brought → ⊥
    unfolding Others
    other-entry y x' e q b = rw q at b

    tag-brings : (t : Tag) (empty : Bool) (kind : ℕ) → TagSays name R t s s' → (x' : State) (e : Entry)
        → started x kind (rows_of kind) (element_no (part_of s 1 t.name)) t s empty room ≡ Next x' e
        → Values R brought e (value_in s t.v) (value_in s' t.v)
    tag-brings t empty kind p x' e q =
        ⊎_elim
        (λ z. inl (brings-entry _ x' e q (start-brings (rows_of kind) (kinds.rows kind) t s s' p x kind empty room z.0), z.1))
        (λ z. inr (other-entry _ x' e q (start-other (rows_of kind) (kinds.rows kind) t s s' p x kind empty room kinds.known z.0), z.1))
        p.v

    -- an item that brings anything else has the same value
    pub step-brings : (i : Item) → Says name R i s s' → (x' : State) (e : Entry) → stepped i s ≡ Next x' e → Values R brought e (quoted (span_of i) s) (quoted (span_of i) s')
    unfolding step moved Says span_of quoted part_of Others
    step-brings (Start t) p x' e q = tag-brings t false (kind_told x (Start t) s) p x' e q
    step-brings (Empty t) p x' e q = tag-brings t true (kind_told x (Empty t) s) p x' e q
    step-brings (End n m) p x' e q =
        inr (other-entry _ x' e q (end-other kinds.some x (rows_of (kind_told x (End n m) s)) (element_no (part_of s 2 n))), refl)
    step-brings (Text w m) p x' e q = inr (other-entry _ x' e q (by_cond Others w kinds.some tt), refl)
    step-brings (Comment m) p x' e q = inr (other-entry _ x' e q kinds.some, refl)
    step-brings (Unreadable u) p x' e q = inr (other-entry _ x' e q tt, refl)

-- ---- rows that are told by their name

-- a row has this name exactly where it has this role, and then this form, and its spaces are dropped or not
module _ (name : List ℕ) (form : ℕ) (spaces : Bool) (role : ℕ) where
  unfoldable pub fits : ℕ → Bool
  fits w =
      cond (eqb (name_of w) (element_no name))
      (cond (eqb (form_of w) form) (cond (eqb (role_of w) role) (cond spaces (collapsed w) (not (collapsed w))) false) false)
      (not (eqb (role_of w) role))

  -- so has each of these, and one past their end
  unfoldable pub all_fit : List ℕ → Bool
  all_fit [] = fits 0
  all_fit (w ∷ ws) = cond (fits w) (all_fit ws) false

  row_fits : (rows : List ℕ) (r : ℕ) → all_fit rows ≡ true → fits (get_or rows r 0) ≡ true
  unfolding all_fit
  row_fits [] r h = h
  row_fits (w ∷ ws) zero h = (both_true (fits w) h).0
  row_fits (w ∷ ws) (suc r) h = row_fits ws r (both_true (fits w) h).1

  pub record NamedRow (w : ℕ) : Type 0 where
    pub form-is : form_of w ≡ form
    pub role-is : role_of w ≡ role
    pub spaces-are : collapsed w ≡ spaces

  spaces-told : (t u : Bool) → cond t u (not u) ≡ true → u ≡ t
  spaces-told true u h = h
  spaces-told false u h = not-true u h

  module _ (rows : List ℕ) (all : all_fit rows ≡ true) (r : ℕ) where
    abbrev w : ℕ
    w = get_or rows r 0

    pub named-row : name_of w ≡ element_no name → NamedRow w
    unfolding fits
    named-row e =
        let h = row_fits rows r all in
        let f = both_true (eqb (form_of w) form) (rw (eq-eqb (name_of w) (element_no name) e) at h) in
        let g = both_true (eqb (role_of w) role) f.1 in
        record { form-is = eqb-true (form_of w) form f.0; role-is = eqb-true (role_of w) role g.0; spaces-are = spaces-told spaces (collapsed w) g.1 }

    pub row-name : role_of w ≡ role → name_of w ≡ element_no name
    unfolding fits
    row-name e =
        let h = row_fits rows r all in
        ⊎_elim (λ y. y.0) (λ y. never (rw (y.1, eq-eqb (role_of w) role e) at h)) (eqb-cases (name_of w) (element_no name))

-- ---- the first use: amounts

abbrev qty_fit : List ℕ → Bool
qty_fit = all_fit (text "Qty") 10 true 10

all-fit : (kind : ℕ) → qty_fit (rows_of kind) ≡ true
unfolding all_fit fits rows_of beschaffungsanforderung kostenblatt network_constraint_document element_no number_in names same name_of form_of collapsed role_of
all-fit = of-table qty_fit refl

-- the row of a Qty, of any kind, and that of an amount
pub qty-row : (kind r : ℕ) → name_of (get_or (rows_of kind) r 0) ≡ element_no (text "Qty") → NamedRow (text "Qty") 10 true 10 (get_or (rows_of kind) r 0)
qty-row kind r = named-row (text "Qty") 10 true 10 (rows_of kind) (all-fit kind) r

pub qty-name : (kind r : ℕ) → role_of (get_or (rows_of kind) r 0) ≡ 10 → name_of (get_or (rows_of kind) r 0) ≡ element_no (text "Qty")
qty-name kind r = row-name (text "Qty") 10 true 10 (rows_of kind) (all-fit kind) r

pub qty-known : element_no (text "Qty") ≡ 0 → ⊥
unfolding element_no number_in names same
qty-known e = omega (arith, e)

-- no row of a Qty tells its digits apart
pub qty-kinds : BlindKinds (text "Qty") (AlikeFrom false) Amount
unfolding entry_of
qty-kinds =
    record {
      rows = λ kind.
          record {
            each = λ r e. let w = qty-row kind r e in record { judged = λ h j. rw (w.form-is, w.spaces-are) (alike_read h j); brings = λ p. rw w.role-is };
            alone = λ r p e. qty-name kind r (brought-role (role_of (get_or (rows_of kind) r 0)) p Amount (λ z. zero-not-one (cc)) e);
          };
      known = qty-known;
      some = λ z. zero-not-one (cc);
    }
