-- What a row is to the tables, case by case. Assumes nothing.
use Prim.Native.Nat.{ℕ}
use mathlib.Core.Path.{◌≡◌, refl, sym, ap, ◌∙◌}
use mathlib.Core.Bool.{Bool, true, false, cond}
use mathlib.Core.Logic.{⊎_elim}
use lib.Dec.{eqb}
use borrow.Author.Tests.{ne_eqb}
use Rattle.lists.proofs.Cases.{eqb-cases, never}
use Rattle.states.specs.Moves.{entry_of}
use Rattle.states.specs.declared.Entry.{Entry}
use Rattle.states.specs.declared.Entry.TheVariants.{Nothing, Series, Interval, Position, Amount}
use Rattle.states.specs.declared.Entry.TheVariants.{Identification as BringsIdentification, Object as BringsObject, BusinessType as BringsBusinessType, Direction as BringsDirection, Area as BringsArea}
use Rattle.series.specs.Row.{is_view}
use Rattle.series.specs.declared.Field.{Field}
use Rattle.series.specs.declared.Field.TheVariants.{Identification, Object, BusinessType, Direction, Area, FirstRow, Count}
use Rattle.contents.specs.Shown.{role_shown}

-- the roles that bring something into the tables
pub data Role (r : ℕ) : Type 0 where
  is-series : r ≡ 2 → Role r
  is-interval : r ≡ 4 → Role r
  is-object : r ≡ 6 → Role r
  is-business : r ≡ 7 → Role r
  is-id : r ≡ 8 → Role r
  is_pos : r ≡ 9 → Role r
  is-qty : r ≡ 10 → Role r
  is-direction : r ≡ 11 → Role r
  is-area : r ≡ 12 → Role r
  is-other : eqb r 2 ≡ false → eqb r 4 ≡ false → eqb r 6 ≡ false → eqb r 7 ≡ false → eqb r 8 ≡ false → eqb r 9 ≡ false → eqb r 10 ≡ false
      → eqb r 11 ≡ false → eqb r 12 ≡ false → Role r

pub role-cases : (r : ℕ) → Role r
role-cases r =
    ⊎_elim (λ a. is-series a.0) (λ a.
    ⊎_elim (λ b. is-interval b.0) (λ b.
    ⊎_elim (λ c. is-object c.0) (λ c.
    ⊎_elim (λ d. is-business d.0) (λ d.
    ⊎_elim (λ e. is-id e.0) (λ e.
    ⊎_elim (λ f. is_pos f.0) (λ f.
    ⊎_elim (λ g. is-qty g.0) (λ g.
    ⊎_elim (λ h. is-direction h.0) (λ h.
    ⊎_elim (λ i. is-area i.0) (λ i. is-other a.1 b.1 c.1 d.1 e.1 f.1 g.1 h.1 i.1)
    (eqb-cases r 12)) (eqb-cases r 11)) (eqb-cases r 10)) (eqb-cases r 9)) (eqb-cases r 8)) (eqb-cases r 7)) (eqb-cases r 6)) (eqb-cases r 4)) (eqb-cases r 2)

-- what holds of the entry that each role brings
pub by-entry : (P : Entry → Type 0) (r n : ℕ) → P Nothing → (r ≡ 2 → P Series) → (r ≡ 4 → P Interval) → (r ≡ 6 → P BringsObject) → (r ≡ 7 → P BringsBusinessType)
    → (r ≡ 8 → P BringsIdentification) → (r ≡ 9 → P (Position n)) → (r ≡ 10 → P Amount) → (r ≡ 11 → P BringsDirection)
    → (r ≡ 12 → P BringsArea) → P (entry_of r n)
unfolding entry_of
by-entry P r n nothing series interval object business id position amount direction area = by (role-cases r)
  where
    by : Role r → P (entry_of r n)
    by (is-series e) = rw e (series e)
    by (is-interval e) = rw e (interval e)
    by (is-object e) = rw e (object e)
    by (is-business e) = rw e (business e)
    by (is-id e) = rw e (id e)
    by (is_pos e) = rw e (position e)
    by (is-qty e) = rw e (amount e)
    by (is-direction e) = rw e (direction e)
    by (is-area e) = rw e (area e)
    by (is-other a b c d e f g h i) = simp (a, b, c, d, e, f, g, h, i) nothing

-- ---- the role of an element tells the view that shows it

abbrev field_with : ℕ → Field
field_with r = cond (eqb r 6) Object (cond (eqb r 7) BusinessType (cond (eqb r 11) Direction (cond (eqb r 12) Area Identification)))

field-with : (f : Field) → is_view f ≡ true → field_with (role_shown f) ≡ f
field-with Identification e = refl
field-with Object e = refl
field-with BusinessType e = refl
field-with Direction e = refl
field-with Area e = refl
field-with FirstRow e = never e
field-with Count e = never e

pub role-tells : (f g : Field) → is_view f ≡ true → is_view g ≡ true → role_shown f ≡ role_shown g → f ≡ g
role-tells f g a b e = sym (field-with f a) ∙ ap field_with e ∙ field-with g b

-- whether a view shows the elements of a role
abbrev pub shown_role : ℕ → Bool
shown_role r = cond (eqb r 6) true (cond (eqb r 7) true (cond (eqb r 8) true (cond (eqb r 11) true (eqb r 12))))

role-shown : (f : Field) → is_view f ≡ true → shown_role (role_shown f) ≡ true
role-shown Identification e = refl
role-shown Object e = refl
role-shown BusinessType e = refl
role-shown Direction e = refl
role-shown Area e = refl
role-shown FirstRow e = never e
role-shown Count e = never e

pub not-shown : (r : ℕ) → shown_role r ≡ false → (f : Field) → is_view f ≡ true → eqb r (role_shown f) ≡ false
not-shown r z f e = ne_eqb r (role_shown f) (λ q. never (sym z ∙ ap shown_role q ∙ role-shown f e))
