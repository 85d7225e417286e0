-- No value but an identification may have an `&`. Assumes nothing.
use Prim.Native.Nat.{ℕ, zero, suc, ◌-◌, ◌≤◌, ◌<◌}
use mathlib.Core.Path.{◌≡◌, refl, sym, ap, ◌∙◌}
use mathlib.Core.List.{List, [], ◌∷◌, ◌++◌, map}
use mathlib.Core.Bool.{Bool, true, false, cond, ◌&&◌, not, and-eq-true_iff}
use mathlib.Core.Logic.{◌⊎◌, ⊎_elim}
use native.Mathlib.Omega.{arith}
use lib.Dec.{eqb, leb}
use lib.ListN.{get_or, length, replicate}
use borrow.Author.Tests.{eqb-true, ne_eqb}
use Rattle.lists.proofs.Cases.{bool_cases, eqb-cases, leb-cases, both_true, past-cond, zero-not-one, never}
use Rattle.slices.specs.Same.{same}
use Rattle.slices.specs.Text.{text}
use Rattle.slices.proofs.Sames.{same-equal}
use Rattle.characters.specs.References.{digit}
use Rattle.pictures.specs.Picture.{capital, capital_or_digit, party_char, first_three, takes, held, fits_of}
use Rattle.forms.specs.Forms.{identification, market_partner, resource_object, party, quarter_hour}
use Rattle.numbers.specs.Number.{number_form, at_most_nine, number_within, number_of}
use Rattle.amounts.proofs.Digits.{AllDigits}
use Rattle.amounts.proofs.Shapes.{only-split}
use Rattle.times.specs.Times.{date_time, interval}
use Rattle.std.specs.Prelude.{Option, Some, None}
use Rattle.codes.specs.Lists.{listed, lists, codes_of}
use Rattle.columns.specs.Columns.{identification_form, series_id_form, partner_form, version_form, date_time_form, period_form, interval_form, resolution_form, object_form, party_form, in_list}
use Rattle.refusals.specs.Refusals.{against_form}
use Rattle.rules.specs.Rules.{unless, is_version, form_refusal, judge_period_by, judge_period, judge_interval_by, judge_interval, judge}
use Rattle.rules.specs.declared.Held.{Held}
use Rattle.drafts.proofs.Quoted.{digit-bounds}
use Rattle.fitting.specs.Told.{has_ampersand, is_id}
use Rattle.fitting.proofs.Ampersands.{not-true}

-- ---- pictures

-- no test takes an `&`
unfoldable rejects : List (ℕ → Bool) → Bool
rejects [] = true
rejects (p ∷ ps) = not (p 0x26) && rejects ps

held_plain : (ps : List (ℕ → Bool)) (l : List ℕ) → rejects ps ≡ true → held ps l ≡ true → has_ampersand l ≡ false
unfolding rejects held has_ampersand
held_plain [] [] r h = refl
held_plain [] (c ∷ l) r h = never h
held_plain (p ∷ ps) [] r h = refl
held_plain (p ∷ ps) (c ∷ l) r h =
    let t = (and-eq-true_iff (not (p 0x26)) (rejects ps)).0 r in
    let u = both_true (p c) h in
    ⊎_elim
    (λ (y : (c ≡ 0x26) × (eqb c 0x26 ≡ true)). let z : p 0x26 ≡ true = ap p (sym y.0) ∙ u.0 in never (rw z at t.0))
    (λ (y : (c ≡ 0x26 → ⊥) × (eqb c 0x26 ≡ false)). rw y.1 (held_plain ps l t.1 u.1))
    (eqb-cases c 0x26)

module _ (l : List ℕ) where
  partner-plain : market_partner l ≡ true → has_ampersand l ≡ false
  unfolding market_partner rejects digit
  partner-plain h = held_plain (replicate 13 digit) l refl h

  object-plain : resource_object l ≡ true → has_ampersand l ≡ false
  unfolding resource_object rejects digit capital capital_or_digit first_three
  object-plain h = held_plain (first_three ∷ replicate 9 capital_or_digit ++ digit ∷ []) l refl h

  party-plain : party l ≡ true → has_ampersand l ≡ false
  unfolding party rejects digit capital capital_or_digit party_char
  party-plain h = held_plain (replicate 16 party_char) l refl h

  time-plain : date_time l ≡ true → has_ampersand l ≡ false
  unfolding date_time fits_of rejects takes digit
  time-plain h = held_plain (map takes (text "9999-99-99T99:99:99Z")) l refl ((and-eq-true_iff (held (map takes (text "9999-99-99T99:99:99Z")) l) _).0 h).0

  interval-plain : (from to : ℕ) → interval l ≡ Some (from, to) → has_ampersand l ≡ false
  unfolding interval fits_of rejects takes digit
  interval-plain from to h =
      ⊎_elim
      (λ (y : held (map takes (text "9999-99-99T99:99Z/9999-99-99T99:99Z")) l ≡ true). held_plain (map takes (text "9999-99-99T99:99Z/9999-99-99T99:99Z")) l refl y)
      (λ (y : held (map takes (text "9999-99-99T99:99Z/9999-99-99T99:99Z")) l ≡ false). let z = rw y at h in absurd (zero-not-one (cc)))
      (bool_cases (held (map takes (text "9999-99-99T99:99Z/9999-99-99T99:99Z")) l))

  resolution-plain : quarter_hour l ≡ true → has_ampersand l ≡ false
  unfolding quarter_hour has_ampersand
  resolution-plain h = ap has_ampersand (sym (same-equal (text "PT15M") l h))

-- ---- numbers

digits-plain : (l : List ℕ) → AllDigits l → has_ampersand l ≡ false
unfolding AllDigits has_ampersand
digits-plain [] h = refl
digits-plain (c ∷ l) h =
    let b = digit-bounds c h.0 in let low = b.0 in rw (ne_eqb c 0x26 (λ z. omega (arith, z, low))) (digits-plain l h.1)

version-plain : (l : List ℕ) → is_version l ≡ true → has_ampersand l ≡ false
unfolding is_version number_of at_most_nine number_within number_form
version-plain l h =
    ⊎_elim
    (λ (y : number_form 3 l ≡ true). let z = past-cond (eqb (get_or l 0 0) 0x30) (λ w. never w) y in digits-plain l (only-split 3 l z.1).0)
    (λ (y : number_form 3 l ≡ false). never (rw y at h))
    (bool_cases (number_form 3 l))

-- ---- code lists

unfoldable codes_plain : List (List ℕ) → Bool
codes_plain [] = true
codes_plain (c ∷ cs) = not (has_ampersand c) && codes_plain cs

listed_plain : (cs : List (List ℕ)) (l : List ℕ) → codes_plain cs ≡ true → listed cs l ≡ true → has_ampersand l ≡ false
unfolding codes_plain listed
listed_plain [] l r h = never h
listed_plain (c ∷ cs) l r h =
    let t = (and-eq-true_iff (not (has_ampersand c)) (codes_plain cs)).0 r in
    ⊎_elim
    (λ (y : same c l ≡ true). ap has_ampersand (sym (same-equal c l y)) ∙ not-true (has_ampersand c) t.0)
    (λ (y : same c l ≡ false). listed_plain cs l t.1 (rw y at h))
    (bool_cases (same c l))

unfoldable lists_plain : List (List (List ℕ)) → Bool
lists_plain [] = true
lists_plain (x ∷ xs) = codes_plain x && lists_plain xs

lists_at : (xs : List (List (List ℕ))) (k : ℕ) → lists_plain xs ≡ true → codes_plain (get_or xs k []) ≡ true
unfolding lists_plain codes_plain
lists_at [] zero h = refl
lists_at [] (suc k) h = refl
lists_at (x ∷ xs) zero h = ((and-eq-true_iff (codes_plain x) (lists_plain xs)).0 h).0
lists_at (x ∷ xs) (suc k) h = lists_at xs k ((and-eq-true_iff (codes_plain x) (lists_plain xs)).0 h).1

-- no code has one
pub code-plain : (k : ℕ) (l : List ℕ) → listed (codes_of k) l ≡ true → has_ampersand l ≡ false
unfolding codes_of lists lists_plain codes_plain has_ampersand
code-plain k l h = listed_plain (codes_of k) l (lists_at lists k refl) h

-- ---- forms

-- the forms of the values of a draft, but for identifications
unfoldable pub plain_form : ℕ → Bool
plain_form f =
    cond (eqb f period_form) true
    (cond (eqb f interval_form) true
    (cond (eqb f resolution_form) true
    (cond (eqb f partner_form) true
    (cond (eqb f version_form) true
    (cond (eqb f date_time_form) true
    (cond (eqb f object_form) true
    (cond (eqb f party_form) true (leb in_list f))))))))

fits-unless : (n : ℕ) (b : Bool) → unless (suc n) b ≡ 0 → b ≡ true
unfolding unless
fits-unless n true e = refl
fits-unless n false e = absurd (omega (arith, e))

module _ (h : Held) (cs : List ℕ) where
  -- where TimePeriodCovered fits, it is an interval
  pub period-minutes : (judge period_form h cs).number ≡ 0 → (interval cs ≡ None → ⊥)
  unfolding judge judge_period judge_period_by
  period-minutes e g = let z : against_form ≡ 0 = rw g at e in omega (arith, z)

  period-plain : (judge period_form h cs).number ≡ 0 → has_ampersand cs ≡ false
  period-plain e = by (interval cs) refl
    where
      by : (x : Option (ℕ × ℕ)) → interval cs ≡ x → has_ampersand cs ≡ false
      by (Some (a, b)) g = interval-plain cs a b g
      by None g = absurd (period-minutes e g)

  inner-plain : (judge interval_form h cs).number ≡ 0 → has_ampersand cs ≡ false
  unfolding judge judge_interval judge_interval_by
  inner-plain e = by (interval cs) refl
    where
      by : (x : Option (ℕ × ℕ)) → interval cs ≡ x → has_ampersand cs ≡ false
      by (Some (a, b)) g = interval-plain cs a b g
      by None g = absurd (let z : against_form ≡ 0 = rw g at e in omega (arith, z))

  small_plain : (f : ℕ) → f < in_list → plain_form f ≡ true → (judge f h cs).number ≡ 0 → has_ampersand cs ≡ false
  unfolding judge form_refusal plain_form
  small_plain f l p e =
      pick period_form (λ y. period-plain (rw y at e))
      (λ n6. pick interval_form (λ y. inner-plain (rw y at e))
      (λ n7. pick resolution_form (λ y. resolution-plain cs (fits-unless 7 (quarter_hour cs) (rw y at e)))
      (λ n8. pick partner_form (λ y. partner-plain cs (fits-unless 5 (market_partner cs) (rw y at e)))
      (λ n3. pick version_form (λ y. version-plain cs (fits-unless 5 (is_version cs) (rw y at e)))
      (λ n4. pick date_time_form (λ y. time-plain cs (fits-unless 5 (date_time cs) (rw y at e)))
      (λ n5. pick object_form (λ y. object-plain cs (fits-unless 5 (resource_object cs) (rw y at e)))
      (λ n11. pick party_form (λ y. party-plain cs (fits-unless 5 (party cs) (rw y at e)))
      (λ n12. never (sym below ∙ rw (n6, n7, n8, n3, n4, n5, n11, n12) at p))
      )))))))
    where
      below : leb in_list f ≡ false
      below = ⊎_elim (λ (y : (in_list ≤ f) × (leb in_list f ≡ true)). absurd (let m = y.0 in omega (arith, l, m))) (λ y. y.1) (leb-cases in_list f)

      pick : (k : ℕ) → (f ≡ k → has_ampersand cs ≡ false) → (eqb f k ≡ false → has_ampersand cs ≡ false) → has_ampersand cs ≡ false
      pick k g n = ⊎_elim (λ y. g y.0) (λ y. n y.1) (eqb-cases f k)

  list-plain : (f : ℕ) → in_list ≤ f → (judge f h cs).number ≡ 0 → has_ampersand cs ≡ false
  unfolding judge form_refusal
  list-plain f l e =
      code-plain (f - in_list) cs
      (fits-unless 6 (listed (codes_of (f - in_list)) cs)
      (rw (
        other 6 (omega arith),
        other 7 (omega arith),
        other 8 (omega arith),
        other 9 (omega arith),
        other 1 (omega arith),
        other 2 (omega arith),
        other 3 (omega arith),
        other 4 (omega arith),
        other 5 (omega arith),
        other 10 (omega arith),
        other 11 (omega arith),
        other 12 (omega arith),
        other 13 (omega arith),
        is,
      ) at e))
    where
      other : (k : ℕ) → k < in_list → eqb f k ≡ false
      other k m = ne_eqb f k (λ z. omega (arith, z, l, m))

      is : leb in_list f ≡ true
      is = ⊎_elim (λ (y : (in_list ≤ f) × (leb in_list f ≡ true)). y.1) (λ (y : (f < in_list) × (leb in_list f ≡ false)). absurd (let m = y.0 in omega (arith, l, m))) (leb-cases in_list f)

  pub form-plain : (f : ℕ) → plain_form f ≡ true → (judge f h cs).number ≡ 0 → has_ampersand cs ≡ false
  form-plain f p e =
      ⊎_elim (λ (y : (in_list ≤ f) × (leb in_list f ≡ true)). list-plain f y.0 e) (λ (y : (f < in_list) × (leb in_list f ≡ false)). small_plain f y.0 p e) (leb-cases in_list f)

  -- an identification is judged by its length alone
  by_length : eqb (unless against_form (leb (length cs) 35)) 0 ≡ leb (length cs) 35
  unfolding unless
  by_length = ⊎_elim (λ y. rw y refl) (λ y. rw y refl) (bool_cases (leb (length cs) 35))

  pub id-judged : (f : ℕ) → is_id f ≡ true → eqb (judge f h cs).number 0 ≡ leb (length cs) 35
  unfolding is_id judge form_refusal identification
  id-judged f i =
      ⊎_elim
      (λ (y : (f ≡ identification_form) × (eqb f identification_form ≡ true)). rw y.0 by_length)
      (λ (y : (f ≡ identification_form → ⊥) × (eqb f identification_form ≡ false)). rw (eqb-true f series_id_form (rw y.1 at i)) by_length)
      (eqb-cases f identification_form)
