-- A value of a draft is told fit where it is judged fit. Assumes nothing.
use Prim.Native.Nat.{ℕ, ◌+◌, ◌-◌}
use mathlib.Core.Path.{◌≡◌, refl, sym, ap, ◌∙◌}
use mathlib.Core.List.{List}
use mathlib.Core.Bool.{Bool, true, false, cond, ◌&&◌, not}
use mathlib.Core.Logic.{⊎_elim}
use native.Mathlib.Omega.{arith}
use lib.Dec.{eqb, leb, ltb}
use lib.ListN.{length, get_or}
use borrow.Author.Tests.{eqb-true, eqb-false, le-ltb}
use Rattle.lists.proofs.Cases.{bool_cases, both_true, past-cond, never}
use Rattle.characters.specs.Says.{all_chars, says}
use Rattle.trims.specs.Trim.{dropped}
use Rattle.codes.specs.Lists.{listed, codes_of}
use Rattle.structure.specs.Rows.{required}
use Rattle.columns.specs.Columns.{form_of, collapsed, scheme_of, role_of, no_form, pos_form, no_scheme, by_list, root_role}
use Rattle.guideline.specs.Kinds.{no_demands}
use Rattle.states.specs.Attributes.{agree, asks_v, asks_scheme, demands_at, meets, no_others}
use Rattle.rules.specs.Rules.{judge}
use Rattle.rules.specs.declared.Held.{Held}
use Rattle.views.specs.Layout.{values_of, cell_of}
use Rattle.views.specs.Shown.{pair_view}
use Rattle.contents.specs.Said.{TagSaid, given, bytes}
use Rattle.contents.specs.Legal.{Period, quarters_of, sayings, dtd_agrees, attributes_agree, scheme_fits, value_fits, element_fits}
use Rattle.escapes.specs.Escaped.{escaped}
use Rattle.escapes.specs.Spelled.{chars_of}
use Rattle.escapes.proofs.Promises.{says-escaped}
use Rattle.drafts.specs.Draft.{Draft, is_no_pair, pair_value, no_dtd_said, single_tag, is_said, pair_fits}
use Rattle.drafts.specs.Pairs.{has_pair, pairs_of}
use Rattle.fitting.specs.Told.{has_ampersand, said_of, is_id, text_fits, scheme_told, single_told}
use Rattle.fitting.proofs.Ampersands.{true-false, not-true, plain-escaped, none-back, none_dropped}
use Rattle.fitting.proofs.Forms.{plain_form, code-plain, form-plain, id-judged}

-- ---- rows

-- of a single value: not the root, not Pos; of an identification nothing is dropped; any other value has a form that takes no `&`
unfoldable pub is_fine : ℕ → Bool
is_fine w =
    cond (eqb (role_of w) root_role) false
    (cond (eqb (form_of w) pos_form) false
    (cond (eqb (values_of w) (pairs_of w)) (cond (is_id (form_of w)) (not (collapsed w)) (plain_form (form_of w))) false))

pub record Fine (w : ℕ) : Type 0 where
  pub root : eqb (role_of w) root_role ≡ false
  pub position : eqb (form_of w) pos_form ≡ false
  pub pairs : values_of w ≡ pairs_of w
  pub id : is_id (form_of w) ≡ true → collapsed w ≡ false
  pub plain : is_id (form_of w) ≡ false → plain_form (form_of w) ≡ true

pub fine : (w : ℕ) → is_fine w ≡ true → Fine w
unfolding is_fine
fine w h =
    let a = past-cond (eqb (role_of w) root_role) (λ z. never z) h in
    let b = past-cond (eqb (form_of w) pos_form) (λ z. never z) a.1 in
    let c = both_true (eqb (values_of w) (pairs_of w)) b.1 in
    record {
      root = a.0;
      position = b.0;
      pairs = eqb-true (values_of w) (pairs_of w) c.0;
      id = λ i. not-true (collapsed w) (rw i at c.1);
      plain = λ i. rw i at c.1;
    }

-- ---- `v` and codingScheme

kept-plain : (c : Bool) (l : List ℕ) → has_ampersand (cond c (dropped l) l) ≡ false → has_ampersand l ≡ false
kept-plain true l h = none_dropped l h
kept-plain false l h = h

module _ (v : List ℕ) (legal : all_chars v ≡ true) where
  -- a value with an `&` fits no form
  unfit : (f : ℕ) → plain_form f ≡ true → has_ampersand v ≡ true → (c : Bool) (h : Held) → eqb (judge f h (cond c (dropped (chars_of v)) (chars_of v))).number 0 ≡ false
  unfit f p a c h =
      ⊎_elim
      (λ y.
      let n = form-plain h (cond c (dropped (chars_of v)) (chars_of v)) f p (eqb-true (judge f h (cond c (dropped (chars_of v)) (chars_of v))).number 0 y) in
      true-false (sym a ∙ none-back v legal (kept-plain c (chars_of v) n)))
      (λ y. y)
      (bool_cases (eqb (judge f h (cond c (dropped (chars_of v)) (chars_of v))).number 0))

  -- nor a code list
  unlisted : (k : ℕ) → has_ampersand v ≡ true → listed (codes_of k) (dropped (chars_of v)) ≡ false
  unlisted k a =
      ⊎_elim
      (λ y. true-false (sym a ∙ none-back v legal (none_dropped (chars_of v) (code-plain k (dropped (chars_of v)) y))))
      (λ y. y)
      (bool_cases (listed (codes_of k) (dropped (chars_of v))))

  module _ (w : ℕ) (s : TagSaid) where
    pub text-told : (kind : ℕ) (p : Period) → Fine w → bytes s.v ≡ escaped v → text_fits kind p.start p.end w v ≡ value_fits kind p w s
    unfolding text_fits value_fits sayings said_of quarters_of
    text-told kind p f e = by (is_id (form_of w)) (has_ampersand v) refl refl
      where
        chars : says (bytes s.v) ≡ chars_of v
        chars = ap says e ∙ says-escaped v legal

        by : (i a : Bool) → is_id (form_of w) ≡ i → has_ampersand v ≡ a → text_fits kind p.start p.end w v ≡ value_fits kind p w s
        by true a x y = rw (x, f.position, f.id x, chars) (sym (id-judged _ (chars_of v) (form_of w) x))
        by false true x y = rw (x, y, f.position, chars) (sym (unfit (form_of w) (f.plain x) y (collapsed w) _))
        by false false x y = let plain : says (bytes s.v) ≡ says v = ap says e ∙ plain-escaped v legal y in rw (x, y, f.position, plain) refl

    pub scheme-told : asks_scheme w ≡ true → bytes s.scheme ≡ escaped v → scheme_told w v ≡ scheme_fits w s
    unfolding scheme_told scheme_fits asks_scheme
    scheme-told asks e = by (has_ampersand v) refl
      where
        some : eqb (scheme_of w) no_scheme ≡ false
        some = (past-cond (eqb (scheme_of w) no_scheme) (λ z. never z) asks).0

        above : ltb (scheme_of w) by_list ≡ false
        above = let n = eqb-false (scheme_of w) no_scheme some in le-ltb (scheme_of w) by_list (omega (arith, n))

        chars : says (bytes s.scheme) ≡ chars_of v
        chars = ap says e ∙ says-escaped v legal

        by : (a : Bool) → has_ampersand v ≡ a → scheme_told w v ≡ scheme_fits w s
        by true y = rw (y, some, chars) (sym (unlisted (scheme_of w - by_list) y))
        by false y = let plain : says (bytes s.scheme) ≡ says v = ap says e ∙ plain-escaped v legal y in rw (y, some, above, plain) refl

no-scheme : (w : ℕ) (s : TagSaid) → asks_scheme w ≡ false → scheme_fits w s ≡ true
unfolding asks_scheme scheme_fits
no-scheme w s h = ⊎_elim (λ y. rw y refl) (λ y. true-false (rw y at h)) (bool_cases (eqb (scheme_of w) no_scheme))

some-form : (w : ℕ) → asks_v w ≡ true → eqb (form_of w) no_form ≡ false
unfolding asks_v
some-form w h = (past-cond (eqb (form_of w) no_form) (λ z. never z) h).0

-- ---- an element

free : (b : Bool) → cond b false true ≡ not b
free true = refl
free false = refl

refused : (b : Bool) → cond b false false ≡ false
refused true = refl
refused false = refl

pub both-same : {a b c d : Bool} → a ≡ c → b ≡ d → (a && b) ≡ (c && d)
both-same {a} {b} {c} {d} x y = ap (λ (z : Bool). z && b) x ∙ ap (λ (z : Bool). c && z) y

pub pair-legal : (d : Draft) (k : ℕ) → pair_fits d k ≡ true → all_chars (pair_view d.text d.pairs k) ≡ true
unfolding pair_fits
pair-legal d k h = (both_true (leb (get_or d.pairs (cell_of k) 0 + get_or d.pairs (cell_of k + 1) 0) (length d.text)) h).1

-- as `singles_fit` judges it
unfoldable pub one_fits : Draft → Period → ℕ → ℕ → Bool
one_fits d p w k = cond (is_said (single_tag d w k)) (element_fits d.kind p w (single_tag d w k)) (not (required w))

module _ (d : Draft) (p : Period) (w k : ℕ) (f : Fine w) (asks : asks_v w ≡ true) (fits : pair_fits d k ≡ true) (also : asks_scheme w ≡ true → pair_fits d (k + 1) ≡ true) where
  pub single-told : single_told d.kind p.start p.end d.text d.pairs w k ≡ one_fits d p w k
  unfolding single_told one_fits has_pair pair_value single_tag is_said given bytes element_fits attributes_agree agree dtd_agrees demands_at meets no_others no_demands no_dtd_said
  single-told = by (is_no_pair (get_or d.pairs (cell_of k) 0) (get_or d.pairs (cell_of k + 1) 0)) (asks_scheme w) (is_no_pair (get_or d.pairs (cell_of (k + 1)) 0) (get_or d.pairs (cell_of (k + 1) + 1) 0)) refl refl refl
    where
      by : (n a m : Bool) → is_no_pair (get_or d.pairs (cell_of k) 0) (get_or d.pairs (cell_of k + 1) 0) ≡ n → asks_scheme w ≡ a
          → is_no_pair (get_or d.pairs (cell_of (k + 1)) 0) (get_or d.pairs (cell_of (k + 1) + 1) 0) ≡ m
          → single_told d.kind p.start p.end d.text d.pairs w k ≡ one_fits d p w k
      by true true true x y z = rw (x, y, z) (free (required w))
      by true true false x y z = rw (x, y, z, asks) (refused (required w))
      by true false m x y z = rw (x, y) (free (required w))
      by false true true x y z = rw (x, y, z, asks) refl
      by false true false x y z =
          rw (x, y, z, asks, f.root, some-form w asks)
          (both-same (scheme-told (pair_view d.text d.pairs (k + 1)) (pair-legal d (k + 1) (also y)) w _ y refl)
          (text-told (pair_view d.text d.pairs k) (pair-legal d k fits) w _ d.kind p f refl))
      by false false m x y z =
          rw (x, y, asks, f.root, some-form w asks, no-scheme w _ y)
          (text-told (pair_view d.text d.pairs k) (pair-legal d k fits) w _ d.kind p f refl)
