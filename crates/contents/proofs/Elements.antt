-- Laws of the elements of a content: elements side by side, what all their rows have, and the lists of those whose row passes a test.
-- Assumes nothing.
use Prim.Native.Nat.{ℕ, ◌+◌}
use mathlib.Core.Path.{◌≡◌, refl, sym, ap, ◌∙◌}
use mathlib.Core.List.{List, [], ◌∷◌, ◌++◌, map, append-nil, append_assoc, map-append}
use mathlib.Core.Bool.{Bool, true, false, cond}
use native.Mathlib.Omega.{arith}
use lib.Dec.{eqb}
use lib.ListN.{length, get_or, length-append}
use borrow.Author.Tests.{ne_eqb}
use Rattle.columns.specs.Columns.{role_of}
use Rattle.trees.specs.Trees.{Trees, none, element}
use Rattle.contents.specs.Legal.{has_role, those, in_each, Each}

-- all their rows have this, at any depth
unfoldable pub Within : {A : Type 0} → (ℕ → Type 0) → Trees A → Type 0
Within R none = Unit {0}
Within R (element q s inner after) = R q × Within R inner × Within R after

pub within_more : {A : Type 0} {R S : ℕ → Type 0} → ((q : ℕ) → R q → S q) → (c : Trees A) → Within R c → Within S c
unfolding Within
within_more f none h = tt
within_more f (element q s inner after) h = (f q h.0, within_more f inner h.1, within_more f after h.2)

pub always : {A : Type 0} (c : Trees A) → Within (λ q. Unit {0}) c
unfolding Within
always none = tt
always (element q s inner after) = (tt, always inner, always after)

-- elements side by side, and then others
unfoldable pub beside : {A : Type 0} → Trees A → Trees A → Trees A
beside none d = d
beside (element q s inner after) d = element q s inner (beside after d)

pub within-beside : {A : Type 0} (R : ℕ → Type 0) (c d : Trees A) → Within R c → Within R d → Within R (beside c d)
unfolding Within beside
within-beside R none d a b = b
within-beside R (element q s inner after) d a b = (a.0, a.1, within-beside R after d a.2 b)

-- the part of an element itself in such a list
abbrev pub own : {A : Type 0} → Bool → A → List A
own t a = cond t (a ∷ []) []

own_first : {A : Type 0} (t : Bool) (a : A) (l : List A) → cond t (a ∷ l) l ≡ own t a ++ l
own_first true a l = refl
own_first false a l = refl

own-length : {A : Type 0} (t : Bool) (a : A) → length (own t a) ≡ cond t 1 0
own-length true a = refl
own-length false a = refl

-- a list of three parts before another
three-before : {A : Type 0} (a b c d : List A) → a ++ (b ++ (c ++ d)) ≡ (a ++ (b ++ c)) ++ d
three-before a b c d = sym (append_assoc a (b ++ c) d ∙ ap (λ l. a ++ l) (append_assoc b c d))

-- one for a row of this role
abbrev pub unit : ℕ → ℕ → ℕ
unit n w = cond (eqb (role_of w) n) 1 0

module _ (rows : List ℕ) where
  abbrev at : ℕ → ℕ
  at q = get_or rows q 0

  module _ {A : Type 0} (test : ℕ → Bool) where
    -- an element's own part, then those in it, then those after it
    pub those-parts : (q : ℕ) (s : A) (inner after : Trees A)
        → those test rows (element q s inner after) ≡ own (test (at q)) s ++ (those test rows inner ++ those test rows after)
    unfolding those
    those-parts q s inner after = own_first (test (at q)) s (those test rows inner ++ those test rows after)

    pub those-of : (q : ℕ) (s : A) (inner after : Trees A) {t : Bool} {l : List A} → test (at q) ≡ t → those test rows inner ≡ l
        → those test rows (element q s inner after) ≡ own t s ++ (l ++ those test rows after)
    those-of q s inner after {t} e f =
        those-parts q s inner after ∙ ap (λ b. own b s ++ (those test rows inner ++ those test rows after)) e
        ∙ ap (λ l. own t s ++ (l ++ those test rows after)) f

    pub those-beside : (c d : Trees A) → those test rows (beside c d) ≡ those test rows c ++ those test rows d
    unfolding those beside
    those-beside none d = refl
    those-beside (element q s inner after) d =
        those-parts q s inner (beside after d)
        ∙ ap (λ l. own (test (at q)) s ++ (those test rows inner ++ l)) (those-beside after d)
        ∙ three-before (own (test (at q)) s) (those test rows inner) (those test rows after) (those test rows d)
        ∙ ap (λ l. l ++ those test rows d) (sym (those-parts q s inner after))

    -- an element that does not pass the test itself, with nothing after it
    pub last-those : (q : ℕ) (s : A) (inner : Trees A) → test (at q) ≡ false → those test rows (element q s inner none) ≡ those test rows inner
    unfolding those
    last-those q s inner e = rw e (append-nil (those test rows inner))

    -- none of them passes the test
    pub none-there : (c : Trees A) → Within (λ q. test (at q) ≡ false) c → those test rows c ≡ []
    unfolding those Within
    none-there none h = refl
    none-there (element q s inner after) h = those-of q s inner after h.0 (none-there inner h.1) ∙ none-there after h.2

  pub no-role : {A : Type 0} (n : ℕ) (c : Trees A) → Within (λ q. role_of (at q) ≡ n → ⊥) c → those (has_role n) rows c ≡ []
  no-role n c h = none-there (has_role n) c (within_more (λ q f. ne_eqb (role_of (at q)) n f) c h)

  pub mapped-parts : {A B : Type 0} (f : A → B) (test : ℕ → Bool) (q : ℕ) (s : A) (inner after : Trees A)
      → map f (those test rows (element q s inner after)) ≡ map f (own (test (at q)) s) ++ (map f (those test rows inner) ++ map f (those test rows after))
  mapped-parts f test q s inner after =
      let a = own (test (at q)) s in
      let b = those test rows inner in
      let c = those test rows after in
      rw (those-parts test q s inner after, map-append f a (b ++ c), map-append f b c)

  pub length-element : {A : Type 0} (n q : ℕ) (s : A) (inner after : Trees A)
      → length (those (has_role n) rows (element q s inner after))
      ≡ unit n (at q) + length (those (has_role n) rows inner) + length (those (has_role n) rows after)
  length-element n q s inner after =
      let b = those (has_role n) rows inner in
      let c = those (has_role n) rows after in
      let l = length-append (own (has_role n (at q)) s) (b ++ c) in
      let m = length-append b c in
      let o = own-length (has_role n (at q)) s in
      ap length (those-parts (has_role n) q s inner after) ∙ omega (arith, l, m, o)

  -- ---- what stands in each of those

  -- each element labelled by what stands in it: so the laws above tell of `in_each` as well
  unfoldable innards : {A : Type 0} → Trees A → Trees (Trees A)
  innards none = none
  innards (element q s inner after) = element q inner (innards inner) (innards after)

  module _ {A : Type 0} (test : ℕ → Bool) where
    in-each : (c : Trees A) → in_each test rows c ≡ those test rows (innards c)
    unfolding in_each those innards
    in-each none = refl
    in-each (element q s inner after) = rw (in-each inner, in-each after) refl

    pub in-of : (q : ℕ) (s : A) (inner after : Trees A) {t : Bool} {l : List (Trees A)} → test (at q) ≡ t → in_each test rows inner ≡ l
        → in_each test rows (element q s inner after) ≡ own t inner ++ (l ++ in_each test rows after)
    unfolding innards
    in-of q s inner after {t} {l} e f =
        in-each (element q s inner after) ∙ those-of test q inner (innards inner) (innards after) e (sym (in-each inner) ∙ f)
        ∙ ap (λ m. own t inner ++ (l ++ m)) (sym (in-each after))

    pub in-beside : (c d : Trees A) → in_each test rows (beside c d) ≡ in_each test rows c ++ in_each test rows d
    unfolding innards beside
    in-beside c d =
        in-each (beside c d) ∙ ap (those test rows) (apart c d) ∙ those-beside test (innards c) (innards d)
        ∙ ap (λ l. l ++ those test rows (innards d)) (sym (in-each c)) ∙ ap (λ l. in_each test rows c ++ l) (sym (in-each d))
      where
        apart : (c d : Trees A) → innards (beside c d) ≡ beside (innards c) (innards d)
        apart none d = refl
        apart (element q s inner after) d = ap (λ l. element q inner (innards inner) l) (apart after d)

    pub last-in : (q : ℕ) (s : A) (inner : Trees A) → test (at q) ≡ false → in_each test rows (element q s inner none) ≡ in_each test rows inner
    unfolding innards
    last-in q s inner e = in-each (element q s inner none) ∙ last-those test q inner (innards inner) e ∙ sym (in-each inner)

    pub none_in : (c : Trees A) → Within (λ q. test (at q) ≡ false) c → in_each test rows c ≡ []
    unfolding innards Within
    none_in c h = in-each c ∙ none-there test (innards c) (also c h)
      where
        also : (c : Trees A) → Within (λ q. test (at q) ≡ false) c → Within (λ q. test (at q) ≡ false) (innards c)
        also none h = tt
        also (element q s inner after) h = (h.0, also inner h.1, also after h.2)

  -- ---- what each of them passes

  pub each-beside : {A : Type 0} (test : ℕ → A → Bool) (c d : Trees A) → Each test rows c → Each test rows d → Each test rows (beside c d)
  unfolding Each beside
  each-beside test none d a b = b
  each-beside test (element q s inner after) d a b = (a.0, a.1, each-beside test after d a.2 b)

  pub each-parts : {A : Type 0} (test : ℕ → A → Bool) (c d : Trees A) → Each test rows (beside c d) → Each test rows c × Each test rows d
  unfolding Each beside
  each-parts test none d a = (tt, a)
  each-parts test (element q s inner after) d a =
      let h = each-parts test after d a.2 in
      ((a.0, a.1, h.0), h.1)
