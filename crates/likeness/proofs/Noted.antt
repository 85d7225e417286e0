-- What a tag says of its attributes, from their names and values alone: neither from where they stand, nor from the order of two of them. Assumes nothing.
use Prim.Native.Nat.{ℕ, ◌<◌}
use mathlib.Core.Path.{◌≡◌, refl, sym, ap, subst, ◌∙◌}
use mathlib.Core.List.{List, [], ◌∷◌}
use mathlib.Core.Bool.{Bool, true, false, cond}
use mathlib.Core.Logic.{⊎_elim}
use native.Mathlib.Omega.{arith}
use borrow.Author.Tests.{ne_eqb}
use Rattle.lists.proofs.Cases.{bool_cases, past-cond, never}
use Rattle.slices.specs.Part.{part_of}
use Rattle.slices.specs.Same.{same}
use Rattle.slices.specs.Text.{text}
use Rattle.slices.specs.declared.Span.{Span}
use Rattle.slices.proofs.Sames.{same_self, same-equal, same-comm}
use Rattle.tags.specs.Known.{passed_over, dtd_name, with_dtd, with_attribute}
use Rattle.tags.specs.Tail.{Attr, kept_of, named, twice}
use Rattle.tags.specs.declared.Known.{Known}
use Rattle.states.specs.Attributes.{there}
use Rattle.contents.specs.Said.{Given, TagSaid}
use Rattle.contents.specs.Spelled.{value_given, dtd_of_tag}
use Rattle.likeness.specs.Alike.{Written, SameAttributes, none, next, exchanged}
use Rattle.likeness.proofs.Written.{TellsAll, none as over, next as then}

-- ---- one more attribute

unfoldable pub known : List ℕ → Bool
known n = cond (same n (text "v")) true (cond (same n (text "codingScheme")) true (dtd_name n))

unfoldable pub noted : TagSaid → List ℕ → List ℕ → TagSaid
noted z n v =
    record {
      v = cond (same n (text "v")) (Given v) z.v;
      scheme = cond (same n (text "codingScheme")) (Given v) z.scheme;
      dtd =
          record {
            version = cond (same n (text "DtdVersion")) (Given v) z.dtd.version;
            release = cond (same n (text "DtdRelease")) (Given v) z.dtd.release;
            message = cond (same n (text "DtdBDEWNachrichtenVersion")) (Given v) z.dtd.message;
          };
      others = cond (known n) z.others true;
      passable = cond (cond (known n) true (passed_over n)) z.passable false;
    }

-- what is said by what is kept of the attributes
unfoldable pub said_kept : Known → List ℕ → TagSaid
said_kept k s = record { v = value_given k.v s; scheme = value_given k.coding s; dtd = dtd_of_tag k.dtd s; others = k.others; passable = k.passable }

-- none of the names that the guideline knows
record Unknown (n : List ℕ) : Type 0 where
  v : same n (text "v") ≡ false
  scheme : same n (text "codingScheme") ≡ false
  version : same n (text "DtdVersion") ≡ false
  release : same n (text "DtdRelease") ≡ false
  message : same n (text "DtdBDEWNachrichtenVersion") ≡ false

module _ (P : List ℕ → Type 0) where
  is-or : (n t : List ℕ) → P t → (same n t ≡ false → P n) → P n
  is-or n t p f = ⊎_elim (λ e. subst P (sym (same-equal n t e)) p) f (bool_cases (same n t))

  by_name : P (text "v") → P (text "codingScheme") → P (text "DtdVersion") → P (text "DtdRelease") → P (text "DtdBDEWNachrichtenVersion")
      → ((n : List ℕ) → Unknown n → P n) → (n : List ℕ) → P n
  by_name a b c d e f n =
      is-or n (text "v") a
      (λ p. is-or n (text "codingScheme") b
      (λ q. is-or n (text "DtdVersion") c
      (λ r. is-or n (text "DtdRelease") d
      (λ s. is-or n (text "DtdBDEWNachrichtenVersion") e (λ t. f n (record { v = p; scheme = q; version = r; release = s; message = t }))))))

module _ (k : Known) (x : Span) (s : List ℕ) (some : 0 < x.start) where
  abbrev bytes : List ℕ
  bytes = part_of s x.start x.len

  given : value_given x s ≡ Given (part_of s x.start x.len)
  unfolding value_given there
  given = rw (ne_eqb x.start 0 (λ z. omega arith))

  abbrev Notes : List ℕ → Type 0
  Notes n = said_kept (with_attribute k n x) s ≡ noted (said_kept k s) n bytes

  unknown-noted : (n : List ℕ) → Unknown n → Notes n
  unfolding said_kept noted with_attribute dtd_of_tag dtd_name known
  unknown-noted n u = rw (u.v, u.scheme, u.message, u.version, u.release)

  note-one : (n : List ℕ) → Notes n
  unfolding said_kept noted with_attribute with_dtd dtd_of_tag dtd_name known same
  note-one = by_name Notes (rw given) (rw given) (rw given) (rw given) (rw given) unknown-noted

-- ---- the attributes of a tag, from the first to the last

unfoldable pub said_from : TagSaid → List Written → TagSaid
said_from z [] = z
said_from z (a ∷ more) = said_from (noted z a.name a.value) more

pub said_read : (s : List ℕ) {xs : List Attr} {more : List Written} → TellsAll s xs more → (k : Known) → said_kept (kept_of k xs) s ≡ said_from (said_kept k s) more
unfolding kept_of said_from
said_read s over k = refl
said_read s (then {x} {a} {xs} {more} t r) k =
    said_read s r (with_attribute k x.name x.value)
    ∙ ap (λ (z : TagSaid). said_from z more)
    (note-one k x.value s t.there x.name
    ∙ ap (λ (n : List ℕ). noted (said_kept k s) n (part_of s x.value.start x.value.len)) t.name
    ∙ ap (noted (said_kept k s) a.name) t.value)

-- one of them has the name n; a name stands again after it
unfoldable pub named_in : List ℕ → List Written → Bool
named_in n [] = false
named_in n (a ∷ more) = cond (same n a.name) true (named_in n more)

unfoldable pub named_twice : List Written → Bool
named_twice [] = false
named_twice (a ∷ more) = cond (named_in a.name more) true (named_twice more)

named-read : (s n : List ℕ) {xs : List Attr} {more : List Written} → TellsAll s xs more → named n xs ≡ named_in n more
unfolding named named_in
named-read s n over = refl
named-read s n (then t r) = rw (t.name, named-read s n r)

pub twice-read : (s : List ℕ) {xs : List Attr} {more : List Written} → TellsAll s xs more → twice xs ≡ named_twice more
unfolding twice named_twice
twice-read s over = refl
twice-read s (then {a = a} t r) = rw (t.name, named-read s a.name r, twice-read s r)

-- ---- two in the other order

put_both : {A : Type 0} (t u : Bool) (x y z : A) → (t ≡ true → u ≡ true → ⊥) → cond t x (cond u y z) ≡ cond u y (cond t x z)
put_both true true x y z h = absurd (h refl refl)
put_both true false x y z h = refl
put_both false true x y z h = refl
put_both false false x y z h = refl

keep-both : {A : Type 0} (t u : Bool) (z c : A) → cond t (cond u z c) c ≡ cond u (cond t z c) c
keep-both true true z c = refl
keep-both true false z c = refl
keep-both false true z c = refl
keep-both false false z c = refl

noted-both : (z : TagSaid) (n v m w : List ℕ) → same n m ≡ false → noted (noted z n v) m w ≡ noted (noted z m w) n v
unfolding noted
noted-both z n v m w d =
    rw (
      put_both (same m (text "v")) (same n (text "v")) (Given w) (Given v) z.v (apart (text "v")),
      put_both (same m (text "codingScheme")) (same n (text "codingScheme")) (Given w) (Given v) z.scheme (apart (text "codingScheme")),
      put_both (same m (text "DtdVersion")) (same n (text "DtdVersion")) (Given w) (Given v) z.dtd.version (apart (text "DtdVersion")),
      put_both (same m (text "DtdRelease")) (same n (text "DtdRelease")) (Given w) (Given v) z.dtd.release (apart (text "DtdRelease")),
      put_both (same m (text "DtdBDEWNachrichtenVersion")) (same n (text "DtdBDEWNachrichtenVersion")) (Given w) (Given v) z.dtd.message
          (apart (text "DtdBDEWNachrichtenVersion")),
      keep-both (known m) (known n) z.others true,
      keep-both (cond (known m) true (passed_over m)) (cond (known n) true (passed_over n)) z.passable false,
    )
  where
    -- two names are not both t
    apart : (t : List ℕ) → same m t ≡ true → same n t ≡ true → ⊥
    apart t p q = never (sym d ∙ ap (same n) (same-equal m t p ∙ sym (same-equal n t q)) ∙ same_self n)

or-both : (t u z : Bool) → cond t true (cond u true z) ≡ cond u true (cond t true z)
or-both true true z = refl
or-both true false z = refl
or-both false true z = refl
or-both false false z = refl

three_ways : (s x y z : Bool) → cond (cond s true x) true (cond y true z) ≡ cond (cond s true y) true (cond x true z)
three_ways true x y z = refl
three_ways false x y z = or-both x y z

same-named : {more others : List Written} → SameAttributes more others → (n : List ℕ) → named_in n more ≡ named_in n others
unfolding named_in
same-named none n = refl
same-named (next e r) n = rw (e.name, same-named r n)
same-named (exchanged {a} {b} {c} {d} {more} {others} e f r) n =
    or-both (same n a.name) (same n b.name) (named_in n more) ∙ rw (e.name, f.name, same-named r n)

pub same-twice : {more others : List Written} → SameAttributes more others → named_twice more ≡ named_twice others
unfolding named_twice named_in
same-twice none = refl
same-twice (next {b = b} e r) = rw (e.name, same-named r b.name, same-twice r)
same-twice (exchanged {a} {b} {c} {d} {more} {others} e f r) =
    three_ways (same a.name b.name) (named_in a.name more) (named_in b.name more) (named_twice more)
    ∙ rw (same-comm a.name b.name, e.name, f.name, same-named r c.name, same-named r d.name, same-twice r)

pub same-said : {more others : List Written} → SameAttributes more others → named_twice more ≡ false → (z : TagSaid) → said_from z more ≡ said_from z others
unfolding named_twice named_in said_from
same-said none o z = refl
same-said (next {a} {b} {more} {others} e r) o z =
    let p = past-cond (named_in a.name more) (λ y. never (sym y)) o in
    rw (e.name, e.value) (same-said r p.1 (noted z b.name b.value))
same-said (exchanged {a} {b} {c} {d} {more} {others} e f r) o z =
    let p = past-cond (cond (same a.name b.name) true (named_in a.name more)) (λ y. never (sym y)) o in
    let q = past-cond (same a.name b.name) (λ y. never (sym y)) p.0 in
    let u = past-cond (named_in b.name more) (λ y. never (sym y)) p.1 in
    ap (λ (y : TagSaid). said_from y more) (noted-both z a.name a.value b.name b.value q.0)
    ∙ rw (e.name, e.value, f.name, f.value) (same-said r u.1 (noted (noted z d.name d.value) c.name c.value))
