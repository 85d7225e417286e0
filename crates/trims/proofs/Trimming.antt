-- Spaces dropped from the bytes of a value, unit by unit: the loops that count them, and that what is left says what the value says, with the spaces
-- dropped. Assumes nothing.
use Prim.Native.Nat.{ℕ, zero, suc, pred, ◌+◌, ◌-◌, ◌≤◌, ◌<◌}
use mathlib.Core.Path.{◌≡◌, refl, sym, ap, ◌∙◌}
use mathlib.Core.List.{List, [], ◌∷◌}
use mathlib.Core.Bool.{true, false, cond, not}
use mathlib.Core.Logic.{◌⊎◌, inl, inr, ⊎_elim}
use native.Mathlib.Omega.{arith}
use native.Mathlib.Nat.{le_refl}
use lib.Dec.{eqb}
use lib.ListN.{length, take, drop, drop_of_length-le, length-drop, length-take}
use lib.Seq.{drop-drop, take_all, length-take-le}
use borrow.Author.Tests.{eq-eqb, ne_eqb, eqb-false}
use Rattle.std.specs.Prelude.{Option, Some, None}
use Rattle.lists.proofs.Cases.{bool_cases, eqb-cases, ltb-cases, past-cond, both_true, never}
use Rattle.slices.specs.Bytes.{byte}
use Rattle.slices.proofs.Bytes.{byte-drop}
use Rattle.characters.specs.Says.{said_at, says}
use Rattle.characters.proofs.Low.{char-low}
use Rattle.characters.proofs.Units.{Unit', stands, refers, unit-is, reference-shut}
use Rattle.characters.proofs.Saying.{says-char, says_none, said-not-over, Uttered, unit, stray, uttered, said-some-bytes, said-inside, said-cut}
use Rattle.trims.specs.Trim.{space, drop_lead, kept_before, drop_trail, dropped, lead_after, lead_of, kept_from, kept_after, kept_bytes, cut_trail, trimmed_of}
use Rattle.trims.specs.Short.{bare, bare_at_ends}

-- ---- one unit

is-space : (c : ℕ) → c ≡ 0x20 → space c ≡ true
unfolding space
is-space c e = eq-eqb c 0x20 e

no-space : (c : ℕ) → (c ≡ 0x20 → ⊥) → space c ≡ false
unfolding space
no-space c u = ne_eqb c 0x20 u

lead-skip : (k : ℕ) (v : List ℕ) → lead_after k v ≡ lead_after 0 (drop k v)
unfolding lead_after
lead-skip zero v = refl
lead-skip (suc k) [] = refl
lead-skip (suc k) (b ∷ t) = lead-skip k t

kept-skip : (k : ℕ) (v : List ℕ) → kept_after k v ≡ kept_after 0 (drop k v)
unfolding kept_after
kept-skip zero v = refl
kept-skip (suc k) [] = refl
kept-skip (suc k) (b ∷ t) = kept-skip k t

pub lead-step : (v : List ℕ) {c n : ℕ} → 0 < length v → said_at v ≡ Some (c, n) → 1 ≤ n → lead_of v ≡ cond (space c) (n + lead_of (drop n v)) 0
unfolding lead_of lead_after
lead-step [] p q m = absurd (omega arith)
lead-step (b ∷ t) {c} {n} p q m = by n q m
  where
    by : (n : ℕ) → said_at (b ∷ t) ≡ Some (c, n) → 1 ≤ n → lead_after 0 (b ∷ t) ≡ cond (space c) (n + lead_after 0 (drop n (b ∷ t))) 0
    by zero q m = absurd (omega arith)
    by (suc n) q m = rw (lead_after, q) (ap (λ (k : ℕ). cond (space c) (suc n + k) 0) (lead-skip n t))

pub kept_step : (v : List ℕ) {c n : ℕ} → 0 < length v → said_at v ≡ Some (c, n) → 1 ≤ n → kept_bytes v ≡ kept_from c n (kept_bytes (drop n v))
unfolding kept_bytes kept_after
kept_step [] p q m = absurd (omega arith)
kept_step (b ∷ t) {c} {n} p q m = by n q m
  where
    by : (n : ℕ) → said_at (b ∷ t) ≡ Some (c, n) → 1 ≤ n → kept_after 0 (b ∷ t) ≡ kept_from c n (kept_after 0 (drop n (b ∷ t)))
    by zero q m = absurd (omega arith)
    by (suc n) q m = rw (kept_after, q) (ap (kept_from c (suc n)) (kept-skip n t))

lead-none : lead_of [] ≡ 0
unfolding lead_of lead_after
lead-none = refl

kept-none : kept_bytes [] ≡ 0
unfolding kept_bytes kept_after
kept-none = refl

-- what is known of the unit at the front of a value
record First (v : List ℕ) : Type 0 where
  c : ℕ
  n : ℕ
  is : said_at v ≡ Some (c, n)
  some : 1 ≤ n
  inside : n ≤ length v
  says : says v ≡ c ∷ says (drop n v)

first : (v : List ℕ) → 0 < length v → First v
first v p = by (said_at v) refl
  where
    by : (x : Option (ℕ × ℕ)) → said_at v ≡ x → First v
    by None q = absurd (said-not-over v p q)
    by (Some (c, n)) q =
        let m = said-some-bytes v p q in
        record { c = c; n = n; is = q; some = m; inside = said-inside v p q; says = says-char v c n p q m }

-- by its units: of a value what follows of all that is behind its first unit
by_units : (P : List ℕ → Type 0) → P [] → ((v : List ℕ) (f : First v) → 0 < length v → P (drop f.n v) → P v) → (v : List ℕ) → P v
by_units P base step v = all (length v) v (le_refl _)
  where
    here : (k : ℕ) → ((w : List ℕ) → length w ≤ k → P w) → (v : List ℕ) → length v ≤ suc k → P v
    here k ih [] l = base
    here k ih (b ∷ t) l =
        let f = first (b ∷ t) (omega arith) in
        step (b ∷ t) f (omega arith) (ih (drop f.n (b ∷ t)) (rw length-drop (let m = f.some in omega arith)))

    none : (v : List ℕ) → length v ≤ 0 → P v
    none [] l = base
    none (b ∷ t) l = absurd (omega arith)

    all : (k : ℕ) (v : List ℕ) → length v ≤ k → P v
    all zero = none
    all (suc k) = here k (all k)

-- ---- what is left says the same

lead-inside : (v : List ℕ) → lead_of v ≤ length v
lead-inside = by_units (λ (v : List ℕ). lead_of v ≤ length v) (rw lead-none (omega arith)) step
  where
    step : (v : List ℕ) (f : First v) → 0 < length v → lead_of (drop f.n v) ≤ length (drop f.n v) → lead_of v ≤ length v
    step v f p ih =
        let e = lead-step v p f.is f.some in
        ⊎_elim
        (λ y. let z : lead_of v ≡ f.n + lead_of (drop f.n v) = e ∙ rw y in omega (arith, z, ih, length-drop f.n v, f.inside))
        (λ y. let z : lead_of v ≡ 0 = e ∙ rw y in omega (arith, z))
        (bool_cases (space f.c))

abbrev LeadSays : List ℕ → Type 0
LeadSays v = says (drop (lead_of v) v) ≡ drop_lead (says v)

lead-base : LeadSays []
unfolding drop_lead
lead-base = rw (lead-none, says_none)

lead-more : (v : List ℕ) (f : First v) → 0 < length v → LeadSays (drop f.n v) → LeadSays v
unfolding drop_lead
lead-more v f p ih =
    let e = lead-step v p f.is f.some in
    let s = f.says in
    ⊎_elim
    (λ y.
    let z : lead_of v ≡ f.n + lead_of (drop f.n v) = e ∙ rw y in
    ap (λ (k : ℕ). says (drop k v)) z ∙ ap says (sym (drop-drop (lead_of (drop f.n v)) f.n v)) ∙ ih ∙ sym (ap drop_lead s ∙ rw y))
    (λ y. let z : lead_of v ≡ 0 = e ∙ rw y in ap (λ (k : ℕ). says (drop k v)) z ∙ sym (ap drop_lead s ∙ (rw y) ∙ sym s))
    (bool_cases (space f.c))

lead-says : (v : List ℕ) → LeadSays v
lead-says = by_units LeadSays lead-base lead-more

-- how much is kept
kept_by : (c n more : ℕ) → ((more ≡ 0) × (space c ≡ true) × (kept_from c n more ≡ 0)) ⊎ (kept_from c n more ≡ n + more)
unfolding kept_from
kept_by c n more =
    ⊎_elim
    (λ y. ⊎_elim (λ z. inl (y.0, z, rw (y.1, z))) (λ z. inr (rw (y.1, z) (omega (arith, y.0)))) (bool_cases (space c)))
    (λ y. inr (rw y.1))
    (eqb-cases more 0)

kept-inside : (v : List ℕ) → kept_bytes v ≤ length v
kept-inside = by_units (λ (v : List ℕ). kept_bytes v ≤ length v) (rw kept-none (omega arith)) step
  where
    step : (v : List ℕ) (f : First v) → 0 < length v → kept_bytes (drop f.n v) ≤ length (drop f.n v) → kept_bytes v ≤ length v
    step v f p ih =
        let e = kept_step v p f.is f.some in
        ⊎_elim (λ y. omega (arith, e, y.2)) (λ y. omega (arith, e, y, ih, length-drop f.n v, f.inside)) (kept_by f.c f.n (kept_bytes (drop f.n v)))

abbrev KeptSays : List ℕ → Type 0
KeptSays v = says (take (kept_bytes v) v) ≡ drop_trail (says v)

kept-base : KeptSays []
unfolding drop_trail
kept-base = rw (kept-none, says_none)

drop-take : (n m : ℕ) (v : List ℕ) → drop n (take (n + m) v) ≡ take m (drop n v)
drop-take zero m v = let e : 0 + m ≡ m = omega arith in rw e
drop-take (suc n) m [] = let e : suc n + m ≡ suc (n + m) = omega arith in rw e (nothing m)
  where
    nothing : (m : ℕ) → ◌≡◌ {A = List ℕ} [] (take m [])
    nothing zero = refl
    nothing (suc m) = refl
drop-take (suc n) m (b ∷ v) = let e : suc n + m ≡ suc (n + m) = omega arith in rw e (drop-take n m v)

-- a front part of at least the first unit says its character, and what is left of the part
cut-says : (v : List ℕ) (f : First v) (more : ℕ) → 0 < length v → says (take (f.n + more) v) ≡ f.c ∷ says (take more (drop f.n v))
cut-says v f more p =
    let m = f.some in
    let i = f.inside in
    let long : 0 < length (take (f.n + more) v) = rw length-take (omega arith) in
    says-char (take (f.n + more) v) f.c f.n long (said-cut v p f.is (f.n + more) (omega arith)) m
    ∙ ap (λ (l : List ℕ). f.c ∷ says l) (drop-take f.n more v)

-- something is said of what is not empty
says_some : (v : List ℕ) → 0 < length v → (d : ℕ) × (l : List ℕ) × (says v ≡ d ∷ l)
says_some v p = let f = first v p in (f.c, says (drop f.n v), f.says)

kept_more : (v : List ℕ) (f : First v) → 0 < length v → KeptSays (drop f.n v) → KeptSays v
unfolding drop_trail kept_before kept_from
kept_more v f p ih =
    let w = drop f.n v in
    let e = kept_step v p f.is f.some in
    let t : drop_trail (says v) ≡ kept_before f.c (says (take (kept_bytes w) w)) = ap drop_trail f.says ∙ ap (kept_before f.c) (sym ih) in
    ⊎_elim
    (λ y.
    let g : says (take (kept_bytes w) w) ≡ [] = rw y.0 says_none in
    ⊎_elim
    (λ z.
    let k : kept_bytes v ≡ 0 = e ∙ (rw (y.1, z)) in
    ap (λ (k : ℕ). says (take k v)) k ∙ says_none ∙ sym (t ∙ ap (kept_before f.c) g ∙ (rw z)))
    (λ z.
    let o : f.n ≡ f.n + 0 = omega arith in
    let k : kept_bytes v ≡ f.n = e ∙ (rw (y.1, z)) in
    ap (λ (k : ℕ). says (take k v)) (k ∙ o) ∙ cut-says v f 0 p ∙ ap (λ (l : List ℕ). f.c ∷ l) says_none ∙ sym (t ∙ ap (kept_before f.c) g ∙ (rw z)))
    (bool_cases (space f.c)))
    (λ y.
    let long : 0 < length (take (kept_bytes w) w) = rw length-take (let i = kept-inside w in omega (arith, y.0, i)) in
    let d = says_some (take (kept_bytes w) w) long in
    let k : kept_bytes v ≡ f.n + kept_bytes w = e ∙ (rw y.1) in
    ap (λ (k : ℕ). says (take k v)) k ∙ cut-says v f (kept_bytes w) p ∙ ap (λ (l : List ℕ). f.c ∷ l) d.2 ∙ sym (t ∙ ap (kept_before f.c) d.2))
    (eqb-cases (kept_bytes w) 0)

kept-says : (v : List ℕ) → KeptSays v
kept-says = by_units KeptSays kept-base kept_more

-- "leading and trailing spaces are dropped": of the bytes, and so of the characters
pub trimmed-says : (v : List ℕ) → says (trimmed_of v) ≡ dropped (says v)
unfolding trimmed_of cut_trail dropped
trimmed-says v = kept-says (drop (lead_of v) v) ∙ ap drop_trail (lead-says v)

-- ---- where the part stands in the value

pub lead-most : (v : List ℕ) → lead_of v ≤ length v
lead-most = lead-inside

pub trimmed-length : (v : List ℕ) → lead_of v + length (trimmed_of v) ≤ length v
unfolding trimmed_of cut_trail
trimmed-length v =
    let w = drop (lead_of v) v in
    omega (arith, lead-inside v, kept-inside w, length-take (kept_bytes w) w, length-drop (lead_of v) v)

-- behind the leading spaces, as long as it is
pub part-place : (v : List ℕ) → take (length (trimmed_of v)) (drop (lead_of v) v) ≡ trimmed_of v
unfolding trimmed_of cut_trail
part-place v =
    let w = drop (lead_of v) v in
    ap (λ (k : ℕ). take k w) (length-take-le (kept_bytes w) w (kept-inside w))

-- ---- the loops

-- i bytes of leading spaces are passed
pub record Led (v : List ℕ) (i : ℕ) : Type 0 where
  pub inside : i ≤ length v
  pub total : i + lead_of (drop i v) ≡ lead_of v

pub led-start : (v : List ℕ) → Led v 0
led-start v = record { inside = omega arith; total = omega arith }

module _ {v : List ℕ} {i : ℕ} (w : Led v i) where
  pub led-end : length v ≤ i → i ≡ lead_of v
  led-end h = let z : lead_of (drop i v) ≡ 0 = rw (drop_of_length-le v h) lead-none in omega (arith, z, w.total)

  -- x is what `said_at` answered of the rest
  module _ {x : Option (ℕ × ℕ)} (h : i < length v) (e : x ≡ said_at (drop i v)) where
    more : 0 < length (drop i v)
    more = rw length-drop (omega arith)

    pub led-never : x ≡ None → ⊥
    led-never q = said-not-over (drop i v) more (sym e ∙ q)

    module _ {c n : ℕ} (q : x ≡ Some (c, n)) where
      step : lead_of (drop i v) ≡ cond (space c) (n + lead_of (drop (i + n) v)) 0
      step = let m = said-some-bytes (drop i v) more (sym e ∙ q) in rw (← drop-drop n i v) (lead-step (drop i v) more (sym e ∙ q) m)

      pub led-stop : (c ≡ 0x20 → ⊥) → i ≡ lead_of v
      led-stop u = let z : lead_of (drop i v) ≡ 0 = step ∙ rw (no-space c u) in omega (arith, z, w.total)

      pub led-more : c ≡ 0x20 → Led v (i + n)
      led-more u =
          let z : lead_of (drop i v) ≡ n + lead_of (drop (i + n) v) = step ∙ rw (is-space c u) in
          record { inside = omega (arith, said-inside (drop i v) more (sym e ∙ q), length-drop i v); total = omega (arith, z, w.total) }

-- i bytes are passed, and of those the first `kept` are kept where no more are
pub record Keeping (v : List ℕ) (i kept : ℕ) : Type 0 where
  pub inside : i ≤ length v
  pub total : cond (eqb (kept_bytes (drop i v)) 0) kept (i + kept_bytes (drop i v)) ≡ kept_bytes v

pub keeping_start : (v : List ℕ) → Keeping v 0 0
keeping_start v =
    record {
      inside = omega arith;
      total = ⊎_elim (λ y. rw y.1 (sym y.0)) (λ y. rw y.1 (omega arith)) (eqb-cases (kept_bytes v) 0);
    }

module _ {v : List ℕ} {i kept : ℕ} (w : Keeping v i kept) where
  pub keeping-end : length v ≤ i → kept ≡ kept_bytes v
  keeping-end h = let z : kept_bytes (drop i v) ≡ 0 = rw (drop_of_length-le v h) kept-none in rw z at w.total

  module _ {x : Option (ℕ × ℕ)} (h : i < length v) (e : x ≡ said_at (drop i v)) where
    more-kept : 0 < length (drop i v)
    more-kept = rw length-drop (omega arith)

    pub keeping-never : x ≡ None → ⊥
    keeping-never q = said-not-over (drop i v) more-kept (sym e ∙ q)

    module _ {c n : ℕ} (q : x ≡ Some (c, n)) where
      some_bytes : 1 ≤ n
      some_bytes = said-some-bytes (drop i v) more-kept (sym e ∙ q)

      kept_here : kept_bytes (drop i v) ≡ kept_from c n (kept_bytes (drop (i + n) v))
      kept_here = rw (← drop-drop n i v) (kept_step (drop i v) more-kept (sym e ∙ q) some_bytes)

      inside-next : i + n ≤ length v
      inside-next = omega (arith, said-inside (drop i v) more-kept (sym e ∙ q), length-drop i v)

      pub keeping-space : c ≡ 0x20 → Keeping v (i + n) kept
      unfolding kept_from
      keeping-space u =
          record {
            inside = inside-next;
            total =
                ⊎_elim
                (λ y. let z : kept_bytes (drop i v) ≡ 0 = kept_here ∙ rw (y.1, is-space c u) in rw y.1 (rw z at w.total))
                (λ y.
                let m = some_bytes in
                let z : kept_bytes (drop i v) ≡ n + kept_bytes (drop (i + n) v) = kept_here ∙ rw y.1 in
                let t : i + (n + kept_bytes (drop (i + n) v)) ≡ kept_bytes v = rw (z, ne_eqb (n + kept_bytes (drop (i + n) v)) 0 (λ k. omega (arith, k))) at w.total in
                rw y.1 (omega (arith, t)))
                (eqb-cases (kept_bytes (drop (i + n) v)) 0);
          }

      pub keeping-other : (c ≡ 0x20 → ⊥) → Keeping v (i + n) (i + n)
      unfolding kept_from
      keeping-other u =
          let m = some_bytes in
          record {
            inside = inside-next;
            total =
                ⊎_elim
                (λ y.
                let z : kept_bytes (drop i v) ≡ n = kept_here ∙ rw (y.1, no-space c u) in
                let t : i + n ≡ kept_bytes v = rw (z, ne_eqb n 0 (λ k. omega (arith, k))) at w.total in
                rw y.1 t)
                (λ y.
                let z : kept_bytes (drop i v) ≡ n + kept_bytes (drop (i + n) v) = kept_here ∙ rw y.1 in
                let t : i + (n + kept_bytes (drop (i + n) v)) ≡ kept_bytes v = rw (z, ne_eqb (n + kept_bytes (drop (i + n) v)) 0 (λ k. omega (arith, k))) at w.total in
                rw y.1 (omega (arith, t)))
                (eqb-cases (kept_bytes (drop (i + n) v)) 0);
          }

-- ---- a value whose first and last byte tell that nothing is dropped

not_equal : (b k : ℕ) → not (eqb b k) ≡ true → b ≡ k → ⊥
not_equal b k e z = never (rw (eq-eqb b k z) at e)

bare-other : (b : ℕ) → bare b ≡ true → (b ≡ 0x20 → ⊥) × (b ≡ 0x26 → ⊥) × (b ≡ 0x3B → ⊥)
unfolding bare
bare-other b e =
    let a = past-cond (eqb b 0x20) (λ z. never z) e in
    let m = past-cond (eqb b 0x26) (λ z. never z) a.1 in
    (eqb-false b 0x20 a.0, eqb-false b 0x26 m.0, not_equal b 0x3B m.1)

abbrev AllKept : List ℕ → Type 0
AllKept v = 0 < length v → (byte v (length v - 1) ≡ 0x20 → ⊥) → (byte v (length v - 1) ≡ 0x3B → ⊥) → kept_bytes v ≡ length v

-- the last unit is no space
last-other : (v : List ℕ) {c n : ℕ} → Uttered v c n → n ≡ length v → (byte v (length v - 1) ≡ 0x20 → ⊥) → (byte v (length v - 1) ≡ 0x3B → ⊥) → c ≡ 0x20 → ⊥
last-other v {c} {n} (stray q z o) l a b e = omega (arith, z, e)
last-other v {c} {n} (unit q) l a b e = by (unit-is v q)
  where
    by : Unit' v c n → ⊥
    by (stands amp is) =
        let own = char-low v is (omega (arith, e)) in
        let k : length v - 1 ≡ 0 = omega (arith, own.1, l) in
        a (ap (byte v) k ∙ own.0 ∙ e)
    by (refers amp is) = let k : length v - 1 ≡ pred n = omega (arith, l) in b (ap (byte v) k ∙ (reference-shut v is).last)

kept-all : (v : List ℕ) (f : First v) → 0 < length v → AllKept (drop f.n v) → AllKept v
unfolding kept_from
kept-all v f p ih some a b =
    let e = kept_step v p f.is f.some in
    let m = f.some in
    let i = f.inside in
    let k : length (drop f.n v) ≡ length v - f.n = length-drop f.n v in
    ⊎_elim
    (λ y.
    let g : byte (drop f.n v) (length (drop f.n v) - 1) ≡ byte v (length v - 1) =
    byte-drop v f.n (length (drop f.n v) - 1) ∙ ap (byte v) (let z : f.n + (length (drop f.n v) - 1) ≡ length v - 1 = omega (arith, k, y.0) in z) in
    let r = ih (omega (arith, k, y.0)) (λ z. a (sym g ∙ z)) (λ z. b (sym g ∙ z)) in
    e ∙ rw (r, k, ne_eqb (length v - f.n) 0 (λ z. omega (arith, z, y.0))) (omega (arith, y.0)))
    (λ y.
    let z : f.n ≡ length v = omega (arith, y.0) in
    let r : kept_bytes (drop f.n v) ≡ 0 = rw (drop_of_length-le v {i = f.n} (omega arith)) kept-none in
    e ∙ rw (r, no-space f.c (last-other v (uttered v p f.is) z a b)) z)
    (ltb-cases f.n (length v))

-- the first unit is no space
first-other : (v : List ℕ) {c n : ℕ} → Uttered v c n → (byte v 0 ≡ 0x20 → ⊥) → (byte v 0 ≡ 0x26 → ⊥) → c ≡ 0x20 → ⊥
first-other v (stray q z o) a b e = omega (arith, z, e)
first-other v {c} {n} (unit q) a b e = by (unit-is v q)
  where
    by : Unit' v c n → ⊥
    by (stands amp is) = a ((char-low v is (omega (arith, e))).0 ∙ e)
    by (refers amp is) = b amp

lead-bare : (v : List ℕ) → 0 < length v → (byte v 0 ≡ 0x20 → ⊥) → (byte v 0 ≡ 0x26 → ⊥) → lead_of v ≡ 0
lead-bare v p a b = let f = first v p in lead-step v p f.is f.some ∙ rw (no-space f.c (first-other v (uttered v p f.is) a b))

pub bare-all : (v : List ℕ) → bare_at_ends v ≡ true → v ≡ trimmed_of v
unfolding bare_at_ends trimmed_of cut_trail
bare-all v e =
    let some = past-cond (eqb (length v) 0) (λ z. never z) e in
    let both = both_true (bare (byte v 0)) some.1 in
    let p : 0 < length v = let h = eqb-false (length v) 0 some.0 in omega (arith, h) in
    let first = bare-other (byte v 0) both.0 in
    let last = bare-other (byte v (length v - 1)) both.1 in
    let k = by_units AllKept (λ q. absurd (omega arith)) kept-all v p last.0 last.2 in
    rw (lead-bare v p first.0 first.1) (sym (take_all (kept_bytes v) v (omega (arith, k))))
