-- An identification that is put for another: the item reader does not see it, the form is the same, and what it says tells its bytes. Assumes nothing.
use Prim.Native.Nat.{ℕ, zero, suc, pred, ◌+◌, ◌≤◌, ◌<◌}
use mathlib.Core.Path.{◌≡◌, refl, sym, ap, ◌∙◌}
use mathlib.Core.List.{List, [], ◌∷◌, ◌++◌}
use mathlib.Core.Bool.{Bool, true, false}
use mathlib.Core.Logic.{⊎_elim}
use native.Mathlib.Omega.{arith}
use lib.Dec.{eqb, ltb}
use lib.ListN.{length, drop, take-append-drop}
use borrow.Author.Tests.{eq-eqb, ne_eqb, ltb-false}
use Rattle.std.specs.Prelude.{Option, Some, None}
use Rattle.lists.proofs.Cases.{bool_cases, past-cond, ltb-cases, never}
use Rattle.slices.specs.Bytes.{byte}
use Rattle.slices.specs.Run.{run}
use Rattle.slices.specs.Walk.{go, walk}
use Rattle.characters.specs.Utf8.{seq_len, low, high, second, control, single, double, char_at}
use Rattle.characters.specs.Says.{char_next, chars_over, all_chars, standing, met, char_of, said_by, said_at, says_after, says}
use Rattle.characters.proofs.Ascii.{char-printed}
use Rattle.characters.proofs.Low.{char-low, char-size, char-near, char-inside}
use Rattle.characters.proofs.Units.{met-standing}
use Rattle.characters.proofs.Saying.{said-some}
use Rattle.attributes.specs.Attribute.{quote, fit, standing_next, value_next, value_over, value}
use Rattle.attributes.proofs.Values.{met-other, quote-range, fit-other}
use Rattle.escapes.specs.Spelled.{spelled}
use Rattle.escapes.proofs.Spelling.{char-spelt}
use Rattle.forms.specs.Forms.{identification}
use Rattle.rules.specs.Rules.{form_refusal, code_no, judge}
use Rattle.rules.specs.declared.Held.{Held}
use Rattle.digits.specs.Unseen.{Unseen}
use Rattle.digits.specs.Identifications.{id_byte, Clean, PutFor}

-- ---- a value that may stand between any quotes

-- none of these bytes ends a value or breaks it
pub record Passes (q c : ℕ) : Type 0 where
  pub fits : fit c ≡ true
  pub goes : eqb c q ≡ false

-- none of them begins a reference
id-amp : (c : ℕ) → id_byte c ≡ true → c ≡ 0x26 → ⊥
unfolding id_byte
id-amp c h e = never (rw e at h)

-- every byte of what is left may stand
rest-bytes : (c : ℕ) (b : List ℕ) → run id_byte (c ∷ b) ≡ length (c ∷ b) → (id_byte c ≡ true) × (run id_byte b ≡ length b)
unfolding run
rest-bytes c b h =
    ⊎_elim
    (λ y. let z : suc (run id_byte b) ≡ suc (length b) = rw y at h in (y, omega (arith, z)))
    (λ y. let z : 0 ≡ suc (length b) = rw y at h in absurd (omega (arith, z)))
    (bool_cases (id_byte c))

-- the bytes of a character are those of the whole
front_same : (b rest : List ℕ) (i : ℕ) → i < length b → byte b i ≡ byte (b ++ rest) i
unfolding byte
front_same [] rest i l = absurd (omega arith)
front_same (c ∷ b) rest zero l = refl
front_same (c ∷ b) rest (suc i) l = front_same b rest i (omega arith)

abbrev chars_from : ℕ → List ℕ → Bool
chars_from k b = walk char_at char_next chars_over tt k b

module _ (q : ℕ) (quotes : quote q ≡ true) where
  own-passes : (c : ℕ) → id_byte c ≡ true → Passes q c
  unfolding id_byte
  own-passes c h =
      let amp = past-cond (eqb c 0x26) (λ z. never z) h in
      let lt = past-cond (eqb c 0x3C) (λ z. never z) amp.1 in
      let qu = past-cond (quote c) (λ z. never z) lt.1 in
      let low = past-cond (ltb c 0x20) (λ z. never z) qu.1 in
      record {
        fits = fit-other c (ltb-false c 0x20 low.0) (λ e. never (sym lt.0 ∙ eq-eqb c 0x3C e));
        goes = ne_eqb c q (λ e. never (sym qu.0 ∙ ap quote e ∙ quotes));
      }

  high-passes : (c : ℕ) → 0x80 ≤ c → Passes q c
  high-passes c l =
      let r = quote-range q quotes in
      record { fits = fit-other c (omega arith) (λ e. omega (arith, e)); goes = ne_eqb c q (λ e. omega (arith, e, r.1)) }

  passes_on : {c : ℕ} → Passes q c → (at n : ℕ) → value_next q at (standing (Some (c, n))) ≡ go n (at + n)
  unfolding value_next standing_next
  passes_on p at n = rw (p.fits, p.goes)

  -- the character at the front of bytes that may stand
  char-passes : (b : ℕ) (t : List ℕ) {c n : ℕ} → id_byte b ≡ true → char_at (b ∷ t) ≡ Some (c, n) → Passes q c
  unfolding byte
  char-passes b t {c} h e =
      ⊎_elim
      (λ l. let o = (char-low (b ∷ t) e l.0).0 in own-passes c (sym (ap id_byte o) ∙ h))
      (λ l. high-passes c l.0)
      (ltb-cases c 0x80)

  -- the closing quote
  closed-at : (at : ℕ) (rest : List ℕ) → walk met (value_next q) value_over at 0 (q ∷ rest) ≡ Some at
  unfolding walk value_next standing_next byte
  closed-at at rest =
      let r = quote-range q quotes in
      let m = met-other (q ∷ rest) r.2 ∙ ap standing (char-printed (q ∷ rest) (omega (arith, r.0)) (omega (arith, r.1))) in
      rw (walk, m, fit-other q (omega (arith, r.0)) (λ e. omega (arith, e, r.1)), eq-eqb q q refl)

  whole : (rest b : List ℕ) (k at m : ℕ) → k ≤ length b → chars_from k b ≡ true → run id_byte b ≡ length b → m + k ≡ at + length b
      → walk met (value_next q) value_over at k (b ++ q ∷ rest) ≡ Some m
  unfolding walk char_next byte
  whole rest [] zero at m l h r z = let e : at ≡ m = omega (arith, z) in closed-at at rest ∙ ap Some e
  whole rest [] (suc k) at m l h r z = absurd (omega arith)
  whole rest (c ∷ b) (suc k) at m l h r z = whole rest b k at m (omega arith) h (rest-bytes c b r).1 (omega (arith, z))
  whole rest (c ∷ b) zero at m l h r z = by (char_at (c ∷ b)) refl (whole rest b)
    where
      by : (x : Option (ℕ × ℕ)) → char_at (c ∷ b) ≡ x
          → ((k at m : ℕ) → k ≤ length b → chars_from k b ≡ true → run id_byte b ≡ length b → m + k ≡ at + length b
          → walk met (value_next q) value_over at k (b ++ q ∷ rest) ≡ Some m)
          → walk met (value_next q) value_over at zero (c ∷ b ++ q ∷ rest) ≡ Some m
      by None g f = never (rw (walk, g) at h)
      by (Some (d, n)) g f =
          let few = char-inside (c ∷ b) g in
          let some = char-size (c ∷ b) g in
          let own = rest-bytes c b r in
          let p = char-passes c b own.0 g in
          let there = met-other (c ∷ b ++ q ∷ rest) (id-amp c own.0)
          ∙ ap standing (char-near (c ∷ b) (c ∷ b ++ q ∷ rest) g (λ i u. front_same (c ∷ b) (q ∷ rest) i (omega arith))) in
          let left : chars_from (pred n) b ≡ true = rw (walk, g) at h in
          rw (walk, there, passes_on p at n) (f (pred n) (at + n) m (omega arith) left own.1 (omega (arith, z)))

  pub clean-whole : (rest b : List ℕ) → Clean b → value q (b ++ q ∷ rest) ≡ Some (length b)
  unfolding value all_chars
  clean-whole rest b c = whole rest b 0 0 (length b) (omega arith) c.legal c.bytes (omega arith)

-- ---- what such a value says tells its bytes

clean_after : (v : List ℕ) (k : ℕ) → chars_from k v ≡ true → run id_byte v ≡ length v → spelled (says_after k v) ≡ drop k v
unfolding walk char_next says_after said_by spelled byte
clean_after [] zero h r = refl
clean_after [] (suc k) h r = refl
clean_after (b ∷ v) (suc k) h r = clean_after v k h (rest-bytes b v r).1
clean_after (b ∷ v) zero h r = by (char_at (b ∷ v)) refl (clean_after v)
  where
    by : (x : Option (ℕ × ℕ)) → char_at (b ∷ v) ≡ x → ((k : ℕ) → chars_from k v ≡ true → run id_byte v ≡ length v → spelled (says_after k v) ≡ drop k v)
        → spelled (says_after zero (b ∷ v)) ≡ b ∷ v
    by None g f = never (rw (walk, g) at h)
    by (Some (c, zero)) g f = let z = char-size (b ∷ v) g in absurd (omega arith)
    by (Some (c, suc n)) g f =
        let own = rest-bytes b v r in
        let first : said_at (b ∷ v) ≡ Some (c, suc n) = said-some b v ∙ ap said_by (met-standing (b ∷ v) (id-amp b own.0) ∙ g) in
        let left : chars_from n v ≡ true = rw (walk, g) at h in
        rw (says_after, first) (rw (← char-spelt (b ∷ v) g, f n left own.1) (take-append-drop (suc n) (b ∷ v)))

clean-spelt : (v : List ℕ) → Clean v → spelled (says v) ≡ v
unfolding says all_chars
clean-spelt v c = clean_after v 0 c.legal c.bytes

-- "two identifications are equal when their meanings are": and of these, when their bytes are
pub says-one : {a b : List ℕ} → Clean a → Clean b → says a ≡ says b → a ≡ b
says-one {a} {b} c d e = sym (clean-spelt a c) ∙ ap spelled e ∙ clean-spelt b d

-- ---- the second use of `Unseen`

pub put-unseen : Unseen PutFor
put-unseen = record { whole = λ {a} {b} r q rest t v. clean-whole q t rest b r.after }

-- it joins two such values, place by place unlike: `Aß` and `ßA`
pub put-example : PutFor (0x41 ∷ 0xC3 ∷ 0x9F ∷ []) (0xC3 ∷ 0x9F ∷ 0x41 ∷ [])
unfolding all_chars walk char_next chars_over char_at seq_len single control double second low high byte says says_after said_at said_by met char_of run id_byte quote
put-example = record { before = record { legal = refl; bytes = refl }; after = record { legal = refl; bytes = refl }; bytes = refl; characters = refl }

-- "Identifications: 0 to 35 characters", by the form of a TimeSeriesIdentification, which is 2
pub put-judged : (h : Held) {a b : List ℕ} → PutFor a b → judge 2 h (says a) ≡ judge 2 h (says b)
unfolding judge form_refusal code_no identification
put-judged h r = rw r.characters
