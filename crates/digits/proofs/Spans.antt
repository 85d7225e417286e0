-- Where the parts of a tag stand: an attribute's name before its value, and one attribute after the other. Assumes nothing.
use Prim.Native.Nat.{ℕ, zero, suc, pred, ◌+◌, ◌≤◌, ◌<◌}
use mathlib.Core.Path.{◌≡◌, refl, sym, ◌∙◌}
use mathlib.Core.List.{List, [], ◌∷◌}
use mathlib.Core.Bool.{Bool, true, false}
use mathlib.Core.Logic.{◌⊎◌, inl, inr, ⊎_elim}
use native.Mathlib.Omega.{arith}
use lib.Dec.{eqb, ltb}
use lib.ListN.{drop}
use borrow.Author.Tests.{ne_eqb, ltb-false, eqb-true}
use Rattle.std.specs.Prelude.{Option, Some, None}
use Rattle.lists.proofs.Cases.{bool_cases, eqb-cases, by_cond, past-cond, never, zero-not-one}
use Rattle.slices.specs.Bytes.{byte}
use Rattle.slices.specs.Run.{run}
use Rattle.attributes.specs.Names.{name_start, name_byte, white}
use Rattle.attributes.specs.Attribute.{quote, value, opening_from, opening, attribute_end, attribute_quote, attribute_name, attribute, piece_after, piece}
use Rattle.attributes.specs.declared.Piece.{Piece}
use Rattle.attributes.specs.declared.Piece.TheVariants.{Attribute, Close, CloseEmpty, Torn}
use Rattle.tags.specs.Tail.{Attr, Ends, closed, torn, onto, ends_after}
use Rattle.tags.proofs.Ends.{attr}
use Rattle.characters.proofs.Low.{by-test}

-- an attribute of a piece l: w bytes of white space, a name of n bytes, and a value of m bytes behind the opening quote, at o
pub record AttributeLaid (l : List ℕ) (w n o m : ℕ) : Type 0 where
  pub white : run white l ≡ w
  pub some : 0 < w
  pub name : run name_byte (drop w l) ≡ n
  pub opens : opening l (w + n) ≡ o
  pub behind : w + n < o
  pub quotes : quote (byte l o) ≡ true
  pub value : value (byte l o) (drop (o + 1) l) ≡ Some m

-- where the parts of a piece stand; it ends with its value's closing quote, or with `>`
unfoldable pub PieceLaid : List ℕ → Piece → Type 0
PieceLaid l (Attribute w n v m e) = (o : ℕ) × (v ≡ o + 1) × (e ≡ v + m + 1) × AttributeLaid l w n o m
PieceLaid l (Close n) = (n ≡ run white l + 1) × (byte l (run white l) ≡ 0x3E)
PieceLaid l (CloseEmpty n) = (n ≡ run white l + 2) × (byte l (run white l) ≡ 0x2F) × (byte l (run white l + 1) ≡ 0x3E)
PieceLaid l Torn = Unit {0}

white-quote : (b : ℕ) → white b ≡ true → quote b ≡ false
unfolding white quote
white-quote b h =
    let p = past-cond (ltb 0x20 b) (λ z. zero-not-one (cc)) h in
    let q = ltb-false 0x20 b p.0 in
    rw (ne_eqb b 0x22 (λ z. omega arith), ne_eqb b 0x27 (λ z. omega arith))

-- a piece that begins with white space begins with no quote
white-front : (l : List ℕ) → (run white l ≡ 0 → ⊥) → quote (byte l 0) ≡ false
unfolding run byte
white-front [] h = absurd (h refl)
white-front (b ∷ l) h = ⊎_elim (λ y. white-quote b y) (λ y. absurd (h (rw y))) (bool_cases (white b))

opening-after : (l : List ℕ) (a : ℕ) → (opening l a ≡ 0) ⊎ (a < opening l a)
unfolding opening opening_from
opening-after l a =
    by_cond (λ (o : ℕ). (o ≡ 0) ⊎ (a < o)) (eqb (byte l (a + run white (drop a l))) 0x3D) (inr (omega arith)) (inl refl)

-- the piece begins with w bytes of white space, and has a name behind them
module _ (l : List ℕ) (some : run white l ≡ 0 → ⊥) where
  abbrev w : ℕ
  w = run white l

  abbrev n : ℕ
  n = run name_byte (drop w l)

  abbrev o : ℕ
  o = opening l (w + n)

  end-laid : w + n < o → quote (byte l o) ≡ true → (x : Option ℕ) → value (byte l o) (drop (o + 1) l) ≡ x → PieceLaid l (attribute_end w n (o + 1) x)
  unfolding attribute_end PieceLaid
  end-laid h q (Some m) e =
      (o, refl, refl, record { white = refl; some = ⊎_elim (λ z. absurd (some z.0)) (λ z. omega (arith, z.0)) (eqb-cases w 0); name = refl; opens = refl; behind = h; quotes = q; value = e })
  end-laid h q None e = tt

  attribute-laid : PieceLaid l (attribute l w)
  unfolding attribute attribute_name attribute_quote PieceLaid
  attribute-laid =
      by_cond (PieceLaid l) (name_start (byte l w))
      (by-test (PieceLaid l) (quote (byte l o))
      (λ q.
      ⊎_elim
      (λ z. let f : quote (byte l 0) ≡ true = rw z at q in never (sym (white-front l some) ∙ f))
      (λ h. end-laid h q (value (byte l o) (drop (o + 1) l)) refl)
      (opening-after l (w + n)))
      (λ q. tt))
      tt

pub piece-laid : (l : List ℕ) → PieceLaid l (piece l)
unfolding piece piece_after PieceLaid
piece-laid l =
    let w = run white l in
    by-test (PieceLaid l) (eqb (byte l w) 0x3E) (λ e. (refl, eqb-true _ _ e))
    (λ e. by-test (PieceLaid l) (eqb (byte l w) 0x2F)
    (λ f. by-test (PieceLaid l) (eqb (byte l (w + 1)) 0x3E) (λ g. (refl, eqb-true _ _ f, eqb-true _ _ g)) (λ g. tt))
    (λ f. ⊎_elim (λ y. rw y.1 tt) (λ y. rw y.1 (attribute-laid l y.0)) (eqb-cases w 0)))

-- the values stand one behind the other, from behind `from`, white space, `=` and a quote to before `to`
unfoldable pub Within : ℕ → ℕ → List Attr → Type 0
Within from to [] = Unit {0}
Within from to (a ∷ more) = (from + 2 < a.value.start) × (a.value.start + a.value.len < to) × Within (a.value.start + a.value.len) to more

pub within_wider : {low from : ℕ} (to : ℕ) (more : List Attr) → low ≤ from → Within from to more → Within low to more
unfolding Within
within_wider to [] h w = tt
within_wider to (a ∷ more) h w = (omega (arith, w.0), w.1, w.2)

-- what a piece at the front of l makes of a tag; t is l without its first byte
unfoldable pub ends_by : ℕ → List ℕ → List ℕ → Piece → Ends
ends_by at l t (Attribute w n v m e) = onto (attr at l w n v m) (ends_after (pred e) (suc at) t)
ends_by at l t (Close n) = closed [] false (at + n)
ends_by at l t (CloseEmpty n) = closed [] true (at + n)
ends_by at l t Torn = torn

pub ends-by : (at b : ℕ) (t : List ℕ) → ends_after zero at (b ∷ t) ≡ ends_by at (b ∷ t) t (piece (b ∷ t))
unfolding ends_after ends_by
ends-by at b t = by (piece (b ∷ t)) refl
  where
    by : (p : Piece) → piece (b ∷ t) ≡ p → ends_after zero at (b ∷ t) ≡ ends_by at (b ∷ t) t p
    by (Attribute w n v m e) q = rw (ends_after, q)
    by (Close n) q = rw (ends_after, q)
    by (CloseEmpty n) q = rw (ends_after, q)
    by Torn q = rw (ends_after, q)

-- a tag that is closed: its end is behind k bytes, and so is each value
pub record Ordered (k at : ℕ) (more : List Attr) (e : ℕ) : Type 0 where
  pub end : at + k < e
  pub values : Within (at + k) e more

-- an attribute in front of others
pub onto-closed : (a : Attr) (x : Ends) (more : List Attr) (empty : Bool) (e : ℕ) → onto a x ≡ closed more empty e
    → (rest : List Attr) × (x ≡ closed rest empty e) × (more ≡ a ∷ rest)
unfolding onto
onto-closed a (closed rest s n) more empty e q = (rest, (cc), (cc))
onto-closed a torn more empty e q = absurd (zero-not-one (cc))

pub ends-ordered : (l : List ℕ) (k at : ℕ) (more : List Attr) (empty : Bool) (e : ℕ) → ends_after k at l ≡ closed more empty e → Ordered k at more e
unfolding ends_after ends_by PieceLaid Within
ends-ordered [] k at more empty e q = absurd (zero-not-one (cc))
ends-ordered (b ∷ t) (suc k) at more empty e q =
    let r = ends-ordered t k (suc at) more empty e q in
    record { end = omega (arith, r.end); values = within_wider e more (omega arith) r.values }
ends-ordered (b ∷ t) zero at more empty e q = by (piece (b ∷ t)) (piece-laid (b ∷ t)) (sym (ends-by at b t) ∙ q) (λ k rest. ends-ordered t k (suc at) rest empty e)
  where
    by : (p : Piece) → PieceLaid (b ∷ t) p → ends_by at (b ∷ t) t p ≡ closed more empty e
        → ((k : ℕ) (rest : List Attr) → ends_after k (suc at) t ≡ closed rest empty e → Ordered k (suc at) rest e) → Ordered zero at more e
    by (Attribute w n v m j) h z f =
        let c = onto-closed (attr at (b ∷ t) w n v m) (ends_after (pred j) (suc at) t) more empty e z in
        let r = f (pred j) c.0 c.1 in
        let v3 : 2 < v = omega (arith, h.1, h.3.behind, h.3.some) in
        record {
          end = omega (arith, r.end);
          values = rw c.2 (omega arith, omega (arith, h.2, r.end), within_wider e c.0 (omega (arith, h.2)) r.values);
        }
    by (Close n) h z f = let x : at + n ≡ e = cc in let y : [] ≡ more = cc in record { end = omega (arith, h.0); values = rw (← y) tt }
    by (CloseEmpty n) h z f = let x : at + n ≡ e = cc in let y : [] ≡ more = cc in record { end = omega (arith, h.0); values = rw (← y) tt }
    by Torn h z f = absurd (zero-not-one (cc))
