-- Tests by which two documents are seen to differ in readable Qty digits alone, or in other places that are known. Assumes nothing.
use Prim.Native.Nat.{ℕ, zero, suc, ◌+◌, ◌-◌}
use mathlib.Core.Path.{◌≡◌, refl}
use mathlib.Core.List.{List, [], ◌∷◌}
use mathlib.Core.Bool.{Bool, true, false, cond, not}
use mathlib.Core.Logic.{◌⊎◌, inl, inr, ⊎_elim}
use native.Mathlib.Omega.{arith}
use lib.Dec.{eqb, leb, ltb}
use borrow.Author.Tests.{leb-true, ltb-true}
use Rattle.std.specs.Prelude.{Result, Ok, Err}
use Rattle.lists.proofs.Cases.{bool_cases, both_true, eqb-cases, never}
use Rattle.slices.specs.Bytes.{byte}
use Rattle.items.specs.Item.{is_readable}
use Rattle.items.specs.Parts.{span_of}
use Rattle.items.specs.declared.Item.{Item}
use Rattle.prolog.specs.Prolog.{begin}
use Rattle.characters.specs.References.{digit}
use Rattle.reader.specs.Items.{Placed, items_from}
use Rattle.digits.specs.Items.{value_in}
use Rattle.digits.specs.Outside.{open_at}
use Rattle.blindness.specs.Readable.{named_qty, InQty, InTags, InTagsAfter, QtyDigit}
use Rattle.blindness.proofs.Aligned.{in-v}

-- ---- two lists of bytes that are equal but where a test passes

unfoldable pub alongside : (ℕ → Bool) → ℕ → List ℕ → List ℕ → Bool
alongside test at [] [] = true
alongside test at [] (b ∷ y) = false
alongside test at (a ∷ x) [] = false
alongside test at (a ∷ x) (b ∷ y) = cond (cond (eqb a b) true (test at)) (alongside test (suc at) x y) false

along-from : (test : ℕ → Bool) (x y : List ℕ) (at : ℕ) → alongside test at x y ≡ true → (p : ℕ) → (byte x p ≡ byte y p) ⊎ (test (at + p) ≡ true)
unfolding alongside byte
along-from test [] [] at h p = inl refl
along-from test [] (b ∷ y) at h p = never h
along-from test (a ∷ x) [] at h p = never h
along-from test (a ∷ x) (b ∷ y) at h zero =
    let z : at + 0 ≡ at = omega arith in
    ⊎_elim (λ e. inl e.0) (λ e. inr (rw z (rw e.1 at (both_true (cond (eqb a b) true (test at)) h).0))) (eqb-cases a b)
along-from test (a ∷ x) (b ∷ y) at h (suc p) =
    let z : at + suc p ≡ suc at + p = omega arith in
    ⊎_elim inl (λ r. inr (rw z r)) (along-from test x y (suc at) (both_true (cond (eqb a b) true (test at)) h).1 p)

pub along : (test : ℕ → Bool) (x y : List ℕ) → alongside test 0 x y ≡ true → (p : ℕ) → (byte x p ≡ byte y p) ⊎ (test p ≡ true)
along test x y h p = let z : 0 + p ≡ p = omega arith in ⊎_elim inl (λ r. inr (rw z at r)) (along-from test x y 0 h p)

-- ---- a place of a readable Qty value

-- the place i of an item
unfoldable pub in_qty : Item → List ℕ → ℕ → Bool
in_qty x s i =
    cond (leb (span_of x).start i)
    (cond (ltb i ((span_of x).start + (span_of x).len))
    (cond (named_qty x s) (not (open_at false (value_in s (span_of x)) (i - (span_of x).start))) false)
    false)
    false

not-open : (b : Bool) → not b ≡ true → b ≡ false
not-open true h = never h
not-open false h = refl

in-qty : (x : Item) (s : List ℕ) (i : ℕ) → in_qty x s i ≡ true → InQty x s i
unfolding in_qty
in-qty x s i h =
    let a = both_true (leb (span_of x).start i) h in
    let b = both_true (ltb i ((span_of x).start + (span_of x).len)) a.1 in
    let c = both_true (named_qty x s) b.1 in
    ((c.0, in-v x i (leb-true _ _ a.0, ltb-true _ _ b.0)), not-open _ c.1)

-- of these items, up to the first unreadable one
unfoldable pub qty_at : List Placed → ℕ → Bool
qty_at [] p = false
qty_at (x ∷ xs) p =
    cond (cond (leb x.at p) (in_qty x.item x.rest (p - x.at)) false) true (cond (is_readable x.item) (qty_at xs p) false)

qty-at : (xs : List Placed) (p : ℕ) → qty_at xs p ≡ true → InTags InQty xs p
unfolding qty_at InTags
qty-at [] p h = never h
qty-at (x ∷ xs) p h =
    ⊎_elim
    (λ (y : cond (leb x.at p) (in_qty x.item x.rest (p - x.at)) false ≡ true).
    let a = both_true (leb x.at p) y in
    let l = leb-true x.at p a.0 in
    inl (p - x.at, omega (arith, l), in-qty x.item x.rest (p - x.at) a.1))
    (λ (y : cond (leb x.at p) (in_qty x.item x.rest (p - x.at)) false ≡ false).
    let b = both_true (is_readable x.item) (rw y at h) in
    inr (b.0, qty-at xs p b.1))
    (bool_cases (cond (leb x.at p) (in_qty x.item x.rest (p - x.at)) false))

unfoldable pub qty_after : List ℕ → Result ℕ ℕ → ℕ → Bool
qty_after doc (Ok n) p = qty_at (items_from doc n) p
qty_after doc (Err q) p = false

qty-after : (doc : List ℕ) (b : Result ℕ ℕ) (p : ℕ) → qty_after doc b p ≡ true → InTagsAfter InQty doc b p
unfolding qty_after InTagsAfter
qty-after doc (Ok n) p h = qty-at (items_from doc n) p h
qty-after doc (Err q) p h = never h

-- of a document
pub qty-digit : (doc : List ℕ) (p : ℕ) → digit (byte doc p) ≡ true → qty_after doc (begin doc) p ≡ true → QtyDigit doc p
unfolding QtyDigit
qty-digit doc p d h = (d, qty-after doc (begin doc) p h)
