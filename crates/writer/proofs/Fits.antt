-- A document put into a cleared output: where it finds room, and where it finds none. Assumes nothing.
use Prim.Native.Nat.{ℕ, ◌+◌, ◌*◌, ◌-◌, ◌≤◌, ◌<◌, min}
use mathlib.Core.Path.{◌≡◌, refl, sym, ap, ◌∙◌}
use mathlib.Core.List.{List, ◌++◌, append_assoc}
use mathlib.Core.Bool.{Bool, true, false, cond, ◌&&◌, and-eq-true_iff}
use mathlib.Core.Logic.{⊎_elim}
use native.Mathlib.Omega.{arith}
use native.Mathlib.Nat.{zero-add}
use lib.Dec.{eqb, leb}
use lib.IntN.{ℤ}
use lib.ListN.{length, take, drop, length-append, length-replicate, replicate-append-replicate}
use lib.Seq.{sets, length-sets, take_at, sets-eq}
use borrow.Author.Tests.{le-leb, lt-leb}
use Rattle.lists.specs.Zeros.{zeros}
use Rattle.lists.proofs.Zeros.{drop-zeros}
use Rattle.lists.proofs.Cases.{leb-cases}
use Rattle.refusals.specs.Refusals.{no_refusal, content_unfit, no_room_to_write}
use Rattle.guideline.specs.Rows.{rows_of}
use Rattle.views.specs.Layout.{header_pairs, series_pairs, cell_of}
use Rattle.series.specs.Row.{cells_of}
use Rattle.drafts.specs.Draft.{Draft}
use Rattle.drafts.specs.Judged.{draft_legal}
use Rattle.drafts.specs.Fit.{is_written, pairs_fit, rows_fit, is_lent, draft_fits}
use Rattle.putting.specs.Sheet.{landed, open_text, root_text, sheet_text}
use Rattle.putting.proofs.Laid.{sheet-layout}
use Rattle.drafts.specs.Written.{room_in, Written, refused_by, laid_in, fit_written, written_of}
use Rattle.writer.specs.Permitted.{written, two_in, PermittedWrite}

-- ---- the output

-- the front of a cleared output
front-zeros : (room n : ℕ) → room ≤ n → take room (zeros n) ≡ zeros room
front-zeros room n h =
    ap (λ (m : ℕ). take room (zeros m)) (let e : n ≡ room + (n - room) = omega (arith, h) in e)
    ∙ ap (take room) (sym (replicate-append-replicate room (n - room) 0))
    ∙ take_at (zeros room) (zeros (n - room)) room (length-replicate room 0)

-- a text put into zeros that have room for it
sets-zeros : (x : List ℕ) (n : ℕ) → length x ≤ n → sets (zeros n) 0 x ≡ x ++ zeros (n - length x)
sets-zeros x n h =
    let l : length (zeros n) ≡ n = length-replicate n 0 in
    sets-eq x (zeros n) 0 (omega (arith, l, h)) ∙ ap (λ (k : ℕ). x ++ drop k (zeros n)) (zero-add (length x)) ∙ ap (λ (y : List ℕ). x ++ y) (drop-zeros (length x) n h)

zeros-more : (a b n : ℕ) → a ≤ b → b ≤ n → zeros (b - a) ++ zeros (n - b) ≡ zeros (n - a)
zeros-more a b n h l =
    let e : b - a + (n - b) ≡ n - a = omega (arith, h, l) in
    replicate-append-replicate (b - a) (n - b) 0 ∙ ap (λ (m : ℕ). zeros m) e

-- the first `room` bytes of a cleared output of n bytes are lent; doc is put there, and its length told as far as they reach
pub record Lending (doc out : List ℕ) (n room len : ℕ) (lent : List ℕ) : Type 0 where
  pub room-is : room ≡ room_in (length out)
  pub cleared : out ≡ zeros n
  pub told : len ≡ landed (take room out) 0 doc
  pub left : lent ≡ sets (take room out) 0 doc

module _ {doc out : List ℕ} {n room len : ℕ} {lent : List ℕ} (p : Lending doc out n room len lent) where
  room-in : room ≡ room_in n
  room-in = p.room-is ∙ ap room_in (ap length p.cleared ∙ length-replicate n 0)

  low : room ≤ n
  unfolding room_in
  low = omega (arith, room-in)

  front : take room out ≡ zeros room
  front = ap (take room) p.cleared ∙ front-zeros room n low

  length-told : len ≡ min (length doc) (room + 1)
  unfolding landed
  length-told = let z : length (take room out) ≡ room = ap length front ∙ length-replicate room 0 in let e = p.told in omega (arith, e, z)

  pub fits-room : len ≤ room → (len ≡ (fit_written doc n).len) × (lent ++ drop room out ≡ (fit_written doc n).output)
  unfolding fit_written laid_in
  fits-room h =
      let m = length-told in
      let k : length doc ≤ room = omega (arith, m, h) in
      let l : length doc ≤ room_in n = rw (← room-in) k in
      let e1 : lent ≡ doc ++ zeros (room - length doc) = p.left ∙ ap (λ (x : List ℕ). sets x 0 doc) front ∙ sets-zeros doc room k in
      let e2 : lent ++ drop room out ≡ doc ++ zeros (n - length doc) =
      ap (λ (x : List ℕ). x ++ drop room out) e1
      ∙ ap (λ (x : List ℕ). (doc ++ zeros (room - length doc)) ++ x) (ap (drop room) p.cleared ∙ drop-zeros room n low)
      ∙ append_assoc doc (zeros (room - length doc)) (zeros (n - room))
      ∙ ap (λ (x : List ℕ). doc ++ x) (zeros-more (length doc) room n k low) in
      let e3 : len ≡ length doc = omega (arith, m, k) in
      rw (le-leb _ _ l) (e3, e2)

  -- and all is cleared again
  pub fits-none : {all : List ℕ} → room < len → all ≡ zeros (length (lent ++ drop room out)) → (0 ≡ (fit_written doc n).len) × (all ≡ (fit_written doc n).output)
  unfolding fit_written refused_by
  fits-none h e =
      let m = length-told in
      let l : room_in n < length doc = rw (← room-in) (omega (arith, m, h)) in
      let a : length lent ≡ room = ap length p.left ∙ length-sets (take room out) 0 doc ∙ ap length front ∙ length-replicate room 0 in
      let b : length (drop room out) ≡ n - room = ap length (ap (drop room) p.cleared ∙ drop-zeros room n low) ∙ length-replicate (n - room) 0 in
      let c : length (lent ++ drop room out) ≡ n = let q = length-append lent (drop room out) in let r = low in omega (arith, a, b, q, r) in
      rw (lt-leb _ _ l) (refl, e ∙ ap (λ (x : ℕ). zeros x) c)

-- ---- the answer

-- no document is empty, so that its length 0 means no room
some-document : (rows t pairs : List ℕ) (count : ℕ) (series positions : List ℕ) (amounts : List ℤ) → 1 ≤ length (sheet_text rows t pairs count series positions amounts)
unfolding sheet_text root_text open_text
some-document rows t pairs count series positions amounts = omega arith

none-refused : (doc : List ℕ) (n : ℕ) → 1 ≤ length doc → (fit_written doc n).len ≡ 0 → (fit_written doc n).refusal ≡ no_room_to_write
unfolding fit_written laid_in refused_by
none-refused doc n h e =
    ⊎_elim
    (λ (y : (length doc ≤ room_in n) × (leb (length doc) (room_in n) ≡ true)). let z : length doc ≡ 0 = rw y.1 at e in absurd (omega (arith, z, h)))
    (λ (y : (room_in n < length doc) × (leb (length doc) (room_in n) ≡ false)). rw y.1 refl)
    (leb-cases (length doc) (room_in n))

some-taken : (doc : List ℕ) (n : ℕ) → ((fit_written doc n).len ≡ 0 → ⊥) → (fit_written doc n).refusal ≡ no_refusal
unfolding fit_written laid_in refused_by
some-taken doc n d =
    ⊎_elim
    (λ (y : (length doc ≤ room_in n) × (leb (length doc) (room_in n) ≡ true)). rw y.1 refl)
    (λ (y : (room_in n < length doc) × (leb (length doc) (room_in n) ≡ false)). absurd (d (rw y.1 refl)))
    (leb-cases (length doc) (room_in n))

-- a draft that is fit is one of the two kinds
fit-kind : (d : Draft) → draft_fits d ≡ true → cond (eqb d.kind 1) true (eqb d.kind 2) ≡ true
unfolding draft_fits is_lent is_written
fit-kind d e =
    let k = cond (eqb d.kind 1) true (eqb d.kind 2) in
    let a = leb (cell_of (header_pairs + series_pairs * d.count)) (length d.pairs) in
    let b = pairs_fit d 0 (header_pairs + series_pairs * d.count) in
    let s = leb (cells_of d.count) (length d.series) in
    let r = rows_fit d 0 d.count in
    let e1 = ((and-eq-true_iff (k && a && b && s && r) (draft_legal d)).0 e).0 in
    let e2 = ((and-eq-true_iff (k && a && b && s) r).0 e1).0 in
    let e3 = ((and-eq-true_iff (k && a && b) s).0 e2).0 in
    let e4 = ((and-eq-true_iff (k && a) b).0 e3).0 in
    ((and-eq-true_iff k a).0 e4).0

-- the text that the code puts, into n bytes
abbrev pub put_written : Draft → ℕ → Written
put_written d n = written d.kind d.text d.pairs d.count d.series d.positions d.amounts n

fit-written : (d : Draft) (n : ℕ) → draft_fits d ≡ true → written_of d n ≡ put_written d n
unfolding written_of written
fit-written d n e = rw e (sym (ap (λ (doc : List ℕ). fit_written doc n) (sheet-layout d (fit-kind d e))))

pub permits-unfit : (d : Draft) (n k : ℕ) {t : Bool} {out answer : List ℕ} → t ≡ draft_fits d → t ≡ false → out ≡ zeros n → answer ≡ two_in k content_unfit 0
    → PermittedWrite (written_of d n) k content_unfit out answer
unfolding written_of refused_by
permits-unfit d n k et ef eo ea = rw (sym et ∙ ef) (record { refuses = refl; writes = eo; puts = ea })

module _ (d : Draft) (n k : ℕ) {t : Bool} {len : ℕ} {out answer : List ℕ} (et : t ≡ draft_fits d) (ef : t ≡ true) (el : len ≡ (put_written d n).len) (eo : out ≡ (put_written d n).output) where
  pub permits-none : len ≡ 0 → answer ≡ two_in k no_room_to_write 0 → PermittedWrite (written_of d n) k no_room_to_write out answer
  unfolding written
  permits-none h ea =
      let doc = sheet_text (rows_of d.kind) d.text d.pairs d.count d.series d.positions d.amounts in
      let z : (fit_written doc n).len ≡ 0 = sym el ∙ h in
      let r = none-refused doc n (some-document (rows_of d.kind) d.text d.pairs d.count d.series d.positions d.amounts) z in
      rw (fit-written d n (sym et ∙ ef)) (record { refuses = sym r; writes = eo; puts = rw (r, z) ea })

  pub permits-some : (len ≡ 0 → ⊥) → answer ≡ two_in k no_refusal len → PermittedWrite (written_of d n) k no_refusal out answer
  unfolding written
  permits-some h ea =
      let doc = sheet_text (rows_of d.kind) d.text d.pairs d.count d.series d.positions d.amounts in
      let r = some-taken doc n (λ z. h (el ∙ z)) in
      rw (fit-written d n (sym et ∙ ef)) (record { refuses = sym r; writes = eo; puts = rw (r, ← el) ea })
