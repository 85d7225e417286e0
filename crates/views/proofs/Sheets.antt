-- How the table of a document is filled around its items. Assumes nothing.
use Prim.Native.Nat.{ℕ, ◌≤◌, ◌<◌}
use mathlib.Core.Path.{◌≡◌, refl, sym, ap, ◌∙◌}
use mathlib.Core.List.{List}
use mathlib.Core.Bool.{true, false}
use mathlib.Core.Logic.{⊎_elim}
use native.Mathlib.Omega.{arith}
use lib.Dec.{ltb}
use lib.ListN.{length}
use borrow.Author.Tests.{lt-ltb, le-ltb, eq-eqb, ne_eqb, ltb-false}
use Rattle.std.specs.Prelude.{Ok, Err}
use Rattle.lists.specs.Zeros.{zeros}
use Rattle.lists.proofs.Cases.{bool_cases}
use Rattle.prolog.specs.Prolog.{begin}
use Rattle.guideline.specs.Rows.{every_row, rows_in, rows_of}
use Rattle.guideline.proofs.Each.{rows-in}
use Rattle.states.specs.Moves.{begun}
use Rattle.states.specs.declared.Room.{Room}
use Rattle.reader.specs.Items.{items_from}
use Rattle.reader.specs.Reading.{refused_at}
use Rattle.reader.specs.Judging.{judged}
use Rattle.reader.specs.declared.Found.{Found}
use Rattle.views.specs.Layout.{header_pairs, cell_of, view_room}
use Rattle.views.specs.Shown.{items_shown}
use Rattle.views.specs.Views.{shown_after, sheet_shown, Sight, sight, sight_by, sheet_viewed, six_in, PermittedViews}
use Rattle.views.proofs.Slots.{rows_few}

module _ (rows doc t : List ℕ) where
  pub sheet-from : (n : ℕ) → begin doc ≡ Ok n → items_shown rows (items_from doc n) 0 t ≡ sheet_shown rows doc t
  unfolding sheet_shown shown_after
  sheet-from n e = rw e refl

  pub sheet-none : (p : ℕ) → begin doc ≡ Err p → t ≡ sheet_shown rows doc t
  unfolding sheet_shown shown_after
  sheet-none p e = rw e refl

-- the rows of a kind
pub own-rows : {l every : List ℕ} (kind : ℕ) → every ≡ every_row → l ≡ rows_in every kind → l ≡ rows_of kind
own-rows kind a b = b ∙ rw a (rows-in kind)

pub own-few : {l every : List ℕ} (kind : ℕ) → every ≡ every_row → l ≡ rows_in every kind → length l ≤ 34
own-few kind a b = rw (own-rows kind a b) (rows_few kind)

-- a document that is accepted is not too long
pub judged-within : (room : Room) (doc : List ℕ) (n : ℕ) {f : Found} → f ≡ judged room doc n → f.refusal ≡ 0 → length doc ≤ 1048576
unfolding judged refused_at
judged-within room doc n e z =
    ⊎_elim
    (λ (y : ltb 1048576 (length doc) ≡ true). let u : ◌≡◌ {A = ℕ} 1 0 = rw y at (sym (ap (λ (g : Found). g.refusal) e) ∙ z) in absurd (omega (arith, u)))
    (λ (y : ltb 1048576 (length doc) ≡ false). ltb-false 1048576 (length doc) y)
    (bool_cases (ltb 1048576 (length doc)))

module _ (doc : List ℕ) (n : ℕ) where
  pub viewed-short : n < cell_of header_pairs → {f : Found} {t : List ℕ} → f ≡ refused_at 4 0 begun → t ≡ zeros n → sight f t ≡ sheet_viewed doc n
  unfolding sheet_viewed
  viewed-short h e z = rw (lt-ltb _ _ h, e, z) refl

  module _ (h : cell_of header_pairs ≤ n) {room : Room} {f : Found} (er : room ≡ view_room n) (ef : f ≡ judged room doc n) where
    pub viewed-refused : (f.refusal ≡ 0 → ⊥) → {t : List ℕ} → t ≡ zeros n → sight f t ≡ sheet_viewed doc n
    unfolding sheet_viewed sight_by
    viewed-refused k z = rw (le-ltb _ _ h, ← er, ← ef, ne_eqb _ _ k, z) refl

    pub viewed-taken : f.refusal ≡ 0 → {rows t u : List ℕ} → rows ≡ rows_of f.kind → t ≡ zeros n → u ≡ sheet_shown rows doc t → sight f u ≡ sheet_viewed doc n
    unfolding sheet_viewed sight_by
    viewed-taken k r z e = rw (le-ltb _ _ h, ← er, ← ef, eq-eqb _ _ k, e, z, r) refl

pub permitted : {o : Sight} {f : Found} {t a : List ℕ} {k : ℕ} → sight f t ≡ o → a ≡ six_in k f → PermittedViews o k f.refusal t a
permitted {o} {f} {t} {a} {k} e p =
    record { refuses = ap (λ (s : Sight). s.told.refusal) e; shows = ap (λ (s : Sight). s.table) e; puts = p ∙ ap (λ (s : Sight). six_in k s.told) e }
