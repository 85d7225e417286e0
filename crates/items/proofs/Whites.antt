-- White space up to a `<` is a whole text. Assumes nothing.
use Prim.Native.Nat.{ℕ, suc, ◌<◌}
use mathlib.Core.Path.{◌≡◌, refl, sym, ap, ◌∙◌}
use mathlib.Core.List.{List, [], ◌∷◌}
use mathlib.Core.Bool.{true, false}
use mathlib.Core.Logic.{⊎_elim}
use native.Mathlib.Omega.{arith}
use lib.Dec.{eqb}
use borrow.Author.Tests.{eq-eqb, ne_eqb}
use Rattle.lists.proofs.Cases.{bool_cases}
use Rattle.slices.specs.Bytes.{byte}
use Rattle.slices.specs.Run.{run}
use Rattle.slices.specs.Same.{first_at}
use Rattle.slices.specs.Text.{text}
use Rattle.slices.proofs.Runs.{run_by}
use Rattle.slices.proofs.Firsts.{first-nil, first_by}
use Rattle.attributes.specs.Names.{white}
use Rattle.items.specs.Text.{text_to, text_item}
use Rattle.items.specs.declared.Item.TheVariants.{Text}

-- `<` is not white space
tag-not-white : (b : ℕ) → white b ≡ true → eqb 0x3C b ≡ false
unfolding white
tag-not-white b w = ne_eqb 0x3C b (λ e. let z : white 0x3C ≡ true = rw (← e) at w in let q : ◌≡◌ {A = ℕ} 0 1 = cc in omega arith)

upto : (s : List ℕ) → byte s (run white s) ≡ 0x3C → first_at (text "<") s ≡ run white s
unfolding byte run
upto [] e = first-nil 0x3C
upto (b ∷ s) e =
    ⊎_elim
    (λ y.
    let w = run_by white b s y in
    let more : byte s (run white s) ≡ 0x3C = sym (ap (byte (b ∷ s)) w) ∙ e in
    first_by 0x3C b s (tag-not-white b y) ∙ ap suc (upto s more) ∙ sym w)
    (λ y.
    let w = run_by white b s y in
    let f : b ≡ 0x3C = sym (ap (byte (b ∷ s)) w) ∙ e in
    first_by 0x3C b s (eq-eqb 0x3C b (sym f)) ∙ sym w)
    (bool_cases (white b))

pub white-only : (before : ℕ) (s : List ℕ) (w : ℕ) → w ≡ run white s → 0 < w → byte s w ≡ 0x3C → Text true w ≡ text_item before s
unfolding text_item text_to
white-only before s w e p h =
    let f : first_at (text "<") s ≡ w = upto s (rw e at h) ∙ sym e in
    simp (f, ← e, ne_eqb w 0 (omega arith), eq-eqb w w refl)
