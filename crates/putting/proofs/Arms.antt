-- The arms for the names, and the last arm of each of the two functions that put them.
-- Assumes nothing.
use mathlib.Core.Path.{◌≡◌, refl, sym, ap}
use mathlib.Core.List.{List, []}
use mathlib.Core.Logic.{⊎_elim}
use Prim.Native.Nat.{ℕ, zero, suc, ◌+◌, ◌-◌, ◌≤◌}
use native.Mathlib.Omega.{arith}
use lib.ListN.{length, get_or-eq_default}
use lib.Seq.{sets}
use borrow.Author.Tests.{le-ltb}
use Rattle.lists.proofs.Cases.{ltb-cases}
use Rattle.elements.specs.Names.{names}
use Rattle.layouts.specs.Layout.{element_name}
use Rattle.putting.specs.Sheet.{landed, name_text, later_text}
use Rattle.putting.proofs.Landing.{Put, told}

-- e is i
pub arm : (f : ℕ → List ℕ) {i e at r : ℕ} {out o : List ℕ} → e ≡ i → Put out at (f i) r o → (r ≡ landed out at (f e)) × (o ≡ sets out at (f e))
arm f h p = told (ap f (sym h)) p

-- k is none of the m numbers from a on
abbrev pub NoneFrom : ℕ → ℕ → ℕ → Type 0
NoneFrom a zero k = Unit
NoneFrom a (suc m) k = NoneFrom a m k × (k ≡ a + m → ⊥)

past-from : (a m k : ℕ) → NoneFrom a m k → a ≤ k → a + m ≤ k
past-from a zero k r h = omega (arith, h)
past-from a (suc m) k r h = let l = past-from a m k r.0 h in let n = r.1 in omega arith

none_named : (e : ℕ) → 45 ≤ e → name_text e ≡ []
unfolding name_text element_name names
none_named zero h = refl
none_named (suc e) h = let l : length names ≡ 44 = refl in get_or-eq_default names [] {n = suc e - 1} (omega (arith, l, h))

pub none-later : (e : ℕ) → NoneFrom 32 13 e → [] ≡ later_text e
unfolding later_text
none-later e r =
    ⊎_elim
    (λ y. rw y.1 refl)
    (λ y. let h = past-from 32 13 e r y.0 in rw y.1 (sym (none_named e h)))
    (ltb-cases e 32)

pub later-named : (e : ℕ) → NoneFrom 1 31 e → later_text e ≡ name_text e
unfolding later_text name_text
later-named zero r = refl
later-named (suc e) r = let h = past-from 1 31 (suc e) r (omega arith) in rw (le-ltb _ _ h) refl
