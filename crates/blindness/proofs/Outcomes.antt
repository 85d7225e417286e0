-- The theorem `blind`, of two runs of the code: what `read` answers and leaves is what its contract permits (`Permitted`). Assumes nothing.
use Prim.Native.Nat.{ℕ}
use mathlib.Core.Path.{◌≡◌, sym, ap, ◌∙◌}
use mathlib.Core.List.{List}
use mathlib.Core.Logic.{◌⊎◌, inl, inr, ⊎_elim}
use lib.IntN.{ℤ, pos}
use lib.ListN.{get_or}
use Rattle.notes.specs.declared.Shape.{Shape}
use Rattle.reader.specs.Answer.{read_of, Permitted}
use Rattle.reader.specs.declared.Answer.{Answer}
use Rattle.blindness.specs.Readable.{DifferInQty}
use Rattle.blindness.specs.Blind.{OwnDigitsDiffer}
use Rattle.blindness.proofs.Blind.{blind}

module _ (x y : List ℕ) (ns np na : ℕ) (shape : Shape) (nb : ℕ) (d : DifferInQty x y) where
  -- two runs of `read` on x and on y, with tables and note buffers of equal lengths
  pub two_runs : {a a' : Answer} {s s' p p' : List ℕ} {m m' : List ℤ} {n n' : List ℕ}
      → Permitted (read_of x ns np na shape nb) a s p m n → Permitted (read_of y ns np na shape nb) a' s' p' m' n'
      → (a ≡ a') × (n ≡ n') × (s ≡ s') × (p ≡ p') × ((k : ℕ) → (get_or m k (pos 0) ≡ get_or m' k (pos 0)) ⊎ OwnDigitsDiffer ns np na shape nb x y k)
  two_runs {a} {a'} {s} {s'} {p} {p'} {m} {m'} {n} {n'} u w =
      let b = blind x y ns np na shape nb d in (
        u.answers ∙ b.answer ∙ sym w.answers,
        u.note-left ∙ b.note ∙ sym w.note-left,
        u.series-left ∙ b.series ∙ sym w.series-left,
        u.positions-left ∙ b.positions ∙ sym w.positions-left,
        λ k.
            ⊎_elim
            (λ e. inl (ap (λ (l : List ℤ). get_or l k (pos 0)) u.amounts-left ∙ e ∙ sym (ap (λ (l : List ℤ). get_or l k (pos 0)) w.amounts-left)))
            (λ e. inr e)
            (b.amounts k),
      )
