-- The contracts of `read`, `judge` and `quoted_of` leave one possible answer and one possible content of each lent buffer. Assumes nothing.
use Prim.Native.Nat.{ℕ}
use mathlib.Core.Path.{◌≡◌}
use mathlib.Core.List.{List}
use lib.IntN.{ℤ}
use Rattle.lists.proofs.Unique.{one}
use Rattle.lists.specs.Zeros.{zeros}
use Rattle.slices.specs.declared.Span.{Span}
use Rattle.notes.specs.declared.Shape.{Shape}
use Rattle.states.specs.declared.Room.{Room}
use Rattle.reader.specs.Judging.{judged}
use Rattle.reader.specs.declared.Found.{Found}
use Rattle.reader.specs.Answer.{read_of, Permitted}
use Rattle.reader.specs.Rows.{quoted}
use Rattle.reader.specs.declared.Answer.{Answer}

pub read_one : (doc : List ℕ) (ns np na : ℕ) (shape : Shape) (nb : ℕ) {a a' : Answer} {s s' p p' : List ℕ} {m m' : List ℤ} {n n' : List ℕ}
    → Permitted (read_of doc ns np na shape nb) a s p m n → Permitted (read_of doc ns np na shape nb) a' s' p' m' n'
    → (a ≡ a') × (s ≡ s') × (p ≡ p') × (m ≡ m') × (n ≡ n')
read_one doc ns np na shape nb x y = (
  one x.answers y.answers,
  one x.series-left y.series-left,
  one x.positions-left y.positions-left,
  one x.amounts-left y.amounts-left,
  one x.note-left y.note-left,
)

pub judge-one : (room : Room) (doc : List ℕ) (n : ℕ) {f f' : Found} {s s' : List ℕ} → f ≡ judged room doc n → s ≡ zeros n → f' ≡ judged room doc n → s' ≡ zeros n
    → (f ≡ f') × (s ≡ s')
judge-one room doc n a b c d = (one a c, one b d)

pub quoted-of-one : (v : Span) (s : List ℕ) {r r' : List ℕ} → r ≡ quoted v s → r' ≡ quoted v s → r ≡ r'
quoted-of-one v s = one
