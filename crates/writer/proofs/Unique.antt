-- The contracts of the two exported functions leave one possible answer and one possible content of each lent slice. Assumes nothing.
use Prim.Native.Nat.{ℕ}
use mathlib.Core.Path.{◌≡◌}
use mathlib.Core.List.{List}
use Rattle.lists.proofs.Unique.{one}
use Rattle.drafts.specs.Written.{Written}
use Rattle.writer.specs.Permitted.{PermittedWrite, PermittedText}

pub lumintayag-write-one : (o : Written) (k : ℕ) {r r' : ℕ} {t t' a a' : List ℕ} → PermittedWrite o k r t a → PermittedWrite o k r' t' a' → (r ≡ r') × (t ≡ t') × (a ≡ a')
lumintayag-write-one o k x y = (one x.refuses y.refuses, one x.writes y.writes, one x.puts y.puts)

pub lumintayag-unescape-one : (value before : List ℕ) {n n' : ℕ} {t t' : List ℕ} → PermittedText value before n t → PermittedText value before n' t' → (n ≡ n') × (t ≡ t')
lumintayag-unescape-one value before x y = (one x.answers y.answers, one x.writes y.writes)
