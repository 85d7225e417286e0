-- Demand 3, and the promise on identifications, of two runs of what C, Rust and the program call: `lumintayag_read_v3` and `put_reply`. Assumes nothing.
use Prim.Native.Nat.{ℕ}
use mathlib.Core.Path.{◌≡◌, sym, ap, ◌∙◌}
use mathlib.Core.List.{List}
use mathlib.Core.Logic.{◌⊎◌}
use lib.IntN.{ℤ, pos}
use lib.ListN.{get_or}
use Rattle.series.specs.Row.{cells_of}
use Rattle.notes.specs.declared.Shape.{Shape}
use Rattle.notes.specs.declared.Shape.TheVariants.{Old}
use Rattle.reader.specs.declared.Answer.{Answer}
use Rattle.reader.specs.Answer.{read_of, Permitted}
use Rattle.reader.proofs.Unique.{read_one}
use Rattle.library.specs.Cells.{cells, seven_of, PermittedCall}
use Rattle.library.proofs.Unique.{lumintayag-read-v3-one}
use Rattle.replies.specs.Reply.{note_written, reply_to, PermittedReply}
use Rattle.replies.proofs.Unique.{put-reply-one}
use Rattle.blindness.specs.Readable.{DifferInQty}
use Rattle.blindness.specs.Blind.{OwnDigitsDiffer}
use Rattle.blindness.proofs.Blind.{blind}
use Rattle.blindness.proofs.Outcomes.{two_runs}
use Rattle.blindness.specs.Renamed.{Renamed}
use Rattle.blindness.proofs.Renamed.{renamed-same}

module _ (x y : List ℕ) (d : DifferInQty x y) where
  pub two-calls : (ns np na : ℕ) (shape : Shape) (nb k : ℕ) {r r' : ℕ} {s s' p p' : List ℕ} {m m' : List ℤ} {n n' a a' : List ℕ}
      → PermittedCall (read_of x ns np na shape nb) k r s p m n a → PermittedCall (read_of y ns np na shape nb) k r' s' p' m' n' a'
      → (r ≡ r') × (a ≡ a') × (n ≡ n') × (s ≡ s') × (p ≡ p') × ((j : ℕ) → (get_or m j (pos 0) ≡ get_or m' j (pos 0)) ⊎ OwnDigitsDiffer ns np na shape nb x y j)
  two-calls ns np na shape nb k u w =
      let t = two_runs x y ns np na shape nb d u.leaves w.leaves in (
        u.refuses ∙ ap (λ (b : Answer). b.refusal) t.0 ∙ sym w.refuses,
        u.puts ∙ ap (λ (b : Answer). cells k (seven_of b)) t.0 ∙ sym w.puts,
        t.1,
        t.2,
        t.3,
        t.4,
      )

  same-reply : reply_to x ≡ reply_to y
  unfolding reply_to note_written
  same-reply = let b = blind x y (cells_of 64) 2048 2048 Old 16 d in rw (d.long, b.answer, b.note)

  pub two-replies : (out : List ℕ) {r r' : ℕ} {b b' : List ℕ} → PermittedReply (reply_to x) out r b → PermittedReply (reply_to y) out r' b' → (r ≡ r') × (b ≡ b')
  two-replies out u w =
      let v = rw (sym same-reply) at w in
      (u.counted ∙ sym v.counted, u.text ∙ sym v.text)

-- where identifications are replaced the outcome is one, so that two runs are two of it
module _ (x y : List ℕ) (d : Renamed x y) where
  pub renamed_runs : (ns np na : ℕ) (shape : Shape) (nb : ℕ) {a a' : Answer} {s s' p p' : List ℕ} {m m' : List ℤ} {n n' : List ℕ}
      → Permitted (read_of x ns np na shape nb) a s p m n → Permitted (read_of y ns np na shape nb) a' s' p' m' n'
      → (a ≡ a') × (s ≡ s') × (p ≡ p') × (m ≡ m') × (n ≡ n')
  renamed_runs ns np na shape nb u w = read_one y ns np na shape nb (rw (renamed-same x y d ns np na shape nb) at u) w

  pub renamed-calls : (ns np na : ℕ) (shape : Shape) (nb k : ℕ) {r r' : ℕ} {s s' p p' : List ℕ} {m m' : List ℤ} {n n' a a' : List ℕ}
      → PermittedCall (read_of x ns np na shape nb) k r s p m n a → PermittedCall (read_of y ns np na shape nb) k r' s' p' m' n' a'
      → (r ≡ r') × (s ≡ s') × (p ≡ p') × (m ≡ m') × (n ≡ n') × (a ≡ a')
  renamed-calls ns np na shape nb k u w = lumintayag-read-v3-one y ns np na shape nb k (rw (renamed-same x y d ns np na shape nb) at u) w

  renamed-reply : reply_to x ≡ reply_to y
  unfolding reply_to note_written
  renamed-reply = rw (d.replaced.long, renamed-same x y d (cells_of 64) 2048 2048 Old 16)

  pub renamed-replies : (out : List ℕ) {r r' : ℕ} {b b' : List ℕ} → PermittedReply (reply_to x) out r b → PermittedReply (reply_to y) out r' b' → (r ≡ r') × (b ≡ b')
  renamed-replies out u w = put-reply-one y out (rw renamed-reply at u) w
