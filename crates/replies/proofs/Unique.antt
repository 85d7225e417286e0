-- Two outcomes that a contract permits are equal: the answer, and what the lent buffer holds at exit.
-- Assumes nothing.
use Prim.Native.Nat.{ℕ}
use mathlib.Core.Path.{◌≡◌}
use mathlib.Core.List.{List}
use Rattle.lists.proofs.Unique.{one}
use Rattle.replies.specs.Reply.{reply_to, PermittedReply}

pub put-reply-one : (input out : List ℕ) {r r' : ℕ} {b b' : List ℕ} → PermittedReply (reply_to input) out r b → PermittedReply (reply_to input) out r' b'
    → (r ≡ r') × (b ≡ b')
put-reply-one input out x y = (one x.counted y.counted, one x.text y.text)
