-- Two outcomes that a contract permits are equal: the answer, and what the lent buffer holds at exit.
-- Assumes nothing.
use Prim.Native.Nat.{ℕ, ◌+◌, min}
use mathlib.Core.Path.{◌≡◌}
use mathlib.Core.List.{List}
use lib.ListN.{length, take, drop, set}
use lib.Seq.{sets}
use Rattle.lists.proofs.Unique.{one, both}
use Rattle.lists.specs.Zeros.{zeros}
use Rattle.lines.specs.Pieces.{pieces_in}
use Rattle.lines.specs.Text.{line_of, hex_bytes, hex_text}

pub input-buffer-one : {r r' : List ℕ} → r ≡ zeros 262144 → r' ≡ zeros 262144 → r ≡ r'
input-buffer-one = one

pub line-at-one : (s : List ℕ) (at : ℕ) {r r' : List ℕ} → r ≡ line_of (drop at s) → r' ≡ line_of (drop at s) → r ≡ r'
line-at-one s at = one

pub put-byte-one : (out : List ℕ) (n x : ℕ) {r r' : ℕ} {b b' : List ℕ}
    → (r ≡ min (n + 1) (length out)) × (b ≡ set out n x) → (r' ≡ min (n + 1) (length out)) × (b' ≡ set out n x) → (r ≡ r') × (b ≡ b')
put-byte-one out n x = both

pub put-text-one : (s out : List ℕ) {r r' : ℕ} {b b' : List ℕ}
    → (r ≡ min (length s) (length out)) × (b ≡ sets out 0 s) → (r' ≡ min (length s) (length out)) × (b' ≡ sets out 0 s) → (r ≡ r') × (b ≡ b')
put-text-one s out = both

pub put-bytes-one : (line out : List ℕ) {r r' : ℕ} {b b' : List ℕ}
    → (r ≡ min (length (hex_bytes 16 line)) (length out)) × (b ≡ sets out 0 (hex_bytes 16 line))
    → (r' ≡ min (length (hex_bytes 16 line)) (length out)) × (b' ≡ sets out 0 (hex_bytes 16 line)) → (r ≡ r') × (b ≡ b')
put-bytes-one line out = both

pub put-hex-one : (s out : List ℕ) {r r' : ℕ} {b b' : List ℕ}
    → (r ≡ min (length (hex_text s)) (length out)) × (b ≡ sets out 0 (hex_text s))
    → (r' ≡ min (length (hex_text s)) (length out)) × (b' ≡ sets out 0 (hex_text s)) → (r ≡ r') × (b ≡ b')
put-hex-one s out = both

-- what is left of the pieces, and the bytes of an answer that is no error
pub lines-of-one : (s : List ℕ) {l l' : List (List ℕ)} → l ≡ pieces_in 10 s → l' ≡ pieces_in 10 s → l ≡ l'
lines-of-one s = one

pub words-of-one : (s : List ℕ) {l l' : List (List ℕ)} → l ≡ pieces_in 32 s → l' ≡ pieces_in 32 s → l ≡ l'
words-of-one s = one

pub bytes-of-one : (line : List ℕ) {b b' : List ℕ} → b ≡ hex_bytes 16 line → b' ≡ hex_bytes 16 line → b ≡ b'
bytes-of-one line = one

pub case-bytes-one : (line : List ℕ) {b b' : List ℕ} → b ≡ take 4096 (hex_bytes 16 line) → b' ≡ take 4096 (hex_bytes 16 line) → b ≡ b'
case-bytes-one line = one
