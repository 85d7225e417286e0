-- What a value says, as characters.
use Rattle.std.specs.Prelude.{ℕ, zero, suc, pred, ◌-◌, List, [], ◌∷◌, Bool, true, false, cond, not, length, leb, ltb, eqb, Option, Some, None}
use Prim.Native.Char.{code}
use Rattle.slices.specs.Bytes.{byte}
use Rattle.slices.specs.Walk.{WalkStep, go, stop, walk}
use Rattle.characters.specs.Utf8.{char_at}
use Rattle.characters.specs.References.{reference_at}

-- every byte belongs to an XML character
unfoldable pub char_next : Unit {0} → Option (ℕ × ℕ) → WalkStep (Unit {0}) Bool
char_next u (Some (c, n)) = go n tt
char_next u None = stop false

unfoldable pub chars_over : Unit {0} → Bool
chars_over u = true

unfoldable pub all_chars : List ℕ → Bool
all_chars s = walk char_at char_next chars_over tt 0 s

-- What stands first in a value: a reference, which begins with `&`, or a character as it is.
pub data Met : Type 0 where
  referred : Option (ℕ × ℕ) → Met
  standing : Option (ℕ × ℕ) → Met

unfoldable pub met : List ℕ → Met
met s = cond (eqb (byte s 0) (code "&")) (referred (reference_at s)) (standing (char_at s))

-- "judged on what the reference stands for": the character either way
unfoldable pub char_of : Met → Option (ℕ × ℕ)
char_of (referred x) = x
char_of (standing x) = x

-- The character that a value says first, and how many bytes say it. A byte that belongs to none says 0, which is no character, so
-- that no form takes it.
unfoldable pub said_by : Option (ℕ × ℕ) → Option (ℕ × ℕ)
said_by (Some (c, n)) = Some (c, n)
said_by None = Some (0, 1)

unfoldable pub said_at : List ℕ → Option (ℕ × ℕ)
said_at v = cond (eqb (length v) 0) None (said_by (char_of (met v)))

-- all that it says, after k bytes that are said already
unfoldable pub says_after : ℕ → List ℕ → List ℕ
says_after k [] = []
says_after (suc k) (b ∷ t) = says_after k t
says_after zero (b ∷ t) = elim (said_at (b ∷ t)) [ Some (c, n) ↦ c ∷ says_after (pred n) t | None ↦ [] ]

unfoldable pub says : List ℕ → List ℕ
says v = says_after 0 v

abbrev pub said_use : Option (ℕ × ℕ) → ℕ
said_use (Some (c, n)) = n
said_use None = 1

-- ---- shortcuts of the code: no contract above this crate depends on them

-- a byte that is seen at once to say itself, whatever follows it
unfoldable pub itself : ℕ → Bool
itself b = cond (leb 0x27 b) (ltb b 0x80) false

-- the last byte of a value where it says itself and ends no reference, else 0
unfoldable pub own_byte : ℕ → ℕ
own_byte b = cond (eqb b (code ";")) 0 (cond (itself b) b 0)

unfoldable pub own_end : List ℕ → ℕ
own_end v = own_byte (byte v (length v - 1))

-- the last byte of a value, where it says itself, is not y, which is not 0
unfoldable pub other_byte : ℕ → ℕ → Bool
other_byte b y = cond (eqb b y) false (cond (eqb y 0) false (not (eqb (own_byte b) 0)))

unfoldable pub ends_otherwise : List ℕ → ℕ → Bool
ends_otherwise v y = other_byte (byte v (length v - 1)) y

-- how many bytes at the front of both are the same and are seen to say themselves
unfoldable pub own_len : List ℕ → List ℕ → ℕ
own_len [] b = 0
own_len (x ∷ a) [] = 0
own_len (x ∷ a) (y ∷ b) = cond (eqb x y) (cond (itself x) (suc (own_len a b)) 0) 0
