-- "Where the guideline says collapse, leading and trailing spaces are dropped." K4: "A referenced space is dropped at a collapsed end like any other."
use Rattle.std.specs.Prelude.{ℕ, zero, suc, pred, ◌+◌, List, [], ◌∷◌, Bool, cond, eqb, take, drop, Some, None}
use Prim.Native.Char.{code}
use Rattle.characters.specs.Says.{said_at}

-- ---- of what a value says, by which it is judged

unfoldable pub space : ℕ → Bool
space c = eqb c (code " ")

-- leading spaces
unfoldable pub drop_lead : List ℕ → List ℕ
drop_lead [] = []
drop_lead (c ∷ l) = cond (space c) (drop_lead l) (c ∷ l)

-- trailing spaces: a space goes where nothing is left behind it
unfoldable pub kept_before : ℕ → List ℕ → List ℕ
kept_before c [] = cond (space c) [] (c ∷ [])
kept_before c (d ∷ l) = c ∷ d ∷ l

unfoldable pub drop_trail : List ℕ → List ℕ
drop_trail [] = []
drop_trail (c ∷ l) = kept_before c (drop_trail l)

unfoldable pub dropped : List ℕ → List ℕ
dropped l = drop_trail (drop_lead l)

-- ---- of its bytes, for views. K4: "Views still show the raw bytes of what isn't dropped."

-- how many bytes say the leading spaces, after k bytes that are said already
unfoldable pub lead_after : ℕ → List ℕ → ℕ
lead_after k [] = 0
lead_after (suc k) (b ∷ t) = lead_after k t
lead_after zero (b ∷ t) = elim (said_at (b ∷ t)) [ Some (c, n) ↦ cond (space c) (n + lead_after (pred n) t) 0 | None ↦ 0 ]

unfoldable pub lead_of : List ℕ → ℕ
lead_of v = lead_after 0 v

-- how many bytes there are up to the end of the last character that is no space: c is said by n bytes, and `more` bytes are kept behind it
unfoldable pub kept_from : ℕ → ℕ → ℕ → ℕ
kept_from c n more = cond (eqb more 0) (cond (space c) 0 n) (n + more)

unfoldable pub kept_after : ℕ → List ℕ → ℕ
kept_after k [] = 0
kept_after (suc k) (b ∷ t) = kept_after k t
kept_after zero (b ∷ t) = elim (said_at (b ∷ t)) [ Some (c, n) ↦ kept_from c n (kept_after (pred n) t) | None ↦ 0 ]

unfoldable pub kept_bytes : List ℕ → ℕ
kept_bytes v = kept_after 0 v

-- the bytes that are left
unfoldable pub cut_trail : List ℕ → List ℕ
cut_trail v = take (kept_bytes v) v

unfoldable pub trimmed_of : List ℕ → List ℕ
trimmed_of v = cut_trail (drop (lead_of v) v)
