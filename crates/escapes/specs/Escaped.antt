-- K6: "references only where a byte needs one (`&amp;`, `&lt;`, `&quot;`, `&#9;`, `&#10;`, `&#13;`)": a text as it is written between
-- double quotes. It is "unescaped", so that each of its bytes means itself: `A&#48;1` is seven characters.
use Rattle.std.specs.Prelude.{ℕ, List, [], ◌∷◌, ◌++◌, cond, eqb}
use Prim.Native.Char.{code}
use Rattle.slices.specs.Text.{text}

-- any other byte, `'`, `>` and those from 7F on among them, stays as it is
unfoldable pub escaped_byte : ℕ → List ℕ
escaped_byte b =
    cond (eqb b (code "&")) (text "&amp;")
    (cond (eqb b (code "<")) (text "&lt;")
    (cond (eqb b 0x22) (text "&quot;")
    (cond (eqb b 0x09) (text "&#9;")
    (cond (eqb b 0x0A) (text "&#10;")
    (cond (eqb b 0x0D) (text "&#13;") (b ∷ []))))))

unfoldable pub escaped : List ℕ → List ℕ
escaped [] = []
escaped (b ∷ v) = escaped_byte b ++ escaped v
