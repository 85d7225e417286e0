use mathlib.Core.Path.{refl, sym, ◌∙◌}
use native.Mathlib.Omega.{arith}
use Rattle.library.proofs.lumintayag_read_note_v2.Goals as goal

pub returns-in-Some : goal.returns-in-Some
returns-in-Some c = let e = sym c.read_note.ensures ∙ c.in-Some.is in
    rw e (record { refuses = refl; puts = c.put_numbers.ensures })

pub returns-in-None : goal.returns-in-None
returns-in-None c = let e = sym c.read_note.ensures ∙ c.in-None.is in
    rw e (record { refuses = omega arith; puts = c.put_numbers-in-None.ensures })
