use mathlib.Core.Path.{◌≡◌, ◌∙◌}
use mathlib.Core.Bool.{false}
use Rattle.characters.specs.Says.{says}
use Rattle.numbers.specs.Digits.{only_digits}
use Rattle.numbers.proofs.Forms.{first-over, first_char, only_none, only-over, number-over, number-zero, number-no, number_is}
use Rattle.numbers.proofs.number_within.Goals.{then-d-eq0-via-then-d-eq0, then-d-eq0-via-else-d-eq0+then-not-is_over}
use Rattle.numbers.proofs.number_within.Goals as goal

pub returns-then-c-eq48 : goal.returns-then-c-eq48
returns-then-c-eq48 c = number-zero _ (first_char c.args.v.now c.said_at.ensures.said c.in-Some.is (rw c.in-Some.is at c.said_at.ensures.size).0) c.if-c-eq48.true

pub returns-then-d-eq0 : goal.returns-then-d-eq0
returns-then-d-eq0 c =
    let o : only_digits c.args.most (says c.args.v.now) ≡ false =
    elim c.then-d-eq0.branch [
      | then-d-eq0-via-then-d-eq0 w ↦ only_none _ _ c.digits_of-d.ensures.count w.if-d-eq0.true
      | then-d-eq0-via-else-d-eq0+then-not-is_over w ↦ only-over _ _ c.digits_of-d.ensures.count w.if-d-eq0.false w.rest.ensures.list c.digits_of-d.ensures.left w.is_over.ensures ∙ w.if-not-is_over.true
    ] in
    number-no _ (first_char c.args.v.now c.said_at.ensures.said c.in-Some.is (rw c.in-Some.is at c.said_at.ensures.size).0) c.if-c-eq48.false o

pub returns-in-None : goal.returns-in-None
returns-in-None c = number-over _ (first-over c.args.v.now c.said_at.ensures.said c.in-None.is)

pub returns-else-not-is_over : goal.returns-else-not-is_over
returns-else-not-is_over c = number_is _ (first_char c.args.v.now c.said_at.ensures.said c.in-Some.is (rw c.in-Some.is at c.said_at.ensures.size).0) c.if-c-eq48.false (only-over c.args.most (says c.args.v.now) c.digits_of-d.ensures.count c.if-d-eq0.false c.rest.ensures.list c.digits_of-d.ensures.left c.is_over.ensures ∙ c.if-not-is_over.false) c.digits_of-d.ensures.count c.digits_of-d.ensures.value
