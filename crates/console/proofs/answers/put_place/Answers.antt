-- `put_place` meets its contract: a SPACE and the digits are added one after the other, or nothing. Assumes nothing.
use mathlib.Core.List.{[], ◌∷◌}
use borrow.Author.Tests.{eq-eqb, ne_eqb}
use Rattle.octets.specs.Bytes.{space}
use Rattle.octets.proofs.Room.{added, adds-nothing, adds_then}
use Rattle.console.specs.Answers.{place_text}
use Rattle.console.proofs.answers.put_place.Goals as goal

pub returns-then-place-eq0 : goal.returns-then-place-eq0
unfolding place_text
returns-then-place-eq0 c =
    rw (eq-eqb _ 0 c.if-place-eq0.true) (adds-nothing _ _)

pub returns : goal.returns
unfolding place_text
returns c =
    let digits = c.put_decimal in
    let mark = c in
    let test = c in
    rw (ne_eqb _ 0 test.if-place-eq0.false)
    (adds_then _ _ _ _ _ _ (space ∷ []) _ (added _ _ _ _ _ mark.put-next.ensures.place mark.put-next.ensures.bytes) (added _ _ _ _ _ digits.ensures.place digits.ensures.bytes))
