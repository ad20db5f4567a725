-- `put_link` meets its contract: a comma and the digits are added one after the other, or nothing. Assumes nothing.
use mathlib.Core.Path.{sym, ◌∙◌}
use mathlib.Core.List.{[], ◌∷◌}
use Rattle.octets.specs.Bytes.{comma}
use Rattle.octets.proofs.Room.{added, adds-nothing, adds_then}
use Rattle.console.proofs.answers.put_link.Goals as goal

pub returns-then-not-has_link : goal.returns-then-not-has_link
returns-then-not-has_link c =
    rw (sym c.has_link.ensures ∙ c.if-not-has_link.true) (adds-nothing _ _)

pub returns : goal.returns
returns c =
    let digits = c.put_decimal in
    let mark = c in
    let test = c in
    rw (sym test.has_link.ensures ∙ test.if-not-has_link.false)
    (adds_then _ _ _ _ _ _ (comma ∷ []) _ (added _ _ _ _ _ mark.put-next.ensures.place mark.put-next.ensures.bytes) (added _ _ _ _ _ digits.ensures.place digits.ensures.bytes))
