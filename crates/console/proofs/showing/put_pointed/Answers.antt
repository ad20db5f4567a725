-- `put_pointed` meets its contract: the line, LF, SPACEs and the caret are added one after the other. Assumes nothing.
use mathlib.Core.List.{[], ◌∷◌}
use Rattle.octets.specs.Bytes.{lf}
use Rattle.octets.proofs.Room.{added, adds_then}
use Rattle.console.specs.Showing.{caret}
use Rattle.console.proofs.Pointing.{pointed-parts}
use Rattle.console.proofs.showing.put_pointed.Goals as goal

pub returns : goal.returns
returns c =
    let ended = c in
    let spaces = c in
    let under = c in
    let shown = c in
    let body = c in
    let a = body.args in
    rw (← pointed-parts a.place a.line.now _ body.part.ensures.bytes)
    (adds_then _ _ _ _ _ _ _ (caret ∷ lf ∷ [])
    (adds_then _ _ _ _ _ _ _ _
    (adds_then _ _ _ _ _ _ _ (lf ∷ []) shown.put_shown-shown.ensures (added _ _ _ _ _ under.put-under.ensures.place under.put-under.ensures.bytes))
    spaces.put_spaces-indented.ensures)
    (added _ _ _ _ _ ended.put.ensures.place ended.put.ensures.bytes))
