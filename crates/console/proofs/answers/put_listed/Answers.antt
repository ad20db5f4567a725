-- `put_listed` meets its contract: links, SPACE and line are added one after the other, and have room. Assumes nothing.
use mathlib.Core.List.{[], ◌∷◌}
use native.Mathlib.Omega.{arith}
use Rattle.octets.specs.Bytes.{space}
use Rattle.octets.proofs.Room.{added-at-front, added, adds_then}
use Rattle.console.specs.Answers.{relayed_text}
use Rattle.console.proofs.Answering.{relayed-few}
use Rattle.console.proofs.answers.put_listed.Goals as goal

pub returns : goal.returns
unfolding relayed_text
returns c =
    let ended = c in
    let spaced = c in
    let linked = c in
    let a = linked.args in
    added-at-front _ _ _ _
    (adds_then _ _ _ _ _ _ _ _
    (adds_then _ _ _ _ _ _ _ (space ∷ []) linked.put_set-linked.ensures (added _ _ _ _ _ spaced.put-spaced.ensures.place spaced.put-spaced.ensures.bytes))
    (added _ _ _ _ _ ended.put.ensures.place ended.put.ensures.bytes))
    (omega (arith, relayed-few a.set a.line.now (omega arith)))
