-- `put_spaces` meets its contract. The invariant: what was put, with the SPACEs that are left, is all of them. The measure: the SPACEs left. Assumes nothing.
use native.Mathlib.Omega.{arith}
use Rattle.octets.proofs.Room.{added, begun, begun-step, begun-end}
use Rattle.console.proofs.Pointing.{spaces-step, spaces-past}
use Rattle.console.proofs.showing.put_spaces.Goals as goal

pub loop-left-init : goal.loop-left-init
loop-left-init c =
    begun _ _ _

pub loop-left-preserved : goal.loop-left-preserved
loop-left-preserved c =
    let loop = c in
    let put = c.put-next in
    begun-step _ _ _ _ _ _ _ _ _ _ (spaces-step loop.loop-left.left (omega arith)) (added _ _ _ _ _ put.ensures.place put.ensures.bytes) loop.loop-left.invariant

pub returns : goal.returns
returns c =
    begun-end _ _ _ _ _ _ (spaces-past c.loop-left.left (omega arith)) c.loop-left.invariant
