-- `put_spaces` meets its contract. The invariant: what was put, with the SPACEs that are left, is all of them. The measure: the SPACEs left. Assumes nothing.
use lib.ListN.{replicate}
use Rattle.octets.specs.Bytes.{space}
use Rattle.octets.proofs.Room.{Begun}
use Rattle.console.proofs.showing.put_spaces.Given as goal

abbrev pub invariant-loop-left : goal.invariant-loop-left
invariant-loop-left l =
    Begun l.initial.out l.at l.out l.next (replicate l.left space) (replicate l.count space)

abbrev pub decreases-loop-left : goal.decreases-loop-left
decreases-loop-left l =
    l.left
