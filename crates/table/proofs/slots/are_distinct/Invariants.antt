-- `are_distinct` meets its contract. The invariant: no two of all slots are alike exactly if no two of those that are left are. Assumes nothing.
use mathlib.Core.Path.{◌≡◌}
use lib.ListN.{length}
use Rattle.table.specs.Table.{distinct}
use Rattle.table.proofs.slots.are_distinct.Given as goal

abbrev pub invariant-loop-left : goal.invariant-loop-left
invariant-loop-left l =
    distinct l.slots ≡ distinct l.left

abbrev pub decreases-loop-left : goal.decreases-loop-left
decreases-loop-left l =
    length l.left
