-- `are_good` meets its contract. The invariant: all slots are good, each with its list, exactly if those from k on are. Assumes nothing.
use mathlib.Core.Path.{◌≡◌}
use Rattle.table.proofs.WellFormed.{all_from}
use Rattle.table.proofs.slots.are_good.Given as goal

abbrev pub invariant-loop-k : goal.invariant-loop-k
invariant-loop-k l =
    all_from l.bans l.k l.slots ≡ all_from l.bans 0 l.slots
