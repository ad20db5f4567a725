-- `take_all` meets its contract. At the head of the loop the replay from the place on, into the table so far, comes to the whole one: a record that is taken leads to
-- the next such place, and any other turn is the last. Assumes nothing.
use mathlib.Core.Path.{◌≡◌}
use Prim.Native.Nat.{◌-◌}
use lib.ListN.{length, drop}
use Rattle.table.specs.Network.{table_with}
use Rattle.replay.specs.Replay.{replay_from}
use Rattle.replay.proofs.take_all.Given as goal

abbrev pub invariant-loop-record : goal.invariant-loop-record
invariant-loop-record l =
    replay_from l.last (table_with l.head l.bans) l.at (drop l.at l.log) ≡ replay_from l.last (table_with l.initial.head l.initial.bans) l.initial.at (drop l.initial.at l.log)

abbrev pub decreases-loop-record : goal.decreases-loop-record
decreases-loop-record l =
    length l.log - l.at
