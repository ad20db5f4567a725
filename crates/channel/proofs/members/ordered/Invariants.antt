-- `ordered` meets its contract. The invariant: the members so far are in order, and whatever is above `last` is above them all. Assumes nothing.
use Rattle.channel.proofs.Ordering.{Inserted}
use Rattle.channel.proofs.members.ordered.Given as goal

abbrev pub invariant-loop-m : goal.invariant-loop-m
invariant-loop-m l =
    Inserted l.m-items l.m-index l.all l.last
