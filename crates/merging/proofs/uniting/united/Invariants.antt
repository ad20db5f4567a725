-- `united` meets its contract. The invariant: what is gathered so far, with what is left, comes to the whole pass. Assumes nothing.
use Rattle.ascending.specs.Ascending.{one_pass}
use Rattle.channel.specs.Channel.{by_id}
use Rattle.merging.specs.Private.Sides.{members_of}
use Rattle.merging.specs.Private.Uniting.{union_left}
use Rattle.merging.proofs.OnePass.{Begun}
use Rattle.merging.proofs.uniting.united.Given as goal

abbrev pub invariant-loop-m : goal.invariant-loop-m
invariant-loop-m l =
    (goal.iterator-loop-m).can_next l.m-iterator
    × (goal.iterator-loop-m).is_finite l.m-iterator
    × Begun l.all (union_left l.m-iterator) (one_pass by_id (members_of l.fn.first) (members_of l.fn.second))
