-- `unite` meets its contract. The invariant: the masks still to come, put into the list so far, come to what all come to. Assumes nothing.
use mathlib.Core.Path.{◌≡◌}
use mathlib.Core.List.{map}
use Rattle.bans.specs.Masks.{mask_in, masks}
use Rattle.bans.specs.Putting.{put_all}
use Rattle.bans.specs.Private.Rooms.{rooms_left}
use Rattle.bans.proofs.unite.Given as goal

abbrev pub invariant-loop-room : goal.invariant-loop-room
invariant-loop-room l =
    (goal.iterator-loop-room).can_next l.room-iterator
    × (goal.iterator-loop-room).is_finite l.room-iterator
    × (put_all (map mask_in (rooms_left l.room-iterator)) l.list ≡ put_all (masks l.fn.b.room) l.fn.a)
