-- The rooms of a list, as they are given one after the other.
use Rattle.std.specs.Prelude.{List, ℕ}
use Rattle.bans.specs.declared.rooms.Rooms.{Rooms}
use Rattle.bans.specs.Masks.{chunks}

-- those still to come
abbrev pub rooms_left : Rooms → List (List ℕ)
rooms_left r = chunks r.left r.bytes.now
