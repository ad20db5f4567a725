-- `place_for` meets its contract. The invariant: the mask is put behind the first i, whatever follows. Assumes nothing.
use mathlib.Core.Path.{◌≡◌}
use Rattle.bans.specs.Masks.{room_of, mask_count, used_rooms}
use Rattle.bans.proofs.Placing.{Behind}
use Rattle.bans.proofs.order.place_for.Given as goal

abbrev pub invariant-loop-at : goal.invariant-loop-at
invariant-loop-at l =
    (l.n ≡ mask_count l.s) × Behind (room_of l.m) (used_rooms l.s) l.at
