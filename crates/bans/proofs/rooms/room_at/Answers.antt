-- `room_at` meets its contract: the part of that place. Assumes nothing.
use mathlib.Core.Path.{◌≡◌, ap, ◌∙◌}
use Prim.Native.Nat.{ℕ, ◌+◌, ◌*◌, min}
use native.Mathlib.Omega.{arith}
use lib.ListN.{length}
use Rattle.octets.specs.Room.{place_in}
use Rattle.bans.specs.Limits.{room_size}
use Rattle.bans.specs.Private.Placing.{room_in}
use Rattle.bans.proofs.rooms.room_at.Goals as goal

pub returns : goal.returns
unfolding room_in
returns c =
    let a = c.args in
    let at : ℕ = 1 + room_size * a.i in
    let e : min at (min (at + room_size) (length a.s.now)) ≡ min at (length a.s.now) = omega arith in record { bytes = c.part.ensures.bytes; place = c.part.ensures.place ∙ ap (place_in a.s) e }
