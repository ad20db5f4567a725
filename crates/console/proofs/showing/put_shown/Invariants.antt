-- `put_shown` meets its contract. The invariant: what was put, with the bytes that are left from here on, is all of them as they are shown. The measure: the bytes left.
-- Assumes nothing.
use Prim.Native.Nat.{◌-◌}
use mathlib.Core.List.{map}
use lib.ListN.{length, drop}
use Rattle.octets.proofs.Room.{Begun}
use Rattle.console.specs.Showing.{shown_byte}
use Rattle.console.proofs.showing.put_shown.Given as goal

abbrev pub invariant-loop-i : goal.invariant-loop-i
invariant-loop-i l =
    Begun l.initial.out l.at l.out l.next (map shown_byte (drop l.i l.bytes)) (map shown_byte l.bytes)

abbrev pub decreases-loop-i : goal.decreases-loop-i
decreases-loop-i l =
    length l.bytes - l.i
