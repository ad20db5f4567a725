-- `place_of` meets its contract. The invariant: b stands first as far behind the blocks passed over as it does in the rest. Assumes nothing.
use Prim.Native.Nat.{◌+◌, ◌-◌, ◌≤◌}
use mathlib.Core.Path.{◌≡◌}
use lib.ListN.{length}
use Rattle.octets.specs.Search.{before}
use Rattle.octets.proofs.place_of.Given as goal

abbrev pub invariant-loop-block : goal.invariant-loop-block
invariant-loop-block l =
    (length l.rest ≤ length l.s) × (length l.s - length l.rest + length (before l.b l.rest) ≡ length (before l.b l.s))

abbrev pub decreases-loop-block : goal.decreases-loop-block
decreases-loop-block l =
    length l.rest
