-- `value_up_to` meets its contract. The invariant: what was read so far is within the limit, and the digits from here on make of it what all of them come to. Assumes nothing.
use Prim.Native.Nat.{◌≤◌}
use mathlib.Core.Path.{◌≡◌}
use lib.ListN.{drop}
use Rattle.octets.specs.Decimals.{value_from, value_of}
use Rattle.octets.proofs.decimals.value_up_to.Given as goal

abbrev pub invariant-loop-b : goal.invariant-loop-b
invariant-loop-b l =
    (l.value ≤ l.fn.limit) × (value_from l.value (drop l.b-index l.s) ≡ value_of l.s)
