-- `compare` meets its contract. The invariant: what is left stands to each other as the whole does. Assumes nothing.
use mathlib.Core.Path.{◌≡◌}
use lib.ListN.{drop}
use Rattle.octets.specs.Order.{compare}
use Rattle.octets.proofs.compare.Given as goal

abbrev pub invariant-loop-i : goal.invariant-loop-i
invariant-loop-i l =
    compare (drop l.i l.a) (drop l.i l.b) ≡ compare l.a l.b
