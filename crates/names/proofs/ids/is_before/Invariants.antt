-- `is_before` meets its contract. The invariant: what stands from i on is smaller exactly if `less` says so. Assumes nothing.
use mathlib.Core.Path.{◌≡◌}
use lib.ListN.{drop}
use Rattle.octets.specs.Order.{compare, is_less}
use Rattle.names.proofs.ids.is_before.Given as goal

abbrev pub invariant-loop-i : goal.invariant-loop-i
invariant-loop-i l =
    l.less ≡ is_less (compare (drop l.i l.a) (drop l.i l.b))
