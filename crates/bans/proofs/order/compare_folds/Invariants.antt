-- `compare_folds` meets its contract. The invariant: the folds of what is left stand to each other as the whole folds do. Assumes nothing.
use mathlib.Core.Path.{◌≡◌}
use mathlib.Core.List.{map}
use lib.ListN.{length}
use Rattle.octets.specs.Order.{compare}
use Rattle.names.specs.Fold.{fold}
use Rattle.bans.proofs.order.compare_folds.Given as goal

abbrev pub invariant-loop-x : goal.invariant-loop-x
invariant-loop-x l =
    compare (map fold l.a) (map fold l.b) ≡ compare (map fold l.fn.a) (map fold l.fn.b)

abbrev pub decreases-loop-x : goal.decreases-loop-x
decreases-loop-x l =
    length l.a
