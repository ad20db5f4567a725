-- `compare_bytes` meets its contract. The invariant: the folds of what is left stand to each other as the whole folds do, and as much was taken of one as of the
-- other. Assumes nothing.
use mathlib.Core.Path.{◌≡◌}
use mathlib.Core.List.{map}
use Prim.Native.Nat.{◌+◌}
use lib.ListN.{length}
use Rattle.std.specs.Iterator.Adapters.{zip_first, zip_second}
use Rattle.std.specs.Slice.Iter.{iter_rest}
use Rattle.octets.specs.Order.{compare}
use Rattle.names.specs.Fold.{fold}
use Rattle.bans.proofs.order.compare_bytes.Given as goal

abbrev pub invariant-loop-x : goal.invariant-loop-x
invariant-loop-x l =
    (goal.iterator-loop-x).can_next l.x-iterator
    × (goal.iterator-loop-x).is_finite l.x-iterator
    × (compare (map fold (iter_rest (zip_first l.x-iterator))) (map fold (iter_rest (zip_second l.x-iterator))) ≡ compare (map fold l.a) (map fold l.b))
    × (length (iter_rest (zip_first l.x-iterator)) + length l.b ≡ length (iter_rest (zip_second l.x-iterator)) + length l.a)
