-- `differing` meets its contract. The invariant: where there are no bits so far, the first j bytes have the same fold. Assumes nothing.
use mathlib.Core.Path.{◌≡◌}
use mathlib.Core.List.{map}
use lib.ListN.{take}
use Rattle.names.specs.Fold.{fold}
use Rattle.bans.proofs.order.differing.Given as goal

abbrev pub invariant-loop-j : goal.invariant-loop-j
invariant-loop-j l =
    l.bits ≡ 0 → map fold (take l.j l.a) ≡ map fold (take l.j l.b)
