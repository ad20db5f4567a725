-- `put_decimal` meets its contract. The invariant: the digits of what is left, and behind them those gathered, are the digits of n. As n has no more
-- than twenty digits, there is a place for each. Assumes nothing.
use mathlib.Core.Path.{◌≡◌}
use mathlib.Core.List.{◌++◌}
use Prim.Native.Nat.{◌+◌, ◌<◌}
use lib.ListN.{length, drop}
use Rattle.octets.specs.Decimals.{digits_of}
use Rattle.octets.proofs.decimals.put_decimal.Given as goal

abbrev pub invariant-loop-left : goal.invariant-loop-left
invariant-loop-left l =
    (l.first < 20) × (length l.digits ≡ 20) × (digits_of l.left ++ drop (l.first + 1) l.digits ≡ digits_of l.n)

abbrev pub decreases-loop-left : goal.decreases-loop-left
decreases-loop-left l =
    l.left
