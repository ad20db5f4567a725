-- `zero_from` meets its contract. The invariant: all bytes are zero exactly if there are no bits so far and those from here on are. Assumes nothing.
use mathlib.Core.Path.{◌≡◌}
use mathlib.Core.Bool.{◌&&◌}
use lib.ListN.{drop}
use Rattle.octets.specs.Bytes.{is_zero}
use Rattle.laws.specs.Lists.{all}
use Rattle.octets.proofs.zero_from.Given as goal

abbrev pub invariant-loop-b : goal.invariant-loop-b
invariant-loop-b l =
    all is_zero l.b-items ≡ is_zero l.bits && all is_zero (drop l.b-index l.b-items)
