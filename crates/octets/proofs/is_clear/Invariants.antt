-- `is_clear` meets its contract. The invariant: b isn't among the bytes exactly if it wasn't found so far and isn't among those from here on. Assumes nothing.
use mathlib.Core.Path.{◌≡◌}
use mathlib.Core.Bool.{◌&&◌}
use lib.ListN.{drop}
use lib.Dec.{eqb}
use Rattle.laws.specs.Lists.{all}
use Rattle.octets.specs.Search.{differs}
use Rattle.octets.proofs.is_clear.Given as goal

abbrev pub invariant-loop-x : goal.invariant-loop-x
invariant-loop-x l =
    all (differs l.b) l.s ≡ eqb l.found 0 && all (differs l.b) (drop l.x-index l.s)
