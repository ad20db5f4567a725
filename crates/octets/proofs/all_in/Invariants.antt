-- `all_in` meets its contract. The invariant: all bytes are of the class exactly if there are no bits so far and those from here on are. Assumes nothing.
use mathlib.Core.Path.{◌≡◌}
use mathlib.Core.Bool.{◌&&◌}
use lib.ListN.{drop}
use lib.Dec.{eqb}
use Rattle.octets.specs.Bytes.{in_class}
use Rattle.laws.specs.Lists.{all}
use Rattle.octets.proofs.all_in.Given as goal

abbrev pub invariant-loop-b : goal.invariant-loop-b
invariant-loop-b l =
    all (in_class l.class) l.s ≡ eqb l.odd 0 && all (in_class l.class) (drop l.b-index l.s)
