-- `odd_bytes` meets its contract. The invariant: all bytes behind the first may stand in an id exactly if there are no bits so far and those from here on
-- may. Assumes nothing.
use mathlib.Core.Path.{◌≡◌}
use mathlib.Core.Bool.{◌&&◌}
use lib.ListN.{drop}
use lib.Dec.{eqb}
use Rattle.laws.specs.Lists.{all}
use Rattle.octets.specs.Bytes.{is_id_byte}
use Rattle.names.proofs.ids.odd_bytes.Given as goal

abbrev pub invariant-loop-b : goal.invariant-loop-b
invariant-loop-b l =
    all is_id_byte l.b-items ≡ eqb l.bits 0 && all is_id_byte (drop l.b-index l.b-items)
