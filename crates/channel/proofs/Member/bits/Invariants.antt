-- `Member::bits` meets its contract. The invariant: the id is zero exactly if there are no bits so far and the bytes from i on are zero. Assumes nothing.
use mathlib.Core.Path.{◌≡◌}
use mathlib.Core.Bool.{◌&&◌}
use lib.ListN.{drop}
use Rattle.laws.specs.Lists.{all}
use Rattle.octets.specs.Bytes.{is_zero}
use Rattle.channel.proofs.Member.bits.Given as goal

abbrev pub invariant-loop-i : goal.invariant-loop-i
invariant-loop-i l =
    all is_zero l.fn.self.id ≡ is_zero l.bits && all is_zero (drop l.i l.fn.self.id)
