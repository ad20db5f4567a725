-- `are_vacant` meets its contract. The invariant: all places are unused exactly if there are no bits so far and those from the next on are. Assumes nothing.
use mathlib.Core.Path.{◌≡◌}
use mathlib.Core.Bool.{◌&&◌}
use lib.ListN.{drop}
use Rattle.laws.specs.Lists.{all}
use Rattle.octets.specs.Bytes.{is_zero}
use Rattle.channel.specs.WellFormed.{is_vacant}
use Rattle.channel.proofs.well.are_vacant.Given as goal

abbrev pub invariant-loop-m : goal.invariant-loop-m
invariant-loop-m l =
    all is_vacant l.places ≡ is_zero l.bits && all is_vacant (drop l.m-index l.places)
