-- `others` meets its contract. The invariant: those of the members so far that stay are left. Assumes nothing.
use mathlib.Core.Path.{◌≡◌}
use Prim.Native.Nat.{◌≤◌}
use lib.ListN.{take}
use Rattle.channel.specs.Members.{roster, others}
use Rattle.channel.proofs.members.others.Given as goal

abbrev pub invariant-loop-m : goal.invariant-loop-m
invariant-loop-m l =
    (l.left.count ≤ l.m-index) × (l.left ≡ roster (others l.id (take l.m-index l.m-items)))
