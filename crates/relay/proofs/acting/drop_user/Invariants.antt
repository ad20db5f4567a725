-- `drop_user` meets its contract. The invariant: the user has left the first k slots, and of their lists those have gone whose last member it was; the rest are
-- as they were. Assumes nothing.
use mathlib.Core.Path.{◌≡◌}
use lib.ListN.{take}
use Rattle.laws.proofs.Mapped.{mapped}
use Rattle.channel.specs.Members.{without}
use Rattle.relay.specs.Leaving.{left_lists}
use Rattle.relay.proofs.acting.drop_user.Given as goal

abbrev pub invariant-loop-k : goal.invariant-loop-k
invariant-loop-k l = record {
  slots : l.slots ≡ mapped (without l.user) l.initial.slots l.k;
  lists : l.bans ≡ left_lists l.user 0 (take l.k l.initial.slots) l.initial.bans;
}
