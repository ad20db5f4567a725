-- Merging keeps a channel proper, and so a record well formed: each fact holds of what a side gives, and of what two sides give together. Assumes nothing.
use Prim.Native.Nat.{ℕ, ◌≤◌, min}
use mathlib.Core.Path.{◌≡◌}
use mathlib.Core.Bool.{true}
use native.Mathlib.Omega.{arith}
use lib.ListN.{length}
use Rattle.ascending.proofs.Ascends.{Ascending, ascending-unite, all-unite, length-unite-left}
use Rattle.channel.specs.declared.Record.{Record}
use Rattle.channel.specs.Limits.{member_limit}
use Rattle.channel.specs.Channel.{Channel, by_id}
use Rattle.channel.specs.Record.{encode, decode}
use Rattle.channel.specs.WellFormed.{good_member, well_formed}
use Rattle.channel.specs.Standing.{settings_at, standing, channel_at}
use Rattle.channel.proofs.Proper.{Proper, both-statuses, well-says, encode-well}
use Rattle.channel.proofs.Statuses.{stays-by_id}
use Rattle.channel.proofs.Standing.{ascending-standing, proper-at}
use Rattle.merging.specs.Merging.{merge}
use Rattle.merging.proofs.Settings.{proper-join}

-- the members of both ascend
pub ascending-merge : (a b : Channel) → Ascending by_id a.members → Ascending by_id (merge a b).members
unfolding merge
ascending-merge a b h =
    let m : ℕ = min a.time b.time in
    ascending-unite by_id stays-by_id (standing m a) (standing m b) (ascending-standing m a h)

-- ---- the channel that two merge to
-- it is proper where it has room
pub proper-merge : (a b : Channel) → Proper a → Proper b → length (merge a b).members ≤ member_limit → Proper (merge a b)
unfolding merge
proper-merge a b p q h =
    let m : ℕ = min a.time b.time in
    let x : Proper (channel_at a.name m a) = proper-at a.name m a p.name (omega (arith, p.from, q.from)) (omega (arith, p.until)) p in
    let y : Proper (channel_at a.name m b) = proper-at a.name m b p.name (omega (arith, p.from, q.from)) (omega (arith, p.until)) q in
    record {
      name = p.name;
      from = x.from;
      until = x.until;
      settings = proper-join (settings_at m a) (settings_at m b) x.settings y.settings;
      some = omega (arith, length-unite-left by_id (standing m a) (standing m b), x.some);
      few = h;
      listed = all-unite by_id good_member both-statuses _ _ x.listed y.listed;
      ascending = ascending-merge a b p.ascending;
    }

-- so two well-formed records merge to one that is well formed
pub merge-well : (a b : Record) → well_formed a ≡ true → well_formed b ≡ true → length (merge (decode a) (decode b)).members ≤ member_limit
    → well_formed (encode (merge (decode a) (decode b))) ≡ true
merge-well a b h k n = encode-well (merge (decode a) (decode b)) (proper-merge (decode a) (decode b) (well-says a h).holds (well-says b k).holds n)
