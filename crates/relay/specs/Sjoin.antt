-- SJOIN (document 01, 'SJOIN' and 'What goes out'; document 02, §2): the channel that the line tells of is merged into the slot that its name uses, or opens it.
use Rattle.std.specs.Prelude.{ℕ, Bool, true, List, ◌++◌, set, ltb}
use Rattle.refusal.specs.Rules.{Rule}
use Rattle.channel.specs.Channel.{Channel}
use Rattle.channel.specs.Record.{encode, decode}
use Rattle.channel.specs.Standing.{channel_at}
use Rattle.merging.specs.Merging.{merge, room_rules}
use Rattle.table.specs.Network.{Network, with_slots, with_bans, emptied_if}
use Rattle.table.specs.Slots.{Slot, Held, Free, Full, slot_in, held_in, place_of, slot_rules}
use Rattle.sjoin.specs.Join.{join_rules, channel_in}
use Rattle.telling.specs.Telling.{sjoin, join_message}
use Rattle.message.specs.Content.{source_in}
use Rattle.relay.specs.Arrival.{said}
use Rattle.relay.specs.Meaning.{Meaning}

-- what an incoming channel comes to in its slot: merged into the one that is there, or itself where it is new
abbrev pub result_in : Network → Channel → Slot → Channel
result_in n c (Held k) = merge (decode (held_in n.slots (Held k))) c
result_in n c (Free k) = c
result_in n c Full = c

-- in the slot that its name uses
unfoldable pub resulting : Network → Channel → Channel
resulting n c = result_in n c (slot_in n c.name)

-- the numbers 21 and 22
unfoldable pub joined_rules : Network → Channel → List Rule
joined_rules n c = slot_rules n.slots c.name ++ room_rules (resulting n c)

-- "An SJOIN with an earlier time empties the list": earlier than that of the channel that is there
unfoldable pub is_earlier : Network → Channel → Bool
is_earlier n c = ltb c.time (held_in n.slots (slot_in n c.name)).time

-- the slot holds what results, an earlier time empties its ban list, and all else of the network stays
unfoldable pub joined : Network → Channel → Network
joined n c =
    let k : ℕ = place_of n.slots (slot_in n c.name) in
    with_bans (with_slots n (set n.slots k (encode (resulting n c)))) (emptied_if (is_earlier n c) k n.bans)

-- what goes out is the incoming channel as it stands at the resulting time, under the stored spelling: for a later incoming time without modes, and bare ids
unfoldable pub outgoing : Channel → Channel → Channel
outgoing result c = channel_at result.name result.time c

abbrev pub meaning : Meaning
meaning = record {
  word = sjoin;
  rules = λ n a. join_rules (said a) ++ joined_rules n (channel_in (said a));
  after = λ n a. joined n (channel_in (said a));
  goes = λ n a. true;
  out = λ n a. let c : Channel = channel_in (said a) in join_message (source_in (said a)) (outgoing (resulting n c) c);
}
