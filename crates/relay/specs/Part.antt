-- PART (document 01, 'SJOIN', its last paragraph): a member leaves a channel.
use Rattle.std.specs.Prelude.{ℕ, true, not, ◌&&◌, List, [], ◌∷◌, ◌++◌, length, get_or, set, leb}
use Rattle.refusal.specs.Numbers.{wrong_param_count, bad_source, bad_name, no_such_channel, not_on_channel}
use Rattle.refusal.specs.Rules.{Rule, ◌when◌}
use Rattle.names.specs.Names.{is_channel, is_user_id}
use Rattle.message.specs.Content.{Content, prefix_is, source_in}
use Rattle.writer.specs.Form.{in_capitals}
use Rattle.channel.specs.declared.Record.{Record}
use Rattle.channel.specs.Record.{decode}
use Rattle.channel.specs.Members.{has_member, without}
use Rattle.table.specs.Network.{Network, with_slots, with_bans, emptied_if}
use Rattle.table.specs.Slots.{slot_in, held_in, is_held, place_of}
use Rattle.relay.specs.Arrival.{said}
use Rattle.relay.specs.Meaning.{Meaning}
use Rattle.relay.specs.Leaving.{is_last}

-- the name of the channel
abbrev pub parted_in : Content → List ℕ
parted_in c = get_or c.params 0 []

-- the numbers 12, 13 and 16, of the message by itself
unfoldable pub part_rules : Content → List Rule
part_rules c =
    wrong_param_count when not (leb 1 (length c.params) && leb (length c.params) 2)
    ∷ bad_source when not (prefix_is is_user_id c.prefix)
    ∷ bad_name when not (is_channel (parted_in c))
    ∷ []

-- the numbers 19 and 20
unfoldable pub parted_rules : Network → Content → List Rule
parted_rules n c =
    no_such_channel when not (is_held (slot_in n (parted_in c)))
    ∷ not_on_channel when not (has_member (source_in c) (decode (held_in n.slots (slot_in n (parted_in c)))).members)
    ∷ []

-- the member goes, and an emptied slot is zeroed, its ban list too
unfoldable pub parted : Network → Content → Network
parted n c =
    let k : ℕ = place_of n.slots (slot_in n (parted_in c)) in
    let held : Record = held_in n.slots (slot_in n (parted_in c)) in
    with_bans (with_slots n (set n.slots k (without (source_in c) held))) (emptied_if (is_last (source_in c) held) k n.bans)

-- the line goes out with its parameters as read
abbrev pub meaning : Meaning
meaning = record {
  word = 80 ∷ 65 ∷ 82 ∷ 84 ∷ [];
  rules = λ n a. part_rules (said a) ++ parted_rules n (said a);
  after = λ n a. parted n (said a);
  goes = λ n a. true;
  out = λ n a. in_capitals (said a);
}
