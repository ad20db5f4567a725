-- QUIT (document 01, 'SJOIN', its last paragraph): a user leaves every channel.
use Rattle.std.specs.Prelude.{true, not, List, [], ◌∷◌, map, length, leb}
use Rattle.refusal.specs.Numbers.{wrong_param_count, bad_source}
use Rattle.refusal.specs.Rules.{Rule, ◌when◌}
use Rattle.names.specs.Names.{is_user_id}
use Rattle.message.specs.Content.{Content, prefix_is, source_in}
use Rattle.writer.specs.Form.{in_capitals}
use Rattle.channel.specs.Members.{without}
use Rattle.table.specs.Network.{Network, with_slots, with_bans}
use Rattle.relay.specs.Arrival.{said}
use Rattle.relay.specs.Meaning.{Meaning}
use Rattle.relay.specs.Leaving.{left_lists}

-- the numbers 12 and 13
unfoldable pub quit_rules : Content → List Rule
quit_rules c =
    wrong_param_count when not (leb (length c.params) 1)
    ∷ bad_source when not (prefix_is is_user_id c.prefix)
    ∷ []

-- emptied slots are zeroed, their ban lists too
unfoldable pub quitted : Network → Content → Network
quitted n c = with_bans (with_slots n (map (without (source_in c)) n.slots)) (left_lists (source_in c) 0 n.slots n.bans)

-- nothing in the network refuses it, and the line goes out with its parameters as read
abbrev pub meaning : Meaning
meaning = record {
  word = 81 ∷ 85 ∷ 73 ∷ 84 ∷ [];
  rules = λ n a. quit_rules (said a);
  after = λ n a. quitted n (said a);
  goes = λ n a. true;
  out = λ n a. in_capitals (said a);
}
