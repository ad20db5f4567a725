-- The record that holds a channel: arrays with the unused room zero.
use Rattle.std.specs.Prelude.{[], length, take, replicate}
use Rattle.laws.specs.Lists.{padded}
use Rattle.names.specs.Names.{name_limit, user_id_length}
use Rattle.channel.specs.declared.Member.{Member}
use Rattle.channel.specs.declared.Record.{Record}
use Rattle.channel.specs.Limits.{member_limit, key_limit}
use Rattle.channel.specs.Settings.{no_settings}
use Rattle.channel.specs.Channel.{Channel, member}

-- an unused place
abbrev pub nobody : Member
nobody = member (replicate user_id_length 0) 0

unfoldable pub encode : Channel → Record
encode c = record {
  name = padded name_limit 0 c.name;
  name_len = length c.name;
  time = c.time;
  modes = c.settings.modes;
  key = padded key_limit 0 c.settings.key;
  key_len = length c.settings.key;
  limit = c.settings.limit;
  members = padded member_limit nobody c.members;
  count = length c.members;
}

unfoldable pub decode : Record → Channel
decode r = record {
  name = take r.name_len r.name;
  time = r.time;
  settings = record { modes = r.modes; key = take r.key_len r.key; limit = r.limit };
  members = take r.count r.members;
}

-- no channel: a free slot
abbrev pub no_channel : Channel
no_channel = record { name = []; time = 0; settings = no_settings; members = [] }

unfoldable pub empty_record : Record
empty_record = encode no_channel
