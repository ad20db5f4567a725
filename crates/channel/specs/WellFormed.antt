-- A well-formed record (document 01, 'The channel record').
use Rattle.std.specs.Prelude.{ℕ, ◌+◌, ◌^◌, Bool, not, ◌&&◌, ◌||◌, List, [], ◌∷◌, length, drop, leb, ltb}
use Rattle.std.specs.Bool.{beq}
use Rattle.laws.specs.Lists.{all, is_nil}
use Rattle.octets.specs.Bytes.{is_zero}
use Rattle.ascending.specs.Ascending.{ascends}
use Rattle.names.specs.Names.{name_limit, is_channel, is_user_id}
use Rattle.channel.specs.declared.Member.{Member}
use Rattle.channel.specs.declared.Record.{Record}
use Rattle.channel.specs.Limits.{member_limit, key_limit, time_limit, limit_limit}
use Rattle.channel.specs.Modes.{mode_count, has_mode, key_mode, limit_mode}
use Rattle.channel.specs.Key.{is_key}
use Rattle.channel.specs.Settings.{Settings}
use Rattle.channel.specs.Channel.{Channel, voice, operator, by_id}
use Rattle.channel.specs.Record.{decode}

-- ---- of the channel
-- time 1 to 4,294,967,295
unfoldable pub good_time : ℕ → Bool
good_time time = leb 1 time && leb time time_limit

-- a key, present exactly with k
unfoldable pub good_key : ℕ → List ℕ → Bool
good_key modes key = beq (has_mode modes key_mode) (not (is_nil key)) && (is_nil key || is_key key)

-- a limit of 1 to 65,535, present exactly with l
unfoldable pub good_limit : ℕ → ℕ → Bool
good_limit modes limit = beq (has_mode modes limit_mode) (ltb 0 limit) && leb limit limit_limit

-- modes of one byte, with the key and the limit that they ask for
unfoldable pub good_settings : Settings → Bool
good_settings s = ltb s.modes (2 ^ mode_count) && (good_key s.modes s.key && good_limit s.modes s.limit)

-- the most that a status can be
abbrev pub both_statuses : ℕ
both_statuses = voice + operator

-- a user id with a status
unfoldable pub good_member : Member → Bool
good_member m = is_user_id m.id && leb m.status both_statuses

-- 1 to 64 members, user ids strictly ascending
unfoldable pub good_members : List Member → Bool
good_members l = leb 1 (length l) && (leb (length l) member_limit && (all good_member l && ascends by_id l))

-- the tests of a channel
unfoldable pub channel_tests : Channel → List Bool
channel_tests c = is_channel c.name ∷ good_time c.time ∷ good_settings c.settings ∷ good_members c.members ∷ []

-- ---- of the record that holds it
abbrev pub is_vacant : Member → Bool
is_vacant m = all is_zero m.id && is_zero m.status

-- what is in use keeps to its room
unfoldable pub in_room : Record → Bool
in_room r = leb r.name_len name_limit && (leb r.key_len key_limit && leb r.count member_limit)

-- unused room is zero
unfoldable pub clear : Record → Bool
clear r = all is_zero (drop r.name_len r.name) && (all is_zero (drop r.key_len r.key) && all is_vacant (drop r.count r.members))

unfoldable pub well_formed : Record → Bool
well_formed r = all (λ t. t) (in_room r ∷ clear r ∷ channel_tests (decode r))

-- ---- of a free slot, which is zero
abbrev pub zero_tests : Record → List Bool
zero_tests r =
    all is_zero r.name
    ∷ is_zero r.name_len
    ∷ is_zero r.time
    ∷ is_zero r.modes
    ∷ all is_zero r.key
    ∷ is_zero r.key_len
    ∷ is_zero r.limit
    ∷ all is_vacant r.members
    ∷ is_zero r.count
    ∷ []

-- every part of the record is zero
unfoldable pub is_blank : Record → Bool
is_blank r = all (λ t. t) (zero_tests r)
