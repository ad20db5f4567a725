-- Document 01's whole case, a line with a later time for `#Race`, the same with ban lists, two such records at equal times, and one pass over members that don't
-- ascend, as computed from the definitions. Assumes nothing.
use mathlib.Core.Path.{◌≡◌, refl}
use mathlib.Core.List.{List, [], ◌∷◌, map}
use Prim.Native.Nat.{ℕ}
use Rattle.refusal.specs.Numbers.{accepted, too_many_masks}
use Rattle.refusal.specs.Rules.{first_of}
use Rattle.octets.specs.Bytes.{within, is_digit, is_id_byte, is_name_byte, is_key_byte, is_plain}
use Rattle.laws.specs.Lists.{all, same_by, padded, starts_with}
use Rattle.octets.specs.Order.{compare}
use Rattle.octets.specs.Room.{part}
use Rattle.laws.specs.Bits.{has_bit}
use Rattle.ascending.specs.Ascending.{insert, put, unite, taken, against, one_pass, ascends}
use Rattle.names.specs.Fold.{fold, same_name}
use Rattle.names.specs.Names.{is_channel, is_server_id, is_user_id}
use Rattle.channel.specs.Modes.{with_mode, place_among}
use Rattle.channel.specs.Key.{is_key}
use Rattle.channel.specs.Channel.{Channel, member, by_id}
use Rattle.channel.specs.Record.{encode, decode}
use Rattle.channel.specs.WellFormed.{good_time, good_key, good_limit, good_settings, good_member, good_members, channel_tests, in_room, clear, well_formed}
use Rattle.channel.specs.Standing.{counts, settings_at, bare, standing}
use Rattle.channel.proofs.Fields.{peopled}
use Rattle.channel.proofs.Examples.{2cd, 1ab, stored, incoming}
use Rattle.channel.proofs.Witnesses.{second}
use Rattle.bans.specs.declared.BanList.{BanList}
use Rattle.bans.specs.Masks.{is_mask, mask_in, room_of, chunks, rooms, mask_count, used_rooms, masks, encode_list}
use Rattle.bans.specs.WellFormed.{good_room, well_formed_list}
use Rattle.bans.specs.Slots.{list_with}
use Rattle.bans.specs.Records.{whole, well_formed_whole}
use Rattle.merging.specs.Settings.{greater, join_settings}
use Rattle.merging.specs.Merging.{merge, merged_masks, merged_whole, merge_rules, merge_answer}

-- time 1000, k `buoy`, members 1ABAAAAAA 0, 1ABAAAAAB 0, 2CDAAAAAA 2
after : Channel
unfolding stored
after = peopled stored (member (1ab 65) 0 ∷ member (1ab 66) 0 ∷ member 2cd 2 ∷ [])

race : merge stored incoming ≡ after
unfolding merge settings_at standing counts bare insert put unite compare greater join_settings with_mode place_among stored incoming after 1ab 2cd
race = refl

-- ---- with ban lists, of masks of one byte
-- A and b
abbrev first : BanList
first = list_with ((65 ∷ []) ∷ (98 ∷ []) ∷ [])

-- a and c
abbrev other : BanList
other = list_with ((97 ∷ []) ∷ (99 ∷ []) ∷ [])

-- the later line's list goes
race-records : merge_answer (whole (encode stored) first) (whole (encode incoming) other) ≡ record { number = accepted; result = whole (encode after) first }
unfolding merge_answer merge_rules merged_masks merged_whole first_of well_formed_whole well_formed_list encode_list good_room is_mask mask_in part room_of chunks rooms mask_count used_rooms masks well_formed in_room clear channel_tests good_time good_key good_limit good_settings good_member good_members all same_by padded starts_with within is_digit is_id_byte is_name_byte is_key_byte is_plain is_channel is_server_id is_user_id is_key has_bit ascends fold same_name encode decode merge settings_at standing counts bare insert put unite compare greater join_settings with_mode place_among stored incoming after 1ab 2cd
race-records = refl

-- at equal times the masks of both are there, A in the first one's spelling
equal-records : merge_answer (whole (encode stored) first) (whole (encode second) other) ≡ record { number = accepted; result = whole (encode (merge stored second)) (list_with ((65 ∷ []) ∷ (98 ∷ []) ∷ (99 ∷ []) ∷ [])) }
unfolding merge_answer merge_rules merged_masks merged_whole first_of well_formed_whole well_formed_list encode_list good_room is_mask mask_in part room_of chunks rooms mask_count used_rooms masks well_formed in_room clear channel_tests good_time good_key good_limit good_settings good_member good_members all same_by padded starts_with within is_digit is_id_byte is_name_byte is_key_byte is_plain is_channel is_server_id is_user_id is_key has_bit ascends fold same_name encode decode merge settings_at standing counts bare insert put unite compare greater join_settings with_mode place_among stored second 1ab 2cd
equal-records = refl

-- 32 masks of one byte each
many : List (List ℕ)
many = map (λ b. b ∷ []) (33 ∷ 34 ∷ 35 ∷ 36 ∷ 37 ∷ 38 ∷ 39 ∷ 40 ∷ 41 ∷ 42 ∷ 43 ∷ 44 ∷ 45 ∷ 46 ∷ 47 ∷ 48 ∷ 49 ∷ 50 ∷ 51 ∷ 52 ∷ 53 ∷ 54 ∷ 55 ∷ 56 ∷ 57 ∷ 58 ∷ 59 ∷ 60 ∷ 61 ∷ 62 ∷ 63 ∷ 64 ∷ [])

-- at equal times: ! is one of them, a would be the 33rd
up-to-32 : map (λ (b : BanList). merge_answer (whole (encode stored) (list_with many)) (whole (encode second) b)) (list_with ((33 ∷ []) ∷ []) ∷ list_with ((97 ∷ []) ∷ []) ∷ [])
    ≡ record { number = accepted; result = whole (encode (merge stored second)) (list_with many) } ∷ record { number = too_many_masks; result = whole (encode stored) (list_with many) } ∷ []
unfolding many merge_answer merge_rules merged_masks merged_whole first_of well_formed_whole well_formed_list encode_list good_room is_mask mask_in part room_of chunks rooms mask_count used_rooms masks well_formed in_room clear channel_tests good_time good_key good_limit good_settings good_member good_members all same_by padded starts_with within is_digit is_id_byte is_name_byte is_key_byte is_plain is_channel is_server_id is_user_id is_key has_bit ascends fold same_name encode decode merge settings_at standing counts bare insert put unite compare greater join_settings with_mode place_among stored second 1ab 2cd
up-to-32 = refl

-- ---- one pass over members that don't ascend takes them as they stand, where a union puts each in its place
as-they-stand : one_pass by_id (member (1ab 65) 0 ∷ []) (member 2cd 0 ∷ member (1ab 66) 0 ∷ []) ≡ member (1ab 65) 0 ∷ member 2cd 0 ∷ member (1ab 66) 0 ∷ []
unfolding one_pass against taken compare 1ab 2cd
as-they-stand = refl

in_place : unite by_id (member (1ab 65) 0 ∷ []) (member 2cd 0 ∷ member (1ab 66) 0 ∷ []) ≡ member (1ab 65) 0 ∷ member (1ab 66) 0 ∷ member 2cd 0 ∷ []
unfolding unite put insert compare 1ab 2cd
in_place = refl
