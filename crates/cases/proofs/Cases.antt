-- Every case marked P holds, as computed from the definitions; with another expected answer none does, so that the claim isn't
-- hollow. Assumes nothing.
use mathlib.Core.Path.{◌≡◌, refl}
use mathlib.Core.Bool.{true, false, not}
use mathlib.Core.List.{List, [], ◌∷◌}
use mathlib.Core.Option.{some, none}
use Rattle.refusal.specs.Numbers.{empty_prefix, bad_command}
use Rattle.refusal.specs.Rules.{first_of}
use Rattle.octets.specs.Bytes.{within, is_plain, is_letter, is_digit, is_id_byte, is_name_byte, is_key_byte}
use Rattle.laws.specs.Lists.{all, same_by, padded, starts_with}
use Rattle.octets.specs.Order.{compare}
use Rattle.laws.specs.Bits.{has_bit}
use Rattle.ascending.specs.Ascending.{insert, put, unite, ascends}
use Rattle.names.specs.Fold.{fold, same_name}
use Rattle.names.specs.Names.{is_channel, is_server_id, is_user_id}
use Rattle.glob.specs.Mask.{star, question, matches_byte, first_then, after_run, match_rules, match_answer}
use Rattle.glob.specs.Mask as mask
use Rattle.message.specs.Grammar.{word, spaces, prefix, prefix_end, command_start, command, command_end, is_command, rest, params}
use Rattle.message.specs.Content.{content_in}
use Rattle.message.specs.Reading.{ends_line, body_of, body_rules, line_rules, number_for, is_read, answer, reading_of, content_of}
use Rattle.writer.specs.Form.{same_prefix, same_content}
use Rattle.channel.specs.Modes.{with_mode}
use Rattle.channel.specs.Key.{is_key}
use Rattle.channel.specs.Record.{encode, decode}
use Rattle.channel.specs.WellFormed.{good_time, good_settings, good_key, good_limit, good_member, good_members, channel_tests, in_room, clear, well_formed}
use Rattle.channel.specs.Standing.{counts, settings_at, standing}
use Rattle.bans.specs.Masks.{mask_count, used_rooms, masks}
use Rattle.bans.specs.WellFormed.{well_formed_list}
use Rattle.bans.specs.Slots.{empty_list}
use Rattle.bans.specs.Records.{well_formed_whole}
use Rattle.merging.specs.Settings.{greater, join_settings}
use Rattle.merging.specs.Merging.{merge, merged_masks, merged_whole, merge_rules, merge_answer}
use Rattle.cases.specs.Cases.{Case, reads, gets, equals, matches, keys, keyed, holds, cases}

pub cases-hold : all holds cases ≡ true
unfolding cases holds all same_by same_prefix same_content reading_of answer number_for content_of content_in is_read line_rules body_rules first_of ends_line body_of is_plain starts_with within word spaces prefix prefix_end command_start command command_end is_command is_letter is_digit rest params same_name fold match_answer match_rules mask.matches after_run first_then matches_byte merge_answer merge_rules merged_masks merged_whole keyed empty_list well_formed_whole well_formed_list masks used_rooms mask_count well_formed in_room clear channel_tests good_time good_settings good_key good_limit good_member good_members is_channel is_name_byte is_key is_key_byte is_user_id is_server_id is_id_byte has_bit ascends encode decode padded with_mode merge settings_at standing counts greater join_settings compare unite put insert
cases-hold = refl

-- ---- the same cases with wrong answers
wrong : List Case
wrong =
    -- `PING` with an empty parameter
    reads (80 ∷ 73 ∷ 78 ∷ 71 ∷ []) (record { prefix = none; command = 80 ∷ 73 ∷ 78 ∷ 71 ∷ []; params = [] ∷ [] })
    -- `:a  X b :` without the empty one, and without its prefix
    ∷ reads (58 ∷ 97 ∷ 32 ∷ 32 ∷ 88 ∷ 32 ∷ 98 ∷ 32 ∷ 58 ∷ []) (record { prefix = some (97 ∷ []); command = 88 ∷ []; params = (98 ∷ []) ∷ [] })
    ∷ reads (58 ∷ 97 ∷ 32 ∷ 32 ∷ 88 ∷ 32 ∷ 98 ∷ 32 ∷ 58 ∷ []) (record { prefix = none; command = 88 ∷ []; params = (98 ∷ []) ∷ [] ∷ [] })
    -- an empty line and `: X` as a bad command, and `12` as an empty prefix or as a command
    ∷ gets [] bad_command
    ∷ gets (58 ∷ 32 ∷ 88 ∷ []) bad_command
    ∷ gets (49 ∷ 50 ∷ []) empty_prefix
    ∷ reads (49 ∷ 50 ∷ []) (record { prefix = none; command = 49 ∷ 50 ∷ []; params = [] })
    -- names and masks the other way round
    ∷ equals (35 ∷ 65 ∷ 91 ∷ []) (35 ∷ 97 ∷ 123 ∷ []) false
    ∷ equals (35 ∷ 126 ∷ []) (35 ∷ 94 ∷ []) false
    ∷ matches (star ∷ []) [] false
    ∷ matches (question ∷ []) [] true
    ∷ matches (97 ∷ star ∷ 98 ∷ star ∷ 99 ∷ []) (97 ∷ 98 ∷ 120 ∷ 98 ∷ 99 ∷ []) false
    ∷ matches (97 ∷ star ∷ 98 ∷ []) (97 ∷ 98 ∷ 99 ∷ []) true
    -- the smaller key, and no key
    ∷ keys (98 ∷ 117 ∷ 111 ∷ 121 ∷ []) (98 ∷ 117 ∷ 111 ∷ 121 ∷ 115 ∷ []) (98 ∷ 117 ∷ 111 ∷ 121 ∷ [])
    ∷ keys (98 ∷ 117 ∷ 111 ∷ 121 ∷ []) (98 ∷ 117 ∷ 111 ∷ 121 ∷ 115 ∷ []) []
    ∷ []

wrong-fail : all (λ c. not (holds c)) wrong ≡ true
unfolding wrong holds all same_by same_prefix same_content reading_of answer number_for content_of content_in is_read line_rules body_rules first_of ends_line body_of is_plain starts_with within word spaces prefix prefix_end command_start command command_end is_command is_letter is_digit rest params same_name fold match_answer match_rules mask.matches after_run first_then matches_byte merge_answer merge_rules merged_masks merged_whole keyed empty_list well_formed_whole well_formed_list masks used_rooms mask_count well_formed in_room clear channel_tests good_time good_settings good_key good_limit good_member good_members is_channel is_name_byte is_key is_key_byte is_user_id is_server_id is_id_byte has_bit ascends encode decode padded with_mode merge settings_at standing counts greater join_settings compare unite put insert
wrong-fail = refl
