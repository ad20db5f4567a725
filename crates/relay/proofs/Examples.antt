-- Document 01's whole case, an SJOIN with a later time for `#Race` from link 3 of 0, 3 and 5, a PART, a QUIT, two BMASKs, and two lines of sixteen parameters, which got 10:
-- what each comes to by the definitions, witnesses so for the premises of the laws of taking a line, and what these say. That no list has masks yet is known by law. Assumes nothing.
use Prim.Native.Nat.{ℕ, ◌-◌}
use mathlib.Core.Path.{◌≡◌, refl, sym, ap, ◌∙◌}
use mathlib.Core.Bool.{Bool, true, false, not, cond}
use mathlib.Core.List.{List, [], ◌∷◌, ◌++◌}
use native.Mathlib.Omega.{arith}
use lib.ListN.{length, replicate}
use Rattle.refusal.specs.Numbers.{accepted, too_many_params, unknown_command, wrong_param_count}
use Rattle.refusal.specs.Faults.{first_fault}
use Rattle.refusal.specs.Rules.{first_of}
use Rattle.refusal.proofs.Rules.{skip, first-nil, append-none}
use Rattle.octets.specs.Bytes.{within, is_plain, is_letter, is_digit, is_id_byte, is_name_byte, is_key_byte, capital}
use Rattle.laws.specs.Lists.{all, same_by, padded, starts_with, separated, prefixed}
use Rattle.octets.specs.Order.{compare}
use Rattle.laws.specs.Bits.{has_bit}
use Rattle.ascending.specs.Ascending.{insert, put, unite, ascends}
use Rattle.octets.specs.Decimals.{leads_with_zero, is_decimal, value_from, digits_up_to, digits_of}
use Rattle.names.specs.Fold.{fold, same_name}
use Rattle.names.specs.Names.{is_channel, is_server_id, is_user_id}
use Rattle.links.specs.Links.{links, set_below, less_link, relay_set, links_from, links_in}
use Rattle.message.specs.Grammar.{line_limit, word, spaces, prefix, prefix_end, command_start, command, command_end, is_command, rest, params}
use Rattle.message.specs.Content.{content_in, prefix_is}
use Rattle.message.specs.Words.{words_at}
use Rattle.message.specs.Former.{former_rest, former_params, former_line_rules}
use Rattle.message.specs.Reading.{crlf, ends_line, body_of, body_rules, line_rules, number_for, is_read, content_of}
use Rattle.writer.specs.Form.{takes_colon, written_param, written_params, written_prefix, written_body, written, with_command}
use Rattle.channel.specs.declared.Record.{Record}
use Rattle.channel.specs.Limits.{slot_count}
use Rattle.channel.specs.Modes.{with_mode, place_among}
use Rattle.channel.specs.Key.{is_key}
use Rattle.channel.specs.Channel.{Channel, member}
use Rattle.channel.specs.Record.{encode, decode, empty_record}
use Rattle.channel.specs.Members.{has_member, others, with_members, without}
use Rattle.channel.specs.Standing.{counts, settings_at, bare, standing}
use Rattle.channel.specs.WellFormed.{good_time, good_settings, good_key, good_limit, good_member, good_members, channel_tests, in_room, clear, well_formed}
use Rattle.channel.proofs.Fields.{peopled}
use Rattle.channel.proofs.Examples.{2cd, 1ab, stored}
use Rattle.bans.specs.Masks.{is_mask, masks}
use Rattle.bans.specs.Slots.{list_at, list_with, empty_list, empty_lists}
use Rattle.bans.proofs.Slots.{list-there, empty-size, lists-empty, empty-masks, stored_same}
use Rattle.merging.specs.Settings.{greater, join_settings}
use Rattle.merging.specs.Merging.{merge}
use Rattle.table.specs.Network.{Table, Network, network_of, with_bans, emptied_if, with_list, with_network}
use Rattle.table.specs.Table.{holds, good_network, good_table}
use Rattle.table.specs.Slots.{slot_in, first_at, free_slot, slot_for, place_of, slot_rules}
use Rattle.table.proofs.Alone.{alone-good}
use Rattle.sjoin.specs.Modes.{modes_byte, parametered, argument_of}
use Rattle.sjoin.specs.Faults.{letter_checks, own_checks, argument_checks, count_checks, modes_checks}
use Rattle.sjoin.specs.Entries.{past, id_of, status_of, is_entry, member_of, good_entries}
use Rattle.sjoin.specs.Join.{arguments_in, good_count, mode_rules, join_rules, channel_in, is_time}
use Rattle.bmask.specs.Masks.{good_masks, bmask_rules}
use Rattle.telling.specs.Telling.{letters_from, entry_of, params_of, sjoin}
use Rattle.retelling.specs.Retelling.{Reads}
use Rattle.relay.specs.Arrival.{Arrival, arrival}
use Rattle.relay.specs.Leaving.{is_last, left_lists}
use Rattle.relay.specs.Sjoin.{resulting, joined_rules, is_earlier, joined, outgoing}
use Rattle.relay.specs.Part.{part_rules, parted_rules, parted}
use Rattle.relay.specs.Quit.{quit_rules, quitted}
use Rattle.relay.specs.Bmask.{is_later, masks_with, masked_rules, masked}
use Rattle.relay.specs.Commands.{Sjoin, Unknown, command_among, command_in}
use Rattle.relay.specs.Relay.{taken_rules, entering_rules, network_by, goes_by, message_by, relayed, refused, process_answer}
use Rattle.relay.proofs.Entering.{enters}
use Rattle.relay.proofs.Results.{OneChanged}
use Rattle.relay.proofs.Taking.{taken-good, relayed-reads, join_one, after-alone}
use Rattle.relay.proofs.Answering.{answer-accepted}
use Rattle.relay.proofs.Fifteenth.{turns}

-- the first slot holds the record
unfoldable pub race : Record → List Record
race r = r ∷ replicate (slot_count - 1) empty_record

-- links 0, 3 and 5, and no masks
unfoldable pub water : Table
water = record { slots = race (encode stored); links = links 41; bans = empty_lists }

-- a line from link 3
abbrev from3 : List ℕ → Arrival
from3 line = arrival 3 line

-- no rule of the line refuses it
abbrev Accepted : List ℕ → Type 0
Accepted line = first_of (taken_rules (network_of water) (from3 line)) ≡ accepted

-- `:1AB SJOIN 1200 #race +nt :@1ABAAAAAA 1ABAAAAAB`
joining : List ℕ
joining = 58 ∷ 49 ∷ 65 ∷ 66 ∷ 32 ∷ 83 ∷ 74 ∷ 79 ∷ 73 ∷ 78 ∷ 32 ∷ 49 ∷ 50 ∷ 48 ∷ 48 ∷ 32 ∷ 35 ∷ 114 ∷ 97 ∷ 99 ∷ 101 ∷ 32 ∷ 43 ∷ 110 ∷ 116 ∷ 32 ∷ 58 ∷ 64 ∷ 49 ∷ 65 ∷ 66 ∷ 65 ∷ 65 ∷ 65 ∷ 65 ∷ 65 ∷ 65 ∷ 32 ∷ 49 ∷ 65 ∷ 66 ∷ 65 ∷ 65 ∷ 65 ∷ 65 ∷ 65 ∷ 66 ∷ crlf

-- `:2CDAAAAAA part  #race`
parting : List ℕ
parting = 58 ∷ 50 ∷ 67 ∷ 68 ∷ 65 ∷ 65 ∷ 65 ∷ 65 ∷ 65 ∷ 65 ∷ 32 ∷ 112 ∷ 97 ∷ 114 ∷ 116 ∷ 32 ∷ 32 ∷ 35 ∷ 114 ∷ 97 ∷ 99 ∷ 101 ∷ crlf

-- `:2CDAAAAAA QUIT :`
quitting : List ℕ
quitting = 58 ∷ 50 ∷ 67 ∷ 68 ∷ 65 ∷ 65 ∷ 65 ∷ 65 ∷ 65 ∷ 65 ∷ 32 ∷ 81 ∷ 85 ∷ 73 ∷ 84 ∷ 32 ∷ 58 ∷ crlf

-- the masks `Loud*` and `*!*@rowdy`
loud : List ℕ
loud = 76 ∷ 111 ∷ 117 ∷ 100 ∷ 42 ∷ []

rowdy : List ℕ
rowdy = 42 ∷ 33 ∷ 42 ∷ 64 ∷ 114 ∷ 111 ∷ 119 ∷ 100 ∷ 121 ∷ []

-- `:1AB WORD 100B #race b :Loud* *!*@rowdy`, the word and the time's last byte being given
telling : List ℕ → ℕ → List ℕ
telling word last =
    58 ∷ 49 ∷ 65 ∷ 66 ∷ 32 ∷ word ++ (32 ∷ 49 ∷ 48 ∷ 48 ∷ last ∷ 32 ∷ 35 ∷ 114 ∷ 97 ∷ 99 ∷ 101 ∷ 32 ∷ 98 ∷ 32 ∷ 58 ∷ loud ++ (32 ∷ rowdy ++ crlf))

-- `bmask` at the time 1000, and at the time 1001
masking : List ℕ
masking = telling (98 ∷ 109 ∷ 97 ∷ 115 ∷ 107 ∷ []) 48

later : List ℕ
later = telling (98 ∷ 109 ∷ 97 ∷ 115 ∷ 107 ∷ []) 49

-- ---- what they come to
pub stored-well : well_formed (encode stored) ≡ true
unfolding stored 2cd with_mode encode decode padded well_formed in_room clear channel_tests good_time good_settings good_key good_limit good_members good_member is_channel is_name_byte is_plain is_key is_key_byte starts_with within has_bit is_user_id is_server_id is_digit is_id_byte ascends all
stored-well = refl

pub water-good : good_table water ≡ true
unfolding water race
water-good = alone-good (encode stored) stored-well water (slot_count - 1) (omega arith) refl refl

-- the first list has no masks, so those of the line are all, in folded order
no-masks : masks (list_at empty_lists 0) ≡ []
no-masks = ap masks (lists-empty 0 (omega arith)) ∙ empty-masks

both-masks : masks_with (network_of water) (content_of masking) ≡ rowdy ∷ loud ∷ []
unfolding water race stored 2cd masking telling loud rowdy masks_with words_at content_of content_in is_read number_for line_rules body_rules first_of ends_line same_by body_of all is_plain starts_with prefix word prefix_end command_start spaces command is_command is_letter within command_end rest params slot_for first_at free_slot holds same_name fold empty_record encode decode padded with_mode insert put unite compare
both-masks = rw no-masks

accepts : Accepted joining × Accepted parting × Accepted quitting
unfolding water race stored 2cd joining parting quitting taken_rules slot_rules command_among capital join_rules good_count prefix_is is_time is_decimal leads_with_zero value_from is_digit is_channel is_name_byte is_server_id is_user_id is_id_byte mode_rules modes_checks own_checks letter_checks count_checks argument_checks first_fault parametered arguments_in place_among good_entries is_entry id_of past words_at content_of content_in is_read number_for line_rules body_rules first_of ends_line same_by body_of all is_plain starts_with prefix word prefix_end command_start spaces command is_command is_letter within command_end rest params joined_rules resulting channel_in argument_of modes_byte member_of status_of slot_for first_at free_slot holds same_name fold empty_record encode decode padded with_mode merge settings_at standing counts bare insert put unite compare greater join_settings part_rules parted_rules has_member quit_rules
accepts = (refl, refl, refl)

-- masks at the channel's time are counted, later ones aren't
accepts-masks : Accepted masking × Accepted later
unfolding water race stored 2cd masking later telling loud rowdy taken_rules command_among capital bmask_rules masked_rules is_later good_masks is_mask prefix_is is_time is_decimal leads_with_zero value_from is_digit is_channel is_name_byte is_server_id is_id_byte words_at content_of content_in is_read number_for line_rules body_rules first_of ends_line same_by body_of all is_plain starts_with prefix word prefix_end command_start spaces command is_command is_letter within command_end rest params slot_for first_at free_slot holds same_name fold empty_record encode decode padded with_mode
accepts-masks = (rw both-masks, refl)

-- the lines that go out: `:1AB SJOIN 1000 #Race + :1ABAAAAAA 1ABAAAAAB`, `:2CDAAAAAA PART #race`, and the QUIT as it came
goes-out : (relayed (network_of water) (from3 joining)
    ≡ 58 ∷ 49 ∷ 65 ∷ 66 ∷ 32 ∷ 83 ∷ 74 ∷ 79 ∷ 73 ∷ 78 ∷ 32 ∷ 49 ∷ 48 ∷ 48 ∷ 48 ∷ 32 ∷ 35 ∷ 82 ∷ 97 ∷ 99 ∷ 101 ∷ 32 ∷ 43 ∷ 32 ∷ 58 ∷ 49 ∷ 65 ∷ 66 ∷ 65 ∷ 65 ∷ 65 ∷ 65 ∷ 65 ∷ 65 ∷ 32 ∷ 49 ∷ 65 ∷ 66 ∷ 65 ∷ 65 ∷ 65 ∷ 65 ∷ 65 ∷ 66 ∷ crlf)
    × (relayed (network_of water) (from3 parting) ≡ 58 ∷ 50 ∷ 67 ∷ 68 ∷ 65 ∷ 65 ∷ 65 ∷ 65 ∷ 65 ∷ 65 ∷ 32 ∷ 80 ∷ 65 ∷ 82 ∷ 84 ∷ 32 ∷ 35 ∷ 114 ∷ 97 ∷ 99 ∷ 101 ∷ crlf)
    × (relayed (network_of water) (from3 quitting) ≡ quitting)
unfolding water race stored 2cd joining parting quitting goes_by message_by command_among capital written written_body written_prefix written_params written_param takes_colon with_command outgoing params_of separated prefixed entry_of letters_from digits_of digits_up_to has_bit is_digit arguments_in place_among id_of past words_at content_of content_in is_read number_for line_rules body_rules first_of ends_line same_by body_of all is_plain starts_with prefix word prefix_end command_start spaces command is_command is_letter within command_end rest params resulting channel_in argument_of parametered modes_byte value_from member_of status_of slot_for first_at free_slot holds same_name fold empty_record encode decode padded with_mode merge settings_at standing counts bare insert put unite compare greater join_settings
goes-out = (refl, refl, refl)

-- the BMASK goes out as it came, its word in capitals; of the later one nothing does
masks-go-out : (relayed (network_of water) (from3 masking) ≡ telling (66 ∷ 77 ∷ 65 ∷ 83 ∷ 75 ∷ []) 48) × (relayed (network_of water) (from3 later) ≡ [])
unfolding water race stored 2cd masking later telling loud rowdy goes_by is_later message_by command_among capital written written_body written_prefix written_params written_param takes_colon with_command value_from content_of content_in is_read number_for line_rules body_rules first_of ends_line same_by body_of all is_plain starts_with prefix word prefix_end command_start spaces command is_command is_letter within command_end rest params slot_for first_at free_slot holds same_name fold empty_record encode decode padded with_mode
masks-go-out = (refl, refl)

-- who is on the channel after the SJOIN: 1ABAAAAAA 0, 1ABAAAAAB 0, 2CDAAAAAA 2; the time is 1000 and the key `buoy` still
after : Channel
unfolding stored
after = peopled stored (member (1ab 65) 0 ∷ member (1ab 66) 0 ∷ member 2cd 2 ∷ [])

-- a network with the record alone, and no masks
alone : Record → Network
alone r = record { slots = race r; bans = empty_lists }

-- where its list is emptied, it stays as it is
emptied : (r : Record) → with_bans (alone r) (emptied_if true 0 empty_lists) ≡ alone r
unfolding alone
emptied r = ap (with_bans (alone r)) (stored_same empty_lists 0 empty_list (list-there empty_lists 0 empty-size (omega arith)) (lists-empty 0 (omega arith)))

-- the network after: the channel with its members, or no channel once the member has left
comes-to : (network_by (network_of water) (from3 joining) ≡ alone (encode after)) × (network_by (network_of water) (from3 parting) ≡ alone empty_record) × (network_by (network_of water) (from3 quitting) ≡ alone empty_record)
unfolding water alone race stored after 1ab 2cd joining parting quitting network_by joined is_earlier parted quitted is_last left_lists without others with_members command_among capital has_bit arguments_in place_among id_of past words_at content_of content_in is_read number_for line_rules body_rules first_of ends_line same_by body_of all is_plain starts_with prefix word prefix_end command_start spaces command is_command is_letter within command_end rest params resulting channel_in argument_of parametered modes_byte value_from member_of status_of slot_for first_at free_slot holds same_name fold empty_record encode decode padded with_mode merge settings_at standing counts bare insert put unite compare greater join_settings
comes-to = (refl, emptied empty_record, emptied empty_record)

-- the first list has both masks; by the later line nothing changes
masks-come-to : (network_by (network_of water) (from3 masking) ≡ with_list (network_of water) 0 (list_with (rowdy ∷ loud ∷ []))) × (network_by (network_of water) (from3 later) ≡ network_of water)
unfolding water race stored 2cd masking later telling loud rowdy network_by masked is_later command_among capital value_from content_of content_in is_read number_for line_rules body_rules first_of ends_line same_by body_of all is_plain starts_with prefix word prefix_end command_start spaces command is_command is_letter within command_end rest params slot_for first_at free_slot holds same_name fold empty_record encode decode padded with_mode
masks-come-to = (rw both-masks, refl)

-- ---- the answers
-- table, output and link pass
water-enters : (line : List ℕ) → first_of (entering_rules water (from3 line) line_limit) ≡ accepted
unfolding water has_bit
water-enters line = skip _ _ (ap not water-good) ∙ skip _ _ refl ∙ skip _ _ refl ∙ first-nil

-- the answer to a line that no rule refuses, of its parts
answer-of : (line : List ℕ) (out : Bool) (next : Network) (w : List ℕ) → Accepted line
    → goes_by (network_of water) (from3 line) ≡ out → network_by (network_of water) (from3 line) ≡ next → relayed (network_of water) (from3 line) ≡ w
    → let set : ℕ = cond out (relay_set water.links 3) 0 in
    process_answer water (from3 line) line_limit ≡ record { number = accepted; place = 0; table = with_network water next; len = length w; set = set; count = length (links_in set) }
answer-of line out next w none g e f = answer-accepted water (from3 line) line_limit (enters water (from3 line) line_limit (water-enters line) ∙ none) ∙ rw (f, e, g)

-- the SJOIN and the first BMASK go out, the later one doesn't
goes : (goes_by (network_of water) (from3 joining) ≡ true) × (goes_by (network_of water) (from3 masking) ≡ true) × (goes_by (network_of water) (from3 later) ≡ false)
unfolding water race stored 2cd joining masking later telling loud rowdy goes_by is_later command_among capital value_from content_of content_in is_read number_for line_rules body_rules first_of ends_line same_by body_of all is_plain starts_with prefix word prefix_end command_start spaces command is_command is_letter within command_end rest params slot_for first_at free_slot holds same_name fold empty_record encode decode padded with_mode
goes = (refl, refl, refl)

-- that to the SJOIN: to links 0 and 5, count 2, and 46 bytes, CR LF counted
answers : process_answer water (from3 joining) line_limit ≡ record { number = accepted; place = 0; table = with_network water (alone (encode after)); len = 46; set = 33; count = 2 }
unfolding water relay_set less_link set_below links_from has_bit
answers = answer-of joining true (alone (encode after)) _ accepts.0 goes.0 comes-to.0 goes-out.0

-- that to the BMASK: to the same links, and 42 bytes; to the later one: the table as it was, to no links, and no bytes
answers-masks : (process_answer water (from3 masking) line_limit ≡ record { number = accepted; place = 0; table = with_network water (with_list (network_of water) 0 (list_with (rowdy ∷ loud ∷ []))); len = 42; set = 33; count = 2 })
    × (process_answer water (from3 later) line_limit ≡ record { number = accepted; place = 0; table = water; len = 0; set = 0; count = 0 })
unfolding water telling loud rowdy relay_set less_link set_below links_from has_bit
answers-masks = (answer-of masking true _ _ accepts-masks.0 goes.1 masks-come-to.0 masks-go-out.0, answer-of later false _ _ accepts-masks.1 goes.2 masks-come-to.1 masks-go-out.1)

-- ---- what the laws say of them
-- each line that goes out reads as its message, and is no longer than the one read
Passed : List ℕ → Type 0
Passed line = Reads line (message_by (network_of water) (from3 line))

passed : (line : List ℕ) → Accepted line → Passed line
unfolding Passed
passed line none = relayed-reads (network_of water) (from3 line) none water-good

reads : Passed joining × Passed parting × Passed quitting × Passed masking
reads = (passed joining accepts.0, passed parting accepts.1, passed quitting accepts.2, passed masking accepts-masks.0)

-- the network stays well formed
Stays : List ℕ → Type 0
Stays line = good_network (network_by (network_of water) (from3 line)) ≡ true

stay : (line : List ℕ) → Accepted line → Stays line
unfolding Stays
stay line none = taken-good (network_of water) (from3 line) none water-good

stays : Stays joining × Stays parting × Stays quitting × Stays masking × Stays later
stays = (stay joining accepts.0, stay parting accepts.1, stay quitting accepts.2, stay masking accepts-masks.0, stay later accepts-masks.1)

-- the SJOIN changes the first slot
is-sjoin : command_in joining ≡ Sjoin
unfolding joining command_among capital content_of content_in is_read number_for line_rules body_rules first_of ends_line same_by body_of all is_plain starts_with prefix word prefix_end command_start spaces command is_command is_letter within command_end rest params
is-sjoin = refl

changes-one : OneChanged (network_of water) (network_by (network_of water) (from3 joining)) (channel_in (content_of joining)) (place_of water.slots (slot_in (network_of water) (channel_in (content_of joining)).name)) (encode (resulting (network_of water) (channel_in (content_of joining))))
changes-one = join_one (network_of water) (from3 joining) water-good is-sjoin accepts.0

-- and does so whatever the other links are: here link 3 alone is registered
shore : Table
shore = record { slots = water.slots; links = links 8; bans = water.bans }

shore-good : good_table shore ≡ true
unfolding shore
shore-good = water-good

-- table, output and link pass here too
shore-enters : first_of (entering_rules shore (from3 joining) line_limit) ≡ accepted
unfolding shore has_bit
shore-enters = skip _ _ (ap not shore-good) ∙ skip _ _ refl ∙ skip _ _ refl ∙ first-nil

whichever-links : network_of (process_answer water (from3 joining) line_limit).table ≡ network_of (process_answer shore (from3 joining) line_limit).table
unfolding shore
whichever-links = (after-alone water shore (from3 joining) line_limit line_limit refl (water-enters joining) shore-enters).1

-- ---- sixteen parameters `a`, of SJOIN and of a command `X`
abbrev sixteen : List ℕ → List ℕ
sixteen name = name ++ prefixed 32 (replicate 16 (97 ∷ [])) ++ crlf

sixteens : (first_of (former_line_rules (sixteen sjoin)) ≡ too_many_params) × (first_of (former_line_rules (sixteen (88 ∷ []))) ≡ too_many_params) × (command_in (sixteen sjoin) ≡ Sjoin) × (command_in (sixteen (88 ∷ [])) ≡ Unknown)
unfolding prefixed former_line_rules former_params former_rest command_among capital content_of content_in is_read number_for line_rules body_rules first_of ends_line same_by body_of all is_plain starts_with prefix word prefix_end command_start spaces command is_command is_letter within command_end rest params
sixteens = (refl, refl, refl, refl)

-- they got 10
sixteen-was : (name : List ℕ) → first_of (former_line_rules (sixteen name)) ≡ too_many_params → first_of (entering_rules water (from3 (sixteen name)) line_limit ++ former_line_rules (sixteen name)) ≡ too_many_params
sixteen-was name e = append-none (former_line_rules (sixteen name)) (entering_rules water (from3 (sixteen name)) line_limit) refl (water-enters (sixteen name)) ∙ e

distinct : Sjoin ≡ Unknown → ⊥
distinct e = let z : ◌≡◌ {A = ℕ} 0 1 = cc in omega (arith, z)

-- and get 12 and 11
sixteen-gets : (process_answer water (from3 (sixteen sjoin)) line_limit ≡ refused water wrong_param_count 0) × (process_answer water (from3 (sixteen (88 ∷ []))) line_limit ≡ refused water unknown_command 0)
sixteen-gets =
    let join = turns water (from3 (sixteen sjoin)) line_limit in
    let other = turns water (from3 (sixteen (88 ∷ []))) line_limit in
    (join.known (join.turned (sixteen-was sjoin sixteens.0)) (λ e. distinct (sym sixteens.2 ∙ e)), other.unknown (other.turned (sixteen-was (88 ∷ []) sixteens.1)) sixteens.3)
