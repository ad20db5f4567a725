-- Lines for `#Race`, and what the relay answers to them with all links registered: an SJOIN opens the channel with its one user, who quits; a BMASK adds a mask to it;
-- and another SJOIN, with a later time, comes before the first. The failures and the witness of a day name them. Assumes nothing.
use Prim.Native.Nat.{ℕ, ◌-◌, ◌≤◌}
use mathlib.Core.Path.{◌≡◌, refl, ap, ◌∙◌}
use mathlib.Core.Bool.{true, not}
use mathlib.Core.Logic.{inl}
use mathlib.Core.List.{List, [], ◌∷◌, ◌++◌, map}
use native.Mathlib.Omega.{arith}
use lib.ListN.{length, get_or, set, replicate}
use Rattle.refusal.specs.Numbers.{accepted}
use Rattle.refusal.specs.Faults.{first_fault}
use Rattle.refusal.specs.Rules.{first_of}
use Rattle.refusal.proofs.Rules.{skip, first-nil}
use Rattle.octets.specs.Bytes.{capital, within, is_plain, is_letter, is_digit, is_id_byte, is_name_byte, is_key_byte}
use Rattle.laws.specs.Lists.{all, same_by, starts_with, padded}
use Rattle.laws.specs.Joins.{concatenated}
use Rattle.laws.proofs.Lists.{length-padded}
use Rattle.octets.specs.Order.{compare}
use Rattle.ascending.specs.Ascending.{insert, put, unite}
use Rattle.octets.specs.Decimals.{leads_with_zero, is_decimal, value_from}
use Rattle.names.specs.Fold.{fold, same_name}
use Rattle.names.specs.Names.{is_channel, is_server_id, is_user_id}
use Rattle.message.specs.Grammar.{line_limit, word, spaces, prefix, prefix_end, command_start, command, command_end, is_command, rest, params}
use Rattle.message.specs.Content.{content_in, prefix_is}
use Rattle.message.specs.Words.{words_at}
use Rattle.message.specs.Reading.{crlf, ends_line, body_of, body_rules, line_rules, number_for, is_read, content_of}
use Rattle.channel.specs.Limits.{slot_count, member_limit}
use Rattle.channel.specs.Modes.{with_mode, place_among}
use Rattle.channel.specs.Key.{is_key}
use Rattle.channel.specs.Channel.{Channel}
use Rattle.channel.specs.Record.{encode, decode, empty_record}
use Rattle.channel.specs.Members.{others, without}
use Rattle.channel.specs.Standing.{counts, settings_at, bare, standing}
use Rattle.channel.proofs.Records.{decode-encode}
use Rattle.channel.proofs.Proper.{Proper, proper-fits, encode-well}
use Rattle.channel.proofs.Examples.{2cd, 1ab, stored, incoming}
use Rattle.bans.specs.Limits.{rooms_size, list_size}
use Rattle.bans.specs.Masks.{is_mask, room_of, mask_count, masks, encode_list}
use Rattle.bans.specs.Slots.{list_at, list_with, empty_list, empty_lists}
use Rattle.bans.proofs.Slots.{list-there, list-stored, empty-size, lists-empty, empty-masks, stored_same}
use Rattle.merging.specs.Merging.{merge}
use Rattle.links.specs.Links.{has_link, all_links}
use Rattle.links.proofs.Sets.{has_all}
use Rattle.table.specs.Slots.{Held, Free}
use Rattle.table.specs.Network.{Table, Network, network_of, table_of, with_slots, with_bans, list_in, with_list, empty_network}
use Rattle.table.specs.Table.{holds, good_table}
use Rattle.table.specs.Slots.{slot_in, first_at, slot_for}
use Rattle.table.proofs.Alone.{free-good, free-slot, alone-good, held_first, encoded-holds}
use Rattle.sjoin.specs.Modes.{modes_byte, parametered, good_argument, argument_of}
use Rattle.sjoin.specs.Faults.{letter_checks, own_checks, argument_checks, count_checks, modes_checks}
use Rattle.sjoin.specs.Entries.{past, id_of, status_of, is_entry, member_of, good_entries}
use Rattle.sjoin.specs.Join.{arguments_in, good_count, is_time, mode_rules, join_rules, channel_in}
use Rattle.sjoin.proofs.Examples.{line, line-tells}
use Rattle.telling.specs.Telling.{sjoin}
use Rattle.bmask.specs.Masks.{good_masks, bmask_rules}
use Rattle.relay.specs.Arrival.{arrival}
use Rattle.relay.specs.Sjoin.{joined_rules, joined}
use Rattle.relay.specs.Leaving.{is_last, left_lists}
use Rattle.relay.specs.Quit.{quit_rules, quitted}
use Rattle.relay.specs.Bmask.{bmask, is_later, masks_with, masked_rules, masked}
use Rattle.relay.specs.Commands.{command_among}
use Rattle.relay.specs.Relay.{taken_rules, network_by, entering_rules, process_rules, Outcome, process_answer}
use Rattle.relay.proofs.Results.{free-rules}
use Rattle.relay.proofs.Taking.{network-joined, answer-number, from-four}
use Rattle.relay.proofs.Answering.{answer-accepted}
use Rattle.relay.proofs.Joined.{command-join, earlier_rules, entered, join-entered, opened, merged, merge-room}
use Rattle.replay.specs.Replay.{ready_table}

-- ---- the lines
-- `:2CD SJOIN 1000 #Race +k buoy @2CDAAAAAA`
unfoldable pub opening : List ℕ
opening = 58 ∷ 50 ∷ 67 ∷ 68 ∷ 32 ∷ 83 ∷ 74 ∷ 79 ∷ 73 ∷ 78 ∷ 32 ∷ 49 ∷ 48 ∷ 48 ∷ 48 ∷ 32 ∷ 35 ∷ 82 ∷ 97 ∷ 99 ∷ 101 ∷ 32 ∷ 43 ∷ 107 ∷ 32 ∷ 98 ∷ 117 ∷ 111 ∷ 121 ∷ 32 ∷ 64 ∷ 50 ∷ 67 ∷ 68 ∷ 65 ∷ 65 ∷ 65 ∷ 65 ∷ 65 ∷ 65 ∷ crlf

-- `:1AB SJOIN 1200 #race +nt :@1ABAAAAAA 1ABAAAAAB`
abbrev pub later : List ℕ
later = line

-- `:2CDAAAAAA QUIT :`
unfoldable pub quitting : List ℕ
quitting = 58 ∷ 50 ∷ 67 ∷ 68 ∷ 65 ∷ 65 ∷ 65 ∷ 65 ∷ 65 ∷ 65 ∷ 32 ∷ 81 ∷ 85 ∷ 73 ∷ 84 ∷ 32 ∷ 58 ∷ crlf

-- the mask `Loud*`
abbrev loud : List ℕ
loud = 76 ∷ 111 ∷ 117 ∷ 100 ∷ 42 ∷ []

-- `:1AB BMASK 1000 #race b Loud*`
unfoldable pub masking : List ℕ
masking = 58 ∷ 49 ∷ 65 ∷ 66 ∷ 32 ∷ 66 ∷ 77 ∷ 65 ∷ 83 ∷ 75 ∷ 32 ∷ 49 ∷ 48 ∷ 48 ∷ 48 ∷ 32 ∷ 35 ∷ 114 ∷ 97 ∷ 99 ∷ 101 ∷ 32 ∷ 98 ∷ 32 ∷ loud ++ crlf

-- `: X`, which isn't read
unfoldable pub unread : List ℕ
unread = 58 ∷ 32 ∷ 88 ∷ crlf

-- ---- as computed
-- the numbers of the SJOINs by themselves
abbrev judge : List ℕ → ℕ
judge l = first_of (line_rules l ++ join_rules (content_of l))

judged : map judge (opening ∷ later ∷ []) ≡ accepted ∷ accepted ∷ []
unfolding opening line join_rules good_count prefix_is is_time is_decimal leads_with_zero value_from is_digit is_channel is_name_byte is_server_id is_user_id is_id_byte mode_rules modes_checks own_checks letter_checks count_checks argument_checks first_fault parametered good_argument is_key is_key_byte arguments_in place_among good_entries is_entry id_of past words_at content_of content_in is_read number_for line_rules body_rules first_of ends_line same_by body_of all is_plain starts_with prefix word prefix_end command_start spaces command is_command is_letter within command_end rest params
judged = refl

-- the commands
abbrev command_of : List ℕ → List ℕ
command_of l = map capital (content_of l).command

commands : map command_of (opening ∷ later ∷ quitting ∷ masking ∷ []) ≡ sjoin ∷ sjoin ∷ (81 ∷ 85 ∷ 73 ∷ 84 ∷ []) ∷ bmask ∷ []
unfolding opening line quitting masking capital content_of content_in is_read number_for line_rules body_rules first_of ends_line same_by body_of all is_plain starts_with prefix word prefix_end command_start spaces command is_command is_letter within command_end rest params
commands = refl

pub opening-command : command_of opening ≡ sjoin
opening-command = ap (λ (l : List (List ℕ)). get_or l 0 []) commands

pub later-command : command_of later ≡ sjoin
later-command = ap (λ (l : List (List ℕ)). get_or l 1 []) commands

pub quitting-command : command_of quitting ≡ 81 ∷ 85 ∷ 73 ∷ 84 ∷ []
quitting-command = ap (λ (l : List (List ℕ)). get_or l 2 []) commands

pub masking-command : command_of masking ≡ bmask
masking-command = ap (λ (l : List (List ℕ)). get_or l 3 []) commands

-- the channel that the first one tells of
pub opening-tells : channel_in (content_of opening) ≡ stored
unfolding opening stored 2cd channel_in arguments_in argument_of parametered modes_byte with_mode place_among value_from member_of id_of status_of past words_at insert put unite compare content_of content_in is_read number_for line_rules body_rules first_of ends_line same_by body_of all is_plain starts_with prefix word prefix_end command_start spaces command is_command is_letter within command_end rest params
opening-tells = refl

-- ---- an SJOIN with free slots
-- the first slot holds a channel, and there are no masks
abbrev pub alone : Channel → Network
alone c = record { slots = encode c ∷ replicate (slot_count - 1) empty_record; bans = empty_lists }

module _ (t : Table) (empty : network_of t ≡ empty_network) (link : ℕ) (on : has_link t.links.set link ≡ true) (l : List ℕ) (is : command_of l ≡ sjoin) (good : judge l ≡ accepted) where
  abbrev told : Channel
  told = channel_in (content_of l)

  free : slot_in (network_of t) told.name ≡ Free 0
  free = ap (λ (n : Network). slot_in n told.name) empty ∙ free-slot told.name (slot_count - 1)

  own : first_of (earlier_rules t.links (arrival link l) line_limit) ≡ accepted
  own = skip _ _ refl ∙ skip _ _ (ap not on) ∙ good

  -- what it tells of is proper
  pub told-proper : Proper told
  told-proper = (entered (arrival link l) (inl is) t.links line_limit own).1

  pub first-accepted : first_of (process_rules t (arrival link l) line_limit) ≡ accepted
  first-accepted =
      join-entered (arrival link l) (inl is) t (free-good t empty) line_limit own
      ∙ free-rules (network_of t) told told-proper 0 free

  pub first-network : network_by (network_of t) (arrival link l) ≡ alone told
  first-network =
      network-joined (network_of t) (arrival link l) (command-join l is) ∙ opened (network_of t) told 0 free ∙ ap (λ (n : Network). with_slots n (set n.slots 0 (encode told))) empty

-- ---- from link 3, with all links registered
-- the answer to a line
abbrev pub step : Table → List ℕ → Outcome
step t l = process_answer t (arrival 3 l) line_limit

-- the first slot holds a channel
abbrev pub holding : Channel → Table
holding c = table_of (alone c) all_links

module _ (l : List ℕ) (c : Channel) (is : command_of l ≡ sjoin) (good : judge l ≡ accepted) (tells : channel_in (content_of l) ≡ c) where
  none : first_of (process_rules ready_table (arrival 3 l) line_limit) ≡ accepted
  unfolding ready_table
  none = first-accepted ready_table refl 3 (has_all 3) l is good

  -- an SJOIN that opens the first slot
  opens : ((step ready_table l).number ≡ accepted) × ((step ready_table l).table ≡ holding c)
  unfolding ready_table
  opens = (
    answer-number ready_table (arrival 3 l) line_limit ∙ none,
    ap (λ (o : Outcome). o.table) (answer-accepted ready_table (arrival 3 l) line_limit none)
        ∙ ap (λ (n : Network). table_of n all_links) (first-network ready_table refl 3 (has_all 3) l is good ∙ ap alone tells),
  )

  proper : Proper c
  unfolding ready_table
  proper = rw (← tells) (told-proper ready_table refl 3 (has_all 3) l is good)

  pub holding-good : good_table (holding c) ≡ true
  holding-good = alone-good (encode c) (encode-well c proper) (holding c) (slot_count - 1) (omega arith) refl refl

pub opening-good : judge opening ≡ accepted
opening-good = ap (λ (l : List ℕ). get_or l 0 0) judged

later-good : judge later ≡ accepted
later-good = ap (λ (l : List ℕ). get_or l 1 0) judged

-- `opening` is accepted, and the first slot holds its channel
pub opening-first : ((step ready_table opening).number ≡ accepted) × ((step ready_table opening).table ≡ holding stored)
opening-first = opens opening stored opening-command opening-good opening-tells

-- so it is with `later`
pub later_first : ((step ready_table later).number ≡ accepted) × ((step ready_table later).table ≡ holding incoming)
later_first = opens later incoming later-command later-good line-tells

-- behind `opening` table, output and link pass
stored-enters : (l : List ℕ) → first_of (entering_rules (holding stored) (arrival 3 l) line_limit) ≡ accepted
stored-enters l = skip _ _ (ap not (holding-good opening stored opening-command opening-good opening-tells)) ∙ skip _ _ refl ∙ skip _ _ (ap not (has_all 3)) ∙ first-nil

-- ---- the user quits
quit-none : (n : Network) → first_of (taken_rules n (arrival 3 quitting)) ≡ accepted
unfolding quitting taken_rules command_among capital quit_rules prefix_is is_user_id is_server_id is_id_byte is_digit content_of content_in is_read number_for line_rules body_rules first_of ends_line same_by body_of all is_plain starts_with prefix word prefix_end command_start spaces command is_command is_letter within command_end rest params
quit-none n = refl

-- the network is empty again: an emptied list stays as it is
quit-empties : network_by (alone stored) (arrival 3 quitting) ≡ empty_network
unfolding quitting stored 2cd network_by command_among capital quitted is_last left_lists without others empty_record encode decode padded with_mode content_of content_in is_read number_for line_rules body_rules first_of ends_line same_by body_of all is_plain starts_with prefix word prefix_end command_start spaces command is_command is_letter within command_end rest params
quit-empties = ap (with_bans empty_network) (stored_same empty_lists 0 empty_list (list-there empty_lists 0 empty-size (omega arith)) (lists-empty 0 (omega arith)))

-- `quitting` is accepted there, and the slots are free again
pub quitting-then : ((step (holding stored) quitting).number ≡ accepted) × (network_of (step (holding stored) quitting).table ≡ empty_network)
quitting-then =
    let f = from-four (holding stored) (arrival 3 quitting) line_limit (stored-enters quitting) in
    (f.0 ∙ quit-none (alone stored), f.1 ∙ rw (quit-none (alone stored)) quit-empties)

-- ---- a mask is added
-- the first list has no masks, so that of the line is the only one
no-masks : masks (list_at empty_lists 0) ≡ []
no-masks = ap masks (lists-empty 0 (omega arith)) ∙ empty-masks

one-mask : masks_with (alone stored) (content_of masking) ≡ loud ∷ []
unfolding masking stored masks_with words_at content_of content_in is_read number_for line_rules body_rules first_of ends_line same_by body_of all is_plain starts_with prefix word prefix_end command_start spaces command is_command is_letter within command_end rest params slot_for first_at holds same_name fold encode decode padded insert put unite compare
one-mask = rw no-masks

-- no rule of the line refuses it, and it comes to the list with that mask
mask-added : (first_of (taken_rules (alone stored) (arrival 3 masking)) ≡ accepted) × (network_by (alone stored) (arrival 3 masking) ≡ with_list (alone stored) 0 (list_with (loud ∷ [])))
unfolding masking stored taken_rules network_by masked command_among capital bmask_rules masked_rules is_later good_masks is_mask prefix_is is_time is_decimal leads_with_zero value_from is_digit is_channel is_name_byte is_server_id is_id_byte words_at content_of content_in is_read number_for line_rules body_rules first_of ends_line same_by body_of all is_plain starts_with prefix word prefix_end command_start spaces command is_command is_letter within command_end rest params slot_for first_at holds same_name fold encode decode padded
mask-added = (rw one-mask, rw one-mask)

-- how many masks the first list has
abbrev pub first_count : Network → ℕ
first_count n = mask_count (list_in n 0).room

pub stored-count : first_count (alone stored) ≡ 0
unfolding mask_count empty_list
stored-count = ap mask_count (lists-empty 0 (omega arith))

masked-count : first_count (with_list (alone stored) 0 (list_with (loud ∷ []))) ≡ 1
unfolding mask_count encode_list
masked-count =
    let whole : length (encode_list (loud ∷ [])) ≡ list_size = omega (arith, length-padded 0 rooms_size (concatenated (map room_of (loud ∷ [])))) in
    ap mask_count (list-stored empty_lists 0 (list_with (loud ∷ [])) (list-there empty_lists 0 empty-size (omega arith)) whole)

-- `masking` is accepted behind `opening`, and the first list has one mask
pub masking-then : ((step (holding stored) masking).number ≡ accepted) × (first_count (network_of (step (holding stored) masking).table) ≡ 1)
masking-then =
    let f = from-four (holding stored) (arrival 3 masking) line_limit (stored-enters masking) in
    (f.0 ∙ mask-added.0, ap first_count f.1 ∙ rw (mask-added.0, mask-added.1) masked-count)

-- ---- an SJOIN with an earlier time
-- the time in the first slot
abbrev pub first_time : Network → ℕ
first_time n = (get_or n.slots 0 empty_record).time

pub empty-time : first_time empty_network ≡ 0
unfolding empty_record encode
empty-time = refl

pub stored-time : first_time (alone stored) ≡ 1000
unfolding encode stored
stored-time = refl

pub incoming-time : first_time (alone incoming) ≡ 1200
unfolding encode incoming
incoming-time = refl

one_name : same_name incoming.name stored.name ≡ true
unfolding same_name fold same_by within stored incoming
one_name = refl

merged-few : length (merge incoming stored).members ≤ member_limit
unfolding merge settings_at standing counts bare insert put unite compare stored incoming 1ab 2cd
merged-few = omega arith

merged-time : (merge incoming stored).time ≡ 1000
unfolding merge stored incoming
merged-time = refl

-- `opening` behind `later`: the first slot holds its name
held : slot_in (alone incoming) stored.name ≡ Held 0
held = held_first stored.name (encode incoming) _ (encoded-holds stored.name incoming (proper later incoming later-command later-good line-tells) one_name)

-- and the channel
had : decode (get_or (alone incoming).slots 0 empty_record) ≡ incoming
had = decode-encode incoming (proper-fits incoming (proper later incoming later-command later-good line-tells))

later-own : first_of (earlier_rules all_links (arrival 3 opening) line_limit) ≡ accepted
later-own = skip _ _ refl ∙ skip _ _ (ap not (has_all 3)) ∙ opening-good

-- so it is accepted there, and the first slot has its time
pub opening-then : ((step (holding incoming) opening).number ≡ accepted) × (first_time (network_of (step (holding incoming) opening).table) ≡ 1000)
unfolding encode
opening-then =
    let a = arrival 3 opening in
    let good = holding-good later incoming later-command later-good line-tells in
    let room : length (merge (decode (get_or (alone incoming).slots 0 empty_record)) stored).members ≤ member_limit = rw had merged-few in
    let rules : first_of (joined_rules (alone incoming) (channel_in (content_of opening))) ≡ accepted = rw opening-tells (merge-room (alone incoming) stored 0 held room) in
    let none : first_of (process_rules (holding incoming) a line_limit) ≡ accepted = join-entered a (inl opening-command) (holding incoming) good line_limit later-own ∙ rules in
    let next : network_by (alone incoming) a ≡ with_slots (alone incoming) (set (alone incoming).slots 0 (encode (merge incoming stored))) =
    network-joined (alone incoming) a (command-join opening opening-command)
    ∙ ap (joined (alone incoming)) opening-tells
    ∙ merged (alone incoming) stored 0 held (lists-empty 0 (omega arith))
    ∙ ap (λ (c : Channel). with_slots (alone incoming) (set (alone incoming).slots 0 (encode (merge c stored)))) had in (
      answer-number (holding incoming) a line_limit ∙ none,
      ap (λ (o : Outcome). first_time (network_of o.table)) (answer-accepted (holding incoming) a line_limit none) ∙ ap first_time next ∙ merged-time,
    )
