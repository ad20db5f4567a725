-- Two relays that are useless for bans fail demand 2: `mask` adds a mask to a channel of the time 1200, and `earlier`, of the time 1000, empties its list; a relay
-- that never adds a mask leaves out the one, and a relay that keeps the list leaves out the other. `late` is accepted and comes to nothing. Assumes nothing.
use Prim.Native.Nat.{ℕ, ◌-◌, ◌≤◌}
use mathlib.Core.Path.{◌≡◌, refl, sym, ap, ap₂, ◌∙◌}
use mathlib.Core.Bool.{Bool, true, false, not, cond, ◌&&◌}
use mathlib.Core.List.{List, [], ◌∷◌, map}
use mathlib.Core.Option.{some}
use native.Mathlib.Omega.{arith}
use lib.ListN.{length, get_or, replicate}
use lib.Dec.{ltb}
use Rattle.refusal.specs.Numbers.{accepted}
use Rattle.refusal.specs.Rules.{first_of}
use Rattle.refusal.proofs.Rules.{skip, first-nil, append-none}
use Rattle.laws.specs.Bits.{has_bit}
use Rattle.laws.specs.Lists.{all, same, same_by, starts_with, padded}
use Rattle.laws.specs.Joins.{concatenated}
use Rattle.laws.proofs.Lists.{length-padded}
use Rattle.octets.specs.Bytes.{capital, within, is_plain, is_letter, is_digit, is_id_byte, is_name_byte}
use Rattle.octets.specs.Order.{compare}
use Rattle.octets.specs.Decimals.{leads_with_zero, is_decimal, value_from}
use Rattle.octets.proofs.Bytes.{same_refl}
use Rattle.ascending.specs.Ascending.{insert, put, unite}
use Rattle.names.specs.Fold.{fold, same_name}
use Rattle.names.specs.Names.{is_channel, is_server_id}
use Rattle.links.specs.Links.{links, has_link}
use Rattle.message.specs.Grammar.{word, spaces, prefix, prefix_end, command_start, command, command_end, is_command, rest, params}
use Rattle.message.specs.Content.{Content, content_in, prefix_is}
use Rattle.message.specs.Words.{words_at}
use Rattle.message.specs.Reading.{crlf, ends_line, body_of, body_rules, line_rules, number_for, is_read, content_of}
use Rattle.message.proofs.Readings.{rules-numbered}
use Rattle.channel.specs.declared.Record.{Record}
use Rattle.channel.specs.Limits.{member_limit, slot_count}
use Rattle.channel.specs.Channel.{Channel}
use Rattle.channel.specs.Standing.{counts, settings_at, bare, standing}
use Rattle.channel.specs.Record.{encode, decode, empty_record}
use Rattle.channel.specs.Modes.{with_mode}
use Rattle.channel.proofs.Examples.{1ab, 2cd, stored, incoming}
use Rattle.channel.proofs.Proper.{Proper, encode-well}
use Rattle.bans.specs.declared.BanList.{BanList}
use Rattle.bans.specs.Masks.{is_mask, masks, room_of, encode_list}
use Rattle.bans.specs.Limits.{rooms_size, list_size}
use Rattle.bans.specs.Slots.{list_at, list_with, empty_list, empty_lists, stored as stored_at}
use Rattle.bans.proofs.Encoding.{masks-encode}
use Rattle.bans.proofs.Slots.{empty-masks, empty-whole, list-stored, lists-empty}
use Rattle.merging.specs.Settings.{greater, join_settings}
use Rattle.merging.specs.Merging.{merge}
use Rattle.table.specs.Slots.{Held}
use Rattle.table.specs.Network.{Table, Network, network_of, with_network, list_in, with_list, emptied_if}
use Rattle.table.specs.Table.{holds, good_table}
use Rattle.table.specs.Slots.{slot_in, first_at, free_slot, slot_for}
use Rattle.table.proofs.Alone.{alone-good}
use Rattle.table.proofs.WellFormed.{list-whole}
use Rattle.sjoin.specs.Join.{is_time}
use Rattle.telling.specs.Telling.{sjoin}
use Rattle.bmask.specs.Masks.{good_masks, bmask_rules}
use Rattle.bmask.proofs.Rules.{rules-numbered as bmask-numbered}
use Rattle.relay.specs.Arrival.{arrival}
use Rattle.relay.specs.Meaning.{Meaning}
use Rattle.relay.specs.Bmask.{bmask, is_later, masks_with, masked_rules, masked, meaning}
use Rattle.relay.specs.Commands.{commands, meaning_of, command_among}
use Rattle.relay.specs.Relay.{meaning_in, taken_rules, network_by, process_rules}
use Rattle.relay.specs.Sjoin.{is_earlier, joined}
use Rattle.relay.proofs.Taking.{taken-good, network-joined}
use Rattle.relay.proofs.Joined.{command-join, join-entered, merge-room}
use Rattle.convergence.specs.Demands.{ruled, is_late_mask, Silent, Demand2, channel_of}
use Rattle.convergence.specs.Ours.{ours}
use Rattle.convergence.specs.Useless.{with_table, unaltering, has_word, unmasking, with_bans_of, keeping_lists}
use Rattle.convergence.proofs.Demand2.{demand2}
use Rattle.convergence.proofs.Folding.{start-number, line-is}
use Rattle.convergence.proofs.Lines.{earlier, race, room, roomy, start, earlier_from, later_from, earlier-command, earlier-is, earlier-tells, later-tells, earlier-number, later-number}

on-0 : has_link 41 0 ≡ true
unfolding has_bit
on-0 = refl

on-3 : has_link 41 3 ≡ true
unfolding has_bit
on-3 = refl

-- ---- two lines
-- what `:1AB BMASK time #race b x` says
abbrev bans-x : List ℕ → Content
bans-x time = record { prefix = some (49 ∷ 65 ∷ 66 ∷ []); command = bmask; params = time ∷ race ∷ (98 ∷ []) ∷ (120 ∷ []) ∷ [] }

-- `:1AB BMASK 1000 #race b x`
unfoldable mask : List ℕ
mask = 58 ∷ 49 ∷ 65 ∷ 66 ∷ 32 ∷ 66 ∷ 77 ∷ 65 ∷ 83 ∷ 75 ∷ 32 ∷ 49 ∷ 48 ∷ 48 ∷ 48 ∷ 32 ∷ 35 ∷ 114 ∷ 97 ∷ 99 ∷ 101 ∷ 32 ∷ 98 ∷ 32 ∷ 120 ∷ crlf

abbrev content : Content
content = bans-x (49 ∷ 48 ∷ 48 ∷ 48 ∷ [])

-- `:1AB BMASK 1201 #race b x`
unfoldable late : List ℕ
late = 58 ∷ 49 ∷ 65 ∷ 66 ∷ 32 ∷ 66 ∷ 77 ∷ 65 ∷ 83 ∷ 75 ∷ 32 ∷ 49 ∷ 50 ∷ 48 ∷ 49 ∷ 32 ∷ 35 ∷ 114 ∷ 97 ∷ 99 ∷ 101 ∷ 32 ∷ 98 ∷ 32 ∷ 120 ∷ crlf

abbrev late-content : Content
late-content = bans-x (49 ∷ 50 ∷ 48 ∷ 49 ∷ [])

-- a line is read, and says this
abbrev Says : List ℕ → Content → Type 0
Says line c = (first_of (line_rules line) ≡ accepted) × (content_of line ≡ c)

says : Says mask content × Says late late-content
unfolding mask late content_of content_in is_read number_for line_rules body_rules first_of ends_line same_by body_of all is_plain starts_with prefix word prefix_end command_start spaces command is_command is_letter within command_end rest params
says = ((refl, refl), (refl, refl))

own : (first_of (bmask_rules content) ≡ accepted) × (first_of (bmask_rules late-content) ≡ accepted)
unfolding bmask_rules first_of prefix_is is_server_id is_digit is_id_byte is_time is_decimal leads_with_zero value_from is_channel is_name_byte is_plain good_masks is_mask words_at word all same_by starts_with within
own = (refl, refl)

capitals : map capital bmask ≡ bmask
unfolding capital within
capitals = refl

-- ---- the table
-- `#race` of the time 1200 in the first slot, and no masks
abbrev before : Table
before = record { slots = encode incoming ∷ replicate (slot_count - 1) empty_record; links = links 41; bans = empty_lists }

proper : Proper incoming
proper = rw later-tells at (line-is (start 41) refl (later_from 3) (later-number 41 3 on-3)).1

good : good_table before ≡ true
good = alone-good (encode incoming) (encode-well incoming proper) before (slot_count - 1) (omega arith) refl refl

-- the channel is in the first slot; the one line isn't later, the other is
found : (slot_in (network_of before) race ≡ Held 0) × (is_later (network_of before) content ≡ false) × (is_later (network_of before) late-content ≡ true)
unfolding incoming 1ab with_mode encode decode empty_record padded slot_for first_at free_slot holds same_name same_by fold within is_later value_from
found = (refl, refl, refl)

-- ---- a BMASK of `x`
module _ (line time : List ℕ) (is : Says line (bans-x time)) (rules : first_of (bmask_rules (bans-x time)) ≡ accepted) where
  in-capitals : map capital (content_of line).command ≡ bmask
  in-capitals = ap (λ (c : Content). map capital c.command) is.1 ∙ capitals

  means : meaning_in (arrival 3 line) ≡ meaning
  unfolding command_among same_by
  means = ap (λ (w : List ℕ). meaning_of (command_among commands w)) in-capitals

  -- where its slot's rules pass, it is accepted
  taken-by : first_of (masked_rules (network_of before) (bans-x time)) ≡ accepted → first_of (taken_rules (network_of before) (arrival 3 line)) ≡ accepted
  unfolding taken_rules
  taken-by none = append-none _ (line_rules line) (rules-numbered line) is.0 ∙ rw (means, is.1) (append-none _ (bmask_rules (bans-x time)) (bmask-numbered (bans-x time)) rules ∙ none)

  ruled-by : first_of (masked_rules (network_of before) (bans-x time)) ≡ accepted → ruled before (arrival 3 line) room ≡ accepted
  unfolding process_rules
  ruled-by none = skip _ _ (ap not good) ∙ skip _ _ roomy ∙ skip _ _ (ap not on-3) ∙ taken-by none

-- ---- the mask is added
-- its masks are the one of the line
abbrev x : List ℕ
x = 120 ∷ []

no-masks : masks (list_in (network_of before) 0).room ≡ []
no-masks = ap masks (lists-empty 0 (omega arith)) ∙ empty-masks

masks-are : masks_with (network_of before) content ≡ x ∷ []
unfolding masks_with words_at word unite put insert compare
masks-are = rw (found.0, no-masks)

none : first_of (masked_rules (network_of before) content) ≡ accepted
unfolding masked_rules
none = skip _ _ (rw found.0) ∙ skip _ _ (rw (found.1, masks-are)) ∙ first-nil

ruled-mask : ruled before (arrival 3 mask) room ≡ accepted
ruled-mask = ruled-by mask (49 ∷ 48 ∷ 48 ∷ 48 ∷ []) says.0 own.0 none

-- and the list has the mask after it
abbrev masked-list : BanList
masked-list = list_with (x ∷ [])

is-mask : all is_mask (x ∷ []) ≡ true
unfolding is_mask is_plain all
is-mask = refl

network-is : network_by (network_of before) (arrival 3 mask) ≡ with_list (network_of before) 0 masked-list
unfolding network_by masked
network-is = ap (λ (m : Meaning). m.after (network_of before) (arrival 3 mask)) (means mask (49 ∷ 48 ∷ 48 ∷ 48 ∷ []) says.0 own.0) ∙ ap (masked (network_of before)) says.0.1 ∙ rw (found.1, found.0, masks-are)

there : length (list_at empty_lists 0) ≡ list_size
there = ap (λ (s : List ℕ). length s) (lists-empty 0 (omega arith)) ∙ empty-whole

-- the table after it
abbrev after : Table
after = with_network before (network_by (network_of before) (arrival 3 mask))

after-good : good_table after ≡ true
after-good = taken-good (network_of before) (arrival 3 mask) (taken-by mask (49 ∷ 48 ∷ 48 ∷ 48 ∷ []) says.0 own.0 none) good

-- has that list
whole : length masked-list.room ≡ list_size
unfolding encode_list
whole = omega (arith, length-padded 0 rooms_size (concatenated (map room_of (x ∷ []))))

after-masks : masks (list_at after.bans 0) ≡ x ∷ []
after-masks = ap (λ (n : Network). masks (list_at n.bans 0)) network-is ∙ ap masks (list-stored empty_lists 0 masked-list there whole) ∙ masks-encode (x ∷ []) (omega arith) is-mask

-- ---- a relay that never adds a mask
-- one mask isn't none
one-mask : x ∷ [] ≡ [] → ⊥
one-mask e = let n : length (x ∷ []) ≡ length {A = List ℕ} [] = ap (λ (l : List (List ℕ)). length l) e in omega (arith, n)

has-bmask : has_word bmask (arrival 3 mask) ≡ true
has-bmask = ap (λ (w : List ℕ). same w bmask) (in-capitals mask (49 ∷ 48 ∷ 48 ∷ 48 ∷ []) says.0 own.0) ∙ same_refl bmask

-- A relay that never adds a mask doesn't meet demand 2.
pub unmasking-fails : Demand2 unmasking → ⊥
unmasking-fails d =
    let left : after ≡ before =
    sym (d before (arrival 3 mask) room ruled-mask).table ∙ ap (λ (b : Bool). (cond b (unaltering before (arrival 3 mask) room) (ours before (arrival 3 mask) room)).0.table) has-bmask in
    one-mask (sym after-masks ∙ ap (λ (u : Table). masks (list_at u.bans 0)) left ∙ no-masks)

-- ---- a relay that keeps the list
has-sjoin : has_word sjoin (arrival 0 earlier) ≡ true
has-sjoin = ap (λ (w : List ℕ). same w sjoin) earlier-command ∙ same_refl sjoin

-- `earlier` finds the channel in the first slot, with room for its member, and has an earlier time
finds : (slot_for before.slots stored.name ≡ Held 0) × (length (merge (decode (encode incoming)) stored).members ≤ member_limit) × (ltb stored.time (encode incoming).time ≡ true)
unfolding incoming stored 1ab 2cd with_mode encode decode empty_record padded slot_for first_at free_slot holds same_name same_by fold within merge settings_at standing counts bare insert put unite compare greater join_settings
finds = (refl, omega arith, refl)

-- a BMASK leaves the slots
same-slots : after.slots ≡ before.slots
same-slots = ap (λ (n : Network). n.slots) network-is

held : slot_in (network_of after) (channel_of earlier).name ≡ Held 0
held = ap₂ (λ (s : List Record) (c : Channel). slot_for s c.name) same-slots earlier-tells ∙ finds.0

ruled-earlier : ruled after (arrival 0 earlier) room ≡ accepted
ruled-earlier =
    let none = sym (start-number (start 41) refl (earlier_from 0)) ∙ earlier-number 41 0 on-0 in
    join-entered (arrival 0 earlier) earlier-is after after-good (length room) none
    ∙ merge-room (network_of after) (channel_of earlier) 0 held (rw (ap (λ (s : List Record). get_or s 0 empty_record) same-slots, earlier-tells) finds.1)

-- so that its list is emptied
emptied : (network_by (network_of after) (arrival 0 earlier)).bans ≡ stored_at after.bans 0 empty_list
unfolding joined is_earlier
emptied =
    ap (λ (n : Network). n.bans) (network-joined (network_of after) (arrival 0 earlier) (command-join earlier earlier-command))
    ∙ rw held (ap (λ (b : Bool). emptied_if b 0 after.bans) (ap₂ (λ (s : List Record) (c : Channel). ltb c.time (get_or s 0 empty_record).time) same-slots earlier-tells ∙ finds.2))

-- A relay that keeps the list on an earlier SJOIN doesn't meet demand 2.
pub keeping-fails : Demand2 keeping_lists → ⊥
keeping-fails d = one-mask (sym after-masks ∙ ap (λ (b : List ℕ). masks (list_at b 0)) (kept ∙ emptied) ∙ gone)
  where
    kept : after.bans ≡ (network_by (network_of after) (arrival 0 earlier)).bans
    kept =
        sym (ap (λ (b : Bool). (cond b (with_table (ours after (arrival 0 earlier) room).0 (with_bans_of (ours after (arrival 0 earlier) room).0.table after), (ours after (arrival 0 earlier) room).1) (ours after (arrival 0 earlier) room)).0.table.bans) has-sjoin)
        ∙ ap (λ (u : Table). u.bans) (d after (arrival 0 earlier) room ruled-earlier).table

    gone : masks (list_at (stored_at after.bans 0 empty_list) 0) ≡ []
    gone = ap masks (list-stored after.bans 0 empty_list (list-whole (network_of after) after-good 0 (rw same-slots (omega arith))) empty-whole) ∙ empty-masks

-- ---- a BMASK that is later than its channel
late-none : first_of (masked_rules (network_of before) late-content) ≡ accepted
unfolding masked_rules
late-none = skip _ _ (rw found.0) ∙ skip _ _ (rw found.2) ∙ first-nil

ruled-late : ruled before (arrival 3 late) room ≡ accepted
ruled-late = ruled-by late (49 ∷ 50 ∷ 48 ∷ 49 ∷ []) says.1 own.1 late-none

is-late : is_late_mask before (arrival 3 late) ≡ true
is-late =
    ap₂ (λ (w : List ℕ) (c : Content). same w bmask && is_later (network_of before) c) (in-capitals late (49 ∷ 50 ∷ 48 ∷ 49 ∷ []) says.1 own.1) says.1.1
    ∙ rw (same_refl bmask, found.2)

-- nothing goes out of it, and the table is as it was
late-silent : Silent before room (ours before (arrival 3 late) room).0 (ours before (arrival 3 late) room).1
late-silent = (demand2 before (arrival 3 late) room ruled-late).silent is-late
