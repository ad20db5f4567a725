-- A table with one channel as computed from the definitions: well formed, the slot that a name uses, and whom its bans keep out. Instances that meet the
-- premises of this crate's laws. Assumes nothing.
use Prim.Native.Nat.{ℕ, ◌-◌}
use mathlib.Core.Path.{◌≡◌, refl, sym, ap, ◌∙◌}
use mathlib.Core.Bool.{Bool, true, false, ◌&&◌, and-false}
use mathlib.Core.List.{List, [], ◌∷◌}
use native.Mathlib.Omega.{arith}
use lib.ListN.{replicate, get_or}
use Rattle.refusal.specs.Numbers.{accepted, not_well_formed, bad_link}
use Rattle.refusal.specs.Rules.{first_of}
use Rattle.laws.specs.Lists.{all, same_by, padded, starts_with}
use Rattle.laws.specs.Bits.{has_bit}
use Rattle.octets.specs.Bytes.{within, is_plain, is_digit, is_id_byte, is_name_byte, is_key_byte}
use Rattle.ascending.specs.Ascending.{insert, put, unite, ascends}
use Rattle.names.specs.Fold.{fold, same_name}
use Rattle.names.specs.Names.{is_channel, is_server_id, is_user_id}
use Rattle.glob.specs.Mask.{matches_byte, first_then, after_run, match_rules, match_answer}
use Rattle.glob.specs.Mask as glob
use Rattle.links.specs.Links.{links, no_links, with_link, without_link}
use Rattle.channel.specs.declared.Record.{Record}
use Rattle.channel.specs.Limits.{slot_count}
use Rattle.channel.specs.Key.{is_key}
use Rattle.channel.specs.Modes.{with_mode}
use Rattle.channel.specs.Record.{encode, decode, empty_record}
use Rattle.channel.specs.WellFormed.{good_time, good_settings, good_key, good_limit, good_member, good_members, channel_tests, in_room, clear, well_formed}
use Rattle.channel.proofs.Examples.{stored, 2cd}
use Rattle.bans.specs.declared.BanList.{BanList}
use Rattle.bans.specs.Masks.{is_mask, by_spelling, masks}
use Rattle.bans.specs.WellFormed.{good_list}
use Rattle.bans.specs.Putting.{add_answer}
use Rattle.bans.specs.Slots.{list_at, empty_list, empty_lists}
use Rattle.bans.specs.Records.{good_whole}
use Rattle.bans.specs.Matching.{some_matches}
use Rattle.bans.proofs.Slots.{good-there, list-stored, lists-empty, empty-masks, empty-well}
use Rattle.bans.proofs.Uniting.{Made, add-full, add-keeps}
use Rattle.table.specs.declared.Banned.{Banned}
use Rattle.table.specs.Network.{Table, network_of, with_list, with_network}
use Rattle.table.specs.Table.{is_free, wholes, holds, alike, distinct, good_table, register_answer, unregister_answer}
use Rattle.table.specs.Slots.{Slot, Held, Free, Full, first_at, free_slot, slot_for, held_in}
use Rattle.table.specs.Banned.{banned_answer}
use Rattle.table.proofs.First.{IsFirst, IsNone}
use Rattle.table.proofs.Searching.{slot_held, slot-free, slot-full}
use Rattle.table.proofs.WellFormed.{network-slots, list-whole, list-change, holding-used, held-once}
use Rattle.table.proofs.Alone.{alone-good}
use Rattle.table.proofs.Questions.{banned-asked}
use Rattle.table.proofs.Registering.{links-ill-formed, links-no-link, links-changed}

-- #Race, time 1000, k with key buoy, member 2CDAAAAAA operator
race : Record
race = encode stored

-- the first slot holds it
one : Table
one = record { slots = race ∷ replicate (slot_count - 1) empty_record; links = no_links; bans = empty_lists }

-- every slot holds it
many : Table
many = record { slots = replicate slot_count race; links = no_links; bans = empty_lists }

race-well : well_formed race ≡ true
unfolding race stored 2cd with_mode encode decode padded well_formed in_room clear channel_tests good_time good_settings good_key good_limit good_members good_member is_channel is_name_byte is_plain is_key is_key_byte starts_with within has_bit is_user_id is_server_id is_digit is_id_byte ascends all
race-well = refl

-- it is well formed
one-good : good_table one ≡ true
unfolding one
one-good = alone-good race race-well one (slot_count - 1) (omega arith) refl refl

-- the other isn't: its names are equal
many-alike : distinct many.slots ≡ false
unfolding many race stored 2cd with_mode encode decode padded distinct all alike holds same_name same_by fold within
many-alike = refl

many-ill : good_table many ≡ false
unfolding many
many-ill = network-slots (network_of many) (omega arith) ∙ ap (λ (t : Bool). all good_whole (wholes (network_of many)) && t) many-alike ∙ and-false (all good_whole (wholes (network_of many)))

-- #rACE, which is held, and #b, which is new and takes the second slot, or finds none
abbrev known : List ℕ
known = 35 ∷ 114 ∷ 65 ∷ 67 ∷ 69 ∷ []

abbrev new : List ℕ
new = 35 ∷ 98 ∷ []

found : slot_for one.slots known ∷ slot_for one.slots new ∷ slot_for many.slots new ∷ [] ≡ Held 0 ∷ Free 1 ∷ Full ∷ []
unfolding one many race stored 2cd with_mode empty_record encode decode padded slot_for free_slot first_at holds same_name same_by fold within
found = refl

-- the record comes with the slot that has the name, and the empty one with no other
handed-back : held_in one.slots (Held 0) ∷ held_in one.slots (Free 1) ∷ held_in many.slots Full ∷ [] ≡ race ∷ empty_record ∷ empty_record ∷ []
unfolding one
handed-back = refl

-- ---- the laws of a search
known_slot : slot_for one.slots known ≡ Held 0
known_slot = ap (λ (l : List Slot). get_or l 0 Full) found

known-held : IsFirst (holds known) one.slots empty_record 0
known-held = slot_held one.slots known empty_record 0 known_slot

new-free : IsNone (holds new) one.slots empty_record × IsFirst is_free one.slots empty_record 1
new-free = slot-free one.slots new empty_record 1 (ap (λ (l : List Slot). get_or l 1 Full) found)

new-full : IsNone (holds new) many.slots empty_record × IsNone is_free many.slots empty_record
new-full = slot-full many.slots new empty_record (ap (λ (l : List Slot). get_or l 2 (Free 0)) found)

-- ---- the laws of well-formed tables
-- the first slot holds the name, so one that does is the first
known-once : ◌≡◌ {A = ℕ} 0 0
known-once = held-once known one one-good empty_record 0 0 known-held.inside known-held.inside known-held.passes known-held.passes

-- ---- the laws of links registered and dropped
ill-formed : register_answer many 3 ≡ record { number = not_well_formed; table = many }
ill-formed = links-ill-formed many 3 (with_link many.links 3) many-ill

no-link : unregister_answer one 32 ≡ record { number = bad_link; table = one }
no-link = links-no-link one 32 (without_link one.links 32) one-good (omega arith)

registered : register_answer one 3 ≡ record { number = accepted; table = record { slots = one.slots; links = links 8; bans = empty_lists } }
unfolding with_link one
registered = links-changed one 3 (with_link one.links 3) one-good (omega arith)

-- ---- the laws of a question about bans
known-name : is_channel known ≡ true
unfolding is_channel is_name_byte is_plain all
known-name = refl

-- AxB, which a*b matches, and ax, which it doesn't
abbrev matched : List ℕ
matched = 65 ∷ 120 ∷ 66 ∷ []

abbrev unmatched : List ℕ
unmatched = 97 ∷ 120 ∷ []

abbrev answered : Bool → Banned
answered b = record { number = accepted; yes = b }

-- without masks nobody is kept out
unmasked : masks (list_at one.bans 0) ≡ []
unfolding one
unmasked = ap masks (lists-empty 0 (omega arith)) ∙ empty-masks

nobody : banned_answer one known matched ≡ answered false
unfolding some_matches
nobody = sym (banned-asked one known matched one-good known-name 0 known_slot (omega arith) false (rw unmasked))

-- the mask a*b, added to none
abbrev mask : List ℕ
mask = 97 ∷ 42 ∷ 98 ∷ []

abbrev list : BanList
list = (add_answer (mask ∷ []) empty_list).list

is-mask : all is_mask (mask ∷ []) ≡ true
unfolding all is_mask is_plain
is-mask = refl

-- the list is well formed and has it
list-made : Made list (mask ∷ [])
unfolding unite put insert
list-made =
    let e : unite by_spelling (masks empty_list.room) (mask ∷ []) ≡ mask ∷ [] = rw empty-masks in
    let room : (add_answer (mask ∷ []) empty_list).full ≡ false = add-full (mask ∷ []) empty_list empty-well is-mask ∙ rw e in
    let k = add-keeps (mask ∷ []) empty_list empty-well is-mask room in
    (k.0, k.1 ∙ e)

-- the table with it for the first slot
masked : Table
masked = with_network one (with_list (network_of one) 0 list)

masked-good : good_table masked ≡ true
unfolding masked one
masked-good = list-change (network_of one) one-good 0 (omega arith) list (holding-used known _ known-held.passes) list-made.0

masked-slot : slot_for masked.slots known ≡ Held 0
unfolding masked
masked-slot = known_slot

masked-has : masks (list_at masked.bans 0) ≡ mask ∷ []
unfolding masked one good_list
masked-has = ap masks (list-stored empty_lists 0 list (list-whole (network_of one) one-good 0 (omega arith)) (good-there true list.room list-made.0)) ∙ list-made.1

-- AxB is kept out, ax isn't
kept_out : banned_answer masked known matched ≡ answered true
unfolding some_matches match_answer match_rules first_of glob.matches after_run first_then matches_byte fold within
kept_out = sym (banned-asked masked known matched masked-good known-name 0 masked-slot (omega arith) true (rw masked-has))

let-in : banned_answer masked known unmatched ≡ answered false
unfolding some_matches match_answer match_rules first_of glob.matches after_run first_then matches_byte fold within
let-in = sym (banned-asked masked known unmatched masked-good known-name 0 masked-slot (omega arith) false (rw masked-has))
