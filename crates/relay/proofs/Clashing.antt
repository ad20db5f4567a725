-- Tables and records that get 1, since a table holds one name in two spellings, or a ban list one mask in two, or masks in the wrong order: witnesses for the
-- premises of the laws of what isn't well formed. With another name, or another order, they are well formed. Assumes nothing.
use Prim.Native.Nat.{ℕ, ◌-◌, ◌≤◌, ◌<◌}
use mathlib.Core.Path.{◌≡◌, refl, ap, ◌∙◌}
use mathlib.Core.Bool.{Bool, true, false}
use mathlib.Core.List.{List, [], ◌∷◌, map}
use native.Mathlib.Omega.{arith}
use lib.ListN.{length, get_or, replicate}
use Rattle.laws.specs.Lists.{all, same_by, padded, starts_with}
use Rattle.laws.specs.Bits.{has_bit}
use Rattle.laws.proofs.Lists.{all_cons, all_replicate}
use Rattle.octets.specs.Bytes.{within, is_plain, is_digit, is_id_byte, is_name_byte, is_key_byte}
use Rattle.octets.specs.Order.{compare}
use Rattle.octets.specs.Room.{part}
use Rattle.ascending.specs.Ascending.{ascends}
use Rattle.names.specs.Fold.{fold, with_caret, same_name}
use Rattle.names.specs.Names.{is_channel, is_server_id, is_user_id}
use Rattle.links.specs.Links.{links}
use Rattle.channel.specs.declared.Record.{Record}
use Rattle.channel.specs.Limits.{slot_count, ban_limit}
use Rattle.channel.specs.Modes.{with_mode}
use Rattle.channel.specs.Key.{is_key}
use Rattle.channel.specs.Record.{encode, decode, empty_record}
use Rattle.channel.specs.WellFormed.{good_time, good_settings, good_key, good_limit, good_member, good_members, channel_tests, in_room, clear, well_formed}
use Rattle.channel.proofs.Blank.{empty-free, empty-blank}
use Rattle.channel.proofs.Examples.{2cd, stored}
use Rattle.bans.specs.Masks.{is_mask, comes_before, mask_in, room_of, chunks, rooms, mask_count, used_rooms, masks, encode_list}
use Rattle.bans.specs.WellFormed.{good_room, well_formed_list}
use Rattle.bans.specs.Slots.{list_at, list_with, empty_lists}
use Rattle.bans.specs.Slots as lists
use Rattle.bans.specs.Records.{whole, well_formed_whole}
use Rattle.bans.proofs.Records.{whole-well}
use Rattle.bans.proofs.Slots.{list-there, list-stored, empty-size}
use Rattle.bans.proofs.Encoding.{length-encode, masks-encode}
use Rattle.table.specs.Network.{Table, network_of}
use Rattle.table.specs.Table.{holds, alike, distinct, good_table}
use Rattle.table.specs.Private.Parts.{good_record}
use Rattle.table.proofs.WellFormed.{good-free, good-used, network-made, empty-lists, list-change}
use Rattle.relay.specs.IllFormed.{TableGets1, RecordGets1}
use Rattle.relay.proofs.Examples.{race, water, stored-well, water-good}
use Rattle.relay.proofs.IllFormed.{named-twice, table-misplaced, record-misplaced, tilde-named, tilde-listed, tilde-recorded}

-- ---- names
-- the record of document 01's whole case under another name
under : List ℕ → Record
under name = encode (record { name = name; time = stored.time; settings = stored.settings; members = stored.members })

-- the table whose first two slots hold these names
both : List ℕ → List ℕ → Table
both a b = record { slots = under a ∷ under b ∷ replicate (slot_count - 2) empty_record; links = links 41; bans = empty_lists }

-- `#A[` and `#a{`
brackets : TableGets1 (both (35 ∷ 65 ∷ 91 ∷ []) (35 ∷ 97 ∷ 123 ∷ []))
unfolding both under stored 2cd with_mode encode decode padded holds same_name same_by fold within
brackets = named-twice (both (35 ∷ 65 ∷ 91 ∷ []) (35 ∷ 97 ∷ 123 ∷ [])) (35 ∷ 65 ∷ 91 ∷ []) 0 1 (λ q. omega (arith, q)) (omega arith) (omega arith) refl refl

-- `#~mark` and `#^mark` (document 02, §4), whichever comes first
tilde_mark : List ℕ
tilde_mark = 35 ∷ 126 ∷ 109 ∷ 97 ∷ 114 ∷ 107 ∷ []

caret_mark : List ℕ
caret_mark = 35 ∷ 94 ∷ 109 ∷ 97 ∷ 114 ∷ 107 ∷ []

one-letter : map with_caret tilde_mark ≡ map with_caret caret_mark
unfolding tilde_mark caret_mark
one-letter = refl

sat-apart : TableGets1 (both tilde_mark caret_mark) × TableGets1 (both caret_mark tilde_mark)
unfolding both tilde_mark caret_mark under stored 2cd with_mode encode decode padded holds same_name same_by fold within
sat-apart = (
  tilde-named (both tilde_mark caret_mark) tilde_mark caret_mark one-letter 0 1 (λ q. omega (arith, q)) (omega arith) (omega arith) refl refl,
  tilde-named (both caret_mark tilde_mark) tilde_mark caret_mark one-letter 1 0 (λ q. omega (arith, q)) (omega arith) (omega arith) refl refl,
)

-- with `#_mark` for the second it is well formed: nothing else was wrong
other_mark : List ℕ
other_mark = 35 ∷ 95 ∷ 109 ∷ 97 ∷ 114 ∷ 107 ∷ []

well-named : map (λ name. well_formed (under name)) (tilde_mark ∷ other_mark ∷ []) ≡ true ∷ true ∷ []
unfolding tilde_mark other_mark under stored 2cd with_mode encode decode padded well_formed in_room clear channel_tests good_time good_settings good_key good_limit good_members good_member is_channel is_name_byte is_plain is_key is_key_byte starts_with within has_bit is_user_id is_server_id is_digit is_id_byte ascends all
well-named = refl

all_apart : distinct (both tilde_mark other_mark).slots ≡ true
unfolding both tilde_mark other_mark under stored 2cd with_mode empty_record encode decode padded distinct all alike holds same_name same_by fold within
all_apart = refl

in_use : (name : List ℕ) → (under name).count ≡ 0 → ⊥
unfolding under stored encode
in_use name z = omega (arith, z)

apart-good : good_table (both tilde_mark other_mark) ≡ true
unfolding both
apart-good =
    let well : ℕ → List Bool → Bool = λ k l. get_or l k false in
    network-made (network_of (both tilde_mark other_mark)) (omega arith)
    (all_cons good_record (under tilde_mark) _ (good-used (under tilde_mark) (in_use tilde_mark) ∙ ap (well 0) well-named)
    (all_cons good_record (under other_mark) _ (good-used (under other_mark) (in_use other_mark) ∙ ap (well 1) well-named)
    (all_replicate good_record empty_record (slot_count - 2) (good-free empty_record empty-free ∙ empty-blank))))
    (empty-lists (both tilde_mark other_mark).slots (omega arith)) all_apart

-- ---- masks
-- the table of document 01's whole case, whose first slot has these
listed : List (List ℕ) → Table
listed l = record { slots = water.slots; links = water.links; bans = lists.stored water.bans 0 (list_with l) }

-- that table, and the record with these
module _ (l : List (List ℕ)) (few : length l ≤ ban_limit) (good : all is_mask l ≡ true) (i j : ℕ) (h : i < j) (k : j < length l) where
  own : masks (encode_list l) ≡ l
  own = masks-encode l few good

  first : masks (list_at (listed l).bans 0) ≡ l
  unfolding listed water
  first = ap masks (list-stored empty_lists 0 (list_with l) (list-there empty_lists 0 empty-size (omega arith)) (length-encode l)) ∙ own

  -- where the mask at place i doesn't come before the one at place j
  out_of_order : comes_before (get_or l i []) (get_or l j []) ≡ false → TableGets1 (listed l) × RecordGets1 (whole (encode stored) (list_with l))
  unfolding listed water race stored 2cd with_mode encode padded
  out_of_order e =
      (table-misplaced (listed l) 0 (omega arith) refl i j h (rw first k) (rw first e), record-misplaced (whole (encode stored) (list_with l)) i j h (rw own k) (rw own e))

  -- where the two differ in '~' and '^' alone
  one-mask : map with_caret (get_or l i []) ≡ map with_caret (get_or l j []) → TableGets1 (listed l) × RecordGets1 (whole (encode stored) (list_with l))
  unfolding listed water race stored 2cd with_mode encode padded
  one-mask e = (tilde-listed (listed l) 0 (omega arith) refl i j h (rw first k) (rw first e), tilde-recorded (whole (encode stored) (list_with l)) i j h (rw own k) (rw own e))

abbrev Gets1 : List (List ℕ) → Type 0
Gets1 l = TableGets1 (listed l) × RecordGets1 (whole (encode stored) (list_with l))

-- `[x` and `{x`, which are one mask, and `b` before `A`
mask-twice : Gets1 ((91 ∷ 120 ∷ []) ∷ (123 ∷ 120 ∷ []) ∷ [])
unfolding all is_mask is_plain compare fold within
mask-twice = out_of_order ((91 ∷ 120 ∷ []) ∷ (123 ∷ 120 ∷ []) ∷ []) (omega arith) refl 0 1 (omega arith) (omega arith) refl

wrong-order : Gets1 ((98 ∷ []) ∷ (65 ∷ []) ∷ [])
unfolding all is_mask is_plain compare fold within
wrong-order = out_of_order ((98 ∷ []) ∷ (65 ∷ []) ∷ []) (omega arith) refl 0 1 (omega arith) (omega arith) refl

-- `^x` and `~x`, and `a` before `~`, which is the order that was (document 02, §4)
caret-tilde : Gets1 ((94 ∷ 120 ∷ []) ∷ (126 ∷ 120 ∷ []) ∷ [])
unfolding all is_mask is_plain
caret-tilde = one-mask ((94 ∷ 120 ∷ []) ∷ (126 ∷ 120 ∷ []) ∷ []) (omega arith) refl 0 1 (omega arith) (omega arith) refl

order-that-was : Gets1 ((97 ∷ []) ∷ (126 ∷ []) ∷ [])
unfolding all is_mask is_plain compare fold within
order-that-was = out_of_order ((97 ∷ []) ∷ (126 ∷ []) ∷ []) (omega arith) refl 0 1 (omega arith) (omega arith) refl

-- with `~` before `a` both are well formed: nothing else was wrong
new_order : List (List ℕ)
new_order = (126 ∷ []) ∷ (97 ∷ []) ∷ []

list-well : well_formed_list (encode_list new_order) ≡ true
unfolding new_order well_formed_list encode_list all ascends good_room is_mask is_plain mask_in part room_of padded chunks rooms mask_count used_rooms compare fold within
list-well = refl

record-well : well_formed_whole (whole (encode stored) (list_with new_order)) ≡ true
record-well = whole-well (whole (encode stored) (list_with new_order)) stored-well list-well

table-well : good_table (listed new_order) ≡ true
unfolding listed water race stored encode
table-well = list-change (network_of water) water-good 0 (omega arith) (list_with new_order) refl list-well
