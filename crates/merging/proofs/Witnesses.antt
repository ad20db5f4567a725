-- Three lines of `#Race` that meet the premises of this crate's laws, and what the laws say of them. Assumes nothing.
use Prim.Native.Nat.{◌≤◌}
use mathlib.Core.Path.{◌≡◌, refl}
use mathlib.Core.Bool.{true}
use mathlib.Core.List.Memᴰ
use mathlib.Core.List.{[], ◌∷◌, Memᴰ}
use native.Mathlib.Omega.{arith}
use lib.ListN.{length}
use Rattle.refusal.specs.Numbers.{accepted}
use Rattle.refusal.specs.Rules.{first_of}
use Rattle.octets.specs.Bytes.{within}
use Rattle.laws.specs.Lists.{same_by, padded}
use Rattle.octets.specs.Order.{compare}
use Rattle.octets.specs.Room.{part}
use Rattle.ascending.specs.Ascending.{insert, put, unite}
use Rattle.laws.proofs.Joins.{Within}
use Rattle.names.specs.Fold.{fold, same_name}
use Rattle.channel.specs.Limits.{member_limit}
use Rattle.channel.specs.Modes.{with_mode}
use Rattle.channel.specs.Channel.{Channel, member, by_id}
use Rattle.channel.specs.Record.{encode, decode}
use Rattle.channel.specs.WellFormed.{well_formed}
use Rattle.channel.specs.Members.{status_in}
use Rattle.channel.specs.Standing.{counts, settings_at, bare, standing}
use Rattle.channel.proofs.Fields.{peopled}
use Rattle.channel.proofs.Proper.{Proper}
use Rattle.channel.proofs.Examples.{2cd, 1ab, stored, incoming}
use Rattle.channel.proofs.Witnesses.{second, lines, proper, stored-in, incoming-in, second-in, incoming-later, well}
use Rattle.bans.specs.declared.WholeRecord.{WholeRecord}
use Rattle.bans.specs.Masks.{mask_in, room_of, chunks, rooms, mask_count, used_rooms, masks, encode_list}
use Rattle.bans.specs.Slots.{list_with, empty_list}
use Rattle.bans.specs.Records.{whole}
use Rattle.merging.specs.Settings.{greater, join_settings}
use Rattle.merging.specs.Merging.{merge, answer_of, combined, merged_masks, merge_answer}
use Rattle.merging.specs.Plain.{earliest, entries, everyone, status_at, plain}
use Rattle.merging.proofs.Rules.{merge-later, merge_equal, merge-earlier, later-keeps, later-none, masks-later, masks-equal, masks-earlier}
use Rattle.merging.proofs.Proper.{proper-merge, merge-well}
use Rattle.merging.proofs.Plains.{everyone-same, merge-plain, plain-single, spelled, plain-same}
use Rattle.merging.proofs.Merges.{InOrder, folded, merge-comm, merge-self, folded-plain, merge-assoc, length-folded}
use Rattle.merging.proofs.Answers.{combined-merge, answer-encoded}

-- each has its members in order
in_order : (c : Channel) → Memᴰ c lines → InOrder c
in_order c m = (proper c m).ascending

-- ---- the rules of SJOIN
later : merge stored incoming ≡ peopled stored (unite by_id stored.members (bare incoming.members))
later = merge-later stored incoming incoming-later

-- the operator of the stored record keeps its status, and that of the later line has none
operator-keeps : status_in 2cd (merge stored incoming).members ≡ 2
unfolding status_in same_by stored 2cd
operator-keeps = later-keeps stored incoming incoming-later 2cd

operator-none : status_in (1ab 65) (merge stored incoming).members ≡ 0
unfolding same_by stored 1ab 2cd
operator-none = later-none stored incoming incoming-later (1ab 65) refl

-- the modes of both, the greater key, the limit of the one that has it, operator and voice together
equal : merge stored second ≡ record { name = stored.name; time = 1000; settings = second.settings; members = member (1ab 65) 0 ∷ member 2cd 3 ∷ [] }
unfolding insert put unite compare greater join_settings with_mode stored second 1ab 2cd
equal = merge_equal stored second refl

earlier : merge incoming stored ≡ spelled incoming.name (peopled stored (unite by_id (bare incoming.members) stored.members))
earlier = merge-earlier incoming stored incoming-later

-- ---- the laws of merging
turned : merge stored incoming ≡ spelled stored.name (merge incoming stored)
turned = merge-comm stored incoming (proper stored stored-in).ascending (proper incoming incoming-in).ascending

itself : merge second second ≡ second
itself = merge-self second (proper second second-in).ascending

grouped : merge (merge stored incoming) second ≡ merge stored (merge incoming second)
grouped = merge-assoc stored incoming second (in_order stored stored-in) (in_order incoming incoming-in) (in_order second second-in)

-- ---- the plain record
alone : plain second [] ≡ second
alone = plain-single second (proper second second-in).ascending

plain_lines : merge (plain stored (incoming ∷ [])) (plain second (incoming ∷ [])) ≡ plain stored (incoming ∷ second ∷ incoming ∷ [])
plain_lines = merge-plain stored second (incoming ∷ []) (incoming ∷ [])

-- the three merged one after the other: of the later line only the users are there
one_by_one : folded stored (incoming ∷ second ∷ []) ≡ record { name = stored.name; time = 1000; settings = second.settings; members = member (1ab 65) 0 ∷ member (1ab 66) 0 ∷ member 2cd 3 ∷ [] }
unfolding plain earliest settings_at standing counts bare everyone entries status_in status_at same_by insert put unite compare greater join_settings with_mode stored incoming second 1ab 2cd
one_by_one = folded-plain stored (incoming ∷ second ∷ []) in_order

three-named : length (folded stored (incoming ∷ second ∷ [])).members ≡ 3
unfolding everyone entries insert put unite compare stored incoming second 1ab 2cd
three-named = length-folded stored (incoming ∷ second ∷ []) (proper stored stored-in).ascending

-- two lines, one of them given twice, and the two in the other order: each list is within the other
there : Within (stored ∷ incoming ∷ stored ∷ []) (incoming ∷ stored ∷ [])
there c (Memᴰ.head e) = Memᴰ.tail (Memᴰ.head e)
there c (Memᴰ.tail (Memᴰ.head e)) = Memᴰ.head e
there c (Memᴰ.tail (Memᴰ.tail (Memᴰ.head e))) = Memᴰ.tail (Memᴰ.head e)
there c (Memᴰ.tail (Memᴰ.tail (Memᴰ.tail m))) = absurd (Memᴰ.not-nil m)

back : Within (incoming ∷ stored ∷ []) (stored ∷ incoming ∷ stored ∷ [])
back c (Memᴰ.head e) = Memᴰ.tail (Memᴰ.head e)
back c (Memᴰ.tail (Memᴰ.head e)) = Memᴰ.head e
back c (Memᴰ.tail (Memᴰ.tail m)) = absurd (Memᴰ.not-nil m)

any_order : plain stored (incoming ∷ stored ∷ []) ≡ spelled stored.name (plain incoming (stored ∷ []))
any_order = plain-same stored incoming (incoming ∷ stored ∷ []) (stored ∷ []) there back

as_many : length (everyone (stored ∷ incoming ∷ stored ∷ [])) ≡ length (everyone (incoming ∷ stored ∷ []))
as_many = everyone-same (stored ∷ incoming ∷ stored ∷ []) (incoming ∷ stored ∷ []) there back

-- ---- records
few : length (merge stored incoming).members ≤ member_limit
unfolding merge standing counts bare insert put unite compare stored incoming 1ab 2cd
few = omega arith

merged : Proper (merge stored incoming)
merged = proper-merge stored incoming (proper stored stored-in) (proper incoming incoming-in) few

merged-well : well_formed (encode (merge (decode (encode stored)) (decode (encode incoming)))) ≡ true
unfolding merge standing counts bare insert put unite compare encode decode padded stored incoming 1ab 2cd
merged-well = merge-well (encode stored) (encode incoming) (well stored stored-in) (well incoming incoming-in) (omega arith)

-- two such records merged without a test
untested : combined (encode stored) (encode incoming) ≡ answer_of accepted (encode (merge stored incoming))
unfolding first_of merge settings_at standing counts bare insert put unite compare greater join_settings encode decode padded stored incoming 1ab 2cd
untested = combined-merge (encode stored) (encode incoming) (well incoming incoming-in)

-- without masks none result
without-masks : merge_answer (whole (encode stored) empty_list) (whole (encode incoming) empty_list) ≡ record { number = accepted; result = whole (encode (merge stored incoming)) empty_list }
unfolding same_name fold same_by within stored incoming
without-masks = answer-encoded stored incoming (proper stored stored-in) (proper incoming incoming-in) refl few

-- ---- ban lists, of masks of one byte
-- the stored record with A and b
abbrev held : WholeRecord
held = whole (encode stored) (list_with ((65 ∷ []) ∷ (98 ∷ []) ∷ []))

-- a record with a and c
abbrev banning : Channel → WholeRecord
banning c = whole (encode c) (list_with ((97 ∷ []) ∷ (99 ∷ []) ∷ []))

list-stays : merged_masks held (banning incoming) ≡ (65 ∷ []) ∷ (98 ∷ []) ∷ []
unfolding encode masks mask_in part room_of padded chunks rooms mask_count used_rooms encode_list
list-stays = masks-later held (banning incoming) incoming-later

list-united : merged_masks held (banning second) ≡ (65 ∷ []) ∷ (98 ∷ []) ∷ (99 ∷ []) ∷ []
unfolding encode masks mask_in part room_of padded chunks rooms mask_count used_rooms encode_list unite put insert compare fold within stored second
list-united = masks-equal held (banning second) refl

list-taken : merged_masks (banning incoming) held ≡ (65 ∷ []) ∷ (98 ∷ []) ∷ []
unfolding encode masks mask_in part room_of padded chunks rooms mask_count used_rooms encode_list
list-taken = masks-earlier (banning incoming) held incoming-later
