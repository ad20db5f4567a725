-- The limit, and a table of two channels as text, as computed from the definitions: one without masks, one with two, and a free slot between them, which has no
-- lines. Which masks stand in the lent bytes is known by law. Assumes nothing.
use Prim.Native.Nat.{ℕ, ◌+◌, ◌-◌, ◌*◌}
use mathlib.Core.Path.{◌≡◌, refl, ap, ◌∙◌}
use mathlib.Core.Bool.{true}
use mathlib.Core.List.{List, [], ◌∷◌, ◌++◌}
use native.Mathlib.Omega.{arith}
use lib.ListN.{replicate}
use Rattle.laws.specs.Bits.{has_bit}
use Rattle.laws.specs.Lists.{all, padded, prefixed, separated}
use Rattle.octets.specs.Bytes.{lf, space, is_plain}
use Rattle.octets.specs.Decimals.{digits_up_to, digits_of}
use Rattle.channel.specs.Limits.{slot_count, mask_limit, ban_limit}
use Rattle.channel.specs.Modes.{with_mode}
use Rattle.channel.specs.Channel.{Channel, member}
use Rattle.channel.specs.Record.{encode, decode, empty_record}
use Rattle.channel.proofs.Examples.{1ab, 2cd, stored}
use Rattle.bans.specs.Masks.{is_mask, masks}
use Rattle.bans.specs.Slots.{list_at, list_with, empty_lists}
use Rattle.bans.specs.Slots as lists
use Rattle.bans.proofs.Slots.{list-there, list-stored, list-other, lists-empty, empty-size, empty-masks}
use Rattle.bans.proofs.Encoding.{length-encode, masks-encode}
use Rattle.table.specs.Network.{Network}
use Rattle.table.specs.Table.{wholes_from}
use Rattle.telling.specs.Telling.{letters_from, entry_of, params_of, described, description_limit}
use Rattle.listing.specs.Listing.{channel_lines, slot_lines, listing, listing_limit}
use Rattle.listing.specs.Private.Slots.{slot_limit}

-- the limits are those of their parts
slot-limit : slot_limit ≡ description_limit + 1 + (ban_limit * mask_limit + (ban_limit - 1)) + 1
slot-limit = refl

listing-limit : listing_limit ≡ slot_count * slot_limit
listing-limit = refl

-- `#a`, time 5, k with key `key`, l with limit 7, members 1ABAAAAAA operator with voice, and 1ABAAAAAB
small : Channel
small = record {
  name = 35 ∷ 97 ∷ [];
  time = 5;
  settings = record { modes = 192; key = 107 ∷ 101 ∷ 121 ∷ []; limit = 7 };
  members = member (1ab 65) 3 ∷ member (1ab 66) 0 ∷ [];
}

-- the masks `*!*@rowdy` and `Loud*`
rowdy : List ℕ
rowdy = 42 ∷ 33 ∷ 42 ∷ 64 ∷ 114 ∷ 111 ∷ 119 ∷ 100 ∷ 121 ∷ []

loud : List ℕ
loud = 76 ∷ 111 ∷ 117 ∷ 100 ∷ 42 ∷ []

-- the lists: that of slot 2 has them
marked : List ℕ
marked = lists.stored empty_lists 2 (list_with (rowdy ∷ loud ∷ []))

-- slot 0 holds `#a`, slot 2 `#Race`
two : Network
two = record { slots = encode small ∷ empty_record ∷ encode stored ∷ replicate (slot_count - 3) empty_record; bans = marked }

are-masks : all is_mask (rowdy ∷ loud ∷ []) ≡ true
unfolding rowdy loud all is_mask is_plain
are-masks = refl

second-there : masks (list_at marked 2) ≡ rowdy ∷ loud ∷ []
unfolding marked
second-there =
    ap masks (list-stored empty_lists 2 (list_with (rowdy ∷ loud ∷ [])) (list-there empty_lists 2 empty-size (omega arith)) (length-encode (rowdy ∷ loud ∷ [])))
    ∙ masks-encode (rowdy ∷ loud ∷ []) (omega arith) are-masks

first-none : masks (list_at marked 0) ≡ []
unfolding marked
first-none =
    ap masks
    (list-other empty_lists 2 (list_with (rowdy ∷ loud ∷ [])) (list-there empty_lists 2 empty-size (omega arith)) (length-encode (rowdy ∷ loud ∷ [])) 0 (omega arith) (omega arith) (λ e. omega arith)
    ∙ lists-empty 0 (omega arith))
    ∙ empty-masks

-- `5 #a +kl key 7 @+1ABAAAAAA 1ABAAAAAB`, an empty line, `1000 #Race +k buoy @2CDAAAAAA` and `*!*@rowdy Loud*`
listed : listing two
    ≡ 53 ∷ 32 ∷ 35 ∷ 97 ∷ 32 ∷ 43 ∷ 107 ∷ 108 ∷ 32 ∷ 107 ∷ 101 ∷ 121 ∷ 32 ∷ 55 ∷ 32 ∷ 64 ∷ 43 ∷ 49 ∷ 65 ∷ 66 ∷ 65 ∷ 65 ∷ 65 ∷ 65 ∷ 65 ∷ 65 ∷ 32 ∷ 49 ∷ 65 ∷ 66 ∷ 65 ∷ 65 ∷ 65 ∷ 65 ∷ 65 ∷ 66 ∷ lf
    ∷ lf
    ∷ 49 ∷ 48 ∷ 48 ∷ 48 ∷ 32 ∷ 35 ∷ 82 ∷ 97 ∷ 99 ∷ 101 ∷ 32 ∷ 43 ∷ 107 ∷ 32 ∷ 98 ∷ 117 ∷ 111 ∷ 121 ∷ 32 ∷ 64 ∷ 50 ∷ 67 ∷ 68 ∷ 65 ∷ 65 ∷ 65 ∷ 65 ∷ 65 ∷ 65 ∷ lf
    ∷ rowdy ++ (space ∷ loud ++ (lf ∷ []))
unfolding two small rowdy loud stored 1ab 2cd with_mode listing slot_lines channel_lines described params_of separated prefixed letters_from entry_of digits_of digits_up_to has_bit wholes_from encode decode empty_record padded
listed = rw (first-none, second-there)
