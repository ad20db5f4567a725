-- BMASK (document 02, §2): masks are added to the ban list of a channel, unless the line is later than the channel.
use Rattle.std.specs.Prelude.{ℕ, Bool, not, cond, ◌&&◌, List, [], ◌∷◌, ◌++◌, length, ltb}
use Rattle.refusal.specs.Numbers.{no_such_channel, too_many_masks}
use Rattle.refusal.specs.Rules.{Rule, ◌when◌}
use Rattle.octets.specs.Decimals.{value_of}
use Rattle.ascending.specs.Ascending.{unite}
use Rattle.message.specs.Content.{Content}
use Rattle.writer.specs.Form.{in_capitals}
use Rattle.channel.specs.Limits.{ban_limit}
use Rattle.bans.specs.Masks.{by_spelling, masks}
use Rattle.bans.specs.Slots.{list_with}
use Rattle.sjoin.specs.Join.{time_in, name_in}
use Rattle.bmask.specs.Masks.{mask_list_in, listed, bmask_rules}
use Rattle.table.specs.Network.{Network, list_in, with_list}
use Rattle.table.specs.Slots.{slot_in, held_in, is_held, place_of}
use Rattle.relay.specs.Arrival.{said}
use Rattle.relay.specs.Meaning.{Meaning}

-- its word, in capitals
abbrev pub bmask : List ℕ
bmask = 66 ∷ 77 ∷ 65 ∷ 83 ∷ 75 ∷ []

-- the place of the channel that it names, where there is one: else number 19 comes first
abbrev pub channel_place : Network → Content → ℕ
channel_place n c = place_of n.slots (slot_in n (name_in c))

-- the line is later than the channel, where there is one
unfoldable pub is_later : Network → Content → Bool
is_later n c = ltb (held_in n.slots (slot_in n (name_in c))).time (value_of (time_in c))

-- the channel's masks and those of the line: in folded byte order, equal folds once in the first spelling
unfoldable pub masks_with : Network → Content → List (List ℕ)
masks_with n c = unite by_spelling (masks (list_in n (channel_place n c)).room) (listed (mask_list_in c))

-- the numbers 19 and 27; a line that is later adds no mask
unfoldable pub masked_rules : Network → Content → List Rule
masked_rules n c =
    no_such_channel when not (is_held (slot_in n (name_in c)))
    ∷ too_many_masks when (not (is_later n c) && ltb ban_limit (length (masks_with n c)))
    ∷ []

-- the masks are added; by a line that is later nothing changes
unfoldable pub masked : Network → Content → Network
masked n c = cond (is_later n c) n (with_list n (channel_place n c) (list_with (masks_with n c)))

-- the line goes out with its parameters as read, unless it is later
abbrev pub meaning : Meaning
meaning = record {
  word = bmask;
  rules = λ n a. bmask_rules (said a) ++ masked_rules n (said a);
  after = λ n a. masked n (said a);
  goes = λ n a. not (is_later n (said a));
  out = λ n a. in_capitals (said a);
}
