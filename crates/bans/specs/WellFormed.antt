-- A list that is well formed (document 02, §2: masks in folded byte order, equal folds once, up to 32), and one that is good for its slot.
use Rattle.std.specs.Prelude.{Bool, cond, ◌&&◌, List, [], ◌∷◌, ℕ, ◌+◌, ◌*◌, length, drop, get_or, eqb, leb}
use Rattle.laws.specs.Lists.{all}
use Rattle.octets.specs.Bytes.{is_zero}
use Rattle.ascending.specs.Ascending.{ascends}
use Rattle.channel.specs.Limits.{mask_limit, ban_limit}
use Rattle.bans.specs.Limits.{room_size, list_size}
use Rattle.bans.specs.Masks.{is_mask, mask_in, by_fold, mask_count, used_rooms}

-- a mask, and zeros behind it
unfoldable pub good_room : List ℕ → Bool
good_room r = leb (get_or r 0 0) mask_limit && (is_mask (mask_in r) && all is_zero (drop (1 + get_or r 0 0) r))

-- what makes bytes a list: their number, the number of masks, zeros behind the rooms in use, a mask in each of those, and the order
abbrev pub list_tests : List ℕ → List Bool
list_tests s =
    eqb (length s) list_size
    ∷ leb (get_or s 0 0) ban_limit
    ∷ all is_zero (drop (1 + room_size * mask_count s) s)
    ∷ all good_room (used_rooms s)
    ∷ ascends by_fold (used_rooms s)
    ∷ []

-- up to 32 masks whose folds ascend, so that equal folds stand once, and unused room zero
unfoldable pub well_formed_list : List ℕ → Bool
well_formed_list s = all (λ t. t) (list_tests s)

-- the room of a list without masks: all zero
unfoldable pub is_unused : List ℕ → Bool
is_unused s = eqb (length s) list_size && all is_zero s

-- the list of a slot in use is well formed, any other's room is zero
unfoldable pub good_list : Bool → List ℕ → Bool
good_list in_use s = cond in_use (well_formed_list s) (is_unused s)
