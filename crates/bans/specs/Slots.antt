-- The lists of a table, one for each slot, one behind the other in lent bytes.
use Rattle.std.specs.Prelude.{List, ℕ, ◌+◌, ◌*◌, min, replicate}
use Rattle.laws.specs.Lists.{padded}
use Rattle.octets.specs.Room.{part, put_at}
use Rattle.channel.specs.Limits.{slot_count}
use Rattle.bans.specs.declared.BanList.{BanList}
use Rattle.bans.specs.Limits.{list_size, bans_size}
use Rattle.bans.specs.Masks.{encode_list}

-- where list k begins; where there is no such list, behind them all
unfoldable pub offset : ℕ → ℕ
offset k = list_size * min k slot_count

-- the bytes of list k, as that part of the lent ones
unfoldable pub list_at : List ℕ → ℕ → List ℕ
list_at a k = part a (offset k) (offset k + list_size)

-- bytes held whole as a list
unfoldable pub list_of : List ℕ → BanList
list_of s = record { room = padded list_size 0 s }

-- the list of these masks
abbrev pub list_with : List (List ℕ) → BanList
list_with l = record { room = encode_list l }

-- the list without masks
unfoldable pub empty_list : BanList
empty_list = record { room = replicate list_size 0 }

-- every list without masks: all bytes zero
unfoldable pub empty_lists : List ℕ
empty_lists = replicate bans_size 0

-- all lists, with another in the place of list k
unfoldable pub stored : List ℕ → ℕ → BanList → List ℕ
stored a k b = put_at a (offset k) b.room
