-- The table: sixteen channel slots, the links, and a ban list for each slot (document 01, 'What the relay holds'; document 02, §2); and what the relay knows of
-- the network, which is all of a table but its links. A line depends on the network and changes it; the links are what lines come and go by. A new part of the
-- network stands here, and what leaves it alone is what goes by `with_slots` and `with_bans`.
use Rattle.std.specs.Prelude.{ℕ, Bool, cond, List, replicate}
use Rattle.links.specs.declared.Links.{Links}
use Rattle.channel.specs.declared.Record.{Record}
use Rattle.channel.specs.Limits.{slot_count}
use Rattle.channel.specs.Record.{empty_record}
use Rattle.bans.specs.declared.BanList.{BanList}
use Rattle.bans.specs.Slots.{list_at, empty_list, empty_lists, stored}
use Rattle.table.specs.declared.Head.{Head}

-- ---- the table
-- The slots and the links, which go by value, and the ban lists, which are lent, as they stand in their bytes.
pub record Table : Type 0 where
  pub slots : List Record
  pub links : Links
  pub bans : List ℕ

-- what goes by value of it
abbrev pub head_of : Table → Head
head_of t = record { slots = t.slots; links = t.links }

-- a head with the lists that are lent beside it
abbrev pub table_with : Head → List ℕ → Table
table_with h bans = record { slots = h.slots; links = h.links; bans = bans }

-- ---- the network
pub record Network : Type 0 where
  pub slots : List Record
  pub bans : List ℕ

-- the network with other slots, and all else of it as it is
abbrev pub with_slots : Network → List Record → Network
with_slots n slots = record { slots = slots; bans = n.bans }

-- the network with other ban lists
abbrev pub with_bans : Network → List ℕ → Network
with_bans n bans = record { slots = n.slots; bans = bans }

-- every slot free, and every list zero
abbrev pub empty_network : Network
empty_network = record { slots = replicate slot_count empty_record; bans = empty_lists }

-- ---- a slot's list
abbrev pub list_in : Network → ℕ → BanList
list_in n k = record { room = list_at n.bans k }

-- some lists, that of slot k emptied if the test says so
abbrev pub emptied_if : Bool → ℕ → List ℕ → List ℕ
emptied_if b k bans = cond b (stored bans k empty_list) bans

-- the network with another list for slot k
abbrev pub with_list : Network → ℕ → BanList → Network
with_list n k b = with_bans n (stored n.bans k b)

-- ---- the table that holds it
abbrev pub network_of : Table → Network
network_of t = record { slots = t.slots; bans = t.bans }

abbrev pub table_of : Network → Links → Table
table_of n links = record { slots = n.slots; links = links; bans = n.bans }

-- the table with another network, and its links as they are
abbrev pub with_network : Table → Network → Table
with_network t n = table_of n t.links
