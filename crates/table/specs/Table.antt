-- A table that is well formed (document 01, 'What the relay holds' and 'The channel record'; document 02, §2), the empty one, and its links.
use Rattle.std.specs.Prelude.{ℕ, suc, Bool, true, not, cond, ◌&&◌, List, [], ◌∷◌, length, eqb, leb}
use Rattle.refusal.specs.Numbers.{accepted, not_well_formed, bad_link}
use Rattle.refusal.specs.Rules.{Rule, ◌when◌, first_of}
use Rattle.laws.specs.Lists.{all}
use Rattle.names.specs.Fold.{same_name}
use Rattle.links.specs.declared.Links.{Links}
use Rattle.links.specs.Links.{is_link, no_links, with_link, without_link}
use Rattle.channel.specs.declared.Record.{Record}
use Rattle.channel.specs.Limits.{slot_count}
use Rattle.channel.specs.Record.{decode}
use Rattle.bans.specs.declared.WholeRecord.{WholeRecord}
use Rattle.bans.specs.Slots.{list_at}
use Rattle.bans.specs.Records.{whole, good_whole}
use Rattle.table.specs.declared.Registered.{Registered}
use Rattle.table.specs.Network.{Table, Network, network_of, table_of, head_of, empty_network}

-- ---- slots
-- a slot is free exactly if it has no members
abbrev pub is_free : Record → Bool
is_free r = eqb r.count 0

-- the records of some slots, each with its list, of which the first is list k
unfoldable pub wholes_from : ℕ → List Record → List ℕ → List WholeRecord
wholes_from k [] bans = []
wholes_from k (r ∷ rs) bans = whole r (record { room = list_at bans k }) ∷ wholes_from (suc k) rs bans

-- those of a network
abbrev pub wholes : Network → List WholeRecord
wholes n = wholes_from 0 n.slots n.bans

-- a used slot holds the name
unfoldable pub holds : List ℕ → Record → Bool
holds name r = not (is_free r) && same_name (decode r).name name

-- two slots are used and hold equal names
unfoldable pub alike : Record → Record → Bool
alike r s = not (is_free r) && holds (decode r).name s

-- no two of some slots are alike
unfoldable pub distinct : List Record → Bool
distinct [] = true
distinct (r ∷ rs) = all (λ s. not (alike r s)) rs && distinct rs

-- the network is well formed: no more than sixteen slots; used ones hold well-formed records with their lists, no two with equal names, and free ones are zero,
-- their lists too. The code's has sixteen slots and the bytes of sixteen lists, so that no byte of it is left out
unfoldable pub good_network : Network → Bool
good_network n = leb (length n.slots) slot_count && (all good_whole (wholes n) && distinct n.slots)

-- the table is well formed: any links will do
abbrev pub good_table : Table → Bool
good_table t = good_network (network_of t)

-- every slot free, every list zero, no link registered
unfoldable pub empty_table : Table
empty_table = table_of empty_network no_links

-- ---- links registered and dropped: the numbers 1 and 3
unfoldable pub link_rules : Table → ℕ → List Rule
link_rules t link =
    not_well_formed when not (good_table t)
    ∷ bad_link when not (is_link link)
    ∷ []

-- A number, and a table.
pub record Relinked : Type 0 where
  pub number : ℕ
  pub table : Table

-- the table with other links, or as it is where a rule applies
unfoldable pub relinked : Table → ℕ → Links → Relinked
relinked t link links = record {
  number = first_of (link_rules t link);
  table = cond (eqb (first_of (link_rules t link)) accepted) (table_of (network_of t) links) t;
}

-- what registering a link comes to, and dropping one
abbrev pub register_answer : Table → ℕ → Relinked
register_answer t link = relinked t link (with_link t.links link)

abbrev pub unregister_answer : Table → ℕ → Relinked
unregister_answer t link = relinked t link (without_link t.links link)

-- what comes back of it by value: the lists are only read
abbrev pub registered_of : Relinked → Registered
registered_of r = record { number = r.number; head = head_of r.table }
