-- Members by their ids: a channel has an id if one of its members does, and its members give each id a status. Two lists that ascend, with the same ids and
-- the same statuses, are one. Assumes nothing.
use Prim.Native.Nat.{ℕ}
use mathlib.Core.Path.{◌≡◌, refl}
use mathlib.Core.Bool.{Bool, false}
use mathlib.Core.List.{List}
use lib.Bits.{bit_or}
use Rattle.ascending.specs.Ascending.{unite}
use Rattle.laws.proofs.Joins.{joining-bits}
use Rattle.ascending.proofs.Ascends.{Keyed, Lawful, Stays, Ascending, keyed_stays}
use Rattle.ascending.proofs.Contents.{has, content-absent, content-unite, same_entries}
use Rattle.channel.specs.declared.Member.{Member}
use Rattle.channel.specs.Channel.{Channel, by_id}
use Rattle.channel.specs.Members.{status_in}

-- ---- the order by ids is one that the laws of ascending lists hold of
-- a member is made of its id and its status
pub keyed-by_id : Keyed by_id
keyed-by_id = record { key-made = λ k p. refl; load-made = λ k p. refl; made = λ e. refl }

-- two with one id make one with that id
pub stays-by_id : Stays by_id
stays-by_id = keyed_stays by_id keyed-by_id

-- statuses are joined bit by bit
pub lawful-by_id : Lawful by_id 0
lawful-by_id = record { keyed = keyed-by_id; joining = joining-bits }

-- ---- ids and statuses of members
-- a channel has the member
abbrev pub named : List ℕ → Channel → Bool
named x c = has by_id x c.members

-- an id that isn't there has no status
pub status-absent : (x : List ℕ) (l : List Member) → has by_id x l ≡ false → status_in x l ≡ 0
unfolding status_in
status-absent = content-absent by_id 0 lawful-by_id

-- two lists united give what either gives
pub status-unite : (x : List ℕ) (a b : List Member) → status_in x (unite by_id a b) ≡ bit_or (status_in x a) (status_in x b)
unfolding status_in
status-unite = content-unite by_id 0 lawful-by_id

-- ascending members with the same ids and the same statuses are the same
pub same-members : (a b : List Member) → Ascending by_id a → Ascending by_id b
    → ((x : List ℕ) → has by_id x a ≡ has by_id x b) → ((x : List ℕ) → status_in x a ≡ status_in x b) → a ≡ b
unfolding status_in
same-members = same_entries by_id 0 lawful-by_id
