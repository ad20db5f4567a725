-- Member lists in their room, which ids and statuses they give, and a member removed.
use Rattle.std.specs.Prelude.{ℕ, Bool, false, cond, ◌||◌, ◌+◌, List, [], ◌∷◌, length, set, ltb}
use Rattle.std.specs.Int.Bits.{bit_or}
use Rattle.laws.specs.Lists.{is_nil, padded, same}
use Rattle.laws.specs.Joins.{total}
use Rattle.ascending.specs.Ascending.{unite}
use Rattle.channel.specs.declared.Member.{Member}
use Rattle.channel.specs.declared.Record.{Record}
use Rattle.channel.specs.declared.Roster.{Roster}
use Rattle.channel.specs.Limits.{member_limit}
use Rattle.channel.specs.Channel.{by_id}
use Rattle.channel.specs.Record.{nobody, decode, empty_record}

-- these members in a roster's room, its unused places vacant
unfoldable pub roster : List Member → Roster
roster l = record { list = padded member_limit nobody l; count = length l }

-- with one member more, behind the others
abbrev pub pushed : Roster → Member → Roster
pushed r m = record { list = set r.list r.count m; count = r.count + 1 }

-- the same where there is room for one more, else the roster as it is
unfoldable pub pushed_in_room : Roster → Member → Roster
pushed_in_room r m = cond (ltb r.count member_limit) (pushed r m) r

-- every id once, ascending, an id given twice having both statuses
abbrev pub ordered : List Member → List Member
ordered l = unite by_id [] l

-- one of them has the id
unfoldable pub has_member : List ℕ → List Member → Bool
has_member id [] = false
has_member id (m ∷ l) = same id m.id || has_member id l

-- the status that some members give an id: voice if one gives it voice, operator if one gives it operator
unfoldable pub status_in : List ℕ → List Member → ℕ
status_in id l = total bit_or 0 (λ m. cond (same id m.id) m.status 0) l

-- all but those with the id
unfoldable pub others : List ℕ → List Member → List Member
others id [] = []
others id (m ∷ l) = cond (same id m.id) (others id l) (m ∷ others id l)

-- the record with other members
unfoldable pub with_members : Record → List Member → Record
with_members r l = record {
  name = r.name;
  name_len = r.name_len;
  time = r.time;
  modes = r.modes;
  key = r.key;
  key_len = r.key_len;
  limit = r.limit;
  members = padded member_limit nobody l;
  count = length l;
}

-- the record without a member: the rest moves up, the freed place is zero; where nobody is left, the empty record
unfoldable pub without : List ℕ → Record → Record
without id r = cond (is_nil (others id (decode r).members)) empty_record (with_members r (others id (decode r).members))
