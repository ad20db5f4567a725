-- The members of two sides, united in one pass.
use Rattle.std.specs.Prelude.{◌≡◌, ◌≤◌, ◌<◌, Option, Some, None, List, length}
use Rattle.ascending.specs.Ascending.{one_pass}
use Rattle.channel.specs.declared.Member.{Member}
use Rattle.channel.specs.declared.Roster.{Roster}
use Rattle.channel.specs.Limits.{member_limit}
use Rattle.channel.specs.Channel.{by_id}
use Rattle.channel.specs.Members.{roster}
use Rattle.merging.specs.declared.uniting.Union.{Union}
use Rattle.merging.specs.Private.Sides.{members_of}

-- those still to come
abbrev pub union_left : Union → List Member
union_left u = one_pass by_id (members_of u.first) (members_of u.second)

-- The roster holds l; or l is longer than its room.
abbrev pub Fills : Option Roster → List Member → Type 0
Fills (Some r) l = (length l ≤ member_limit) × (r ≡ roster l)
Fills None l = member_limit < length l
