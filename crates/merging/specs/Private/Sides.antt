-- What a side of a merge gives.
use Rattle.std.specs.Prelude.{◌≡◌, Bool, cond, Option, Some, None, List, [], ◌∷◌, map}
use Rattle.channel.specs.declared.Member.{Member}
use Rattle.channel.specs.Settings.{Settings}
use Rattle.channel.specs.Channel.{member}
use Rattle.merging.specs.declared.sides.Given.{Given}
use Rattle.merging.specs.declared.sides.Side.{Side}

-- the settings that are given
abbrev pub settings_of : Given → Settings
settings_of g = record { modes = g.modes; key = g.key.now; limit = g.limit }

-- a member as its side gives it: with its status if the side counts
unfoldable pub as_given : Bool → Member → Member
as_given counts m = member m.id (cond counts m.status 0)

-- the members that a side gives
abbrev pub members_of : Side → List Member
members_of s = map (as_given s.counts) s.members.now

-- The first of them and the side behind it; or there is none.
abbrev pub SplitFirst : Side → Option (Member × Side) → Type 0
SplitFirst s None = members_of s ≡ []
SplitFirst s (Some p) = members_of s ≡ p.0 ∷ members_of p.1
