-- What of a channel stands at a time (document 01, 'SJOIN'): its settings and statuses only if the time is its own, its users in any case.
use Rattle.std.specs.Prelude.{ℕ, Bool, cond, List, map, eqb}
use Rattle.channel.specs.declared.Member.{Member}
use Rattle.channel.specs.Settings.{Settings, no_settings}
use Rattle.channel.specs.Channel.{Channel, member}

-- a channel counts at a time if the time is its own
unfoldable pub counts : ℕ → Channel → Bool
counts time c = eqb c.time time

-- its settings if it counts, and none otherwise
unfoldable pub settings_at : ℕ → Channel → Settings
settings_at time c = cond (counts time c) c.settings no_settings

-- the members without status
unfoldable pub bare : List Member → List Member
bare l = map (λ m. member m.id 0) l

-- its members, without status unless it counts
unfoldable pub standing : ℕ → Channel → List Member
standing time c = cond (counts time c) c.members (bare c.members)

-- the channel as it stands at a time, under a name
abbrev pub channel_at : List ℕ → ℕ → Channel → Channel
channel_at name time c = record { name = name; time = time; settings = settings_at time c; members = standing time c }
