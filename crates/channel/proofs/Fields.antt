-- A channel is what its fields are, and so are its settings. Assumes nothing.
use mathlib.Core.Path.{◌≡◌}
use mathlib.Core.List.{List}
use Rattle.channel.specs.declared.Member.{Member}
use Rattle.channel.specs.Settings.{Settings}
use Rattle.channel.specs.Channel.{Channel}

-- two with the same fields are the same
pub settings-path : {s t : Settings} → s.modes ≡ t.modes → s.key ≡ t.key → s.limit ≡ t.limit → s ≡ t
settings-path p q r = λ i. record { modes = p i; key = q i; limit = r i }

-- and so are two channels
pub channel-path : {c d : Channel} → c.name ≡ d.name → c.time ≡ d.time → c.settings ≡ d.settings → c.members ≡ d.members → c ≡ d
channel-path p q r s = λ i. record { name = p i; time = q i; settings = r i; members = s i }

-- a channel with other members, all else as it is
abbrev pub peopled : Channel → List Member → Channel
peopled c l = record { name = c.name; time = c.time; settings = c.settings; members = l }
