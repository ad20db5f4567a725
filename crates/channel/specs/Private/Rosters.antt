-- A list of members and how many of its places are used.
use Rattle.std.specs.Prelude.{ℕ, ◌<◌, ◌≡◌, true, List, take}
use Rattle.laws.specs.Lists.{padded}
use Rattle.ascending.specs.Ascending.{ascends}
use Rattle.channel.specs.declared.Member.{Member}
use Rattle.channel.specs.Limits.{member_limit}
use Rattle.channel.specs.Channel.{by_id}
use Rattle.channel.specs.Record.{nobody}

-- Those used ascend, the others are unused, and there is room for one more.
pub record Sorted (list : List Member) (count : ℕ) : Type 0 where
  pub room : count < member_limit
  pub clear : list ≡ padded member_limit nobody (take count list)
  pub order : ascends by_id (take count list) ≡ true
