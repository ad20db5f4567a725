-- What a command means. Each command's own file has one such record; `meaning_of` (Commands.antt) gives it.
use Rattle.std.specs.Prelude.{ℕ, Bool, List}
use Rattle.refusal.specs.Rules.{Rule}
use Rattle.message.specs.Content.{Content}
use Rattle.table.specs.Network.{Network}
use Rattle.relay.specs.Arrival.{Arrival}

-- Its rules, and what a line of it comes to where none of them applies.
pub record Meaning : Type 0 where
  -- its word, in capitals
  pub word : List ℕ
  -- its rules, of the message by itself and of what it meets in the network
  pub rules : Network → Arrival → List Rule
  -- the network after it
  pub after : Network → Arrival → Network
  -- whether it goes out: a line that comes too late to count doesn't
  pub goes : Network → Arrival → Bool
  -- the message that goes out
  pub out : Network → Arrival → Content
