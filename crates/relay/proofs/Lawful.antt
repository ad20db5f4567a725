-- What holds of any command that the relay may take: its rules stand in their order, its judgement is what it means, and a line of it that no rule refuses keeps
-- the network well formed and goes out as a line that reads as its message. What is common to all is proved of any lawful one. Assumes nothing.
use mathlib.Core.Path.{◌≡◌}
use mathlib.Core.Bool.{true, false}
use mathlib.Core.List.{List, map}
use Prim.Native.Nat.{ℕ, suc}
use Rattle.std.specs.Prelude.{Result}
use Rattle.refusal.specs.Numbers.{accepted, bad_command, is_mode_number}
use Rattle.refusal.specs.Rules.{Rule, first_of, ascend_from, rank}
use Rattle.octets.specs.Bytes.{capital}
use Rattle.message.specs.Content.{Content}
use Rattle.message.specs.Reading.{is_read, message_of}
use Rattle.table.specs.Network.{Network}
use Rattle.table.specs.Table.{good_network}
use Rattle.retelling.specs.Retelling.{Reads}
use Rattle.relay.specs.declared.Change.{Change}
use Rattle.relay.specs.Arrival.{Arrival, said}
use Rattle.relay.specs.Meaning.{Meaning}
use Rattle.relay.specs.Commands.{Command, Sjoin, meaning_of}
use Rattle.relay.specs.Private.Commands.{work_of, settled_in}
use Rattle.relay.proofs.Judgements.{Judged}

-- A line of the command that is read and that no rule refuses, in a well-formed network.
pub record Unrefused (m : Meaning) (n : Network) (a : Arrival) : Type 0 where
  pub good : good_network n ≡ true
  pub read : is_read a.line ≡ true
  pub word : map capital (said a).command ≡ m.word
  pub none : first_of (m.rules n a) ≡ accepted

-- The rules stand in the order of their numbers, behind the reader's.
abbrev pub BehindReader : List Rule → Type 0
BehindReader rules = ascend_from (suc (rank bad_command)) rules ≡ true

-- What holds of a lawful command.
pub record Lawful (k : Command) : Type 0 where
  pub ordered : (n : Network) (a : Arrival) → BehindReader ((meaning_of k).rules n a)
  -- a number that its message gets by itself is the first
  pub first : (n : Network) (a : Arrival) → (first_of ((work_of k).own (said a)) ≡ accepted → ⊥) → first_of ((meaning_of k).rules n a) ≡ first_of ((work_of k).own (said a))
  -- a number of modes is an SJOIN's
  pub modes : (c : Content) → is_mode_number (first_of ((work_of k).own c)) ≡ true → k ≡ Sjoin
  -- and its message's own
  pub plain : (n : Network) (a : Arrival) → is_mode_number (first_of ((work_of k).own (said a))) ≡ false → is_mode_number (first_of ((meaning_of k).rules n a)) ≡ false
  -- and what that is settled to is the judgement
  pub judged : (n : Network) (a : Arrival) → good_network n ≡ true → is_read a.line ≡ true → first_of ((work_of k).own (said a)) ≡ accepted
      → (r : Result Change ℕ) → r ≡ settled_in n a.line ((work_of k).asks (message_of a.line) (said a)) (said a) → Judged (meaning_of k) n a r
  -- a line that no rule refuses keeps the network well formed
  pub keeps : (n : Network) (a : Arrival) → Unrefused (meaning_of k) n a → good_network ((meaning_of k).after n a) ≡ true
  -- and the message that goes out can be read
  pub reads : (n : Network) (a : Arrival) → Unrefused (meaning_of k) n a → Reads a.line ((meaning_of k).out n a)
