-- What became of a line that got 10 (document 02, §7: "the sixteen-parameter case turns round"): it is read with fifteen parameters, which no command takes. So it gets 11 or 12,
-- and what the relay takes is read as it was.
use Rattle.std.specs.Prelude.{ℕ, ◌≡◌, true, ◌++◌, length}
use Rattle.refusal.specs.Numbers.{accepted, too_many_params, unknown_command, wrong_param_count}
use Rattle.refusal.specs.Rules.{first_of}
use Rattle.message.specs.Grammar.{param_limit, params}
use Rattle.message.specs.Reading.{body_of, is_read}
use Rattle.message.specs.Former.{former_params, former_line_rules}
use Rattle.table.specs.Network.{Table}
use Rattle.relay.specs.Arrival.{Arrival, said}
use Rattle.relay.specs.Commands.{Unknown, command_in}
use Rattle.relay.specs.Relay.{entering_rules, refused, process_answer}

-- A line of fifteen parameters that arrives at a table, with n bytes of lent output: no rule of table, output and link applies, and it is read.
pub record Fifteen (t : Table) (a : Arrival) (n : ℕ) : Type 0 where
  pub enters : first_of (entering_rules t a n) ≡ accepted
  pub read : is_read a.line ≡ true
  pub count : length (said a).params ≡ param_limit

-- What is claimed, of any line that arrives at any table, with any output:
pub record Turns (t : Table) (a : Arrival) (n : ℕ) : Type 0 where
  -- where it got 10, it is a line of fifteen parameters
  pub turned : first_of (entering_rules t a n ++ former_line_rules a.line) ≡ too_many_params → Fifteen t a n
  -- such a line gets 11 if its command is none that the relay takes
  pub unknown : Fifteen t a n → command_in a.line ≡ Unknown → process_answer t a n ≡ refused t unknown_command 0
  -- and else 12
  pub known : Fifteen t a n → (command_in a.line ≡ Unknown → ⊥) → process_answer t a n ≡ refused t wrong_param_count 0
  -- and a line that is taken has the parameters that it had
  pub same : (process_answer t a n).number ≡ accepted → params (body_of a.line) ≡ former_params (body_of a.line)
