-- What the scan of a body makes of it: a message that parameters are added to, one by one.
use Rattle.std.specs.Prelude.{ℕ, ◌+◌, cond, List, [], ◌∷◌, length, drop, set, eqb}
use Rattle.refusal.specs.Numbers.{accepted}
use Rattle.refusal.specs.Rules.{first_of}
use Rattle.message.specs.declared.Span.{Span}
use Rattle.message.specs.declared.Message.{Message}
use Rattle.message.specs.Grammar.{Part, word, rest, params}
use Rattle.message.specs.Reading.{Parsed, body_rules, answer}
use Rattle.message.specs.Parts.{span, span_of, message_in, blank}

-- one parameter more
unfoldable pub with_param : Message → Span → Message
with_param m s = record {
  has_prefix = m.has_prefix;
  prefix = m.prefix;
  command = m.command;
  count = m.count + 1;
  params = set m.params m.count s;
}

unfoldable pub with_params : Message → List Part → Message
with_params m [] = m
with_params m (p ∷ ps) = with_params (with_param m (span_of p)) ps

-- a message that has no parameter yet, with the command at a place of the body and the parameters behind it
unfoldable pub from_command : List ℕ → ℕ → Message → Message
from_command body at m =
    let stop : ℕ = at + length (word (drop at body)) in
    with_params (record m { command = span at stop }) (rest 0 stop (drop stop body))

-- what a line of n bytes comes to whose body isn't empty, at the number that the body gets
unfoldable pub body_parsed : List ℕ → ℕ → Parsed
body_parsed body n =
    let k : ℕ = first_of (body_rules body) in
    record { reading = answer k (length (params body)); message = cond (eqb k accepted) (message_in body n) (blank n) }
