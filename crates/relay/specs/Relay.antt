-- Taking a line (document 01, 'SJOIN', 'What goes out' and 'The numbers a caller may get'; document 02, §2 and §6): the rules in their order, the network after, the line that
-- goes out, and the answer. From rule 4 on, all depends on the network and the arrival alone; the links enter rule 3 and the relay set.
use Rattle.std.specs.Prelude.{ℕ, Bool, not, cond, List, [], ◌∷◌, ◌++◌, Result, Ok, Err, length, eqb, ltb}
use Rattle.refusal.specs.Numbers.{accepted, not_well_formed, output_too_short, bad_link}
use Rattle.refusal.specs.Rules.{Rule, ◌when◌, first_of, emitted}
use Rattle.refusal.specs.Refusals as refusals
use Rattle.refusal.specs.declared.Fault.{Fault}
use Rattle.message.specs.Grammar.{line_limit}
use Rattle.message.specs.Content.{Content}
use Rattle.message.specs.Reading.{line_rules}
use Rattle.writer.specs.Form.{written}
use Rattle.links.specs.declared.Links.{Links}
use Rattle.links.specs.Links.{has_link, relay_set, links_in}
use Rattle.table.specs.declared.Head.{Head}
use Rattle.table.specs.Network.{Table, Network, head_of, network_of, with_network}
use Rattle.table.specs.Table.{good_table}
use Rattle.sjoin.specs.Join.{line_place}
use Rattle.relay.specs.declared.Relayed.{Relayed}
use Rattle.relay.specs.declared.Taken.{Taken}
use Rattle.relay.specs.Arrival.{Arrival}
use Rattle.relay.specs.Meaning.{Meaning}
use Rattle.relay.specs.Commands.{meaning_of, command_in}

-- ---- the line in the network
-- what its command means
abbrev pub meaning_in : Arrival → Meaning
meaning_in a = meaning_of (command_in a.line)

-- the rules of a line: the reader's own, then those of its command
unfoldable pub taken_rules : Network → Arrival → List Rule
taken_rules n a = line_rules a.line ++ (meaning_in a).rules n a

-- where none of them applies: the network after, whether the line goes out, its message, and what is written
unfoldable pub network_by : Network → Arrival → Network
network_by n a = (meaning_in a).after n a

unfoldable pub goes_by : Network → Arrival → Bool
goes_by n a = (meaning_in a).goes n a

unfoldable pub message_by : Network → Arrival → Content
message_by n a = (meaning_in a).out n a

abbrev pub relayed : Network → Arrival → List ℕ
relayed n a = cond (goes_by n a) (written (message_by n a)) []

-- ---- the line on its way
-- the numbers 1 to 3: by whether the table is well formed, n bytes of lent output, the registered links, and the link that a line came by
abbrev pub entry_rules : Bool → ℕ → Links → ℕ → List Rule
entry_rules good n links link =
    not_well_formed when not good
    ∷ output_too_short when ltb n line_limit
    ∷ bad_link when not (has_link links.set link)
    ∷ []

-- those of a line that arrives at a table
abbrev pub entering_rules : Table → Arrival → ℕ → List Rule
entering_rules t a n = entry_rules (good_table t) n t.links a.link

-- all rules
unfoldable pub process_rules : Table → Arrival → ℕ → List Rule
process_rules t a n = entering_rules t a n ++ taken_rules (network_of t) a

-- the links that it goes to: every registered one but its own, or none where it doesn't go out
abbrev pub receivers : Table → Arrival → ℕ
receivers t a = cond (goes_by (network_of t) a) (relay_set t.links a.link) 0

-- ---- the answer
-- What becomes of a line: a number and its place in the line, the table after, how many bytes were written, the links that it goes to, and how many they are.
pub record Outcome : Type 0 where
  pub number : ℕ
  pub place : ℕ
  pub table : Table
  pub len : ℕ
  pub set : ℕ
  pub count : ℕ

-- the number and its place, the table as given, and zeros
abbrev pub refused : Table → ℕ → ℕ → Outcome
refused t number place = record { number = number; place = place; table = t; len = 0; set = 0; count = 0 }

-- the network after, with the links as they were
abbrev pub taken : Table → Arrival → Outcome
taken t a = record {
  number = accepted;
  place = 0;
  table = with_network t (network_by (network_of t) a);
  len = length (relayed (network_of t) a);
  set = receivers t a;
  count = length (links_in (receivers t a));
}

-- a number of modes has the place of their fault, and any other 0
unfoldable pub process_answer : Table → Arrival → ℕ → Outcome
process_answer t a n =
    let number : ℕ = first_of (process_rules t a n) in
    cond (eqb number accepted) (taken t a) (refused t number (line_place number a.line))

-- what comes back of it by value: the ban lists are lent
abbrev pub taken_of : Outcome → Taken
taken_of o = record { number = o.number; place = o.place; head = head_of o.table; len = o.len; set = o.set; count = o.count }

-- what the code answers, with the head after: the links and the length of a line that is taken, or why one is refused, with its place
abbrev pub taken_by : Head → Result Relayed Fault → Taken
taken_by h (Ok r) = record { number = accepted; place = 0; head = h; len = r.len; set = r.set; count = length (links_in r.set) }
taken_by h (Err f) = record { number = refusals.number_of f.refusal; place = f.place; head = h; len = 0; set = 0; count = 0 }

-- what is written to the front of the output
unfoldable pub sent : Table → Arrival → ℕ → List ℕ
sent t a n = emitted (process_rules t a n) (relayed (network_of t) a)
