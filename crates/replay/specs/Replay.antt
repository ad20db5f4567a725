-- Replaying a day log (document 02, §5): "Replaying a complete log of accepted lines, in order, into an empty table with all 32 links registered". A logged line
-- that the relay refuses stops it, with the relay's number and the record's place, and so does a fault of the log, with its own; what stood before is still given.
use Rattle.std.specs.Prelude.{ℕ, ◌+◌, Bool, cond, List, [], ◌∷◌, eqb}
use Rattle.std.proofs.Math.Option.{Option, some, none}
use Rattle.refusal.specs.Numbers.{accepted}
use Rattle.refusal.specs.Refusals.{fault_number, fault_place}
use Rattle.message.specs.Grammar.{line_limit}
use Rattle.links.specs.Links.{all_links}
use Rattle.table.specs.declared.Head.{Head}
use Rattle.table.specs.Network.{Table, head_of, table_of, empty_network}
use Rattle.relay.specs.Arrival.{arrival}
use Rattle.relay.specs.Relay.{Outcome, process_answer}
use Rattle.journal.specs.Reading.{Entry, size_of, Fault, log_from, log_of}
use Rattle.journal.specs.Pieces.{fault_if}
use Rattle.replay.specs.declared.Replayed as code

-- What a replay comes to: the table, the place behind the last record that was taken, and the number and place of what stopped it, or zeros.
pub record Replay : Type 0 where
  pub table : Table
  pub used : ℕ
  pub number : ℕ
  pub place : ℕ

-- every slot free, every list zero, all 32 links registered
unfoldable pub ready_table : Table
ready_table = table_of empty_network all_links

-- ---- the records of a log
-- a record's line is taken on its link, with 512 bytes lent
abbrev pub taking : Table → Entry → Outcome
taking t e = process_answer t (arrival e.link e.line) line_limit

-- behind the last record: the log's end, or its fault
abbrev pub ended : Table → ℕ → Option Fault → Replay
ended t at none = record { table = t; used = at; number = accepted; place = 0 }
ended t at (some f) = record { table = t; used = at; number = f.number; place = f.place }

-- a record at a place is refused
abbrev pub stopped : Table → ℕ → ℕ → Replay
stopped t at number = record { table = t; used = at; number = number; place = at }

-- records taken one after the other, the first of which stands at a place: the first that is refused stops it
unfoldable pub replay_of : Table → ℕ → List Entry → Option Fault → Replay
replay_of t at [] fault = ended t at fault
replay_of t at (e ∷ es) fault =
    cond (eqb (taking t e).number accepted) (replay_of (taking t e).table (at + size_of e) es fault) (stopped t at (taking t e).number)

-- a whole log
abbrev pub replayed : List ℕ → Replay
replayed log = replay_of ready_table 0 (log_of log).entries (log_of log).fault

-- ---- a piece of a log
-- bytes that stand at a place, with which the log ends, or behind which it goes on: there a record that is cut is not at fault
abbrev pub replay_from : Bool → Table → ℕ → List ℕ → Replay
replay_from last t at s = replay_of t at (log_from at s).entries (fault_if last (log_from at s).fault)

-- the answer to a piece, its places counted from its own beginning
unfoldable pub replay_answer : Table → List ℕ → Bool → Replay
replay_answer t s last = replay_from last t 0 s

-- What comes back of it by value: the ban lists are lent.
pub record Replayed : Type 0 where
  pub head : Head
  pub used : ℕ
  pub place : ℕ
  pub number : ℕ

abbrev pub replayed_of : Replay → Replayed
replayed_of r = record { head = head_of r.table; used = r.used; place = r.place; number = r.number }

-- the same of what the code answers
abbrev pub replayed_by : code.Replayed → Replayed
replayed_by r = record { head = r.head; used = r.used; place = fault_place r.stopped; number = fault_number r.stopped }
