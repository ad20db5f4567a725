-- A group of lines: what a line adds to it.
use Rattle.std.specs.Prelude.{ℕ, ◌+◌, ◌≡◌, Bool, ◌&&◌, cond, List, [], ◌++◌, length, eqb, leb}
use Rattle.refusal.specs.Numbers.{accepted}
use Rattle.message.specs.Grammar.{line_limit}
use Rattle.table.specs.Network.{Table, table_with}
use Rattle.journal.specs.Journal.{record_of}
use Rattle.journal.specs.Reading.{record_limit}
use Rattle.relay.specs.Arrival.{Arrival, arrival}
use Rattle.relay.specs.Relay.{Outcome, process_answer, sent}
use Rattle.console.specs.declared.Session.{Session}
use Rattle.console.specs.declared.groups.Group.{Group}
use Rattle.console.specs.Answers.{refused_text, accepted_text}
use Rattle.console.specs.Buffers.{answer_room, records_room, answers_room}

-- the records of a group, behind one another, and its answers
abbrev pub records_in : Group → List ℕ
records_in g = g.records.items

abbrev pub answers_in : Group → List ℕ
answers_in g = g.answers.items

-- a group of no lines
abbrev pub no_lines : Group
no_lines = record { records = record { items = [] }; answers = record { items = [] } }

-- there is room for the record and the answer of another line
abbrev pub has_room : Group → Bool
has_room g = leb (length (records_in g) + record_limit) records_room && leb (length (answers_in g) + answer_room) answers_room

-- a group with more records, and more answers
abbrev pub group_with : Group → List ℕ → List ℕ → Group
group_with g records answers = record { records = record { items = records_in g ++ records }; answers = record { items = answers_in g ++ answers } }

-- what is kept of a line that arrives at a table: the record of an accepted one
abbrev pub kept_of : Table → Arrival → List ℕ
kept_of t a = cond (eqb (process_answer t a line_limit).number accepted) (record_of a.link a.line) []

-- what it is answered
abbrev pub answer_to : Bool → Table → Arrival → List ℕ
answer_to worded t a =
    let o : Outcome = process_answer t a line_limit in
    cond (eqb o.number accepted) (accepted_text o.set (sent t a line_limit)) (refused_text o.number o.place a.line worded)

-- The relay takes the line; the records of the group have behind them what is kept of it, and its answers have its answer. All else is as it was.
pub record Takes (s : Session) (link : ℕ) (line : List ℕ) (next : Session) : Type 0 where
  pub table : table_with next.head next.bans ≡ (process_answer (table_with s.head s.bans) (arrival link line) line_limit).table
  pub kept : records_in next.group ≡ records_in s.group ++ kept_of (table_with s.head s.bans) (arrival link line)
  pub answered : answers_in next.group ≡ answers_in s.group ++ answer_to s.typed (table_with s.head s.bans) (arrival link line)
  pub others : next ≡ record { head = next.head; bans = next.bans; group = next.group; pending = s.pending; journal = s.journal; typed = s.typed }
