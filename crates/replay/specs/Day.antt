-- A day, its log, and what is claimed of any replay of it (document 02, §5).
use Rattle.std.specs.Prelude.{ℕ, ◌≡◌, cond, List, [], ◌∷◌, ◌++◌, eqb}
use Rattle.refusal.specs.Numbers.{accepted}
use Rattle.table.specs.Network.{Table, network_of, empty_network}
use Rattle.table.specs.Table.{register_answer, unregister_answer}
use Rattle.relay.specs.Arrival.{Arrival}
use Rattle.relay.specs.Relay.{process_answer}
use Rattle.journal.specs.Reading.{Entry, entry, written_log}
use Rattle.replay.specs.Replay.{Replay}

-- ---- a day
-- A call of the relay: a line is taken, with some bytes of output lent; a link is registered, or dropped.
pub data Call : Type 0 where
  Take : Arrival → ℕ → Call
  Register : ℕ → Call
  Drop : ℕ → Call

-- the table after it
unfoldable pub table_by : Table → Call → Table
table_by t (Take a n) = (process_answer t a n).table
table_by t (Register link) = (register_answer t link).table
table_by t (Drop link) = (unregister_answer t link).table

-- what is logged of it: an accepted line, as it was received, with its link
unfoldable pub logged_by : Table → Call → List Entry
logged_by t (Take a n) = cond (eqb (process_answer t a n).number accepted) (entry a.link a.line ∷ []) []
logged_by t (Register link) = []
logged_by t (Drop link) = []

-- the table after a day, each call given the table that the one before answered
unfoldable pub table_after : Table → List Call → Table
table_after t [] = t
table_after t (c ∷ cs) = table_after (table_by t c) cs

-- the day's accepted lines, in order
unfoldable pub logged_in : Table → List Call → List Entry
logged_in t [] = []
logged_in t (c ∷ cs) = logged_by t c ++ logged_in (table_by t c) cs

-- and the log of them
abbrev pub day_log : Table → List Call → List ℕ
day_log t cs = written_log (logged_in t cs)

-- ---- the claim
-- What varies: what a replay makes of a log.
abbrev pub Replayer : Type 0
Replayer = List ℕ → Replay

-- "Replaying a complete log of accepted lines, in order, into an empty table with all 32 links registered gives the day's final table, the link set apart, provided the
-- day began empty and changed only by lines": from any table with free slots, whatever its links, any day's log is replayed without a number, and gives the network
-- after the day.
pub record Restores (replay : Replayer) : Type 0 where
  pub number : (t : Table) (cs : List Call) → network_of t ≡ empty_network → (replay (day_log t cs)).number ≡ accepted
  pub network : (t : Table) (cs : List Call) → network_of t ≡ empty_network → network_of (replay (day_log t cs)).table ≡ network_of (table_after t cs)
