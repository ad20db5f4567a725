-- What the records of a piece come to, one after the other.
use Rattle.std.specs.Prelude.{ℕ, Bool, not, cond, ◌&&◌, List, Result, ⊤, eqb}
use Rattle.refusal.specs.Numbers.{accepted, log_cut}
use Rattle.refusal.specs.Refusals.{fault_number, fault_place}
use Rattle.refusal.specs.declared.Fault.{Fault}
use Rattle.table.specs.declared.Head.{Head}
use Rattle.table.specs.Network.{table_with}
use Rattle.journal.specs.declared.RecordRead.{RecordRead}
use Rattle.journal.specs.Reading.{missing_for}
use Rattle.replay.specs.Replay.{Replay}

-- what stands at a place, where the log may go on: a record that is cut there is none
unfoldable pub read_on : Bool → RecordRead → RecordRead
read_on last r = cond (not last && eqb r.number log_cut) (missing_for accepted 0) r

-- the table, the place behind the last record that was taken, and what stopped it
abbrev pub come_to : Head → List ℕ → ℕ → Result ⊤ Fault → Replay
come_to head bans at stopped = record { table = table_with head bans; used = at; number = fault_number stopped; place = fault_place stopped }
