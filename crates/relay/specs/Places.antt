-- What is claimed of the place that goes with an answer (document 02, §6: "Give the place in the line"), of any line that arrives at any table, with n bytes of lent output.
use Rattle.std.specs.Prelude.{ℕ, ◌+◌, ◌≤◌, ◌≡◌, true, false, length}
use Rattle.std.proofs.Math.Option.{some}
use Rattle.refusal.specs.Numbers.{is_mode_number}
use Rattle.refusal.specs.Faults.{Fault}
use Rattle.table.specs.Network.{Table}
use Rattle.sjoin.specs.Faults.{Site}
use Rattle.sjoin.specs.Join.{fault_in}
use Rattle.sjoin.specs.Places.{line_at, Located}
use Rattle.relay.specs.Arrival.{Arrival, said}
use Rattle.relay.specs.Relay.{Outcome, process_answer}

-- The answer points at a fault of the line's modes: it has its number, and its place in the line.
pub record PointsAt (a : Arrival) (o : Outcome) : Type 0 where
  pub fault : Fault Site
  pub given : fault_in (said a) ≡ some fault
  pub number : o.number ≡ fault.number
  pub place : o.place ≡ line_at a.line fault.place
  -- and the faults of that line are where they should be
  pub located : Located a.line

pub record Points (t : Table) (a : Arrival) (n : ℕ) : Type 0 where
  -- with any number but one of modes, and with none, the place is 0
  pub plain : is_mode_number (process_answer t a n).number ≡ false → (process_answer t a n).place ≡ 0
  -- with one of modes it is over 0 and at most the line's length less 2
  pub inside : is_mode_number (process_answer t a n).number ≡ true → (1 ≤ (process_answer t a n).place) × ((process_answer t a n).place + 2 ≤ length a.line)
  -- and where their fault is
  pub at : is_mode_number (process_answer t a n).number ≡ true → PointsAt a (process_answer t a n)
