-- A log read in pieces, as a program reads that can't hold all of it (document 02, §5). What stands in a piece is what stands in the log, but for what is cut off
-- where the piece ends: that is kept, and read with the next one.
use Rattle.std.specs.Prelude.{ℕ, ◌+◌, Bool, true, false, cond, List, [], ◌∷◌, ◌++◌, drop, eqb}
use Rattle.std.proofs.Math.Option.{Option, some, none}
use Rattle.refusal.specs.Numbers.{log_cut}
use Rattle.journal.specs.Reading.{Entry, size_of_all, Fault, Log, log_from}

-- which fault of some bytes counts: where the log ends with them, any; where it goes on behind them, that a record is cut is none
unfoldable pub fault_if : Bool → Option Fault → Option Fault
fault_if last none = none
fault_if last (some f) = cond last (some f) (cond (eqb f.number log_cut) none (some f))

-- there is none
abbrev pub is_sound : Option Fault → Bool
is_sound none = true
is_sound (some f) = false

-- records, and the log behind them
abbrev pub behind : List Entry → Log → Log
behind es log = record { entries = es ++ log.entries; fault = log.fault }

-- what is read of one piece after the other, from a place on, with what was kept: each with the bytes that the one before left unread. The first fault stops it; after
-- the last piece the log ends.
unfoldable pub read_over : ℕ → List ℕ → List (List ℕ) → Log
read_over at kept [] = log_from at kept
read_over at kept (piece ∷ pieces) =
    let s : List ℕ = kept ++ piece in
    let log : Log = log_from at s in
    let n : ℕ = size_of_all log.entries in
    cond (is_sound (fault_if false log.fault)) (behind log.entries (read_over (at + n) (drop n s) pieces)) log
