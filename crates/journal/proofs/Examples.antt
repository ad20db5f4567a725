-- Faults, each at its byte, the end, and records without a line and behind another: what stands first in some bytes, and what a log holds, by computation. Assumes
-- nothing.
use Prim.Native.Nat.{ℕ}
use mathlib.Core.Path.{◌≡◌, refl}
use mathlib.Core.List.{List, [], ◌∷◌, ◌++◌}
use mathlib.Core.Option.{some}
use Rattle.refusal.specs.Numbers.{no_mark, bad_log_link, bad_log_length, log_cut}
use Rattle.journal.specs.Journal.{head_of, record_of, line_in}
use Rattle.refusal.specs.Faults.{fault, first_fault}
use Rattle.journal.specs.Reading.{entry, checks_of, End, Whole, Faulty, found, read_in, log_of, missing_for, read_answer}

-- no mark, in its first byte or its second
marks : (found (74 ∷ []) ≡ Faulty (fault no_mark 0)) × (found (73 ∷ 83 ∷ []) ≡ Faulty (fault no_mark 1))
unfolding found checks_of first_fault
marks = (refl, refl)

-- link 32, and a length of 513; a byte at fault comes before one that is missing
faults : (found (73 ∷ 82 ∷ 32 ∷ []) ≡ Faulty (fault bad_log_link 2)) × (found (73 ∷ 82 ∷ 31 ∷ 2 ∷ 1 ∷ []) ≡ Faulty (fault bad_log_length 3))
unfolding found checks_of first_fault
faults = (refl, refl)

-- the log ends inside the mark, the length, or the line: one byte of a length is none
cuts : (found (73 ∷ []) ≡ Faulty (fault log_cut 1)) × (found (73 ∷ 82 ∷ 31 ∷ 255 ∷ []) ≡ Faulty (fault log_cut 4)) × (found (73 ∷ 82 ∷ 31 ∷ 0 ∷ 1 ∷ []) ≡ Faulty (fault log_cut 5))
unfolding found checks_of first_fault
cuts = (refl, refl, refl)

-- no byte is the end, and a record may have no line
ends : (found [] ≡ End) × (found (73 ∷ 82 ∷ 31 ∷ 0 ∷ 0 ∷ []) ≡ Whole (entry 31 []))
unfolding found checks_of first_fault line_in
ends = (refl, refl)

-- a record, and a fault behind it: the place is that in the log
log : List ℕ
log = record_of 3 (65 ∷ 13 ∷ 10 ∷ []) ++ (73 ∷ 82 ∷ 32 ∷ [])

holds : log_of log ≡ record { entries = entry 3 (65 ∷ 13 ∷ 10 ∷ []) ∷ []; fault = some (fault bad_log_link 10) }
unfolding log record_of head_of read_in found checks_of first_fault line_in
holds = refl

-- told at the place behind the record, and past the end
told : (read_answer log 8 ≡ missing_for bad_log_link 10) × (read_answer log 99 ≡ missing_for 0 0)
unfolding log record_of head_of read_answer found checks_of first_fault line_in
told = (refl, refl)
