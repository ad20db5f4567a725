-- A log read back (document 02, §5): what stands first in some bytes of it, and so the records of a whole log, up to its end or its first fault.
use Rattle.std.specs.Prelude.{ℕ, zero, suc, ◌+◌, Bool, true, false, not, ◌&&◌, List, [], ◌∷◌, map, length, drop, get_or, eqb, ltb}
use Rattle.std.specs.Prelude as prelude
use Rattle.std.specs.Prelude.{Result, Ok, Err}
use Rattle.std.proofs.Math.Option.{Option, some, none}
use Rattle.refusal.specs.Numbers.{accepted, no_mark, bad_log_link, bad_log_length, log_cut}
use Rattle.refusal.specs.Faults as faults
use Rattle.refusal.specs.Faults.{fault, Check, ◌if◌, first_fault}
use Rattle.refusal.specs.Refusals as refusals
use Rattle.refusal.specs.declared.Fault as refusal
use Rattle.laws.specs.Joins.{concatenated}
use Rattle.links.specs.Links.{is_link}
use Rattle.message.specs.Grammar.{line_limit}
use Rattle.message.specs.Parts.{span}
use Rattle.journal.specs.declared.LoggedLine.{LoggedLine}
use Rattle.journal.specs.declared.RecordRead.{RecordRead}
use Rattle.journal.specs.Journal.{head_length, first_mark, second_mark, record_of, link_in, length_in, line_in}

-- ---- what records hold
-- A line, and the link that it came by.
pub record Entry : Type 0 where
  pub link : ℕ
  pub line : List ℕ

abbrev pub entry : ℕ → List ℕ → Entry
entry link line = record { link = link; line = line }

-- the bytes of its record, and how many they are
abbrev pub bytes_of : Entry → List ℕ
bytes_of e = record_of e.link e.line

abbrev pub size_of : Entry → ℕ
size_of e = head_length + length e.line

-- a log written record by record
abbrev pub written_log : List Entry → List ℕ
written_log es = concatenated (map bytes_of es)

-- how many bytes some records take
unfoldable pub size_of_all : List Entry → ℕ
size_of_all [] = 0
size_of_all (e ∷ es) = size_of e + size_of_all es

-- ---- what is wrong with a record
-- A number, and the place of the first byte at fault.
abbrev pub Fault : Type 0
Fault = faults.Fault ℕ

-- the byte in a place is there, and isn't this one
abbrev pub is_other : List ℕ → ℕ → ℕ → Bool
is_other s k b = ltb k (length s) && not (eqb (get_or s k 0) b)

-- the link is there, and above 31
abbrev pub is_link_above : List ℕ → Bool
is_link_above s = ltb 2 (length s) && not (is_link (link_in s))

-- both bytes of the length are there, and it is over 512
abbrev pub is_length_over : List ℕ → Bool
is_length_over s = ltb 4 (length s) && ltb line_limit (length_in s)

-- the bytes end before the record does
abbrev pub is_cut : List ℕ → Bool
is_cut s = ltb (length s) (head_length + length_in s)

-- The faults that a record may have, in the order of their places, which are counted from its first byte: no mark, at the first of its bytes that is another; a link
-- above 31; a length over 512, at the first of its two bytes; and, where no byte that is there is at fault, that the log ends inside the record, at the log's end.
unfoldable pub checks_of : List ℕ → List (Check ℕ)
checks_of s =
    fault no_mark 0 if is_other s 0 first_mark
    ∷ fault no_mark 1 if is_other s 1 second_mark
    ∷ fault bad_log_link 2 if is_link_above s
    ∷ fault bad_log_length 3 if is_length_over s
    ∷ fault log_cut (length s) if is_cut s
    ∷ []

-- ---- what stands first in the bytes that are left of a log
-- The log's end; a record; or a fault.
pub data Found : Type 0 where
  End : Found
  Whole : Entry → Found
  Faulty : Fault → Found

abbrev pub found_by : List ℕ → Option Fault → Found
found_by s none = Whole (entry (link_in s) (line_in s))
found_by s (some f) = Faulty f

unfoldable pub found : List ℕ → Found
found [] = End
found (b ∷ s) = found_by (b ∷ s) (first_fault (checks_of (b ∷ s)))

-- ---- a whole log
-- Its records in order, and its first fault, where it has one: behind that nothing is read.
pub record Log : Type 0 where
  pub entries : List Entry
  pub fault : Option Fault

-- a fault of bytes that stand at a place
abbrev pub fault_at : ℕ → Fault → Fault
fault_at at f = fault f.number (at + f.place)

-- what is read from a place on, by what stands there first, and by what is read behind a record
abbrev pub read_then : ℕ → (Entry → Log) → Found → Log
read_then at next End = record { entries = []; fault = none }
read_then at next (Whole e) = record { entries = e ∷ (next e).entries; fault = (next e).fault }
read_then at next (Faulty f) = record { entries = []; fault = some (fault_at at f) }

-- what is read of some bytes, which stand at a place, in so many turns at most
unfoldable pub read_in : ℕ → ℕ → List ℕ → Log
read_in zero at s = record { entries = []; fault = none }
read_in (suc n) at s = read_then at (λ e. read_in n (at + size_of e) (drop (size_of e) s)) (found s)

-- all of it: there are no more records than bytes, and one turn is for what ends them
abbrev pub log_from : ℕ → List ℕ → Log
log_from at s = read_in (suc (length s)) at s

-- the whole log
abbrev pub log_of : List ℕ → Log
log_of s = log_from 0 s

-- ---- the answer to the question what stands at a place
-- the most bytes that it depends on
abbrev pub record_limit : ℕ
record_limit = 517

-- no record: the end, which has no number, or a fault
abbrev pub missing_for : ℕ → ℕ → RecordRead
missing_for number place = record { line = span 0 0; place = place; link = 0; number = number; found = false }

-- the part of the log that is the line of a record is behind its head; a fault is told by its place in the log
abbrev pub answer_at : ℕ → Found → RecordRead
answer_at at End = missing_for accepted 0
answer_at at (Whole e) = record { line = span (at + head_length) (at + size_of e); place = 0; link = e.link; number = accepted; found = true }
answer_at at (Faulty f) = missing_for f.number (at + f.place)

-- the same of what the code answers
abbrev pub read_by : Result (prelude.Option LoggedLine) refusal.Fault → RecordRead
read_by (Ok prelude.None) = missing_for accepted 0
read_by (Ok (prelude.Some r)) = record { line = r.line; place = 0; link = r.link; number = accepted; found = true }
read_by (Err f) = missing_for (refusals.number_of f.refusal) f.place

-- a place past the log's end is the end
unfoldable pub read_answer : List ℕ → ℕ → RecordRead
read_answer log at = answer_at at (found (drop at log))
