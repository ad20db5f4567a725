-- The reader's answer without an enum.
use Rattle.std.specs.Prelude.{List, ℕ, length, Result, Ok, Err}
use Rattle.refusal.specs.declared.Refusal.{Refusal}
use Rattle.refusal.specs.Numbers.{accepted}
use Rattle.refusal.specs.Refusals.{number_of}
use Rattle.message.specs.Reading.{number_for, content_of}
use Rattle.capi.specs.declared.LineRead.{LineRead}

-- the number that a line gets, and the count of its parameters: none where it isn't read
abbrev pub read_answer : List ℕ → LineRead
read_answer line = record { number = number_for line; count = length (content_of line).params }

-- the same of what the reader answers
abbrev pub read_as : Result ℕ Refusal → LineRead
read_as (Ok n) = record { number = accepted; count = n }
read_as (Err e) = record { number = number_of e; count = 0 }
