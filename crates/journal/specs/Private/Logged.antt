-- An answer about a record as C gets it.
use Rattle.std.specs.Prelude.{ℕ, Result, Ok, Err}
use Rattle.refusal.specs.Numbers.{accepted}
use Rattle.refusal.specs.declared.Refusal.{Refusal}
use Rattle.refusal.specs.Refusals.{number_of}
use Rattle.journal.specs.declared.Logged.{Logged}

-- the size of what is written, or that nothing is
abbrev pub logged_by : Result ℕ Refusal → Logged
logged_by (Ok size) = record { number = accepted; size = size }
logged_by (Err e) = record { number = number_of e; size = 0 }
