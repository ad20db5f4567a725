-- A log told all at once: the records of lines that can be logged, one behind the other, and behind them nothing, or bytes that are at fault. What is read of a log
-- is held against this (`divides`, proofs/Division.antt): every log is records, and then its end or one fault.
use Rattle.std.specs.Prelude.{ℕ, ◌≤◌, ◌≡◌, Bool, true, ◌⊎◌, List, [], ◌∷◌, ◌++◌, length, ltb}
use Rattle.std.proofs.Math.Option.{some, none}
use Rattle.links.specs.Links.{is_link}
use Rattle.message.specs.Grammar.{line_limit}
use Rattle.journal.specs.Reading.{Entry, written_log, Fault, Faulty, found, Log, fault_at}

-- a number that a byte holds
abbrev pub is_byte : ℕ → Bool
is_byte b = ltb b 256

-- What can be logged: a line of up to 512 bytes, by a link from 0 to 31.
pub record Loggable (e : Entry) : Type 0 where
  pub link : is_link e.link ≡ true
  pub short : length e.line ≤ line_limit

-- each of some
abbrev pub AllLoggable : List Entry → Type 0
AllLoggable [] = Unit {0}
AllLoggable (e ∷ es) = Loggable e × AllLoggable es

-- The bytes s are the records of the log, and behind them the rest: none, or some whose fault, by its place in s, is the log's.
pub record Divided (s : List ℕ) (log : Log) : Type 0 where
  pub rest : List ℕ
  pub loggable : AllLoggable log.entries
  pub whole : s ≡ written_log log.entries ++ rest
  pub ends : ((rest ≡ []) × (log.fault ≡ none))
      ⊎ ((f : Fault) × (found rest ≡ Faulty f) × (log.fault ≡ some (fault_at (length (written_log log.entries)) f)))
