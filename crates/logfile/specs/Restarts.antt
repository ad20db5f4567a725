-- A relay that keeps its log in a file and is stopped and started any number of times; and beside it one that never stops.
use Rattle.std.specs.Prelude.{ℕ, ◌≡◌, List, [], ◌∷◌, ◌++◌, take}
use Rattle.links.specs.Links.{no_links}
use Rattle.table.specs.Network.{Table, network_of, table_of}
use Rattle.table.specs.Table.{empty_table}
use Rattle.journal.specs.Reading.{Entry, written_log}
use Rattle.replay.specs.Replay.{replayed}
use Rattle.replay.specs.Day.{Call, table_after, logged_in, day_log}

-- all links are dropped
abbrev pub linkless : Table → Table
linkless t = table_of (network_of t) no_links

-- ---- the relay that is restarted
-- the table that it starts with: what the replay of the log leaves, and no link
unfoldable pub started_from : List ℕ → Table
started_from log = linkless (replayed log).table

-- the log after some runs, each of which starts from the log so far, makes some calls, and adds to it what is logged of them
unfoldable pub log_after : List ℕ → List (List Call) → List ℕ
log_after log [] = log
log_after log (calls ∷ runs) = log_after (log ++ day_log (started_from log) calls) runs

-- ---- the one that never stops
-- its table after the same calls, all links being dropped where the other one stops
unfoldable pub table_through : Table → List (List Call) → Table
table_through t [] = t
table_through t (calls ∷ runs) = table_through (linkless (table_after t calls)) runs

-- and its accepted lines, in order
unfoldable pub logged_through : Table → List (List Call) → List Entry
logged_through t [] = []
logged_through t (calls ∷ runs) = logged_in t calls ++ logged_through (linkless (table_after t calls)) runs

-- ---- the claim
-- However often a relay is restarted, from a log that was empty at first, it has the log of one that never stops, and starts with the table that this one has then.
pub record Resumes (runs : List (List Call)) : Type 0 where
  pub log : log_after [] runs ≡ written_log (logged_through empty_table runs)
  pub table : started_from (log_after [] runs) ≡ table_through empty_table runs

-- Behind that log stand bytes at fault, as where a record is torn: they change no start, and what is left once they are cut off, where the last record ends, is the log.
pub record Mends (runs : List (List Call)) (rest : List ℕ) : Type 0 where
  pub table : started_from (log_after [] runs ++ rest) ≡ started_from (log_after [] runs)
  pub cut : take (replayed (log_after [] runs ++ rest)).used (log_after [] runs ++ rest) ≡ log_after [] runs
