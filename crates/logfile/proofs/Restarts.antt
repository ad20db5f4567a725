-- The restart theorem: a relay that is restarted has the log and the table of one that never stops; and a record that is torn, being cut off, changes no start.
-- Assumes nothing.
use Prim.Native.Nat.{ℕ, ◌+◌}
use mathlib.Core.Path.{◌≡◌, refl, sym, ap, ◌∙◌}
use mathlib.Core.List.{List, [], ◌∷◌, ◌++◌, append-nil, append_assoc}
use mathlib.Core.Option.{none}
use lib.ListN.{take}
use lib.Seq.{take-append_seam}
use Rattle.refusal.specs.Numbers.{accepted}
use Rattle.links.specs.Links.{all_links}
use Rattle.table.specs.Network.{Table, network_of, table_of}
use Rattle.table.specs.Table.{empty_table}
use Rattle.journal.specs.Reading.{Entry, written_log, size_of_all, Fault, Faulty, found, Log}
use Rattle.journal.specs.Division.{AllLoggable}
use Rattle.journal.proofs.Logs.{reads-back, written-joined, loggable-joined}
use Rattle.replay.specs.Replay.{Replay, ready_table, replay_of, replayed}
use Rattle.replay.specs.Day.{Call, table_after, logged_in, day_log}
use Rattle.replay.proofs.Records.{replay-behind}
use Rattle.replay.proofs.Days.{day-loggable, records-taken}
use Rattle.replay.proofs.Stops.{replay-faulty}
use Rattle.logfile.specs.Restarts.{linkless, started_from, log_after, table_through, logged_through, Resumes, Mends}

-- the network of a table, with all links registered
abbrev ready : Table → Table
ready t = table_of (network_of t) all_links

-- Some records can be logged, are all taken, and leave the network of a table.
record Leaves (es : List Entry) (t : Table) : Type 0 where
  loggable : AllLoggable es
  number : (replay_of ready_table 0 es none).number ≡ accepted
  table : (replay_of ready_table 0 es none).table ≡ ready t

none-leave : Leaves [] empty_table
unfolding replay_of ready_table empty_table
none-leave = record { loggable = tt; number = refl; table = refl }

module _ (es : List Entry) (t : Table) (h : Leaves es t) where
  -- a start from the log of them has that network
  starts : started_from (written_log es) ≡ linkless t
  unfolding started_from
  starts =
      ap (λ (l : Log). linkless (replay_of ready_table 0 l.entries l.fault).table) (reads-back es h.loggable)
      ∙ ap linkless h.table

  -- and what is logged of calls from there on leaves the network after them
  module _ (calls : List Call) where
    abbrev more : List Entry
    more = logged_in (linkless t) calls

    behind : replay_of ready_table 0 (es ++ more) none ≡ replay_of (ready t) (0 + size_of_all es) more none
    behind = replay-behind ready_table 0 es more none h.number ∙ ap (λ (x : Table). replay_of x (0 + size_of_all es) more none) h.table

    leaves-more : Leaves (es ++ more) (table_after (linkless t) calls)
    leaves-more =
        let taken = records-taken (linkless t) calls (0 + size_of_all es) in
        record {
          loggable = loggable-joined es more h.loggable (day-loggable (linkless t) calls);
          number = ap (λ (r : Replay). r.number) behind ∙ taken.0;
          table = ap (λ (r : Replay). r.table) behind ∙ taken.1;
        }

    -- the log after them
    written-more : written_log es ++ day_log (started_from (written_log es)) calls ≡ written_log (es ++ more)
    written-more = ap (λ (x : Table). written_log es ++ day_log x calls) starts ∙ sym (written-joined es more)

-- ---- any number of runs
leaves_all : (runs : List (List Call)) (es : List Entry) (t : Table) → Leaves es t → Leaves (es ++ logged_through (linkless t) runs) (table_through (linkless t) runs)
unfolding logged_through table_through
leaves_all [] es t h = rw (append-nil es) (record { loggable = h.loggable; number = h.number; table = h.table })
leaves_all (calls ∷ runs) es t h =
    let more : List Entry = logged_in (linkless t) calls in
    let next : Table = table_after (linkless t) calls in
    rw (append_assoc es more (logged_through (linkless next) runs)) at (leaves_all runs (es ++ more) next (leaves-more es t h calls))

table-after : (runs : List (List Call)) (es : List Entry) (t : Table) → Leaves es t → started_from (log_after (written_log es) runs) ≡ table_through (linkless t) runs
unfolding log_after table_through
table-after [] es t h = starts es t h
table-after (calls ∷ runs) es t h =
    ap (λ (l : List ℕ). started_from (log_after l runs)) (written-more es t h calls)
    ∙ table-after runs (es ++ logged_in (linkless t) calls) (table_after (linkless t) calls) (leaves-more es t h calls)

log-after : (runs : List (List Call)) (es : List Entry) (t : Table) → Leaves es t → log_after (written_log es) runs ≡ written_log (es ++ logged_through (linkless t) runs)
unfolding log_after logged_through
log-after [] es t h = ap written_log (sym (append-nil es))
log-after (calls ∷ runs) es t h =
    let more : List Entry = logged_in (linkless t) calls in
    let next : Table = table_after (linkless t) calls in
    ap (λ (l : List ℕ). log_after l runs) (written-more es t h calls)
    ∙ log-after runs (es ++ more) next (leaves-more es t h calls)
    ∙ ap written_log (append_assoc es more (logged_through (linkless next) runs))

pub resumes : (runs : List (List Call)) → Resumes runs
unfolding empty_table
resumes runs = record { log = log-after runs [] empty_table none-leave; table = table-after runs [] empty_table none-leave }

-- The first start is with the empty table.
pub starts-empty : started_from [] ≡ empty_table
unfolding empty_table
starts-empty = starts [] empty_table none-leave

-- From no log nothing is refused.
pub replays-empty : (replayed []).number ≡ accepted
replays-empty = ap (λ (l : Log). (replay_of ready_table 0 l.entries l.fault).number) (reads-back [] tt) ∙ none-leave.number

-- ---- a record that is torn
pub mends : (runs : List (List Call)) (rest : List ℕ) (f : Fault) → found rest ≡ Faulty f → Mends runs rest
unfolding started_from empty_table
mends runs rest f is =
    let es : List Entry = logged_through empty_table runs in
    let all : Leaves es (table_through empty_table runs) = leaves_all runs [] empty_table none-leave in
    let log : log_after [] runs ≡ written_log es = (resumes runs).log in
    let faulty = replay-faulty es all.number rest f is in
    let whole : replayed (written_log es) ≡ replay_of ready_table 0 es none = ap (λ (l : Log). replay_of ready_table 0 l.entries l.fault) (reads-back es all.loggable) in
    record {
      table =
          ap (λ (l : List ℕ). linkless (replayed (l ++ rest)).table) log
          ∙ ap (λ (r : Replay). linkless r.table) faulty
          ∙ ap (λ (r : Replay). linkless r.table) (sym whole)
          ∙ ap (λ (l : List ℕ). linkless (replayed l).table) (sym log);
      cut =
          ap (λ (l : List ℕ). take (replayed (l ++ rest)).used (l ++ rest)) log
          ∙ ap (λ (r : Replay). take r.used (written_log es ++ rest)) faulty
          ∙ take-append_seam (written_log es) rest
          ∙ sym log;
    }
