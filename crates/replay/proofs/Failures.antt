-- Each useless replay fails: a day, its log, and what is wrong after the replay of it. The time in the first slot tells: 1000 for `opening`, 1200 for `later`, 0 for a
-- free slot; or how many masks the first list has: 1 after `masking`, 0 before. Assumes nothing.
use Prim.Native.Nat.{ℕ}
use mathlib.Core.Path.{◌≡◌, refl, sym, ap, ◌∙◌}
use mathlib.Core.List.{List, [], ◌∷◌}
use mathlib.Core.Option.{none}
use native.Mathlib.Omega.{arith}
use lib.ListN.{take}
use Rattle.refusal.specs.Numbers.{accepted}
use Rattle.laws.specs.Lists.{same_by}
use Rattle.message.specs.Grammar.{line_limit}
use Rattle.channel.proofs.Examples.{stored, incoming}
use Rattle.table.specs.Network.{Table, network_of, empty_network}
use Rattle.relay.specs.Arrival.{arrival}
use Rattle.journal.specs.Reading.{Entry, entry, written_log, Log, log_of}
use Rattle.journal.proofs.Logs.{reads-back}
use Rattle.replay.specs.Replay.{Replay, ready_table, replay_of}
use Rattle.replay.specs.Day.{Call, Take, table_by, table_after, logged_in, day_log, Replayer, Restores}
use Rattle.replay.specs.Useless.{forgetful, joins_of, table_of_all, joining, unmasked_of, unmasking, brief, blaming}
use Rattle.replay.proofs.Days.{logged-first, after_first, no_call, accepted-logged, day-loggable}
use Rattle.replay.proofs.Records.{replay-first}
use Rattle.replay.proofs.Examples.{opening, later, quitting, masking, opening-command, quitting-command, masking-command, step, holding, opening-first, later_first, quitting-then, first_count, stored-count, masking-then, first_time, empty-time, stored-time, incoming-time, opening-then}

-- ---- what it is to fail
-- a line that comes by link 3
abbrev from3 : List ℕ → Call
from3 l = Take (arrival 3 l) line_limit

-- a day that begins with free slots and all links has these records as its log, and the replay of that leaves another network than the day
abbrev pub Fails : Replayer → List Call → List Entry → Type 0
Fails replay cs es = (day_log ready_table cs ≡ written_log es) × (network_of (replay (written_log es)).table ≡ network_of (table_after ready_table cs) → ⊥)

fails : (replay : Replayer) (cs : List Call) (es : List Entry) → Fails replay cs es → Restores replay → ⊥
unfolding ready_table
fails replay cs es f r = f.1 (ap (λ (log : List ℕ). network_of (replay log).table) (sym f.0) ∙ r.network ready_table cs refl)

-- ---- the days
-- a line that is accepted, from the table that was there to the one that it leaves: it is logged, and so is the rest of the day
module _ (t : Table) (l : List ℕ) (u : Table) (is : ((step t l).number ≡ accepted) × ((step t l).table ≡ u)) (cs : List Call) where
  step-logged : (es : List Entry) → logged_in u cs ≡ es → logged_in t (from3 l ∷ cs) ≡ entry 3 l ∷ es
  unfolding table_by
  step-logged es rest = logged-first t (from3 l) cs u is.1 (entry 3 l ∷ []) (accepted-logged t (arrival 3 l) line_limit is.0) ∙ ap (λ (s : List Entry). entry 3 l ∷ s) rest

  step_after : table_after t (from3 l ∷ cs) ≡ table_after u cs
  unfolding table_by
  step_after = after_first t (from3 l) cs u is.1

-- the last line of a day
module _ (t : Table) (l : List ℕ) (n : (step t l).number ≡ accepted) where
  last-logged : logged_in t (from3 l ∷ []) ≡ entry 3 l ∷ []
  last-logged = step-logged t l (step t l).table (n, refl) [] [] (no_call _).0

  last-after : table_after t (from3 l ∷ []) ≡ (step t l).table
  last-after = step_after t l (step t l).table (n, refl) [] ∙ (no_call _).1

-- a user comes
abbrev pub coming : List Call
coming = from3 opening ∷ []

coming-logged : logged_in ready_table coming ≡ entry 3 opening ∷ []
coming-logged = last-logged ready_table opening opening-first.0

coming-after : first_time (network_of (table_after ready_table coming)) ≡ 1000
coming-after = ap (λ (t : Table). first_time (network_of t)) (last-after ready_table opening opening-first.0 ∙ opening-first.1) ∙ stored-time

-- and goes
abbrev pub visit : List Call
visit = from3 opening ∷ from3 quitting ∷ []

visit-logged : logged_in ready_table visit ≡ entry 3 opening ∷ entry 3 quitting ∷ []
visit-logged = step-logged ready_table opening (holding stored) opening-first (from3 quitting ∷ []) _ (last-logged (holding stored) quitting quitting-then.0)

visit-after : network_of (table_after ready_table visit) ≡ empty_network
visit-after =
    ap (λ (t : Table). network_of t) (step_after ready_table opening (holding stored) opening-first (from3 quitting ∷ []) ∙ last-after (holding stored) quitting quitting-then.0)
    ∙ quitting-then.1

-- a user comes, and a mask is added
abbrev pub banning : List Call
banning = from3 opening ∷ from3 masking ∷ []

banning-logged : logged_in ready_table banning ≡ entry 3 opening ∷ entry 3 masking ∷ []
banning-logged = step-logged ready_table opening (holding stored) opening-first (from3 masking ∷ []) _ (last-logged (holding stored) masking masking-then.0)

banning-after : first_count (network_of (table_after ready_table banning)) ≡ 1
banning-after =
    ap (λ (t : Table). first_count (network_of t)) (step_after ready_table opening (holding stored) opening-first (from3 masking ∷ []) ∙ last-after (holding stored) masking masking-then.0)
    ∙ masking-then.1

-- two servers meet, the second with the earlier time
abbrev pub meeting : List Call
meeting = from3 later ∷ from3 opening ∷ []

meeting-logged : logged_in ready_table meeting ≡ entry 3 later ∷ entry 3 opening ∷ []
meeting-logged = step-logged ready_table later (holding incoming) later_first (from3 opening ∷ []) _ (last-logged (holding incoming) opening opening-then.0)

meeting-after : first_time (network_of (table_after ready_table meeting)) ≡ 1000
meeting-after =
    ap (λ (t : Table). first_time (network_of t)) (step_after ready_table later (holding incoming) later_first (from3 opening ∷ []) ∙ last-after (holding incoming) opening opening-then.0)
    ∙ opening-then.1

-- ---- their logs
-- the records of a day's log are read back
read-day : (cs : List Call) (es : List Entry) → logged_in ready_table cs ≡ es → log_of (written_log es) ≡ record { entries = es; fault = none }
read-day cs es is = reads-back es (rw is at (day-loggable ready_table cs))

-- one record, and nothing behind it: the table is the one that it leaves
one-record : (l : List ℕ) → (step ready_table l).number ≡ accepted → table_of_all (entry 3 l ∷ []) ≡ (step ready_table l).table
unfolding replay_of
one-record l n = ap (λ (r : Replay). r.table) (replay-first ready_table 0 (entry 3 l) [] none n)

-- so it is with `opening`
opening-left : table_of_all (entry 3 opening ∷ []) ≡ holding stored
opening-left = one-record opening opening-first.0 ∙ opening-first.1

-- ---- forgetful
-- after a day of one SJOIN it leaves free slots
pub forgetful-log : Fails forgetful coming (entry 3 opening ∷ [])
unfolding ready_table
forgetful-log = (ap written_log coming-logged, λ e. omega (arith, ap first_time e, coming-after, empty-time))

-- A replay that answers the empty table doesn't restore a day.
pub forgetful-fails : Restores forgetful → ⊥
forgetful-fails = fails forgetful coming (entry 3 opening ∷ []) forgetful-log

-- ---- joining
visit-joins : joins_of (entry 3 opening ∷ entry 3 quitting ∷ []) ≡ entry 3 opening ∷ []
unfolding joins_of same_by
visit-joins = rw (opening-command, quitting-command)

joining-table : (joining (written_log (entry 3 opening ∷ entry 3 quitting ∷ []))).table ≡ holding stored
joining-table =
    ap (λ (l : Log). table_of_all (joins_of l.entries)) (read-day visit _ visit-logged)
    ∙ ap table_of_all visit-joins
    ∙ opening-left

-- after an SJOIN and a QUIT of its one user it leaves the channel
pub joining-log : Fails joining visit (entry 3 opening ∷ entry 3 quitting ∷ [])
joining-log = (
  ap written_log visit-logged,
  λ e. omega (arith, ap (λ (t : Table). first_time (network_of t)) joining-table, stored-time, ap first_time e, ap first_time visit-after, empty-time),
)

-- A replay that takes the SJOINs alone doesn't restore a day.
pub joining-fails : Restores joining → ⊥
joining-fails = fails joining visit (entry 3 opening ∷ entry 3 quitting ∷ []) joining-log

-- ---- unmasking
banning-unmasked : unmasked_of (entry 3 opening ∷ entry 3 masking ∷ []) ≡ entry 3 opening ∷ []
unfolding unmasked_of same_by
banning-unmasked = rw (opening-command, masking-command)

unmasking-table : (unmasking (written_log (entry 3 opening ∷ entry 3 masking ∷ []))).table ≡ holding stored
unmasking-table =
    ap (λ (l : Log). table_of_all (unmasked_of l.entries)) (read-day banning _ banning-logged)
    ∙ ap table_of_all banning-unmasked
    ∙ opening-left

-- after an SJOIN and a BMASK for its channel it leaves the list without masks
pub unmasking-log : Fails unmasking banning (entry 3 opening ∷ entry 3 masking ∷ [])
unmasking-log = (
  ap written_log banning-logged,
  λ e. omega (arith, ap (λ (t : Table). first_count (network_of t)) unmasking-table, stored-count, ap first_count e, banning-after),
)

-- A replay that leaves the BMASKs out doesn't restore a day.
pub unmasking-fails : Restores unmasking → ⊥
unmasking-fails = fails unmasking banning (entry 3 opening ∷ entry 3 masking ∷ []) unmasking-log

-- ---- brief
brief-table : (brief (written_log (entry 3 later ∷ entry 3 opening ∷ []))).table ≡ holding incoming
brief-table =
    ap (λ (l : Log). table_of_all (take 1 l.entries)) (read-day meeting _ meeting-logged) ∙ one-record later later_first.0 ∙ later_first.1

-- after two SJOINs, of which the second has the earlier time, it leaves the later one
pub brief-log : Fails brief meeting (entry 3 later ∷ entry 3 opening ∷ [])
brief-log = (
  ap written_log meeting-logged,
  λ e. omega (arith, ap (λ (t : Table). first_time (network_of t)) brief-table, incoming-time, ap first_time e, meeting-after),
)

-- A replay that stops after the first record doesn't restore a day.
pub brief-fails : Restores brief → ⊥
brief-fails = fails brief meeting (entry 3 later ∷ entry 3 opening ∷ []) brief-log

-- ---- blaming
-- A replay that always answers a number doesn't restore a day, not even one without a line, whose log is empty.
pub blaming-fails : Restores blaming → ⊥
unfolding ready_table
blaming-fails r = omega (arith, r.number ready_table [] refl)
