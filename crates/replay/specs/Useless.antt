-- Useless replays, each made as good as it can be without its use.
use Rattle.std.specs.Prelude.{not, cond, List, [], ◌∷◌, map, take}
use Rattle.std.proofs.Math.Option.{none}
use Rattle.refusal.specs.Numbers.{not_well_formed}
use Rattle.laws.specs.Lists.{same}
use Rattle.octets.specs.Bytes.{capital}
use Rattle.message.specs.Reading.{content_of}
use Rattle.telling.specs.Telling.{sjoin}
use Rattle.journal.specs.Reading.{Entry, log_of}
use Rattle.table.specs.Network.{Table}
use Rattle.relay.specs.Bmask.{bmask}
use Rattle.replay.specs.Replay.{Replay, ready_table, replay_of, replayed}
use Rattle.replay.specs.Day.{Replayer}

-- an answer with another table
abbrev pub with_table : Replay → Table → Replay
with_table r t = record { table = t; used = r.used; number = r.number; place = r.place }

-- answers the empty table, and else as ours does
abbrev pub forgetful : Replayer
forgetful log = with_table (replayed log) ready_table

-- the SJOINs of some records, in any case of letters
unfoldable pub joins_of : List Entry → List Entry
joins_of [] = []
joins_of (e ∷ es) = cond (same (map capital (content_of e.line).command) sjoin) (e ∷ joins_of es) (joins_of es)

-- the table that some records leave
abbrev pub table_of_all : List Entry → Table
table_of_all es = (replay_of ready_table 0 es none).table

-- answers the table that the SJOINs alone leave, and else as ours does
abbrev pub joining : Replayer
joining log = with_table (replayed log) (table_of_all (joins_of (log_of log).entries))

-- the records that are no BMASKs, in any case of letters
unfoldable pub unmasked_of : List Entry → List Entry
unmasked_of [] = []
unmasked_of (e ∷ es) = cond (not (same (map capital (content_of e.line).command) bmask)) (e ∷ unmasked_of es) (unmasked_of es)

-- answers the table that all but the BMASKs leave, and else as ours does
abbrev pub unmasking : Replayer
unmasking log = with_table (replayed log) (table_of_all (unmasked_of (log_of log).entries))

-- answers the table that the first record leaves, and else as ours does
abbrev pub brief : Replayer
brief log = with_table (replayed log) (table_of_all (take 1 (log_of log).entries))

-- answers our table, and always a number
abbrev pub blaming : Replayer
blaming log = record { table = (replayed log).table; used = (replayed log).used; number = not_well_formed; place = (replayed log).place }
