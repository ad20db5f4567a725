-- What the replay of a log in a file comes to. The bytes that a file's read brings aren't the prover's to know: what is said is that there are some of which this is the
-- replay. Of a reader whose bytes are known it is the replay of those.
use Rattle.std.specs.Prelude.{ℕ, ◌≡◌, List, Result, IfOk}
use Rattle.std.specs.declared.io.Error.{Error}
use Rattle.table.specs.Network.{table_with}
use Rattle.replay.specs.Replay.{Replay, replayed}
use Rattle.logfile.specs.declared.FileReplay.{FileReplay}

-- an answer, with the ban lists that are lent
abbrev pub replay_in : FileReplay → List ℕ → Replay
replay_in r bans = record { table = table_with r.head bans; used = r.used; number = r.number; place = r.place }

-- The answer is the replay of these bytes, unless reading failed.
abbrev pub IsOfLog : Result FileReplay Error → List ℕ → List ℕ → Type 0
IsOfLog r bans log = IfOk r (λ a. replay_in a bans ≡ replayed log)

-- The answer is the replay of some bytes, unless reading failed.
pub record OfSomeLog (r : Result FileReplay Error) (bans : List ℕ) : Type 0 where
  pub log : List ℕ
  pub same : IsOfLog r bans log
