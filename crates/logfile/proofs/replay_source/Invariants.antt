-- `replay_source` meets its contract: what has been read at each turn is read after it, and so many reads take no place past 64 bits. Assumes nothing.
use Prim.Native.Nat.{◌+◌, ◌-◌, ◌*◌, ◌≤◌}
use Rattle.logfile.specs.Failing.{source_remaining}
use Rattle.logfile.specs.Private.Progress.{room, ReadSoFar, ReadFrom}
use Rattle.logfile.proofs.replay_source.Given as goal

abbrev pub invariant-loop : goal.invariant-loop
invariant-loop g l = record {
  near : l.progress.at + (2251799813685248 - l.counter) * room ≤ 18446744073709551615;
  so_far : ReadSoFar l.progress l.bans;
  from : ReadFrom (source_remaining g.R.Read.remaining l.fn.source) (source_remaining g.R.Read.remaining l.source) l.progress l.bans;
}
