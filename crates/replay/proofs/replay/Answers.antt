-- `replay` meets its contract: it is the replay from the first byte on. Assumes nothing.
use mathlib.Core.Path.{ap}
use Rattle.replay.specs.Replay.{Replay, replay_answer, replayed_of}
use Rattle.replay.proofs.replay.Goals as goal

pub returns-clause-answer : goal.returns-clause-answer
unfolding replay_answer
returns-clause-answer c =
    ap replayed_of c.take_all-stopped.ensures

pub returns-clause-lists : goal.returns-clause-lists
unfolding replay_answer
returns-clause-lists c =
    ap (λ (r : Replay). r.table.bans) c.take_all-stopped.ensures
