-- The calls that a program makes which reads a log piece by piece (document 02, §5).
use Rattle.std.specs.Prelude.{ℕ, ◌+◌, Bool, true, false, cond, List, [], ◌∷◌, ◌++◌, drop, eqb}
use Rattle.refusal.specs.Numbers.{accepted}
use Rattle.table.specs.Network.{Table}
use Rattle.replay.specs.Replay.{Replay}

-- What varies: what a call answers to a table, a piece of the log, and whether the log ends there.
abbrev pub Replaying : Type 0
Replaying = Table → List ℕ → Bool → Replay

-- the caller adds the place of the piece
abbrev pub placed_at : ℕ → Replay → Replay
placed_at at r = record { table = r.table; used = at + r.used; number = r.number; place = cond (eqb r.number accepted) 0 (at + r.place) }

-- the calls with one piece after the other, from a place on, each with the table that the one before answered and the bytes that it didn't use. A number ends them;
-- after the last piece the log ends.
unfoldable pub replay_over : Replaying → Table → ℕ → List ℕ → List (List ℕ) → Replay
replay_over replay t at kept [] = placed_at at (replay t kept true)
replay_over replay t at kept (piece ∷ pieces) =
    let r : Replay = replay t (kept ++ piece) false in
    cond (eqb r.number accepted) (replay_over replay r.table (at + r.used) (drop r.used (kept ++ piece)) pieces) (placed_at at r)
