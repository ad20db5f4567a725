-- How far the replay of a log has got that is read piece by piece.
use Rattle.std.specs.Prelude.{ℕ, ◌+◌, ◌≤◌, ◌≡◌, cond, List, ◌∷◌, ◌++◌, eqb, Option}
use Rattle.std.specs.declared.ops.ControlFlow.{ControlFlow}
use Rattle.std.specs.ControlFlow.{MatchControlFlow}
use Rattle.std.specs.Io.KnownBytes.{Consumes}
use Rattle.refusal.specs.Numbers.{accepted}
use Rattle.table.specs.Network.{table_with}
use Rattle.replay.specs.Replay.{Replay, Replayed, replayed, replay_answer}
use Rattle.replay.specs.Pieces.{replay_over}
use Rattle.laws.specs.Joins.{concatenated}
use Rattle.logfile.specs.declared.FileReplay.{FileReplay}
use Rattle.logfile.specs.declared.progress.Progress.{Progress}
use Rattle.logfile.specs.Files.{replay_in}

-- the most bytes of a piece, and of one with what is left of the piece before
abbrev pub piece_limit : ℕ
piece_limit = 4096

abbrev pub room : ℕ
room = 4613

-- the last place from which a piece can go on, so that every place in it has 64 bits
abbrev pub place_limit : ℕ
place_limit = 18446744073709547002

-- what is left of the last piece
abbrev pub left_in : Progress → List ℕ
left_in c = c.left.items

-- what the replay comes to when some more pieces come, and then the log's end; with the ban lists that are lent
abbrev pub comes_to : Progress → List ℕ → List (List ℕ) → Replay
comes_to c bans pieces = replay_over replay_answer (table_with c.head bans) c.at (left_in c) pieces

-- what a replay of the bytes from a place on has come to
abbrev pub placed : Replayed → ℕ → FileReplay
placed r at = record {
  head = r.head;
  used = at + r.used;
  number = r.number;
  place = cond (eqb r.number accepted) 0 (at + r.place);
}

-- At the beginning it comes to the replay of the pieces joined.
pub record Begins (c : Progress) (bans : List ℕ) : Type 0 where
  pub at : c.at ≡ 0
  pub replays : (pieces : List (List ℕ)) → comes_to c bans pieces ≡ replayed (concatenated pieces)

-- After a piece it comes to what it would with the piece still to come.
pub record GoesOn (c : Progress) (bans piece : List ℕ) (next : Progress) (after : List ℕ) : Type 0 where
  pub near : next.at ≤ c.at + room
  pub same : (pieces : List (List ℕ)) → comes_to next after pieces ≡ comes_to c bans (piece ∷ pieces)

-- Or it has come to that with the piece, whatever were to come behind it.
abbrev pub Ends : Progress → List ℕ → List ℕ → FileReplay → List ℕ → Type 0
Ends c bans piece answer after = (pieces : List (List ℕ)) → replay_in answer after ≡ comes_to c bans (piece ∷ pieces)

-- One of the two.
abbrev pub Moves : Progress → List ℕ → List ℕ → ControlFlow FileReplay (Unit {0}) → Progress → List ℕ → Type 0
Moves c bans piece r next after = MatchControlFlow r (λ _. GoesOn c bans piece next after) (λ answer. Ends c bans piece answer after)

-- Some bytes have been read: whatever comes behind them, it comes to the replay of all.
pub record ReadSoFar (c : Progress) (bans : List ℕ) : Type 0 where
  pub log : List ℕ
  pub going : (pieces : List (List ℕ)) → comes_to c bans pieces ≡ replayed (log ++ concatenated pieces)

-- The bytes that a reader had and has no more have been read, where its bytes are known: whatever comes behind them, it comes to the replay of all.
pub record ReadFrom (had left : Option (List ℕ)) (c : Progress) (bans : List ℕ) : Type 0 where
  pub log : List ℕ
  pub consumed : Consumes had left log
  pub going : (pieces : List (List ℕ)) → comes_to c bans pieces ≡ replayed (log ++ concatenated pieces)
