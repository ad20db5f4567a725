-- Laws of a log that is read piece by piece: some bytes have been read at the beginning, after a piece and at the end, and what it comes to then is the replay of those
-- bytes. Assumes nothing.
use mathlib.Core.Path.{◌≡◌, sym, ap, ◌∙◌}
use mathlib.Core.List.{List, [], ◌∷◌, ◌++◌, append-nil, append_assoc}
use Prim.Native.Nat.{ℕ}
use Rattle.laws.specs.Joins.{concatenated}
use Rattle.replay.specs.Replay.{replayed}
use Rattle.logfile.specs.declared.FileReplay.{FileReplay}
use Rattle.logfile.specs.declared.progress.Progress.{Progress}
use Rattle.std.proofs.Common.{Option, Some, None, IfSome, Ok, Err, take, subst}
use Rattle.std.specs.declared.io.Error.{Error}
use Rattle.std.specs.Io.KnownBytes.{Consumes, IsAtEnd}
use Rattle.std.proofs.KnownBytes.{Consumes-nil, Consumes-trans}
use Rattle.logfile.specs.Files.{replay_in, IsOfLog, OfSomeLog}
use Rattle.logfile.specs.Private.Progress.{comes_to, Begins, GoesOn, Ends, ReadSoFar, ReadFrom}

-- ---- what has been read
-- nothing, at the beginning
pub read_none : (c : Progress) (bans : List ℕ) → Begins c bans → ReadSoFar c bans
read_none c bans b = record { log = []; going = b.replays }

module _ (c : Progress) (bans : List ℕ) (so_far : ReadSoFar c bans) where
  -- a piece more
  pub read-on : (piece : List ℕ) (next : Progress) (after : List ℕ) → GoesOn c bans piece next after → ReadSoFar next after
  read-on piece next after g = record {
    log = so_far.log ++ piece;
    going = λ pieces. g.same pieces ∙ so_far.going (piece ∷ pieces) ∙ ap replayed (sym (append_assoc so_far.log piece (concatenated pieces)));
  }

  -- one that ends it
  pub read_ends : (piece : List ℕ) (answer : FileReplay) (after : List ℕ) → Ends c bans piece answer after → OfSomeLog (Ok answer) after
  read_ends piece answer after g = record {
    log = so_far.log ++ piece;
    same = g [] ∙ so_far.going (piece ∷ []) ∙ ap (λ (l : List ℕ). replayed (so_far.log ++ l)) (append-nil piece);
  }

  -- nothing more, at the end
  pub read_whole : (answer : FileReplay) (after : List ℕ) → replay_in answer after ≡ comes_to c bans [] → OfSomeLog (Ok answer) after
  read_whole answer after g = record {
    log = so_far.log;
    same = g ∙ so_far.going [] ∙ ap replayed (append-nil so_far.log);
  }

-- where a read fails there is no answer
pub read-failed : (e : Error) (bans : List ℕ) → OfSomeLog (Err e) bans
read-failed e bans = record { log = []; same = tt }

-- ---- what a reader had, whose bytes are known
-- nothing was read of it, at the beginning
pub from_none : (had : Option (List ℕ)) (c : Progress) (bans : List ℕ) → Begins c bans → ReadFrom had had c bans
from_none had c bans b = record { log = []; consumed = Consumes-nil had; going = b.replays }

module _ (had left next_left : Option (List ℕ)) (c : Progress) (bans : List ℕ) (from : ReadFrom had left c bans) where
  -- a piece more
  pub from-on : (piece : List ℕ) (next : Progress) (after : List ℕ) → Consumes left next_left piece → GoesOn c bans piece next after → ReadFrom had next_left next after
  from-on piece next after took g = record {
    log = from.log ++ piece;
    consumed = Consumes-trans had left next_left from.log piece from.consumed took;
    going = λ pieces. g.same pieces ∙ from.going (piece ∷ pieces) ∙ ap replayed (sym (append_assoc from.log piece (concatenated pieces)));
  }

  -- one that ends it: what comes behind changes nothing
  pub from_ends : (piece : List ℕ) (answer : FileReplay) (after : List ℕ) → Consumes left next_left piece → Ends c bans piece answer after → IfSome had (λ log. IsOfLog (Ok answer) after log)
  from_ends piece answer after took g = go had next_left (Consumes-trans had left next_left from.log piece from.consumed took)
    where
      go : (had left : Option (List ℕ)) → Consumes had left (from.log ++ piece) → IfSome had (λ log. IsOfLog (Ok answer) after log)
      go None left took = tt
      go (Some log) None took = absurd took
      go (Some log) (Some rest) took =
          g (rest ∷ [])
          ∙ from.going (piece ∷ rest ∷ [])
          ∙ ap (λ (l : List ℕ). replayed (from.log ++ (piece ++ l))) (append-nil rest)
          ∙ ap replayed (sym (append_assoc from.log piece rest) ∙ sym took)

  -- nothing more, at its end
  pub from_whole : (answer : FileReplay) (after : List ℕ) → Consumes left next_left [] → IsAtEnd next_left → replay_in answer after ≡ comes_to c bans [] → IfSome had (λ log. IsOfLog (Ok answer) after log)
  from_whole answer after took end g = go had next_left (Consumes-trans had left next_left from.log [] from.consumed took) end
    where
      go : (had left : Option (List ℕ)) → Consumes had left (from.log ++ []) → IsAtEnd left → IfSome had (λ log. IsOfLog (Ok answer) after log)
      go None left took end = tt
      go (Some log) None took end = absurd took
      go (Some log) (Some rest) took end =
          let all : log ≡ from.log ++ [] = took ∙ ap (λ (l : List ℕ). (from.log ++ []) ++ l) end ∙ append-nil (from.log ++ []) in
          g ∙ from.going [] ∙ ap replayed (sym all)

-- where a read fails there is no answer
pub from-failed : (had : Option (List ℕ)) (e : Error) (bans : List ℕ) → IfSome had (λ log. IsOfLog (Err e) bans log)
from-failed None e bans = tt
from-failed (Some log) e bans = tt

-- a read of no bytes took none
pub none-taken : (left next_left : Option (List ℕ)) (n : ℕ) (buffer : List ℕ) → n ≡ 0 → Consumes left next_left (take n buffer) → Consumes left next_left []
none-taken left next_left n buffer e took = subst (λ (k : ℕ). Consumes left next_left (take k buffer)) e took
