-- The calls that a program makes with a log in pieces come to the replay of the whole log, whatever the cuts: what a call leaves unused comes with the next piece, and
-- a place in a piece is one in the log, once the place of the piece is added. Assumes nothing.
use Prim.Native.Nat.{ℕ, ◌+◌, ◌≤◌, ◌<◌}
use mathlib.Core.Path.{◌≡◌, refl, sym, ap, ◌∙◌}
use mathlib.Core.Bool.{Bool, true, false, true≢false, cond}
use mathlib.Core.List.{List, [], ◌∷◌, ◌++◌, append-nil, append_assoc}
use mathlib.Core.Option.{Option, some, none}
use native.Mathlib.Omega.{arith}
use lib.ListN.{length, drop}
use lib.Dec.{eqb}
use borrow.Author.Tests.{eq-eqb, ne_eqb, eqb-true, eqb-false}
use Rattle.refusal.specs.Numbers.{accepted}
use Rattle.laws.specs.Joins.{concatenated}
use Rattle.table.specs.Network.{Table}
use Rattle.journal.specs.Reading.{Entry, size_of_all, Fault, Log, log_from, record_limit}
use Rattle.journal.specs.Pieces.{fault_if, is_sound}
use Rattle.journal.proofs.Checks.{listed-number}
use Rattle.journal.proofs.Logs.{log-moved, log-listed, records-within, fault-within}
use Rattle.journal.proofs.Pieces.{goes_on, log-continues, log-stops, end-counts, fault-kept, fault-still, fault-moved, left-few}
use Rattle.replay.specs.Replay.{Replay, ready_table, replay_of, replayed, replay_from, replay_answer}
use Rattle.replay.specs.Pieces.{Replaying, placed_at, replay_over}
use Rattle.replay.proofs.Records.{replay-joined, replay-used, replay-fault, Numbered, replay-moved, replay-within}

-- ---- from another place on
-- the faults of a log have numbers, those that count where it goes on too
log-numbered : (last : Bool) (at : ℕ) (s : List ℕ) → Numbered (fault_if last (log_from at s).fault)
log-numbered last at s = go (fault_if last (log_from at s).fault) refl
  where
    go : (o : Option Fault) → fault_if last (log_from at s).fault ≡ o → Numbered o
    go none e = tt
    go (some f) e = listed-number f.number (log-listed at s f (fault-kept last (log_from at s).fault f e))

-- So the answer to a piece is what the log comes to there, once the place of the piece is added.
pub answer-placed : (last : Bool) (t : Table) (at : ℕ) (s : List ℕ) → placed_at at (replay_answer t s last) ≡ replay_from last t at s
unfolding replay_answer
answer-placed last t at s =
    let z : at + 0 ≡ at = omega arith in
    sym (replay-moved at (log_from 0 s).entries (fault_if last (log_from 0 s).fault) t 0 (log-numbered last 0 s))
    ∙ ap (λ (o : Option Fault). replay_of t (at + 0) (log_from 0 s).entries o) (sym (fault-moved last at (log_from 0 s).fault))
    ∙ ap (λ (l : Log). replay_of t (at + 0) l.entries (fault_if last l.fault)) (sym (log-moved at 0 s))
    ∙ ap (λ (k : ℕ). replay_from last t k s) z

-- ---- more bytes behind a piece
is-sound : (o : Option Fault) → is_sound o ≡ true → o ≡ none
is-sound none e = refl
is-sound (some f) e = absurd (true≢false (sym e))

module _ (t : Table) (at : ℕ) (s : List ℕ) where
  abbrev piece : Replay
  piece = replay_from false t at s

  abbrev entries : List Entry
  entries = (log_from at s).entries

  -- a piece that no number ends is sound
  taken-sound : piece.number ≡ accepted → goes_on (log_from at s) ≡ true
  taken-sound e = go (fault_if false (log_from at s).fault) refl
    where
      go : (o : Option Fault) → fault_if false (log_from at s).fault ≡ o → is_sound (fault_if false (log_from at s).fault) ≡ true
      go none is = rw is
      go (some f) is =
          absurd (replay-fault entries f t at (rw is at (log-numbered false at s)) (ap (λ (o : Option Fault). (replay_of t at entries o).number) (sym is) ∙ e))

  only-records : goes_on (log_from at s) ≡ true → piece ≡ replay_of t at entries none
  only-records g = ap (replay_of t at entries) (is-sound (fault_if false (log_from at s).fault) g)

  -- it is used up to the last record
  pub piece-used : piece.number ≡ accepted → piece.used ≡ at + size_of_all entries
  piece-used e =
      let is = only-records (taken-sound e) in
      ap (λ (r : Replay). r.used) is ∙ replay-used entries t at (ap (λ (r : Replay). r.number) (sym is) ∙ e)

  module _ (last : Bool) (more : List ℕ) where
    log_is : goes_on (log_from at s) ≡ true
        → replay_from last t at (s ++ more)
        ≡ cond (eqb piece.number accepted) (replay_from last piece.table (at + size_of_all entries) (drop (size_of_all entries) s ++ more)) piece
    log_is g =
        let rest : Log = log_from (at + size_of_all entries) (drop (size_of_all entries) s ++ more) in
        ap (λ (l : Log). replay_of t at l.entries (fault_if last l.fault)) (log-continues more s at g)
        ∙ replay-joined entries rest.entries (fault_if last rest.fault) t at
        ∙ ap (λ (r : Replay). cond (eqb r.number accepted) (replay_of r.table (at + size_of_all entries) rest.entries (fault_if last rest.fault)) r) (sym (only-records g))

    -- Where no number ends the piece, the log goes on with what is left of it.
    pub piece-continues : piece.number ≡ accepted
        → replay_from last t at (s ++ more) ≡ replay_from last piece.table (at + size_of_all entries) (drop (size_of_all entries) s ++ more)
    piece-continues e = log_is (taken-sound e) ∙ rw (eq-eqb piece.number accepted e)

    -- Where one does, it ends the log.
    pub piece-stops : (piece.number ≡ accepted → ⊥) → replay_from last t at (s ++ more) ≡ piece
    piece-stops ne = go (goes_on (log_from at s)) refl
      where
        go : (b : Bool) → goes_on (log_from at s) ≡ b → replay_from last t at (s ++ more) ≡ piece
        go true g = log_is g ∙ rw (ne_eqb piece.number accepted ne)
        go false g =
            ap (λ (l : Log). replay_of t at l.entries (fault_if last l.fault)) (log-stops more s at g)
            ∙ ap (replay_of t at entries) (fault-still last (log_from at s).fault g)

-- ---- how far an answer reaches
-- The bytes used, and the place of what ended it, lie within the piece.
pub answer-within : (t : Table) (s : List ℕ) (last : Bool) → ((replay_answer t s last).used ≤ length s) × ((replay_answer t s last).place ≤ length s)
unfolding replay_answer
answer-within t s last =
    replay-within (length s) (log_from 0 s).entries (fault_if last (log_from 0 s).fault) t 0 (omega (arith, records-within 0 s))
    (λ f e. omega (arith, fault-within 0 s f (fault-kept last (log_from 0 s).fault f e)))

-- What isn't used of a piece that no number ends is less than the longest record, so that a program needs no more room for it.
pub answer-left : (t : Table) (s : List ℕ) → (replay_answer t s false).number ≡ accepted → length (drop (replay_answer t s false).used s) < record_limit
unfolding replay_answer
answer-left t s e =
    let used : (replay_from false t 0 s).used ≡ size_of_all (log_from 0 s).entries = piece-used t 0 s e ∙ omega arith in
    rw used (left-few s 0 (taken-sound t 0 s e))

-- ---- one piece after the other
-- by what the call with the first of them answers: it goes on, or is ended by a number
module _ (replay : Replaying) (t : Table) (at : ℕ) (kept : List ℕ) where
  module _ (piece : List ℕ) (pieces : List (List ℕ)) where
    abbrev first : Replay
    first = replay t (kept ++ piece) false

    pub over-goes-on : first.number ≡ accepted
        → replay_over replay t at kept (piece ∷ pieces) ≡ replay_over replay first.table (at + first.used) (drop first.used (kept ++ piece)) pieces
    unfolding replay_over
    over-goes-on e = rw (eq-eqb first.number accepted e)

    pub over-stops : (first.number ≡ accepted → ⊥) → replay_over replay t at kept (piece ∷ pieces) ≡ placed_at at first
    unfolding replay_over
    over-stops ne = ap (λ (b : Bool). cond b (replay_over replay first.table (at + first.used) (drop first.used (kept ++ piece)) pieces) (placed_at at first)) (ne_eqb first.number accepted ne)

  -- without another piece the log ends
  pub over-ends : replay_over replay t at kept [] ≡ placed_at at (replay t kept true)
  unfolding replay_over
  over-ends = refl

over : (pieces : List (List ℕ)) (t : Table) (at : ℕ) (kept : List ℕ) → replay_over replay_answer t at kept pieces ≡ replay_from true t at (kept ++ concatenated pieces)
over [] t at kept = over-ends replay_answer t at kept ∙ answer-placed true t at kept ∙ ap (replay_from true t at) (sym (append-nil kept))
over (p ∷ pieces) t at kept = go (eqb r.number accepted) refl (over pieces) ∙ ap (replay_from true t at) (append_assoc kept p (concatenated pieces))
  where
    s : List ℕ
    s = kept ++ p

    r : Replay
    r = replay_answer t s false

    placed : placed_at at r ≡ replay_from false t at s
    placed = answer-placed false t at s

    go : (b : Bool) → eqb r.number accepted ≡ b
        → ((u : Table) (k : ℕ) (left : List ℕ) → replay_over replay_answer u k left pieces ≡ replay_from true u k (left ++ concatenated pieces))
        → replay_over replay_answer t at kept (p ∷ pieces) ≡ replay_from true t at (s ++ concatenated pieces)
    go true e ih =
        let accepts = eqb-true r.number accepted e in
        let number : (replay_from false t at s).number ≡ accepted = ap (λ (x : Replay). x.number) (sym placed) ∙ accepts in
        let n : ℕ = size_of_all (log_from at s).entries in
        let used : r.used ≡ n = omega (arith, ap (λ (x : Replay). x.used) placed, piece-used t at s number) in
        over-goes-on replay_answer t at kept p pieces accepts
        ∙ ih r.table (at + r.used) (drop r.used s)
        ∙ ap (λ (k : ℕ). replay_from true r.table (at + k) (drop k s ++ concatenated pieces)) used
        ∙ ap (λ (x : Replay). replay_from true x.table (at + n) (drop n s ++ concatenated pieces)) placed
        ∙ sym (piece-continues t at s true (concatenated pieces) number)
    go false e ih =
        over-stops replay_answer t at kept p pieces (eqb-false r.number accepted e)
        ∙ placed
        ∙ sym (piece-stops t at s true (concatenated pieces) (λ z. eqb-false r.number accepted e (ap (λ (x : Replay). x.number) placed ∙ z)))

-- One call with the whole log, with which it ends, answers the replay of the log.
pub answer-whole : (log : List ℕ) → replay_answer ready_table log true ≡ replayed log
unfolding replay_answer
answer-whole log = ap (replay_of ready_table 0 (log_from 0 log).entries) (end-counts (log_from 0 log).fault)

-- Whatever the cuts, the calls with the pieces come to the replay of the log.
pub replay-over : (pieces : List (List ℕ)) → replay_over replay_answer ready_table 0 [] pieces ≡ replayed (concatenated pieces)
unfolding replay_answer
replay-over pieces = over pieces ready_table 0 [] ∙ answer-whole (concatenated pieces)
