-- Laws of a replay in pieces, for the functions that take it further: from its beginning it comes to the replay of the pieces joined, a piece leaves what it comes to
-- as it is, and so does the log's end. Assumes nothing.
use Prim.Native.Nat.{ℕ, ◌+◌, ◌-◌, ◌≤◌, ◌<◌}
use mathlib.Core.Path.{◌≡◌, sym, ap, ap₂, ◌∙◌}
use mathlib.Core.Bool.{Bool, true, false}
use mathlib.Core.List.{List, [], ◌++◌}
use native.Mathlib.Omega.{arith}
use lib.ListN.{length, drop, length-drop}
use Rattle.refusal.specs.Numbers.{accepted}
use Rattle.journal.specs.Reading.{record_limit}
use Rattle.table.specs.Network.{Table, table_with}
use Rattle.replay.specs.Replay.{Replay, Replayed, ready_table, replay_answer, replayed_of}
use Rattle.replay.specs.Pieces.{placed_at, replay_over}
use Rattle.replay.proofs.Pieces.{answer-within, answer-left, over-goes-on, over-stops, over-ends, replay-over}
use Rattle.logfile.specs.declared.progress.Progress.{Progress}
use Rattle.logfile.specs.Files.{replay_in}
use Rattle.logfile.specs.Private.Progress.{room, left_in, comes_to, placed, Begins, GoesOn, Ends}

-- nothing has come of the log
pub begins : (c : Progress) (bans : List ℕ) → c.at ≡ 0 → left_in c ≡ [] → table_with c.head bans ≡ ready_table → Begins c bans
begins c bans at none ready = record {
  at = at;
  replays = λ pieces.
      ap (λ (t : Table). replay_over replay_answer t c.at (left_in c) pieces) ready
      ∙ ap₂ (λ (k : ℕ) (l : List ℕ). replay_over replay_answer ready_table k l pieces) at none
      ∙ replay-over pieces;
}

-- a replay of bytes that have room uses no more of them, and its place is one of them
pub near : (t : Table) (s : List ℕ) (last : Bool) (r : Replayed) → r ≡ replayed_of (replay_answer t s last) → length s ≤ room → (r.used ≤ length s) × (r.used ≤ room) × (r.place ≤ room)
near t s last r is few =
    let within = answer-within t s last in
    let used : r.used ≡ (replay_answer t s last).used = ap (λ (x : Replayed). x.used) is in
    let place : r.place ≡ (replay_answer t s last).place = ap (λ (x : Replayed). x.place) is in
    (omega (arith, within.0), omega (arith, within.0), omega (arith, within.1))

-- where the log goes on, what isn't used is less than the longest record
pub left-few : (t : Table) (s : List ℕ) (r : Replayed) → r ≡ replayed_of (replay_answer t s false) → r.number ≡ accepted → length s - r.used < record_limit
left-few t s r is passes =
    let used : r.used ≡ (replay_answer t s false).used = ap (λ (x : Replayed). x.used) is in
    omega (arith, answer-left t s (sym (ap (λ (x : Replayed). x.number) is) ∙ passes), length-drop (replay_answer t s false).used s)

module _ (c : Progress) (bans : List ℕ) where
  abbrev table : Table
  table = table_with c.head bans

  -- ---- a piece comes
  module _ (piece s : List ℕ) (r : Replayed) (after : List ℕ) (joined : s ≡ left_in c ++ piece) (is : r ≡ replayed_of (replay_answer table s false)) (lists : after ≡ (replay_answer table s false).table.bans) where
    abbrev answer : Replay
    answer = replay_answer table (left_in c ++ piece) false

    is-answer : r ≡ replayed_of answer
    is-answer = rw joined at is

    lists-answer : after ≡ answer.table.bans
    lists-answer = rw joined at lists

    -- a number ends it
    pub piece-ends : (r.number ≡ accepted → ⊥) → Ends c bans piece (placed r c.at) after
    piece-ends ne pieces =
        ap (λ (x : Replayed). replay_in (placed x c.at) after) is-answer
        ∙ ap (λ (l : List ℕ). replay_in (placed (replayed_of answer) c.at) l) lists-answer
        ∙ sym (over-stops replay_answer table c.at (left_in c) piece pieces (λ z. ne (ap (λ (x : Replayed). x.number) is-answer ∙ z)))

    -- or it goes on, with what isn't used left
    pub piece-left : r.number ≡ accepted → length s ≤ room
        → (next : Progress) → next.head ≡ r.head → next.at ≡ c.at + r.used → left_in next ≡ drop r.used s → GoesOn c bans piece next after
    piece-left passes few next head at left =
        let bytes : List ℕ = left_in c ++ piece in
        let used : r.used ≡ answer.used = ap (λ (x : Replayed). x.used) is-answer in
        let whole : table_with next.head after ≡ answer.table = ap₂ table_with (head ∙ ap (λ (x : Replayed). x.head) is-answer) lists-answer in
        record {
          near = omega (arith, at, near table s false r is few);
          same = λ pieces.
              ap (λ (t : Table). replay_over replay_answer t next.at (left_in next) pieces) whole
              ∙ ap (λ (k : ℕ). replay_over replay_answer answer.table k (left_in next) pieces) (at ∙ ap (λ (n : ℕ). c.at + n) used)
              ∙ ap (λ (l : List ℕ). replay_over replay_answer answer.table (c.at + answer.used) l pieces) (left ∙ ap₂ (λ (n : ℕ) (l : List ℕ). drop n l) used joined)
              ∙ sym (over-goes-on replay_answer table c.at (left_in c) piece pieces (sym (ap (λ (x : Replayed). x.number) is-answer) ∙ passes));
        }

  -- ---- the log ends
  pub log-ends : (s : List ℕ) (r : Replayed) (after : List ℕ) → s ≡ left_in c → r ≡ replayed_of (replay_answer table s true) → after ≡ (replay_answer table s true).table.bans
      → replay_in (placed r c.at) after ≡ comes_to c bans []
  log-ends s r after left is lists =
      ap (λ (x : Replayed). replay_in (placed x c.at) after) is
      ∙ ap (λ (l : List ℕ). replay_in (placed (replayed_of (replay_answer table s true)) c.at) l) lists
      ∙ ap (λ (l : List ℕ). placed_at c.at (replay_answer table l true)) left
      ∙ sym (over-ends replay_answer table c.at (left_in c))
