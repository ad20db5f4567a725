-- Where a replay stops: behind records that are all taken, a record that the relay refuses stops it with the relay's number and the record's place, and a fault of the
-- log with its own; what stood before is given, and what stands behind isn't looked at. Any number of a replay is a listed one. Assumes nothing.
use Prim.Native.Nat.{ℕ, ◌+◌}
use mathlib.Core.Path.{◌≡◌, refl, sym, ap, ◌∙◌}
use mathlib.Core.Bool.{Bool, true, false, cond}
use mathlib.Core.Logic.{◌⊎◌, inl, inr}
use mathlib.Core.List.{List, [], ◌∷◌, ◌++◌, Memᴰ}
use mathlib.Core.Option.{Option, some, none}
use native.Mathlib.Omega.{arith}
use lib.ListN.{length, drop}
use lib.Dec.{eqb}
use borrow.Author.Tests.{eqb-false}
use Rattle.refusal.specs.Numbers.{accepted, order, log_order}
use Rattle.refusal.proofs.Rules.{first-listed}
use Rattle.message.specs.Grammar.{line_limit}
use Rattle.table.specs.Network.{Table}
use Rattle.relay.specs.Arrival.{Arrival, arrival}
use Rattle.relay.specs.Relay.{process_rules}
use Rattle.relay.proofs.Taking.{answer-number, rules-ascend}
use Rattle.relay.proofs.Answering.{accepted-line}
use Rattle.journal.specs.Reading.{Entry, bytes_of, size_of, written_log, size_of_all, Fault, Faulty, found, Log, log_from, log_of}
use Rattle.journal.specs.Pieces.{fault_if}
use Rattle.journal.specs.Division.{Loggable, AllLoggable}
use Rattle.journal.proofs.Found.{found-record}
use Rattle.journal.proofs.Logs.{log-faulty, log-whole, log-listed, log-written, written-size}
use Rattle.journal.proofs.Pieces.{fault-kept}
use Rattle.replay.specs.Replay.{ready_table, taking, ended, stopped, replay_of, replayed, replay_answer}
use Rattle.replay.proofs.Records.{replay-stops, AllTaken, left_by, taken-first, taken-others, replay-behind}

-- ---- records that are all taken
-- a record that is taken can be logged
taken-loggable : (t : Table) (e : Entry) → (taking t e).number ≡ accepted → Loggable e
taken-loggable t e is =
    let line = accepted-line t (arrival e.link e.line) line_limit (sym (answer-number t (arrival e.link e.line) line_limit) ∙ is) in
    record { link = line.0; short = line.1 }

-- so they all can
all-loggable : (t : Table) (at : ℕ) (es : List Entry) → AllTaken t at es → AllLoggable es
all-loggable t at [] all = tt
all-loggable t at (e ∷ es) all = (taken-loggable t e (taken-first t at e es all), all-loggable (taking t e).table (at + size_of e) es (taken-others t at e es all))

-- ---- a log that begins with them
module _ (es : List Entry) (all : AllTaken ready_table 0 es) where
  -- the table that they leave, and the place behind them
  abbrev so_far : Table
  so_far = left_by ready_table 0 es

  abbrev behind-them : ℕ
  behind-them = length (written_log es)

  written_behind : (more : List ℕ) → replayed (written_log es ++ more) ≡ replay_of so_far behind-them (log_from behind-them more).entries (log_from behind-them more).fault
  written_behind more =
      ap (λ (l : Log). replay_of ready_table 0 l.entries l.fault) (log-written es more 0 (all-loggable ready_table 0 es all))
      ∙ replay-behind ready_table 0 es (log_from (0 + size_of_all es) more).entries (log_from (0 + size_of_all es) more).fault all
      ∙ ap (λ (k : ℕ). replay_of so_far k (log_from k more).entries (log_from k more).fault) {x = 0 + size_of_all es} {y = behind-them} (omega (arith, written-size es))

  -- A record behind them that the relay refuses: the table that they leave, its number, and the record's place, whatever stands behind.
  pub replay-refused : (e : Entry) (more : List ℕ) (k : ℕ) → Loggable e → (taking so_far e).number ≡ k → (k ≡ accepted → ⊥)
      → replayed (written_log es ++ (bytes_of e ++ more)) ≡ stopped so_far behind-them k
  replay-refused e more k can is ne =
      let s : List ℕ = bytes_of e ++ more in
      let rest : Log = log_from (behind-them + size_of e) (drop (size_of e) s) in
      written_behind s
      ∙ ap (λ (l : Log). replay_of so_far behind-them l.entries l.fault) (log-whole behind-them s e (found-record e.link e.line more can.link can.short))
      ∙ replay-stops so_far behind-them e rest.entries rest.fault k is ne

  -- Bytes behind them that are at fault: the table that they leave, the fault's number, and its place.
  pub replay-faulty : (s : List ℕ) (f : Fault) → found s ≡ Faulty f
      → replayed (written_log es ++ s) ≡ record { table = so_far; used = behind-them; number = f.number; place = behind-them + f.place }
  unfolding replay_of
  replay-faulty s f is = written_behind s ∙ ap (λ (l : Log). replay_of so_far behind-them l.entries l.fault) (log-faulty behind-them s f is)

-- ---- the number
-- none; or the relay's, from its list; or the log reader's, from its own
abbrev pub Listed : ℕ → Type 0
Listed number = (number ≡ accepted) ⊎ (Memᴰ number order ⊎ Memᴰ number log_order)

-- of some records, and a fault whose number is the log reader's
listed-from : (fault : Option Fault) → ((f : Fault) → fault ≡ some f → Memᴰ f.number log_order) → (t : Table) (at : ℕ) (es : List Entry) → Listed (replay_of t at es fault).number
unfolding replay_of
listed-from fault own t at [] = go fault own
  where
    go : (o : Option Fault) → ((f : Fault) → o ≡ some f → Memᴰ f.number log_order) → Listed (ended t at o).number
    go none h = inl refl
    go (some f) h = inr (inr (h f refl))
listed-from fault own t at (e ∷ es) = go (eqb (taking t e).number accepted) refl (listed-from fault own (taking t e).table (at + size_of e) es)
  where
    go : (b : Bool) → eqb (taking t e).number accepted ≡ b → Listed (replay_of (taking t e).table (at + size_of e) es fault).number
        → Listed (cond (eqb (taking t e).number accepted) (replay_of (taking t e).table (at + size_of e) es fault) (stopped t at (taking t e).number)).number
    go true is ih = rw is ih
    go false is ih =
        let a : Arrival = arrival e.link e.line in
        let ne = eqb-false (taking t e).number accepted is in
        rw is
        (inr
        (inl (rw (answer-number t a line_limit) (first-listed (process_rules t a line_limit) (rules-ascend t a line_limit) (λ z. ne (answer-number t a line_limit ∙ z))))))

-- The number that a replay of a log answers.
pub replay-listed : (log : List ℕ) → Listed (replayed log).number
replay-listed log = listed-from (log_of log).fault (log-listed 0 log) ready_table 0 (log_of log).entries

-- That of a piece of one, with any table.
pub piece-listed : (t : Table) (s : List ℕ) (last : Bool) → Listed (replay_answer t s last).number
unfolding replay_answer
piece-listed t s last = listed-from (fault_if last (log_of s).fault) (λ f given. log-listed 0 s f (fault-kept last (log_of s).fault f given)) t 0 (log_of s).entries
