-- The table that a replay leaves, whatever the log: it is well formed, and all links are registered. Assumes nothing.
use Prim.Native.Nat.{ℕ, ◌+◌}
use mathlib.Core.Path.{◌≡◌, refl, sym, ap, ◌∙◌}
use mathlib.Core.Bool.{Bool, true, false}
use mathlib.Core.List.{List, [], ◌∷◌}
use mathlib.Core.Option.{Option, some, none}
use lib.Dec.{eqb}
use borrow.Author.Tests.{eqb-true, eqb-false}
use Rattle.refusal.specs.Numbers.{accepted}
use Rattle.message.specs.Grammar.{line_limit}
use Rattle.links.specs.Links.{all_links}
use Rattle.table.specs.Network.{Table, network_of}
use Rattle.table.specs.Table.{good_table}
use Rattle.table.proofs.Alone.{free-good}
use Rattle.relay.specs.Arrival.{Arrival, arrival}
use Rattle.relay.specs.Relay.{Outcome}
use Rattle.relay.proofs.Taking.{taken-good, answer-number}
use Rattle.relay.proofs.Answering.{passed, answer-accepted}
use Rattle.journal.specs.Reading.{Entry, size_of, Fault, log_of}
use Rattle.replay.specs.Replay.{ready_table, taking, replay_of, replayed}
use Rattle.replay.proofs.Steps.{refused-stays}

-- A table that is well formed, and has all links.
pub record Sound (t : Table) : Type 0 where
  pub good : good_table t ≡ true
  pub links : t.links ≡ all_links

-- a record, taken or refused, leaves it so
step-sound : (t : Table) (e : Entry) → Sound t → Sound (taking t e).table
step-sound t e s = go (eqb (taking t e).number accepted) refl
  where
    a : Arrival
    a = arrival e.link e.line

    go : (b : Bool) → eqb (taking t e).number accepted ≡ b → Sound (taking t e).table
    go true is =
        let none = sym (answer-number t a line_limit) ∙ eqb-true (taking t e).number accepted is in
        let after = ap (λ (o : Outcome). o.table) (answer-accepted t a line_limit none) in
        record {
          good = ap good_table after ∙ taken-good (network_of t) a (passed t a line_limit none).2 s.good;
          links = ap (λ (u : Table). u.links) after ∙ s.links;
        }
    go false is = rw (refused-stays t e (eqb-false (taking t e).number accepted is)) s

records-sound : (es : List Entry) (o : Option Fault) (t : Table) (at : ℕ) → Sound t → Sound (replay_of t at es o).table
unfolding replay_of
records-sound [] none t at s = s
records-sound [] (some f) t at s = s
records-sound (e ∷ es) o t at s = go (eqb (taking t e).number accepted) refl (records-sound es o (taking t e).table (at + size_of e) (step-sound t e s))
  where
    go : (b : Bool) → eqb (taking t e).number accepted ≡ b → Sound (replay_of (taking t e).table (at + size_of e) es o).table → Sound (replay_of t at (e ∷ es) o).table
    go true is rest = rw is rest
    go false is rest = rw is s

-- The replay of any log, damaged or not, leaves a well-formed table with all links.
pub replay-sound : (log : List ℕ) → Sound (replayed log).table
unfolding ready_table
replay-sound log = records-sound (log_of log).entries (log_of log).fault ready_table 0 (record { good = free-good ready_table refl; links = refl })
