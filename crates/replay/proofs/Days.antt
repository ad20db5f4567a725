-- The day theorem: the log of a day that began with free slots is replayed to its end, and gives the network after the day, whatever links were registered and
-- dropped. True since a line that was accepted is accepted by any table that holds the same network and has its link. Assumes nothing.
use Prim.Native.Nat.{ℕ, ◌+◌}
use mathlib.Core.Path.{◌≡◌, refl, sym, ap, ap₂, ◌∙◌}
use mathlib.Core.Bool.{Bool, true, false}
use mathlib.Core.List.{List, [], ◌∷◌, ◌++◌}
use mathlib.Core.Option.{none}
use native.Mathlib.Omega.{arith}
use lib.ListN.{length}
use lib.Dec.{eqb}
use borrow.Author.Tests.{ne_eqb, eqb-true, eqb-false}
use Rattle.refusal.specs.Numbers.{accepted}
use Rattle.refusal.specs.Rules.{first_of}
use Rattle.message.specs.Grammar.{line_limit}
use Rattle.links.specs.Links.{all_links}
use Rattle.links.proofs.Sets.{has_all}
use Rattle.table.specs.Network.{Table, Network, network_of, table_of, empty_network}
use Rattle.table.proofs.Registering.{register-network, unregister-network}
use Rattle.relay.specs.Arrival.{Arrival}
use Rattle.relay.specs.Relay.{Outcome, process_rules, process_answer}
use Rattle.relay.proofs.Taking.{answer-number}
use Rattle.relay.proofs.Answering.{answer-refused, accepted-line, accepted-alike, answer-accepted}
use Rattle.journal.specs.Reading.{Entry, entry, size_of, size_of_all, Log}
use Rattle.journal.specs.Division.{Loggable, AllLoggable}
use Rattle.journal.proofs.Logs.{written-size, reads-back}
use Rattle.replay.specs.Replay.{Replay, ready_table, taking, replay_of, replayed}
use Rattle.replay.specs.Day.{Call, Take, Register, Drop, table_by, logged_by, table_after, logged_in, day_log, Restores}

-- the network of a table, with all links registered
abbrev ready : Table → Table
ready t = table_of (network_of t) all_links

-- ---- a call
-- What is logged of a call: a record that can be logged, and that is taken with all links as the call was; or nothing, and then the network stays.
data Logs (t : Table) (c : Call) : Type 0 where
  Logged : (e : Entry) → logged_by t c ≡ e ∷ [] → Loggable e → (taking (ready t) e).number ≡ accepted → (taking (ready t) e).table ≡ ready (table_by t c) → Logs t c
  Unlogged : logged_by t c ≡ [] → network_of (table_by t c) ≡ network_of t → Logs t c

logs : (t : Table) (c : Call) → Logs t c
unfolding logged_by table_by
logs t (Register link) = Unlogged refl (register-network t link)
logs t (Drop link) = Unlogged refl (unregister-network t link)
logs t (Take a n) = go (eqb (process_answer t a n).number accepted) refl
  where
    go : (b : Bool) → eqb (process_answer t a n).number accepted ≡ b → Logs t (Take a n)
    go true is =
        let none = sym (answer-number t a n) ∙ eqb-true (process_answer t a n).number accepted is in
        let line = accepted-line t a n none in
        let again = accepted-alike t a n none (ready t) line_limit refl (has_all a.link ∙ line.0) (omega arith) in
        Logged (entry a.link a.line) (rw is) (record { link = line.0; short = line.1 })
        (ap (λ (o : Outcome). o.number) (answer-accepted (ready t) a line_limit again))
        (ap (λ (o : Outcome). o.table) (answer-accepted (ready t) a line_limit again) ∙ ap (λ (o : Outcome). ready o.table) (sym (answer-accepted t a n none)))
    go false is =
        let ne : first_of (process_rules t a n) ≡ accepted → ⊥ = λ z. eqb-false (process_answer t a n).number accepted is (answer-number t a n ∙ z) in
        Unlogged (rw is) (ap (λ (o : Outcome). network_of o.table) (sym (answer-refused t a n (first_of (process_rules t a n)) refl ne)))

-- ---- a day, by its first call
module _ (t : Table) (c : Call) (cs : List Call) (u : Table) (is : table_by t c ≡ u) where
  -- what is logged of the call, and then what is logged from the table after it on
  pub logged-first : (es : List Entry) → logged_by t c ≡ es → logged_in t (c ∷ cs) ≡ es ++ logged_in u cs
  unfolding logged_in
  logged-first es e = ap₂ (λ (l : List Entry) (x : Table). l ++ logged_in x cs) e is

  -- so it is with the table after the day
  pub after_first : table_after t (c ∷ cs) ≡ table_after u cs
  unfolding table_after
  after_first = ap (λ (x : Table). table_after x cs) is

-- a day without a call
pub no_call : (t : Table) → (logged_in t [] ≡ []) × (table_after t [] ≡ t)
unfolding logged_in table_after
no_call t = (refl, refl)

-- an accepted line is logged
pub accepted-logged : (t : Table) (a : Arrival) (n : ℕ) → (process_answer t a n).number ≡ accepted → logged_by t (Take a n) ≡ entry a.link a.line ∷ []
unfolding logged_by
accepted-logged t a n is = rw is

-- one that is refused isn't
pub refused-unlogged : (t : Table) (a : Arrival) (n k : ℕ) → (process_answer t a n).number ≡ k → (k ≡ accepted → ⊥) → logged_by t (Take a n) ≡ []
unfolding logged_by
refused-unlogged t a n k is ne = rw (is, ne_eqb k accepted ne)

-- ---- the records of a day
-- every one of them can be logged
pub day-loggable : (t : Table) (cs : List Call) → AllLoggable (logged_in t cs)
unfolding logged_in
day-loggable t [] = tt
day-loggable t (c ∷ cs) = go (logs t c) (day-loggable (table_by t c) cs)
  where
    go : Logs t c → AllLoggable (logged_in (table_by t c) cs) → AllLoggable (logged_by t c ++ logged_in (table_by t c) cs)
    go (Logged e is can n k) rest = rw is (can, rest)
    go (Unlogged is stays) rest = rw is rest

-- what they come to, from a place on, with the network that it began with and all links: all are taken
abbrev restored : Table → List Call → ℕ → Replay
restored t cs at = record { table = ready (table_after t cs); used = at + size_of_all (logged_in t cs); number = accepted; place = 0 }

records-replayed : (t : Table) (cs : List Call) (at : ℕ) → replay_of (ready t) at (logged_in t cs) none ≡ restored t cs at
unfolding replay_of logged_in table_after size_of_all
records-replayed t [] at = ap (λ (n : ℕ). record { table = ready t; used = n; number = accepted; place = 0 }) {x = at} {y = at + 0} (omega arith)
records-replayed t (c ∷ cs) at = go (logs t c) (records-replayed (table_by t c) cs)
  where
    go : Logs t c → ((k : ℕ) → replay_of (ready (table_by t c)) k (logged_in (table_by t c) cs) none ≡ restored (table_by t c) cs k)
        → replay_of (ready t) at (logged_by t c ++ logged_in (table_by t c) cs) none ≡ restored t (c ∷ cs) at
    go (Logged e is can n k) ih =
        let rest : List Entry = logged_in (table_by t c) cs in
        rw (is, n, k)
        (ih (at + size_of e)
        ∙ ap (λ (m : ℕ). record { table = ready (table_after t (c ∷ cs)); used = m; number = accepted; place = 0 }) {x = at + size_of e + size_of_all rest} {y = at + (size_of e + size_of_all rest)} (omega arith))
    go (Unlogged is stays) ih = rw is (ap (λ (x : Network). replay_of (table_of x all_links) at (logged_in (table_by t c) cs) none) (sym stays) ∙ ih at)

-- so they are, wherever they stand, and the network after the day is left
pub records-taken : (t : Table) (cs : List Call) (at : ℕ)
    → ((replay_of (table_of (network_of t) all_links) at (logged_in t cs) none).number ≡ accepted)
    × ((replay_of (table_of (network_of t) all_links) at (logged_in t cs) none).table ≡ table_of (network_of (table_after t cs)) all_links)
records-taken t cs at = (ap (λ (r : Replay). r.number) (records-replayed t cs at), ap (λ (r : Replay). r.table) (records-replayed t cs at))

-- ---- the log of a day
-- The log of any day that began with free slots, whatever its links: all of it is taken, and the table has the network after the day, and all links.
pub day-replayed : (t : Table) (cs : List Call) → network_of t ≡ empty_network
    → replayed (day_log t cs) ≡ record { table = table_of (network_of (table_after t cs)) all_links; used = length (day_log t cs); number = accepted; place = 0 }
unfolding ready_table
day-replayed t cs empty =
    ap (λ (l : Log). replay_of ready_table 0 l.entries l.fault) (reads-back (logged_in t cs) (day-loggable t cs))
    ∙ ap (λ (n : Network). replay_of (table_of n all_links) 0 (logged_in t cs) none) (sym empty)
    ∙ records-replayed t cs 0
    ∙ ap (λ (n : ℕ). record { table = ready (table_after t cs); used = n; number = accepted; place = 0 })
    {x = 0 + size_of_all (logged_in t cs)} {y = length (day_log t cs)} (omega (arith, written-size (logged_in t cs)))

-- So our replay restores any such day.
pub restores : Restores replayed
restores = record {
  number = λ t cs empty. ap (λ (r : Replay). r.number) (day-replayed t cs empty);
  network = λ t cs empty. ap (λ (r : Replay). network_of r.table) (day-replayed t cs empty);
}
