-- A day with an SJOIN that is accepted, a line that is refused, and a link that is registered and dropped, and what the day theorem says of its log; and logs that stop
-- a replay, by a record that is refused and by a fault. Assumes nothing.
use Prim.Native.Nat.{ℕ, ◌+◌}
use mathlib.Core.Path.{◌≡◌, refl, sym, ap, ap₂, ◌∙◌}
use mathlib.Core.Bool.{true, false, not}
use mathlib.Core.List.{List, [], ◌∷◌, ◌++◌}
use mathlib.Core.Option.{some, none}
use native.Mathlib.Omega.{arith}
use lib.ListN.{length}
use borrow.Author.Tests.{lt-ltb}
use Rattle.refusal.specs.Numbers.{accepted, empty_prefix, no_mark}
use Rattle.refusal.specs.Rules.{first_of}
use Rattle.refusal.proofs.Rules.{skip, first-nil}
use Rattle.laws.specs.Bits.{has_bit}
use Rattle.laws.specs.Lists.{all, same_by, starts_with}
use Rattle.octets.specs.Bytes.{is_plain}
use Rattle.message.specs.Grammar.{line_limit, word, prefix}
use Rattle.message.specs.Reading.{ends_line, body_of, body_rules, line_rules, message_of}
use Rattle.sjoin.proofs.Answers.{place_none}
use Rattle.channel.proofs.Examples.{stored}
use Rattle.links.specs.declared.Links.{Links}
use Rattle.links.specs.Links.{has_link, no_links, all_links, with_link, without_link}
use Rattle.links.proofs.Sets.{has-with, has_all}
use Rattle.table.specs.Network.{Table, Network, network_of, table_of, empty_network}
use Rattle.table.specs.Table.{good_table, empty_table, Relinked, register_answer, unregister_answer}
use Rattle.table.proofs.Alone.{free-good}
use Rattle.table.proofs.Registering.{links-changed}
use Rattle.relay.specs.Arrival.{arrival}
use Rattle.relay.specs.Relay.{taken_rules, entering_rules, process_rules, Outcome, refused, process_answer}
use Rattle.relay.proofs.Taking.{answer-number, from-four}
use Rattle.relay.proofs.Answering.{answer-accepted, answer-refused}
use Rattle.refusal.specs.Faults.{fault}
use Rattle.journal.specs.Reading.{Entry, entry, bytes_of, written_log, size_of_all, is_other, Faulty, found_by, found}
use Rattle.journal.specs.Division.{Loggable}
use Rattle.journal.proofs.Checks.{NoSecond, decides}
use Rattle.journal.proofs.Found.{found-by}
use Rattle.journal.proofs.Logs.{written-size}
use Rattle.replay.specs.Replay.{Replay, ready_table, replay_of, replayed}
use Rattle.replay.specs.Day.{Call, Take, Register, Drop, table_by, logged_by, table_after, logged_in, day_log}
use Rattle.replay.proofs.Days.{logged-first, after_first, no_call, accepted-logged, refused-unlogged, day-replayed}
use Rattle.replay.proofs.Records.{replay-first, AllTaken, left_by}
use Rattle.replay.proofs.Stops.{replay-refused, replay-faulty}
use Rattle.replay.proofs.Examples.{opening, unread, opening-command, opening-good, opening-tells, alone, first-accepted, first-network, step, holding, holding-good, opening-first}

-- ---- the day: no link is registered when it begins
abbrev day : List Call
day = Register 7 ∷ Take (arrival 7 opening) line_limit ∷ Take (arrival 7 unread) line_limit ∷ Drop 7 ∷ []

-- link 7 is registered
abbrev seventh : Links
seventh = with_link no_links 7

abbrev begun : Table
begun = table_of empty_network seventh

registered : register_answer empty_table 7 ≡ record { number = accepted; table = begun }
unfolding empty_table
registered = links-changed empty_table 7 seventh (free-good empty_table refl) (omega arith)

on-seventh : has_link seventh.set 7 ≡ true
unfolding has_bit
on-seventh = has-with no_links 7 7

-- `opening` is accepted: the first slot holds its channel
abbrev met : Table
met = table_of (alone stored) seventh

opening-none : first_of (process_rules begun (arrival 7 opening) line_limit) ≡ accepted
opening-none = first-accepted begun refl 7 on-seventh opening opening-command opening-good

opening-meets : ((process_answer begun (arrival 7 opening) line_limit).number ≡ accepted) × ((process_answer begun (arrival 7 opening) line_limit).table ≡ met)
opening-meets = (
  answer-number begun (arrival 7 opening) line_limit ∙ opening-none,
  ap (λ (o : Outcome). o.table) (answer-accepted begun (arrival 7 opening) line_limit opening-none)
      ∙ ap (λ (n : Network). table_of n seventh) (first-network begun refl 7 on-seventh opening opening-command opening-good ∙ ap alone opening-tells),
)

-- `unread` is refused by any network, for its empty prefix
unread-number : (n : Network) (link : ℕ) → first_of (taken_rules n (arrival link unread)) ≡ empty_prefix
unfolding unread taken_rules line_rules body_rules first_of ends_line same_by body_of all is_plain starts_with prefix word
unread-number n link = refl

held-good : good_table (holding stored) ≡ true
held-good = holding-good opening stored opening-command opening-good opening-tells

-- by any registered link, where the first slot holds the channel
unread-refused : (links : Links) (link : ℕ) → has_link links.set link ≡ true
    → process_answer (table_of (alone stored) links) (arrival link unread) line_limit ≡ refused (table_of (alone stored) links) empty_prefix 0
unread-refused links link on =
    let t : Table = table_of (alone stored) links in
    let enters : first_of (entering_rules t (arrival link unread) line_limit) ≡ accepted = skip _ _ (ap not held-good) ∙ skip _ _ refl ∙ skip _ _ (ap not on) ∙ first-nil in
    let number = sym (answer-number t (arrival link unread) line_limit) ∙ (from-four t (arrival link unread) line_limit enters).0 ∙ unread-number (alone stored) link in
    sym (answer-refused t (arrival link unread) line_limit empty_prefix number (λ z. omega (arith, z))) ∙ ap (refused t empty_prefix) (place_none empty_prefix unread (message_of unread) refl)

-- link 7 is dropped
dropped : unregister_answer met 7 ≡ record { number = accepted; table = table_of (alone stored) (without_link seventh 7) }
dropped = links-changed met 7 (without_link seventh 7) held-good (omega arith)

-- ---- its log, and the network after it
module _ (t : Table) (c : Call) (es : List Entry) (u : Table) (logged : logged_by t c ≡ es) (is : table_by t c ≡ u) (cs : List Call) where
  then : (fs : List Entry) (n : Network) → (logged_in u cs ≡ fs) × (network_of (table_after u cs) ≡ n) → (logged_in t (c ∷ cs) ≡ es ++ fs) × (network_of (table_after t (c ∷ cs)) ≡ n)
  then fs n rest = (logged-first t c cs u is es logged ∙ ap (λ (l : List Entry). es ++ l) rest.0, ap (λ (x : Table). network_of x) (after_first t c cs u is) ∙ rest.1)

-- the SJOIN is logged, and its channel is there
day-comes-to : (logged_in empty_table day ≡ entry 7 opening ∷ []) × (network_of (table_after empty_table day) ≡ alone stored)
unfolding table_by logged_by
day-comes-to =
    let refuses = unread-refused seventh 7 on-seventh in
    let number : (process_answer met (arrival 7 unread) line_limit).number ≡ empty_prefix = ap (λ (o : Outcome). o.number) refuses in
    let gone : Table = table_of (alone stored) (without_link seventh 7) in
    let end = no_call gone in
    then empty_table (Register 7) [] begun refl (ap (λ (r : Relinked). r.table) registered) _ _ _
    (then begun (Take (arrival 7 opening) line_limit) (entry 7 opening ∷ []) met (accepted-logged begun (arrival 7 opening) line_limit opening-meets.0) opening-meets.1 _ _ _
    (then met (Take (arrival 7 unread) line_limit) [] met
    (refused-unlogged met (arrival 7 unread) line_limit empty_prefix number (λ z. omega (arith, z))) (ap (λ (o : Outcome). o.table) refuses) _ _ _
    (then met (Drop 7) [] gone refl (ap (λ (r : Relinked). r.table) dropped) _ _ _ (end.0, ap (λ (x : Table). network_of x) end.1))))

log-length : (link : ℕ) → length (written_log (entry link opening ∷ [])) ≡ 47
unfolding size_of_all opening
log-length link = written-size (entry link opening ∷ [])

-- by the day theorem all of its 47 bytes are taken, and the channel is there again, with all links
day-restored : replayed (day_log empty_table day) ≡ record { table = holding stored; used = 47; number = accepted; place = 0 }
unfolding empty_table
day-restored =
    day-replayed empty_table day refl
    ∙ ap₂ (λ (n : Network) (k : ℕ). record { table = table_of n all_links; used = k; number = accepted; place = 0 }) day-comes-to.1
    (ap (λ (es : List Entry). length (written_log es)) day-comes-to.0 ∙ log-length 7)

-- ---- a log that stops the replay
-- `opening` is taken
abbrev first : List Entry
first = entry 3 opening ∷ []

one-taken : replay_of ready_table 0 first none ≡ record { table = holding stored; used = 47; number = accepted; place = 0 }
unfolding replay_of opening
one-taken = replay-first ready_table 0 (entry 3 opening) [] none opening-first.0 ∙ rw opening-first.1

all-taken : AllTaken ready_table 0 first
all-taken = ap (λ (r : Replay). r.number) one-taken

-- `unread` behind it is refused: so at byte 47 with the number 8, whatever stands behind it
unread-loggable : Loggable (entry 3 unread)
unfolding unread
unread-loggable = record { link = refl; short = omega arith }

unread-there : (step (left_by ready_table 0 first) unread).number ≡ empty_prefix
unread-there = ap (λ (r : Replay). (step r.table unread).number) one-taken ∙ ap (λ (o : Outcome). o.number) (unread-refused all_links 3 (has_all 3))

stops-refused : (more : List ℕ) → replayed (written_log first ++ (bytes_of (entry 3 unread) ++ more)) ≡ record { table = holding stored; used = 47; number = empty_prefix; place = 47 }
stops-refused more =
    replay-refused first all-taken (entry 3 unread) more empty_prefix unread-loggable unread-there (λ z. omega (arith, z))
    ∙ ap₂ (λ (r : Replay) (k : ℕ). record { table = r.table; used = k; number = empty_prefix; place = k }) one-taken (log-length 3)

-- a line behind it that isn't a record has no mark, at its second byte
no_record : (more : List ℕ) → found (73 ∷ 10 ∷ more) ≡ Faulty (fault no_mark 1)
no_record more =
    let s : List ℕ = 73 ∷ 10 ∷ more in
    let there : is_other s 0 73 ≡ false = rw (lt-ltb 0 (length s) (omega arith)) in
    let other : is_other s 1 82 ≡ true = rw (lt-ltb 1 (length s) (omega arith)) in
    found-by s (omega arith) ∙ ap (found_by s) (decides s (some (fault no_mark 1)) (NoSecond there other refl))

stops-faulty : (more : List ℕ) → replayed (written_log first ++ (73 ∷ 10 ∷ more)) ≡ record { table = holding stored; used = 47; number = no_mark; place = 48 }
stops-faulty more =
    replay-faulty first all-taken (73 ∷ 10 ∷ more) (fault no_mark 1) (no_record more)
    ∙ ap₂ (λ (r : Replay) (k : ℕ). record { table = r.table; used = k; number = no_mark; place = k + 1 }) one-taken (log-length 3)
