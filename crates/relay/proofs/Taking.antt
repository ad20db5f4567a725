-- Taking a line, whatever its command: the network stays well formed, the line that goes out reads as its message and is no longer than the one read, and from
-- rule 4 on all depends on the network and the arrival alone. True since every command is lawful. Assumes nothing.
use Prim.Native.Nat.{ℕ}
use mathlib.Core.Path.{◌≡◌, refl, sym, ap, ◌∙◌}
use mathlib.Core.Bool.{Bool, true, false, true≢false, not, cond, ◌&&◌}
use mathlib.Core.Logic.{◌⊎◌, inl, inr}
use mathlib.Core.List.{map}
use lib.Dec.{eqb}
use borrow.Author.Tests.{eq-eqb, eqb-true, not-false}
use Rattle.refusal.specs.Numbers.{accepted}
use Rattle.refusal.specs.Rules.{first_of, emitted, ascend, ascend_from, place_in}
use Rattle.refusal.proofs.Rules.{both-none}
use Rattle.laws.specs.Lists.{same, same_by}
use Rattle.octets.specs.Bytes.{capital}
use Rattle.message.specs.Reading.{body_rules, line_rules, number_for, is_read}
use Rattle.message.proofs.Readings.{rules-numbered}
use Rattle.channel.specs.Record.{encode}
use Rattle.table.specs.Network.{Table, Network, network_of}
use Rattle.table.specs.Table.{good_network}
use Rattle.table.specs.Slots.{slot_in, place_of}
use Rattle.sjoin.specs.Join.{channel_in}
use Rattle.sjoin.proofs.Wellformed.{read-proper}
use Rattle.retelling.specs.Retelling.{Reads}
use Rattle.relay.specs.Arrival.{Arrival, said}
use Rattle.relay.specs.Sjoin.{resulting, joined}
use Rattle.relay.specs.Bmask.{bmask, is_later, masked}
use Rattle.relay.specs.Commands.{Command, Sjoin, Part, Quit, Bmask, Unknown, commands, meaning_of, command_in}
use Rattle.relay.specs.Relay.{meaning_in, taken_rules, network_by, goes_by, message_by, relayed, entering_rules, process_rules, process_answer, sent}
use Rattle.relay.proofs.Lawful.{Unrefused}
use Rattle.relay.proofs.Commands.{unknown-refused, lawful, word_of}
use Rattle.relay.proofs.Entering.{enters}
use Rattle.relay.proofs.Sjoin.{join-none}
use Rattle.relay.proofs.Results.{OneChanged, joined-one}

-- ---- a line that no rule refuses
module _ (n : Network) (a : Arrival) (none : first_of (taken_rules n a) ≡ accepted) where
  -- it is read, and none of its command's rules applies
  pub rules-none : (is_read a.line ≡ true) × (first_of ((meaning_in a).rules n a) ≡ accepted)
  unfolding taken_rules is_read number_for
  rules-none =
      let b = both-none ((meaning_in a).rules n a) (line_rules a.line) (rules-numbered a.line) none in
      (eq-eqb (first_of (line_rules a.line)) accepted b.0, b.1)

  -- its command is a known one, and has its word
  has_word : map capital (said a).command ≡ (meaning_in a).word
  has_word = go (word_of commands (map capital (said a).command))
    where
      go : (command_in a.line ≡ Unknown) ⊎ (map capital (said a).command ≡ (meaning_in a).word) → map capital (said a).command ≡ (meaning_in a).word
      go (inl e) = absurd (unknown-refused (ap (λ (k : Command). first_of ((meaning_of k).rules n a)) (sym e) ∙ rules-none.1))
      go (inr e) = e

  module _ (good : good_network n ≡ true) where
    -- so it is what the laws of commands ask for
    pub passes : Unrefused (meaning_in a) n a
    passes = record { good = good; read = rules-none.0; word = has_word; none = rules-none.1 }

    -- The network stays well formed.
    pub taken-good : good_network (network_by n a) ≡ true
    unfolding network_by
    taken-good = (lawful (command_in a.line)).keeps n a passes

    -- The line that goes out reads as its message, and is no longer than the line read. So no number comes of writing it.
    pub relayed-reads : Reads a.line (message_by n a)
    unfolding message_by
    relayed-reads = (lawful (command_in a.line)).reads n a passes

  -- It goes out, unless it is a BMASK that is later than its channel.
  pub goes-unless : goes_by n a ≡ not (same (map capital (said a).command) bmask && is_later n (said a))
  unfolding goes_by same_by
  goes-unless = rw has_word (go (command_in a.line))
    where
      go : (k : Command) → (meaning_of k).goes n a ≡ not (same (meaning_of k).word bmask && is_later n (said a))
      go Sjoin = refl
      go Part = refl
      go Quit = refl
      go Bmask = refl
      go Unknown = refl

-- A line that doesn't go out leaves the network as it is.
pub silent-stays : (n : Network) (a : Arrival) → goes_by n a ≡ false → network_by n a ≡ n
unfolding goes_by network_by masked
silent-stays n a e = go (command_in a.line) e
  where
    go : (k : Command) → (meaning_of k).goes n a ≡ false → (meaning_of k).after n a ≡ n
    go Sjoin s = absurd (true≢false s)
    go Part s = absurd (true≢false s)
    go Quit s = absurd (true≢false s)
    go Bmask s = rw (not-false (is_later n (said a)) s)
    go Unknown s = refl

-- ---- an SJOIN changes one slot
-- its channel is what comes into the network
pub network-joined : (n : Network) (a : Arrival) → command_in a.line ≡ Sjoin → network_by n a ≡ joined n (channel_in (said a))
unfolding network_by
network-joined n a is = ap (λ (k : Command). (meaning_of k).after n a) is

-- An SJOIN that no rule refuses changes the slot that its channel's name uses, and nothing else of the network but that slot's ban list, by an earlier time.
pub join_one : (n : Network) (a : Arrival) → good_network n ≡ true → command_in a.line ≡ Sjoin → first_of (taken_rules n a) ≡ accepted
    → OneChanged n (network_by n a) (channel_in (said a)) (place_of n.slots (slot_in n (channel_in (said a)).name)) (encode (resulting n (channel_in (said a))))
join_one n a good is none =
    let r = rules-none n a none in
    let j = join-none n a (rw is at r.1) in
    rw (network-joined n a is) (joined-one n good (channel_in (said a)) (read-proper a.line r.0 j.0) j.1)

-- ---- from rule 4 on
-- the network after, accepted or refused
abbrev pub network_then : Network → Arrival → Network
network_then n a = cond (eqb (first_of (taken_rules n a)) accepted) (network_by n a) n

module _ (t : Table) (a : Arrival) (n : ℕ) where
  -- the number answered is the first that applies
  pub answer-number : (process_answer t a n).number ≡ first_of (process_rules t a n)
  unfolding process_answer
  answer-number = go (eqb (first_of (process_rules t a n)) accepted) refl
    where
      go : (b : Bool) → eqb (first_of (process_rules t a n)) accepted ≡ b → (process_answer t a n).number ≡ first_of (process_rules t a n)
      go true e = rw e (sym (eqb-true (first_of (process_rules t a n)) accepted e))
      go false e = rw e

  answer-network : network_of (process_answer t a n).table ≡ cond (eqb (first_of (process_rules t a n)) accepted) (network_by (network_of t) a) (network_of t)
  unfolding process_answer
  answer-network = go (eqb (first_of (process_rules t a n)) accepted) refl
    where
      go : (b : Bool) → eqb (first_of (process_rules t a n)) accepted ≡ b
          → network_of (process_answer t a n).table ≡ cond (eqb (first_of (process_rules t a n)) accepted) (network_by (network_of t) a) (network_of t)
      go true e = rw e
      go false e = rw e

  -- Where none of the rules of table, output and link applies, the answer is that of the network and the arrival.
  pub from-four : first_of (entering_rules t a n) ≡ accepted
      → ((process_answer t a n).number ≡ first_of (taken_rules (network_of t) a))
      × (network_of (process_answer t a n).table ≡ network_then (network_of t) a)
      × (sent t a n ≡ emitted (taken_rules (network_of t) a) (relayed (network_of t) a))
  unfolding sent emitted
  from-four h =
      let e = enters t a n h in
      (answer-number ∙ e, answer-network ∙ rw e, rw e)

-- So two tables that hold the same network, where none of those rules applies in either, give an arrival one number, one network and one line, whatever else their
-- links are.
pub after-alone : (t u : Table) (a : Arrival) (n m : ℕ) → network_of t ≡ network_of u → first_of (entering_rules t a n) ≡ accepted → first_of (entering_rules u a m) ≡ accepted
    → ((process_answer t a n).number ≡ (process_answer u a m).number)
    × (network_of (process_answer t a n).table ≡ network_of (process_answer u a m).table)
    × (sent t a n ≡ sent u a m)
after-alone t u a n m e h k =
    let f = from-four t a n h in
    let g = from-four u a m k in (
      f.0 ∙ ap (λ (x : Network). first_of (taken_rules x a)) e ∙ sym g.0,
      f.1 ∙ ap (λ (x : Network). network_then x a) e ∙ sym g.1,
      f.2 ∙ ap (λ (x : Network). emitted (taken_rules x a) (relayed x a)) e ∙ sym g.2,
    )

-- ---- the rules stand in the order of their numbers: the first in it that applies is given
-- All rules of a line stand so.
pub rules-ascend : (t : Table) (a : Arrival) (n : ℕ) → ascend (process_rules t a n) ≡ true
unfolding ascend_from process_rules taken_rules line_rules body_rules place_in
rules-ascend t a n = (lawful (command_in a.line)).ordered (network_of t) a
