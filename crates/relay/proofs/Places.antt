-- The place that is answered with a number: 0 with any but one of modes, and with one of these where the fault of the modes is. True since only an SJOIN that is read gets
-- one of them. Assumes nothing.
use Prim.Native.Nat.{ℕ, ◌+◌, ◌≤◌}
use mathlib.Core.Path.{◌≡◌, refl, sym, ap, ◌∙◌}
use mathlib.Core.Bool.{Bool, true, false, true≢false}
use native.Mathlib.Omega.{arith}
use lib.ListN.{length}
use lib.Dec.{eqb}
use borrow.Author.Tests.{eqb-true, eqb-false}
use Rattle.refusal.specs.Numbers.{accepted, is_mode_number}
use Rattle.refusal.specs.Rules.{first_of}
use Rattle.refusal.proofs.Rules.{first_plain}
use Rattle.refusal.proofs.Faults.{given-among}
use Rattle.message.specs.Grammar.{line_limit}
use Rattle.message.specs.Content.{Content}
use Rattle.message.specs.Reading.{is_read, message_of}
use Rattle.message.proofs.Readings.{read_small}
use Rattle.message.proofs.SpanContents.{message-holds}
use Rattle.table.specs.Network.{Table, Network, network_of}
use Rattle.sjoin.specs.Faults.{modes_checks, fault_at}
use Rattle.sjoin.specs.Join.{modes_in, arguments_in, join_rules, fault_in, line_place}
use Rattle.sjoin.proofs.Faults.{mode-some}
use Rattle.sjoin.proofs.Judged.{faulty}
use Rattle.sjoin.proofs.Answers.{place_none, place-some, reader-plain}
use Rattle.sjoin.proofs.Places.{located}
use Rattle.relay.specs.Arrival.{Arrival, said}
use Rattle.relay.specs.Commands.{Command, Sjoin, meaning_of, command_in}
use Rattle.relay.specs.Relay.{meaning_in, taken_rules, entering_rules, process_rules, process_answer}
use Rattle.relay.specs.Places.{PointsAt, Points}
use Rattle.relay.specs.Private.Commands.{work_of}
use Rattle.relay.proofs.Commands.{lawful}
use Rattle.relay.proofs.Entering.{entry-refuses, enters, reader-refuses, command-decides}
use Rattle.relay.proofs.Taking.{answer-number}

-- ---- a line that gets a number of modes is an SJOIN that is read
module _ (n : Network) (a : Arrival) where
  -- its message gets it by itself
  own-number : (k : Command) → is_mode_number (first_of ((meaning_of k).rules n a)) ≡ true → is_mode_number (first_of ((work_of k).own (said a))) ≡ true
  own-number k e = go (is_mode_number (first_of ((work_of k).own (said a)))) refl
    where
      go : (t : Bool) → is_mode_number (first_of ((work_of k).own (said a))) ≡ t → is_mode_number (first_of ((work_of k).own (said a))) ≡ true
      go true f = f
      go false f = absurd (true≢false (sym e ∙ (lawful k).plain n a f))

  -- so it is an SJOIN
  pub modes-join : (k : Command) → is_mode_number (first_of ((meaning_of k).rules n a)) ≡ true → k ≡ Sjoin
  modes-join k e = (lawful k).modes (said a) (own-number k e)

  -- whose rules give it
  join-number : is_mode_number (first_of ((meaning_of Sjoin).rules n a)) ≡ true
      → (is_mode_number (first_of (join_rules (said a))) ≡ true) × (first_of ((meaning_of Sjoin).rules n a) ≡ first_of (join_rules (said a)))
  join-number e =
      let own : is_mode_number (first_of (join_rules (said a))) ≡ true = own-number Sjoin e in
      (own, (lawful Sjoin).first n a (mode-some (first_of (join_rules (said a))) own))

module _ (t : Table) (a : Arrival) (n : ℕ) where
  -- the place that is answered goes with the number
  pub place_is : (process_answer t a n).place ≡ line_place (process_answer t a n).number a.line
  unfolding process_answer
  place_is = go (eqb (first_of (process_rules t a n)) accepted) refl
    where
      go : (b : Bool) → eqb (first_of (process_rules t a n)) accepted ≡ b → (process_answer t a n).place ≡ line_place (process_answer t a n).number a.line
      go true e = rw e (sym (place_none accepted a.line (message_of a.line) refl))
      go false e = rw e

  -- With any other number, and with none, it is 0.
  pub place-plain : is_mode_number (process_answer t a n).number ≡ false → (process_answer t a n).place ≡ 0
  place-plain p = place_is ∙ place_none (process_answer t a n).number a.line (message_of a.line) p

  module _ (is : is_mode_number (process_answer t a n).number ≡ true) where
    ruled : is_mode_number (first_of (process_rules t a n)) ≡ true
    ruled = ap is_mode_number (sym (answer-number t a n)) ∙ is

    entered : first_of (entering_rules t a n) ≡ accepted
    entered = go (eqb (first_of (entering_rules t a n)) accepted) refl
      where
        go : (b : Bool) → eqb (first_of (entering_rules t a n)) accepted ≡ b → first_of (entering_rules t a n) ≡ accepted
        go true e = eqb-true (first_of (entering_rules t a n)) accepted e
        go false e = absurd (true≢false (sym ruled ∙ ap is_mode_number (entry-refuses t a n (eqb-false (first_of (entering_rules t a n)) accepted e)) ∙ first_plain (entering_rules t a n) refl))

    taken : is_mode_number (first_of (taken_rules (network_of t) a)) ≡ true
    taken = ap is_mode_number (sym (enters t a n entered)) ∙ ruled

    reads : is_read a.line ≡ true
    reads = go (is_read a.line) refl
      where
        go : (b : Bool) → is_read a.line ≡ b → is_read a.line ≡ true
        go true e = e
        go false e = absurd (true≢false (sym taken ∙ ap is_mode_number (reader-refuses a e (network_of t)) ∙ reader-plain a.line))

    decides : first_of (process_rules t a n) ≡ first_of ((meaning_in a).rules (network_of t) a)
    decides = enters t a n entered ∙ command-decides a reads (network_of t)

    joins : first_of (process_rules t a n) ≡ first_of ((meaning_of Sjoin).rules (network_of t) a)
    joins =
        let is = modes-join (network_of t) a (command_in a.line) (sym (ap is_mode_number decides) ∙ ruled) in
        decides ∙ ap (λ (k : Command). first_of ((meaning_of k).rules (network_of t) a)) is

    -- So its modes have a fault, and the answer points at it.
    pub points-at : PointsAt a (process_answer t a n)
    points-at =
        let own = join-number (network_of t) a (sym (ap is_mode_number joins) ∙ ruled) in
        let f = faulty (said a) own.0 in
        let n' = length a.line in
        record {
          fault = f.fault;
          given = f.given;
          number = answer-number t a n ∙ joins ∙ own.1 ∙ f.number;
          place =
              place_is
              ∙ place-some (process_answer t a n).number a.line (message_of a.line) is
              ∙ ap (λ (c : Content). fault_at n' (message_of a.line) (fault_in c)) (message-holds a.line)
              ∙ ap (fault_at n' (message_of a.line)) f.given;
          located = located a.line reads f.count;
        }

    pub place_inside : (1 ≤ (process_answer t a n).place) × ((process_answer t a n).place + 2 ≤ length a.line)
    place_inside =
        let p = points-at in
        let i = p.located.inside p.fault (given-among (modes_checks (modes_in (said a)) (arguments_in (said a))) p.fault p.given) in
        (omega (arith, i.0, p.place), omega (arith, i.1, p.place))

  -- The place that is answered is as claimed.
  pub points : Points t a n
  points = record { plain = place-plain; inside = place_inside; at = points-at }

  -- A place that isn't 0 is in a line that is read, before CR LF or just at that.
  pub answer-place : ((process_answer t a n).place ≡ 0 → ⊥) → (length a.line ≤ line_limit) × ((process_answer t a n).place + 2 ≤ length a.line)
  answer-place some = go (is_mode_number (process_answer t a n).number) refl
    where
      go : (b : Bool) → is_mode_number (process_answer t a n).number ≡ b → (length a.line ≤ line_limit) × ((process_answer t a n).place + 2 ≤ length a.line)
      go true e = (read_small a.line (reads e), (place_inside e).1)
      go false e = absurd (some (place-plain e))
