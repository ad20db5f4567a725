-- How a line's answer follows from what its steps answer: each refusal is that of the first rule that applies, and where there is none the change is made. Assumes
-- nothing.
use mathlib.Core.Path.{◌≡◌, refl, sym, ap, ◌∙◌}
use mathlib.Core.Bool.{true, false}
use mathlib.Core.List.{List}
use Prim.Native.Nat.{ℕ, ◌<◌}
use lib.ListN.{length}
use borrow.Author.Tests.{eq-eqb, ne_eqb}
use Rattle.std.specs.Prelude.{Result, Ok, Err}
use Rattle.refusal.specs.Numbers.{accepted, is_mode_number}
use Rattle.refusal.specs.Rules.{first_of}
use Rattle.refusal.specs.Faults.{fault}
use Rattle.refusal.specs.Refusals.{number_of, unplaced}
use Rattle.refusal.specs.declared.Fault.{Fault}
use Rattle.refusal.specs.declared.Refusal.{Refusal}
use Rattle.refusal.proofs.Refusals.{number-given}
use Rattle.refusal.proofs.Rules.{first_plain}
use Rattle.octets.specs.Room.{front}
use Rattle.message.specs.declared.Message.{Message}
use Rattle.message.specs.Parts.{content_by}
use Rattle.message.specs.Reading.{Parsed, number_for, is_read, message_of, parsed_of, parsed_as}
use Rattle.message.proofs.SpanContents.{message-holds}
use Rattle.channel.specs.Limits.{slot_count}
use Rattle.table.specs.declared.Head.{Head}
use Rattle.table.specs.Network.{Table, head_of, network_of}
use Rattle.table.specs.Table.{good_table}
use Rattle.sjoin.specs.Join.{line_place}
use Rattle.sjoin.proofs.Answers.{place_none, reader-plain}
use Rattle.relay.specs.declared.Change.{Change}
use Rattle.relay.specs.declared.Relayed.{Relayed}
use Rattle.relay.specs.declared.Request.{Request}
use Rattle.relay.specs.Arrival.{Arrival, said}
use Rattle.relay.specs.Commands.{command_of, command_in}
use Rattle.relay.specs.Relay.{meaning_in, entering_rules, process_rules, Outcome, process_answer, taken_of, taken_by, sent}
use Rattle.relay.specs.Private.Commands.{asked_by, settled_in}
use Rattle.relay.specs.Private.Acting.{head_with, slot_set, done_by, written_by, sent_to}
use Rattle.relay.proofs.Judgements.{Does, Judged}
use Rattle.relay.proofs.Lawful.{Lawful}
use Rattle.relay.proofs.Commands.{lawful}
use Rattle.relay.proofs.Asking.{request-refuses, request-passes}
use Rattle.relay.proofs.Entering.{entry-good, entry-refuses, enters, reader-refuses, command-decides}
use Rattle.relay.proofs.Answering.{answer-refused, sent-nothing, sent-line, answer-taken, bans-taken, written-line}

-- a line that gets no number from the reader is read
pub read-line : (line : List ℕ) → accepted ≡ number_for line → is_read line ≡ true
unfolding is_read
read-line line e = eq-eqb (number_for line) accepted (sym e)

-- and its parts are those that the reader finds
pub message-is : (line : List ℕ) (m : Message) → parsed_as (length line) (Ok m) ≡ parsed_of line → m ≡ message_of line
message-is line m e = ap (λ (p : Parsed). p.message) e

-- what is asked by its parts is what the line asks
pub parts-ask : (line : List ℕ) (m : Message) → m ≡ message_of line → asked_by (command_of (content_by line m).command) line m ≡ asked_by (command_in line) line (message_of line)
parts-ask line m e = rw (e, message-holds line)

-- what is answered, and the head, the lists and the output after
pub record Answered (t : Table) (a : Arrival) (out : List ℕ) (r : Result Relayed Fault) (head : Head) (bans after : List ℕ) : Type 0 where
  pub answer : taken_by head r ≡ taken_of (process_answer t a (length out))
  pub lists : bans ≡ (process_answer t a (length out)).table.bans
  pub output : after ≡ front (sent t a (length out)) out

module _ (t : Table) (a : Arrival) (out : List ℕ) where
  abbrev n : ℕ
  n = length out

  abbrev Refuses : Fault → Type 0
  Refuses f = Answered t a out (Err f) (head_of t) t.bans out

  -- ---- a refusal
  refuses : (f : Fault) → first_of (process_rules t a n) ≡ number_of f.refusal → f.place ≡ line_place (number_of f.refusal) a.line → Refuses f
  refuses f e p =
      let ne = number-given f.refusal in
      let answer = answer-refused t a n (number_of f.refusal) e ne in record {
        answer = rw p (ap taken_of answer);
        lists = ap (λ (o : Outcome). o.table.bans) answer;
        output = rw (sent-nothing t a n (number_of f.refusal) e ne);
      }

  -- of table, output and link
  pub entry-refused : (e : Refusal) → number_of e ≡ first_of (entering_rules t a n) → Refuses (unplaced e)
  entry-refused e is =
      let plain : is_mode_number (number_of e) ≡ false = ap is_mode_number is ∙ first_plain (entering_rules t a n) refl in
      refuses (unplaced e) (entry-refuses t a n (λ z. number-given e (is ∙ z)) ∙ sym is) (sym (place_none (number_of e) a.line (message_of a.line) plain))

  -- ---- past them
  module _ (passes : first_of (entering_rules t a n) ≡ accepted) where
    -- the reader's
    pub reader-refused : (e : Refusal) → number_of e ≡ number_for a.line → Refuses (unplaced e)
    unfolding is_read
    reader-refused e is =
        let unread : is_read a.line ≡ false = ne_eqb (number_for a.line) accepted (λ z. number-given e (is ∙ z)) in
        let plain : is_mode_number (number_of e) ≡ false = ap is_mode_number is ∙ reader-plain a.line in
        refuses (unplaced e) (enters t a n passes ∙ reader-refuses a unread (network_of t) ∙ sym is) (sym (place_none (number_of e) a.line (message_of a.line) plain))

    -- ---- a line that is read
    module _ (read : is_read a.line ≡ true) where
      law : Lawful (command_in a.line)
      law = lawful (command_in a.line)

      -- its message's own
      pub request-refused : (f : Fault) → Err (fault (number_of f.refusal) f.place) ≡ asked_by (command_in a.line) a.line (message_of a.line) → Refuses f
      request-refused f e =
          let asks = request-refuses a law read (number_of f.refusal) f.place e in
          refuses f (enters t a n passes ∙ asks.0 (network_of t)) asks.1

      -- ---- one that asks for something
      module _ (q : Request) (asks : Ok q ≡ asked_by (command_in a.line) a.line (message_of a.line)) where
        good : good_table t ≡ true
        good = entry-good (good_table t) t.links a.link n passes

        judged : Judged (meaning_in a) (network_of t) a (settled_in (network_of t) a.line q (said a))
        judged =
            let p = request-passes a law q asks in
            law.judged (network_of t) a good read p.0 _ (ap (λ (x : Request). settled_in (network_of t) a.line x (said a)) p.1)

        first-judged : first_of (process_rules t a n) ≡ first_of ((meaning_in a).rules (network_of t) a)
        first-judged = enters t a n passes ∙ command-decides a read (network_of t)

        -- what it comes to is refused
        pub change-refused : (e : Refusal) → Err (number_of e) ≡ settled_in (network_of t) a.line q (said a) → Refuses (unplaced e)
        change-refused e is =
            let j : first_of ((meaning_in a).rules (network_of t) a) ≡ number_of e = rw (sym is) at judged in
            let own = request-passes a law q asks in
            let plain : is_mode_number (number_of e) ≡ false = ap is_mode_number (sym j) ∙ law.plain (network_of t) a (ap is_mode_number own.0) in
            refuses (unplaced e) (first-judged ∙ j) (sym (place_none (number_of e) a.line (message_of a.line) plain))

        -- ---- or is a change
        module _ (j : Change) (is : Ok j ≡ settled_in (network_of t) a.line q (said a)) where
          judged-so : (first_of ((meaning_in a).rules (network_of t) a) ≡ accepted) × Does (meaning_in a) (network_of t) a j
          judged-so = rw (sym is) at judged

          -- it may be made
          pub change-inside : slot_set j.deed < slot_count
          change-inside = judged-so.1.inside

          -- and once it is, that is the answer
          pub change-made : (set len : ℕ) (head : Head) (bans after : List ℕ)
              → set ≡ sent_to j.sending t.links a.link → len ≡ length (written_by j.sending a.line (message_of a.line) out) → after ≡ front (written_by j.sending a.line (message_of a.line) out) out
              → head ≡ head_with (head_of t) (done_by j.deed (said a) (network_of t)).slots → bans ≡ (done_by j.deed (said a) (network_of t)).bans
              → Answered t a out (Ok (record { set = set; len = len })) head bans after
          change-made set len head bans after e f g h i =
              let none : first_of (process_rules t a n) ≡ accepted = first-judged ∙ judged-so.0 in
              let written = written-line t a n none j judged-so.1 out refl in record {
                answer = answer-taken t a n none j judged-so.1 set len head h e (f ∙ ap (λ (l : List ℕ). length l) written);
                lists = i ∙ bans-taken t a n none j judged-so.1;
                output = g ∙ ap (λ (l : List ℕ). front l out) (written ∙ sym (sent-line t a n none));
              }
