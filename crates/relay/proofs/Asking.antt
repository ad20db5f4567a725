-- What a line asks for: the reader's number, or that of the first rule of its message by itself, decides whatever the network is; where there is none, the
-- request is that of the message, and its name is one of the line's parameters. Assumes nothing.
use mathlib.Core.Path.{◌≡◌, refl, sym, ap, ◌∙◌}
use mathlib.Core.Bool.{Bool, true, false, cond}
use mathlib.Core.Logic.{◌⊎◌, inl, inr}
use mathlib.Core.List.{List, []}
use Prim.Native.Nat.{ℕ, ◌≤◌, ◌<◌}
use lib.ListN.{length, get_or}
use lib.Dec.{eqb}
use borrow.Author.Tests.{ne_eqb, eqb-true, eqb-false}
use Rattle.std.specs.Prelude.{Result, Ok, Err}
use Rattle.refusal.specs.Numbers.{accepted, unknown_command, is_mode_number}
use Rattle.refusal.specs.Rules.{◌when◌, first_of}
use Rattle.refusal.specs.Faults.{Fault, fault}
use Rattle.refusal.proofs.Rules.{stop}
use Rattle.message.specs.declared.Message.{Message}
use Rattle.message.specs.Grammar.{line_limit, param_limit}
use Rattle.message.specs.Content.{Content}
use Rattle.message.specs.Parts.{bytes_at, content_by}
use Rattle.message.specs.Reading.{is_read, content_of, message_of}
use Rattle.message.proofs.Readings.{param-at}
use Rattle.message.proofs.SpanContents.{message-holds}
use Rattle.channel.specs.declared.Record.{Record}
use Rattle.channel.specs.Record.{encode}
use Rattle.table.specs.Network.{Network}
use Rattle.table.specs.Slots.{found_for}
use Rattle.sjoin.specs.Join.{Told, join_rules, channel_in, span_place, line_place, told_in}
use Rattle.sjoin.proofs.Judged.{span-rules}
use Rattle.sjoin.proofs.Answers.{place_none}
use Rattle.relay.specs.declared.Request.{Request}
use Rattle.relay.specs.declared.Request.TheVariants.{Sjoin as Sjoins}
use Rattle.relay.specs.Arrival.{Arrival, said}
use Rattle.relay.specs.Commands.{Command, Sjoin, Unknown, command_in}
use Rattle.relay.specs.Relay.{taken_rules}
use Rattle.relay.specs.Private.Work.{nowhere, ruled}
use Rattle.relay.specs.Private.Commands.{work_of, asked_by, looked_up}
use Rattle.relay.proofs.Lawful.{Lawful}
use Rattle.relay.proofs.Entering.{command-decides}

-- ---- a message
module _ (k : Command) (line : List ℕ) (m : Message) where
  abbrev content : Content
  content = content_by line m

  -- its own rules refuse it
  pub asked-refused : (first_of ((work_of k).own content) ≡ accepted → ⊥) → asked_by k line m ≡ Err (fault (first_of ((work_of k).own content)) (span_place (first_of ((work_of k).own content)) line m))
  unfolding asked_by
  asked-refused ne = rw (ne_eqb (first_of ((work_of k).own content)) accepted ne)

  -- or none does
  pub asked-passes : first_of ((work_of k).own content) ≡ accepted → asked_by k line m ≡ Ok ((work_of k).asks m content)
  unfolding asked_by
  asked-passes e = rw e

  -- so it is with the answer of a command none of whose numbers has a place
  pub asked-ok : (q : Request) → Ok q ≡ ruled ((work_of k).own content) ((work_of k).asks m content) → Ok q ≡ asked_by k line m
  unfolding asked_by
  asked-ok q e = go (eqb (first_of ((work_of k).own content)) accepted) refl e
    where
      go : (t : Bool) → eqb (first_of ((work_of k).own content)) accepted ≡ t → Ok q ≡ cond t (Ok ((work_of k).asks m content)) (Err (first_of ((work_of k).own content))) → Ok q ≡ asked_by k line m
      go true h e =
          let is : q ≡ (work_of k).asks m content = cc in
          rw is (sym (asked-passes (eqb-true (first_of ((work_of k).own content)) accepted h)))
      go false h e = cc

  pub asked-err : is_mode_number (first_of ((work_of k).own content)) ≡ false → (number : ℕ) → Err number ≡ ruled ((work_of k).own content) ((work_of k).asks m content) → Err (fault number 0) ≡ asked_by k line m
  unfolding asked_by
  asked-err p number e = go (eqb (first_of ((work_of k).own content)) accepted) refl e
    where
      own : ℕ
      own = first_of ((work_of k).own content)

      go : (t : Bool) → eqb own accepted ≡ t → Err number ≡ cond t (Ok ((work_of k).asks m content)) (Err own) → Err (fault number 0) ≡ asked_by k line m
      go true h e = cc
      go false h e =
          let is : number ≡ own = cc in
          rw is (ap (λ (place : ℕ). Err (fault own place)) (sym (place_none own line m p)) ∙ sym (asked-refused (eqb-false own accepted h)))

-- ---- a command that isn't known asks for nothing
pub asked-unknown : (line : List ℕ) (m : Message) → Err (fault unknown_command 0) ≡ asked_by Unknown line m
unfolding asked_by
asked-unknown line m = rw (stop (unknown_command when true) [] refl, place_none unknown_command line m refl)

-- ---- an SJOIN, of which some have
module _ (line : List ℕ) (m : Message) (short : length line ≤ line_limit) where
  join-number : (told_in line m).number ≡ first_of (join_rules (content_by line m))
  unfolding told_in
  join-number = span-rules line m short

  pub join-ok : (r : Record) → ◌≡◌ {A = Told} (record { number = accepted; place = 0; «record» = r }) (told_in line m) → Ok (Sjoins (get_or m.params 1 nowhere) r) ≡ asked_by Sjoin line m
  unfolding told_in
  join-ok r e =
      let none : accepted ≡ first_of (join_rules (content_by line m)) = ap (λ (t : Told). t.number) e ∙ join-number in
      let is : r ≡ encode (channel_in (content_by line m)) = ap (λ (t : Told). t.«record») e ∙ rw (sym (ap (λ (t : Told). t.number) e)) in
      rw is (sym (asked-passes Sjoin line m (sym none)))

  pub join-err : (number place : ℕ) → (number ≡ accepted → ⊥) → (r : Record) → ◌≡◌ {A = Told} (record { number = number; place = place; «record» = r }) (told_in line m) → Err (fault number place) ≡ asked_by Sjoin line m
  unfolding told_in
  join-err number place ne r e =
      let is : number ≡ first_of (join_rules (content_by line m)) = ap (λ (t : Told). t.number) e ∙ join-number in
      let at : place ≡ span_place number line m = ap (λ (t : Told). t.place) e ∙ ap (λ (k : ℕ). span_place k line m) (sym (ap (λ (t : Told). t.number) e)) in
      rw (at, is) (sym (asked-refused Sjoin line m (λ z. ne (is ∙ z))))

-- ---- a line
module _ (line : List ℕ) where
  -- its name is one of the parameters
  pub name-is : (k : ℕ) → k < param_limit → bytes_at line (get_or (message_of line).params k nowhere) ≡ get_or (content_of line).params k []
  name-is k h = (param-at line (message_of line) refl k nowhere h).same

  -- so the slot that it uses is looked for
  pub name-found : (slots : List Record) (k : ℕ) → k < param_limit → looked_up slots line (get_or (message_of line).params k nowhere) ≡ found_for slots (get_or (content_of line).params k [])
  name-found slots k h = ap (found_for slots) (name-is k h)

-- ---- an arrival
module _ (a : Arrival) (law : Lawful (command_in a.line)) where
  abbrev command : Command
  command = command_in a.line

  abbrev own : ℕ
  own = first_of ((work_of command).own (said a))

  abbrev asked : Result Request (Fault ℕ)
  asked = asked_by command a.line (message_of a.line)

  -- what its message's own rules give
  asks-own : first_of ((work_of command).own (content_by a.line (message_of a.line))) ≡ own
  asks-own = ap (λ (c : Content). first_of ((work_of command).own c)) (message-holds a.line)

  -- its message is refused, or asks for something
  asks-either : ((own ≡ accepted) × (asked ≡ Ok ((work_of command).asks (message_of a.line) (said a)))) ⊎ ((own ≡ accepted → ⊥) × (asked ≡ Err (fault own (line_place own a.line))))
  asks-either = go (eqb own accepted) refl
    where
      go : (t : Bool) → eqb own accepted ≡ t
          → ((own ≡ accepted) × (asked ≡ Ok ((work_of command).asks (message_of a.line) (said a)))) ⊎ ((own ≡ accepted → ⊥) × (asked ≡ Err (fault own (line_place own a.line))))
      go true h =
          let none = eqb-true own accepted h in
          inl (none, asked-passes command a.line (message_of a.line) (asks-own ∙ none) ∙ ap (λ (c : Content). Ok ((work_of command).asks (message_of a.line) c)) (message-holds a.line))
      go false h =
          let some = eqb-false own accepted h in
          inr (some, asked-refused command a.line (message_of a.line) (λ z. some (sym asks-own ∙ z)) ∙ ap (λ (k : ℕ). Err (fault k (span_place k a.line (message_of a.line)))) asks-own)

  -- a number that it gets is that of its first rule, and has its place in the line
  pub request-refuses : is_read a.line ≡ true → (number place : ℕ) → Err (fault number place) ≡ asked → ((n : Network) → first_of (taken_rules n a) ≡ number) × (place ≡ line_place number a.line)
  request-refuses read number place e = go asks-either
    where
      go : ((own ≡ accepted) × (asked ≡ Ok ((work_of command).asks (message_of a.line) (said a)))) ⊎ ((own ≡ accepted → ⊥) × (asked ≡ Err (fault own (line_place own a.line))))
          → ((n : Network) → first_of (taken_rules n a) ≡ number) × (place ≡ line_place number a.line)
      go (inl h) = let f = e ∙ h.1 in cc
      go (inr h) =
          let f = e ∙ h.1 in
          let same : fault number place ≡ fault own (line_place own a.line) = cc in
          let is = ap (λ (x : Fault ℕ). x.number) same in
          let at = ap (λ (x : Fault ℕ). x.place) same in
          (λ n. command-decides a read n ∙ law.first n a h.0 ∙ sym is, at ∙ ap (λ (k : ℕ). line_place k a.line) (sym is))

  -- where it gets none, none of its own rules applies
  pub request-passes : (q : Request) → Ok q ≡ asked → (own ≡ accepted) × (q ≡ (work_of command).asks (message_of a.line) (said a))
  request-passes q e = go asks-either
    where
      go : ((own ≡ accepted) × (asked ≡ Ok ((work_of command).asks (message_of a.line) (said a)))) ⊎ ((own ≡ accepted → ⊥) × (asked ≡ Err (fault own (line_place own a.line))))
          → (own ≡ accepted) × (q ≡ (work_of command).asks (message_of a.line) (said a))
      go (inl h) = let f = e ∙ h.1 in let is : q ≡ (work_of command).asks (message_of a.line) (said a) = cc in (h.0, is)
      go (inr h) = let f = e ∙ h.1 in cc
