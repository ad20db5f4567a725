-- What a line adds to its group, by whether it is refused or accepted; and that there is room for it. Assumes nothing.
use Prim.Native.Nat.{ℕ, ◌+◌, ◌≤◌}
use mathlib.Core.Path.{◌≡◌, refl, sym, ap, ap₂, ◌∙◌}
use mathlib.Core.Bool.{true}
use mathlib.Core.List.{List, [], ◌++◌, append-nil}
use native.Mathlib.Omega.{arith}
use lib.ListN.{length, take}
use lib.Seq.{take_at}
use lib.Dec.{leb}
use borrow.Author.Tests.{eq-eqb, ne_eqb, leb-true}
use Rattle.refusal.specs.Numbers.{accepted}
use Rattle.refusal.specs.Rules.{first_of}
use Rattle.octets.specs.Room.{part, front}
use Rattle.octets.proofs.Room.{part-front}
use Rattle.laws.proofs.Bools.{and_left, and_right}
use Rattle.message.specs.Grammar.{line_limit}
use Rattle.table.specs.Network.{Table, table_with}
use Rattle.journal.specs.Journal.{record_of}
use Rattle.journal.specs.Reading.{entry, record_limit}
use Rattle.journal.proofs.Logs.{bytes-size}
use Rattle.relay.specs.declared.Taken.{Taken}
use Rattle.relay.specs.Arrival.{Arrival, arrival}
use Rattle.relay.specs.Relay.{Outcome, process_rules, process_answer, taken_of, sent}
use Rattle.relay.proofs.Taking.{answer-number}
use Rattle.relay.proofs.Places.{answer-place}
use Rattle.relay.proofs.Answering.{answer-refused, answer-accepted, accepted-line, sent-line}
use Rattle.links.specs.Links.{is_link}
use Rattle.console.specs.declared.Session.{Session}
use Rattle.console.specs.declared.groups.Group.{Group}
use Rattle.console.specs.Answers.{refused_text, IsPlaceIn, accepted_text}
use Rattle.console.specs.Buffers.{answer_room, records_room, answers_room}
use Rattle.console.specs.Groups.{records_in, answers_in, group_with, has_room, Takes}

-- ---- room for the record and the answer of another line
module _ (g : Group) (room : has_room g ≡ true) where
  pub record-fits : length (records_in g) + record_limit ≤ records_room
  record-fits = leb-true (length (records_in g) + record_limit) records_room (and_left (leb (length (records_in g) + record_limit) records_room) (leb (length (answers_in g) + answer_room) answers_room) room)

  pub answer-fits : length (answers_in g) + answer_room ≤ answers_room
  answer-fits = leb-true (length (answers_in g) + answer_room) answers_room (and_right (leb (length (records_in g) + record_limit) records_room) (leb (length (answers_in g) + answer_room) answers_room) room)

-- the record of a line that isn't too long
pub record-few : (link : ℕ) (line : List ℕ) → length line ≤ line_limit → length (record_of link line) ≤ record_limit
record-few link line h = omega (arith, bytes-size (entry link line))

module _ (s : Session) (link : ℕ) (line : List ℕ) (r : Taken) (bans' : List ℕ) where
  abbrev t : Table
  t = table_with s.head s.bans

  abbrev a : Arrival
  a = arrival link line

  abbrev o : Outcome
  o = process_answer t a line_limit

  module _ (is-taken : r ≡ taken_of o) (lists : bans' ≡ o.table.bans) where
    number : o.number ≡ r.number
    number = sym (ap (λ (x : Taken). x.number) is-taken)

    place : o.place ≡ r.place
    place = sym (ap (λ (x : Taken). x.place) is-taken)

    -- the place that the relay gives is one that can be shown
    pub place_inside : IsPlaceIn line r.place
    place_inside ne = rw (← place) (answer-place t a line_limit (λ e. ne (sym place ∙ e)))

    -- what comes back by value and what is lent are the table after
    after : table_with r.head bans' ≡ o.table
    after = ap₂ table_with (ap (λ (x : Taken). x.head) is-taken) lists

    -- ---- a refused line leaves the table and the records alone
    module _ (ne : r.number ≡ accepted → ⊥) where
      rule : first_of (process_rules t a line_limit) ≡ r.number
      rule = sym (answer-number t a line_limit) ∙ number

      stays : o.table ≡ t
      stays = ap (λ (x : Outcome). x.table) (sym (answer-refused t a line_limit r.number rule ne))

      pub takes-refused : (p : List ℕ) → p ≡ refused_text r.number r.place line s.typed → (g : Group) → g ≡ group_with s.group [] p
          → Takes s link line (record { head = s.head; bans = bans'; group = g; pending = s.pending; journal = s.journal; typed = s.typed })
      takes-refused p text g is = record {
        others = refl;
        table = ap (table_with s.head) (lists ∙ ap (λ (x : Table). x.bans) stays) ∙ sym stays;
        kept = rw (number, ne_eqb r.number accepted ne) (ap records_in is);
        answered = rw (number, place, ne_eqb r.number accepted ne) (ap answers_in is ∙ ap (λ (l : List ℕ). answers_in s.group ++ l) text);
      }

    -- ---- an accepted one adds its record, and what goes out is in its answer
    module _ (passes : r.number ≡ accepted) where
      none : first_of (process_rules t a line_limit) ≡ accepted
      none = sym (answer-number t a line_limit) ∙ number ∙ passes

      pub is-accepted : (is_link link ≡ true) × (length line ≤ line_limit)
      is-accepted = accepted-line t a line_limit none

      pub sent-part : (out₀ out p : List ℕ) → out ≡ front (sent t a line_limit) out₀ → p ≡ part out 0 r.len → p ≡ sent t a line_limit
      sent-part out₀ out p e f =
          let size : r.len ≡ length (sent t a line_limit)
          = ap (λ (x : Taken). x.len) is-taken ∙ ap (λ (x : Outcome). x.len) (answer-accepted t a line_limit none) ∙ ap (λ (l : List ℕ). length l) (sym (sent-line t a line_limit none)) in
          f ∙ part-front out r.len ∙ ap (take r.len) e ∙ take_at (sent t a line_limit) _ r.len (sym size)

      pub takes-accepted : (sent-line : List ℕ) → sent-line ≡ sent t a line_limit
          → (p : List ℕ) → p ≡ accepted_text r.set sent-line → (g : Group) → g ≡ group_with s.group (record_of link line) [] → (next : Group) → next ≡ group_with g [] p
          → Takes s link line (record { head = r.head; bans = bans'; group = next; pending = s.pending; journal = s.journal; typed = s.typed })
      takes-accepted sent-line e p text g is next then =
          let set : o.set ≡ r.set = sym (ap (λ (x : Taken). x.set) is-taken) in
          record {
            others = refl;
            table = after;
            kept = rw (number, eq-eqb r.number accepted passes) (ap records_in then ∙ append-nil (records_in g) ∙ ap records_in is);
            answered =
                rw (number, eq-eqb r.number accepted passes, set, ← e)
                (ap answers_in then ∙ ap₂ ◌++◌ (ap answers_in is ∙ append-nil (answers_in s.group)) text);
          }
