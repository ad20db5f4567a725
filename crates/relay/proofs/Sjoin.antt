-- SJOIN is lawful: its request is settled to what an incoming channel comes to in its slot, and it goes out told anew, under the stored spelling, which is as long
-- as the line's, at a time that is no later. Assumes nothing.
use mathlib.Core.Path.{◌≡◌, refl, sym, ap, ap₂, ◌∙◌}
use mathlib.Core.Bool.{Bool, true, false}
use Prim.Native.Nat.{ℕ, ◌<◌}
use native.Mathlib.Omega.{arith}
use lib.ListN.{get_or}
use lib.Dec.{eqb, ltb}
use Rattle.std.specs.Prelude.{Result}
use Rattle.refusal.specs.Numbers.{accepted, no_free_slot, is_mode_number}
use Rattle.refusal.specs.Rules.{first_of, ascend_from, place_in}
use Rattle.refusal.proofs.Rules.{first_plain, append-some, append-none, both-none, append-plain}
use Rattle.laws.proofs.Lists.{take-map}
use Rattle.message.specs.Content.{source_in}
use Rattle.message.specs.Reading.{is_read, message_of}
use Rattle.channel.specs.declared.Record.{Record}
use Rattle.channel.specs.Limits.{slot_count}
use Rattle.channel.specs.Channel.{Channel}
use Rattle.channel.specs.Record.{encode, decode, empty_record}
use Rattle.channel.specs.Standing.{counts, settings_at, standing, bare}
use Rattle.channel.proofs.Proper.{Proper, proper-fits}
use Rattle.channel.proofs.Records.{decode-encode}
use Rattle.merging.specs.Merging.{Combined, combined}
use Rattle.table.specs.Network.{Network}
use Rattle.table.specs.Table.{good_network}
use Rattle.table.specs.Slots.{Found, Slot, Held, Free, Full, slot_in, held_in, found_for, place_of, slot_rules}
use Rattle.table.proofs.WellFormed.{slots-few}
use Rattle.sjoin.specs.Join.{mode_rules, join_rules, channel_in}
use Rattle.telling.specs.Telling.{join_message}
use Rattle.sjoin.proofs.Judged.{rules-numbered}
use Rattle.sjoin.proofs.Wellformed.{read-proper}
use Rattle.retelling.proofs.Retold.{retold-reads}
use Rattle.retelling.specs.Retelling.{Reads}
use Rattle.relay.specs.Commands.{Sjoin}
use Rattle.relay.specs.declared.Change.{Change}
use Rattle.relay.specs.Arrival.{Arrival, said}
use Rattle.relay.specs.Sjoin.{resulting, joined_rules, is_earlier, joined, outgoing, meaning}
use Rattle.relay.specs.Private.Work.{nowhere}
use Rattle.relay.specs.Private.Sjoin.{told_of, joins, joins_held, joins_found}
use Rattle.relay.specs.Private.Commands.{looked_up}
use Rattle.relay.proofs.Judgements.{Does, Judged, refused-judged, settles}
use Rattle.relay.proofs.Lawful.{Unrefused, BehindReader, Lawful}
use Rattle.relay.proofs.Asking.{name-found}
use Rattle.relay.proofs.Results.{back, earlier-held, earlier-free, held-inside, held_number, held-answer, free-inside, free-result, free-rules, full-rules, result-heads, result-proper, joined-good}

-- ---- what goes out of an incoming record
told-stands : (result incoming : Record) → decode (told_of result incoming) ≡ outgoing (decode result) (decode incoming)
unfolding told_of decode outgoing counts settings_at standing bare
told-stands result incoming = go (eqb incoming.time result.time) refl
  where
    go : (t : Bool) → eqb incoming.time result.time ≡ t → decode (told_of result incoming) ≡ outgoing (decode result) (decode incoming)
    go true h = rw h
    go false h = rw (h, take-map _ incoming.count incoming.members)

-- ---- the line
module _ (n : Network) (a : Arrival) where
  abbrev incoming : Channel
  incoming = channel_in (said a)

  -- none of its rules applies: neither those of the line nor those of its slot
  pub join-none : first_of (meaning.rules n a) ≡ accepted → (first_of (join_rules (said a)) ≡ accepted) × (first_of (joined_rules n incoming) ≡ accepted)
  join-none e = both-none (joined_rules n incoming) (join_rules (said a)) (rules-numbered (said a)) e

  module _ (read : is_read a.line ≡ true) (own : first_of (join_rules (said a)) ≡ accepted) where
    proper : Proper incoming
    proper = read-proper a.line read own

    -- those of its slot are left
    rest : first_of (meaning.rules n a) ≡ first_of (joined_rules n incoming)
    rest = append-none (joined_rules n incoming) (join_rules (said a)) (rules-numbered (said a)) own

    -- ---- the judgement
    module _ (good : good_network n ≡ true) (r : Result Change ℕ) where
      -- slot k is to hold what results
      joins-it : (k : ℕ) (emptied : Bool) (result : Record) → k < slot_count → place_of n.slots (slot_in n incoming.name) ≡ k → emptied ≡ is_earlier n incoming → result ≡ encode (resulting n incoming)
          → first_of (joined_rules n incoming) ≡ accepted → Does meaning n a (joins k result emptied (encode incoming))
      unfolding joined
      joins-it k emptied result i e g f none =
          let whole = decode-encode (resulting n incoming) (proper-fits _ (result-proper n good incoming proper none)) in
          let told = told-stands result (encode incoming) ∙ ap₂ outgoing (ap decode f ∙ whole) (back n incoming proper) in
          record { inside = i; network = rw (e, g, f); sends = (refl, ap (join_message (source_in (said a))) told) }

      settled : (s : Slot) → slot_in n incoming.name ≡ s → r ≡ joins_found s (held_in n.slots s) (encode incoming) → Judged meaning n a r
      unfolding joins_held
      settled (Held k) e f =
          let there = get_or n.slots k empty_record in
          let answer : Combined = combined there (encode incoming) in
          let number : first_of (joined_rules n incoming) ≡ answer.number = sym (held_number n incoming proper k e) in
          let earlier = ltb (encode incoming).time there.time in
          settles meaning n a answer.number (rest ∙ number) r (joins k answer.result earlier (encode incoming))
          (λ z. joins-it k earlier answer.result (omega (arith, held-inside n incoming proper k e, slots-few n good)) (ap (place_of n.slots) e) (sym (earlier-held n incoming k e)) (held-answer n incoming proper k e (number ∙ z)) (number ∙ z)) f
      settled (Free k) e f =
          let none = free-rules n incoming proper k e in
          settles meaning n a accepted (rest ∙ none) r (joins k (encode incoming) false (encode incoming))
          (λ _. joins-it k false (encode incoming) (omega (arith, free-inside n incoming proper k e, slots-few n good)) (ap (place_of n.slots) e) (sym (earlier-free n incoming k e)) (ap encode (sym (free-result n incoming proper k e))) none) f
      settled Full e f = refused-judged meaning n a no_free_slot (rest ∙ full-rules n incoming e) r f

  -- ---- where no rule refuses it
  module _ (p : Unrefused meaning n a) where
    own-none : first_of (join_rules (said a)) ≡ accepted
    own-none = (join-none p.none).0

    keeps : good_network (joined n incoming) ≡ true
    keeps = joined-good n p.good incoming (proper p.read own-none) (join-none p.none).1

    reads : Reads a.line (meaning.out n a)
    unfolding outgoing channel_in
    reads =
        let h = result-heads n incoming (proper p.read own-none) p.good in
        retold-reads a.line p.read own-none p.word (resulting n incoming).name (resulting n incoming).time h.0 h.1 h.2 h.3

-- the slot that is looked for is that of its channel
found : (n : Network) (a : Arrival) → looked_up n.slots a.line (get_or (message_of a.line).params 1 nowhere) ≡ found_for n.slots (channel_in (said a)).name
unfolding channel_in
found n a = name-found a.line n.slots 1 (omega arith)

ordered : (n : Network) (a : Arrival) → BehindReader (meaning.rules n a)
unfolding ascend_from place_in join_rules mode_rules joined_rules slot_rules
ordered n a = refl

plain : (n : Network) (a : Arrival) → is_mode_number (first_of (join_rules (said a))) ≡ false → is_mode_number (first_of (meaning.rules n a)) ≡ false
unfolding joined_rules slot_rules
plain n a own =
    let slotted = joined_rules n (channel_in (said a)) in
    append-plain (join_rules (said a)) slotted (rules-numbered (said a)) own (first_plain slotted refl)

-- SJOIN is lawful.
pub lawful : Lawful Sjoin
lawful = record {
  ordered = ordered;
  first = λ n a ne. append-some (joined_rules n (channel_in (said a))) (join_rules (said a)) ne;
  modes = λ c e. refl;
  plain = plain;
  judged = λ n a good read own r e.
      settled n a read own good r (slot_in n (channel_in (said a)).name) refl
      (e ∙ ap (λ (f : Found). joins_found f.slot f.«record» (encode (channel_in (said a)))) (found n a));
  keeps = keeps;
  reads = reads;
}
