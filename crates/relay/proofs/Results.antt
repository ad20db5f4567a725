-- What an incoming channel comes to in the slot that its name uses: it is merged into the record that is there, or opens the lowest free slot, or finds none.
-- What results is a channel as document 01 has it, and one slot changes. True since a slot keeps its name, or is opened for one that none holds. Assumes nothing.
use Prim.Native.Nat.{ℕ, ◌≤◌, ◌<◌}
use mathlib.Core.Path.{◌≡◌, refl, sym, ap, ◌∙◌}
use mathlib.Core.Bool.{Bool, true, false, not}
use mathlib.Core.Logic.{◌⊎◌, inl, inr}
use mathlib.Core.List.{List}
use native.Mathlib.Omega.{arith}
use lib.ListN.{length, get_or, set}
use lib.Seq.{get_or-set_same, get_or-set_other}
use lib.Dec.{ltb}
use borrow.Author.Tests.{le-ltb, ltb-false}
use Rattle.refusal.specs.Numbers.{accepted, no_free_slot}
use Rattle.refusal.specs.Rules.{first_of}
use Rattle.refusal.proofs.Rules.{skip, first-nil, first-none, append-some, append-none, both-none}
use Rattle.laws.proofs.Lists.{at_all}
use Rattle.names.specs.Fold.{same_name}
use Rattle.names.specs.Names.{is_channel}
use Rattle.names.proofs.Folds.{name-refl, name-lengths}
use Rattle.channel.specs.declared.Record.{Record}
use Rattle.channel.specs.Limits.{member_limit}
use Rattle.channel.specs.Channel.{Channel}
use Rattle.channel.specs.Record.{encode, decode, empty_record}
use Rattle.channel.specs.WellFormed.{well_formed}
use Rattle.channel.proofs.Proper.{Proper, proper-fits, well-says, encode-well}
use Rattle.channel.proofs.Records.{decode-encode}
use Rattle.bans.specs.WellFormed.{good_list}
use Rattle.bans.specs.Slots.{list_at}
use Rattle.bans.proofs.Slots.{used-list, free-list, unused-well}
use Rattle.merging.specs.Merging.{Combined, merge, answered, room_rules, combined}
use Rattle.merging.proofs.Proper.{proper-merge}
use Rattle.merging.proofs.Answers.{combined-merge}
use Rattle.table.specs.Network.{Network, with_slots, with_bans, emptied_if}
use Rattle.table.specs.Table.{is_free, holds, distinct, good_network}
use Rattle.table.specs.Slots.{Slot, Held, Free, Full, slot_in, slot_number, place_of, slot_rules}
use Rattle.table.proofs.First.{IsFirst}
use Rattle.table.proofs.Searching.{slot_held, slot-free, number_is}
use Rattle.table.proofs.WellFormed.{holding-used, holding-name, slots-good, slots-distinct, list-good, slot-change}
use Rattle.table.proofs.Using.{held-well}
use Rattle.table.proofs.Changing.{well-used, well-good, kept_set, distinct-kept, distinct-new}
use Rattle.relay.specs.Sjoin.{result_in, resulting, joined_rules, is_earlier, joined}

-- ---- its rules
-- number 21, by the slot that its name uses
pub slot-told : (n : Network) (c : Channel) (s : Slot) → slot_in n c.name ≡ s → first_of (slot_rules n.slots c.name) ≡ slot_number s
slot-told n c s e = sym (number_is n.slots c.name) ∙ ap slot_number e

-- where held is one, number 22 is left
pub room-left : (n : Network) (c : Channel) → first_of (slot_rules n.slots c.name) ≡ accepted → first_of (joined_rules n c) ≡ first_of (room_rules (resulting n c))
unfolding joined_rules slot_rules
room-left n c e = append-none (room_rules (resulting n c)) (slot_rules n.slots c.name) refl e

-- where none applies, neither does
joined-none : (n : Network) (c : Channel) → first_of (joined_rules n c) ≡ accepted → (first_of (slot_rules n.slots c.name) ≡ accepted) × (first_of (room_rules (resulting n c)) ≡ accepted)
unfolding joined_rules slot_rules
joined-none n c e = both-none (room_rules (resulting n c)) (slot_rules n.slots c.name) refl e

-- ---- whether its time is earlier
module _ (n : Network) (c : Channel) (k : ℕ) where
  -- than that of the record that is there
  pub earlier-held : slot_in n c.name ≡ Held k → is_earlier n c ≡ ltb (encode c).time (get_or n.slots k empty_record).time
  unfolding is_earlier encode
  earlier-held e = rw e

  -- where there is none, it isn't
  pub earlier-free : slot_in n c.name ≡ Free k → is_earlier n c ≡ false
  unfolding is_earlier empty_record encode
  earlier-free e = rw e (le-ltb c.time 0 (omega arith))

-- ---- by the slot that its name uses
module _ (n : Network) (c : Channel) (p : Proper c) where
  -- a channel is had back from its record
  pub back : decode (encode c) ≡ c
  back = decode-encode c (proper-fits c p)

  -- slot k holds the name
  module _ (k : ℕ) (e : slot_in n c.name ≡ Held k) where
    abbrev held : Record
    held = get_or n.slots k empty_record

    first : IsFirst (holds c.name) n.slots empty_record k
    first = slot_held n.slots c.name empty_record k e

    held-result : resulting n c ≡ merge (decode held) c
    unfolding resulting
    held-result = rw e

    -- it is one of the slots
    pub held-inside : k < length n.slots
    held-inside = first.inside

    -- its record need not be tested again: what results is the merged channel, where there is room
    held-merges : combined held (encode c) ≡ answered (room_rules (resulting n c)) held (resulting n c)
    held-merges = combined-merge held (encode c) (encode-well c p) ∙ ap (λ (d : Channel). answered (room_rules d) held d) (ap (merge (decode held)) back ∙ sym held-result)

    left : first_of (joined_rules n c) ≡ first_of (room_rules (resulting n c))
    left = room-left n c (slot-told n c (Held k) e)

    -- the number is the merging's
    pub held_number : (combined held (encode c)).number ≡ first_of (joined_rules n c)
    held_number = ap (λ (m : Combined). m.number) held-merges ∙ sym left

    -- and so is what results
    pub held-answer : first_of (joined_rules n c) ≡ accepted → (combined held (encode c)).result ≡ encode (resulting n c)
    held-answer z = ap (λ (m : Combined). m.result) held-merges ∙ rw (sym left ∙ z)

  -- no slot holds it, and slot k is free
  module _ (k : ℕ) (e : slot_in n c.name ≡ Free k) where
    -- it is one of the slots
    pub free-inside : k < length n.slots
    free-inside = (slot-free n.slots c.name empty_record k e).1.inside

    -- the channel itself results
    pub free-result : resulting n c ≡ c
    unfolding resulting
    free-result = rw e

    -- A new channel is never refused: a line names no more users than a record holds.
    pub free-rules : first_of (joined_rules n c) ≡ accepted
    free-rules = room-left n c (slot-told n c (Free k) e) ∙ skip _ _ (rw free-result (le-ltb member_limit (length c.members) p.few)) ∙ first-nil

  -- what results has the name, in the stored spelling, and a time that is no later
  pub result-heads : good_network n ≡ true → (is_channel (resulting n c).name ≡ true) × (length (resulting n c).name ≡ length c.name) × (1 ≤ (resulting n c).time) × ((resulting n c).time ≤ c.time)
  unfolding resulting merge
  result-heads good = go (slot_in n c.name) refl
    where
      go : (s : Slot) → slot_in n c.name ≡ s → (is_channel (result_in n c s).name ≡ true) × (length (result_in n c s).name ≡ length c.name) × (1 ≤ (result_in n c s).time) × ((result_in n c s).time ≤ c.time)
      go (Held k) e =
          let r = get_or n.slots k empty_record in
          let h = (well-says r (held-well n.slots (slots-good n good) c.name k e)).holds in
          (h.name, name-lengths (decode r).name c.name (holding-name c.name r (first k e).passes), omega (arith, h.from, p.from), omega arith)
      go (Free k) e = (p.name, refl, p.from, omega arith)
      go Full e = (p.name, refl, p.from, omega arith)

-- nor is one free
pub full-rules : (n : Network) (c : Channel) → slot_in n c.name ≡ Full → first_of (joined_rules n c) ≡ no_free_slot
unfolding joined_rules
full-rules n c e =
    let told = slot-told n c Full e in
    append-some (room_rules (resulting n c)) (slot_rules n.slots c.name) (λ z. omega (arith, told, z)) ∙ told

-- ---- where no rule refuses it
-- What a slot comes to hold: the channel c merged into the record that holds its name, or c itself where the slot was free.
abbrev pub MergesOrOpens : Record → Channel → Record → Type 0
MergesOrOpens old c r = ((holds c.name old ≡ true) × (r ≡ encode (merge (decode old) c))) ⊎ ((is_free old ≡ true) × (r ≡ encode c))

-- One slot of the network changes: slot k, which comes to hold r.
pub record OneChanged (n after : Network) (c : Channel) (k : ℕ) (r : Record) : Type 0 where
  pub inside : k < length n.slots
  -- its list is emptied if the time is earlier, and all else of the network stays
  pub sets : after ≡ with_bans (with_slots n (set n.slots k r)) (emptied_if (is_earlier n c) k n.bans)
  pub comes : MergesOrOpens (get_or n.slots k empty_record) c r
  -- slot k holds the name then
  pub holding : (d : Record) → holds c.name (get_or after.slots k d) ≡ true
  -- and every other slot stays
  pub others : (j : ℕ) (d : Record) → (j ≡ k → ⊥) → get_or after.slots j d ≡ get_or n.slots j d

module _ (n : Network) (good : good_network n ≡ true) (c : Channel) (p : Proper c) (none : first_of (joined_rules n c) ≡ accepted) where
  not_full : slot_in n c.name ≡ Full → ⊥
  not_full e = omega (arith, slot-told n c Full e, (joined-none n c none).0)

  result-few : length (resulting n c).members ≤ member_limit
  result-few = ltb-false member_limit (length (resulting n c).members) (first-none _ _ (λ z. omega arith) (joined-none n c none).1).0

  -- what results is a channel as document 01 has it
  pub result-proper : Proper (resulting n c)
  unfolding resulting
  result-proper = go (slot_in n c.name) refl result-few
    where
      go : (s : Slot) → slot_in n c.name ≡ s → length (result_in n c s).members ≤ member_limit → Proper (result_in n c s)
      go (Held k) e few = let r = get_or n.slots k empty_record in proper-merge (decode r) c (well-says r (held-well n.slots (slots-good n good) c.name k e)).holds p few
      go (Free k) e few = p
      go Full e few = p

  abbrev result : Record
  result = encode (resulting n c)

  result-well : well_formed result ≡ true
  result-well = encode-well (resulting n c) result-proper

  result-name : (decode result).name ≡ (resulting n c).name
  result-name = ap (λ (d : Channel). d.name) (decode-encode (resulting n c) (proper-fits (resulting n c) result-proper))

  abbrev place : ℕ
  place = place_of n.slots (slot_in n c.name)

  joined-distinct : distinct (joined n c).slots ≡ true
  unfolding joined resulting merge
  joined-distinct = go (slot_in n c.name) refl result-name
    where
      slots : List Record
      slots = n.slots

      go : (s : Slot) → slot_in n c.name ≡ s → (decode (encode (result_in n c s))).name ≡ (result_in n c s).name → distinct (set slots (place_of slots s) (encode (result_in n c s))) ≡ true
      go (Held k) e m =
          let r = get_or slots k empty_record in
          let x = encode (result_in n c (Held k)) in
          distinct-kept slots (set slots k x) (kept_set slots k x (inr (holding-used c.name r (slot_held slots c.name empty_record k e).passes, m))) (slots-distinct n good)
      go (Free k) e m =
          distinct-new c.name (encode c) m slots k (at_all (λ r. not (holds c.name r)) slots empty_record (λ j h. ap not ((slot-free slots c.name empty_record k e).0 j h))) (slots-distinct n good)
      go Full e m = absurd (not_full e)

  place-used : (place < length n.slots) × MergesOrOpens (get_or n.slots place empty_record) c result × (same_name (resulting n c).name c.name ≡ true)
  unfolding resulting merge
  place-used = go (slot_in n c.name) refl
    where
      go : (s : Slot) → slot_in n c.name ≡ s
          → (place_of n.slots s < length n.slots) × MergesOrOpens (get_or n.slots (place_of n.slots s) empty_record) c (encode (result_in n c s)) × (same_name (result_in n c s).name c.name ≡ true)
      go (Held k) e =
          let h = slot_held n.slots c.name empty_record k e in
          (h.inside, inl (h.passes, refl), holding-name c.name (get_or n.slots k empty_record) h.passes)
      go (Free k) e = let h = (slot-free n.slots c.name empty_record k e).1 in (h.inside, inr (h.passes, refl), name-refl c.name)
      go Full e = absurd (not_full e)

  -- the list of a slot that is used already is well formed, and that of a free one is zero, which is a list without masks
  list_left : good_list true (list_at n.bans place) ≡ true
  list_left = go (is_free (get_or n.slots place empty_record)) (list-good n good place empty_record place-used.0)
    where
      go : (t : Bool) → good_list (not t) (list_at n.bans place) ≡ true → good_list true (list_at n.bans place) ≡ true
      go true h = used-list (list_at n.bans place) ∙ unused-well (list_at n.bans place) (sym (free-list (list_at n.bans place)) ∙ h)
      go false h = h

  -- The network stays well formed.
  pub joined-good : good_network (joined n c) ≡ true
  unfolding joined
  joined-good = slot-change n good place place-used.0 result (is_earlier n c) (well-good result result-well) joined-distinct (λ _. rw (well-used result result-well) list_left)

  result-holds : holds c.name result ≡ true
  unfolding holds
  result-holds = rw (well-used result result-well, result-name) place-used.2

  -- An incoming channel changes the slot that its name uses, and no other.
  pub joined-one : OneChanged n (joined n c) c place result
  unfolding joined
  joined-one = record {
    inside = place-used.0;
    sets = refl;
    comes = place-used.1;
    holding = λ d. rw (get_or-set_same n.slots place result d place-used.0) result-holds;
    others = λ j d ne. get_or-set_other n.slots place j result d ne;
  }
