-- Taking a line that reads as SJOIN, or isn't read, with any well-formed table: the rules up to 18 depend on the links and the arrival alone, and one slot
-- changes, by a channel opened or merged. Assumes nothing.
use Prim.Native.Nat.{ℕ, ◌≤◌}
use mathlib.Core.Path.{◌≡◌, refl, sym, ap, ◌∙◌}
use mathlib.Core.Bool.{Bool, true, false, not}
use mathlib.Core.Logic.{◌⊎◌, inl, inr}
use mathlib.Core.List.{List, ◌∷◌, ◌++◌, map, append_assoc}
use native.Mathlib.Omega.{arith}
use lib.ListN.{length, get_or, set}
use lib.Dec.{ltb}
use borrow.Author.Tests.{eq-eqb, le-ltb}
use Rattle.refusal.specs.Numbers.{accepted, output_too_short, bad_link}
use Rattle.refusal.specs.Rules.{Rule, ◌when◌, first_of}
use Rattle.refusal.proofs.Rules.{skip, first-nil, first-none, numbered, append-some, append-none, both-none}
use Rattle.octets.specs.Bytes.{capital}
use Rattle.octets.proofs.Bytes.{same_refl}
use Rattle.links.specs.declared.Links.{Links}
use Rattle.links.specs.Links.{has_link}
use Rattle.message.specs.Grammar.{line_limit}
use Rattle.message.specs.Reading.{body_rules, line_rules, number_for, is_read, content_of}
use Rattle.message.proofs.Readings.{refused-number}
use Rattle.channel.specs.Limits.{member_limit}
use Rattle.channel.specs.Channel.{Channel}
use Rattle.channel.specs.Record.{encode, decode, empty_record}
use Rattle.channel.proofs.Proper.{Proper}
use Rattle.bans.specs.Slots.{list_at, empty_list}
use Rattle.bans.proofs.Slots.{stored_same, empty-whole}
use Rattle.merging.specs.Merging.{merge}
use Rattle.table.specs.Network.{Table, Network, network_of, with_slots, emptied_if}
use Rattle.table.specs.Table.{good_table}
use Rattle.table.specs.Slots.{Held, Free, slot_in}
use Rattle.sjoin.specs.Join.{mode_rules, join_rules, channel_in}
use Rattle.sjoin.proofs.Wellformed.{read-proper}
use Rattle.telling.specs.Telling.{sjoin}
use Rattle.relay.specs.Arrival.{Arrival, said}
use Rattle.relay.specs.Sjoin.{resulting, joined_rules, is_earlier, joined}
use Rattle.relay.specs.Commands.{Sjoin, command_among, command_in}
use Rattle.relay.specs.Relay.{meaning_in, taken_rules, process_rules}
use Rattle.relay.proofs.Results.{slot-told, room-left, earlier-free}

-- ---- the rules
-- a line that reads as SJOIN, or isn't read
abbrev pub IsJoin : List ℕ → Type 0
IsJoin line = (map capital (content_of line).command ≡ sjoin) ⊎ (is_read line ≡ false)

-- its command is SJOIN
pub command-join : (line : List ℕ) → map capital (content_of line).command ≡ sjoin → command_in line ≡ Sjoin
unfolding command_among
command-join line e = rw (e, same_refl sjoin)

-- the rules of a line on a well-formed table up to the reader's
abbrev reader_rules : Links → Arrival → ℕ → List Rule
reader_rules links a n =
    output_too_short when ltb n line_limit
    ∷ bad_link when not (has_link links.set a.link)
    ∷ line_rules a.line

-- and of an SJOIN those on its slots apart
abbrev pub earlier_rules : Links → Arrival → ℕ → List Rule
earlier_rules links a n = reader_rules links a n ++ join_rules (said a)

module _ (links : Links) (a : Arrival) (n : ℕ) where
  reader-numbered : numbered (reader_rules links a n) ≡ true
  unfolding line_rules body_rules
  reader-numbered = refl

  earlier-numbered : numbered (earlier_rules links a n) ≡ true
  unfolding line_rules body_rules join_rules mode_rules
  earlier-numbered = refl

  reader-none : first_of (reader_rules links a n) ≡ accepted → number_for a.line ≡ accepted
  unfolding number_for
  reader-none e = (first-none _ _ (λ z. omega arith) (first-none _ _ (λ z. omega arith) e).1).1

module _ (a : Arrival) (is : IsJoin a.line) where
  -- no rule of the line applies: it is SJOIN, and what it tells of is proper
  pub entered : (links : Links) (n : ℕ) → first_of (earlier_rules links a n) ≡ accepted → (map capital (said a).command ≡ sjoin) × Proper (channel_in (said a))
  unfolding is_read
  entered links n e = go is
    where
      none : (first_of (reader_rules links a n) ≡ accepted) × (first_of (join_rules (said a)) ≡ accepted)
      none = both-none (join_rules (said a)) (reader_rules links a n) (reader-numbered links a n) e

      read : number_for a.line ≡ accepted
      read = reader-none links a n none.0

      go : IsJoin a.line → (map capital (said a).command ≡ sjoin) × Proper (channel_in (said a))
      go (inl s) = (s, read-proper a.line (eq-eqb (number_for a.line) accepted read) none.1)
      go (inr u) = absurd (refused-number a.line u read)

  module _ (t : Table) (good : good_table t ≡ true) (n : ℕ) where
    process-rules : first_of (process_rules t a n) ≡ first_of (earlier_rules t.links a n ++ joined_rules (network_of t) (channel_in (said a)))
    unfolding process_rules taken_rules
    process-rules = skip _ _ (ap not good) ∙ go is
      where
        reader : List Rule
        reader = reader_rules t.links a n

        own : List Rule
        own = join_rules (said a)

        slotted : List Rule
        slotted = joined_rules (network_of t) (channel_in (said a))

        go : IsJoin a.line → first_of (reader ++ (meaning_in a).rules (network_of t) a) ≡ first_of ((reader ++ own) ++ slotted)
        go (inl s) = rw (command-join a.line s) (ap first_of (sym (append_assoc reader own slotted)))
        go (inr u) =
            let ne : first_of reader ≡ accepted → ⊥ = λ z. refused-number a.line u (reader-none t.links a n z) in
            append-some _ reader ne ∙ sym (append-some (own ++ slotted) reader ne) ∙ ap first_of (sym (append_assoc reader own slotted))

    -- a rule that isn't about the slots
    pub join-refused : (first_of (earlier_rules t.links a n) ≡ accepted → ⊥) → first_of (process_rules t a n) ≡ first_of (earlier_rules t.links a n)
    join-refused ne = process-rules ∙ append-some _ _ ne

    -- none of those: 21 and 22 are left
    pub join-entered : first_of (earlier_rules t.links a n) ≡ accepted → first_of (process_rules t a n) ≡ first_of (joined_rules (network_of t) (channel_in (said a)))
    join-entered e = process-rules ∙ append-none _ _ (earlier-numbered t.links a n) e

-- ---- the slots
module _ (n : Network) (c : Channel) (k : ℕ) where
  -- the channel is new
  pub opened : slot_in n c.name ≡ Free k → joined n c ≡ with_slots n (set n.slots k (encode c))
  unfolding joined resulting
  opened e = rw (earlier-free n c k e, e)

  -- the channel is there
  module _ (e : slot_in n c.name ≡ Held k) where
    -- what is told is merged into it; where it has no masks, its list stays as it is
    pub merged : list_at n.bans k ≡ empty_list.room → joined n c ≡ with_slots n (set n.slots k (encode (merge (decode (get_or n.slots k empty_record)) c)))
    unfolding joined resulting
    merged z = rw e (ap (λ (b : List ℕ). record { slots = set n.slots k (encode (merge (decode (get_or n.slots k empty_record)) c)); bans = b }) (unmasked (is_earlier n c)))
      where
        unmasked : (b : Bool) → emptied_if b k n.bans ≡ n.bans
        unmasked true = stored_same n.bans k empty_list (ap (λ (s : List ℕ). length s) z ∙ empty-whole) z
        unmasked false = refl

    -- and has room for the members of both
    pub merge-room : length (merge (decode (get_or n.slots k empty_record)) c).members ≤ member_limit → first_of (joined_rules n c) ≡ accepted
    unfolding resulting
    merge-room h = room-left n c (slot-told n c (Held k) e) ∙ skip _ _ (rw e (le-ltb member_limit (length (merge (decode (get_or n.slots k empty_record)) c).members) h)) ∙ first-nil
