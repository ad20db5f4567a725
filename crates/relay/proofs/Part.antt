-- PART is lawful: its request is settled to the record that its slot is left with, which keeps its name or is empty, and the line goes out as read. Assumes nothing.
use Prim.Native.Nat.{ℕ, ◌≤◌, ◌<◌}
use mathlib.Core.Path.{◌≡◌, refl, ap, ◌∙◌, sym}
use mathlib.Core.Bool.{Bool, true, false, not, false≢true, true≢false}
use mathlib.Core.List.{List, [], ◌∷◌}
use native.Mathlib.Omega.{arith}
use lib.ListN.{length, get_or, set}
use lib.Dec.{leb}
use borrow.Author.Tests.{le-leb, leb-true, not-false}
use Rattle.std.specs.Prelude.{Result}
use Rattle.refusal.specs.Numbers.{accepted, wrong_param_count, bad_source, bad_name, no_such_channel, not_on_channel}
use Rattle.refusal.specs.Rules.{◌when◌, first_of, ascend_from, place_in}
use Rattle.refusal.proofs.Rules.{plain_rules, first_plain, skip, stop, first-nil, first-none, numbered, append-some, append-none, both-none}
use Rattle.names.specs.Names.{is_channel, is_user_id}
use Rattle.message.specs.Content.{Content, prefix_is, source_in}
use Rattle.channel.specs.declared.Record.{Record}
use Rattle.channel.specs.Limits.{slot_count}
use Rattle.channel.specs.Members.{has_member, without}
use Rattle.channel.specs.Record.{decode, empty_record}
use Rattle.bans.specs.Slots.{list_at}
use Rattle.table.specs.Network.{Network, with_slots, with_bans, emptied_if}
use Rattle.table.specs.Table.{good_network}
use Rattle.table.specs.Slots.{Found, Slot, Held, Free, Full, slot_in, held_in, is_held, place_of}
use Rattle.table.proofs.Searching.{slot_held}
use Rattle.table.proofs.WellFormed.{slots-few, slots-good, slots-distinct, list-good, slot-change}
use Rattle.table.proofs.Changing.{good-at, without-good, without-keeps, kept_set, distinct-kept}
use Rattle.relay.specs.Commands.{Part}
use Rattle.relay.specs.declared.Change.{Change}
use Rattle.relay.specs.Arrival.{Arrival, said}
use Rattle.relay.specs.Leaving.{is_last}
use Rattle.relay.specs.Part.{parted_in, part_rules, parted_rules, parted, meaning}
use Rattle.relay.specs.Private.Part.{parts, parts_held, parts_found}
use Rattle.relay.proofs.Judgements.{Judged, refused-judged, settles}
use Rattle.relay.proofs.Lawful.{BehindReader, Lawful}
use Rattle.relay.proofs.AsRead.{as_read}
use Rattle.relay.proofs.Asking.{name-found}
use Rattle.relay.proofs.Leaving.{left-list}

-- ---- its own rules
module _ (c : Content) where
  own-numbered : numbered (part_rules c) ≡ true
  unfolding part_rules
  own-numbered = refl

  -- too few or too many parameters
  pub part-miscounted : (1 ≤ length c.params → length c.params ≤ 2 → ⊥) → first_of (part_rules c) ≡ wrong_param_count
  unfolding part_rules
  part-miscounted ne = go (leb 1 (length c.params)) refl (leb (length c.params) 2) refl
    where
      go : (t : Bool) → leb 1 (length c.params) ≡ t → (u : Bool) → leb (length c.params) 2 ≡ u → first_of (part_rules c) ≡ wrong_param_count
      go true h true k = absurd (ne (leb-true 1 (length c.params) h) (leb-true (length c.params) 2 k))
      go true h false k = stop _ _ (rw (h, k))
      go false h u k = stop _ _ (rw h)

  module _ (h : 1 ≤ length c.params) (l : length c.params ≤ 2) where
    part-counted : first_of (part_rules c) ≡ first_of (bad_source when not (prefix_is is_user_id c.prefix) ∷ bad_name when not (is_channel (parted_in c)) ∷ [])
    unfolding part_rules
    part-counted = skip _ _ (rw (le-leb 1 (length c.params) h, le-leb (length c.params) 2 l))

    -- no user
    pub part-unsourced : prefix_is is_user_id c.prefix ≡ false → first_of (part_rules c) ≡ bad_source
    part-unsourced u = part-counted ∙ stop _ _ (ap not u)

    module _ (u : prefix_is is_user_id c.prefix ≡ true) where
      -- no channel's name
      pub part-unnamed : is_channel (parted_in c) ≡ false → first_of (part_rules c) ≡ bad_name
      part-unnamed m = part-counted ∙ skip _ _ (ap not u) ∙ stop _ _ (ap not m)

      -- nothing to refuse
      pub part-passes : is_channel (parted_in c) ≡ true → first_of (part_rules c) ≡ accepted
      part-passes m = part-counted ∙ skip _ _ (ap not u) ∙ skip _ _ (ap not m) ∙ first-nil

-- ---- in its slot
module _ (n : Network) (a : Arrival) where
  ordered : BehindReader (meaning.rules n a)
  unfolding ascend_from place_in part_rules parted_rules
  ordered = refl

  unplaced : plain_rules (meaning.rules n a) ≡ true
  unfolding part_rules parted_rules
  unplaced = refl

  module _ (own : first_of (part_rules (said a)) ≡ accepted) where
    -- the rules of its slot are left
    rest : first_of (meaning.rules n a) ≡ first_of (parted_rules n (said a))
    rest = append-none (parted_rules n (said a)) (part_rules (said a)) (own-numbered (said a)) own

    absent : is_held (slot_in n (parted_in (said a))) ≡ false → first_of (meaning.rules n a) ≡ no_such_channel
    unfolding parted_rules
    absent e = rest ∙ stop _ _ (ap not e)

    module _ (k : ℕ) (e : slot_in n (parted_in (said a)) ≡ Held k) where
      abbrev held : Record
      held = get_or n.slots k empty_record

      abbrev present : Bool
      present = has_member (source_in (said a)) (decode held).members

      user-decides : first_of (meaning.rules n a) ≡ first_of (not_on_channel when not present ∷ [])
      unfolding parted_rules
      user-decides = rest ∙ rw e (skip _ _ refl)

      judged-held : k < slot_count → (r : Result Change ℕ) → r ≡ parts_held k held (source_in (said a)) → Judged meaning n a r
      unfolding parts_held parted
      judged-held i r f = go present refl
        where
          go : (t : Bool) → present ≡ t → Judged meaning n a r
          go true h =
              settles meaning n a accepted (user-decides ∙ skip _ _ (ap not h) ∙ first-nil) r (parts k held (source_in (said a))) (λ _. record { inside = i; network = rw e; sends = (refl, refl) }) (f ∙ rw h)
          go false h = refused-judged meaning n a not_on_channel (user-decides ∙ stop _ _ (ap not h)) r (f ∙ rw h)

    settled : good_network n ≡ true → (r : Result Change ℕ) (s : Slot) → slot_in n (parted_in (said a)) ≡ s → r ≡ parts_found s (held_in n.slots s) (source_in (said a)) → Judged meaning n a r
    settled good r (Held k) e f = judged-held k e (omega (arith, (slot_held n.slots (parted_in (said a)) empty_record k e).inside, slots-few n good)) r f
    settled good r (Free k) e f = refused-judged meaning n a no_such_channel (absent (ap is_held e)) r f
    settled good r Full e f = refused-judged meaning n a no_such_channel (absent (ap is_held e)) r f

  -- ---- where no rule refuses it
  -- it names a channel that is there
  names-held : first_of (meaning.rules n a) ≡ accepted → is_held (slot_in n (parted_in (said a))) ≡ true
  unfolding parted_rules
  names-held none = not-false _ (first-none _ _ (λ z. omega arith) (both-none (parted_rules n (said a)) (part_rules (said a)) (own-numbered (said a)) none).1).0

  keeps : good_network n ≡ true → is_held (slot_in n (parted_in (said a))) ≡ true → good_network (parted n (said a)) ≡ true
  unfolding parted
  keeps good = go (slot_in n (parted_in (said a))) refl
    where
      slots : List Record
      slots = n.slots

      id : List ℕ
      id = source_in (said a)

      left : Slot → Network
      left s = with_bans (with_slots n (set slots (place_of slots s) (without id (held_in slots s)))) (emptied_if (is_last id (held_in slots s)) (place_of slots s) n.bans)

      go : (s : Slot) → slot_in n (parted_in (said a)) ≡ s → is_held s ≡ true → good_network (left s) ≡ true
      go (Held k) e h =
          let r = get_or slots k empty_record in
          let inside = (slot_held slots (parted_in (said a)) empty_record k e).inside in
          slot-change n good k inside (without id r) (is_last id r) (without-good id r (good-at slots k (slots-good n good)))
          (distinct-kept slots (set slots k (without id r)) (kept_set slots k (without id r) (without-keeps id r)) (slots-distinct n good))
          (left-list id r (list_at n.bans k) (list-good n good k empty_record inside))
      go (Free k) e h = absurd (false≢true h)
      go Full e h = absurd (false≢true h)

own-unplaced : (c : Content) → plain_rules (part_rules c) ≡ true
unfolding part_rules
own-unplaced c = refl

-- PART is lawful.
pub lawful : Lawful Part
lawful = record {
  ordered = ordered;
  first = λ n a ne. append-some (parted_rules n (said a)) (part_rules (said a)) ne;
  modes = λ c e. absurd (true≢false (sym e ∙ first_plain (part_rules c) (own-unplaced c)));
  plain = λ n a own. first_plain (meaning.rules n a) (unplaced n a);
  judged = λ n a good read own r e.
      let found = name-found a.line n.slots 0 (omega arith) in
      settled n a own good r (slot_in n (parted_in (said a))) refl (e ∙ ap (λ (f : Found). parts_found f.slot f.«record» (source_in (said a))) found);
  keeps = λ n a p. keeps n a p.good (names-held n a p.none);
  reads = λ n a p. as_read a.line p.read;
}
