-- BMASK is lawful: its request is settled to the list with its masks, where there is room; a line that is later than its channel comes to nothing; and it goes out as
-- read. Assumes nothing.
use Prim.Native.Nat.{ℕ, ◌<◌}
use mathlib.Core.Path.{◌≡◌, refl, sym, ap, ◌∙◌}
use mathlib.Core.Bool.{Bool, true, false, not, cond, ◌&&◌, false≢true, true≢false}
use mathlib.Core.List.{List, [], ◌∷◌}
use native.Mathlib.Omega.{arith}
use lib.ListN.{length, get_or}
use lib.Dec.{ltb}
use borrow.Author.Tests.{not-false}
use Rattle.std.specs.Prelude.{Result, Ok, Err}
use Rattle.refusal.specs.Numbers.{accepted, no_such_channel, too_many_masks}
use Rattle.refusal.specs.Rules.{◌when◌, first_of, ascend_from, place_in}
use Rattle.refusal.proofs.Rules.{plain_rules, first_plain, skip, stop, first-nil, first-none, append-some, append-none, both-none}
use Rattle.laws.specs.Lists.{all}
use Rattle.octets.specs.Decimals.{value_of}
use Rattle.channel.specs.declared.Record.{Record}
use Rattle.channel.specs.Limits.{ban_limit}
use Rattle.channel.specs.Record.{empty_record}
use Rattle.bans.specs.Masks.{is_mask}
use Rattle.bans.specs.WellFormed.{well_formed_list}
use Rattle.bans.specs.Putting.{Added, add_answer}
use Rattle.bans.specs.Slots.{list_at, list_of, list_with}
use Rattle.bans.proofs.Slots.{used-list, load-whole}
use Rattle.bans.proofs.Uniting.{add-full, add-keeps, add-list}
use Rattle.table.specs.Network.{Network, list_in, with_list}
use Rattle.table.specs.Table.{is_free, good_network}
use Rattle.table.specs.Slots.{Found, Slot, Held, Free, Full, slot_in, held_in, is_held}
use Rattle.table.proofs.Searching.{slot_held}
use Rattle.table.proofs.WellFormed.{holding-used, list-good, list-whole, list-change}
use Rattle.sjoin.specs.Join.{time_in, name_in}
use Rattle.bmask.specs.Masks.{mask_list_in, listed, bmask_rules}
use Rattle.bmask.proofs.Rules.{rules-numbered, rules-plain, masked as are-masks}
use Rattle.relay.specs.Commands.{Bmask}
use Rattle.relay.specs.declared.Change.{Change}
use Rattle.relay.specs.Arrival.{Arrival, said}
use Rattle.relay.specs.Bmask.{is_later, masks_with, masked_rules, masked, meaning}
use Rattle.relay.specs.Private.Bmask.{with_masks, nothing, adds, masks_held, masks_found}
use Rattle.relay.proofs.Judgements.{Judged, refused-judged, settles}
use Rattle.relay.proofs.Lawful.{BehindReader, Lawful}
use Rattle.relay.proofs.AsRead.{as_read}
use Rattle.relay.proofs.Asking.{name-found}

module _ (n : Network) (a : Arrival) where
  ordered : BehindReader (meaning.rules n a)
  unfolding ascend_from place_in bmask_rules masked_rules
  ordered = refl

  unplaced : plain_rules (meaning.rules n a) ≡ true
  unfolding bmask_rules masked_rules
  unplaced = refl

  module _ (own : first_of (bmask_rules (said a)) ≡ accepted) where
    -- the rules of its slot are left
    rest : first_of (meaning.rules n a) ≡ first_of (masked_rules n (said a))
    rest = append-none (masked_rules n (said a)) (bmask_rules (said a)) (rules-numbered (said a)) own

    absent : is_held (slot_in n (name_in (said a))) ≡ false → first_of (meaning.rules n a) ≡ no_such_channel
    unfolding masked_rules
    absent e = rest ∙ stop _ _ (ap not e)

    -- ---- slot k holds the name
    module _ (good : good_network n ≡ true) (k : ℕ) (e : slot_in n (name_in (said a)) ≡ Held k) where
      abbrev held : Record
      held = get_or n.slots k empty_record

      inside : k < length n.slots
      inside = (slot_held n.slots (name_in (said a)) empty_record k e).inside

      used : is_free held ≡ false
      used = holding-used (name_in (said a)) held (slot_held n.slots (name_in (said a)) empty_record k e).passes

      -- its list is well formed, and is what is loaded
      well : well_formed_list (list_in n k).room ≡ true
      well = sym (used-list (list_at n.bans k)) ∙ (rw used at (list-good n good k empty_record inside))

      loaded : list_of (list_at n.bans k) ≡ list_in n k
      loaded = ap (λ (s : List ℕ). record { room = s }) (load-whole (list_at n.bans k) (list-whole n good k inside))

      abbrev added : Added
      added = add_answer (listed (mask_list_in (said a))) (list_in n k)

      with-masks : with_masks n.bans k (mask_list_in (said a)) ≡ added
      with-masks = ap (add_answer (listed (mask_list_in (said a)))) loaded

      in-masks : all is_mask (listed (mask_list_in (said a))) ≡ true
      in-masks = are-masks (said a) own

      full : added.full ≡ ltb ban_limit (length (masks_with n (said a)))
      unfolding masks_with
      full = rw e (add-full (listed (mask_list_in (said a))) (list_in n k) well in-masks)

      later : is_later n (said a) ≡ ltb held.time (value_of (time_in (said a)))
      unfolding is_later
      later = rw e

      -- number 27 is left
      room-decides : first_of (meaning.rules n a) ≡ first_of (too_many_masks when (not (is_later n (said a)) && added.full) ∷ [])
      unfolding masked_rules
      room-decides = rest ∙ skip _ _ (rw e) ∙ rw full

      -- where there is room, the list has the masks of both
      made : added.full ≡ false → (well_formed_list (list_with (masks_with n (said a))).room ≡ true) × (added.list ≡ list_with (masks_with n (said a)))
      unfolding masks_with
      made f =
          let l = listed (mask_list_in (said a)) in
          let is = add-list l (list_in n k) well in-masks f in
          rw e (rw is at (add-keeps l (list_in n k) well in-masks f).0, is)

      judged-held : (r : Result Change ℕ) → r ≡ masks_held k held (value_of (time_in (said a))) (mask_list_in (said a)) n.bans → Judged meaning n a r
      unfolding masks_held masked
      judged-held r f = go (is_later n (said a)) refl added.full refl
        where
          is : (t : Bool) → is_later n (said a) ≡ t → (u : Bool) → added.full ≡ u → r ≡ cond t (Ok nothing) (cond u (Err too_many_masks) (Ok (adds k)))
          is t g u h = f ∙ rw (sym later ∙ g, with-masks, h)

          go : (t : Bool) → is_later n (said a) ≡ t → (u : Bool) → added.full ≡ u → Judged meaning n a r
          go true g u h = settles meaning n a accepted (room-decides ∙ skip _ _ (rw g) ∙ first-nil) r nothing (λ _. record { inside = omega arith; network = rw g; sends = ap not g }) (is true g u h)
          go false g true h = refused-judged meaning n a too_many_masks (room-decides ∙ stop _ _ (rw (g, h))) r (is false g true h)
          go false g false h =
              settles meaning n a accepted (room-decides ∙ skip _ _ (rw (g, h)) ∙ first-nil) r (adds k)
              (λ _. record { inside = omega arith; network = rw (g, e, with-masks) (ap (with_list n k) (made h).1); sends = (ap not g, refl) }) (is false g false h)

    settled : good_network n ≡ true → (r : Result Change ℕ) (s : Slot) → slot_in n (name_in (said a)) ≡ s
        → r ≡ masks_found s (held_in n.slots s) (value_of (time_in (said a))) (mask_list_in (said a)) n.bans → Judged meaning n a r
    settled good r (Held k) e f = judged-held good k e r f
    settled good r (Free k) e f = refused-judged meaning n a no_such_channel (absent (ap is_held e)) r f
    settled good r Full e f = refused-judged meaning n a no_such_channel (absent (ap is_held e)) r f

  -- ---- where no rule refuses it
  own-none : first_of (meaning.rules n a) ≡ accepted → (first_of (bmask_rules (said a)) ≡ accepted) × (first_of (masked_rules n (said a)) ≡ accepted)
  own-none none = both-none (masked_rules n (said a)) (bmask_rules (said a)) (rules-numbered (said a)) none

  keeps : good_network n ≡ true → first_of (meaning.rules n a) ≡ accepted → good_network (masked n (said a)) ≡ true
  unfolding masked masked_rules
  keeps good none = go (slot_in n (name_in (said a))) refl (is_later n (said a)) refl
    where
      own : first_of (bmask_rules (said a)) ≡ accepted
      own = (own-none none).0

      there : is_held (slot_in n (name_in (said a))) ≡ true
      there = not-false _ (first-none _ _ (λ z. omega arith) (own-none none).1).0

      go : (s : Slot) → slot_in n (name_in (said a)) ≡ s → (t : Bool) → is_later n (said a) ≡ t → good_network (masked n (said a)) ≡ true
      go (Held k) e true g = rw g good
      go (Held k) e false g =
          let room : (added own good k e).full ≡ false = rw g at (first-none _ _ (λ z. omega arith) (sym (room-decides own good k e) ∙ none)).0 in
          rw (g, e) (list-change n good k (inside own good k e) (list_with (masks_with n (said a))) (used own good k e) (made own good k e room).0)
      go (Free k) e t g = absurd (false≢true (ap is_held (sym e) ∙ there))
      go Full e t g = absurd (false≢true (ap is_held (sym e) ∙ there))

-- BMASK is lawful.
pub lawful : Lawful Bmask
lawful = record {
  ordered = ordered;
  first = λ n a ne. append-some (masked_rules n (said a)) (bmask_rules (said a)) ne;
  modes = λ c e. absurd (true≢false (sym e ∙ first_plain (bmask_rules c) (rules-plain c)));
  plain = λ n a own. first_plain (meaning.rules n a) (unplaced n a);
  judged = λ n a good read own r e.
      let found = name-found a.line n.slots 1 (omega arith) in
      settled n a own good r (slot_in n (name_in (said a))) refl
      (e ∙ ap (λ (f : Found). masks_found f.slot f.«record» (value_of (time_in (said a))) (mask_list_in (said a)) n.bans) found);
  keeps = λ n a p. keeps n a p.good p.none;
  reads = λ n a p. as_read a.line p.read;
}
