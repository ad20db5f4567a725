-- What the rules of BMASK give, test by test, and what is known of a line that none of them refuses. Assumes nothing.
use Prim.Native.Nat.{ℕ, ◌≤◌}
use mathlib.Core.Path.{◌≡◌, refl, sym, ap, ◌∙◌}
use mathlib.Core.Bool.{true, false, not}
use mathlib.Core.List.{List, []}
use mathlib.Core.Option
use native.Mathlib.Omega.{arith}
use lib.ListN.{length}
use lib.Dec.{eqb}
use borrow.Author.Tests.{eq-eqb, ne_eqb, eqb-true, not-false}
use Rattle.refusal.specs.Numbers.{accepted, wrong_param_count, bad_source, bad_masks}
use Rattle.refusal.specs.Rules.{first_of, ascend, ascend_from, place_in}
use Rattle.refusal.proofs.Rules.{skip, stop, first-nil, first-none, plain_rules, numbered, append-some, append-none, both-none}
use Rattle.laws.specs.Lists.{all, is_nil, same}
use Rattle.laws.proofs.Bools.{and_right, both_ways}
use Rattle.octets.specs.Decimals.{value_of}
use Rattle.names.specs.Names.{is_channel, is_server_id}
use Rattle.names.proofs.UserIds.{no-server-id}
use Rattle.channel.specs.Limits.{time_limit}
use Rattle.bans.specs.Masks.{is_mask}
use Rattle.message.specs.declared.Message.{Message}
use Rattle.message.specs.Content.{Content, prefix_is}
use Rattle.message.specs.Grammar.{param_limit}
use Rattle.message.specs.Parts.{content_by}
use Rattle.message.proofs.SpanContents.{params-count}
use Rattle.message.proofs.Prefixes.{prefix-told}
use Rattle.sjoin.specs.Join.{time_in, name_in, time_of, head_rules}
use Rattle.sjoin.proofs.Judged.{Heads, heads, time-said, time-bounds}
use Rattle.bmask.specs.Masks.{Listing, param_count, type_in, mask_list_in, ban_type, listed, good_masks, source_rules, masks_rules, telling_rules, bmask_rules, listing_in}

-- The rules stand in the order of their numbers: the first in it that applies is given.
pub rules-ascend : (c : Content) → ascend (bmask_rules c) ≡ true
unfolding ascend_from bmask_rules place_in
rules-ascend c = refl

-- none of them is `accepted`
pub rules-numbered : (c : Content) → numbered (bmask_rules c) ≡ true
unfolding bmask_rules
rules-numbered c = refl

-- and none is one of modes
pub rules-plain : (c : Content) → plain_rules (bmask_rules c) ≡ true
unfolding bmask_rules
rules-plain c = refl

-- ---- the numbers, in their order
module _ (c : Content) where
  -- another count of parameters gives the number of a wrong count
  pub uncounted : (length c.params ≡ param_count → ⊥) → wrong_param_count ≡ first_of (bmask_rules c)
  unfolding bmask_rules
  uncounted ne = sym (stop _ _ (ap not (ne_eqb (length c.params) param_count ne)))

  module _ (n : length c.params ≡ param_count) where
    -- with the right one, a source that is no server id gives its number
    pub unsourced : prefix_is is_server_id c.prefix ≡ false → bad_source ≡ first_of (bmask_rules c)
    unfolding bmask_rules
    unsourced e = sym (skip _ _ (ap not (eq-eqb (length c.params) param_count n)) ∙ stop _ _ (ap not e))

    module _ (s : prefix_is is_server_id c.prefix ≡ true) where
      telling-decides : first_of (bmask_rules c) ≡ first_of (telling_rules c)
      unfolding bmask_rules
      telling-decides = skip _ _ (ap not (eq-eqb (length c.params) param_count n)) ∙ skip _ _ (ap not s)

      -- behind these a rule of time and name that applies decides
      pub head-decides : (first_of (head_rules c) ≡ accepted → ⊥) → first_of (bmask_rules c) ≡ first_of (head_rules c)
      head-decides ne = telling-decides ∙ append-some (masks_rules c) (head_rules c) ne

      module _ (h : first_of (head_rules c) ≡ accepted) where
        masks-decide : first_of (bmask_rules c) ≡ first_of (masks_rules c)
        masks-decide = telling-decides ∙ append-none (masks_rules c) (head_rules c) refl h

        -- behind these another type gives the number of bad masks
        pub untyped : same (type_in c) ban_type ≡ false → bad_masks ≡ first_of (bmask_rules c)
        untyped e = sym (masks-decide ∙ stop _ _ (rw e))

        module _ (t : same (type_in c) ban_type ≡ true) where
          -- a bad list gives it as well
          pub unmasked : good_masks (mask_list_in c) ≡ false → bad_masks ≡ first_of (bmask_rules c)
          unmasked e = sym (masks-decide ∙ stop _ _ (rw (t, e)))

          -- where the list is good too, no rule refuses the message
          pub taken : good_masks (mask_list_in c) ≡ true → accepted ≡ first_of (bmask_rules c)
          taken e = sym (masks-decide ∙ skip _ _ (rw (t, e)) ∙ first-nil)

-- ---- what is known of a message that no rule refuses
module _ (c : Content) (none : first_of (bmask_rules c) ≡ accepted) where
  telling : (first_of (head_rules c) ≡ accepted) × (first_of (masks_rules c) ≡ accepted)
  unfolding bmask_rules
  telling = both-none (masks_rules c) (head_rules c) refl (both-none (telling_rules c) (source_rules c) refl none).1

  -- time and name pass the tests of SJOIN's
  pub headed : Heads c
  headed = heads c telling.0

  -- the name is one of a channel
  pub named : is_channel (name_in c) ≡ true
  named = headed.name

  -- the time is from 1 up to the last
  pub timed : (1 ≤ value_of (time_in c)) × (value_of (time_in c) ≤ time_limit)
  timed = time-bounds (time_in c) headed.time headed.after

  -- every word of the list is a mask
  pub masked : all is_mask (listed (mask_list_in c)) ≡ true
  unfolding good_masks
  masked =
      let e = not-false _ (first-none _ _ (λ z. omega arith) telling.1).0 in
      and_right (not (is_nil (listed (mask_list_in c)))) _ (and_right (same (type_in c) ban_type) _ e)

-- ---- the answer to a message whose parts are spans
module _ (text : List ℕ) (m : Message) (k : ℕ) (is : k ≡ first_of (bmask_rules (content_by text m))) where
  -- the number of a rule that applies, and no time
  pub in-refused : (k ≡ accepted → ⊥) → ◌≡◌ {A = Listing} (record { number = k; time = 0 }) (listing_in text m)
  unfolding listing_in
  in-refused ne = rw (← is, ne_eqb k accepted ne)

  -- where none applies, the time that is read
  pub in_taken : (time : ℕ) → k ≡ accepted → time ≡ time_of (time_in (content_by text m)) → ◌≡◌ {A = Listing} (record { number = k; time = time }) (listing_in text m)
  unfolding listing_in
  in_taken time e t =
      let v : time ≡ value_of (time_in (content_by text m)) = t ∙ time-said (time_in (content_by text m)) (headed (content_by text m) (sym is ∙ e)).time in
      rw (← is, eq-eqb k accepted e, v)

-- ---- what the code finds of a message whose parts are spans
-- its count of parameters is the right one exactly if the message's is
pub counted : (text : List ℕ) (m : Message) → length m.params ≡ param_limit → eqb (length (content_by text m).params) param_count ≡ eqb m.count param_count
counted text m full =
    let n = params-count text m full in
    both_ways (eqb (length (content_by text m).params) param_count) (eqb m.count param_count)
    (λ e. eq-eqb m.count param_count (omega (arith, n, eqb-true (length (content_by text m).params) param_count e)))
    (λ e. eq-eqb (length (content_by text m).params) param_count (omega (arith, n, eqb-true m.count param_count e)))

-- and its source is a server id exactly if the text of the prefix is, as the empty one isn't
pub sourced : (text : List ℕ) (m : Message) → prefix_is is_server_id (content_by text m).prefix ≡ is_server_id (Option.get_or (content_by text m).prefix [])
sourced text m = prefix-told is_server_id no-server-id (content_by text m).prefix _ _ _ refl refl refl

pub ruleset judging = (counted, sourced)
