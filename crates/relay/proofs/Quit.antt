-- QUIT is lawful: nothing in the network refuses it, a slot that loses a member stays good, and the line goes out as read. Assumes nothing.
use Prim.Native.Nat.{ℕ, ◌≤◌, ◌<◌}
use mathlib.Core.Path.{◌≡◌, refl, ap, ◌∙◌, sym}
use mathlib.Core.Bool.{true, false, not, true≢false}
use mathlib.Core.List.{[], ◌∷◌, map}
use native.Mathlib.Omega.{arith}
use lib.ListN.{length, length-map}
use borrow.Author.Tests.{le-leb, lt-leb}
use Rattle.std.specs.Prelude.{Result, Ok}
use Rattle.refusal.specs.Numbers.{accepted, wrong_param_count, bad_source}
use Rattle.refusal.specs.Rules.{◌when◌, first_of, ascend_from, place_in}
use Rattle.refusal.proofs.Rules.{plain_rules, first_plain, skip, stop, first-nil}
use Rattle.laws.proofs.Lists.{all_map}
use Rattle.names.specs.Names.{is_user_id}
use Rattle.message.specs.Content.{Content, prefix_is, source_in}
use Rattle.channel.specs.Members.{without}
use Rattle.table.specs.Network.{Network}
use Rattle.table.specs.Table.{good_network}
use Rattle.table.specs.Private.Parts.{good_record}
use Rattle.table.proofs.WellFormed.{network-made, slots-few, slots-good, slots-distinct}
use Rattle.table.proofs.Changing.{without-good, without-keeps, kept_map, distinct-kept}
use Rattle.relay.specs.Commands.{Quit}
use Rattle.relay.specs.declared.Change.{Change}
use Rattle.relay.specs.Arrival.{Arrival, said}
use Rattle.relay.specs.Quit.{quit_rules, quitted, meaning}
use Rattle.relay.specs.Private.Quit.{quits}
use Rattle.relay.proofs.Judgements.{Judged, settles}
use Rattle.relay.proofs.Lawful.{BehindReader, Lawful}
use Rattle.relay.proofs.AsRead.{as_read}
use Rattle.relay.proofs.Leaving.{left-lists}

-- ---- its rules
module _ (c : Content) where
  -- too many parameters
  pub quit-many : 1 < length c.params → first_of (quit_rules c) ≡ wrong_param_count
  unfolding quit_rules
  quit-many h = stop _ _ (ap not (lt-leb (length c.params) 1 h))

  module _ (h : length c.params ≤ 1) where
    quit-counted : first_of (quit_rules c) ≡ first_of (bad_source when not (prefix_is is_user_id c.prefix) ∷ [])
    unfolding quit_rules
    quit-counted = skip _ _ (ap not (le-leb (length c.params) 1 h))

    -- no user
    pub quit-unsourced : prefix_is is_user_id c.prefix ≡ false → first_of (quit_rules c) ≡ bad_source
    quit-unsourced u = quit-counted ∙ stop _ _ (ap not u)

    -- nothing to refuse
    pub quit-passes : prefix_is is_user_id c.prefix ≡ true → first_of (quit_rules c) ≡ accepted
    quit-passes u = quit-counted ∙ skip _ _ (ap not u) ∙ first-nil

-- ---- what it comes to
module _ (n : Network) (a : Arrival) where
  ordered : BehindReader (meaning.rules n a)
  unfolding ascend_from place_in quit_rules
  ordered = refl

  unplaced : plain_rules (meaning.rules n a) ≡ true
  unfolding quit_rules
  unplaced = refl

  judged : first_of (quit_rules (said a)) ≡ accepted → (r : Result Change ℕ) → r ≡ Ok (quits (source_in (said a))) → Judged meaning n a r
  unfolding quitted
  judged own r e = settles meaning n a accepted own r (quits (source_in (said a))) (λ _. record { inside = omega arith; network = refl; sends = (refl, refl) }) e

  keeps : good_network n ≡ true → good_network (quitted n (said a)) ≡ true
  unfolding quitted
  keeps good =
      let id = source_in (said a) in
      let gone = without id in
      network-made (quitted n (said a)) (omega (arith, length-map n.slots gone, slots-few n good)) (all_map good_record gone (without-good id) n.slots (slots-good n good)) (left-lists id n good)
      (distinct-kept n.slots (map gone n.slots) (kept_map gone (without-keeps id) n.slots) (slots-distinct n good))

own-unplaced : (c : Content) → plain_rules (quit_rules c) ≡ true
unfolding quit_rules
own-unplaced c = refl

-- QUIT is lawful.
pub lawful : Lawful Quit
lawful = record {
  ordered = ordered;
  first = λ n a ne. refl;
  modes = λ c e. absurd (true≢false (sym e ∙ first_plain (quit_rules c) (own-unplaced c)));
  plain = λ n a own. first_plain (meaning.rules n a) (unplaced n a);
  judged = λ n a good read own r e. judged n a own r e;
  keeps = λ n a p. keeps n a p.good;
  reads = λ n a p. as_read a.line p.read;
}
