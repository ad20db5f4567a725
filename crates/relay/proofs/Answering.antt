-- The answer to a line, by the rule that refuses it, or by the change that it is judged to be where none does. Assumes nothing.
use Prim.Native.Nat.{ℕ, ◌≤◌}
use mathlib.Core.Path.{◌≡◌, ap, ◌∙◌}
use mathlib.Core.Bool.{true, not, ◌&&◌}
use mathlib.Core.List.{List, []}
use native.Mathlib.Omega.{arith}
use lib.ListN.{length}
use borrow.Author.Tests.{ne_eqb, le-ltb, not-false, ltb-false}
use Rattle.std.specs.Prelude.{Ok}
use Rattle.refusal.specs.Numbers.{accepted}
use Rattle.refusal.specs.Rules.{first_of}
use Rattle.refusal.proofs.Rules.{skip, first-none, emitted-none, emitted-all}
use Rattle.laws.specs.Bits.{has_bit}
use Rattle.laws.proofs.Bools.{and_left}
use Rattle.links.specs.Links.{is_link, has_link}
use Rattle.message.specs.Grammar.{line_limit}
use Rattle.message.specs.Reading.{message_of}
use Rattle.message.proofs.Readings.{read_small}
use Rattle.table.specs.declared.Head.{Head}
use Rattle.table.specs.Network.{Table, Network, head_of, network_of}
use Rattle.table.specs.Table.{good_network, good_table}
use Rattle.sjoin.specs.Join.{line_place}
use Rattle.relay.specs.declared.Change.{Change}
use Rattle.relay.specs.Arrival.{Arrival, said}
use Rattle.relay.specs.Relay.{meaning_in, taken_rules, network_by, goes_by, message_by, relayed, process_rules, refused, taken, process_answer, taken_of, taken_by, sent}
use Rattle.relay.specs.Private.Acting.{head_with, done_by, written_by, sent_to}
use Rattle.relay.proofs.Judgements.{Does}
use Rattle.relay.proofs.Taking.{rules-none, relayed-reads}
use Rattle.relay.proofs.Acted.{sends-it, goes_to}

module _ (t : Table) (a : Arrival) (n : ℕ) where
  -- ---- a rule refuses it
  module _ (k : ℕ) (e : first_of (process_rules t a n) ≡ k) (ne : k ≡ accepted → ⊥) where
    -- the answer is that refusal
    pub answer-refused : refused t k (line_place k a.line) ≡ process_answer t a n
    unfolding process_answer
    answer-refused = rw (e, ne_eqb k accepted ne)

    -- and nothing is sent
    pub sent-nothing : sent t a n ≡ []
    unfolding sent
    sent-nothing = emitted-none (process_rules t a n) _ k e ne

  -- ---- no rule does
  module _ (none : first_of (process_rules t a n) ≡ accepted) where
    tests : (good_table t ≡ true) × (line_limit ≤ n) × (is_link a.link && has_bit t.links.set a.link ≡ true) × (first_of (taken_rules (network_of t) a) ≡ accepted)
    unfolding process_rules
    tests =
        let b = first-none _ _ (λ z. omega arith) none in
        let c = first-none _ _ (λ z. omega arith) b.1 in
        let d = first-none _ _ (λ z. omega arith) c.1 in
        (not-false _ b.0, ltb-false n line_limit c.0, not-false _ d.0, d.1)

    -- the table is well formed, the output has room, and none of the line's rules applies
    pub passed : (good_table t ≡ true) × (line_limit ≤ n) × (first_of (taken_rules (network_of t) a) ≡ accepted)
    passed = (tests.0, tests.1, tests.3)

    -- an accepted line came from one of the links, and is no longer than a line can be
    pub accepted-line : (is_link a.link ≡ true) × (length a.line ≤ line_limit)
    accepted-line = (and_left (is_link a.link) (has_bit t.links.set a.link) tests.2, read_small a.line (rules-none (network_of t) a tests.3).0)

    -- any table that holds the same network and has the line's link accepts it too, with room for the longest line
    pub accepted-alike : (u : Table) (m : ℕ) → network_of u ≡ network_of t → has_link u.links.set a.link ≡ true → line_limit ≤ m → first_of (process_rules u a m) ≡ accepted
    unfolding process_rules
    accepted-alike u m e on room =
        skip _ _ (ap not (ap good_network e ∙ tests.0)) ∙ skip _ _ (le-ltb m line_limit room) ∙ skip _ _ (ap not on) ∙ ap (λ (x : Network). first_of (taken_rules x a)) e ∙ tests.3

    -- the answer is that the line is taken
    pub answer-accepted : process_answer t a n ≡ taken t a
    unfolding process_answer
    answer-accepted = rw none

    -- and the line that goes out is sent
    pub sent-line : sent t a n ≡ relayed (network_of t) a
    unfolding sent
    sent-line = emitted-all (process_rules t a n) _ none

    -- ---- the change is made
    module _ (j : Change) (d : Does (meaning_in a) (network_of t) a j) where
      -- the answer with the change made is the one to give
      pub answer-taken : (set len : ℕ) (head : Head) → head ≡ head_with (head_of t) (done_by j.deed (said a) (network_of t)).slots → set ≡ sent_to j.sending t.links a.link
          → len ≡ length (relayed (network_of t) a) → taken_by head (Ok (record { set = set; len = len })) ≡ taken_of (process_answer t a n)
      unfolding process_answer network_by goes_by
      answer-taken set len head f g i =
          let to = g ∙ goes_to j.sending (said a) _ _ d.sends t.links a.link in
          rw (none, f ∙ ap (λ (x : Network). head_with (head_of t) x.slots) d.network, to, i)

      -- so are the ban lists
      pub bans-taken : (done_by j.deed (said a) (network_of t)).bans ≡ (process_answer t a n).table.bans
      unfolding process_answer network_by
      bans-taken = rw none (ap (λ (x : Network). x.bans) d.network)

      -- the line that is written is the one that goes out
      pub written-line : (out : List ℕ) → length out ≡ n → written_by j.sending a.line (message_of a.line) out ≡ relayed (network_of t) a
      unfolding message_by goes_by
      written-line out h =
          let read = (rules-none (network_of t) a passed.2).0 in
          let short = (relayed-reads (network_of t) a passed.2 passed.0).short in
          sends-it a.line read out (omega (arith, h, passed.1)) j.sending (goes_by (network_of t) a) (message_by (network_of t) a) d.sends (omega (arith, short, read_small a.line read))
