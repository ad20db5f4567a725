-- Our merging is as `Merges` asks: by its definition it answers a refusal where a rule applies and the merged record where none does, and each rule's number is
-- from the list. Assumes nothing.
use mathlib.Core.Path.{◌≡◌}
use borrow.Author.Tests.{ne_eqb}
use Rattle.refusal.specs.Numbers.{accepted}
use Rattle.refusal.proofs.Rules.{first-listed}
use Rattle.bans.specs.declared.WholeRecord.{WholeRecord}
use Rattle.merging.specs.Merging.{merged_whole, merge_rules, merge_answer}
use Rattle.merging.proofs.Rules.{rules-ascend}
use Rattle.convergence.specs.Demands.{ruled_merge, Listed, Merges}
use Rattle.convergence.specs.Ours.{our_merging}

module _ (a b : WholeRecord) where
  accepts : ruled_merge a b ≡ accepted → our_merging a b ≡ record { number = accepted; result = merged_whole a b }
  unfolding merge_answer
  accepts e = rw e

  module _ (bad : ruled_merge a b ≡ accepted → ⊥) where
    refuses : our_merging a b ≡ record { number = ruled_merge a b; result = a }
    unfolding merge_answer
    refuses = rw (ne_eqb (ruled_merge a b) accepted bad)

    listed : Listed (our_merging a b).number
    listed = rw refuses (first-listed (merge_rules a b) (rules-ascend a b) bad)

-- Our merging is as `Merges` asks.
pub merges : Merges our_merging
merges = record { refuses = refuses; listed = listed; accepts = accepts }
