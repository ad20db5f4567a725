-- `are_members` meets its contract: its tests are the definition's. Assumes nothing.
use mathlib.Core.Path.{sym, ◌∙◌}
use borrow.Author.Rules.{rules}
use borrow.Author.Tests.{tests}
use Rattle.std.proofs.lemmas.Iterator.{YieldsList-from_slice}
use Rattle.std.proofs.lemmas.Iterator.Search.{all_from_yields_List}
use Rattle.std.proofs.lemmas.List.Sorted.{answers_always}
use Rattle.laws.proofs.Chains.{all_listed}
use Rattle.channel.specs.WellFormed.{good_member}
use Rattle.channel.proofs.Places.{precedes, neighbours}
use Rattle.channel.proofs.well.are_members.Goals as goal

pub returns-then-all : goal.returns-then-all
returns-then-all c =
    let l = c.args.list.now in
    let good = all_from_yields_List good_member _ _ c.all.result c.all.ensures.ran (YieldsList-from_slice l cc) (λ x b q k. search (rules, tests)) ∙ all_listed good_member l in
    rw (sym good ∙ c.if-all.true) (neighbours l c.is_sorted_by.result (c.is_sorted_by.ensures.cases precedes (answers_always _ _ _ (λ f a r g h. search rules))))

pub returns-else-all : goal.returns-else-all
returns-else-all c =
    let l = c.args.list.now in
    let good = all_from_yields_List good_member _ _ c.all.result c.all.ensures.ran (YieldsList-from_slice l cc) (λ x b q k. search (rules, tests)) ∙ all_listed good_member l in
    rw (sym good ∙ c.if-all.false) c.if-all.false
