-- `ascending` meets its contract. Assumes nothing.
use borrow.Author.Rules.{rules}
use borrow.Author.Tests.{tests}
use Rattle.std.proofs.lemmas.Iterator.Consumers.{YieldsList-from_first}
use Rattle.bans.specs.Masks.{by_fold}
use Rattle.bans.specs.Private.Rooms.{rooms_left}
use Rattle.bans.proofs.Chains.{ascends-sorted}
use Rattle.bans.proofs.order.ascending.Goals as goal

pub returns : goal.returns
returns c =
    ascends-sorted by_fold (λ x. x.now) _ _ (λ x y b q k. search (rules, tests)) (YieldsList-from_first (λ x. x.now) rooms_left _ c.used_rooms.ensures) _ c.is_sorted_by.ensures.ran
