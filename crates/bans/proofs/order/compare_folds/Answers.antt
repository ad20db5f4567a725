-- `compare_folds` meets its contract. The invariant: the folds of what is left stand to each other as the whole folds do. Assumes nothing.
use mathlib.Core.Path.{◌∙◌}
use Rattle.bans.proofs.Comparing.{behind-block}
use Rattle.bans.proofs.order.compare_folds.Goals as goal

pub loop-x-preserved : goal.loop-x-preserved
loop-x-preserved c =
    let p = c.in-Some-Some in
    let first = p.ensures.cases in
    let second = p.ensures'.cases in
    behind-block 16 _ _ p.x.now p.y.now p.rest.now p.others.now first.0 first.1 second.0 second.1 (c.differing.ensures c.if-differing-ne0.false) ∙ c.loop-x.invariant
