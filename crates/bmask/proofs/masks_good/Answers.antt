-- `masks_good` meets its contract: there is a word, and each is a mask. Assumes nothing.
use Rattle.std.proofs.Common.{rules, tests, ◌∙◌}
use Rattle.std.proofs.lemmas.Iterator.Consumers.{YieldsList-from_first}
use Rattle.std.proofs.lemmas.Iterator.Search.{all_from_yields_List}
use Rattle.bans.specs.Masks.{is_mask}
use Rattle.message.specs.Listed.{words_left}
use Rattle.bmask.specs.Masks.{listed}
use Rattle.bmask.proofs.Listed.{wordless, worded}
use Rattle.bmask.proofs.masks_good.Goals as goal

pub returns-else-is_some : goal.returns-else-is_some
returns-else-is_some c = wordless words_left c.words.result c.next.new.self c.next.result c.next.ensures.steps c.args.list.now c.words.ensures c.is_some.result c.is_some.ensures c.if-is_some.false

pub returns-then-is_some : goal.returns-then-is_some
returns-then-is_some c =
    let e = all_from_yields_List is_mask c.all.new.self _ c.all.result c.all.ensures.ran (YieldsList-from_first (λ x. x.now) words_left {s = c.words-then-is_some.result} (listed c.args.list.now) c.words-then-is_some.ensures) (λ x b q k. search (rules, tests)) in
    e ∙ worded words_left c.words.result c.next.new.self c.next.result c.next.ensures.steps c.args.list.now c.words.ensures c.is_some.result c.is_some.ensures c.if-is_some.true
