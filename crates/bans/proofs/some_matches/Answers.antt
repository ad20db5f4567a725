-- `some_matches` meets its contract. Assumes nothing.
use mathlib.Core.Path.{◌∙◌}
use borrow.Author.Rules.{rules}
use borrow.Author.Tests.{tests}
use Rattle.std.proofs.lemmas.Iterator.Search.{any_from_yields_List}
use Rattle.std.proofs.lemmas.Iterator.Consumers.{YieldsList-from_first}
use Rattle.glob.specs.Mask.{match_answer}
use Rattle.bans.specs.Masks.{mask_in, masks}
use Rattle.bans.specs.Private.Rooms.{rooms_left}
use Rattle.bans.proofs.Chains.{any-matches}
use Rattle.bans.proofs.some_matches.Goals as goal

pub returns : goal.returns
unfolding masks
returns c =
    any_from_yields_List (λ r. (match_answer (mask_in r) c.args.text.now).yes) c.any.new.self _ _ c.any.ensures.ran (YieldsList-from_first (λ x. x.now) rooms_left {s = c.used_rooms.result} _ c.used_rooms.ensures) (λ x b q k. search (rules, tests))
    ∙ any-matches c.args.text.now _
