-- `good_rooms` meets its contract. Assumes nothing.
use mathlib.Core.Path.{◌∙◌}
use borrow.Author.Rules.{rules}
use borrow.Author.Tests.{tests}
use Rattle.std.proofs.lemmas.Iterator.Search.{all_from_yields_List}
use Rattle.std.proofs.lemmas.Iterator.Consumers.{YieldsList-from_first}
use Rattle.bans.specs.WellFormed.{good_room}
use Rattle.bans.specs.Private.Rooms.{rooms_left}
use Rattle.bans.proofs.Chains.{all-list}
use Rattle.bans.proofs.rooms.good_rooms.Goals as goal

pub returns : goal.returns
returns c =
    all_from_yields_List good_room c.all.new.self _ _ c.all.ensures.ran (YieldsList-from_first (λ x. x.now) rooms_left {s = c.used_rooms.result} _ c.used_rooms.ensures) (λ x b q k. search (rules, tests))
    ∙ all-list good_room _
