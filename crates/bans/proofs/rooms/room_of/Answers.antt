-- `room_of` meets its contract. Assumes nothing.
use mathlib.Core.Path.{◌∙◌}
use borrow.Author.Rules.{rules}
use Rattle.bans.proofs.Placing.{room-made}
use Rattle.bans.proofs.rooms.room_of.Goals as goal

pub returns : goal.returns
returns c =
    c.put.ensures.bytes ∙ room-made c.args.m.now (search rules)
