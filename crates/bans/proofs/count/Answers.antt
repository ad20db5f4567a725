-- `count` meets its contract: a list has as many masks as are counted. Assumes nothing.
use mathlib.Core.Path.{sym, ◌∙◌}
use Rattle.bans.proofs.Places.{length-masks}
use Rattle.bans.proofs.count.Goals as goal

pub returns : goal.returns
returns c =
    c.mask_count.ensures ∙ sym (length-masks c.args.s.now)
