-- `clear` meets its contract: what is stored is the empty list. Assumes nothing.
use mathlib.Core.Path.{ap, ◌∙◌}
use Rattle.bans.specs.Slots.{stored}
use Rattle.bans.proofs.clear.Goals as goal

pub returns : goal.returns
returns c =
    let a = c.args in c.store.ensures ∙ ap (stored a.bans.now a.k) c.empty.ensures.value
