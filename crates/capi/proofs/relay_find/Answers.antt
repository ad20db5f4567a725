-- `relay_find` meets its contract: the slot that was found is told without its enum. Assumes nothing.
use mathlib.Core.Path.{ap, ◌∙◌}
use Rattle.table.specs.Slots.{Found}
use Rattle.capi.specs.Finding.{held_at}
use Rattle.capi.proofs.relay_find.Goals as goal

pub returns : goal.returns
returns c =
    c.into.ensures ∙ c.place_of.ensures ∙ ap (λ (f : Found). held_at f.slot) c.find.ensures.found
