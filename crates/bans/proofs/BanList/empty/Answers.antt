-- `BanList::empty` meets its contract: room that is zero, and the sizes are the same numbers. Assumes nothing.
use mathlib.Core.Path.{refl}
use Rattle.bans.specs.Slots.{empty_list}
use Rattle.bans.proofs.BanList.empty.Goals as goal

pub returns : goal.returns
unfolding empty_list
returns c =
    record { value = refl; sizes = (refl, refl, refl) }
