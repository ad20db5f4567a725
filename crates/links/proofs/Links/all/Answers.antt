-- `Links::all` meets its contract: the set of every link is 32 ones. Assumes nothing.
use mathlib.Core.Path.{refl}
use Rattle.links.specs.Links.{set_below, all_links}
use Rattle.links.proofs.Links.all.Goals as goal

pub returns : goal.returns
unfolding all_links set_below
returns c =
    refl
