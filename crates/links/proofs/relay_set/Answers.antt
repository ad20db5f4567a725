-- `relay_set` meets its contract: the relay set is the set less the source. Assumes nothing.
use Rattle.links.specs.Links.{relay_set}
use Rattle.links.proofs.relay_set.Goals as goal

pub returns : goal.returns
unfolding relay_set
returns c =
    c.less.ensures
