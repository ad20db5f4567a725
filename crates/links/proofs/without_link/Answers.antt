-- `without_link` meets its contract: the links left are the set less the one dropped. Assumes nothing.
use mathlib.Core.Path.{ap}
use Rattle.links.specs.Links.{links, without_link}
use Rattle.links.proofs.without_link.Goals as goal

pub returns : goal.returns
unfolding without_link
returns c =
    ap links c.less.ensures
