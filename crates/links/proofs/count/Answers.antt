-- `count` meets its contract: the ones of a number are as many as the links in it. Assumes nothing.
use Rattle.links.proofs.Counted.{ones-links}
use Rattle.links.proofs.count.Goals as goal

pub returns : goal.returns
returns c =
    ones-links c.args.set c.ranges.set.fits
