-- `Feeder::dropping` meets its contract: it is the empty state but for the mark. Assumes nothing.
use Rattle.std.proofs.Common.{ap, true}
use Rattle.feed.specs.declared.Feeder.{Feeder}
use Rattle.feed.specs.Feeder.{state_of}
use Rattle.feed.proofs.Feeder.dropping.Goals as goal

pub returns : goal.returns
unfolding state_of
returns c =
    ap (λ (f : Feeder). record f { dropping = true }) c.empty.ensures
