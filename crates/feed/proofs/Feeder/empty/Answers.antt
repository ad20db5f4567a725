-- `Feeder::empty` meets its contract: nothing padded is all padding. Assumes nothing.
use Rattle.std.proofs.Common.{ℕ}
use Rattle.laws.proofs.Lists.{padded-none}
use Rattle.message.specs.Grammar.{line_limit}
use Rattle.feed.specs.Feeder.{state_of}
use Rattle.feed.proofs.Feeder.empty.Goals as goal

pub returns : goal.returns
unfolding state_of
returns c =
    rw (padded-none {A = ℕ} 0 line_limit)
