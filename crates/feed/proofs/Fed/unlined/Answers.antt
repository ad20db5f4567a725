-- `Fed::unlined` meets its contract: nothing padded is all padding. Assumes nothing.
use Rattle.std.proofs.Common.{ℕ}
use Rattle.laws.proofs.Lists.{padded-none}
use Rattle.message.specs.Grammar.{line_limit}
use Rattle.feed.proofs.Fed.unlined.Goals as goal

pub returns : goal.returns
returns c =
    rw (padded-none {A = ℕ} 0 line_limit, c.number.ensures)
