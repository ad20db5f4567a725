-- `name_in` meets its contract: it is the part that the definition names. Assumes nothing.
use Rattle.console.specs.Requests.{name_in}
use Rattle.console.proofs.requests.name_in.Goals as goal

pub returns : goal.returns
unfolding name_in
returns c =
    c.part.ensures.bytes
