-- `line_from` meets its contract: what stands from the place on, and of that the first bytes. Assumes nothing.
use mathlib.Core.Path.{ap, ◌∙◌}
use native.Mathlib.Omega.{arith}
use lib.ListN.{length, take}
use Rattle.octets.proofs.Room.{part-front, part-back}
use Rattle.console.specs.Requests.{line_from}
use Rattle.console.proofs.requests.line_from.Goals as goal

pub returns : goal.returns
unfolding line_from
returns c =
    let a = c.args in
    c.part-2.ensures.bytes ∙ part-front _ 513 ∙ ap (take 513) (c.part.ensures.bytes ∙ part-back a.input.now a.start (length a.input.now) (omega arith))
