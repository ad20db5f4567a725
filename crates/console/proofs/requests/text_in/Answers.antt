-- `text_in` meets its contract: what stands from the place on, and of that all before the end of the line. Assumes nothing.
use mathlib.Core.Path.{ap, ◌∙◌}
use native.Mathlib.Omega.{arith}
use lib.ListN.{length}
use Rattle.octets.proofs.Room.{part-back}
use Rattle.console.specs.Requests.{ended, text_in}
use Rattle.console.proofs.requests.text_in.Goals as goal

pub returns : goal.returns
unfolding text_in
returns c =
    let a = c.args in
    c.ended.ensures ∙ ap ended (c.part.ensures.bytes ∙ part-back a.input.now a.start (length a.input.now) (omega arith))
