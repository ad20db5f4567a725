-- `command` meets its contract: the span that `parts` gives lies in the line and has the command's bytes there. Assumes nothing.
use mathlib.Core.Path.{ap, ◌∙◌}
use Rattle.message.specs.Content.{Content}
use Rattle.message.specs.Parts.{content_by}
use Rattle.message.proofs.SpanContents.{message-holds, command-start}
use Rattle.message.proofs.command.Goals as goal

pub returns : goal.returns
returns c =
    let a = c.args in
    let m = c.parts in record { bytes = c.command_in.ensures.bytes ∙ ap (λ (x : Content). x.command) (ap (content_by a.line.now) m.ensures ∙ message-holds a.line.now); place = rw (← command-start a.line.now m.result m.ensures) c.command_in.ensures.place }
