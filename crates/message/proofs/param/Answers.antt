-- `param` meets its contract: the span that `parts` gives lies in the line and has the parameter's bytes there. Assumes nothing.
use mathlib.Core.Path.{ap, ◌∙◌}
use mathlib.Core.List.{[]}
use lib.ListN.{get_or}
use Rattle.message.specs.Content.{Content}
use Rattle.message.specs.Parts.{content_by}
use Rattle.message.proofs.SpanContents.{message-holds, param-start}
use Rattle.message.proofs.param.Goals as goal

pub returns : goal.returns
returns c =
    let a = c.args in
    let m = c.parts in record { bytes = c.param_in.ensures.bytes ∙ ap (λ (x : Content). get_or x.params a.k []) (ap (content_by a.line.now) m.ensures ∙ message-holds a.line.now); place = rw (← param-start a.line.now m.result m.ensures a.k) c.param_in.ensures.place }
