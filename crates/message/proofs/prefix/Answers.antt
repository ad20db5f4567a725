-- `prefix` meets its contract: the span that `parts` gives lies in the line and has the prefix's bytes there. Assumes nothing.
use mathlib.Core.Path.{ap, ◌∙◌}
use mathlib.Core.List.{[]}
use mathlib.Core.Option.{get_or}
use Rattle.message.specs.Content.{Content}
use Rattle.message.specs.Parts.{content_by}
use Rattle.message.proofs.SpanContents.{message-holds, prefix-start}
use Rattle.message.proofs.prefix.Goals as goal

pub returns : goal.returns
returns c =
    let a = c.args in
    let m = c.parts in record { bytes = c.prefix_in.ensures.bytes ∙ ap (λ (x : Content). get_or x.prefix []) (ap (content_by a.line.now) m.ensures ∙ message-holds a.line.now); place = rw (← prefix-start a.line.now m.result m.ensures) c.prefix_in.ensures.place }
