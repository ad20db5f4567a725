-- `command_in` meets its contract: the span's own part is handed back. Assumes nothing.
use Rattle.message.specs.Parts.{content_by}
use Rattle.message.proofs.spans.command_in.Goals as goal

pub returns : goal.returns
unfolding content_by
returns c = record { bytes = c.part.ensures.bytes; place = c.part.ensures.place }
