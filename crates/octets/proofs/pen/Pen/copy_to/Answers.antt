-- `copy_to` meets its contract: where the text is there and has room, it is put at the front. Assumes nothing.
use Rattle.octets.proofs.Pages.{page_copied}
use Rattle.octets.proofs.pen.Pen.copy_to.Goals as goal

pub returns-clause-output : goal.returns-clause-output
returns-clause-output c = page_copied _ c.in_ok-text.text.now _ _ c.in_ok-text.ensures c.if-out-text.false c.put.ensures.bytes
