-- `put` meets its contract: `octets::put` adds to the page. Assumes nothing.
use Rattle.octets.proofs.Pages.{page_puts}
use Rattle.octets.proofs.pen.Pen.put.Goals as goal

pub returns : goal.returns
returns c = let p = c.put-self-inside.ensures in page_puts _ _ _ _ _ _ p.bytes p.place c.self.view_is
