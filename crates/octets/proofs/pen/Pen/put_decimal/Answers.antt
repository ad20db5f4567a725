-- `put_decimal` meets its contract: `decimals::put_decimal` adds to the page. Assumes nothing.
use Rattle.octets.proofs.Pages.{page_puts}
use Rattle.octets.proofs.pen.Pen.put_decimal.Goals as goal

pub returns : goal.returns
returns c = let p = c.put_decimal-self-inside.ensures in page_puts _ _ _ _ _ _ p.bytes p.place c.self.view_is
