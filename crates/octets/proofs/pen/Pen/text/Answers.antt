-- `text` meets its contract: where the place is in the room, the text stands before it. Assumes nothing.
use Rattle.std.proofs.Common.{rules}
use Rattle.octets.proofs.Pages.{page_text, page_none}
use Rattle.octets.proofs.pen.Pen.text.Goals as goal

pub returns : goal.returns
returns c = let l = c.get.ensures in let v = c.self.view_is in search (rules, page_text, page_none)
