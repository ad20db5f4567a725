-- `new` meets its contract: a page begins with nothing. Assumes nothing.
use Rattle.octets.proofs.Pages.{page-begins}
use Rattle.octets.proofs.pen.Pen.new.Goals as goal

pub returns : goal.returns
returns c = page-begins _
