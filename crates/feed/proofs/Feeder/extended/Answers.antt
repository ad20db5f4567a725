-- `extended` meets its contract: what is copied behind the bytes that are kept stands there padded. Assumes nothing.
use Rattle.std.proofs.Common.{arith}
use Rattle.feed.proofs.Rooms.{copied-behind}
use Rattle.feed.proofs.Feeder.extended.Goals as goal

pub returns : goal.returns
returns c = rw c.copy_from_slice.ensures.after (copied-behind c.args.self.now c.requires.0 c.args.more.now _ (omega arith) c.requires.1)
