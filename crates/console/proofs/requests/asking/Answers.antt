-- `asking` meets its contract: the tests are the definition's, of the bytes behind the word. Assumes nothing.
use Rattle.console.proofs.Asking.{behind-whole, question-none, question-asks}
use Rattle.console.proofs.requests.asking.Goals as goal

pub returns-then-n-behind : goal.returns-then-n-behind
returns-then-n-behind c = question-none c.args.input.now _ _ (behind-whole c.args.input.now) c.place_of-n.ensures c.then-n-behind.either

pub returns : goal.returns
returns c = question-asks c.args.input.now _ _ (behind-whole c.args.input.now) c.place_of-n.ensures c.if-n-behind.false c.if-n-gt-NAME_ROOM.false
