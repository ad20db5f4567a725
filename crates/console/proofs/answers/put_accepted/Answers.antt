-- `put_accepted` meets its contract: where a line goes out, links and line are added without the comma before them. Assumes nothing.
use Rattle.octets.proofs.Room.{added}
use Rattle.console.proofs.Answering.{accepted-none, accepted-some}
use borrow.Author.Rules.{rules}
use Rattle.console.proofs.answers.put_accepted.Goals as goal

pub returns-then-line-eq0 : goal.returns-then-line-eq0
returns-then-line-eq0 c =
    let put = c.put in
    let test = c in
    rw (accepted-none test.args.set test.args.line.now test.if-line-eq0.true) (added _ _ _ _ _ put.ensures.place put.ensures.bytes)

pub returns : goal.returns
returns c =
    let put = c.put-2 in
    let cut = c in
    let listed = c in
    let a = listed.args in
    rw (accepted-some a.set a.line.now _ _ _ (search rules) listed.put_listed-n.ensures cut.part.ensures.bytes) (added _ _ _ _ _ put.ensures.place put.ensures.bytes)
