-- `put_set` meets its contract: a set without links is told by '-', any other by its links. Assumes nothing.
use mathlib.Core.Path.{sym, ◌∙◌}
use Rattle.octets.proofs.Room.{added}
use Rattle.console.proofs.Answering.{set-none, set-some}
use Rattle.console.proofs.answers.put_set.Goals as goal

pub returns-then-count-eq0 : goal.returns-then-count-eq0
returns-then-count-eq0 c =
    let put = c.put in
    let test = c in
    rw (set-none test.args.set (sym test.count.ensures ∙ test.if-count-eq0.true)) (added _ _ _ _ _ put.ensures.place put.ensures.bytes)

pub returns : goal.returns
returns c =
    let test = c in
    rw (← set-some test.args.set (λ e. test.if-count-eq0.false (test.count.ensures ∙ e))) c.put_links.ensures
