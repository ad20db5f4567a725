-- `restore` meets its contract: without a log the table is empty, and one that was read leaves its own. Assumes nothing.
use Rattle.console.specs.declared.stopping.Stop.{Stop}
use Rattle.console.proofs.Restoring.{starts-new, starts-read, was-ok}
use Rattle.console.proofs.daylog.restore.Goals as goal

pub returns-in_default : goal.returns-in_default
returns-in_default c = starts-new _ _ c.empty.ensures.answer c.empty.ensures.lists

pub returns : goal.returns
returns c =
    let read = was-ok Stop c.replay_file.result c.in_ok-r.r _ c.in_ok-r.ensures.cases c.in_ok-r.ensures.variant in
    starts-read _ _ (rw read at c.replay_file.ensures.some) c.in_ok-mend.ensures _ c.unlinked.ensures
