-- `Progress::close` meets its contract: what is left is replayed as the log's end. Assumes nothing.
use native.Mathlib.Omega.{arith}
use Rattle.logfile.proofs.Pieces.{near, log-ends}
use Rattle.logfile.proofs.progress.Progress.close.Goals as goal

pub placed-requires : goal.placed-requires
placed-requires c =
    let n = near _ _ _ _ c.replay-r.ensures.answer (omega (arith, c.as_slice.ensures.fits)) in
    (c.requires, n.1, n.2)

pub returns : goal.returns
returns c = rw c.placed.ensures (log-ends c.args.self.now c.args.bans.now _ _ _ c.as_slice.ensures.value c.replay-r.ensures.answer c.replay-r.ensures.lists)
