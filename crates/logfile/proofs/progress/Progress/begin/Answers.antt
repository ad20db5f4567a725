-- `Progress::begin` meets its contract: the table is that of an empty log, and nothing is left. Assumes nothing.
use mathlib.Core.Path.{refl, ap₂}
use Rattle.table.specs.Network.{table_with}
use Rattle.logfile.proofs.Pieces.{begins}
use Rattle.logfile.proofs.progress.Progress.begin.Goals as goal

pub returns : goal.returns
returns c = begins _ _ refl c.new.ensures (ap₂ table_with c.start.ensures.answer c.start.ensures.lists)
