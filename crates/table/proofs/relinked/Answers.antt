-- `relinked` meets its contract: the rules that the link's test answers by decide. Assumes nothing.
use mathlib.Core.Path.{sym, ap}
use Rattle.table.specs.Network.{table_with}
use Rattle.table.specs.Table.{registered_of}
use Rattle.table.proofs.Registering.{links-refused, links-accepted}
use Rattle.table.proofs.relinked.Goals as goal

pub returns-in-Ok : goal.returns-in-Ok
returns-in-Ok c =
    let a = c.args in sym (ap registered_of (links-accepted (table_with a.t a.bans.now) a.link a.links c.in-Ok.ensures))

pub returns-in-Err : goal.returns-in-Err
returns-in-Err c =
    let a = c.args in rw c.number.ensures (sym (ap registered_of (links-refused (table_with a.t a.bans.now) a.link a.links c.in-Err.refusal c.in-Err.ensures)))
