-- `put_day` meets its contract: the lines of the slots have room, and that of a refusal behind them. Assumes nothing.
use native.Mathlib.Omega.{arith}
use Rattle.table.specs.Network.{network_of, table_with}
use Rattle.day.proofs.Printed.{day-at-front}
use Rattle.day.proofs.printing.put_day.Goals as goal

pub returns : goal.returns
returns c =
    let refused = c in
    let listed = c in
    let a = c in
    let e = listed.write_listing-listed.ensures in
    day-at-front (network_of (table_with a.args.t a.args.bans.now)) e.limit.0 a.args.out.now _ a.requires _ e.answer e.output a.args.number a.args.place
    (omega arith) (omega arith) _ _ refused.put_refusal.ensures
