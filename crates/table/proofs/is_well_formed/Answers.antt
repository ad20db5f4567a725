-- `is_well_formed` meets its contract: no table has more slots than there may be, so that its slots and their names decide. Assumes nothing.
use mathlib.Core.Path.{◌≡◌, sym}
use native.Mathlib.Omega.{arith}
use borrow.Author.Rules.{rules}
use lib.ListN.{length}
use Rattle.laws.proofs.Lists.{unmapped}
use Rattle.channel.specs.Limits.{slot_count}
use Rattle.table.specs.Network.{table_with, network_of}
use Rattle.table.proofs.WellFormed.{network-slots}
use Rattle.table.proofs.is_well_formed.Goals as goal

pub returns-then-are_good : goal.returns-then-are_good
returns-then-are_good c =
    let sixteen : length c.args.t.now.slots ≡ slot_count = search (rules, unmapped) in
    rw (network-slots (network_of (table_with c.args.t.now c.args.bans.now)) (omega arith)) (rw (sym c.if-are_good.ensures) c.are_distinct.ensures)

pub returns-else-are_good : goal.returns-else-are_good
returns-else-are_good c =
    let sixteen : length c.args.t.now.slots ≡ slot_count = search (rules, unmapped) in
    rw (network-slots (network_of (table_with c.args.t.now c.args.bans.now)) (omega arith)) (rw (sym c.if-are_good.ensures) c.if-are_good.false)
