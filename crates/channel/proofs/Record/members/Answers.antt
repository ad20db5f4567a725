-- `Record::members` meets its contract: no more is in use than there is room for. Assumes nothing.
use native.Mathlib.Omega.{arith}
use Rattle.laws.proofs.Lists.{take_within}
use Rattle.channel.specs.Record.{decode}
use Rattle.channel.proofs.Record.members.Goals as goal

pub returns-clause-list : goal.returns-clause-list
unfolding decode
returns-clause-list c =
    let r = c.args.self.now in take_within r.members r.count c.min.result (omega arith)
