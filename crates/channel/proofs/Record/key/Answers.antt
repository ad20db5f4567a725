-- `Record::key` meets its contract: no more is in use than there is room for. Assumes nothing.
use native.Mathlib.Omega.{arith}
use Rattle.laws.proofs.Lists.{take_within}
use Rattle.channel.specs.Record.{decode}
use Rattle.channel.proofs.Record.key.Goals as goal

pub returns : goal.returns
unfolding decode
returns c =
    let r = c.args.self.now in take_within r.key r.key_len c.min.result (omega arith)
