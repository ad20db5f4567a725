-- `from_command` meets its contract: the rest is read into a message that has no parameter yet. Assumes nothing.
use Rattle.std.proofs.Common.{arith}
use Rattle.message.proofs.Runs.{stop-in}
use Rattle.message.proofs.Gathered.{found-command}
use Rattle.message.proofs.scan.from_command.Goals as goal

pub rest-requires : goal.rest-requires
rest-requires c = (stop-in c.args.body.now c.args.at c.word_end-stop.result c.requires.at c.word_end-stop.ensures, omega (arith, c.requires.none))

pub returns : goal.returns
returns c =
    let a = c.args in
    found-command a.body.now a.at c.word_end-stop.result a.m c.rest.result c.word_end-stop.ensures c.requires.none c.rest.ensures
