-- `put_record` meets its contract: head and line, put one behind the other, are the record. Assumes nothing.
use mathlib.Core.Path.{◌≡◌}
use native.Mathlib.Omega.{arith}
use borrow.Author.Rules.{rules}
use Rattle.octets.specs.Room.{put_at}
use Rattle.journal.specs.Journal.{head_of}
use Rattle.journal.proofs.Records.{logs}
use Rattle.journal.proofs.put_record.Goals as goal

pub returns-clause-log : goal.returns-clause-log
unfolding head_of
returns-clause-log c =
    let a = c.args in
    let head : c.put.new.out ≡ put_at a.log.now 0 (head_of a.link a.line.now) = search rules in
    (logs a.link a.line.now a.log.now (omega (arith, c.if-link-ge-COUNT.false)) (omega (arith, c.if-line-gt-LINE_LIMIT.false)) (omega (arith, c.if-log-size.false)) _ _ head c.put-2.ensures.bytes).1
