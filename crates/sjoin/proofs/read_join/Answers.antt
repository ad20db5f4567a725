-- `read_join` meets its contract: the reader refuses, or what the line's spans say is what it says. Assumes nothing.
use Rattle.std.proofs.Common.{ap, ◌∙◌}
use Rattle.message.specs.declared.Message.{Message}
use Rattle.message.proofs.Readings.{parsed-read, parsed-refused}
use Rattle.sjoin.specs.Join.{told_in}
use Rattle.sjoin.proofs.Answers.{told-unread, told_same}
use Rattle.sjoin.proofs.read_join.Goals as goal

pub returns-in_default : goal.returns-in_default
returns-in_default c =
    let s = c.args.line.now in
    let is = parsed-refused s c.unwrap_err.result (rw c.unwrap_err.ensures at c.parse-answer.ensures.parsed) in
    rw c.into.ensures (told-unread s _ is.0 is.1)

pub returns : goal.returns
returns c =
    let s = c.args.line.now in
    let is = parsed-read s _ c.in-Ok.ensures.parsed in
    c.read_message.ensures ∙ ap (λ (m : Message). told_in s m) is.1 ∙ told_same s is.0
