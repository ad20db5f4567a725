-- `Group::put_record` meets its contract: the record is written whole, and has room. Assumes nothing.
use mathlib.Core.Path.{◌≡◌, ◌∙◌}
use native.Mathlib.Omega.{arith}
use Rattle.std.proofs.lemmas.Grind.{common_steps}
use Rattle.octets.proofs.Room.{part-front}
use Rattle.journal.specs.Journal.{record_of}
use Rattle.console.proofs.Answering.{record-at-front}
use Rattle.console.proofs.Grouping.{record-fits, record-few}
use Rattle.console.proofs.groups.Group.put_record.Goals as goal

pub returns : goal.returns
returns c =
    let a = c.args in
    let written = record-at-front a.link a.line.now _ c.requires.accepted.0 c.requires.accepted.1 (omega arith) _ _ c.write_record-logged.ensures.answer c.write_record-logged.ensures.log in
    let whole : c.part.result.now ≡ record_of a.link a.line.now = c.part.ensures.bytes ∙ part-front _ _ ∙ written.begins in
    let few = record-few a.link a.line.now c.requires.accepted.1 in
    let fits = record-fits a.self.now c.requires.room in
    grind (arith, common_steps)
