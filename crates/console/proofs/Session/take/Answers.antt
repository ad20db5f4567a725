-- `Session::take` meets its contract: a refused line adds its answer, an accepted one its record too, and what goes out is part of a line's room. Assumes nothing.
use mathlib.Core.Path.{ap, ◌∙◌}
use native.Mathlib.Omega.{arith}
use lib.ListN.{length}
use Prim.Native.Nat.{ℕ}
use mathlib.Core.List.{List, append-nil}
use Rattle.message.specs.Grammar.{line_limit}
use Rattle.console.specs.declared.groups.Group.{Group}
use Rattle.console.specs.Buffers.{answer_room}
use Rattle.console.specs.Groups.{answers_in}
use Rattle.octets.proofs.Room.{part-front, added-at-front}
use Rattle.console.proofs.Answering.{front-few, accepted-few}
use Rattle.console.proofs.Grouping.{answer-fits, place_inside, takes-refused, is-accepted, sent-part, takes-accepted}
use Rattle.console.proofs.Session.take.Goals as goal

pub put_refused-n-requires : goal.put_refused-n-requires
put_refused-n-requires c =
    place_inside c.args.self.now c.args.link c.args.line.now _ _ c.process-taken.ensures.answer c.process-taken.ensures.lists

pub put_answer-requires : goal.put_answer-requires
put_answer-requires c =
    omega (arith, answer-fits c.args.self.now.group c.requires, front-few {m = answer_room} _ _ _ c.part.ensures.bytes (omega (arith, c.put_refused-n.ensures.adds.keeps)))

pub returns-then-taken-ne-ACCEPTED : goal.returns-then-taken-ne-ACCEPTED
returns-then-taken-ne-ACCEPTED c =
    let a = c.args in
    let text = c.part.ensures.bytes ∙ part-front _ _ ∙ (added-at-front _ _ _ _ c.put_refused-n.ensures.adds (omega (arith, c.put_refused-n.ensures.few))).begins in
    takes-refused a.self.now a.link a.line.now _ _ c.process-taken.ensures.answer c.process-taken.ensures.lists c.if-taken-ne-ACCEPTED.true _ text _ c.put_answer.ensures

pub put_record-requires-clause-accepted : goal.put_record-requires-clause-accepted
put_record-requires-clause-accepted c =
    is-accepted c.args.self.now c.args.link c.args.line.now _ _ c.process-taken.ensures.answer c.process-taken.ensures.lists c.if-taken-ne-ACCEPTED.false

pub put_accepted-n-requires : goal.put_accepted-n-requires
put_accepted-n-requires c = front-few _ _ _ c.part-2.ensures.bytes (omega arith)

pub put_answer-requires-2 : goal.put_answer-requires-2
put_answer-requires-2 c =
    omega (
      arith,
      answer-fits c.args.self.now.group c.requires,
      front-few {m = answer_room} _ _ _ c.part-3.ensures.bytes (omega (arith, c.put_accepted-n.ensures.keeps)),
      ap (λ (g : Group). length (answers_in g)) c.put_record.ensures,
      ap (λ (l : List ℕ). length l) (append-nil (answers_in c.args.self.now.group)),
    )

pub returns : goal.returns
returns c =
    let a = c.args in
    let small = front-few {m = line_limit} _ _ _ c.part-2.ensures.bytes (omega arith) in
    let text = c.part-3.ensures.bytes ∙ part-front _ _ ∙ (added-at-front _ _ _ _ c.put_accepted-n.ensures (omega (arith, accepted-few c.process-taken.result.set c.part-2.result.now small))).begins in
    let sent = sent-part a.self.now a.link a.line.now _ _ c.process-taken.ensures.answer c.process-taken.ensures.lists c.if-taken-ne-ACCEPTED.false _ _ _ c.process-taken.ensures.output c.part-2.ensures.bytes in
    takes-accepted a.self.now a.link a.line.now _ _ c.process-taken.ensures.answer c.process-taken.ensures.lists c.if-taken-ne-ACCEPTED.false _ sent _ text _ c.put_record.ensures _ c.put_answer-2.ensures
