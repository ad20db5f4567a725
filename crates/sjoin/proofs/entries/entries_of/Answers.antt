-- `entries_of` meets its contract, by the laws of the members that are gathered. Assumes nothing.
use Rattle.std.proofs.Common.{ap, ◌∙◌}
use Rattle.message.specs.Listed.{words_left}
use Rattle.channel.proofs.Gathering.{pushed-room}
use Rattle.sjoin.proofs.Listed.{gathered-first, gathered-odd, gathered-room, gathered-next, gathered-all}
use Rattle.sjoin.proofs.entries.entries_of.Goals as goal

pub loop-word-init : goal.loop-word-init
loop-word-init c = gathered-first c.args.list.now _ _ (ap words_left c.into_iter-word-iterator.ensures.into_iter_gives ∙ c.words-word-items.ensures) c.empty-members.ensures

pub returns-in_err-entry_of : goal.returns-in_err-entry_of
returns-in_err-entry_of c =
    let l = c.loop-word in
    rw c.from_residual.ensures (gathered-odd c.args.list.now c.in-Some.word.now (words_left l.word-iterator) (words_left c.next.new.self) l.members c.in-Some.ensures.steps l.invariant c.in_err-entry_of.ensures)

pub loop-word-preserved : goal.loop-word-preserved
loop-word-preserved c =
    let l = c.loop-word in
    rw (c.push.ensures, pushed-room l.members _ (gathered-room c.args.list.now c.in-Some.word.now (words_left l.word-iterator) (words_left c.next.new.self) l.members c.in-Some.ensures.steps l.invariant _ c.in_ok-entry_of.ensures c.requires))
    (gathered-next c.args.list.now c.in-Some.word.now (words_left l.word-iterator) (words_left c.next.new.self) l.members c.in-Some.ensures.steps l.invariant _ c.in_ok-entry_of.ensures)

pub returns : goal.returns
returns c =
    let l = c.loop-word in
    c.then_some.ensures ∙ gathered-all c.args.list.now (words_left l.word-iterator) l.members c.in-None.ensures.steps.0 l.invariant
