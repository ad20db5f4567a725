-- `put_words` meets its contract: a SPACE and the words are added one after the other, or nothing. Assumes nothing.
use mathlib.Core.List.{[], ◌∷◌}
use Rattle.octets.specs.Bytes.{space}
use Rattle.octets.proofs.Room.{added, adds-nothing, adds_then}
use Rattle.console.proofs.Answering.{spaced-none, spaced-some}
use Rattle.console.proofs.answers.put_words.Goals as goal

pub returns-then-not-worded : goal.returns-then-not-worded
returns-then-not-worded c =
    rw (c.if-not-worded.true) (adds-nothing _ _)

pub returns-then-text-eq0 : goal.returns-then-text-eq0
returns-then-text-eq0 c =
    let a = c.args in
    rw (c.if-not-worded.false, spaced-none a.number _ c.words-text.ensures c.if-text-eq0.true) (adds-nothing _ _)

pub returns : goal.returns
returns c =
    let put = c in
    let test = c in
    let a = test.args in
    rw (
      test.if-not-worded.false,
      spaced-some a.number _ test.words-text.ensures test.if-text-eq0.false _ c.part.ensures.bytes,
    )
    (adds_then _ _ _ _ _ _ (space ∷ []) _ (added _ _ _ _ _ put.put-next.ensures.place put.put-next.ensures.bytes) (added _ _ _ _ _ c.put.ensures.place c.put.ensures.bytes))
