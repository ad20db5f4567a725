-- `next_word` meets its contract: past the SPACEs at the place stands the word, or nothing. Assumes nothing.
use Prim.Native.Nat.{◌≤◌}
use native.Mathlib.Omega.{arith}
use lib.ListN.{length}
use Rattle.message.proofs.Runs.{start-in}
use Rattle.message.proofs.Splits.{next-found, next_past}
use Rattle.message.proofs.next_word.Goals as goal

pub returns-then-n-at : goal.returns-then-n-at
returns-then-n-at c =
    next_past c.args.s.now c.args.at c.if-n-at.true

pub word_end-end-requires : goal.word_end-end-requires
word_end-end-requires c =
    let a = c.args in
    let within : a.at ≤ length a.s.now = omega arith in
    start-in a.s.now a.at c.spaces_end-start.result within c.spaces_end-start.ensures

pub returns : goal.returns
returns c =
    let a = c.args in
    let within : a.at ≤ length a.s.now = omega arith in
    next-found a.s.now a.at c.spaces_end-start.result c.word_end-end.result within c.spaces_end-start.ensures c.word_end-end.ensures
