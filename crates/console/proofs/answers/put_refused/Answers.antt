-- `put_refused` meets its contract: number and place are added, and behind them the line where there is a place and words are asked for. Assumes nothing.
use native.Mathlib.Omega.{arith}
use Rattle.octets.proofs.Room.{adds_then}
use Rattle.console.proofs.Answering.{refused-plain, refused-wordless, refused-pointed, refused-few}
use Rattle.console.proofs.answers.put_refused.Goals as goal

pub returns-then-place-eq0 : goal.returns-then-place-eq0
returns-then-place-eq0 c =
    let numbered = c in
    let start = c in
    let a = start.args in record { adds = rw (refused-plain a.number a.place a.line.now a.worded c.if-place-eq0.true) numbered.put_numbered-told.ensures; few = refused-few a.number a.place a.line.now a.worded (omega arith) start.requires }

pub returns-then-not-worded : goal.returns-then-not-worded
returns-then-not-worded c =
    let test = c in
    let numbered = c in
    let start = c in
    let a = start.args in record { adds = rw (refused-wordless a.number a.place a.line.now a.worded test.if-place-eq0.false (c.if-not-worded.true)) numbered.put_numbered-told.ensures; few = refused-few a.number a.place a.line.now a.worded (omega arith) start.requires }

pub put_pointed-requires : goal.put_pointed-requires
put_pointed-requires c =
    let test = c in
    let there = test.requires test.if-place-eq0.false in
    omega arith

pub returns : goal.returns
returns c =
    let pointed = c in
    let words = c in
    let test = c in
    let numbered = c in
    let start = c in
    let a = start.args in record { adds = rw (refused-pointed a.number a.place a.line.now a.worded test.if-place-eq0.false (words.if-not-worded.false)) (adds_then _ _ _ _ _ _ _ _ numbered.put_numbered-told.ensures pointed.put_pointed.ensures); few = refused-few a.number a.place a.line.now a.worded (omega arith) start.requires }
