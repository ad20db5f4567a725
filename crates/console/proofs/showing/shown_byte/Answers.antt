-- `shown_byte` meets its contract: each return is the test that led there. Assumes nothing.
use native.Mathlib.Omega.{arith}
use borrow.Author.Tests.{le-leb, lt-leb}
use Rattle.octets.specs.Bytes.{space, within}
use Rattle.console.specs.Showing.{shown_byte}
use Rattle.console.proofs.showing.shown_byte.Goals as goal

pub returns-then-b-lt32 : goal.returns-then-b-lt32
unfolding shown_byte within
returns-then-b-lt32 c =
    rw (lt-leb space c.args.b (omega arith))

pub returns-then-b-gt126 : goal.returns-then-b-gt126
unfolding shown_byte within
returns-then-b-gt126 c =
    let b = c.args.b in simp (le-leb space b (omega arith), lt-leb b 126 (omega arith))

pub returns : goal.returns
unfolding shown_byte within
returns c =
    let b = c.args.b in simp (le-leb space b (omega arith), le-leb b 126 (omega arith))
