-- `place_of` meets its contract. The invariant: b stands first as far behind the blocks passed over as it does in the rest. Assumes nothing.
use mathlib.Core.Path.{sym, ◌∙◌}
use native.Mathlib.Omega.{arith}
use Rattle.octets.proofs.Search.{before-passed, before-within}
use Rattle.octets.proofs.place_of.Goals as goal

pub loop-block-preserved : goal.loop-block-preserved
loop-block-preserved c =
    let read = c.in-Some.ensures.cases in
    let passed = before-passed c.args.b 32 c.loop-block.rest.now c.in-Some.block.now c.in-Some.more.now read.0 read.1 read.2 (sym c.is_clear.ensures ∙ c.if-not-is_clear.false) in
    (omega arith, omega arith)

pub overflow_add-result : goal.overflow_add-result
overflow_add-result c =
    omega (arith, before-within c.args.b c.args.s.now)
