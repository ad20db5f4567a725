-- `zero_from` meets its contract. The invariant: all bytes are zero exactly if there are no bits so far and those from here on are. Assumes nothing.
use mathlib.Core.Path.{refl, sym, ap, ◌∙◌}
use native.Mathlib.Omega.{arith}
use lib.ListN.{length}
use Rattle.octets.specs.Bytes.{is_zero}
use Rattle.laws.specs.Lists.{all}
use Rattle.laws.proofs.Bitwise.{or_step, or-past}
use Rattle.octets.proofs.Room.{part-back}
use Rattle.octets.proofs.zero_from.Goals as goal

pub loop-b-preserved : goal.loop-b-preserved
loop-b-preserved c =
    let l = c.loop-b in l.invariant ∙ or_step is_zero c.part-b-items.result.now l.b-index l.bits _ 0 c.loop-b-test.true refl

pub returns : goal.returns
returns c =
    let l = c.loop-b in
    let s = c.args.s.now in
    sym (l.invariant ∙ or-past is_zero c.part-b-items.result.now l.b-index l.bits c.loop-b-test.false)
    ∙ ap (all is_zero) (c.part-b-items.ensures.bytes ∙ part-back s c.args.from (length s) (omega arith))
