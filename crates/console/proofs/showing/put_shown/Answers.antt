-- `put_shown` meets its contract. The invariant: what was put, with the bytes that are left from here on, is all of them as they are shown. The measure: the bytes left.
-- Assumes nothing.
use Rattle.octets.proofs.Room.{added, begun, begun-step, begun-end}
use Rattle.console.proofs.Pointing.{shown-step, shown-past}
use Rattle.console.proofs.showing.put_shown.Goals as goal

pub loop-i-init : goal.loop-i-init
loop-i-init c =
    begun _ _ _

pub loop-i-preserved : goal.loop-i-preserved
loop-i-preserved c =
    let loop = c in
    let one = c in
    let put = c.put-next in
    begun-step _ _ _ _ _ _ _ _ _ _ (shown-step c.args.bytes.now loop.loop-i.i _ c.loop-i-test.true one.shown_byte.ensures) (added _ _ _ _ _ put.ensures.place put.ensures.bytes) loop.loop-i.invariant

pub returns : goal.returns
returns c =
    begun-end _ _ _ _ _ _ (shown-past _ c.loop-i.i c.loop-i-test.false) c.loop-i.invariant
