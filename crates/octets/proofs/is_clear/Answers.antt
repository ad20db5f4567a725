-- `is_clear` meets its contract. The invariant: b isn't among the bytes exactly if it wasn't found so far and isn't among those from here on. Assumes nothing.
use mathlib.Core.Path.{◌≡◌, refl, sym, ◌∙◌}
use mathlib.Core.Bool.{Bool, true, false, not}
use lib.ListN.{get_or}
use lib.Dec.{eqb}
use mir.Val.{bool_byte}
use Rattle.octets.specs.Search.{differs}
use Rattle.laws.proofs.Bitwise.{or_step, or-past}
use Rattle.octets.proofs.is_clear.Goals as goal

other : (t : Bool) → eqb (bool_byte t) 0 ≡ not t
other true = refl
other false = refl

pub loop-x-preserved : goal.loop-x-preserved
loop-x-preserved c =
    let l = c.loop-x in
    let s = c.args.s.now in
    l.invariant ∙ or_step (differs c.args.b) s l.x-index l.found c.from-found.result 0 c.loop-x-test.true (rw c.from-found.ensures (other (eqb (get_or s l.x-index 0) c.args.b)))

pub returns : goal.returns
returns c =
    let l = c.loop-x in sym (l.invariant ∙ or-past (differs c.args.b) c.args.s.now l.x-index l.found c.loop-x-test.false)
