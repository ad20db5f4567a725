-- `all_in` meets its contract. The invariant: all bytes are of the class exactly if there are no bits so far and those from here on are. Assumes nothing.
use mathlib.Core.Path.{◌≡◌, refl, sym, ◌∙◌}
use mathlib.Core.Bool.{Bool, true, false, not}
use lib.Dec.{eqb}
use mir.Val.{bool_byte}
use Rattle.octets.specs.Bytes.{in_class}
use Rattle.laws.proofs.Bitwise.{or_step, or-past}
use Rattle.octets.proofs.all_in.Goals as goal

none : (t : Bool) → eqb (bool_byte (not t)) 0 ≡ t
none true = refl
none false = refl

pub loop-b-preserved : goal.loop-b-preserved
loop-b-preserved c =
    let l = c.loop-b in
    l.invariant ∙ or_step (in_class c.args.class) c.args.s.now l.b-index l.odd c.from-odd.result 0 c.loop-b-test.true (rw (c.from-odd.ensures, ← c.has.ensures) (none c.has.result))

pub returns : goal.returns
returns c =
    let l = c.loop-b in sym (l.invariant ∙ or-past (in_class c.args.class) c.args.s.now l.b-index l.odd c.loop-b-test.false)
