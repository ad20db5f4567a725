-- `Side::at` meets its contract: what stands at a time of a record's members is what its side gives. Assumes nothing.
use mathlib.Core.Path.{refl}
use Rattle.merging.proofs.Answers.{given-standing}
use Rattle.merging.proofs.sides.Side.at.Goals as goal

pub returns : goal.returns
returns c =
    given-standing c.args.time c.args.r.now _ _ c.members.ensures.list refl
