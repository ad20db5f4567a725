-- `blank` meets its contract, field by field. Assumes nothing.
use mathlib.Core.Path.{refl}
use Rattle.message.specs.Parts.{blank}
use Rattle.message.proofs.Message.blank.Goals as goal

pub returns : goal.returns
unfolding blank
returns c =
    refl
