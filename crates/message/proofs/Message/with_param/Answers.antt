-- `with_param` meets its contract. Assumes nothing.
use mathlib.Core.Path.{refl}
use Rattle.message.specs.Private.Scan.{with_param}
use Rattle.message.proofs.Message.with_param.Goals as goal

pub returns : goal.returns
unfolding with_param
returns c =
    refl
