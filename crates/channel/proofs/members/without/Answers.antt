-- `without` meets its contract: the roster of those that stay tells whether anyone is left. Assumes nothing.
use mathlib.Core.Path.{sym, ◌∙◌}
use native.Mathlib.Omega.{arith}
use Rattle.channel.proofs.Others.{without_all, without-some}
use Rattle.channel.proofs.members.without.Goals as goal

pub returns-then-left-eq0 : goal.returns-then-left-eq0
returns-then-left-eq0 c =
    c.empty.ensures.value ∙ sym (without_all _ _ _ c.others-left.ensures c.if-left-eq0.true)

pub returns : goal.returns
returns c =
    sym (without-some _ _ _ c.others-left.ensures (omega arith))
