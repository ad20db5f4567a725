-- `offset` meets its contract. Assumes nothing.
use mathlib.Core.Path.{ap}
use Prim.Native.Nat.{ℕ, ◌*◌}
use Rattle.bans.specs.Limits.{list_size}
use Rattle.bans.specs.Slots.{offset}
use Rattle.bans.proofs.offset.Goals as goal

pub returns : goal.returns
unfolding offset
returns c =
    ap (λ (n : ℕ). list_size * n) c.min.ensures
