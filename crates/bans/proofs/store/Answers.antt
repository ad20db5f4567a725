-- `store` meets its contract. Assumes nothing.
use mathlib.Core.Path.{ap, ◌∙◌}
use Prim.Native.Nat.{ℕ}
use Rattle.octets.specs.Room.{put_at}
use Rattle.bans.specs.Slots.{stored}
use Rattle.bans.proofs.store.Goals as goal

pub returns : goal.returns
unfolding stored
returns c =
    let a = c.args in c.put.ensures.bytes ∙ ap (λ (n : ℕ). put_at a.bans.now n a.list.room) c.offset.ensures
