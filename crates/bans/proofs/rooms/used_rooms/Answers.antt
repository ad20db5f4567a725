-- `used_rooms` meets its contract. Assumes nothing.
use mathlib.Core.Path.{sym, ap₂, ◌∙◌}
use mathlib.Core.List.{List}
use Prim.Native.Nat.{ℕ}
use lib.ListN.{length}
use native.Mathlib.Omega.{arith}
use Rattle.octets.proofs.Room.{part-back}
use Rattle.bans.specs.Masks.{chunks}
use Rattle.bans.proofs.Places.{used-chunks}
use Rattle.bans.proofs.rooms.used_rooms.Goals as goal

pub returns : goal.returns
returns c =
    ap₂ (λ (n : ℕ) (t : List ℕ). chunks n t) c.mask_count.ensures (c.part.ensures.bytes ∙ part-back c.args.s.now 1 (length c.args.s.now) (omega arith)) ∙ sym (used-chunks c.args.s.now)
