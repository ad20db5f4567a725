-- `list_at` meets its contract: the part that the offset names. Assumes nothing.
use mathlib.Core.Path.{◌≡◌, ap, ◌∙◌}
use Prim.Native.Nat.{ℕ, ◌+◌, min}
use native.Mathlib.Omega.{arith}
use lib.ListN.{length}
use Rattle.octets.specs.Room.{part}
use Rattle.bans.specs.Limits.{list_size}
use Rattle.bans.specs.Slots.{offset, list_at}
use Rattle.bans.proofs.list_at.Goals as goal

pub overflow_add-at : goal.overflow_add-at
unfolding offset
overflow_add-at c =
    omega arith

pub returns : goal.returns
unfolding list_at
returns c =
    let a = c.args in
    let at = c.offset-at.result in
    let e : min at (min (at + list_size) (length a.bans.now)) ≡ min (offset a.k) (length a.bans.now) = omega (arith, c.offset-at.ensures) in record { bytes = c.part.ensures.bytes ∙ ap (λ (n : ℕ). part a.bans.now n (n + list_size)) c.offset-at.ensures; place = c.part.ensures.place ∙ ap (λ (n : ℕ). (a.bans.ref_ptr.0, n + a.bans.ref_ptr.1)) e }
