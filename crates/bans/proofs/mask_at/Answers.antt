-- `mask_at` meets its contract: the mask in the room at that place, or none past the last. Assumes nothing.
use mathlib.Core.Path.{◌≡◌, ap, ◌∙◌}
use Prim.Native.Nat.{ℕ, ◌+◌, ◌*◌, ◌≤◌, ◌<◌, min}
use native.Mathlib.Omega.{arith}
use lib.ListN.{length}
use Rattle.bans.specs.Limits.{room_size}
use Rattle.bans.specs.Masks.{mask_in, mask_count, mask_start}
use Rattle.bans.proofs.Places.{count_room, masks-at, masks-past, starts-in, starts-past}
use Rattle.bans.proofs.mask_at.Goals as goal

pub returns-else-i-mask_count : goal.returns-else-i-mask_count
returns-else-i-mask_count c =
    let a = c.args in
    let past : mask_count a.s.now ≤ a.i = omega arith in
    let e : a.s.ref_ptr.1 ≡ mask_start a.s.now a.i + a.s.ref_ptr.1 = omega (arith, starts-past a.s.now a.i past) in
    record { bytes = masks-past a.s.now a.i past; place = ap (λ (n : ℕ). (a.s.ref_ptr.0, n)) e }

pub room_at-requires : goal.room_at-requires
room_at-requires c =
    omega (arith, count_room c.args.s.now)

pub returns-then-i-mask_count : goal.returns-then-i-mask_count
returns-then-i-mask_count c =
    let a = c.args in
    let r = c.room_at in
    let few : a.i < mask_count a.s.now = omega arith in
    let e : min 1 (length r.result.now) + (min (1 + room_size * a.i) (length a.s.now) + a.s.ref_ptr.1) ≡ mask_start a.s.now a.i + a.s.ref_ptr.1 = omega (arith, starts-in a.s.now a.i few r.result.now r.ensures.bytes) in record { bytes = c.mask_in.ensures.bytes ∙ ap mask_in r.ensures.bytes ∙ masks-at a.s.now a.i few; place = c.mask_in.ensures.place ∙ ap (λ (p : ℕ × ℕ). (p.0, min 1 (length r.result.now) + p.1)) r.ensures.place ∙ ap (λ (n : ℕ). (a.s.ref_ptr.0, n)) e }
