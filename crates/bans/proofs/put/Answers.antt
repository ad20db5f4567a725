-- `put` meets its contract: the mask is there, or there is no room, or it is put in its place. Assumes nothing.
use mathlib.Core.Path.{◌≡◌, subst}
use Prim.Native.Nat.{ℕ, ◌<◌}
use native.Mathlib.Omega.{arith}
use lib.ListN.{length}
use borrow.Author.Rules.{rules}
use Rattle.std.specs.Prelude.{Result}
use Rattle.channel.specs.Limits.{ban_limit}
use Rattle.bans.specs.Limits.{list_size}
use Rattle.bans.specs.Masks.{room_of, mask_count, used_rooms}
use Rattle.bans.specs.Private.Placing.{PlacedIn}
use Rattle.bans.proofs.Places.{count_room, length-used}
use Rattle.bans.proofs.Placing.{cut_short}
use Rattle.bans.proofs.Listing.{answered-there, answered-full, answered-put}
use Rattle.bans.proofs.put.Goals as goal

pub place_for-requires : goal.place_for-requires
place_for-requires c = cut_short _ _ c.part-mask.ensures.bytes

pub overflow_cast-same : goal.overflow_cast-same
overflow_cast-same c = omega (arith, c.mask_count-n.ensures, count_room c.args.b.room)

pub returns-in-Ok : goal.returns-in-Ok
returns-in-Ok c =
    let whole : length c.args.b.room ≡ list_size = search rules in
    let placed = subst (λ (p : Result ℕ ℕ). PlacedIn (room_of c.part-mask.result.now) (used_rooms c.args.b.room) p) c.in-Ok.is c.place_for.ensures in
    answered-there c.args.m.now c.args.b c.part-mask.result.now whole c.part-mask.ensures.bytes _ _ placed c.mask_count-n.ensures

pub returns-in-Err : goal.returns-in-Err
returns-in-Err c =
    let whole : length c.args.b.room ≡ list_size = search rules in
    let placed = subst (λ (p : Result ℕ ℕ). PlacedIn (room_of c.part-mask.result.now) (used_rooms c.args.b.room) p) c.in-Err.is c.place_for.ensures in
    answered-full c.args.m.now c.args.b c.part-mask.result.now whole c.part-mask.ensures.bytes _ placed (omega (arith, c.mask_count-n.ensures))

pub inserted-requires : goal.inserted-requires
inserted-requires c =
    let whole : length c.args.b.room ≡ list_size = search rules in
    let placed = subst (λ (p : Result ℕ ℕ). PlacedIn (room_of c.part-mask.result.now) (used_rooms c.args.b.room) p) c.in-Err.is c.place_for.ensures in
    let h : mask_count c.args.b.room < ban_limit = omega (arith, count_room c.args.b.room) in
    (omega (arith, placed.inside, length-used c.args.b.room, h), cut_short _ _ c.part-mask.ensures.bytes, h)

pub returns-in-Err-2 : goal.returns-in-Err-2
returns-in-Err-2 c =
    let whole : length c.args.b.room ≡ list_size = search rules in
    let placed = subst (λ (p : Result ℕ ℕ). PlacedIn (room_of c.part-mask.result.now) (used_rooms c.args.b.room) p) c.in-Err.is c.place_for.ensures in
    answered-put c.args.m.now c.args.b c.part-mask.result.now whole c.part-mask.ensures.bytes _ placed _ (omega (arith, count_room c.args.b.room)) c.inserted.ensures
