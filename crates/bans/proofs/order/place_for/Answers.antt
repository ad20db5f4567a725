-- `place_for` meets its contract. The invariant: the mask is put behind the first i, whatever follows. Assumes nothing.
use mathlib.Core.Path.{◌≡◌, refl, sym, ap, ap₂, ◌∙◌}
use mathlib.Core.List.{List, map}
use Prim.Native.Nat.{ℕ}
use native.Mathlib.Omega.{arith}
use borrow.Author.Rules.{rules}
use Rattle.octets.specs.Order.{compare}
use Rattle.names.specs.Fold.{fold}
use Rattle.bans.specs.Masks.{mask_in, room_of, by_fold, used_rooms}
use Rattle.bans.specs.Private.Placing.{room_in}
use Rattle.bans.proofs.Places.{count_room, length-used, used_step}
use Rattle.bans.proofs.Placing.{mask-room, passed-more, placed_less, placed_same, placed-last}
use Rattle.bans.proofs.order.place_for.Goals as goal

pub loop-at-init : goal.loop-at-init
loop-at-init c =
    (c.mask_count-n.ensures, refl)

pub room_at-requires : goal.room_at-requires
room_at-requires c =
    omega (arith, count_room c.args.s.now)

pub returns-in-Less : goal.returns-in-Less
returns-in-Less c =
    let given : List ℕ =
    c.args.m.now in
    let room : List ℕ =
    room_in c.args.s.now c.loop-at.at in
    let stands : compare (by_fold.key (room_of (given))) (by_fold.key (room)) ≡ c.compare_folds.result =
    sym (c.compare_folds.ensures
    ∙ ap₂ (λ (x y : List ℕ). compare (map fold x) (map fold y)) (sym (mask-room (given) (search rules))) (c.mask_in.ensures.bytes ∙ ap mask_in c.room_at.ensures.bytes)) in
    let o = c in
    let a = o.args in
    let l = o.loop-at in
    placed_less (room_of a.m.now) (used_rooms a.s.now) l.at l.invariant.1 (room_in a.s.now l.at) _ (used_step a.s.now l.at (omega arith)) (omega (arith, length-used a.s.now)) (stands ∙ c.in-Less.is)

pub returns-in-Equal : goal.returns-in-Equal
returns-in-Equal c =
    let given : List ℕ =
    c.args.m.now in
    let room : List ℕ =
    room_in c.args.s.now c.loop-at.at in
    let stands : compare (by_fold.key (room_of (given))) (by_fold.key (room)) ≡ c.compare_folds.result =
    sym (c.compare_folds.ensures
    ∙ ap₂ (λ (x y : List ℕ). compare (map fold x) (map fold y)) (sym (mask-room (given) (search rules))) (c.mask_in.ensures.bytes ∙ ap mask_in c.room_at.ensures.bytes)) in
    let o = c in
    let a = o.args in
    let l = o.loop-at in
    placed_same (room_of a.m.now) (used_rooms a.s.now) l.at l.invariant.1 (room_in a.s.now l.at) _ (used_step a.s.now l.at (omega arith)) (omega (arith, length-used a.s.now)) (stands ∙ c.in-Equal.is)

pub loop-at-preserved : goal.loop-at-preserved
loop-at-preserved c =
    let given : List ℕ =
    c.args.m.now in
    let room : List ℕ =
    room_in c.args.s.now c.loop-at.at in
    let stands : compare (by_fold.key (room_of (given))) (by_fold.key (room)) ≡ c.compare_folds.result =
    sym (c.compare_folds.ensures
    ∙ ap₂ (λ (x y : List ℕ). compare (map fold x) (map fold y)) (sym (mask-room (given) (search rules))) (c.mask_in.ensures.bytes ∙ ap mask_in c.room_at.ensures.bytes)) in
    let o = c in
    let a = o.args in
    let l = o.loop-at in
    (l.invariant.0, passed-more (room_of a.m.now) (used_rooms a.s.now) l.at l.invariant.1 (room_in a.s.now l.at) _ (used_step a.s.now l.at (omega arith)) (stands ∙ c.in-Greater.is))

pub returns : goal.returns
returns c =
    let a = c.args in
    let l = c.loop-at in
    placed-last (room_of a.m.now) (used_rooms a.s.now) l.at l.invariant.1 _ (omega (arith, length-used a.s.now)) (omega (arith, length-used a.s.now, l.invariant.0))
