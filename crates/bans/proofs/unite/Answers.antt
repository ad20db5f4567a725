-- `unite` meets its contract. The invariant: the masks still to come, put into the list so far, come to what all come to. Assumes nothing.
use mathlib.Core.Path.{sym, ap, ◌∙◌}
use mathlib.Core.List.{List, map}
use Prim.Native.Nat.{ℕ}
use Rattle.bans.specs.Masks.{mask_in, masks}
use Rattle.bans.specs.Putting.{added, put_answer, put_all}
use Rattle.bans.specs.Private.Rooms.{rooms_left}
use Rattle.bans.proofs.Additions.{put-next, put-full, add-none, add-some}
use Rattle.bans.proofs.unite.Goals as goal

pub loop-room-init : goal.loop-room-init
unfolding masks
loop-room-init c =
    (tt, tt, ap (λ (l : List (List ℕ)). put_all (map mask_in l) c.args.a) (ap rooms_left c.into_iter-room-iterator.ensures.into_iter_gives ∙ c.used_rooms-room-items.ensures))

pub returns-in_err-list : goal.returns-in_err-list
returns-in_err-list c =
    let l = c.loop-room in
    let e = c.in_err-list.ensures ∙ ap (λ (m : List ℕ). put_answer m l.list) c.mask_in.ensures.bytes in
    let all = sym l.invariant.2 ∙ ap (λ (r : List (List ℕ)). put_all (map mask_in r) l.list) c.in-Some.ensures.steps ∙ put-full _ _ l.list e in
    ap (added c.args.a) c.from_residual.ensures ∙ add-none _ c.args.a l.list all

pub loop-room-preserved : goal.loop-room-preserved
loop-room-preserved c =
    let l = c.loop-room in
    let e = c.in_ok-list.ensures ∙ ap (λ (m : List ℕ). put_answer m l.list) c.mask_in.ensures.bytes in
    (tt, tt, sym (put-next _ _ l.list c.in_ok-list.list e) ∙ ap (λ (r : List (List ℕ)). put_all (map mask_in r) l.list) (sym c.in-Some.ensures.steps) ∙ l.invariant.2)

pub returns : goal.returns
returns c =
    let l = c.loop-room in
    add-some _ _ l.list (sym l.invariant.2 ∙ ap (λ (r : List (List ℕ)). put_all (map mask_in r) l.list) c.in-None.ensures.steps.0)
