-- `put_masks` meets its contract: each turn puts the mask at its place. Assumes nothing.
use Rattle.std.proofs.Common.{cond, ltb, List, ℕ, [], ◌∷◌, ◌++◌, ◌+◌, sym, ap, ◌∙◌, arith}
use Rattle.octets.specs.Bytes.{space}
use Rattle.octets.proofs.Pages.{added_step, added_end}
use Rattle.bans.specs.Masks.{masks}
use Rattle.listing.proofs.Lines.{masks_from, masks-step, masks-past}
use Rattle.listing.proofs.put_masks.Goals as goal

pub loop-i-preserved : goal.loop-i-preserved
loop-i-preserved c =
    let l = masks c.args.list.now in
    let i = c.loop-i.i in
    let step = masks-step l i (omega arith) ∙ ap (λ (m : List ℕ). cond (ltb 0 i) (space ∷ []) [] ++ m ++ masks_from (i + 1) l) (sym c.mask_at.ensures.bytes) in
    added_step _ _ _ _ _ _ _ step c.put_mask.ensures c.loop-i.invariant

pub returns : goal.returns
returns c = added_end _ _ _ _ (masks-past _ c.loop-i.i (omega arith)) c.loop-i.invariant
