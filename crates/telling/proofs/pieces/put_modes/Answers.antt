-- `put_modes` meets its contract: each turn puts the letter at its place, or nothing. Assumes nothing.
use Rattle.std.proofs.Common.{sym, ◌∙◌, ◌∷◌, [], arith}
use Rattle.octets.specs.Bytes.{space}
use Rattle.octets.proofs.Pages.{added_step, added_end, added_then}
use Rattle.channel.specs.Modes.{letters, plus}
use Rattle.telling.specs.Telling.{letters_from}
use Rattle.telling.proofs.Lines.{letters-told, letters-untold, letters-past}
use Rattle.telling.proofs.pieces.put_modes.Goals.{then-has_mode, else-has_mode}
use Rattle.telling.proofs.pieces.put_modes.Goals as goal

pub loop-place-preserved : goal.loop-place-preserved
loop-place-preserved c =
    let l = c.loop-place in
    let m = c.args.modes in
    elim c.if-has_mode.branch [
      | then-has_mode w ↦ added_step _ _ _ _ _ _ _ (letters-told letters l.place m (omega arith) (sym c.has_mode.ensures ∙ w.if-has_mode.true)) (w.line-is ∙ w.put-then-has_mode.ensures) l.invariant
      | else-has_mode w ↦ rw (w.line-is, ← letters-untold letters l.place m (omega arith) (sym c.has_mode.ensures ∙ w.if-has_mode.false)) l.invariant
    ]

pub returns : goal.returns
returns c =
    let all = letters_from 0 letters c.args.modes in
    added_end _ _ _ _ (letters-past letters c.loop-place.place _ (omega arith)) c.loop-place.invariant ∙ rw c.put.ensures (added_then _ (space ∷ plus ∷ []) all)
