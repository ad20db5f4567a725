-- `Progress::go_on` meets its contract: what is left and the piece are replayed together, and what isn't used of them is left, which is less than the longest record.
-- Assumes nothing.
use mathlib.Core.Path.{refl, ◌∙◌}
use native.Mathlib.Omega.{arith}
use Rattle.std.proofs.Common.{rules}
use Rattle.std.proofs.lemmas.Grind.{common_steps}
use Rattle.logfile.proofs.Stopping.{some-number, no-number}
use Rattle.logfile.proofs.Pieces.{near, left-few, piece-ends, piece-left}
use Rattle.logfile.proofs.progress.Progress.go_on.Goals as goal

pub placed-requires : goal.placed-requires
placed-requires c =
    let n = near _ _ _ _ c.replay-r.ensures.answer (omega (arith, c.as_slice-bytes.ensures.fits)) in
    (c.requires.0, n.1, n.2)

pub returns-then-is_err : goal.returns-then-is_err
returns-then-is_err c =
    rw c.placed.ensures (piece-ends c.args.self.now c.args.bans.now _ _ _ _ (c.as_slice-bytes.ensures.value ∙ c.joined-joined.ensures) c.replay-r.ensures.answer c.replay-r.ensures.lists (some-number c.replay-r.result.stopped _ c.is_err.ensures.value c.if-is_err.true))

pub overflow_add-self : goal.overflow_add-self
overflow_add-self c =
    let n = near _ _ _ _ c.replay-r.ensures.answer (omega (arith, c.as_slice-bytes.ensures.fits)) in
    omega (arith, c.requires.0, n.1)

pub slice_bounds-left-count : goal.slice_bounds-left-count
slice_bounds-left-count c = (near _ _ _ _ c.replay-r.ensures.answer (omega (arith, c.as_slice-bytes.ensures.fits))).0

pub slice_bounds-left-start : goal.slice_bounds-left-start
slice_bounds-left-start c =
    let n = near _ _ _ _ c.replay-r.ensures.answer (omega (arith, c.as_slice-bytes.ensures.fits)) in
    search rules

pub returns : goal.returns
returns c =
    let few = left-few _ _ _ c.replay-r.ensures.answer (no-number c.replay-r.result.stopped _ c.is_err.ensures.value c.if-is_err.false) in
    piece-left c.args.self.now c.args.bans.now _ _ _ _ (c.as_slice-bytes.ensures.value ∙ c.joined-joined.ensures) c.replay-r.ensures.answer c.replay-r.ensures.lists (no-number c.replay-r.result.stopped _ c.is_err.ensures.value c.if-is_err.false)
    (omega (arith, c.as_slice-bytes.ensures.fits)) _ refl refl (grind (arith, common_steps))
