-- `put_refusal` meets its contract: nothing is added, or number, SPACE, place and LF one after the other. Assumes nothing.
use mathlib.Core.List.{[], ◌∷◌}
use borrow.Author.Tests.{eq-eqb, ne_eqb}
use Rattle.refusal.specs.Numbers.{accepted}
use Rattle.octets.specs.Bytes.{lf, space}
use Rattle.octets.proofs.Room.{adds-nothing, added, adds_then}
use Rattle.day.specs.Printing.{refusal_line}
use Rattle.day.proofs.printing.put_refusal.Goals as goal

pub returns-then-number-eq-ACCEPTED : goal.returns-then-number-eq-ACCEPTED
unfolding refusal_line
returns-then-number-eq-ACCEPTED c =
    rw (eq-eqb c.args.number accepted c.if-number-eq-ACCEPTED.true) (adds-nothing _ _)

pub returns : goal.returns
unfolding refusal_line
returns c =
    let ended = c in
    let placed = c in
    let spaced = c in
    let numbered = c in
    let first = added _ _ _ _ _ numbered.put_decimal-numbered.ensures.place numbered.put_decimal-numbered.ensures.bytes in
    let second = added _ _ _ _ _ spaced.put-spaced.ensures.place spaced.put-spaced.ensures.bytes in
    let third = added _ _ _ _ _ placed.put_decimal-placed.ensures.place placed.put_decimal-placed.ensures.bytes in
    let last = added _ _ _ _ _ ended.put.ensures.place ended.put.ensures.bytes in
    rw (ne_eqb numbered.args.number accepted numbered.if-number-eq-ACCEPTED.false)
    (adds_then _ _ _ _ _ _ _ (lf ∷ []) (adds_then _ _ _ _ _ _ _ _ first (adds_then _ _ _ _ _ _ (space ∷ []) _ second third)) last)
