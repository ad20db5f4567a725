-- `put_placed` meets its contract: number, word and place are added one after the other. Assumes nothing.
use Rattle.octets.proofs.Room.{added, adds_then}
use Rattle.wording.specs.Wording.{bytes_of}
use Rattle.console.specs.Daylog.{placed_text}
use Rattle.console.proofs.daylog.put_placed.Goals as goal

pub returns : goal.returns
unfolding placed_text bytes_of
returns c =
    let placed = c in
    let joined = c in
    let digits = c in
    adds_then _ _ _ _ _ _ _ _
    (adds_then _ _ _ _ _ _ _ (bytes_of " at ") (added _ _ _ _ _ digits.put_decimal-numbered.ensures.place digits.put_decimal-numbered.ensures.bytes) (added _ _ _ _ _ joined.put-joined.ensures.place joined.put-joined.ensures.bytes))
    (added _ _ _ _ _ placed.put_decimal.ensures.place placed.put_decimal.ensures.bytes)
