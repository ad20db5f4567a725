-- `put_cut` meets its contract: words, place and LF are added one after the other. Assumes nothing.
use mathlib.Core.List.{[], ◌∷◌}
use Rattle.octets.specs.Bytes.{lf}
use Rattle.octets.proofs.Room.{added, adds_then}
use Rattle.wording.specs.Wording.{bytes_of}
use Rattle.console.specs.Daylog.{cut_line}
use Rattle.console.proofs.daylog.put_cut.Goals as goal

pub returns : goal.returns
unfolding cut_line bytes_of
returns c =
    let ended = c in
    let digits = c in
    let opened = c in
    adds_then _ _ _ _ _ _ _ (lf ∷ [])
    (adds_then _ _ _ _ _ _ (bytes_of "note: day log: a torn record is cut off at ") _ (added _ _ _ _ _ opened.put-opened.ensures.place opened.put-opened.ensures.bytes) (added _ _ _ _ _ digits.put_decimal-placed.ensures.place digits.put_decimal-placed.ensures.bytes))
    (added _ _ _ _ _ ended.put.ensures.place ended.put.ensures.bytes)
