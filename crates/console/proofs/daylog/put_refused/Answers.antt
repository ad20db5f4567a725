-- `put_refused` meets its contract: words, number and place, the number's words and LF are added one after the other. Assumes nothing.
use mathlib.Core.List.{[], ◌∷◌}
use Rattle.octets.specs.Bytes.{lf}
use Rattle.octets.proofs.Room.{added, adds_then}
use Rattle.wording.specs.Wording.{bytes_of}
use Rattle.console.specs.Daylog.{refused_line}
use Rattle.console.proofs.daylog.put_refused.Goals as goal

pub returns : goal.returns
unfolding refused_line bytes_of
returns c =
    let ended = c in
    let told = c in
    let parted = c in
    let placed = c in
    let opened = c in
    adds_then _ _ _ _ _ _ _ (lf ∷ [])
    (adds_then _ _ _ _ _ _ _ _
    (adds_then _ _ _ _ _ _ _ (bytes_of ":")
    (adds_then _ _ _ _ _ _ (bytes_of "relay: day log: refused by ") _ (added _ _ _ _ _ opened.put-opened.ensures.place opened.put-opened.ensures.bytes) placed.put_placed-placed.ensures)
    (added _ _ _ _ _ parted.put-parted.ensures.place parted.put-parted.ensures.bytes))
    told.put_words-told.ensures)
    (added _ _ _ _ _ ended.put.ensures.place ended.put.ensures.bytes)
