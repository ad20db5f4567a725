-- `put_numbered` meets its contract: mark, number, place, words and LF are added one after the other. Assumes nothing.
use mathlib.Core.List.{[], ◌∷◌}
use Rattle.octets.specs.Bytes.{lf, space}
use Rattle.octets.proofs.Room.{added, adds_then}
use Rattle.console.specs.Answers.{numbered_text}
use Rattle.console.proofs.answers.put_numbered.Goals as goal

pub returns : goal.returns
unfolding numbered_text
returns c =
    let ended = c in
    let words = c in
    let placed = c in
    let digits = c in
    let opened = c in
    let a = opened.args in
    adds_then _ _ _ _ _ _ _ (lf ∷ [])
    (adds_then _ _ _ _ _ _ _ _
    (adds_then _ _ _ _ _ _ _ _
    (adds_then _ _ _ _ _ _ (a.mark ∷ space ∷ []) _ (added _ _ _ _ _ opened.put-opened.ensures.place opened.put-opened.ensures.bytes) (added _ _ _ _ _ digits.put_decimal-numbered.ensures.place digits.put_decimal-numbered.ensures.bytes))
    placed.put_place-placed.ensures)
    words.put_words-told.ensures)
    (added _ _ _ _ _ ended.put.ensures.place ended.put.ensures.bytes)
