-- The invariant of `put_modes`: what is put, with the letters from the place on, is all of them.
use Rattle.std.proofs.Common.{◌≡◌, drop}
use Rattle.octets.specs.Pages.{added}
use Rattle.channel.specs.Modes.{letters}
use Rattle.telling.specs.Telling.{letters_from}
use Rattle.telling.proofs.pieces.put_modes.Given as goal

abbrev pub invariant-loop-place : goal.invariant-loop-place
invariant-loop-place l =
    added l.line (letters_from l.place (drop l.place letters) l.modes) ≡ added l.initial.line (letters_from 0 letters l.modes)
