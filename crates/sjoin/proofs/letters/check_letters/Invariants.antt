-- `check_letters` meets its contract. The invariant: the first fault of the letters from i on, behind those seen, is the first of all. Assumes nothing.
use mathlib.Core.Path.{◌≡◌}
use Rattle.refusal.specs.Faults.{first_fault}
use Rattle.sjoin.specs.Faults.{own_checks}
use Rattle.sjoin.proofs.Modes.{left}
use Rattle.sjoin.proofs.letters.check_letters.Given as goal

abbrev pub invariant-loop-i : goal.invariant-loop-i
invariant-loop-i l =
    left l.letters l.i l.seen ≡ first_fault (own_checks l.modes)
