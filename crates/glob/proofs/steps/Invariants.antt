-- `steps` meets its contract. The invariant: as many steps as are left come from the state to what all of them come to from the start; and the state is
-- sound, so that its places lie in mask and text. Assumes nothing.
use Rattle.std.proofs.Common.{◌≡◌, ◌-◌}
use Rattle.glob.specs.Stepping.{start, steps}
use Rattle.glob.proofs.Sound.{Sound}
use Rattle.glob.proofs.steps.Given as goal

abbrev pub invariant-loop : goal.invariant-loop
invariant-loop l = record {
  sound : Sound l.mask l.text l.s;
  leads : steps l.mask l.text (l.count - l.counter) l.s ≡ steps l.mask l.text l.count start;
}
