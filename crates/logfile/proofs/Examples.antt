-- A record of which one byte is there is torn, which meets the premise of `mends`, by computation. Assumes nothing.
use mathlib.Core.Path.{refl}
use mathlib.Core.List.{[], ◌∷◌}
use Rattle.refusal.specs.Numbers.{log_cut}
use Rattle.refusal.specs.Faults.{fault, first_fault}
use Rattle.journal.specs.Reading.{checks_of, found}
use Rattle.logfile.specs.Restarts.{Mends}
use Rattle.logfile.proofs.Restarts.{mends}

torn : Mends [] (73 ∷ [])
unfolding found first_fault checks_of
torn = mends [] (73 ∷ []) (fault log_cut 1) refl
