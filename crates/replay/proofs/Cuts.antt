-- Of all refusals, that of a record that is cut alone has its number. Assumes nothing.
use mathlib.Core.Path.{◌≡◌, refl}
use Rattle.refusal.specs.declared.Refusal.{Refusal}
use Rattle.refusal.specs.declared.Refusal.TheVariants.{LogCut}
use Rattle.refusal.specs.Numbers.{log_cut}
use Rattle.refusal.specs.Refusals.{number_of}
use native.Mathlib.Omega.{arith}

pub cut-named : (e : Refusal) → number_of e ≡ log_cut → e ≡ LogCut
cut-named LogCut z = refl
cut-named _ z = absurd (omega (arith, z))

pub ruleset cuts = (cut-named)
