-- No refusal has the number that says that nothing is refused. Assumes nothing.
use Rattle.std.proofs.Common.{◌≡◌, refl, Bool, false, eqb}
use Rattle.std.proofs.lemmas.Bool.{eqb-false}
use Rattle.refusal.specs.declared.Refusal.{Refusal}
use Rattle.refusal.specs.declared.Refusal.TheVariants.{NotWellFormed}
use Rattle.refusal.specs.Numbers.{accepted}
use Rattle.refusal.specs.Refusals.{number_of}

pub not-accepted : (e : Refusal) → eqb (number_of e) accepted ≡ false
not-accepted NotWellFormed = refl
not-accepted _ = refl

pub number-given : (e : Refusal) → number_of e ≡ accepted → ⊥
number-given e = eqb-false (number_of e) accepted (not-accepted e)
